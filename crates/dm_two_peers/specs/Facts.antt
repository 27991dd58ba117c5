-- What holds of each link between two happenings, whatever the messages say and whoever wins.
use Rattle.std.specs.Prelude.{◌≡◌, ℕ, ◌≤◌, Bool, true, false, not, ◌&&◌, ◌||◌, IsTrue, List, [], ◌∷◌, Some, slice_get}
use Rattle.std.specs.Prelude.{length}
use Rattle.dm_two_peers.specs.Machine.{Node, is_shaped, Tie, Unheld, Connecting, Connected}
use Rattle.dm_two_peers.specs.Machine.{ConnectedOpen, AcceptedTie, tie_of, is_tie_held}
use Rattle.dm_two_peers.specs.Links.{Side, A, opens, LinkPhase, LinkPending, LinkUp}
use Rattle.dm_two_peers.specs.Links.{LinkCancelled, End, Fresh, Open, Shut, Mark}
use Rattle.dm_two_peers.specs.Links.{NoMark, Coming, Delivered, Link, View, view_of}
use Rattle.dm_two_peers.specs.Peers.{Peers}
use Rattle.dm_two_peers.specs.Worlds.{World}

-- a link from one side: what it is to both nodes, its ends, whether nothing is under way in a direction, and the marks
pub record Standing : Type 0 where
  pub own_tie : Tie
  pub other_tie : Tie
  pub phase : LinkPhase
  pub own : End
  pub other : End
  pub in_empty : Bool
  pub out_empty : Bool
  pub in_mark : Mark
  pub out_mark : Mark

abbrev pub turned_over : Bool → Standing → Standing
turned_over true s = s
turned_over false s =
    record {
      own_tie = s.other_tie;
      other_tie = s.own_tie;
      phase = s.phase;
      own = s.other;
      other = s.own;
      in_empty = s.out_empty;
      out_empty = s.in_empty;
      in_mark = s.out_mark;
      out_mark = s.in_mark;
    }

abbrev pub is_empty : {M : Type 0} → List M → Bool
is_empty [] = true
is_empty (m ∷ ms) = false

abbrev pub is_pending : LinkPhase → Bool
is_pending LinkPending = true
is_pending _ = false

abbrev pub is_up : LinkPhase → Bool
is_up LinkUp = true
is_up _ = false

abbrev pub is_fresh : End → Bool
is_fresh Fresh = true
is_fresh _ = false

abbrev pub is_open_end : End → Bool
is_open_end Open = true
is_open_end _ = false

abbrev pub is_shut : End → Bool
is_shut Shut = true
is_shut _ = false

abbrev pub is_none : Mark → Bool
is_none NoMark = true
is_none _ = false

abbrev pub is_coming : Mark → Bool
is_coming Coming = true
is_coming _ = false

abbrev pub is_delivered : Mark → Bool
is_delivered Delivered = true
is_delivered _ = false

-- before the Ack and after a cancel nothing is under way, and no end stands
abbrev pub is_blank : Standing → Bool
is_blank s = s.in_empty && s.out_empty && is_none s.in_mark && is_none s.out_mark && is_shut s.own && is_shut
    s.other

-- the opener's end is open just where the opener holds the link, as its initiator, and it is never fresh
abbrev pub opener_fits : End → Tie → Bool
opener_fits Open Connected = true
opener_fits Open ConnectedOpen = true
opener_fits Shut Unheld = true
opener_fits _ _ = false

-- the other side's end is open just where that side holds the link, as one that it accepted
abbrev pub other_fits : End → Tie → Bool
other_fits Open AcceptedTie = true
other_fits Fresh Unheld = true
other_fits Shut Unheld = true
other_fits _ _ = false

-- where an end is shut, the direction from it has its disconnect; where a disconnect was delivered to an end, that end
-- is shut and nothing more comes to it
abbrev pub end_fits : End → Bool → Mark → Mark → Bool
end_fits Shut in_empty in_mark out_mark = not (is_none out_mark) && (not (is_delivered in_mark) || in_empty)
end_fits _ in_empty in_mark out_mark = not (is_delivered in_mark)

-- where the other end is fresh, nothing came from it, something is under way to it, and the opener isn't open
abbrev pub fresh_fits : End → Tie → Bool → Bool → Mark → Bool
fresh_fits Fresh ConnectedOpen in_empty out_empty out_mark = false
fresh_fits Fresh _ in_empty out_empty out_mark = in_empty && not (out_empty && is_none out_mark)
fresh_fits _ _ in_empty out_empty out_mark = true

-- a link as its opener sees it
abbrev pub is_sound_standing : Standing → Bool
is_sound_standing s =
    elim s.phase [
      | LinkPending ↦ elim s.own_tie [ Connecting ↦ not (is_tie_held s.other_tie) && is_blank s | _ ↦ false ]
      | LinkCancelled ↦ not (is_tie_held s.own_tie) && not (is_tie_held s.other_tie) && is_blank s
      | LinkUp ↦
          opener_fits s.own s.own_tie && other_fits s.other s.other_tie && end_fits s.own s.in_empty s.in_mark
          s.out_mark
          && end_fits s.other s.out_empty s.out_mark s.in_mark && fresh_fits s.other s.own_tie s.in_empty s.out_empty
          s.out_mark
    ]

abbrev pub standing_of : {M : Type 0} → Tie → Tie → View M → Standing
standing_of own other v =
    record {
      own_tie = own;
      other_tie = other;
      phase = v.phase;
      own = v.own;
      other = v.other;
      in_empty = is_empty v.incoming.messages;
      out_empty = is_empty v.outgoing.messages;
      in_mark = v.incoming.mark;
      out_mark = v.outgoing.mark;
    }

-- a view is sound, of the opener or of the other side
abbrev pub IsSoundView : {M : Type 0} → Bool → Tie → Tie → View M → Type 0
IsSoundView mine own other v = IsTrue (is_sound_standing (turned_over mine (standing_of own other v)))

abbrev pub IsSoundLink : {M : Type 0} → Side → Node → Node → ℕ → Link M → Type 0
IsSoundLink s own other c l = IsSoundView (opens s l.opener) (tie_of own c) (tie_of other c)
    (view_of (opens s l.opener) l)

-- two nodes and their links, from one side: the nodes have their shape, hold links alone, and each link is sound
pub record AreSound {M : Type 0} (s : Side) (own other : Node) (links : List (Link M)) : Type 0 where
  pub own_shaped : IsTrue (is_shaped own)
  pub other_shaped : IsTrue (is_shaped other)
  pub each : (c : ℕ) (l : Link M) → slice_get links c ≡ Some l → IsSoundLink s own other c l
  pub own_later : (c : ℕ) → length links ≤ c → tie_of own c ≡ Unheld
  pub other_later : (c : ℕ) → length links ≤ c → tie_of other c ≡ Unheld

abbrev pub IsSoundWorld : {P M : Type 0} → Peers P M → World P M → Type 0
IsSoundWorld m w = AreSound A (m.node_of w.a) (m.node_of w.b) w.links
