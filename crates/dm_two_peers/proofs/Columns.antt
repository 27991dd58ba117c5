-- What a step does to a link by columns: each part of a view after it, and the sum of the actions.
use Rattle.std.proofs.Common.{◌≡◌, ℕ, Bool, true, false, ◌==◌, if◌then◌else◌, List, [], ◌∷◌, map, refl}
use Rattle.std.specs.Bool.{⊤}
use Rattle.dm_two_peers.specs.Machine.{LinkConcern, Elsewhere, StartsLink, MakesLink, FailsLink, EndsLink, HeardOnLink}
use Rattle.dm_two_peers.specs.Links.{LinkPhase, LinkUp, End, Shut, Mark, NoMark, Direction, empty_direction, View}
use Rattle.dm_two_peers.specs.Peers.{Action, Send, Close, Connect, deed_in, closes_at}
use Rattle.dm_two_peers.specs.Peers as peers
use Rattle.dm_two_peers.specs.Steps.{queued, entered, with_sent, with_close, settled_view}

-- a view of these parts, and with nothing else in it
abbrev seen : {M : Type 0} → LinkPhase → End → End → Direction M → Direction M → View M
seen p own other incoming outgoing =
    record { phase = p; own = own; other = other; incoming = incoming; outgoing = outgoing }

abbrev bare : Mark → Direction ⊤
bare mark = record { messages = []; taken = 0; mark = mark }

-- each part of a view after an event
abbrev pub phase_at : LinkConcern → LinkPhase → LinkPhase
phase_at k p = (entered k (seen p Shut Shut (bare NoMark) (bare NoMark))).phase

abbrev pub own_at : LinkConcern → End → End
own_at k own = (entered k (seen LinkUp own Shut (bare NoMark) (bare NoMark))).own

abbrev pub other_at : LinkConcern → End → End
other_at k other = (entered k (seen LinkUp Shut other (bare NoMark) (bare NoMark))).other

abbrev pub messages_at : {M : Type 0} → LinkConcern → List M → List M
messages_at k ms =
    (entered k
    (seen LinkUp Shut Shut (record { messages = ms; taken = 0; mark = NoMark }) empty_direction)).incoming.messages

abbrev pub taken_at : LinkConcern → ℕ → ℕ
taken_at k n =
    (entered k (seen LinkUp Shut Shut (record { messages = []; taken = n; mark = NoMark }) (bare NoMark))).incoming.taken

abbrev pub incoming_mark_at : LinkConcern → Mark → Mark
incoming_mark_at k mark = (entered k (seen LinkUp Shut Shut (bare mark) (bare NoMark))).incoming.mark

abbrev pub outgoing_mark_at : LinkConcern → End → Mark → Mark
outgoing_mark_at k own mark = (entered k (seen LinkUp own Shut (bare NoMark) (bare mark))).outgoing.mark

abbrev pub entered_columns : {M : Type 0} → LinkConcern → View M → View M
entered_columns k v =
    record {
      phase = phase_at k v.phase;
      own = own_at k v.own;
      other = other_at k v.other;
      incoming = record {
        messages = messages_at k v.incoming.messages;
        taken = taken_at k v.incoming.taken;
        mark =
            incoming_mark_at k v.incoming.mark;
      };
      outgoing = record {
        messages = v.outgoing.messages;
        taken = v.outgoing.taken;
        mark =
            outgoing_mark_at k v.own v.outgoing.mark;
      };
    }

pub entered_by_columns : {M : Type 0} (k : LinkConcern) (v : View M) → entered k v ≡ entered_columns k v
entered_by_columns Elsewhere v = refl
entered_by_columns StartsLink v = refl
entered_by_columns MakesLink v = refl
entered_by_columns FailsLink v = refl
entered_by_columns EndsLink v = refl
entered_by_columns HeardOnLink v = refl

-- each part of a view after a Close or none
abbrev pub phase_after : Bool → LinkPhase → LinkPhase
phase_after true p = (with_close (seen p Shut Shut (bare NoMark) (bare NoMark))).phase
phase_after false p = p

abbrev pub own_after : Bool → LinkPhase → End → End
own_after true p own = (with_close (seen p own Shut (bare NoMark) (bare NoMark))).own
own_after false p own = own

abbrev pub mark_after : Bool → LinkPhase → Mark → Mark
mark_after true p mark = (with_close (seen p Shut Shut (bare NoMark) (bare mark))).outgoing.mark
mark_after false p mark = mark

-- messages sent, and then a Close or none
abbrev pub summed : {M : Type 0} → Bool → List M → View M → View M
summed closed words v =
    record {
      phase = phase_after closed v.phase;
      own = own_after closed v.phase v.own;
      other = v.other;
      incoming = v.incoming;
      outgoing = record {
        messages = queued v.phase v.outgoing.mark words v.outgoing.messages;
        taken =
            v.outgoing.taken;
        mark = mark_after closed v.phase v.outgoing.mark;
      };
    }

-- the actions on link d, one after the other
abbrev pub acted : {M : Type 0} → ℕ → List (Action M) → View M → View M
acted d [] v = v
acted d (Send c m ∷ actions) v = acted d actions (if c.0 == d then with_sent m v else v)
acted d (Close c ∷ actions) v = acted d actions (if c.0 == d then with_close v else v)
acted d (Connect c ∷ actions) v = acted d actions v
acted d (peers.HandUp m ∷ actions) v = acted d actions v

-- what is said on link d before it is closed
abbrev pub words_at : {M : Type 0} → ℕ → List (Action M) → List M
words_at d [] = []
words_at d (Send c m ∷ actions) = if c.0 == d then m ∷ words_at d actions else words_at d actions
words_at d (Close c ∷ actions) = if c.0 == d then [] else words_at d actions
words_at d (Connect c ∷ actions) = words_at d actions
words_at d (peers.HandUp m ∷ actions) = words_at d actions

abbrev pub is_closed_at : {M : Type 0} → ℕ → List (Action M) → Bool
is_closed_at d actions = closes_at d (map deed_in actions)

-- the whole step
abbrev pub stepped : {M : Type 0} → LinkConcern → Bool → ℕ → List (Action M) → View M → View M
stepped k holds d actions v = settled_view k holds (acted d actions (entered k v))
