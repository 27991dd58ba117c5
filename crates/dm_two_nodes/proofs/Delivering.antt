-- What the users of two neighbours submit and are handed up is what the sides' users are.
use Rattle.std.proofs.Common.{◌≡◌, ℕ, ◌==◌, Bool, true, false, ◌&&◌, ◌||◌, if◌then◌else◌, Option, Some, None, List, [], ◌∷◌, ◌++◌, map, refl, sym, ap, subst, ◌∙◌}
use Rattle.std.specs.Prelude.{IfSome}
use Rattle.dm_peer.specs.declared.actions.Action.{Action}
use Rattle.dm_peer.specs.declared.actions.Action.TheVariants as action
use Rattle.dm_peer.specs.declared.config.Config.{Config}
use Rattle.dm_peer.specs.declared.peer.Peer.{Peer}
use Rattle.dm_peer.specs.Events.{PeerEvent, Start, Stop, Timeout, Tick, Ack, Nack, Arrived, Gone, Submit}
use Rattle.dm_peer.specs.Settled.{IsSettled}
use Rattle.dm_peer.specs.Steps.{EachEventIsOneStep}
use Rattle.dm_peer.specs.Acts.{Outcome, Moved, Refused, acts}
use Rattle.dm_history.specs.Replaying.{peer_left}
use Rattle.dm_node.specs.Emptying.{set_back}
use Rattle.dm_node.specs.Telling.{conn_of}
use Rattle.dm_two_peers.specs.Links.{Side, A, B, flip, opens}
use Rattle.dm_two_peers.specs.Peers.{Event, SubmitEvent, ArrivedEvent, deed_in, sends_at}
use Rattle.dm_two_peers.specs.Peers as peers
use Rattle.dm_two_peers.specs.Worlds.{World, peer_on}
use Rattle.dm_two_peers.specs.Happens.{Happening, RunEnd, run}
use Rattle.dm_two_peers.specs.Turns.{WorldTurn, all_turns}
use Rattle.dm_two_peers.specs.Delivery.{submitted_by, submitted_on, ups_of, handed_up_by, handed_up_on, has_loss_of, DeliversInOrder}
use Rattle.dm_octet_peers.specs.Octets.{as_actions, octet_peers}
use Rattle.dm_octet_peers.specs.Carrying.{is_app, EachOctetRunDelivers}
use Rattle.dm_octet_peers.specs.Laws.{fresh_peer}
use Rattle.dm_two_nodes.specs.Numbering.{IsOneToOne}
use Rattle.dm_two_nodes.specs.Renaming.{renumbered_event, renumbered_actions, renumbered_acts, renumbered_peer, PeersGoByNoNumber}
use Rattle.dm_two_nodes.specs.Stories.{Chapter, TakesEvent, IsSetBack, renumbered_story, node_story, side_story, passes_by, gist}
use Rattle.dm_two_nodes.specs.Meeting.{Neighbour, PlaysSide, world_between, MeetIn}
use Rattle.dm_two_nodes.specs.Delivering.{turn_as, turns_at, DeliverBothWays, TwoNodesDeliver}
use Rattle.dm_two_nodes.proofs.Numbered.{alike}
use Rattle.dm_two_nodes.proofs.Behind.{left_renumbered, deeds, dones, as_turns}
use Rattle.dm_two_nodes.proofs.Neighbours.{neighbour_is}
use Rattle.dm_two_nodes.proofs.Sides.{own_turns, side_turns}
use Rattle.dm_two_nodes.proofs.Gists.{StoryLaws, passed_by, settled_next}

-- what is gathered of each event and what is done at it
abbrev Gathers : Type 0
Gathers = PeerEvent → List Action → List (List ℕ)

abbrev gathered : Gathers → List (PeerEvent × List Action) → List (List ℕ)
gathered take [] = []
gathered take (d ∷ l) = take d.0 d.1 ++ gathered take l

abbrev submits : Side → ℕ → Gathers
submits t c e actions = submitted_by t c (turn_as (flip t) e actions)

abbrev hands_up : Side → ℕ → Gathers
hands_up t c e actions = handed_up_by t c (turn_as t e actions)

submitted_is : (t : Side) (c : ℕ) (l : List (PeerEvent × List Action)) →
    submitted_on t c (as_turns (flip t) l) ≡ gathered (submits t c) l
submitted_is t c [] = refl
submitted_is t c (d ∷ l) =
    ap (λ (xs : List (List ℕ)). submits t c d.0 d.1 ++ xs) (submitted_is t c l)

handed_up_is : (t : Side) (c : ℕ) (l : List (PeerEvent × List Action)) →
    handed_up_on t c (as_turns t l) ≡ gathered (hands_up t c) l
handed_up_is t c [] = refl
handed_up_is t c (d ∷ l) =
    ap (λ (xs : List (List ℕ)). hands_up t c d.0 d.1 ++ xs) (handed_up_is t c l)

-- the turns of the other side count for nothing
own_submit : (t s : Side) (c : ℕ) (e : Event (List ℕ)) (actions : List (peers.Action (List ℕ)))
    (us vs : List (WorldTurn (List ℕ))) → submitted_on t c us ≡ submitted_on t c vs →
    submitted_on t c (record { side = s; event = e; actions = actions } ∷ us)
    ≡ submitted_on t c (if opens (flip t) s then record { side = s; event = e; actions = actions } ∷ vs else vs)
own_submit A A c (SubmitEvent x) actions us vs is = is
own_submit A A c _ actions us vs is = is
own_submit A B c e actions us vs is =
    ap (λ (xs : List (List ℕ)). submitted_by A c (record { side = B; event = e; actions = actions }) ++ xs) is
own_submit B A c e actions us vs is =
    ap (λ (xs : List (List ℕ)). submitted_by B c (record { side = A; event = e; actions = actions }) ++ xs) is
own_submit B B c (SubmitEvent x) actions us vs is = is
own_submit B B c _ actions us vs is = is

own_submits : (t : Side) (c : ℕ) (us : List (WorldTurn (List ℕ))) →
    submitted_on t c us ≡ submitted_on t c (own_turns (flip t) us)
own_submits t c [] = refl
own_submits t c (u ∷ us) =
    own_submit t u.side c u.event u.actions us (own_turns (flip t) us) (own_submits t c us)

own_up : (t s : Side) (c : ℕ) (e : Event (List ℕ)) (actions : List (peers.Action (List ℕ)))
    (us vs : List (WorldTurn (List ℕ))) → handed_up_on t c us ≡ handed_up_on t c vs →
    handed_up_on t c (record { side = s; event = e; actions = actions } ∷ us)
    ≡ handed_up_on t c (if opens t s then record { side = s; event = e; actions = actions } ∷ vs else vs)
own_up A B c (ArrivedEvent d x) actions us vs is = is
own_up A B c _ actions us vs is = is
own_up A A c e actions us vs is =
    ap (λ (xs : List (List ℕ)). handed_up_by A c (record { side = A; event = e; actions = actions }) ++ xs) is
own_up B B c e actions us vs is =
    ap (λ (xs : List (List ℕ)). handed_up_by B c (record { side = B; event = e; actions = actions }) ++ xs) is
own_up B A c (ArrivedEvent d x) actions us vs is = is
own_up B A c _ actions us vs is = is

own_ups : (t : Side) (c : ℕ) (us : List (WorldTurn (List ℕ))) →
    handed_up_on t c us ≡ handed_up_on t c (own_turns t us)
own_ups t c [] = refl
own_ups t c (u ∷ us) =
    own_up t u.side c u.event u.actions us (own_turns t us) (own_ups t c us)

-- under other numbers the same is gathered
module _ (f : ℕ → ℕ) (one : IsOneToOne f) where
  sends_renumbered : (c : ℕ) (actions : List Action) →
      sends_at (f c) (map deed_in (as_actions (renumbered_actions f actions)))
      ≡ sends_at c (map deed_in (as_actions actions))
  sends_renumbered c [] = refl
  sends_renumbered c (action.Send d s ∷ more) =
      ap (λ (b : Bool). b || sends_at (f c) (map deed_in (as_actions (renumbered_actions f more)))) (alike f one d.0 c)
      ∙ ap (λ (b : Bool). (d.0 == c) || b) (sends_renumbered c more)
  sends_renumbered c (action.Connect d ∷ more) = sends_renumbered c more
  sends_renumbered c (action.Close d ∷ more) = sends_renumbered c more
  sends_renumbered c (action.Up s ∷ more) = sends_renumbered c more

  ups_renumbered : (actions : List Action) →
      ups_of (as_actions (renumbered_actions f actions)) ≡ ups_of (as_actions actions)
  ups_renumbered [] = refl
  ups_renumbered (action.Up s ∷ more) = ap (λ (xs : List (List ℕ)). s ∷ xs) (ups_renumbered more)
  ups_renumbered (action.Send d s ∷ more) = ups_renumbered more
  ups_renumbered (action.Connect d ∷ more) = ups_renumbered more
  ups_renumbered (action.Close d ∷ more) = ups_renumbered more

  abbrev Renumbers : Gathers → Gathers → Type 0
  Renumbers take take' = (e : PeerEvent) (actions : List Action) →
      take' (renumbered_event f e) (renumbered_actions f actions) ≡ take e actions

  submits_renumbered : (t : Side) (c : ℕ) → Renumbers (submits t c) (submits t (f c))
  submits_renumbered t c (Submit s) actions =
      ap (λ (b : Bool). if opens (flip t) (flip t) && b then s ∷ [] else []) (sends_renumbered c actions)
  submits_renumbered t c _ actions = refl

  at_own : (t : Side) (actions : List Action) →
      (if opens t t then ups_of (as_actions (renumbered_actions f actions)) else [])
      ≡ (if opens t t then ups_of (as_actions actions) else [])
  at_own t actions = ap (λ (xs : List (List ℕ)). if opens t t then xs else []) (ups_renumbered actions)

  hands_up_renumbered : (t : Side) (c : ℕ) → Renumbers (hands_up t c) (hands_up t (f c))
  hands_up_renumbered t c (Arrived d s) actions =
      ap (λ (b : Bool). if opens t t && b then ups_of (as_actions (renumbered_actions f actions)) else [])
      (alike f one d.0 c)
      ∙ ap (λ (xs : List (List ℕ)). if opens t t && (d.0 == c) then xs else []) (ups_renumbered actions)
  hands_up_renumbered t c (Start d) actions = at_own t actions
  hands_up_renumbered t c (Stop cause) actions = at_own t actions
  hands_up_renumbered t c Timeout actions = at_own t actions
  hands_up_renumbered t c Tick actions = at_own t actions
  hands_up_renumbered t c (Ack d) actions = at_own t actions
  hands_up_renumbered t c (Nack d) actions = at_own t actions
  hands_up_renumbered t c (Gone d) actions = at_own t actions
  hands_up_renumbered t c (Submit s) actions = at_own t actions

  deeds_renumbered : (o : Outcome) → deeds (renumbered_acts f o) ≡ renumbered_actions f (deeds o)
  deeds_renumbered (Moved actions next) = refl
  deeds_renumbered (Refused fault) = refl

  gathered_renumbered : PeersGoByNoNumber → (take take' : Gathers) → Renumbers take take' → (p : Peer)
      (xs : List Chapter) →
      gathered take' (dones (renumbered_peer f p) (renumbered_story f xs)) ≡ gathered take (dones p xs)
  gathered_renumbered law take take' same p [] = refl
  gathered_renumbered law take take' same p (TakesEvent e ∷ xs) =
      let is = law f p e one in
      let here = renumbered_peer f p in
      let event = renumbered_event f e in
      ap (λ (o : Outcome). take' event (deeds o) ++ gathered take' (dones (peer_left here o) (renumbered_story f xs))) is
      ∙ ap (λ (did : List Action). take' event did
      ++ gathered take' (dones (peer_left here (renumbered_acts f (acts p e))) (renumbered_story f xs)))
      (deeds_renumbered (acts p e))
      ∙ ap (λ (l : List (List ℕ)). l
      ++ gathered take' (dones (peer_left here (renumbered_acts f (acts p e))) (renumbered_story f xs)))
      (same e (deeds (acts p e)))
      ∙ ap (λ (q : Peer). take e (deeds (acts p e)) ++ gathered take' (dones q (renumbered_story f xs)))
      (left_renumbered f p (acts p e))
      ∙ ap (λ (l : List (List ℕ)). take e (deeds (acts p e)) ++ l)
      (gathered_renumbered law take take' same (peer_left p (acts p e)) xs)
  gathered_renumbered law take take' same p (IsSetBack ∷ xs) =
      gathered_renumbered law take take' same (set_back p) xs

-- of what passes a peer by nothing is gathered
module _ (laws : StoryLaws) where
  abbrev Passes : Gathers → Type 0
  Passes take = (p : Peer) (e : PeerEvent) → IsSettled p → passes_by p e ≡ true → take e (deeds (acts p e)) ≡ []

  submits_pass : (t : Side) (c : ℕ) → Passes (submits t c)
  submits_pass t c p (Submit s) was is = cc
  submits_pass t c p _ was is = refl

  none_if : (b : Bool) (xs : List (List ℕ)) → xs ≡ [] → (if b then xs else []) ≡ []
  none_if true xs is = is
  none_if false xs is = refl

  silent : (p : Peer) (e : PeerEvent) → IsSettled p → passes_by p e ≡ true →
      ups_of (as_actions (deeds (acts p e))) ≡ []
  silent p e was is = (passed_by laws p e (conn_of e) was refl is).1

  hands_up_pass : (t : Side) (c : ℕ) → Passes (hands_up t c)
  hands_up_pass t c p (Arrived d s) was is = none_if (opens t t && (d.0 == c)) _ (silent p (Arrived d s) was is)
  hands_up_pass t c p (Start d) was is = none_if (opens t t) _ (silent p (Start d) was is)
  hands_up_pass t c p (Stop cause) was is = cc
  hands_up_pass t c p Timeout was is = cc
  hands_up_pass t c p Tick was is = cc
  hands_up_pass t c p (Ack d) was is = none_if (opens t t) _ (silent p (Ack d) was is)
  hands_up_pass t c p (Nack d) was is = none_if (opens t t) _ (silent p (Nack d) was is)
  hands_up_pass t c p (Gone d) was is = none_if (opens t t) _ (silent p (Gone d) was is)
  hands_up_pass t c p (Submit s) was is = cc

  gathered_if : (take : Gathers) → Passes take → (p : Peer) (e : PeerEvent) (more rest : List Chapter) (b : Bool) →
      passes_by p e ≡ b → IsSettled p →
      gathered take (dones (peer_left p (acts p e)) rest) ≡ gathered take (dones (peer_left p (acts p e)) more) →
      gathered take (dones p (if b then rest else TakesEvent e ∷ rest))
      ≡ take e (deeds (acts p e)) ++ gathered take (dones (peer_left p (acts p e)) more)
  gathered_if take pass p e more rest true is was so =
      ap (λ (q : Peer). gathered take (dones q rest)) (sym (passed_by laws p e (conn_of e) was refl is).0)
      ∙ so
      ∙ ap (λ (l : List (List ℕ)). l ++ gathered take (dones (peer_left p (acts p e)) more)) (sym (pass p e was is))
  gathered_if take pass p e more rest false is was so =
      ap (λ (l : List (List ℕ)). take e (deeds (acts p e)) ++ l) so

  gathered_gist : (take : Gathers) → Passes take → (p : Peer) (xs : List Chapter) → IsSettled p →
      gathered take (dones p (gist p xs)) ≡ gathered take (dones p xs)
  gathered_gist take pass p [] was = refl
  gathered_gist take pass p (TakesEvent e ∷ more) was =
      let q = peer_left p (acts p e) in
      gathered_if take pass p e more (gist q more) (passes_by p e) refl was
      (gathered_gist take pass q more (settled_next laws p e was))
  gathered_gist take pass p (IsSetBack ∷ more) was =
      gathered_gist take pass (set_back p) more (laws.fresh p.config p.standing.next)

module _ (numbers : PeersGoByNoNumber) (step : EachEventIsOneStep) (laws : StoryLaws) where
  fresh_settled : (c : Config) → IsSettled (fresh_peer c)
  fresh_settled c = laws.fresh c c.first_id

  -- what is gathered at a neighbour is what is gathered at the side that it plays
  module _ (f : ℕ → ℕ) (n : Neighbour) (s : Side) (w : World Peer (List ℕ)) (hs : List (Happening (List ℕ)))
      (part : PlaysSide f n s w hs) where
    gathers_alike : (take take' : Gathers) → Renumbers f part.apart take take' → Passes laws take →
        Passes laws take' →
        gathered take' (dones (fresh_peer n.peer.config) (node_story n.number n.past))
        ≡ gathered take (dones (peer_on s w) (side_story s w hs))
    gathers_alike take take' same pass pass' =
        let first = fresh_peer n.peer.config in
        let theirs = side_story s w hs in
        sym (gathered_gist laws take' pass' first (node_story n.number n.past) (fresh_settled n.peer.config))
        ∙ ap (λ (xs : List Chapter). gathered take' (dones first xs)) part.story
        ∙ gathered_renumbered f part.apart numbers take take' same first (gist (peer_on s w) theirs)
        ∙ ap (λ (p : Peer). gathered take (dones p (gist (peer_on s w) theirs))) (sym part.begins)
        ∙ gathered_gist laws take pass (peer_on s w) theirs
        (subst IsSettled (sym part.begins) (fresh_settled n.peer.config))

    turns_are : turns_at s n ≡ as_turns s (dones (fresh_peer n.peer.config) (node_story n.number n.past))
    turns_are = (neighbour_is step n.past n.peers n.number n.peer n.became n.there).1 s

  submitted_alike : (f : ℕ → ℕ) (n : Neighbour) (t : Side) (w : World Peer (List ℕ)) (hs : List (Happening (List ℕ)))
      (c : ℕ) → PlaysSide f n (flip t) w hs →
      submitted_on t (f c) (turns_at (flip t) n) ≡ submitted_on t c (all_turns octet_peers w hs)
  submitted_alike f n t w hs c part =
      ap (submitted_on t (f c)) (turns_are f n (flip t) w hs part)
      ∙ submitted_is t (f c) (dones (fresh_peer n.peer.config) (node_story n.number n.past))
      ∙ gathers_alike f n (flip t) w hs part (submits t c) (submits t (f c)) (submits_renumbered f part.apart t c)
      (submits_pass laws t c) (submits_pass laws t (f c))
      ∙ sym (submitted_is t c (dones (peer_on (flip t) w) (side_story (flip t) w hs)))
      ∙ ap (submitted_on t c) (sym (side_turns w hs (flip t)))
      ∙ sym (own_submits t c (all_turns octet_peers w hs))

  handed_up_alike : (f : ℕ → ℕ) (n : Neighbour) (t : Side) (w : World Peer (List ℕ)) (hs : List (Happening (List ℕ)))
      (c : ℕ) → PlaysSide f n t w hs →
      handed_up_on t (f c) (turns_at t n) ≡ handed_up_on t c (all_turns octet_peers w hs)
  handed_up_alike f n t w hs c part =
      ap (handed_up_on t (f c)) (turns_are f n t w hs part)
      ∙ handed_up_is t (f c) (dones (fresh_peer n.peer.config) (node_story n.number n.past))
      ∙ gathers_alike f n t w hs part (hands_up t c) (hands_up t (f c)) (hands_up_renumbered f part.apart t c)
      (hands_up_pass laws t c) (hands_up_pass laws t (f c))
      ∙ sym (handed_up_is t c (dones (peer_on t w) (side_story t w hs)))
      ∙ ap (handed_up_on t c) (sym (side_turns w hs t))
      ∙ sym (own_ups t c (all_turns octet_peers w hs))

  module _ (f g : ℕ → ℕ) (n m : Neighbour) (hs : List (Happening (List ℕ))) (c : ℕ) (meet : MeetIn f g n m hs) where
    abbrev w : World Peer (List ℕ)
    w = world_between n m

    abbrev InOrder : World Peer (List ℕ) → Side → List (List ℕ) → List (List ℕ) → Type 0
    InOrder v t sent handed = DeliversInOrder octet_peers is_app v t c (has_loss_of c hs) sent handed

    delivered_at : (t : Side) (v : World Peer (List ℕ)) (sent handed : List (List ℕ)) →
        sent ≡ submitted_on t c (all_turns octet_peers w hs) →
        handed ≡ handed_up_on t c (all_turns octet_peers w hs) →
        InOrder v t (submitted_on t c (all_turns octet_peers w hs)) (handed_up_on t c (all_turns octet_peers w hs)) →
        InOrder v t sent handed
    delivered_at t v sent handed same also is =
        subst (λ (l : List (List ℕ)). InOrder v t l handed) (sym same)
        (subst (InOrder v t (submitted_on t c (all_turns octet_peers w hs))) (sym also) is)

    abbrev Delivered : Option (RunEnd Peer (List ℕ)) → Side → Type 0
    Delivered o t =
        IfSome o (λ r. InOrder r.world t (submitted_on t c (all_turns octet_peers w hs))
        (handed_up_on t c (all_turns octet_peers w hs)))

    deliver_by : (o : Option (RunEnd Peer (List ℕ))) → Delivered o A → Delivered o B →
        IfSome o (λ r. DeliverBothWays f g n m r.world c hs)
    deliver_by None at_a at_b = tt
    deliver_by (Some r) at_a at_b =
        record {
          there = delivered_at B r.world (submitted_on B (f c) (turns_at A n)) (handed_up_on B (g c) (turns_at B m))
              (submitted_alike f n B w hs c meet.left) (handed_up_alike g m B w hs c meet.right) at_b;
          back = delivered_at A r.world (submitted_on A (g c) (turns_at B m)) (handed_up_on A (f c) (turns_at A n))
              (submitted_alike g m A w hs c meet.right) (handed_up_alike f n A w hs c meet.left) at_a;
        }

  pub two_nodes_deliver : EachOctetRunDelivers → TwoNodesDeliver
  two_nodes_deliver law f g n m hs c meet =
      let a = n.peer.config in
      let b = m.peer.config in
      deliver_by f g n m hs c meet (run octet_peers (world_between n m) hs) (law a b hs A c) (law a b hs B c)
