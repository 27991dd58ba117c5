-- A side of a run is what its story makes of it.
use Rattle.std.proofs.Common.{subst, ◌≡◌, ℕ, ◌+◌, ◌==◌, nat_lt, Bool, true, false, List, [], ◌∷◌, ◌++◌, length, slice_get, Option, None, Some, if◌then◌else◌, refl, sym, ap, ◌∙◌}
use Rattle.dm_peer.specs.declared.actions.Action.{Action}
use Rattle.dm_peer.specs.declared.peer.Peer.{Peer}
use Rattle.dm_peer.specs.Acts.{Outcome, Moved, Refused, acts}
use Rattle.dm_history.specs.Replaying.{peer_left}
use Rattle.dm_two_peers.specs.Machine.{conn}
use Rattle.dm_two_peers.specs.Links.{opens, Side, A, B, LinkPhase, LinkPending, LinkUp, LinkCancelled, End, Fresh, Open, Shut, Link}
use Rattle.dm_two_peers.specs.Peers.{Cause, Rebooting, Busy, DoNotWantToTalkToYou, Event, StartEvent, StopEvent, TimeoutEvent, TickEvent, AckEvent, NackEvent, GoneEvent, SubmitEvent, ArrivedEvent}
use Rattle.dm_two_peers.specs.Worlds.{World, peer_on, After, DoneWith, Ignored, NoLink, tell, after_reply}
use Rattle.dm_two_peers.specs.Happens.{Happening, Starts, Stops, TimesOut, Ticks, Restarts, Acks, Nacks, Delivers, Pieces, Loses, Submits, Next, NextMessage, NextDisconnect, NextNothing, next_in, comes, deliver_next, deliver_part, lose, unless_shut, are_shut, if_up, if_pending, at_link, own_view, happens, world_after, RunEnd, ran_on, run_from}
use Rattle.dm_two_peers.specs.Turns.{turns, all_turns, WorldTurn, turn_by, turn_of, turn_at, turn_delivered, turn_pieced, turns_on}
use Rattle.dm_octet_peers.specs.Octets.{as_cause, of_cause, as_event, of_event, as_actions, as_reply, octet_peers}
use Rattle.dm_two_nodes.specs.Delivering.{turn_as}
use Rattle.dm_two_nodes.specs.Stories.{turns_taken, side_chapters, side_story}
use Rattle.dm_two_nodes.proofs.Behind.{peer_behind, behind_both, IsTaken, AreTaken, taken_both, deeds, dones, dones_both, as_turns, turns_both}

-- the turns of a side
abbrev pub own_turns : Side → List (WorldTurn (List ℕ)) → List (WorldTurn (List ℕ))
own_turns s [] = []
own_turns s (u ∷ us) = if opens s u.side then u ∷ own_turns s us else own_turns s us

own_if : (b : Bool) (u : WorldTurn (List ℕ)) (us vs : List (WorldTurn (List ℕ))) →
    (if b then u ∷ us ++ vs else us ++ vs) ≡ (if b then u ∷ us else us) ++ vs
own_if true u us vs = refl
own_if false u us vs = refl

own_both : (s : Side) (us vs : List (WorldTurn (List ℕ))) → own_turns s (us ++ vs) ≡ own_turns s us ++ own_turns s vs
own_both s [] vs = refl
own_both s (u ∷ us) vs =
    ap (λ (l : List (WorldTurn (List ℕ))). if opens s u.side then u ∷ l else l) (own_both s us vs)
    ∙ own_if (opens s u.side) u (own_turns s us) (own_turns s vs)

same_cause : (c : Cause) → as_cause (of_cause c) ≡ c
same_cause Rebooting = refl
same_cause Busy = refl
same_cause DoNotWantToTalkToYou = refl

same_event : (e : Event (List ℕ)) → as_event (of_event e) ≡ e
same_event (StopEvent cause) = ap StopEvent (same_cause cause)
same_event (StartEvent c) = refl
same_event TimeoutEvent = refl
same_event TickEvent = refl
same_event (AckEvent c) = refl
same_event (NackEvent c) = refl
same_event (GoneEvent c) = refl
same_event (SubmitEvent x) = refl
same_event (ArrivedEvent c x) = refl

told_turn : (s : Side) (e : Event (List ℕ)) (actions : List Action) (o : Outcome) (next : Peer) →
    o ≡ Moved actions next →
    record { side = s; event = e; actions = as_actions actions } ∷ [] ≡ turn_as s (of_event e) (deeds o) ∷ []
told_turn s e actions o next is =
    ap (λ (d : Event (List ℕ)). record { side = s; event = d; actions = as_actions actions } ∷ []) (sym (same_event e))
    ∙ ap (λ (did : List Action). turn_as s (of_event e) did ∷ []) (sym (ap deeds is))

module _ (w : World Peer (List ℕ)) where
  -- each side is, behind what happens, what its turns make of it, and takes each of their events
  abbrev Fits : After Peer (List ℕ) → List (WorldTurn (List ℕ)) → Type 0
  Fits after us =
      (s : Side) → (peer_on s (world_after w after) ≡ peer_behind (peer_on s w) (turns_taken s us))
      × AreTaken (peer_on s w) (turns_taken s us)
      × (own_turns s us ≡ as_turns s (dones (peer_on s w) (turns_taken s us)))

  replied : (t : Side) (e : Event (List ℕ)) (o : Outcome) → acts (peer_on t w) (of_event e) ≡ o →
      Fits (after_reply octet_peers t e w (as_reply o)) (turn_by t e (as_reply o))
  replied t e (Refused fault) is s = (refl, tt, refl)
  replied A e (Moved actions next) is A =
      (ap (peer_left w.a) (sym is), (subst IsTaken (sym is) tt, tt), told_turn A e actions (acts w.a (of_event e)) next is)
  replied A e (Moved actions next) is B = (refl, tt, refl)
  replied B e (Moved actions next) is A = (refl, tt, refl)
  replied B e (Moved actions next) is B =
      (ap (peer_left w.b) (sym is), (subst IsTaken (sym is) tt, tt), told_turn B e actions (acts w.b (of_event e)) next is)

  told : (t : Side) (e : Event (List ℕ)) → Fits (tell octet_peers t e w) (turn_of octet_peers t e w)
  told t e = replied t e (acts (peer_on t w) (of_event e)) refl

  came : (t : Side) (e : Event (List ℕ)) (end : End) → Fits (comes octet_peers t e end w) (turn_at octet_peers t e end w)
  came t e Shut A = (refl, tt, refl)
  came t e Shut B = (refl, tt, refl)
  came t e Fresh s = told t e s
  came t e Open s = told t e s

  delivered : (c : ℕ) (t : Side) (end : End) (next : Next (List ℕ)) →
      Fits (deliver_next octet_peers c t end next w) (turn_delivered octet_peers c t end next w)
  delivered c t end NextNothing s = (refl, tt, refl)
  delivered c t end (NextMessage x) s = came t (ArrivedEvent (conn c) x) end s
  delivered c t end NextDisconnect s = came t (GoneEvent (conn c)) end s

  pieced_if : (c : ℕ) (t : Side) (end : End) (x : List ℕ) (b : Bool) (part : After Peer (List ℕ)) →
      Fits part [] →
      Fits (if b then part else comes octet_peers t (ArrivedEvent (conn c) x) end w)
      (if b then [] else turn_at octet_peers t (ArrivedEvent (conn c) x) end w)
  pieced_if c t end x true part is s = is s
  pieced_if c t end x false part is s = came t (ArrivedEvent (conn c) x) end s

  -- what changes links alone
  links_alone : (links : List (Link (List ℕ))) →
      Fits (DoneWith (record w { links = links }) []) []
  links_alone links A = (refl, tt, refl)
  links_alone links B = (refl, tt, refl)

  pieced : (c : ℕ) (t : Side) (k : ℕ) (end : End) (taken : ℕ) (next : Next (List ℕ)) →
      Fits (deliver_part octet_peers c t k end taken next w) (turn_pieced octet_peers c t k end taken next w)
  pieced c t k end taken NextNothing s = (refl, tt, refl)
  pieced c t k end taken NextDisconnect s = (refl, tt, refl)
  pieced c t k end taken (NextMessage x) s =
      pieced_if c t end x (nat_lt (taken + k) (octet_peers.size x)) _ (links_alone _) s

  zero_if : (b : Bool) (after : After Peer (List ℕ)) (us : List (WorldTurn (List ℕ))) → Fits after us →
      Fits (if b then Ignored else after) (if b then [] else us)
  zero_if true after us is s = (refl, tt, refl)
  zero_if false after us is s = is s

  pending_if : (phase : LinkPhase) (after : After Peer (List ℕ)) (us : List (WorldTurn (List ℕ))) → Fits after us →
      Fits (if_pending phase after Ignored) (if_pending phase us [])
  pending_if LinkPending after us is s = is s
  pending_if LinkUp after us is s = (refl, tt, refl)
  pending_if LinkCancelled after us is s = (refl, tt, refl)

  up_if : (phase : LinkPhase) (after : After Peer (List ℕ)) (us : List (WorldTurn (List ℕ))) → Fits after us →
      Fits (if_up phase after Ignored) (if_up phase us [])
  up_if LinkPending after us is s = (refl, tt, refl)
  up_if LinkUp after us is s = is s
  up_if LinkCancelled after us is s = (refl, tt, refl)

  linked : (o : Option (Link (List ℕ))) (after : Link (List ℕ) → After Peer (List ℕ))
      (us : Link (List ℕ) → List (WorldTurn (List ℕ))) → ((l : Link (List ℕ)) → Fits (after l) (us l)) →
      Fits (at_link o after) (turns_on o us)
  linked None after us is s = (refl, tt, refl)
  linked (Some l) after us is s = is l s

  lost : (o : Option (Link (List ℕ))) (c a b : ℕ) →
      Fits (at_link o (λ l. if_up l.phase (unless_shut l (lose octet_peers w c a b l)) Ignored)) []
  lost None c a b s = (refl, tt, refl)
  lost (Some l) c a b s = lost_if l.phase (are_shut l.opener_end l.other_end) s
    where
      lost_if : (phase : LinkPhase) (b' : Bool) →
          Fits (if_up phase (if b' then Ignored else lose octet_peers w c a b l) Ignored) []
      lost_if LinkPending b' s = (refl, tt, refl)
      lost_if LinkCancelled b' s = (refl, tt, refl)
      lost_if LinkUp true s = (refl, tt, refl)
      lost_if LinkUp false s = links_alone _ s

  happened : (h : Happening (List ℕ)) (s : Side) →
      (peer_on s (world_after w (happens octet_peers w h)) ≡ peer_behind (peer_on s w) (side_chapters s w h))
      × AreTaken (peer_on s w) (side_chapters s w h)
      × (own_turns s (turns octet_peers w h) ≡ as_turns s (dones (peer_on s w) (side_chapters s w h)))
  happened (Starts t) s = told t (StartEvent (conn (length w.links))) s
  happened (Stops t cause) s = told t (StopEvent cause) s
  happened (TimesOut t) s = told t TimeoutEvent s
  happened (Ticks t) s = told t TickEvent s
  happened (Submits t x) s = told t (SubmitEvent x) s
  happened (Restarts A) A = (refl, tt, refl)
  happened (Restarts A) B = (refl, tt, refl)
  happened (Restarts B) A = (refl, tt, refl)
  happened (Restarts B) B = (refl, tt, refl)
  happened (Acks c) s =
      linked (slice_get w.links c) _ _ (λ l. pending_if l.phase _ _ (told l.opener (AckEvent (conn c)))) s
  happened (Nacks c) s =
      linked (slice_get w.links c) _ _ (λ l. pending_if l.phase _ _ (told l.opener (NackEvent (conn c)))) s
  happened (Delivers c t) s =
      linked (slice_get w.links c) _ _
      (λ l. let v = own_view t l in up_if l.phase _ _ (delivered c t v.own (next_in v.incoming.messages v.incoming.mark)))
      s
  happened (Pieces c t k) s =
      linked (slice_get w.links c) _ _
      (λ l. let v = own_view t l in up_if l.phase _ _
      (zero_if (k == 0) _ _ (pieced c t k v.own v.incoming.taken (next_in v.incoming.messages v.incoming.mark)))) s
  happened (Loses c a b) s = lost (slice_get w.links c) c a b s

-- the world that a run goes on with
ran : (r : RunEnd Peer (List ℕ)) (after : After Peer (List ℕ)) (hs : List (Happening (List ℕ)))
    (z : RunEnd Peer (List ℕ)) → run_from octet_peers (ran_on r after) hs ≡ Some z →
    (q : RunEnd Peer (List ℕ)) × (q.world ≡ world_after r.world after) × (run_from octet_peers (Some q) hs ≡ Some z)
ran r (DoneWith next put) hs z is = (record { world = next; put = r.put ++ put }, refl, is)
ran r Ignored hs z is = (r, refl, is)
ran r NoLink hs z is = absurd (cc)

-- a side is behind a run what its story makes of it
pub side_is : (r : RunEnd Peer (List ℕ)) (hs : List (Happening (List ℕ))) (z : RunEnd Peer (List ℕ)) (s : Side) →
    run_from octet_peers (Some r) hs ≡ Some z →
    peer_on s z.world ≡ peer_behind (peer_on s r.world) (side_story s r.world hs)
side_is r [] z s is = ap (λ (w : World Peer (List ℕ)). peer_on s w) (same_world r z is)
  where
    same_world : (r z : RunEnd Peer (List ℕ)) → Some r ≡ Some z → z.world ≡ r.world
    same_world r z e = cc
side_is r (h ∷ hs) z s is =
    let after = happens octet_peers r.world h in
    let on = ran r after hs z is in
    side_is on.0 hs z s on.2
    ∙ ap (λ (w : World Peer (List ℕ)). peer_behind (peer_on s w) (side_story s w hs)) on.1
    ∙ ap (λ (p : Peer). peer_behind p (side_story s (world_after r.world after) hs)) (happened r.world h s).0
    ∙ sym (behind_both (peer_on s r.world) (side_chapters s r.world h) (side_story s (world_after r.world after) hs))

-- and takes each event of it
pub side_takes : (w : World Peer (List ℕ)) (hs : List (Happening (List ℕ))) (s : Side) →
    AreTaken (peer_on s w) (side_story s w hs)
side_takes w [] s = tt
side_takes w (h ∷ hs) s =
    let next = world_after w (happens octet_peers w h) in
    let is = happened w h s in
    taken_both (peer_on s w) (side_chapters s w h) (side_story s next hs) is.1
    (subst (λ (p : Peer). AreTaken p (side_story s next hs)) is.0 (side_takes next hs s))

-- its turns are those of its story
pub side_turns : (w : World Peer (List ℕ)) (hs : List (Happening (List ℕ))) (s : Side) →
    own_turns s (all_turns octet_peers w hs) ≡ as_turns s (dones (peer_on s w) (side_story s w hs))
side_turns w [] s = refl
side_turns w (h ∷ hs) s =
    let next = world_after w (happens octet_peers w h) in
    let is = happened w h s in
    let first = dones (peer_on s w) (side_chapters s w h) in
    let more = side_story s next hs in
    own_both s (turns octet_peers w h) (all_turns octet_peers next hs)
    ∙ ap (λ (l : List (WorldTurn (List ℕ))). l ++ own_turns s (all_turns octet_peers next hs)) is.2
    ∙ ap (λ (l : List (WorldTurn (List ℕ))). as_turns s first ++ l) (side_turns next hs s)
    ∙ ap (λ (p : Peer). as_turns s first ++ as_turns s (dones p more)) is.0
    ∙ sym (turns_both s first (dones (peer_behind (peer_on s w) (side_chapters s w h)) more))
    ∙ ap (as_turns s) (sym (dones_both (peer_on s w) (side_chapters s w h) more))
