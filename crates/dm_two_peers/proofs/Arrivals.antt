-- What is handed up came just then: at each turn of a run.
use Rattle.std.proofs.Common.{◌≡◌, ℕ, ◌+◌, ◌==◌, Bool, true, false, ◌&&◌, nat_lt, if◌then◌else◌, Option, Some, None}
use Rattle.std.proofs.Common.{IsTrue, List, [], ◌∷◌, ◌⊎◌, inl, inr, slice_get, length, refl}
use Rattle.std.specs.List.{All}
use Rattle.std.proofs.lemmas.List.Elements.{All-nil, All-cons, All-append}
use Rattle.dm_machine.specs.Connection.{hold_of}
use Rattle.dm_machine.specs.Upward.{is_open_hold}
use Rattle.dm_two_peers.specs.Machine.{conn}
use Rattle.dm_two_peers.specs.Links.{Side, A, B, LinkPhase, LinkPending, LinkUp, LinkCancelled, End, Fresh, Open, Shut, Link}
use Rattle.dm_two_peers.specs.Peers.{Event, StartEvent, StopEvent, TimeoutEvent, TickEvent, AckEvent, NackEvent, GoneEvent, SubmitEvent, ArrivedEvent, Action, Reply}
use Rattle.dm_two_peers.specs.Peers.{ActsBy, Declines, Peers}
use Rattle.dm_two_peers.specs.Worlds.{World, peer_on}
use Rattle.dm_two_peers.specs.Happens.{Happening, Starts, Stops, TimesOut, Ticks, Restarts, Acks, Nacks, Delivers, Pieces}
use Rattle.dm_two_peers.specs.Happens.{Loses, Submits, Next, NextMessage, NextDisconnect, NextNothing, next_in}
use Rattle.dm_two_peers.specs.Happens.{if_up, if_pending, own_view, happens, world_after}
use Rattle.dm_two_peers.specs.Follows.{IsMachine}
use Rattle.dm_two_peers.specs.Facts.{IsSoundWorld}
use Rattle.dm_two_peers.specs.Laws.{world_of}
use Rattle.dm_two_peers.specs.Turns.{WorldTurn, turn_by, turn_of, turn_at, turn_delivered, turn_pieced, turns_on, turns}
use Rattle.dm_two_peers.specs.Turns.{all_turns}
use Rattle.dm_two_peers.specs.Delivery.{ups_of, CarriesMessages}
use Rattle.dm_two_peers.specs.Arriving.{IsWhatCame, HandUpWhatCame}
use Rattle.dm_two_peers.proofs.Ties.{MachineLaws}
use Rattle.dm_two_peers.proofs.Closing.{CarriesOn, carries_on_proof}
use Rattle.dm_two_peers.proofs.Carried.{IsCarrying, carrier}
use Rattle.dm_two_peers.proofs.Delivers.{happening_carries}

-- what holds of each reply of a world's peers holds of each turn there
module _ {P M : Type 0} (m : Peers P M) (Holds : WorldTurn M → Type 0) (w : World P M)
    (replies : (s : Side) (e : Event M) (actions : List (Action M)) (next : P) →
    m.reply (peer_on s w) e ≡ ActsBy actions next → Holds (record { side = s; event = e; actions = actions })) where
  one : (u : WorldTurn M) → Holds u → All Holds (u ∷ [])
  one u h = All-cons Holds u [] h (All-nil Holds)

  by_reply : (s : Side) (e : Event M) (r : Reply P M) → m.reply (peer_on s w) e ≡ r → All Holds (turn_by s e r)
  by_reply s e Declines is = All-nil Holds
  by_reply s e (ActsBy actions p) is = one _ (replies s e actions p is)

  of_one : (s : Side) (e : Event M) → All Holds (turn_of m s e w)
  of_one s e = by_reply s e (m.reply (peer_on s w) e) refl

  at_end : (s : Side) (e : Event M) (end : End) → All Holds (turn_at m s e end w)
  at_end s e Shut = All-nil Holds
  at_end s e Fresh = of_one s e
  at_end s e Open = of_one s e

  of_delivered : (c : ℕ) (s : Side) (end : End) (n : Next M) → All Holds (turn_delivered m c s end n w)
  of_delivered c s end NextNothing = All-nil Holds
  of_delivered c s end (NextMessage x) = at_end s (ArrivedEvent (conn c) x) end
  of_delivered c s end NextDisconnect = at_end s (GoneEvent (conn c)) end

  of_if : (b : Bool) (us : List (WorldTurn M)) → All Holds us → All Holds (if b then [] else us)
  of_if true us h = All-nil Holds
  of_if false us h = h

  of_pieced : (c : ℕ) (s : Side) (k : ℕ) (end : End) (taken : ℕ) (n : Next M) →
      All Holds (turn_pieced m c s k end taken n w)
  of_pieced c s k end taken NextNothing = All-nil Holds
  of_pieced c s k end taken NextDisconnect = All-nil Holds
  of_pieced c s k end taken (NextMessage x) =
      of_if (nat_lt (taken + k) (m.size x)) _ (at_end s (ArrivedEvent (conn c) x) end)

  of_up : (p : LinkPhase) (us : List (WorldTurn M)) → All Holds us → All Holds (if_up p us [])
  of_up LinkUp us h = h
  of_up LinkPending us h = All-nil Holds
  of_up LinkCancelled us h = All-nil Holds

  of_pending : (p : LinkPhase) (us : List (WorldTurn M)) → All Holds us → All Holds (if_pending p us [])
  of_pending LinkPending us h = h
  of_pending LinkUp us h = All-nil Holds
  of_pending LinkCancelled us h = All-nil Holds

  of_link : (o : Option (Link M)) (f : Link M → List (WorldTurn M)) → ((l : Link M) → All Holds (f l)) →
      All Holds (turns_on o f)
  of_link None f each = All-nil Holds
  of_link (Some l) f each = each l

  pub each_turn : (h : Happening M) → All Holds (turns m w h)
  each_turn (Starts s) = of_one s (StartEvent (conn (length w.links)))
  each_turn (Stops s cause) = of_one s (StopEvent cause)
  each_turn (TimesOut s) = of_one s TimeoutEvent
  each_turn (Ticks s) = of_one s TickEvent
  each_turn (Submits s x) = of_one s (SubmitEvent x)
  each_turn (Restarts s) = All-nil Holds
  each_turn (Acks c) =
      of_link (slice_get w.links c) _ (λ l. of_pending l.phase _ (of_one l.opener (AckEvent (conn c))))
  each_turn (Nacks c) =
      of_link (slice_get w.links c) _ (λ l. of_pending l.phase _ (of_one l.opener (NackEvent (conn c))))
  each_turn (Delivers c s) =
      of_link (slice_get w.links c) _ (λ l. let v = own_view s l in
      of_up l.phase _ (of_delivered c s v.own (next_in v.incoming.messages v.incoming.mark)))
  each_turn (Pieces c s k) =
      of_link (slice_get w.links c) _ (λ l. let v = own_view s l in
      of_up l.phase _ (of_if (k == 0) _
      (of_pieced c s k v.own v.incoming.taken (next_in v.incoming.messages v.incoming.mark))))
  each_turn (Loses c a b) = All-nil Holds

module _ {P M : Type 0} (m : Peers P M) (laws : MachineLaws) (is : IsMachine m) (is_app : M → Bool)
    (stands : P → Bool) (carries : CarriesOn m is_app stands) where
  what_came : (b : Bool) (x : M) (ups : List M) → ups ≡ (if b then x ∷ [] else []) → (ups ≡ x ∷ []) ⊎ (ups ≡ [])
  what_came true x ups is = inl is
  what_came false x ups is = inr is

  at_event : (w : World P M) → IsCarrying m stands w → (s : Side) (e : Event M) (actions : List (Action M)) (next : P) →
      m.reply (peer_on s w) e ≡ ActsBy actions next → IsWhatCame e (ups_of actions)
  at_event w good s (ArrivedEvent d x) actions next replies =
      let heard = carries.does.hears (peer_on s w) next d.0 x actions (carrier m stands s w good) replies in
      what_came (is_app x && is_open_hold (hold_of (m.node_of (peer_on s w)) (conn d.0))) x (ups_of actions) heard.hands
  at_event w good s (StartEvent c) actions next replies =
      carries.does.silent (peer_on s w) next (StartEvent c) actions (carrier m stands s w good) (λ d x e. cc) replies
  at_event w good s (StopEvent cause) actions next replies =
      carries.does.silent (peer_on s w) next (StopEvent cause) actions (carrier m stands s w good) (λ d x e. cc) replies
  at_event w good s TimeoutEvent actions next replies =
      carries.does.silent (peer_on s w) next TimeoutEvent actions (carrier m stands s w good) (λ d x e. cc) replies
  at_event w good s TickEvent actions next replies =
      carries.does.silent (peer_on s w) next TickEvent actions (carrier m stands s w good) (λ d x e. cc) replies
  at_event w good s (AckEvent c) actions next replies =
      carries.does.silent (peer_on s w) next (AckEvent c) actions (carrier m stands s w good) (λ d x e. cc) replies
  at_event w good s (NackEvent c) actions next replies =
      carries.does.silent (peer_on s w) next (NackEvent c) actions (carrier m stands s w good) (λ d x e. cc) replies
  at_event w good s (GoneEvent c) actions next replies =
      carries.does.silent (peer_on s w) next (GoneEvent c) actions (carrier m stands s w good) (λ d x e. cc) replies
  at_event w good s (SubmitEvent x) actions next replies =
      carries.does.silent (peer_on s w) next (SubmitEvent x) actions (carrier m stands s w good) (λ d y e. cc) replies

  pub hands_up_what_came : (hs : List (Happening M)) (w : World P M) → IsCarrying m stands w →
      HandUpWhatCame (all_turns m w hs)
  hands_up_what_came [] w good = All-nil _
  hands_up_what_came (h ∷ hs) w good =
      All-append (λ u. IsWhatCame u.event (ups_of u.actions)) (turns m w h)
      (all_turns m (world_after w (happens m w h)) hs)
      (each_turn m (λ u. IsWhatCame u.event (ups_of u.actions)) w (at_event w good) h)
      (hands_up_what_came hs (world_after w (happens m w h))
      (happening_carries m laws is is_app stands carries false A 0 w h good))

pub run_hands_up : {P M : Type 0} (m : Peers P M) → MachineLaws → IsMachine m →
    (is_app : M → Bool) (stands : P → Bool) → CarriesMessages m is_app stands → (a b : P) →
    IsSoundWorld m (world_of a b) → IsTrue (stands a) → IsTrue (stands b) →
    (hs : List (Happening M)) → HandUpWhatCame (all_turns m (world_of a b) hs)
run_hands_up {P} {M} m laws is is_app stands carries a b sound left right hs =
    hands_up_what_came m laws is is_app stands (carries_on_proof m is_app stands laws is carries) hs (world_of a b)
    (record { sound = sound; fits = both })
  where
    both : (s : Side) → IsTrue (stands (peer_on s (world_of {M = M} a b)))
    both A = left
    both B = right
