-- What each reply and each restart keeps of a peer, a happening keeps of both.
use Rattle.std.proofs.Common.{◌≡◌, ℕ, ◌+◌, ◌==◌, Bool, true, false, nat_lt, if◌then◌else◌, Option, Some, None, List}
use Rattle.std.proofs.Common.{slice_get, length, refl}
use Rattle.dm_two_peers.specs.Machine.{conn}
use Rattle.dm_two_peers.specs.Links.{Side, A, B, LinkPhase, LinkPending, LinkUp, LinkCancelled, End, Fresh, Open, Shut, Link}
use Rattle.dm_two_peers.specs.Peers.{Event, StartEvent, StopEvent, TimeoutEvent, TickEvent, AckEvent, NackEvent, GoneEvent, SubmitEvent, ArrivedEvent, Action, Reply}
use Rattle.dm_two_peers.specs.Peers.{ActsBy, Declines, Peers}
use Rattle.dm_two_peers.specs.Worlds.{World, peer_on, with_peer, with_links, After, Ignored, after_reply, tell}
use Rattle.dm_two_peers.specs.Happens.{Happening, Starts, Stops, TimesOut, Ticks, Restarts, Acks, Nacks, Delivers, Pieces}
use Rattle.dm_two_peers.specs.Happens.{Loses, Submits, Next, NextMessage, NextDisconnect, NextNothing, next_in, comes}
use Rattle.dm_two_peers.specs.Happens.{deliver_next, deliver_part, are_shut, restart_links, if_up, if_pending, at_link}
use Rattle.dm_two_peers.specs.Happens.{own_view, happens, world_after}

module _ {P M : Type 0} (m : Peers P M) (Keeps : P → Type 0) (w : World P M) (now : (s : Side) → Keeps (peer_on s w))
    (acts : (s : Side) (e : Event M) (actions : List (Action M)) (next : P) →
    m.reply (peer_on s w) e ≡ ActsBy actions next → Keeps next)
    (resets : (s : Side) → Keeps (m.reset (peer_on s w))) where
  abbrev BothKeep : After P M → Type 0
  BothKeep after = (s : Side) → Keeps (peer_on s (world_after w after))

  by_peer : (t : Side) (p : P) (links : List (Link M)) → Keeps p → (s : Side) →
      Keeps (peer_on s (with_peer t p links w))
  by_peer A p links h A = h
  by_peer A p links h B = now B
  by_peer B p links h A = now A
  by_peer B p links h B = h

  by_links : (links : List (Link M)) (s : Side) → Keeps (peer_on s (with_links links w))
  by_links links A = now A
  by_links links B = now B

  replied : (t : Side) (e : Event M) (r : Reply P M) → m.reply (peer_on t w) e ≡ r → BothKeep (after_reply m t e w r)
  replied t e Declines is = now
  replied t e (ActsBy actions p) is = by_peer t p _ (acts t e actions p is)

  told_both : (t : Side) (e : Event M) → BothKeep (tell m t e w)
  told_both t e = replied t e (m.reply (peer_on t w) e) refl

  comes_both : (t : Side) (e : Event M) (end : End) → BothKeep (comes m t e end w)
  comes_both t e Shut = by_links _
  comes_both t e Fresh = told_both t e
  comes_both t e Open = told_both t e

  delivered_both : (c : ℕ) (t : Side) (end : End) (n : Next M) → BothKeep (deliver_next m c t end n w)
  delivered_both c t end NextNothing = now
  delivered_both c t end (NextMessage x) = comes_both t (ArrivedEvent (conn c) x) end
  delivered_both c t end NextDisconnect = comes_both t (GoneEvent (conn c)) end

  if_both : (b : Bool) (x y : After P M) → BothKeep x → BothKeep y → BothKeep (if b then x else y)
  if_both true x y f g = f
  if_both false x y f g = g

  pieced_both : (c : ℕ) (t : Side) (k : ℕ) (end : End) (taken : ℕ) (n : Next M) →
      BothKeep (deliver_part m c t k end taken n w)
  pieced_both c t k end taken NextNothing = now
  pieced_both c t k end taken NextDisconnect = now
  pieced_both c t k end taken (NextMessage x) =
      if_both (nat_lt (taken + k) (m.size x)) _ _ (by_links _) (comes_both t (ArrivedEvent (conn c) x) end)

  up_both : (p : LinkPhase) (x : After P M) → BothKeep x → BothKeep (if_up p x Ignored)
  up_both LinkUp x f = f
  up_both LinkPending x f = now
  up_both LinkCancelled x f = now

  pending_both : (p : LinkPhase) (x : After P M) → BothKeep x → BothKeep (if_pending p x Ignored)
  pending_both LinkPending x f = f
  pending_both LinkUp x f = now
  pending_both LinkCancelled x f = now

  there_both : (o : Option (Link M)) (f : Link M → After P M) → ((l : Link M) → BothKeep (f l)) →
      BothKeep (at_link o f)
  there_both None f each = now
  there_both (Some l) f each = each l

  pub happening_both : (h : Happening M) → BothKeep (happens m w h)
  happening_both (Starts t) = told_both t (StartEvent (conn (length w.links)))
  happening_both (Stops t cause) = told_both t (StopEvent cause)
  happening_both (TimesOut t) = told_both t TimeoutEvent
  happening_both (Ticks t) = told_both t TickEvent
  happening_both (Submits t x) = told_both t (SubmitEvent x)
  happening_both (Restarts t) = by_peer t (m.reset (peer_on t w)) (restart_links t w.links) (resets t)
  happening_both (Acks c) =
      there_both (slice_get w.links c) _ (λ l. pending_both l.phase _ (told_both l.opener (AckEvent (conn c))))
  happening_both (Nacks c) =
      there_both (slice_get w.links c) _ (λ l. pending_both l.phase _ (told_both l.opener (NackEvent (conn c))))
  happening_both (Delivers c t) =
      there_both (slice_get w.links c) _ (λ l. let v = own_view t l in
      up_both l.phase _ (delivered_both c t v.own (next_in v.incoming.messages v.incoming.mark)))
  happening_both (Pieces c t k) =
      there_both (slice_get w.links c) _ (λ l. let v = own_view t l in
      up_both l.phase _ (if_both (k == 0) Ignored _ now
      (pieced_both c t k v.own v.incoming.taken (next_in v.incoming.messages v.incoming.mark))))
  happening_both (Loses c a b) =
      there_both (slice_get w.links c) _ (λ l.
      up_both l.phase _ (if_both (are_shut l.opener_end l.other_end) Ignored _ now (by_links _)))
