-- Whatever happens keeps two peers over octets as the laws of clean runs ask for them.
use Rattle.std.proofs.Common.{◌≡◌, ℕ, ◌+◌, ◌==◌, Bool, true, false, nat_lt, Option, Some, None, List, length, slice_get, if◌then◌else◌, refl, sym, subst, ◌<◌, ◌^◌, arith}
use Rattle.std.specs.Prelude.{◌&&◌, ◌||◌, is_none}
use Rattle.std.proofs.lemmas.Bool.{and_parts, and_from}
use Rattle.std.proofs.lemmas.Bool.Decides.{nat_tests}
use Rattle.dm_machine.specs.Node.{is_shaped}
use Rattle.dm_peer.specs.declared.config.Config.{Config}
use Rattle.dm_peer.specs.declared.peer.Peer.{Peer}
use Rattle.dm_peer.specs.Acts.{Outcome, Moved, Refused, acts}
use Rattle.dm_peer.specs.After.{fresh_standing}
use Rattle.dm_two_peers.specs.Machine.{conn}
use Rattle.dm_two_peers.specs.Links.{Side, A, B, LinkPhase, LinkPending, LinkUp, LinkCancelled, End, Fresh, Open, Shut, Link}
use Rattle.dm_two_peers.specs.Peers.{Event, StartEvent, StopEvent, TimeoutEvent, TickEvent, AckEvent, NackEvent, GoneEvent, SubmitEvent, ArrivedEvent}
use Rattle.dm_two_peers.specs.Worlds.{World, peer_on, with_peer, with_links, After, Ignored, after_reply}
use Rattle.dm_two_peers.specs.Worlds as worlds
use Rattle.dm_two_peers.specs.Happens.{Starts, Stops, TimesOut, Ticks, Restarts, Acks, Nacks, Delivers, Pieces, Loses, Submits, Next, NextMessage, NextDisconnect, NextNothing, next_in, comes, deliver_next, deliver_part, are_shut, restart_links, if_up, if_pending, at_link, own_view, world_after}
use Rattle.dm_machine.specs.Awaiting.{holds_cer}
use Rattle.dm_octet_peers.specs.Octets.{of_event, as_reply, octet_peers}
use Rattle.dm_base.specs.Fit.{is_number}
use Rattle.dm_octet_peers.specs.Talking.{ArePaired, is_standing, ArePeers}
use Rattle.dm_octet_peers.specs.Laws.{FreshArePeers, HappeningKeepsPeers}
use Rattle.dm_octet_peers.proofs.KeepingPeer.{MachineLaws, IsKept, KeepsPeer, acts_keep}

-- a side's peer in a world of two
kept_at : (s : Side) (w : World Peer (List ℕ)) → ArePeers w → IsKept (peer_on s w)
kept_at A w are = (are.left, are.left_returns)
kept_at B w are = (are.right, are.right_returns)

peer_kept : (s : Side) (next : Peer) (links : List (Link (List ℕ))) (w : World Peer (List ℕ)) → ArePeers w →
    next.config ≡ (peer_on s w).config → IsKept next → ArePeers (with_peer s next links w)
peer_kept A next links w are same stands =
    record {
      paired = subst (λ c. ArePaired c w.b.config) (sym same) are.paired;
      left = stands.0;
      right = are.right;
      left_returns = stands.1;
      right_returns = are.right_returns;
    }
peer_kept B next links w are same stands =
    record {
      paired = subst (λ c. ArePaired w.a.config c) (sym same) are.paired;
      left = are.left;
      right = stands.0;
      left_returns = are.left_returns;
      right_returns = stands.1;
    }

links_kept : (links : List (Link (List ℕ))) (w : World Peer (List ℕ)) → ArePeers w → ArePeers (with_links links w)
links_kept links w are =
    record {
      paired = are.paired;
      left = are.left;
      right = are.right;
      left_returns = are.left_returns;
      right_returns = are.right_returns;
    }

answered_kept : (s : Side) (e : Event (List ℕ)) (w : World Peer (List ℕ)) (o : Outcome) → ArePeers w →
    KeepsPeer (peer_on s w) o → ArePeers (world_after w (after_reply octet_peers s e w (as_reply o)))
answered_kept s e w (Moved actions next) are keeps = peer_kept s next _ w are keeps.0 keeps.1
answered_kept s e w (Refused f) are keeps = are

told_kept : MachineLaws → (s : Side) (e : Event (List ℕ)) (w : World Peer (List ℕ)) → ArePeers w →
    ArePeers (world_after w (worlds.tell octet_peers s e w))
told_kept machine s e w are =
    answered_kept s e w (acts (peer_on s w) (of_event e)) are
    (acts_keep machine (peer_on s w) (of_event e) (kept_at s w are))

comes_kept : MachineLaws → (s : Side) (e : Event (List ℕ)) (end : End) (w : World Peer (List ℕ)) →
    ArePeers w → ArePeers (world_after w (comes octet_peers s e end w))
comes_kept machine s e Shut w are = links_kept _ w are
comes_kept machine s e Fresh w are = told_kept machine s e w are
comes_kept machine s e Open w are = told_kept machine s e w are

delivered_kept : MachineLaws → (c : ℕ) (s : Side) (end : End) (n : Next (List ℕ)) (w : World Peer (List ℕ)) →
    ArePeers w → ArePeers (world_after w (deliver_next octet_peers c s end n w))
delivered_kept machine c s end NextNothing w are = are
delivered_kept machine c s end (NextMessage x) w are = comes_kept machine s (ArrivedEvent (conn c) x) end w are
delivered_kept machine c s end NextDisconnect w are = comes_kept machine s (GoneEvent (conn c)) end w are

-- of two outcomes, or one at a link
abbrev AfterKept : World Peer (List ℕ) → After Peer (List ℕ) → Type 0
AfterKept w after = ArePeers (world_after w after)

if_kept : (w : World Peer (List ℕ)) (b : Bool) (x y : After Peer (List ℕ)) → AfterKept w x → AfterKept w y →
    AfterKept w (if b then x else y)
if_kept w true x y at_x at_y = at_x
if_kept w false x y at_x at_y = at_y

up_kept : (w : World Peer (List ℕ)) (p : LinkPhase) (x : After Peer (List ℕ)) → ArePeers w → AfterKept w x →
    AfterKept w (if_up p x Ignored)
up_kept w LinkUp x are at_x = at_x
up_kept w LinkPending x are at_x = are
up_kept w LinkCancelled x are at_x = are

pending_kept : (w : World Peer (List ℕ)) (p : LinkPhase) (x : After Peer (List ℕ)) → ArePeers w → AfterKept w x →
    AfterKept w (if_pending p x Ignored)
pending_kept w LinkPending x are at_x = at_x
pending_kept w LinkUp x are at_x = are
pending_kept w LinkCancelled x are at_x = are

there_kept : (w : World Peer (List ℕ)) (o : Option (Link (List ℕ))) (f : Link (List ℕ) → After Peer (List ℕ)) →
    ArePeers w → ((l : Link (List ℕ)) → AfterKept w (f l)) → AfterKept w (at_link o f)
there_kept w None f are each = are
there_kept w (Some l) f are each = each l

pieced_kept : MachineLaws → (c : ℕ) (s : Side) (k : ℕ) (end : End) (taken : ℕ) (n : Next (List ℕ))
    (w : World Peer (List ℕ)) → ArePeers w → AfterKept w (deliver_part octet_peers c s k end taken n w)
pieced_kept machine c s k end taken NextNothing w are = are
pieced_kept machine c s k end taken NextDisconnect w are = are
pieced_kept machine c s k end taken (NextMessage x) w are =
    if_kept w (nat_lt (taken + k) (octet_peers.size x)) _ _ (links_kept _ w are)
    (comes_kept machine s (ArrivedEvent (conn c) x) end w are)

-- a new peer stands, and so does one after a restart
number_stands : (n : ℕ) (rest : Bool) → is_number n ≡ true → rest ≡ true → (is_number n && rest) ≡ true
number_stands n rest fits stands = and_from (is_number n) rest fits stands

pub fresh_stands : (c : Config) (next : ℕ) → is_number next ≡ true →
    is_standing (record { config = c; standing = fresh_standing next }) ≡ true
fresh_stands c next fits = number_stands next true fits refl

pub next_of : (p : Peer) → is_standing p ≡ true → is_number p.standing.next ≡ true
next_of p was = (and_parts (is_number p.standing.next) (is_shaped p.standing.core &&
    (holds_cer p.standing.core.state || is_none p.standing.waiting)) was).0

reset_kept : (s : Side) (w : World Peer (List ℕ)) → ArePeers w →
    ArePeers (with_peer s (octet_peers.reset (peer_on s w)) (restart_links s w.links) w)
reset_kept s w are = peer_kept s _ _ w are refl
    (fresh_stands (peer_on s w).config (peer_on s w).standing.next (next_of (peer_on s w) (kept_at s w are).0), refl)

pub is_below : {n : ℕ} → n < 2 ^ 32 → is_number n ≡ true
is_below h = grind (arith, nat_tests)

pub fresh_are_peers : FreshArePeers
fresh_are_peers a b paired left right =
    record {
      paired = paired;
      left = fresh_stands a a.first_id (is_below left);
      right = fresh_stands b b.first_id (is_below right);
      left_returns = refl;
      right_returns = refl;
    }

pub happening_keeps_peers : MachineLaws → HappeningKeepsPeers
happening_keeps_peers machine w (Starts s) are = told_kept machine s (StartEvent (conn (length w.links))) w are
happening_keeps_peers machine w (Stops s cause) are = told_kept machine s (StopEvent cause) w are
happening_keeps_peers machine w (TimesOut s) are = told_kept machine s TimeoutEvent w are
happening_keeps_peers machine w (Ticks s) are = told_kept machine s TickEvent w are
happening_keeps_peers machine w (Submits s x) are = told_kept machine s (SubmitEvent x) w are
happening_keeps_peers machine w (Restarts s) are = reset_kept s w are
happening_keeps_peers machine w (Acks c) are =
    there_kept w (slice_get w.links c) _ are (λ l.
    pending_kept w l.phase _ are (told_kept machine l.opener (AckEvent (conn c)) w are))
happening_keeps_peers machine w (Nacks c) are =
    there_kept w (slice_get w.links c) _ are (λ l.
    pending_kept w l.phase _ are (told_kept machine l.opener (NackEvent (conn c)) w are))
happening_keeps_peers machine w (Delivers c s) are =
    there_kept w (slice_get w.links c) _ are (λ l.
    let v = own_view s l in
    up_kept w l.phase _ are
    (delivered_kept machine c s v.own (next_in v.incoming.messages v.incoming.mark) w are))
happening_keeps_peers machine w (Pieces c s k) are =
    there_kept w (slice_get w.links c) _ are (λ l.
    let v = own_view s l in
    up_kept w l.phase _ are
    (if_kept w (k == 0) Ignored _ are
    (pieced_kept machine c s k v.own v.incoming.taken (next_in v.incoming.messages v.incoming.mark) w are)))
happening_keeps_peers machine w (Loses c a b) are =
    there_kept w (slice_get w.links c) _ are (λ l.
    up_kept w l.phase _ are (if_kept w (are_shut l.opener_end l.other_end) Ignored _ are (links_kept _ w are)))
