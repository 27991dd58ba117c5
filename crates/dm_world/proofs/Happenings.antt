-- A happening that names a link, by what that link is.
use Rattle.std.proofs.Common.{◌≡◌, ℕ, Bool, true, false, Some, List, ◌++◌, length, slice_get, refl, sym, ap, subst, ◌∙◌}
use Rattle.std.specs.Prelude.{if◌then◌else◌}
use Rattle.dm_peer.specs.declared.peer.Peer.{Peer}
use Rattle.dm_two_peers.specs.Machine.{conn}
use Rattle.dm_two_peers.specs.Links.{A, B, Link, LinkPhase, LinkPending, LinkUp, LinkCancelled}
use Rattle.dm_two_peers.specs.Peers.{AckEvent, NackEvent}
use Rattle.dm_two_peers.specs.Facts.{is_pending}
use Rattle.dm_two_peers.specs.Worlds.{World, Put, Disconnect, After, DoneWith, Ignored, with_links, with_peer, peer_on}
use Rattle.dm_two_peers.specs.Worlds.{change_at, put_if, tell}
use Rattle.dm_two_peers.specs.Happens.{happens, Acks, Nacks, Loses, at_link, if_pending, if_up, are_shut, lost_link}
use Rattle.dm_two_peers.specs.Happens.{restart_links, restart_puts}
use Rattle.dm_world.specs.declared.fault.Effect.{Effect}
use Rattle.dm_world.specs.declared.fault.Effect.TheVariants as effect
use Rattle.dm_octet_peers.specs.Octets.{octet_peers}
use Rattle.dm_world.specs.declared.happening.Happening as declared_happening
use Rattle.dm_world.specs.declared.happening.Happening.TheVariants as happening
use Rattle.dm_world.specs.declared.side.Side as declared_side
use Rattle.dm_world.specs.Happening.{as_happening}
use Rattle.dm_world.specs.Seen.{as_side}
use Rattle.dm_world.specs.Next.{is_past_loss}
use Rattle.dm_world.specs.Views.{Effects}

pending_is : {X : Type 0} (p : LinkPhase) (b : Bool) (x y : X) → is_pending p ≡ b →
    if_pending p x y ≡ (if b then x else y)
pending_is LinkPending true x y h = refl
pending_is LinkPending false x y h = cc
pending_is LinkUp true x y h = cc
pending_is LinkUp false x y h = refl
pending_is LinkCancelled true x y h = cc
pending_is LinkCancelled false x y h = refl

-- an Ack, and a Nack
acks_is : (w : World Peer (List ℕ)) (c : ℕ) (l : Link (List ℕ)) (b : Bool) → slice_get w.links c ≡ Some l →
    is_pending l.phase ≡ b →
    happens octet_peers w (Acks c) ≡ (if b then tell octet_peers l.opener (AckEvent (conn c)) w else Ignored)
acks_is w c l b there h =
    ap (λ o. at_link o (λ k. if_pending k.phase (tell octet_peers k.opener (AckEvent (conn c)) w) Ignored)) there
    ∙ pending_is l.phase b (tell octet_peers l.opener (AckEvent (conn c)) w) Ignored h

nacks_is : (w : World Peer (List ℕ)) (c : ℕ) (l : Link (List ℕ)) (b : Bool) → slice_get w.links c ≡ Some l →
    is_pending l.phase ≡ b →
    happens octet_peers w (Nacks c) ≡ (if b then tell octet_peers l.opener (NackEvent (conn c)) w else Ignored)
nacks_is w c l b there h =
    ap (λ o. at_link o (λ k. if_pending k.phase (tell octet_peers k.opener (NackEvent (conn c)) w) Ignored)) there
    ∙ pending_is l.phase b (tell octet_peers l.opener (NackEvent (conn c)) w) Ignored h

pub ack_step : (outcome : Effect) (w w' : World Peer (List ℕ)) (c : ℕ) (l : Link (List ℕ)) →
    slice_get w.links c ≡ Some l → is_pending l.phase ≡ true →
    Effects outcome (tell octet_peers l.opener (AckEvent (conn c)) w) w w' →
    Effects outcome (happens octet_peers w (Acks c)) w w'
ack_step outcome w w' c l there h step = subst (λ (a : After Peer (List ℕ)). Effects outcome a w w')
    (sym (acks_is w c l true there h)) step

pub ack_ignored : (w : World Peer (List ℕ)) (c : ℕ) (l : Link (List ℕ)) → slice_get w.links c ≡ Some l →
    is_pending l.phase ≡ false → Effects effect.Ignored (happens octet_peers w (Acks c)) w w
ack_ignored w c l there h = (acks_is w c l false there h, refl)

pub nack_step : (outcome : Effect) (w w' : World Peer (List ℕ)) (c : ℕ) (l : Link (List ℕ)) →
    slice_get w.links c ≡ Some l → is_pending l.phase ≡ true →
    Effects outcome (tell octet_peers l.opener (NackEvent (conn c)) w) w w' →
    Effects outcome (happens octet_peers w (Nacks c)) w w'
nack_step outcome w w' c l there h step = subst (λ (a : After Peer (List ℕ)). Effects outcome a w w')
    (sym (nacks_is w c l true there h)) step

pub nack_ignored : (w : World Peer (List ℕ)) (c : ℕ) (l : Link (List ℕ)) → slice_get w.links c ≡ Some l →
    is_pending l.phase ≡ false → Effects effect.Ignored (happens octet_peers w (Nacks c)) w w
nack_ignored w c l there h = (nacks_is w c l false there h, refl)

-- a Lose
lost_if : {X : Type 0} (p : LinkPhase) (shut : Bool) (x y : X) → if_up p shut true ≡ false →
    if_up p (if shut then x else y) x ≡ y
lost_if LinkUp true x y h = cc
lost_if LinkUp false x y h = refl
lost_if LinkPending shut x y h = cc
lost_if LinkCancelled shut x y h = cc

pub lose_step : (w w' : World Peer (List ℕ)) (c a b : ℕ) (l : Link (List ℕ)) → slice_get w.links c ≡ Some l →
    is_past_loss l ≡ false → w' ≡ with_links (change_at c (lost_link (λ s. length s) a b) w.links) w →
    Effects effect.Done (happens octet_peers w (Loses c a b)) w w'
lose_step w w' c a b l there h is =
    let lost = with_links (change_at c (lost_link octet_peers.size a b) w.links) w in
    let puts : Link (List ℕ) → List (Put (List ℕ)) = λ k. put_if B (Disconnect c A) (Some k) ++
    put_if A (Disconnect c B) (Some k) in (
      puts l,
      ap (λ o. at_link o (λ k. if_up k.phase (if are_shut k.opener_end k.other_end then Ignored else DoneWith lost (puts k)) Ignored))
          there
          ∙ lost_if l.phase (are_shut l.opener_end l.other_end) Ignored (DoneWith lost (puts l)) h
          ∙ ap (λ (v : World Peer (List ℕ)). DoneWith v (puts l)) (sym is),
    )

-- a Restart
pub restart_step : (h : declared_happening.Happening) (s : declared_side.Side) (w w' : World Peer (List ℕ)) →
    h ≡ happening.Restart s →
    w' ≡ with_peer (as_side s) (octet_peers.reset (peer_on (as_side s) w)) (restart_links (as_side s) w.links) w →
    Effects effect.Done (happens octet_peers w (as_happening h)) w w'
restart_step h s w w' is done =
    let puts = restart_puts (as_side s) 0 w.links in (
      puts,
      ap (λ x. happens octet_peers w (as_happening x)) is ∙
          ap (λ (v : World Peer (List ℕ)). DoneWith v puts) (sym done),
    )
