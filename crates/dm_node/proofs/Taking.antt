-- A peer takes no connection but the one that its event names.
use Rattle.std.proofs.Common.{◌≡◌, ℕ, Bool, true, false, not, ◌&&◌, ◌==◌, List, [], Option, Some, IsSome, IsTrue, Result, Ok, Err, IfErr, OnOk, OnErr, refl, sym, ap, subst, ◌∙◌, inl, inr, ◌⊎◌}
use Rattle.std.proofs.Math.ListN.{set}
use Rattle.std.proofs.lemmas.Bool.{eqb-true, false_from_ne_true, true_from_ne_false, true≢false, cases_eq}
use Rattle.std.proofs.lemmas.List.{length-set}
use Rattle.dm_base.specs.Before.{lower}
use Rattle.dm_peer.specs.declared.config.Config.{Config}
use Rattle.dm_node.proofs.Basics.{two_truths}
use Rattle.dm_node.proofs.Places.{set_here, set_else, hosts_set, each_same}
use Rattle.dm_machine.specs.declared.connection.Conn.{Conn}
use Rattle.dm_machine.specs.Connection.{Hold, NotHeld, Concern, concern_of, if_named, AtConnection}
use Rattle.dm_machine.specs.Openings.{is_hold, names_it, LeavesOthersAlone}
use Rattle.dm_machine.specs.Node.{is_shaped}
use Rattle.dm_machine.specs.Moves as moves
use Rattle.dm_peer.specs.declared.actions.Action.{Action}
use Rattle.dm_peer.specs.declared.peer.Peer.{Peer}
use Rattle.dm_peer.specs.Configs.{wins}
use Rattle.dm_peer.specs.Events.{PeerEvent, Start, Ack, Nack, Arrived, Gone}
use Rattle.dm_peer.specs.Said.{Heard}
use Rattle.dm_peer.specs.Acts.{Moved, acts, input_of}
use Rattle.dm_peer.specs.Steps.{EachEventIsOneStep, Follows, IsStep}
use Rattle.dm_node.specs.Holding.{peer_at, is_held, holds, holds_it, holds_at, host_of, host_at, AreApart}
use Rattle.dm_peer.specs.Holding.{names_conn}
use Rattle.dm_node.specs.Telling.{conn_of, PeerIsTold}

numbered : (d c : Conn) → (d.0 == c.0) ≡ true → Some d ≡ Some c
numbered d c e = ap (λ n. Some (record { 0 = n })) (eqb-true d.0 c.0 e)

named : (e : PeerEvent) (c : Conn) → names_conn e c ≡ true → conn_of e ≡ Some c
named (Start d) c is = numbered d c is
named (Ack d) c is = numbered d c is
named (Nack d) c is = numbered d c is
named (Arrived d s) c is = numbered d c is
named (Gone d) c is = numbered d c is
named e c is = absurd (true≢false (sym is))

named_if : (k : Concern) (b : Bool) → b ≡ false → names_it (if_named b k) ≡ false
named_if k b e = rw e refl

not_named : (e : PeerEvent) (h : Option Heard) (c : Conn) → names_conn e c ≡ false →
    names_it (concern_of (input_of e h) c) ≡ false
not_named (Start d) h c un = named_if _ (d.0 == c.0) un
not_named (Ack d) h c un = named_if _ (d.0 == c.0) un
not_named (Nack d) h c un = named_if _ (d.0 == c.0) un
not_named (Arrived d s) h c un = named_if _ (d.0 == c.0) un
not_named (Gone d) h c un = named_if _ (d.0 == c.0) un
not_named e h c un = refl

free : (h : Hold) → is_held h ≡ false → is_hold NotHeld h ≡ true
free NotHeld e = refl
free h e = cc

both : (a b : Bool) → a ≡ true → b ≡ false → IsTrue (a && not b)
both a b p q = rw (p, q) refl

at_step : LeavesOthersAlone → (p q : Peer) (e : PeerEvent) (actions : List Action) →
    IsTrue (is_shaped p.standing.core) →
    IsStep p e actions q → (c : Conn) → names_conn e c ≡ false → holds c p ≡ false → holds c q ≡ false
at_step alone p q e actions shaped s c free_of not_held =
    let at : AtConnection (λ k before after orders.
    IsTrue (is_hold NotHeld before && not (names_it k)) → (after ≡ NotHeld) × (orders ≡ []))
    p.standing.core (input_of e s.heard) c (moves.NodeMoved s.commands q.standing.core) =
    subst (λ o. AtConnection (λ k before after orders.
    IsTrue (is_hold NotHeld before && not (names_it k)) → (after ≡ NotHeld) × (orders ≡ []))
    p.standing.core (input_of e s.heard) c o) s.moves
    (alone p.standing.core (input_of e s.heard) (wins p.config) c shaped) in
    ap is_held (at (both _ _ (free _ not_held) (not_named e s.heard c free_of))).0

-- a peer holds of the connections that it didn't hold at most the one that its event names
pub stays : EachEventIsOneStep → LeavesOthersAlone → (p q : Peer) (e : PeerEvent) (actions : List Action) →
    IsTrue (is_shaped p.standing.core) → acts p e ≡ Moved actions q → (c : Conn) → names_conn e c ≡ false →
    holds c p ≡ false → holds c q ≡ false
stays step alone p q e actions shaped is c free_of not_held =
    elim (subst (Follows p e) is (step p e)) [
      | inl s ↦ at_step alone p q e actions shaped s c free_of not_held
      | inr d ↦ subst (λ x. holds c x ≡ false) (sym d.same) not_held
    ]

-- so one that didn't hold it holds at most the connection on which it is told octets
pub first_on : EachEventIsOneStep → LeavesOthersAlone → (p q : Peer) (c d : Conn) (octets : List ℕ)
    (actions : List Action) → IsTrue (is_shaped p.standing.core) → acts p (Arrived c octets) ≡ Moved actions q →
    holds d p ≡ false → holds d q ≡ true → (c.0 == d.0) ≡ true
first_on step alone p q c d octets actions shaped is unheld held =
    true_from_ne_false (c.0 == d.0) (λ other. two_truths (holds d q) held
    (stays step alone p q (Arrived c octets) actions shaped is d other unheld))

pub config_kept : EachEventIsOneStep → (p q : Peer) (e : PeerEvent) (actions : List Action) →
    acts p e ≡ Moved actions q → q.config ≡ p.config
config_kept step p q e actions is =
    elim (subst (Follows p e) is (step p e)) [
      | inl s ↦ s.config
      | inr d ↦ ap (λ (x : Peer). x.config) d.same
    ]

else_before : (ps : List (Option Peer)) (i j : ℕ) (y : Peer) (c : Conn) → (j ≡ i → ⊥) →
    holds_at (set ps i (Some y)) c j ≡ true →
    holds_at ps c j ≡ true
else_before ps i j y c un h = subst (λ o. holds_it c o ≡ true) (set_else ps i j (Some y) un) h

-- what an event leaves: a peer of the same configuration, which holds of the connections that it didn't hold at most
-- the one that is named
pub record Leaves (e : PeerEvent) (x y : Peer) : Type 0 where
  pub takes : (c : Conn) → names_conn e c ≡ false → holds c x ≡ false → holds c y ≡ false
  pub config : y.config ≡ x.config

pub leaves : EachEventIsOneStep → LeavesOthersAlone → (x y : Peer) (e : PeerEvent) →
    IsTrue (is_shaped x.standing.core) →
    ((actions : List Action) × (acts x e ≡ Moved actions y)) ⊎ (y ≡ x) → Leaves e x y
leaves step alone x y e shaped (inl m) =
    record { takes = stays step alone x y e m.0 shaped m.1; config = config_kept step x y e m.0 m.1 }
leaves step alone x y e shaped (inr same) =
    subst (Leaves e x) (sym same) (record { takes = λ c un unheld. unheld; config = refl })

-- what it holds then no other does
cross : (ps : List (Option Peer)) (i k : ℕ) (e : PeerEvent) (x y : Peer) (c : Conn) → peer_at ps i ≡ Some x →
    Leaves e x y → ((j : ℕ) (c : Conn) → conn_of e ≡ Some c → holds_at ps c j ≡ true → j ≡ i) → AreApart ps →
    (k ≡ i → ⊥) → holds_at ps c k ≡ true → holds c y ≡ true → ⊥
cross ps i k e x y c at left only apart un there now =
    two_truths (holds c y) now
    (left.takes c (false_from_ne_true (names_conn e c) (λ is. un (only k c (named e c is) there)))
    (false_from_ne_true (holds c x) (λ was. un (apart.one k i c there (ap (holds_it c) at ∙ was)))))

pub apart_after : (ps : List (Option Peer)) (i : ℕ) (e : PeerEvent) (x y : Peer) → peer_at ps i ≡ Some x →
    peer_at (set ps i (Some y)) i ≡ Some y → Leaves e x y →
    ((j : ℕ) (c : Conn) → conn_of e ≡ Some c → holds_at ps c j ≡ true → j ≡ i) → AreApart ps →
    AreApart (set ps i (Some y))
apart_after ps i e x y there now left only apart = record {
  one = λ j k c h g.
      elim (cases_eq j i) [
        | inl a ↦ elim (cases_eq k i) [
          | inl b ↦ a ∙ sym b
          | inr nb ↦
              absurd (cross ps i k e x y c there left only apart nb (else_before ps i k y c nb g) (here j c a h))
        ]
        | inr na ↦ elim (cases_eq k i) [
          | inl b ↦
              absurd (cross ps i j e x y c there left only apart na (else_before ps i j y c na h) (here k c b g))
          | inr nb ↦ apart.one j k c (else_before ps i j y c na h) (else_before ps i k y c nb g)
        ]
      ];
}
  where
    here : (j : ℕ) (c : Conn) → j ≡ i → holds_at (set ps i (Some y)) c j ≡ true → holds c y ≡ true
    here j c s held = sym (ap (holds_it c) (ap (peer_at (set ps i (Some y))) s ∙ now)) ∙ held

pub hosts_after : (ps : List (Option Peer)) (i : ℕ) (e : PeerEvent) (x y : Peer) → peer_at ps i ≡ Some x →
    peer_at (set ps i (Some y)) i ≡ Some y → Leaves e x y → (j : ℕ) → host_at (set ps i (Some y)) j ≡ host_at ps j
hosts_after ps i e x y there now left =
    hosts_set ps i (Some y) (ap (λ (k : Config). Some (lower k.peer)) left.config ∙ sym (ap host_of there))

pub is_told : (ps : List (Option Peer)) (i : ℕ) (e : PeerEvent) (x y : Peer) (actions : List Action) →
    peer_at ps i ≡ Some x → peer_at (set ps i (Some y)) i ≡ Some y → acts x e ≡ Moved actions y →
    PeerIsTold ps (set ps i (Some y)) i e actions
is_told ps i e x y actions there now is = record {
  before = x;
  after = y;
  was = there;
  acts = is;
  is = now;
  others = λ j un. set_else ps i j (Some y) un;
  count = length-set ps i (Some y);
}

-- what holds of him behind it, and of each other as he was, holds of each
pub told_cases : (Q : Option Peer → Type 0) (ps qs : List (Option Peer)) (i j : ℕ) (e : PeerEvent)
    (actions : List Action) (told : PeerIsTold ps qs i e actions) → (j ≡ i → Q (Some told.after)) →
    ((j ≡ i → ⊥) → Q (peer_at ps j)) → Q (peer_at qs j)
told_cases Q ps qs i j e actions told here elsewhere =
    elim (cases_eq j i) [
      | inl s ↦ subst Q (sym (ap (peer_at qs) s ∙ told.is)) (here s)
      | inr un ↦ subst Q (sym (told.others j un)) (elsewhere un)
    ]

-- so he is put in his place, and nobody else is
pub told_set : (ps qs : List (Option Peer)) (i : ℕ) (e : PeerEvent) (actions : List Action)
    (told : PeerIsTold ps qs i e actions) → qs ≡ set ps i (Some told.after)
told_set ps qs i e actions told =
    let rs = set ps i (Some told.after) in
    let here : peer_at rs i ≡ Some told.after = set_here ps i (Some told.after) (subst IsSome (sym told.was) refl) in
    each_same qs rs (told.count ∙ sym (length-set ps i (Some told.after))) (λ j.
    told_cases (λ o. o ≡ peer_at rs j) ps qs i j e actions told (λ s. sym (ap (peer_at rs) s ∙ here))
    (λ un. sym (set_else ps i j (Some told.after) un)))

pub if_err : {A E : Type 0} {P Q : E → Type 0} (r : Result A E) → ((e : E) → P e → Q e) → IfErr r P → IfErr r Q
if_err (Ok a) f h = tt
if_err (Err e) f h = f e h

-- the same where what is done is put in
pub if_done : {A E : Type 0} {P Q : Type 0} (r : Result A E) → (P → Q) → OnOk r P → OnOk r Q
if_done (Ok a) f h = f h
if_done (Err e) f h = tt

pub done_or_same : {A E : Type 0} (actions : List Action) (x y : Peer) (e : PeerEvent) (r : Result A E) →
    OnOk r (acts x e ≡ Moved actions y) → OnErr r (y ≡ x) →
    ((actions : List Action) × (acts x e ≡ Moved actions y)) ⊎ (y ≡ x)
done_or_same actions x y e (Ok a) ok err = inl (actions, ok)
done_or_same actions x y e (Err f) ok err = inr err
