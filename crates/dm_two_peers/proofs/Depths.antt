-- How many steps lead to a phase, and the phases in which a run rests.
use Rattle.std.proofs.Common.{◌≡◌, ℕ, zero, suc, ◌+◌, Bool, true, false, nat_le, Some, None}
use Rattle.std.proofs.Common.{List, [], ◌∷◌, length, slice_get, refl, sym, ap, subst, arith}
use Rattle.std.proofs.Common.{◌≤◌}
use Rattle.std.specs.List.{list_all}
use Rattle.std.proofs.lemmas.Bool.{and_parts, eqb-true, leb-true}
use Rattle.dm_machine.specs.declared.state_name.State.{State}
use Rattle.dm_machine.specs.declared.state_name.State.TheVariants.{Closed}
use Rattle.dm_machine.specs.Node.{is_held_in, is_count_of}
use Rattle.dm_two_peers.specs.Machine.{Conn, Role, Initiated, Accepted, Node, node_at, is_shaped, closed_node}
use Rattle.dm_two_peers.specs.Links.{Coming}
use Rattle.dm_two_peers.specs.Agreement.{IsOpenOn}
use Rattle.dm_two_peers.proofs.CleanSteps.{i_open, r_open}
use Rattle.dm_two_peers.proofs.Stages.{Stage, Unmade, Accepted, Parted}
use Rattle.dm_two_peers.proofs.Phases.{Phase, C1, C2, C3, C4, C5, C6, C7, C8, C9, C25, stage_g, stage_l, depth, present}

pub all_at : {X : Type 0} (f : X → Bool) (xs : List X) (d : ℕ) (x : X) → list_all f xs ≡ true →
    slice_get xs d ≡ Some x → f x ≡ true
all_at f [] d x h e = cc
all_at f (z ∷ zs) zero x h e = subst (λ o. elim o [ None ↦ true | Some q ↦ f q ] ≡ true) e
    (and_parts (f z) (list_all f zs) h).0
all_at f (z ∷ zs) (suc d) x h e = all_at f zs d x (and_parts (f z) (list_all f zs) h).1 e

pub past_end : {X : Type 0} (xs : List X) → slice_get xs (length xs) ≡ None
past_end [] = refl
past_end (x ∷ xs) = past_end xs

pub past_more : {X : Type 0} (xs : List X) → slice_get xs (suc (length xs)) ≡ None
past_more [] = refl
past_more (x ∷ xs) = past_more xs

-- a link on which nothing is under way
abbrev pub still : Stage → Bool
still Unmade = true
still Accepted = true
still (Parted Coming o) = false
still (Parted i Coming) = false
still (Parted i o) = true
still _ = false

-- so many steps lead to a phase, and to one with the link of one side alone
pub nine_depth : (k : Phase) → nat_le (depth k) 9 ≡ true
nine_depth C1 = refl
nine_depth _ = refl

pub nine_by : (k : Phase) (n : ℕ) → 0 + n ≤ depth k → n ≤ 9
nine_by k n h = let low = leb-true (depth k) 9 (nine_depth k) in omega (arith, h, low)

pub alone_l : (k : Phase) (x : ℕ) → present (stage_g k) x ≡ [] → nat_le (depth k) 4 ≡ true
alone_l C1 x h = refl
alone_l C3 x h = refl
alone_l C5 x h = refl
alone_l C7 x h = refl
alone_l C9 x h = refl
alone_l _ x h = cc

pub alone_g : (k : Phase) (y : ℕ) → present (stage_l k) y ≡ [] → nat_le (depth k) 4 ≡ true
alone_g C1 y h = refl
alone_g C2 y h = refl
alone_g C4 y h = refl
alone_g C6 y h = refl
alone_g C8 y h = refl
alone_g _ y h = cc

pub four_low : (k : Phase) (n : ℕ) → nat_le (depth k) 4 ≡ true → 0 + n ≤ depth k → n ≤ 4
four_low k n e h = let low = leb-true (depth k) 4 e in omega (arith, h, low)

-- where a run may fall quiet
pub data Rests : Phase → Type 0 where
  idle : Rests C1
  only_g : Rests C8
  only_l : Rests C9
  both : Rests C25

pub rests_when_still : (k : Phase) → still (stage_g k) ≡ true → still (stage_l k) ≡ true → Rests k
rests_when_still C1 p q = idle
rests_when_still C8 p q = only_g
rests_when_still C9 p q = only_l
rests_when_still C25 p q = both
rests_when_still _ p q = cc

pub opens_as_i : (n : Node) (x : ℕ) → n ≡ i_open x → IsOpenOn n Initiated x
opens_as_i n x e = subst (λ k. IsOpenOn k Initiated x) (sym e) (record { is_open = refl; holds = refl })

pub opens_as_r : (n : Node) (x : ℕ) → n ≡ r_open x → IsOpenOn n Accepted x
opens_as_r n x e = subst (λ k. IsOpenOn k Accepted x) (sym e) (record { is_open = refl; holds = refl })

-- a Closed node has no connections
no_count : (held : List (Role × Conn)) (n : ℕ) → is_count_of Closed n ≡ true → node_at Closed [] n ≡ closed_node
no_count held n h = ap (λ (k : ℕ). node_at Closed [] k) (eqb-true n 0 h)

bare_at : (s : State) (held : List (Role × Conn)) (n : ℕ) → is_held_in s held ≡ true → is_count_of s n ≡ true →
    s ≡ Closed → node_at s held n ≡ closed_node
bare_at Closed [] n h c e = no_count [] n c
bare_at Closed (p ∷ ps) n h c e = cc
bare_at _ held n h c e = cc

pub bare : (n : Node) → is_shaped n ≡ true → n.state ≡ Closed → n ≡ closed_node
bare n h e =
    let parts = and_parts (is_held_in n.state n.held) (is_count_of n.state n.count) h in
    bare_at n.state n.held n.count parts.0 parts.1 e
