-- What a node of the right shape holds.
use Rattle.std.proofs.Common.{◌≡◌, ℕ, true, false, List, [], ◌∷◌, refl, arith}
use Rattle.std.proofs.lemmas.Bool.{and_parts}
use Rattle.std.proofs.lemmas.Bool.Decides.{nat_tests}
use Rattle.dm_machine.specs.declared.state_name.State.{State}
use Rattle.dm_machine.specs.declared.state_name.State.TheVariants.{Closed, WaitConnAck, WaitICea, WaitConnAckElect}
use Rattle.dm_machine.specs.declared.state_name.State.TheVariants.{WaitReturns, ROpen, IOpen, Closing}
use Rattle.dm_machine.specs.Node.{is_held_in, is_count_of}
use Rattle.dm_two_peers.specs.Machine.{Conn, Role, Initiated, Accepted, Node, node_at, is_shaped, is_same_role, tie_of}
use Rattle.dm_two_peers.specs.Machine.{is_tie_held}
use Rattle.dm_two_peers.specs.Joining.{StandsOn}
use Rattle.dm_two_peers.proofs.StandingOthers.{is_connecting, is_taken}

-- nothing; one link alone, as its initiator or having accepted it; one of each; or one whose connect is pending
pub data HeldLinks (n : Node) : Type 0 where
  none : n.state ≡ Closed → HeldLinks n
  one : (role : Role) (c : ℕ) → StandsOn n role c → is_tie_held (tie_of n c) ≡ true →
      is_taken (tie_of n c) ≡ is_same_role role Accepted → ((d : ℕ) → is_tie_held (tie_of n d) ≡ true → c ≡ d) → HeldLinks n
  two : (i r : ℕ) → n.state ≡ WaitReturns → is_tie_held (tie_of n i) ≡ true → is_taken (tie_of n i) ≡ false →
      is_tie_held (tie_of n r) ≡ true → is_taken (tie_of n r) ≡ true → HeldLinks n
  pends : (c : ℕ) → is_tie_held (tie_of n c) ≡ true → is_connecting (tie_of n c) ≡ true → HeldLinks n

only_one : (s : State) (role : Role) (i : Conn) (n d : ℕ) →
    is_tie_held (tie_of (node_at s ((role, i) ∷ []) n) d) ≡ true → i.0 ≡ d
only_one s Initiated i n d h = grind (arith, nat_tests, h)
only_one s Accepted i n d h = grind (arith, nat_tests, h)

holding_at : (s : State) (held : List (Role × Conn)) (n : ℕ) → is_held_in s held ≡ true → HeldLinks (node_at s held n)
holding_at Closed [] n h = none refl
holding_at WaitConnAck ((Initiated, i) ∷ []) n h = pends i.0 (grind (arith, nat_tests)) (grind (arith, nat_tests))
holding_at WaitConnAckElect ((Initiated, i) ∷ (Accepted, r) ∷ []) n h =
    pends i.0 (grind (arith, nat_tests)) (grind (arith, nat_tests))
holding_at WaitICea ((Initiated, i) ∷ []) n h = one Initiated i.0 (record { state = refl; held = refl })
    (grind (arith, nat_tests)) (grind (arith, nat_tests)) (λ d k. only_one WaitICea Initiated i n d k)
holding_at IOpen ((Initiated, i) ∷ []) n h = one Initiated i.0 (record { state = refl; held = refl })
    (grind (arith, nat_tests)) (grind (arith, nat_tests)) (λ d k. only_one IOpen Initiated i n d k)
holding_at ROpen ((Accepted, i) ∷ []) n h = one Accepted i.0 (record { state = refl; held = refl })
    (grind (arith, nat_tests)) (grind (arith, nat_tests)) (λ d k. only_one ROpen Accepted i n d k)
holding_at Closing ((Initiated, i) ∷ []) n h = one Initiated i.0 (record { state = refl; held = refl })
    (grind (arith, nat_tests)) (grind (arith, nat_tests)) (λ d k. only_one Closing Initiated i n d k)
holding_at Closing ((Accepted, i) ∷ []) n h = one Accepted i.0 (record { state = refl; held = refl })
    (grind (arith, nat_tests)) (grind (arith, nat_tests)) (λ d k. only_one Closing Accepted i n d k)
holding_at WaitReturns ((Initiated, i) ∷ (Accepted, r) ∷ []) n h = two i.0 r.0 refl (grind (arith, nat_tests))
    (grind (arith, nat_tests)) (grind (arith, nat_tests, h)) (grind (arith, nat_tests, h))
holding_at _ _ n h = cc

pub holding_of : (n : Node) → is_shaped n ≡ true → HeldLinks n
holding_of n h =
    holding_at n.state n.held n.count (and_parts (is_held_in n.state n.held) (is_count_of n.state n.count) h).0

-- a Closed node holds nothing
none_at : (s : State) (held : List (Role × Conn)) (n c : ℕ) → is_held_in s held ≡ true → s ≡ Closed →
    is_tie_held (tie_of (node_at s held n) c) ≡ true → ⊥
none_at Closed [] n c h e k = cc
none_at Closed (p ∷ ps) n c h e k = cc
none_at _ held n c h e k = cc

pub none_held : (n : Node) (c : ℕ) → is_shaped n ≡ true → n.state ≡ Closed → is_tie_held (tie_of n c) ≡ true → ⊥
none_held n c h e k = none_at n.state n.held n.count c
    (and_parts (is_held_in n.state n.held) (is_count_of n.state n.count) h).0 e k
