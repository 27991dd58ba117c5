-- How an input is read, and what a connection is to a node, under other numbers: as before.
use Rattle.std.proofs.Common.{◌≡◌, ℕ, ◌==◌, Bool, true, false, if◌then◌else◌, Option, List, [], ◌∷◌, refl, sym, ap, ◌∙◌, arith}
use Rattle.std.proofs.lemmas.Bool.Decides.{nat_tests}
use Rattle.dm_machine.specs.declared.connection.Conn.{Conn}
use Rattle.dm_machine.specs.declared.phase.Role.{Role}
use Rattle.dm_machine.specs.declared.state_name.State.{State}
use Rattle.dm_machine.specs.declared.inputs.Input.{Input}
use Rattle.dm_machine.specs.declared.inputs.Input.TheVariants.{Start, Ack, Nack, Gone, Heard}
use Rattle.dm_machine.specs.Node.{Node}
use Rattle.dm_machine.specs.Table.{TableEvent}
use Rattle.dm_machine.specs.Reading.{Place, place_as, place_of, conn_named, event_at, event_of}
use Rattle.dm_machine.specs.Connection.{Hold, hold_as, hold_in, hold_of}
use Rattle.dm_machine.specs.Moves.{by_table, machine_outcome}
use Rattle.dm_two_nodes.specs.Numbering.{IsOneToOne, renumbered, renumbered_held, renumbered_node, renumbered_input, renumbered_outcome, StepsGoByNoNumber}
use Rattle.dm_two_nodes.proofs.Renumbered.{renumbered_new, by_table-renumbered}

pub same_number : (a b : ℕ) → (a == b) ≡ true → a ≡ b
same_number a b h = grind (arith, nat_tests)

pub equal_numbers : (a b : ℕ) → a ≡ b → (a == b) ≡ true
equal_numbers a b h = grind (arith, nat_tests)

module _ (f : ℕ → ℕ) (one : IsOneToOne f) where
  alike_if : (a b : ℕ) (x y : Bool) → (f a == f b) ≡ x → (a == b) ≡ y → x ≡ y
  alike_if a b true true e d = refl
  alike_if a b false false e d = refl
  alike_if a b true false e d =
      sym (equal_numbers a b (one a b (same_number (f a) (f b) e))) ∙ d
  alike_if a b false true e d =
      sym e ∙ equal_numbers (f a) (f b) (ap f (same_number a b d))

  -- two connections are one just where they are so under the other numbers
  pub alike : (a b : ℕ) → (f a == f b) ≡ (a == b)
  alike a b = alike_if a b (f a == f b) (a == b) refl refl

  place_of-renumbered : (s : State) (held : List (Role × Conn)) (c : Conn) →
      place_of s (renumbered_held f held) (renumbered f c) ≡ place_of s held c
  place_of-renumbered s [] c = refl
  place_of-renumbered s (p ∷ ps) c =
      ap (λ (b : Bool). if b then place_as s p.0 else place_of s (renumbered_held f ps) (renumbered f c))
      (alike p.1.0 c.0)
      ∙ ap (λ (at : Place). if p.1.0 == c.0 then place_as s p.0 else at) (place_of-renumbered s ps c)

  hold_in-renumbered : (s : State) (held : List (Role × Conn)) (c : Conn) →
      hold_in s (renumbered_held f held) (renumbered f c) ≡ hold_in s held c
  hold_in-renumbered s [] c = refl
  hold_in-renumbered s (p ∷ ps) c =
      ap (λ (b : Bool). if b then hold_as s p.0 else hold_in s (renumbered_held f ps) (renumbered f c))
      (alike p.1.0 c.0)
      ∙ ap (λ (hold : Hold). if p.1.0 == c.0 then hold_as s p.0 else hold) (hold_in-renumbered s ps c)

  pub hold_of-renumbered : (n : Node) (c : Conn) → hold_of (renumbered_node f n) (renumbered f c) ≡ hold_of n c
  hold_of-renumbered n c = hold_in-renumbered n.state n.held c

  event_of-renumbered : (n : Node) (i : Input) → event_of (renumbered_node f n) (renumbered_input f i) ≡ event_of n i
  event_of-renumbered n (Ack c) =
      ap (λ (at : Place). event_at n.state n.count at (Ack c)) (place_of-renumbered n.state n.held c)
  event_of-renumbered n (Nack c) =
      ap (λ (at : Place). event_at n.state n.count at (Nack c)) (place_of-renumbered n.state n.held c)
  event_of-renumbered n (Gone c) =
      ap (λ (at : Place). event_at n.state n.count at (Gone c)) (place_of-renumbered n.state n.held c)
  event_of-renumbered n (Heard c w) =
      ap (λ (at : Place). event_at n.state n.count at (Heard c w)) (place_of-renumbered n.state n.held c)
  event_of-renumbered n _ = refl

  named-renumbered : (i : Input) → conn_named (renumbered_input f i) ≡ renumbered_new f (conn_named i)
  named-renumbered (Start c) = refl
  named-renumbered (Ack c) = refl
  named-renumbered (Nack c) = refl
  named-renumbered (Gone c) = refl
  named-renumbered (Heard c w) = refl
  named-renumbered _ = refl

  outcome-renumbered : (n : Node) (i : Input) (wins : Bool) →
      machine_outcome (renumbered_node f n) (renumbered_input f i) wins ≡ renumbered_outcome f (machine_outcome n i wins)
  outcome-renumbered n i wins =
      ap (λ (e : TableEvent). by_table (renumbered_node f n) e (conn_named (renumbered_input f i)) wins)
      (event_of-renumbered n i)
      ∙ ap (λ (new : Option Conn). by_table (renumbered_node f n) (event_of n i) new wins) (named-renumbered i)
      ∙ by_table-renumbered f n (event_of n i) (conn_named i) wins

pub steps_go_by_no_number : StepsGoByNoNumber
steps_go_by_no_number f n i wins one = outcome-renumbered f one n i wins
