-- What each step of the machine sends: a CER just where the first request that it sends is one; an answer at a base
-- request that asks for it alone, or to the CER that waits; and a CER begins to wait as it comes.
use Rattle.std.proofs.Common.{◌≡◌, Bool, true, false, not, ◌&&◌, ◌||◌, IsTrue, refl}
use Rattle.std.specs.Prelude.{⊤}
use Rattle.std.specs.List.{list_all}
use Rattle.std.proofs.lemmas.Bool.{and_parts}
use Rattle.dm_machine.specs.declared.connection.Conn.{Conn}
use Rattle.dm_machine.specs.declared.inputs.Input.{Input}
use Rattle.dm_machine.specs.declared.inputs.Input.TheVariants.{Heard}
use Rattle.dm_machine.specs.declared.inputs.Word.{Word}
use Rattle.dm_machine.specs.declared.inputs.Word.TheVariants.{Cer, CerRefused, Dwr, DwrBad, Dpr, DprBad}
use Rattle.dm_machine.specs.declared.outputs.Command.{Command}
use Rattle.dm_machine.specs.declared.outputs.Command.TheVariants as command
use Rattle.dm_machine.specs.Awaiting.{holds_cer}
use Rattle.dm_machine.specs.Node.{Node, is_shaped}
use Rattle.dm_machine.specs.Moves.{NodeOutcome, NodeMoved, NodeRefused, machine_outcome}
use Rattle.dm_machine.specs.EachStep.{StepTest, everywhere, passes_of, EachStepHolds}
use Rattle.dm_peer.specs.After.{request_in, is_cer}
use Rattle.dm_two_peers.specs.Electing.{has_send_cer}

abbrev pub SendsAlike : NodeOutcome → Type 0
SendsAlike (NodeMoved commands next) = is_cer (request_in commands) ≡ has_send_cer commands
SendsAlike (NodeRefused r) = ⊤

abbrev same : Bool → Bool → Bool
same true b = b
same false b = not b

abbrev is_alike : NodeOutcome → Bool
is_alike (NodeMoved commands next) = same (is_cer (request_in commands)) (has_send_cer commands)
is_alike (NodeRefused r) = true

-- the words of base requests
abbrev asks_answer : Word → Bool
asks_answer Cer = true
asks_answer CerRefused = true
asks_answer Dwr = true
asks_answer DwrBad = true
asks_answer Dpr = true
asks_answer DprBad = true
asks_answer _ = false

abbrev pub is_request : Input → Bool
is_request (Heard c w) = asks_answer w
is_request _ = false

-- no answer, or that to the CER that waits
abbrev pub answers_none : Bool → Command → Bool
answers_none waits (command.SendCea c) = waits
answers_none waits (command.SendRefusal c) = false
answers_none waits (command.SendDwa c) = false
answers_none waits (command.SendDpa c) = false
answers_none waits _ = true

abbrev pub asks_none : Node → NodeOutcome → Bool
asks_none n (NodeMoved commands next) =
    list_all (answers_none (holds_cer n.state)) commands && (not (holds_cer next.state) || holds_cer n.state)
asks_none n (NodeRefused r) = true

abbrev sends_well : StepTest
sends_well n at i o = is_alike o && (is_request i || asks_none n o)

checked : (i r c : Conn) → IsTrue (passes_of sends_well i r c)
unfolding everywhere
checked i r c = refl

same_is : (a b : Bool) → same a b ≡ true → a ≡ b
same_is true true e = refl
same_is true false e = cc
same_is false true e = cc
same_is false false e = refl

alike_is : (o : NodeOutcome) → is_alike o ≡ true → SendsAlike o
alike_is (NodeMoved commands next) e = same_is (is_cer (request_in commands)) (has_send_cer commands) e
alike_is (NodeRefused r) e = tt

pub outcome_alike : EachStepHolds → (n : Node) → is_shaped n ≡ true → (i : Input) (wins : Bool) →
    SendsAlike (machine_outcome n i wins)
outcome_alike steps n shaped i wins =
    let o = machine_outcome n i wins in
    let both = and_parts (is_alike o) (is_request i || asks_none n o) (steps sends_well checked n i wins shaped) in
    alike_is o both.0

right_of : (a b : Bool) → (a || b) ≡ true → a ≡ false → b ≡ true
right_of true b h e = cc
right_of false b h e = h

pub asks_none_step : EachStepHolds → (n : Node) → is_shaped n ≡ true → (i : Input) (wins : Bool) →
    is_request i ≡ false → asks_none n (machine_outcome n i wins) ≡ true
asks_none_step steps n shaped i wins calm =
    let o = machine_outcome n i wins in
    let both = and_parts (is_alike o) (is_request i || asks_none n o) (steps sends_well checked n i wins shaped) in
    right_of (is_request i) (asks_none n o) both.1 calm
