-- What stands at the front of what came.
use Rattle.std.specs.Prelude.{◌≡◌, ℕ, Option, Some, IfSome, List}
use Rattle.dm_slots.specs.declared.intake.Front.{Front}
use Rattle.dm_slots.specs.declared.intake.Front.TheVariants.{Nothing, Message, Fault}
use Rattle.dm_slots.specs.Intakes.{Intake, IsFirst, IsFaulty, IsToldOut}

abbrev pub IsFront : Intake → Front → Type 0
IsFront i Nothing = IsToldOut i
IsFront i (Message m) = (rest : List ℕ) × IsFirst i m.now rest
IsFront i Fault = IsFaulty i

-- it stands at the front on a connection, where that is there
abbrev pub IsFrontAt : Option Intake → Front → Type 0
IsFrontAt o Nothing = IfSome o IsToldOut
IsFrontAt o (Message m) = (i : Intake) × (rest : List ℕ) × (o ≡ Some i) × IsFirst i m.now rest
IsFrontAt o Fault = (i : Intake) × (o ≡ Some i) × IsFaulty i
