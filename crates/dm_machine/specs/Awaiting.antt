-- What a state waits for, of which a peer keeps something: the answers to its own requests, and the CEA of a CER.
use Rattle.std.specs.Prelude.{ℕ, Bool, true, false, Option, None, Some, if◌then◌else◌}
use Rattle.dm_machine.specs.declared.state_name.State.{State}
use Rattle.dm_machine.specs.declared.state_name.State.TheVariants.{WaitICea, WaitConnAckElect, WaitReturns, Closing}
use Rattle.dm_machine.specs.Moves.{is_open}

-- the states in which a CEA is awaited
abbrev pub awaits_cea : State → Bool
awaits_cea WaitICea = true
awaits_cea WaitReturns = true
awaits_cea _ = false

-- those in which a DWA may be, and those in which a DPA may be
abbrev pub awaits_dwa : State → Bool
awaits_dwa Closing = true
awaits_dwa s = is_open s

abbrev pub awaits_dpa : State → Bool
awaits_dpa Closing = true
awaits_dpa _ = false

-- those in which a CER waits for its CEA
abbrev pub holds_cer : State → Bool
holds_cer WaitConnAckElect = true
holds_cer WaitReturns = true
holds_cer _ = false

-- the number that awaits an answer: a request sets it, in place of an older one; it goes where none is awaited any more
abbrev pub number_after : Bool → Bool → ℕ → Option ℕ → Option ℕ
number_after awaits sends next old = if awaits then (if sends then Some next else old) else None

-- the header of a CER, of any type, is kept on entering the states in which it waits, and stays there
abbrev pub waiting_after : {H : Type 0} → State → Option H → State → Option H → Option H
waiting_after s heard s' old = if holds_cer s' then (if holds_cer s then old else heard) else None

-- the CER that a CEA answers: the one that waits, else the one just heard
abbrev pub cer_to_answer : {H : Type 0} → Option H → Option H → Option H
cer_to_answer None heard = heard
cer_to_answer (Some waiting) heard = Some waiting
