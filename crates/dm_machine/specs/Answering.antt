-- What an answer answers: a DWA, a DPA and a refusal go out only at the message that asks for them, when it is heard.
use Rattle.std.specs.Prelude.{◌≡◌, Bool, true, false, not, ◌||◌}
use Rattle.std.specs.List.{list_all}
use Rattle.dm_machine.specs.declared.inputs.Word.{Word}
use Rattle.dm_machine.specs.declared.inputs.Word.TheVariants.{CerRefused, Dwr, DwrBad, Dpr, DprBad}
use Rattle.dm_machine.specs.Connection.{Concern, HeardOnIt, ConnOrder, SendsRefusal, SendsDwa, SendsDpa, AtEachStep}

-- the orders that answer what is heard just then
abbrev pub is_prompt : ConnOrder → Bool
is_prompt SendsRefusal = true
is_prompt SendsDwa = true
is_prompt SendsDpa = true
is_prompt _ = false

-- what they answer: a DWA a good DWR, a DPA a good DPR, a refusal a CER, DWR or DPR that is refused
abbrev pub asks_for : Word → ConnOrder → Bool
asks_for Dwr SendsDwa = true
asks_for Dpr SendsDpa = true
asks_for CerRefused SendsRefusal = true
asks_for DwrBad SendsRefusal = true
asks_for DprBad SendsRefusal = true
asks_for w o = false

abbrev pub has_its_request : Concern → ConnOrder → Bool
has_its_request (HeardOnIt w) o = not (is_prompt o) || asks_for w o
has_its_request k o = not (is_prompt o)

-- each such order of a connection answers what is heard on it
abbrev pub AnswersWhatIsHeard : Type 0
AnswersWhatIsHeard = AtEachStep (λ k before after orders. list_all (has_its_request k) orders ≡ true)
