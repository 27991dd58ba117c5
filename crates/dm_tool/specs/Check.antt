-- What check prints for an input, and whether all of it was good.
use Rattle.std.specs.Prelude.{◌≡◌, ◌⊎◌, ℕ, Bool, true, false, List, [], ◌∷◌, ◌++◌, codes}
use Rattle.std.specs.Fmt.{decimal}
use Rattle.dm_wire.specs.declared.message.Message.{Message}
use Rattle.dm_dict_text.specs.declared.fault.DictFault.{DictFault}
use Rattle.dm_dict_text.specs.declared.fault.DictFault.TheVariants.{Syntax, Range, Duplicate, Order, UnknownName}
use Rattle.dm_dict_text.specs.declared.fault.DictFault.TheVariants.{NoMemory}
use Rattle.dm_tables.specs.Definitions.{Definitions}
use Rattle.dm_tables.specs.Base.{base_definitions}
use Rattle.dm_dict_text.specs.Outcome.{Defines, IsFirstFault}
use Rattle.dm_dict.specs.declared.verdict.Verdict.{Verdict}
use Rattle.dm_dict.specs.declared.verdict.Verdict.TheVariants.{Good, Bad}
use Rattle.dm_dict.specs.Faults.{faults, first}
use Rattle.dm_dict.specs.Judgement.{verdict_of}
pub use Rattle.dm_dict.specs.Printed.{verdict_text}
use Rattle.dm_tool.specs.HexLines.{PrintsAll}
use Rattle.dm_tool.specs.Divided.{dictionary_part, message_part}

-- `good`, and all else is bad
abbrev pub is_good_verdict : Verdict → Bool
is_good_verdict Good = true
is_good_verdict (Bad code failed) = false

-- each message is printed as the dictionary's verdict, and is good where that is
abbrev pub verdict_line : Verdict → List ℕ × Bool
verdict_line v = (verdict_text v ++ 10 ∷ [], is_good_verdict v)

abbrev pub check_answer : Definitions → Message → List ℕ × Bool
check_answer d m = verdict_line (verdict_of (first (faults d m)))

-- what is printed for an input under the base dictionary, and whether all of it is good
abbrev pub ChecksText : List ℕ → List ℕ → Bool → Type 0
ChecksText = PrintsAll (check_answer base_definitions)

-- the words for a fault of a dictionary: its name and its line (RFC 6733, 3.2)
unfoldable pub dictionary_fault_text : DictFault → List ℕ
dictionary_fault_text (Syntax line) = codes "fault dict Syntax " ++ decimal line
dictionary_fault_text (Range line) = codes "fault dict Range " ++ decimal line
dictionary_fault_text (Duplicate line) = codes "fault dict Duplicate " ++ decimal line
dictionary_fault_text (Order line) = codes "fault dict Order " ++ decimal line
dictionary_fault_text (UnknownName line) = codes "fault dict UnknownName " ++ decimal line
dictionary_fault_text NoMemory = []

-- the input's dictionary is good, and the messages are checked under it
abbrev pub ChecksUnder : List ℕ → List ℕ → Bool → Type 0
ChecksUnder input text good = (d : Definitions) × Defines (dictionary_part input) base_definitions d ×
    PrintsAll (check_answer d) (message_part input) text good

-- it has a fault, which alone is printed
abbrev pub ChecksNothing : List ℕ → List ℕ → Bool → Type 0
ChecksNothing input text good =
    (f : DictFault) × IsFirstFault (dictionary_part input) base_definitions f ×
    (text ≡ dictionary_fault_text f ++ 10 ∷ []) × (good ≡ false)

-- what is printed for an input that begins with a dictionary over the base one, and whether all of it is good
abbrev pub ChecksWithDictionary : List ℕ → List ℕ → Bool → Type 0
ChecksWithDictionary input text good = ChecksUnder input text good ⊎ ChecksNothing input text good
