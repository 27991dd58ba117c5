-- Laws of which dictionary judges a message.
use Rattle.std.specs.Prelude.{◌≡◌, ℕ, true, false, None, Some}
use Rattle.dm_wire.specs.declared.message.Header.{Header}
use Rattle.dm_tables.specs.Definitions.{Definitions}
use Rattle.dm_tables.specs.Base.{base_definitions}
use Rattle.dm_base.specs.Commands.{is_base_command}
use Rattle.dm_dictionaries.specs.Choosing.{Choices, own_definitions, judging}

-- a base command goes by the base rules, whatever the header says of its application
abbrev pub BaseCommandsGoByBase : Type 0
BaseCommandsGoByBase =
    (c : Choices) (h : Header) → is_base_command h.command ≡ true → judging c h ≡ base_definitions

-- without entries all else goes by the one dictionary, and base commands too where it is the base one
abbrev pub OneAloneJudgesAll : Type 0
OneAloneJudgesAll =
    (c : Choices) → ((application : ℕ) → own_definitions c application ≡ None) → (h : Header)
    → (is_base_command h.command ≡ true → c.others ≡ base_definitions) → judging c h ≡ c.others

-- an entry judges the messages of its application
abbrev pub OwnJudgesItsApplication : Type 0
OwnJudgesItsApplication =
    (c : Choices) (d : Definitions) (h : Header) → is_base_command h.command ≡ false
    → own_definitions c h.application ≡ Some d → judging c h ≡ d
