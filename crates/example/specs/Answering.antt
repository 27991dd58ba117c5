-- What the program says of a message, and what it answers.
use Rattle.std.specs.Prelude.{◌≡◌, ℕ, ◌++◌, ◌/◌, ◌==◌, Option, None, Some, IsSomeAnd, List, find, codes}
use Rattle.std.specs.Str.{IsUtf8}
use Rattle.dm_wire.specs.declared.avp.Avp.{Avp}
use Rattle.dm_wire.specs.declared.message.Message.{Message}
use Rattle.dm_wire.specs.Finding.{is_of}
use Rattle.dm_wire.specs.Making.{header_answering}
use Rattle.dm_wire.specs.Printed.{avp_text}
use Rattle.dm_value.specs.declared.value.Value.{Value}
use Rattle.dm_value.specs.declared.value.Value.TheVariants.{Uint32}
use Rattle.dm_value.specs.declared.avp_type.AvpType.TheVariants.{Unsigned32}
use Rattle.dm_value.specs.Meaning.{Means}
use Rattle.dm_value.specs.Printed.{value_text}
use Rattle.dm_tables.specs.declared.def.AvpDef.{AvpDef}
use Rattle.dm_tables.specs.Definitions.{Definitions, is_coded}
use Rattle.dm_dict.specs.declared.verdict.Verdict.{Verdict}
use Rattle.dm_dict.specs.declared.verdict.Verdict.TheVariants.{Good, Bad}

-- a name and a value
abbrev pub line_text : List ℕ → Value → List ℕ
line_text name v = codes "  " ++ (name ++ (codes " " ++ (value_text v ++ codes "\n")))

-- the line of an AVP that is defined so: its name and the value that its data has
abbrev pub DescribesAs : AvpDef → Avp → List ℕ → Type 0
DescribesAs def a text =
    (v : Value) → IsUtf8 def.name → Means def.kind a.bytes v → text ≡ line_text def.name v

-- the line of an AVP: as it lies where the dictionary has no definition of it
abbrev pub DescribesBy : Option AvpDef → Avp → List ℕ → Type 0
DescribesBy None a text = text ≡ codes "  " ++ avp_text a ++ codes "\n"
DescribesBy (Some def) a text = DescribesAs def a text

abbrev pub Describes : Definitions → Avp → List ℕ → Type 0
Describes d a text = DescribesBy (find (is_coded a.code a.vendor) d.avps) a text

-- the Result-Code for a verdict (RFC 6733, 7.1)
abbrev pub code_of : Verdict → ℕ
code_of Good = 2001
code_of (Bad code failed) = code

-- the answer has the request's header, with the E bit for a protocol error (3xxx), and the verdict's Result-Code
pub record AnswersRequest (request : Message) (verdict : Verdict) (answer : Message) : Type 0 where
  pub header : answer.header ≡ record (header_answering request.header) { error = code_of verdict / 1000 == 3 }
  pub code : IsSomeAnd (find (is_of 268 None) answer.avps) (λ a. Means Unsigned32 a.bytes (Uint32 (code_of verdict)))
