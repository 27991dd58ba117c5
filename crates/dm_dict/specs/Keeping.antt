-- What a good verdict says of a message: its command is defined, its bits are right, and its AVPs keep to the command's
-- rule.
use Rattle.std.specs.Prelude.{◌≡◌, ◌≢◌, ℕ, zero, suc, ◌<◌, ◌≤◌, false, Option, None, Some, IfSome, List}
use Rattle.dm_wire.specs.declared.avp.Avp.{Avp}
use Rattle.dm_wire.specs.declared.message.Message.{Message}
use Rattle.dm_tables.specs.declared.rule.Entry.{Entry}
use Rattle.dm_tables.specs.declared.def.AvpDef.{AvpDef}
use Rattle.dm_tables.specs.declared.def.CommandDef.{CommandDef}
use Rattle.dm_tables.specs.Definitions.{Definitions}
use Rattle.dm_dict.specs.Faults.{command_for, wrong_bits, is_failed_avp, is_left_out, faults, first}
use Rattle.dm_dict.specs.Rules.{definition, entry_for, count}
use Rattle.dm_dict.specs.Typed.{IsTypedData, Each}
use Rattle.dm_dict.specs.Limits.{list_limit}

-- an AVP of this definition may stand under the rule: an entry names it, or is `AVP`, and the entry's max isn't 0
pub record MayStand (rule : List Entry) (f : AvpDef) : Type 0 where
  pub entry : Entry
  pub stands : entry_for rule (Some f) ≡ Some entry
  pub room : entry.max ≢ Some 0

-- an AVP that is defined may stand there, and its data has a value of its type and of its list, that of Failed-AVP
-- aside; the AVPs of a group are as `inside` says under the group's own rule. One that isn't defined has no M bit
abbrev pub KeepsAs : (List Entry → List Avp → Type 0) → List Entry → Avp → Option AvpDef → Type 0
KeepsAs inside rule a None = a.mandatory ≡ false
KeepsAs inside rule a (Some f) = MayStand rule f ×
    (is_failed_avp a ≡ false →
    IsTypedData (inside f.rule) f.kind a.bytes × (is_left_out f.kind f.values a.bytes ≡ false))

-- so many AVPs are no fewer than the entry's min, and no more than its max, where that isn't 0
abbrev pub IsWithinBounds : Entry → ℕ → Type 0
IsWithinBounds e n = (e.min ≤ n) × IfSome e.max (λ max. 0 < max → n ≤ max)

-- the AVPs keep to the rule and each entry counts as many as it wants, and so in their groups, n lists deep
abbrev pub KeepsTo : ℕ → List AvpDef → List Entry → List Avp → Type 0
KeepsTo zero avps rule l = Unit {0}
KeepsTo (suc n) avps rule l =
    Each (λ a. KeepsAs (KeepsTo n avps) rule a (definition avps a)) l ×
    Each (λ e. IsWithinBounds e (count avps rule l e)) rule

-- the command of the message is defined, the bits of its header are right (3), and its AVPs and those of the eight
-- groups inside each other keep to their rules
pub record KeepsRules (d : Definitions) (m : Message) : Type 0 where
  pub command : CommandDef
  pub defined : command_for d m.header ≡ Some command
  pub bits : wrong_bits m.header ≡ false
  pub keeps : KeepsTo list_limit d.avps command.rule m.avps

-- a message with which nothing is wrong is good
abbrev pub GoodKeepsRules : Type 0
GoodKeepsRules = (d : Definitions) (m : Message) → first (faults d m) ≡ None → KeepsRules d m
