-- Where a failed AVP that is found lies in a message (RFC 6733, 7.5).
use Rattle.std.specs.Prelude.{◌≡◌, ◌⊎◌, ℕ, Bool, true, false, ◌&&◌, nat_eq, None, Some, IfSome, List, [], All, Contains}
use Rattle.dm_wire.specs.declared.avp.Avp.{Avp}
use Rattle.dm_wire.specs.declared.message.Message.{Message}
use Rattle.dm_wire.specs.Borrowed.{avp_of}
use Rattle.dm_wire.specs.Members.{members}
use Rattle.dm_dict.specs.declared.judged.Judged.{Judged}
use Rattle.dm_dict.specs.declared.judged.Judged.TheVariants as judged
use Rattle.dm_dict.specs.declared.judged.Failed.{Failed}
use Rattle.dm_dict.specs.declared.judged.Failed.TheVariants.{Found}
use Rattle.dm_tables.specs.Definitions.{Definitions}
use Rattle.dm_dict.specs.Codes.{missing_avp}
use Rattle.dm_dict.specs.Faults.{Fault, faults}

-- the AVP is one of these, or lies among the members of a group of them (4.4)
pub data LiesAmong (a : Avp) : List Avp → Type 0 where
  here : (l : List Avp) → Contains l a → LiesAmong a l
  inside : (l : List Avp) (group : Avp) (inner : List Avp) → Contains l group → members group.bytes ≡ Some inner →
      LiesAmong a inner → LiesAmong a l

-- it lies among these as it is; or a group does whose data isn't AVPs, and it is that group with no data (7.1.5)
pub data IsOneOf (l : List Avp) : Avp → Type 0 where
  whole : (a : Avp) → LiesAmong a l → IsOneOf l a
  emptied : (group : Avp) → LiesAmong group l → members group.bytes ≡ None → IsOneOf l (record group { bytes = [] })

-- a fault of what is missing, or one whose failed AVP is one of these
abbrev pub IsPlaced : List Avp → Fault → Type 0
IsPlaced l f = (f.code ≡ missing_avp) ⊎ IfSome f.failed (IsOneOf l)

-- so is each fault of a message
abbrev pub EachFailedIsThere : Type 0
EachFailedIsThere = (d : Definitions) (m : Message) → All (IsPlaced m.avps) (faults d m)

-- what is said of the failed AVP, where one of the message is found
abbrev pub IfFoundIn : Failed → (Avp → Type 0) → Type 0
IfFoundIn (Found avp) P = P (avp_of avp)
IfFoundIn _ P = Unit {0}

abbrev pub IfFound : Judged → (Avp → Type 0) → Type 0
IfFound (judged.Bad code (Found avp)) P = P (avp_of avp)
IfFound _ P = Unit {0}

abbrev pub is_found : Failed → Bool
is_found (Found avp) = true
is_found _ = false

-- one of the message is told for an AVP that is missing
abbrev pub is_missing_found : ℕ → Failed → Bool
is_missing_found code failed = nat_eq code missing_avp && is_found failed

abbrev pub finds_missing : Judged → Bool
finds_missing judged.Good = false
finds_missing (judged.Bad code failed) = is_missing_found code failed
