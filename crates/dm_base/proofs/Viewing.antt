-- Borrowed kinds, and the kinds that they stand for.
use Rattle.std.proofs.Common.{◌≡◌, ℕ, Bool, true, Option, None, Some, is_some, Ok, List, refl, sym, ◌∙◌, ap, if◌then◌else◌}
use Rattle.dm_wire.specs.declared.avp.Avp.{Avp}
use Rattle.dm_wire.specs.declared.message.Message.{Message}
use Rattle.dm_wire.specs.Members.{members}
use Rattle.dm_tables.specs.Definitions.{Definitions}
use Rattle.dm_dict.specs.Faults.{Fault, faults, first}
use Rattle.dm_base.specs.declared.kind.Kind.{Kind}
use Rattle.dm_base.specs.declared.kind.Kind.TheVariants as kinds
use Rattle.dm_base.specs.declared.kind_ref.KindRef.{KindRef}
use Rattle.dm_base.specs.declared.kind_ref.KindRef.TheVariants as refs
use Rattle.dm_base.specs.Commands.{base_command, is_base_command}
use Rattle.dm_base.specs.declared.base_command.BaseCommand.{BaseCommand}
use Rattle.dm_base.specs.Kinds.{kind, kind_by, kind_of, kind_or_fault}
use Rattle.dm_base.specs.Shown.{ShowsKind, LiesIn, kind_with}

shows : (l : List Avp) (k : KindRef) (s : List ℕ) → LiesIn k s → members s ≡ Some l → ShowsKind k (kind_with l k)
shows l (refs.Cer r) s lies h =
    record { avps = l; listed = ap members lies ∙ h; host = refl; realm = refl; applications = refl; security = refl }
shows l (refs.Cea code) s lies h = refl
shows l refs.Dwr s lies h = tt
shows l refs.Dwa s lies h = tt
shows l (refs.Dpr cause) s lies h = refl
shows l refs.Dpa s lies h = tt
shows l refs.Other s lies h = tt

-- a good message
kind_if : (b : Bool) (o : Option Fault) (k j : Kind) → b ≡ true → o ≡ None → k ≡ j
    → (if b then kind_or_fault o k else Ok kinds.Other) ≡ Ok j
kind_if b o k j base good same = rw (base, good, same) refl

pub good_kind : (d : Definitions) (m : Message) (k : KindRef) (s : List ℕ) (command : BaseCommand)
    → base_command m.header.command ≡ Some command → first (faults d m) ≡ None
    → kind_with m.avps k ≡ kind_by (Some command) m.header.request m.avps → LiesIn k s → members s ≡ Some m.avps
    → (j : Kind) × (kind d m ≡ Ok j) × ShowsKind k j
good_kind d m k s command base good told lies h = (
  kind_with m.avps k,
  kind_if (is_base_command m.header.command) (first (faults d m)) (kind_of m.header.command m.header.request m.avps)
      (kind_with m.avps k) (ap is_some base) good (ap (λ o. kind_by o m.header.request m.avps) base ∙ sym told),
  shows m.avps k s lies h,
)

-- a message of another command
pub none_of : (o : Option BaseCommand) → ((b : BaseCommand) → o ≡ Some b → ⊥) → o ≡ None
none_of None h = refl
none_of (Some b) h = absurd (h b refl)

pub other_kind : (d : Definitions) (m : Message) → base_command m.header.command ≡ None
    → (j : Kind) × (kind d m ≡ Ok j) × ShowsKind refs.Other j
other_kind d m h = (kinds.Other, rw h refl, tt)
