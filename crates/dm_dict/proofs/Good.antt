-- A message that keeps to its rules has typed AVPs, and a verdict is good only where there is no fault.
use Rattle.std.proofs.Common.{◌≡◌, ℕ, zero, suc, Option, None, Some, List, [], ◌∷◌, refl, sym, ◌∙◌}
use Rattle.std.specs.Prelude.{Result, Ok, Err, IfOk}
use Rattle.dm_wire.specs.declared.avp.Avp.{Avp}
use Rattle.dm_wire.specs.declared.message.Message.{Message}
use Rattle.dm_value.specs.declared.avp_type.AvpType.{AvpType}
use Rattle.dm_value.specs.declared.avp_type.AvpType.TheVariants.{Grouped}
use Rattle.dm_value.specs.declared.fault.NoMemory.{NoMemory}
use Rattle.dm_value.specs.Decided.{FlawDecides}
use Rattle.dm_tables.specs.declared.rule.Entry.{Entry}
use Rattle.dm_tables.specs.declared.def.AvpDef.{AvpDef}
use Rattle.dm_tables.specs.Definitions.{Definitions}
use Rattle.dm_dict.specs.declared.verdict.Verdict.{Verdict}
use Rattle.dm_dict.specs.declared.verdict.Verdict.TheVariants.{Good}
use Rattle.dm_dict.specs.Faults.{Fault, first, faults}
use Rattle.dm_dict.specs.Judgement.{verdict_of}
use Rattle.dm_dict.specs.Keeping.{KeepsAs, KeepsTo}
use Rattle.dm_dict.specs.Rules.{definition}
use Rattle.dm_dict.specs.Typed.{IsTypedData, IsTypedAs, Each, AreTyped}
use Rattle.dm_dict.proofs.Kept.{good_kept}

typed_inside : (inside other : List Avp → Type 0) → ((l : List Avp) → inside l → other l)
    → (kind : AvpType) (s : List ℕ) → IsTypedData inside kind s → IsTypedData other kind s
typed_inside inside other f Grouped s h = (h.0, h.1, f h.0 h.2)
typed_inside inside other f kind s h = h

typed_avp : (inside : List Entry → List Avp → Type 0) (other : List Avp → Type 0)
    → ((r : List Entry) (l : List Avp) → inside r l → other l) → (rule : List Entry) (a : Avp) (f : Option AvpDef)
    → KeepsAs inside rule a f → IsTypedAs other a f
typed_avp inside other g rule a None h = tt
typed_avp inside other g rule a (Some f) h =
    λ plain. typed_inside (inside f.rule) other (g f.rule) f.kind a.bytes (h.1 plain).0

typed_each : (inside : List Entry → List Avp → Type 0) (other : List Avp → Type 0)
    → ((r : List Entry) (l : List Avp) → inside r l → other l)
    → (avps : List AvpDef) (rule : List Entry) (l : List Avp) → Each (λ a. KeepsAs inside rule a (definition avps a)) l
    → Each (λ a. IsTypedAs other a (definition avps a)) l
typed_each inside other g avps rule [] h = tt
typed_each inside other g avps rule (a ∷ l) h =
    (typed_avp inside other g rule a (definition avps a) h.0, typed_each inside other g avps rule l h.1)

-- what keeps to a rule is typed
typed_kept : (n : ℕ) (avps : List AvpDef) (rule : List Entry) (l : List Avp) → KeepsTo n avps rule l → AreTyped n avps l
typed_kept zero avps rule l h = tt
typed_kept (suc n) avps rule l h =
    typed_each (KeepsTo n avps) (AreTyped n avps) (λ r k. typed_kept n avps r k) avps rule l h.0

pub good_typed : FlawDecides → (d : Definitions) (m : Message) → first (faults d m) ≡ None → AreTyped 9 d.avps m.avps
good_typed law d m h = let good = good_kept law d m h in typed_kept 9 d.avps good.command.rule m.avps good.keeps

none_found : (o : Option Fault) → verdict_of o ≡ Good → o ≡ None
none_found None h = refl
none_found (Some f) h = absurd (cc)

-- what holds where no fault is found holds at a good verdict
pub good_result : (r : Result Verdict NoMemory) (o : Option Fault) (P : Type 0) → IfOk r (λ v. v ≡ verdict_of o)
    → (o ≡ None → P) → IfOk r (λ v. v ≡ Good → P)
good_result (Ok v) o P is typed = λ good. typed (none_found o (sym is ∙ good))
good_result (Err e) o P is typed = tt
