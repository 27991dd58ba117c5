-- A message that isn't good has its first fault for an answer.
use Rattle.std.proofs.Common.{◌≡◌, ◌⊎◌, inr, Bool, true, Option, None, Some, Ok, Err, refl, ap, if◌then◌else◌}
use Rattle.dm_dict.specs.Faults.{Fault}
use Rattle.dm_dict.specs.Judgement.{verdict_of}
use Rattle.dm_dict.specs.declared.verdict.Verdict.{Verdict}
use Rattle.dm_dict.specs.declared.verdict.Verdict.TheVariants.{Good}
use Rattle.dm_base.specs.declared.kind.Kind.{Kind}
use Rattle.dm_base.specs.declared.kind.Kind.TheVariants as kinds
use Rattle.dm_base.specs.declared.base_fault.BaseFault.TheVariants as faults_of
use Rattle.dm_base.specs.Kinds.{kind_or_fault}

pub is_fault : (b : Bool) (o : Option Fault) (k : Kind) (v : Verdict) → b ≡ true → v ≡ verdict_of o → (v ≡ Good → ⊥)
    → (faults_of.Bad v ≡ faults_of.NoMemory) ⊎
    ((e : Fault) × ((if b then kind_or_fault o k else Ok kinds.Other) ≡ Err e)
    × (faults_of.Bad v ≡ faults_of.Bad (verdict_of (Some e))))
is_fault b None k v t h bad = absurd (bad h)
is_fault b (Some f) k v t h bad = inr (f, rw t refl, ap faults_of.Bad h)
