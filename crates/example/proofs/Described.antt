-- The line of an AVP whose value was read.
use Rattle.std.proofs.Common.{◌≡◌, ◌⊎◌, inl, inr, ℕ, true≢false, List, Some, Result, Ok, Err, sym, ap, ◌∙◌, find, is_ok}
use Rattle.std.specs.Str.{IsUtf8}
use Rattle.dm_wire.specs.declared.avp.Avp.{Avp}
use Rattle.dm_value.specs.declared.value.Value.{Value}
use Rattle.dm_value.specs.declared.fault.ValueFault.{ValueFault}
use Rattle.dm_value.specs.declared.fault.ValueFault.TheVariants.{NoMemory}
use Rattle.dm_value.specs.Meaning.{Means}
use Rattle.dm_tables.specs.declared.def.AvpDef.{AvpDef}
use Rattle.dm_tables.specs.Definitions.{Definitions, is_coded}
use Rattle.example.specs.Answering.{Describes, line_text}

value_or : Value → Result Value ValueFault → Value
value_or d (Ok x) = x
value_or d (Err e) = d

-- the value that was read is the only one
read_is_it : (r : Result Value ValueFault) (w v : Value) → r ≡ Ok w → (r ≡ Ok v) ⊎ (r ≡ Err NoMemory) → w ≡ v
unfolding value_or
read_is_it r w v is (inl e) = ap (value_or w) (sym is ∙ e)
read_is_it r w v is (inr e) = absurd (true≢false (ap is_ok (sym is ∙ e)))

pub described : (d : Definitions) (a : Avp) (def : AvpDef) (text name : List ℕ) (w : Value)
    (r : Result Value ValueFault)
    → find (is_coded a.code a.vendor) d.avps ≡ Some def → r ≡ Ok w
    → ((v : Value) → Means def.kind a.bytes v → (r ≡ Ok v) ⊎ (r ≡ Err NoMemory)) → (IsUtf8 def.name → name ≡ def.name)
    → text ≡ line_text name w → Describes d a text
described d a def text name w r found is only named same =
    rw found
    (
    λ v utf8 means.
    same ∙ ap (λ t. line_text t w) (named utf8) ∙ ap (line_text def.name) (read_is_it r w v is (only v means))
    )
