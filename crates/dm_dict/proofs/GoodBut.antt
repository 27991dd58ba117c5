-- One AVP after the other is seen to be good, and counted.
use Rattle.std.proofs.Common.{◌≡◌, ◌<◌, ℕ, ◌+◌, Option, None, List, [], ◌∷◌, length, refl, arith, if◌then◌else◌, min, slice_index, slice_index_or, flat_map}
use Rattle.dm_wire.specs.declared.avp.Avp.{Avp}
use Rattle.dm_tables.specs.declared.rule.Entry.{Entry}
use Rattle.dm_tables.specs.declared.def.AvpDef.{AvpDef}
use Rattle.dm_dict.specs.Counters.{IsCounted}
use Rattle.dm_dict.specs.Faults.{avp_faults, entry_faults, group_faults, list_faults, first}
use Rattle.dm_dict.specs.Passed.{IsGoodBut}
use Rattle.dm_dict.specs.Rules.{definition, counts, entry_for, allows, is_at}
use Rattle.dm_dict.proofs.Chains.{good_member, counted_step}

-- at first none was passed
pub none_passed : (n : ℕ) (avps : List AvpDef) (rule : List Entry) (l : List Avp) (numbers : List ℕ)
    → ((i : ℕ) → slice_index numbers i ≡ 0) → IsGoodBut n avps rule l l numbers
none_passed n avps rule l numbers zeros =
    (refl, λ i e b w here. let none = zeros i in (omega (arith, none), omega (arith, none)))

-- then one more
pub one_passed : (n : ℕ) (avps : List AvpDef) (rule : List Entry) (l m k : List Avp) (a : Avp) (old new : List ℕ)
    (at : Option ℕ) → IsGoodBut n avps rule l m old → m ≡ a ∷ k
    → None ≡ first (avp_faults (group_faults n avps) (allows (entry_for rule (definition avps a))) a (definition avps a))
    → length new ≡ length old
    → ((i : ℕ) → i < length new → slice_index new i ≡
    (if is_at at (0 + i) then min (slice_index old i + 1) 65535 else slice_index old i))
    → ((i : ℕ) (e : Entry) → i < length rule → e ≡ slice_index_or rule i e →
    is_at at i ≡ counts rule e (definition avps a)) → IsGoodBut n avps rule l k new
one_passed n avps rule l m k a old new at before is good size one place = (
  good_member (λ x. avp_faults (group_faults n avps) (allows (entry_for rule (definition avps x))) x
      (definition avps x)) _ _ a m k before.0 is good,
  counted_step avps rule l m k a 0 old new at size before.1 is one place,
)

-- at last all
pub all_passed : (n : ℕ) (avps : List AvpDef) (rule : List Entry) (l : List Avp) (numbers : List ℕ)
    → IsGoodBut n avps rule l [] numbers
    → (first (list_faults n avps rule l) ≡ first (flat_map (entry_faults avps rule l) rule))
    × IsCounted avps rule l 0 numbers
all_passed n avps rule l numbers before =
    (before.0, λ i e b w here. let (most, sum) = before.1 i e b w here in omega (arith, most, sum))
