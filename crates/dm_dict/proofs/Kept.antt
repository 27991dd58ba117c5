-- A message without faults keeps to the rule of its command.
use Rattle.std.proofs.Common.{◌≡◌, ◌<◌, ◌≤◌, ℕ, zero, suc, Bool, true, false, ◌&&◌, nat_lt, if◌then◌else◌, Option, None, Some, IfSome, List, [], ◌∷◌, ◌++◌, length, slice_get, flat_map, refl, arith}
use Rattle.dm_wire.specs.declared.avp.Avp.{Avp}
use Rattle.dm_wire.specs.declared.message.Message.{Message}
use Rattle.dm_value.specs.declared.avp_type.AvpType.TheVariants.{Grouped}
use Rattle.dm_value.specs.Decided.{FlawDecides}
use Rattle.dm_tables.specs.declared.rule.Entry.{Entry}
use Rattle.dm_tables.specs.declared.def.AvpDef.{AvpDef}
use Rattle.dm_tables.specs.declared.def.CommandDef.{CommandDef}
use Rattle.dm_tables.specs.Definitions.{Definitions}
use Rattle.dm_dict.specs.Codes.{avp_unsupported, avp_not_allowed, invalid_hdr_bits, missing_avp, avp_occurs_too_many_times}
use Rattle.dm_dict.specs.Faults.{Fault, first, faults, message_faults, command_for, wrong_bits, fault_with_avp, fault_without_avp, is_failed_avp, data_faults, avp_faults, excess_faults, entry_faults, example, group_faults, member_faults, list_faults}
use Rattle.dm_dict.specs.Keeping.{MayStand, KeepsAs, IsWithinBounds, KeepsTo, KeepsRules}
use Rattle.dm_wire.specs.Members.{members}
use Rattle.dm_dict.specs.Rules.{definition, entry_for, allows, count, counted_avps}
use Rattle.dm_dict.specs.Typed.{IsTypedData, Each}
use Rattle.dm_dict.proofs.Valued.{typed_data}

pub none_both : (fs gs : List Fault) → first (fs ++ gs) ≡ None → (first fs ≡ None) × (first gs ≡ None)
none_both [] gs h = (refl, h)
none_both (f ∷ fs) gs h = absurd (cc)

-- what has no fault for it is so
is_clear : (b : Bool) (f : Fault) → first (if b then f ∷ [] else []) ≡ None → b ≡ false
is_clear true f h = absurd (cc)
is_clear false f h = refl

is_allowed : (b : Bool) (a : Avp) → first (if b then [] else fault_with_avp avp_not_allowed a) ≡ None → b ≡ true
is_allowed true a h = refl
is_allowed false a h = absurd (cc)

-- an AVP that is allowed may stand
may_stand : (rule : List Entry) (f : AvpDef) → allows (entry_for rule (Some f)) ≡ true → MayStand rule f
may_stand rule f h = by (entry_for rule (Some f)) refl h where
  by : (o : Option Entry) → entry_for rule (Some f) ≡ o → allows o ≡ true → MayStand rule f
  by None e g = absurd (cc)
  by (Some x) e g = record { entry = x; stands = e; room = λ none. absurd (let never = rw none at g in cc) }

-- no fewer than min, no more than max
in_excess : (max : Option ℕ) (l : List Avp) → first (excess_faults max l) ≡ None
    → IfSome max (λ m. 0 < m → length l ≤ m)
in_excess None l h = tt
in_excess (Some m) l h = by (nat_lt 0 m) (nat_lt m (length l)) refl refl h where
  by : (b c : Bool) → nat_lt 0 m ≡ b → nat_lt m (length l) ≡ c
      → first (if b && c then record { code = avp_occurs_too_many_times; failed = slice_get l m } ∷ [] else []) ≡ None
      → 0 < m → length l ≤ m
  by true true e f g p = absurd (cc)
  by true false e f g p = grind arith
  by false c e f g p = absurd (grind arith)

within_bounds : (avps : List AvpDef) (rule : List Entry) (l : List Avp) (e : Entry)
    → first (entry_faults avps rule l e) ≡ None → IsWithinBounds e (count avps rule l e)
within_bounds avps rule l e h =
    let lacking : Fault = record { code = missing_avp; failed = example avps e } in
    let (enough, few) = none_both (if nat_lt (count avps rule l e) e.min then lacking ∷ [] else [])
    (excess_faults e.max (counted_avps avps rule l e)) h in
    let not_below = is_clear (nat_lt (count avps rule l e) e.min) lacking enough in
    (grind arith, in_excess e.max (counted_avps avps rule l e) few)

within_each : (avps : List AvpDef) (rule : List Entry) (l : List Avp) (es : List Entry)
    → first (flat_map (entry_faults avps rule l) es) ≡ None → Each (λ e. IsWithinBounds e (count avps rule l e)) es
within_each avps rule l [] h = tt
within_each avps rule l (e ∷ es) h =
    let (here, behind) = none_both (entry_faults avps rule l e) (flat_map (entry_faults avps rule l) es) h in
    (within_bounds avps rule l e here, within_each avps rule l es behind)

-- what a group without faults holds
abbrev HoldsGroups : ℕ → List AvpDef → Type 0
HoldsGroups n avps =
    (rule : List Entry) (a : Avp) → first (group_faults n avps rule a) ≡ None → IsTypedData
    (KeepsTo n avps rule) Grouped a.bytes

unmarked : (b : Bool) (a : Avp) → first (if b then fault_with_avp avp_unsupported a else []) ≡ None → b ≡ false
unmarked true a h = absurd (cc)
unmarked false a h = refl

kept_avp : FlawDecides → (n : ℕ) (avps : List AvpDef) → HoldsGroups n avps
    → (rule : List Entry) (a : Avp) (f : Option AvpDef)
    → first (avp_faults (group_faults n avps) (allows (entry_for rule f)) a f) ≡ None
    → KeepsAs (KeepsTo n avps) rule a f
kept_avp law n avps group rule a None h = unmarked a.mandatory a h
kept_avp law n avps group rule a (Some f) h =
    let allowed = allows (entry_for rule (Some f)) in
    let (allow, flawless) = none_both (if allowed then [] else fault_with_avp avp_not_allowed a)
    (if is_failed_avp a then [] else data_faults f.kind f.values (group_faults n avps f.rule a) a) h in (
      may_stand rule f (is_allowed allowed a allow),
      λ other. typed_data law (KeepsTo n avps f.rule) f.kind f.values (group_faults n avps f.rule a) a (group f.rule a)
          (rw other at flawless),
    )

kept_each : FlawDecides → (n : ℕ) (avps : List AvpDef) → HoldsGroups n avps → (rule : List Entry) (l : List Avp)
    → first (flat_map
    (λ a. avp_faults (group_faults n avps) (allows (entry_for rule (definition avps a))) a (definition avps a)) l) ≡
    None → Each (λ a. KeepsAs (KeepsTo n avps) rule a (definition avps a)) l
kept_each law n avps group rule [] h = tt
kept_each law n avps group rule (a ∷ l) h =
    let A = λ (x : Avp). avp_faults (group_faults n avps) (allows (entry_for rule (definition avps x))) x
    (definition avps x) in
    let (here, behind) = none_both (A a) (flat_map A l) h in
    (kept_avp law n avps group rule a (definition avps a) here, kept_each law n avps group rule l behind)

kept_parts : FlawDecides → (n : ℕ) (avps : List AvpDef) → HoldsGroups n avps → (rule : List Entry) (l : List Avp)
    → first (list_faults n avps rule l) ≡ None → KeepsTo (suc n) avps rule l
kept_parts law n avps group rule l h =
    let A = λ (x : Avp). avp_faults (group_faults n avps) (allows (entry_for rule (definition avps x))) x
    (definition avps x) in
    let (each, entries) = none_both (flat_map A l) (flat_map (entry_faults avps rule l) rule) h in
    (kept_each law n avps group rule l each, within_each avps rule l rule entries)

no_group : (avps : List AvpDef) → HoldsGroups zero avps
no_group avps rule a h = absurd (cc)

kept_group : (n : ℕ) (avps : List AvpDef)
    → ((rule : List Entry) (l : List Avp) → first (list_faults n avps rule l) ≡ None → KeepsTo (suc n) avps rule l)
    → HoldsGroups (suc n) avps
kept_group n avps lists rule a h = by (members a.bytes) refl h where
  by : (o : Option (List Avp)) → members a.bytes ≡ o → first (member_faults (list_faults n avps rule) a o) ≡ None
      → IsTypedData (KeepsTo (suc n) avps rule) Grouped a.bytes
  by None e g = absurd (cc)
  by (Some l) e g = (l, e, lists rule l g)

pub kept_list : FlawDecides → (n : ℕ) (avps : List AvpDef) (rule : List Entry) (l : List Avp)
    → first (list_faults n avps rule l) ≡ None → KeepsTo (suc n) avps rule l
kept_list law zero avps rule l h = kept_parts law zero avps (no_group avps) rule l h
kept_list law (suc n) avps rule l h =
    kept_parts law (suc n) avps (kept_group n avps (λ r k. kept_list law n avps r k)) rule l h

pub good_kept : FlawDecides → (d : Definitions) (m : Message) → first (faults d m) ≡ None → KeepsRules d m
good_kept law d m h = by (command_for d m.header) refl h where
  by : (c : Option CommandDef) → command_for d m.header ≡ c → first (message_faults d.avps m c) ≡ None → KeepsRules d m
  by None e g = absurd (cc)
  by (Some c) e g =
      let (bits, list) = none_both (if wrong_bits m.header then fault_without_avp invalid_hdr_bits else [])
      (list_faults 8 d.avps c.rule m.avps) g in
      record {
        command = c;
        defined = e;
        bits = is_clear (wrong_bits m.header) _ bits;
        keeps = kept_list law 8 d.avps c.rule m.avps list;
      }
