-- Without lists a message has just the faults that no list makes.
use Rattle.std.proofs.Common.{◌≡◌, ℕ, zero, suc, Bool, true, false, not, ◌&&◌, nat_eq, nat_lt, Option, None, Some}
use Rattle.std.proofs.Common.{option_map, List, [], ◌∷◌, ◌++◌, length, map, find, filter, flat_map, slice_get, refl}
use Rattle.std.proofs.Common.{sym, ◌∙◌, ap}
use Rattle.std.specs.Prelude.{if◌then◌else◌}
use Rattle.std.proofs.lemmas.List.Elements.{filter-append}
use Rattle.dm_wire.specs.declared.avp.Avp.{Avp}
use Rattle.dm_wire.specs.Members.{members}
use Rattle.dm_value.specs.declared.avp_type.AvpType.{AvpType}
use Rattle.dm_value.specs.declared.avp_type.AvpType.TheVariants.{OctetString, Integer32, Integer64, Unsigned32}
use Rattle.dm_value.specs.declared.avp_type.AvpType.TheVariants.{Unsigned64, Address, Time, UTF8String}
use Rattle.dm_value.specs.declared.avp_type.AvpType.TheVariants.{DiameterIdentity, DiameterURI, Enumerated, Grouped}
use Rattle.dm_value.specs.declared.fault.ValueFault.{ValueFault}
use Rattle.dm_value.specs.declared.fault.ValueFault.TheVariants.{WrongLength, WrongValue, TooLong, NoMemory}
use Rattle.dm_value.specs.Flaws.{flaw}
use Rattle.dm_tables.specs.declared.rule.Entry.{Entry}
use Rattle.dm_tables.specs.declared.values.EnumValue.{EnumValue}
use Rattle.dm_tables.specs.declared.def.AvpDef.{AvpDef}
use Rattle.dm_tables.specs.declared.def.CommandDef.{CommandDef}
use Rattle.dm_tables.specs.Definitions.{is_coded, is_named}
use Rattle.dm_dict.specs.Codes.{invalid_avp_value, missing_avp, avp_occurs_too_many_times, avp_unsupported}
use Rattle.dm_dict.specs.Codes.{avp_not_allowed, invalid_hdr_bits}
use Rattle.dm_tables.specs.Listed.{is_unlisted}
use Rattle.std.specs.Int.{cast_signed, w32}
use Rattle.byteorder.specs.Endian.{big_number}
use Rattle.dm_dict.specs.Faults.{Fault, message_faults, command_for, wrong_bits, fault_with_avp, fault_without_avp}
use Rattle.dm_dict.specs.Faults.{is_failed_avp, is_left_out, value_faults, data_faults, avp_faults, excess_faults}
use Rattle.dm_dict.specs.Faults.{entry_faults, example, example_of, group_faults, member_faults, list_faults}
use Rattle.dm_dict.specs.WithoutLists.{without_list, is_unlisted_as, is_list_fault, OpenDiffersInListsAlone}
use Rattle.dm_dict.specs.Rules.{definition, counts, counted_avps, entry_for, allows, stands_for_any}

-- what no list makes
abbrev stays : List AvpDef → Fault → Bool
stays avps f = not (is_list_fault avps f)

find_mapped : {A B : Type 0} (q : B → Bool) (g : A → B) (xs : List A)
    → find q (map g xs) ≡ option_map g (find (λ x. q (g x)) xs)
find_mapped q g [] = refl
find_mapped q g (x ∷ xs) = by (q (g x)) refl (find_mapped q g xs) where
  by : (b : Bool) → q (g x) ≡ b → find q (map g xs) ≡ option_map g (find (λ y. q (g y)) xs)
      → find q (map g (x ∷ xs)) ≡ option_map g (find (λ y. q (g y)) (x ∷ xs))
  by true t ih = rw t refl
  by false t ih = rw t ih

-- each part filtered, the whole is filtered
filter_each : {A : Type 0} (p : Fault → Bool) (F G : A → List Fault) → ((x : A) → G x ≡ filter p (F x))
    → (xs : List A) → flat_map G xs ≡ filter p (flat_map F xs)
filter_each p F G h [] = refl
filter_each p F G h (x ∷ xs) =
    rw (filter-append p (F x) (flat_map F xs), ← h x, ← filter_each p F G h xs) refl

-- what is defined is the same, without its list
opened_definition : (avps : List AvpDef) (a : Avp)
    → definition (map without_list avps) a ≡ option_map without_list (definition avps a)
opened_definition avps a = find_mapped (is_coded a.code a.vendor) without_list avps

opened_counts : (rule : List Entry) (e : Entry) (f : Option AvpDef)
    → counts rule e (option_map without_list f) ≡ counts rule e f
opened_counts rule e None = refl
opened_counts rule e (Some f) = refl

opened_allows : (rule : List Entry) (f : Option AvpDef)
    → allows (entry_for rule (option_map without_list f)) ≡ allows (entry_for rule f)
opened_allows rule None = refl
opened_allows rule (Some f) = refl

opened_counted : (avps : List AvpDef) (rule : List Entry) (l : List Avp) (e : Entry)
    → counted_avps (map without_list avps) rule l e ≡ counted_avps avps rule l e
opened_counted avps rule l e = λ i. filter (λ a. same a i) l where
  same : (a : Avp) → counts rule e (definition (map without_list avps) a) ≡ counts rule e (definition avps a)
  same a = ap (counts rule e) (opened_definition avps a) ∙ opened_counts rule e (definition avps a)

opened_example : (avps : List AvpDef) (e : Entry) → example (map without_list avps) e ≡ example avps e
opened_example avps e =
    ap (λ o. if stands_for_any e then None else option_map example_of o)
    (find_mapped (is_named e.name) without_list avps) ∙
    by (stands_for_any e) (find (is_named e.name) avps)
  where
    by : (b : Bool) (o : Option AvpDef) → (if b then None else option_map example_of (option_map without_list o))
        ≡ (if b then None else option_map example_of o)
    by b None = refl
    by b (Some f) = refl

-- what an entry has too few or too many of
opened_entry : (avps : List AvpDef) (rule : List Entry) (l : List Avp) (e : Entry)
    → entry_faults (map without_list avps) rule l e ≡ entry_faults avps rule l e
opened_entry avps rule l e =
    rw (opened_counted avps rule l e, opened_example avps e) refl

filter_lacking : (avps : List AvpDef) (b : Bool) (o : Option Avp)
    → filter (stays avps) (if b then record { code = missing_avp; failed = o } ∷ [] else [])
    ≡ (if b then record { code = missing_avp; failed = o } ∷ [] else [])
filter_lacking avps true o = refl
filter_lacking avps false o = refl

filter_excess : (avps : List AvpDef) (max : Option ℕ) (l : List Avp)
    → filter (stays avps) (excess_faults max l) ≡ excess_faults max l
filter_excess avps None l = refl
filter_excess avps (Some max) l = by (nat_lt 0 max && nat_lt max (length l)) where
  by : (b : Bool)
      → filter (stays avps) (if b
      then record { code = avp_occurs_too_many_times; failed = slice_get l max } ∷ [] else [])
      ≡ (if b then record { code = avp_occurs_too_many_times; failed = slice_get l max } ∷ [] else [])
  by true = refl
  by false = refl

entry_stays : (avps : List AvpDef) (rule : List Entry) (l : List Avp) (e : Entry)
    → entry_faults (map without_list avps) rule l e ≡ filter (stays avps) (entry_faults avps rule l e)
entry_stays avps rule l e =
    let lacking : List Fault = if nat_lt (length (counted_avps avps rule l e)) e.min
    then record { code = missing_avp; failed = example avps e } ∷ [] else [] in
    opened_entry avps rule l e ∙
    sym (filter-append (stays avps) lacking (excess_faults e.max (counted_avps avps rule l e)) ∙
    λ i. filter_lacking avps (nat_lt (length (counted_avps avps rule l e)) e.min) (example avps e) i ++
    filter_excess avps e.max (counted_avps avps rule l e) i)

-- data of a type that has no lists
plain_stays : (avps : List AvpDef) (a : Avp) → is_unlisted_as a (definition avps a) ≡ false → (w : Option ValueFault)
    → value_faults w a ++ [] ≡ filter (stays avps) (value_faults w a ++ [])
plain_stays avps a h None = refl
plain_stays avps a h (Some WrongLength) = refl
plain_stays avps a h (Some WrongValue) = rw h refl
plain_stays avps a h (Some TooLong) = refl
plain_stays avps a h (Some NoMemory) = refl

-- data of an Enumerated: where its four octets are no value of the list, that fault goes
sized_stays : (avps : List AvpDef) (a : Avp) (u b : Bool) → is_unlisted_as a (definition avps a) ≡ (u && b)
    → value_faults (if b then None else Some WrongLength) a ++ [] ≡ filter (stays avps)
    (value_faults (if b then None else Some WrongLength) a ++
    (if u && b then fault_with_avp invalid_avp_value a else []))
sized_stays avps a true true h = rw h refl
sized_stays avps a true false h = refl
sized_stays avps a false true h = refl
sized_stays avps a false false h = refl

data_stays : (avps : List AvpDef) (a : Avp) (kind : AvpType) (values : List EnumValue) (new old : List Fault)
    → is_unlisted_as a (definition avps a) ≡ is_left_out kind values a.bytes
    → (kind ≡ Grouped → new ≡ filter (stays avps) old)
    → data_faults kind [] new a ≡ filter (stays avps) (data_faults kind values old a)
data_stays avps a Grouped values new old h group = group refl
data_stays avps a Enumerated values new old h group =
    sized_stays avps a (is_unlisted values (cast_signed w32 (big_number 4 a.bytes))) (nat_eq (length a.bytes) 4) h
data_stays avps a OctetString values new old h group = plain_stays avps a h (flaw OctetString a.bytes)
data_stays avps a Integer32 values new old h group = plain_stays avps a h (flaw Integer32 a.bytes)
data_stays avps a Integer64 values new old h group = plain_stays avps a h (flaw Integer64 a.bytes)
data_stays avps a Unsigned32 values new old h group = plain_stays avps a h (flaw Unsigned32 a.bytes)
data_stays avps a Unsigned64 values new old h group = plain_stays avps a h (flaw Unsigned64 a.bytes)
data_stays avps a Address values new old h group = plain_stays avps a h (flaw Address a.bytes)
data_stays avps a Time values new old h group = plain_stays avps a h (flaw Time a.bytes)
data_stays avps a UTF8String values new old h group = plain_stays avps a h (flaw UTF8String a.bytes)
data_stays avps a DiameterIdentity values new old h group = plain_stays avps a h (flaw DiameterIdentity a.bytes)
data_stays avps a DiameterURI values new old h group = plain_stays avps a h (flaw DiameterURI a.bytes)

unsupported_stays : (avps : List AvpDef) (a : Avp) (b : Bool)
    → (if b then fault_with_avp avp_unsupported a else []) ≡
    filter (stays avps) (if b then fault_with_avp avp_unsupported a else [])
unsupported_stays avps a true = refl
unsupported_stays avps a false = refl

not_allowed_stays : (avps : List AvpDef) (a : Avp) (b : Bool)
    → (if b then [] else fault_with_avp avp_not_allowed a) ≡
    filter (stays avps) (if b then [] else fault_with_avp avp_not_allowed a)
not_allowed_stays avps a true = refl
not_allowed_stays avps a false = refl

unless_stays : (p : Fault → Bool) (b : Bool) (new old : List Fault) → new ≡ filter p old
    → (if b then [] else new) ≡ filter p (if b then [] else old)
unless_stays p true new old h = refl
unless_stays p false new old h = h

-- both parts filtered, the whole is
filter_both : (p : Fault → Bool) (a b c d : List Fault) → a ≡ filter p c → b ≡ filter p d → a ++ b ≡ filter p (c ++ d)
filter_both p a b c d h g = rw (filter-append p c d, h, g) refl

avp_stays : (avps : List AvpDef) (new old : List Entry → Avp → List Fault) (allowed : Bool) (a : Avp)
    (f : Option AvpDef) → definition avps a ≡ f
    → ((d : AvpDef) → f ≡ Some d → d.kind ≡ Grouped → new d.rule a ≡ filter (stays avps) (old d.rule a))
    → avp_faults new allowed a (option_map without_list f) ≡ filter (stays avps) (avp_faults old allowed a f)
avp_stays avps new old allowed a None e group = unsupported_stays avps a a.mandatory
avp_stays avps new old allowed a (Some f) e group =
    filter_both (stays avps) (if allowed then [] else fault_with_avp avp_not_allowed a)
    (if is_failed_avp a then [] else data_faults f.kind [] (new f.rule a) a)
    (if allowed then [] else fault_with_avp avp_not_allowed a)
    (if is_failed_avp a then [] else data_faults f.kind f.values (old f.rule a) a)
    (not_allowed_stays avps a allowed)
    (unless_stays (stays avps) (is_failed_avp a) (data_faults f.kind [] (new f.rule a) a)
    (data_faults f.kind f.values (old f.rule a) a)
    (data_stays avps a f.kind f.values (new f.rule a) (old f.rule a) (ap (is_unlisted_as a) e) (group f refl)))

-- n groups deep, a group has just the faults that no list makes
abbrev GroupsStay : ℕ → List AvpDef → Type 0
GroupsStay n avps = (rule : List Entry) (a : Avp) (f : AvpDef) → definition avps a ≡ Some f → f.kind ≡ Grouped
    → group_faults n (map without_list avps) rule a ≡ filter (stays avps) (group_faults n avps rule a)

member_stays : (n : ℕ) (avps : List AvpDef) → GroupsStay n avps → (rule : List Entry) (a : Avp)
    → avp_faults (group_faults n (map without_list avps))
    (allows (entry_for rule (definition (map without_list avps) a))) a (definition (map without_list avps) a)
    ≡ filter (stays avps)
    (avp_faults (group_faults n avps) (allows (entry_for rule (definition avps a))) a (definition avps a))
member_stays n avps groups rule a =
    rw (opened_definition avps a, opened_allows rule (definition avps a))
    (avp_stays avps (group_faults n (map without_list avps)) (group_faults n avps)
    (allows (entry_for rule (definition avps a))) a (definition avps a) refl
    (λ f e kind. groups f.rule a f e kind))

list_stays : (n : ℕ) (avps : List AvpDef) → GroupsStay n avps → (rule : List Entry) (l : List Avp)
    → list_faults n (map without_list avps) rule l ≡ filter (stays avps) (list_faults n avps rule l)
list_stays n avps groups rule l =
    let new = λ (a : Avp). avp_faults (group_faults n (map without_list avps))
    (allows (entry_for rule (definition (map without_list avps) a))) a (definition (map without_list avps) a) in
    let old = λ (a : Avp). avp_faults (group_faults n avps) (allows (entry_for rule (definition avps a))) a
    (definition avps a) in
    filter_both (stays avps) (flat_map new l) (flat_map (entry_faults (map without_list avps) rule l) rule)
    (flat_map old l) (flat_map (entry_faults avps rule l) rule)
    (filter_each (stays avps) old new (member_stays n avps groups rule) l)
    (filter_each (stays avps) (entry_faults avps rule l) (entry_faults (map without_list avps) rule l)
    (entry_stays avps rule l) rule)

inside_stays : (n : ℕ) (avps : List AvpDef) → GroupsStay n avps → (rule : List Entry) (a : Avp) (o : Option (List Avp))
    → member_faults (list_faults n (map without_list avps) rule) a o ≡
    filter (stays avps) (member_faults (list_faults n avps rule) a o)
inside_stays n avps groups rule a None = refl
inside_stays n avps groups rule a (Some l) = list_stays n avps groups rule l

groups_stay : (n : ℕ) (avps : List AvpDef) → GroupsStay n avps
groups_stay zero avps rule a f e kind =
    let listless : is_unlisted_as a (definition avps a) ≡ false = rw (e, kind) refl in rw listless refl
groups_stay (suc n) avps rule a f e kind = inside_stays n avps (groups_stay n avps) rule a (members a.bytes)

pub open_differs : OpenDiffersInListsAlone
open_differs d m = by (command_for d m.header) where
  bits : (b : Bool) → (if b then fault_without_avp invalid_hdr_bits else []) ≡
      filter (stays d.avps) (if b then fault_without_avp invalid_hdr_bits else [])
  bits true = refl
  bits false = refl

  by : (c : Option CommandDef) → message_faults (map without_list d.avps) m c ≡
      filter (stays d.avps) (message_faults d.avps m c)
  by None = refl
  by (Some c) =
      filter_both (stays d.avps) (if wrong_bits m.header then fault_without_avp invalid_hdr_bits else [])
      (list_faults 8 (map without_list d.avps) c.rule m.avps)
      (if wrong_bits m.header then fault_without_avp invalid_hdr_bits else []) (list_faults 8 d.avps c.rule m.avps)
      (bits (wrong_bits m.header)) (list_stays 8 d.avps (groups_stay 8 d.avps) c.rule m.avps)
