-- Where the failed AVP of a fault lies: among the AVPs of the message, but for what is missing.
use Rattle.std.proofs.Common.{◌≡◌, inl, inr, ℕ, zero, suc, Bool, true, false, ◌&&◌, nat_lt, if◌then◌else◌, Option, None, Some, IfSome, List, [], ◌∷◌, ◌++◌, length, map, flat_map, slice_get, refl, sym, subst}
use Rattle.std.specs.Prelude.{All, Contains}
use Rattle.std.proofs.lemmas.List.Elements.{All-nil, All-cons, All-append, All-weaker, All-head, All-tail, All-contains_itself, All-filter}
use Rattle.dm_wire.specs.declared.avp.Avp.{Avp}
use Rattle.dm_wire.specs.declared.message.Message.{Message}
use Rattle.dm_wire.specs.Borrowed.{avp_of}
use Rattle.dm_wire.specs.Members.{members}
use Rattle.dm_value.specs.declared.avp_type.AvpType.{AvpType}
use Rattle.dm_value.specs.declared.avp_type.AvpType.TheVariants.{Grouped}
use Rattle.dm_value.specs.declared.fault.ValueFault.{ValueFault}
use Rattle.dm_value.specs.declared.fault.ValueFault.TheVariants.{WrongLength, WrongValue, TooLong, NoMemory}
use Rattle.dm_value.specs.Flaws.{flaw}
use Rattle.dm_tables.specs.declared.rule.Entry.{Entry}
use Rattle.dm_tables.specs.declared.values.EnumValue.{EnumValue}
use Rattle.dm_tables.specs.declared.def.AvpDef.{AvpDef}
use Rattle.dm_tables.specs.declared.def.CommandDef.{CommandDef}
use Rattle.dm_tables.specs.Definitions.{Definitions}
use Rattle.dm_dict.specs.declared.judged.Judged.{Judged}
use Rattle.dm_dict.specs.declared.judged.Judged.TheVariants as judged
use Rattle.dm_dict.specs.declared.fault.Fault.{Fault as ListedFault}
use Rattle.dm_dict.specs.declared.judged.Failed.{Failed}
use Rattle.dm_dict.specs.declared.judged.Failed.TheVariants.{Nothing, Found, Example}
use Rattle.dm_dict.specs.Codes.{missing_avp, invalid_avp_value, avp_not_allowed, avp_unsupported, invalid_hdr_bits, avp_occurs_too_many_times}
use Rattle.dm_dict.specs.Faults.{Fault, first, faults, message_faults, command_for, wrong_bits, fault_with_avp, fault_without_avp, value_faults, is_left_out, unlisted_faults, data_faults, is_failed_avp, avp_faults, excess_faults, entry_faults, example, group_faults, member_faults, list_faults}
use Rattle.dm_dict.specs.Found.{LiesAmong, IsOneOf, IsPlaced, EachFailedIsThere, IfFound, IfFoundIn, finds_missing, is_missing_found}
use Rattle.dm_dict.specs.Judgement.{shown, failed_of}
use Rattle.dm_dict.specs.Listing.{fault_listed, all_told, IsFoundIn, AreFoundIn}
use Rattle.dm_dict.specs.Rules.{definition, entry_for, allows, count, counted_avps, counts}

-- so it is with each of these
abbrev ArePlaced : List Avp → List Fault → Type 0
ArePlaced l fs = All (IsPlaced l) fs

no_fault : (l : List Avp) → ArePlaced l []
no_fault l = All-nil (IsPlaced l)

one_fault : (l : List Avp) (f : Fault) → IsPlaced l f → ArePlaced l (f ∷ [])
one_fault l f h = All-cons (IsPlaced l) f [] h (no_fault l)

both : (l : List Avp) (fs gs : List Fault) → ArePlaced l fs → ArePlaced l gs → ArePlaced l (fs ++ gs)
both l = All-append (IsPlaced l)

each : {X : Type 0} (l : List Avp) (P : X → Type 0) (f : X → List Fault) → ((x : X) → P x → ArePlaced l (f x))
    → (xs : List X) → All P xs → ArePlaced l (flat_map f xs)
each l P f h [] p = no_fault l
each l P f h (x ∷ xs) p =
    both l (f x) (flat_map f xs) (h x (All-head P x xs p)) (each l P f h xs (All-tail P x xs p))

-- an AVP of the list
own : (l : List Avp) (a : Avp) (code : ℕ) → Contains l a → ArePlaced l (fault_with_avp code a)
own l a code h = one_fault l _ (inr (IsOneOf.whole a (LiesAmong.here l h)))

own_if : (l : List Avp) (a : Avp) (code : ℕ) (b : Bool) → Contains l a
    → ArePlaced l (if b then fault_with_avp code a else [])
own_if l a code true h = own l a code h
own_if l a code false h = no_fault l

own_unless : (l : List Avp) (a : Avp) (code : ℕ) (b : Bool) → Contains l a
    → ArePlaced l (if b then [] else fault_with_avp code a)
own_unless l a code true h = no_fault l
own_unless l a code false h = own l a code h

of_value : (l : List Avp) (a : Avp) (o : Option ValueFault) → Contains l a → ArePlaced l (value_faults o a)
of_value l a None h = no_fault l
of_value l a (Some WrongLength) h = own l a _ h
of_value l a (Some WrongValue) h = own l a _ h
of_value l a (Some TooLong) h = no_fault l
of_value l a (Some NoMemory) h = no_fault l

of_data : (l : List Avp) (a : Avp) (kind : AvpType) (values : List EnumValue) (group : List Fault) → Contains l a
    → ArePlaced l group → ArePlaced l (data_faults kind values group a)
of_data l a Grouped values group h g = g
of_data l a kind values group h g =
    both l (value_faults (flaw kind a.bytes) a) (unlisted_faults kind values a) (of_value l a (flaw kind a.bytes) h)
    (own_if l a invalid_avp_value (is_left_out kind values a.bytes) h)

of_rest : (l : List Avp) (b : Bool) (fs : List Fault) → ArePlaced l fs → ArePlaced l (if b then [] else fs)
of_rest l true fs h = no_fault l
of_rest l false fs h = h

of_avp : (groups : List Entry → Avp → List Fault) (l : List Avp)
    → ((rule : List Entry) (a : Avp) → Contains l a → ArePlaced l (groups rule a))
    → (allowed : Bool) (a : Avp) (f : Option AvpDef) → Contains l a → ArePlaced l (avp_faults groups allowed a f)
of_avp groups l inner allowed a None h = own_if l a avp_unsupported a.mandatory h
of_avp groups l inner allowed a (Some f) h =
    both l (if allowed then [] else fault_with_avp avp_not_allowed a)
    (if is_failed_avp a then [] else data_faults f.kind f.values (groups f.rule a) a)
    (own_unless l a avp_not_allowed allowed h)
    (of_rest l (is_failed_avp a) (data_faults f.kind f.values (groups f.rule a) a)
    (of_data l a f.kind f.values (groups f.rule a) h (inner f.rule a h)))

-- what passes a test in the list is in the list
at_place : (l k : List Avp) (n : ℕ) → All (Contains l) k → IfSome (slice_get k n) (IsOneOf l)
at_place l [] n h = tt
at_place l (a ∷ k) zero h = IsOneOf.whole a (LiesAmong.here l (All-head (Contains l) a k h))
at_place l (a ∷ k) (suc n) h = at_place l k n (All-tail (Contains l) a k h)

of_excess : (l k : List Avp) (max : Option ℕ) → All (Contains l) k → ArePlaced l (excess_faults max k)
of_excess l k None h = no_fault l
of_excess l k (Some max) h = by (nat_lt 0 max && nat_lt max (length k)) where
  by : (b : Bool)
      → ArePlaced l (if b then record { code = avp_occurs_too_many_times; failed = slice_get k max } ∷ [] else [])
  by true = one_fault l _ (inr (at_place l k max h))
  by false = no_fault l

of_lack : (l : List Avp) (b : Bool) (failed : Option Avp)
    → ArePlaced l (if b then record { code = missing_avp; failed = failed } ∷ [] else [])
of_lack l true failed = one_fault l _ (inl refl)
of_lack l false failed = no_fault l

of_entry : (avps : List AvpDef) (rule : List Entry) (l : List Avp) (e : Entry)
    → ArePlaced l (entry_faults avps rule l e)
of_entry avps rule l e =
    both l (if nat_lt (count avps rule l e) e.min then record { code = missing_avp; failed = example avps e } ∷ [] else [])
    (excess_faults e.max (counted_avps avps rule l e)) (of_lack l (nat_lt (count avps rule l e) e.min) (example avps e))
    (of_excess l (counted_avps avps rule l e) e.max
    (All-filter (λ a. counts rule e (definition avps a)) (Contains l) l (All-contains_itself l)))

of_list : (n : ℕ) (avps : List AvpDef)
    → ((l : List Avp) (rule : List Entry) (a : Avp) → Contains l a → ArePlaced l (group_faults n avps rule a))
    → (rule : List Entry) (l : List Avp) → ArePlaced l (list_faults n avps rule l)
of_list n avps inner rule l =
    let A = λ (a : Avp). avp_faults (group_faults n avps) (allows (entry_for rule (definition avps a))) a
    (definition avps a) in
    both l (flat_map A l) (flat_map (entry_faults avps rule l) rule)
    (each l (Contains l) A
    (λ a h. of_avp (group_faults n avps) l (inner l) (allows (entry_for rule (definition avps a))) a (definition avps a) h)
    l (All-contains_itself l))
    (each l (λ (e : Entry). Unit {0}) (entry_faults avps rule l) (λ e h. of_entry avps rule l e) rule (λ k d h. tt))

-- what lies in a group of the list lies in the list
raised : (l : List Avp) (group : Avp) (inner : List Avp) → Contains l group → members group.bytes ≡ Some inner
    → (a : Avp) → IsOneOf inner a → IsOneOf l a
raised l group inner h is _ (IsOneOf.whole a at) = IsOneOf.whole a (LiesAmong.inside l group inner h is at)
raised l group inner h is _ (IsOneOf.emptied b at none) =
    IsOneOf.emptied b (LiesAmong.inside l group inner h is at) none

raised_fault : (l : List Avp) (group : Avp) (inner : List Avp) → Contains l group → members group.bytes ≡ Some inner
    → (f : Fault) → IsPlaced inner f → IsPlaced l f
raised_fault l group inner h is f (inl q) = inl q
raised_fault l group inner h is f (inr q) = inr (by f.failed q) where
  by : (o : Option Avp) → IfSome o (IsOneOf inner) → IfSome o (IsOneOf l)
  by None q = tt
  by (Some a) q = raised l group inner h is a q

of_group : (n : ℕ) (avps : List AvpDef) (l : List Avp) (rule : List Entry) (a : Avp) → Contains l a
    → ArePlaced l (group_faults n avps rule a)
of_group zero avps l rule a h = own l a invalid_avp_value h
of_group (suc n) avps l rule a h = by (of_list n avps (λ k. of_group n avps k) rule) (members a.bytes) refl where
  by : ((inner : List Avp) → ArePlaced inner (list_faults n avps rule inner)) → (o : Option (List Avp))
      → members a.bytes ≡ o → ArePlaced l (member_faults (list_faults n avps rule) a o)
  by lists None is = one_fault l _ (inr (IsOneOf.emptied a (LiesAmong.here l h) is))
  by lists (Some inner) is =
      All-weaker (IsPlaced inner) (IsPlaced l) (raised_fault l a inner h is) (list_faults n avps rule inner) (lists inner)

of_message : (avps : List AvpDef) (m : Message) (o : Option CommandDef)
    → ArePlaced m.avps (message_faults avps m o)
of_message avps m None = one_fault m.avps _ (inr tt)
of_message avps m (Some c) =
    both m.avps (if wrong_bits m.header then fault_without_avp invalid_hdr_bits else []) (list_faults 8 avps c.rule m.avps)
    (by (wrong_bits m.header)) (of_list 8 avps (λ k. of_group 8 avps k) c.rule m.avps) where
      by : (b : Bool) → ArePlaced m.avps (if b then fault_without_avp invalid_hdr_bits else [])
      by true = one_fault m.avps _ (inr tt)
      by false = no_fault m.avps

-- the failed AVP of each fault of a message, but of what is missing, is one of its AVPs
pub each_failed_is_there : EachFailedIsThere
each_failed_is_there d m = of_message d.avps m (command_for d m.header)

-- what is found for a fault that is placed lies there
found_there : (l : List Avp) (code : ℕ) (failed : Failed) → is_missing_found code failed ≡ false
    → IsPlaced l (record { code = code; failed = failed_of failed }) → IfFoundIn failed (IsOneOf l)
found_there l code Nothing none h = tt
found_there l code (Example c v z) none h = tt
found_there l code (Found avp) none (inl lacks) = absurd (let never = rw lacks at none in cc)
found_there l code (Found avp) none (inr one) = one

-- what is found lies in the message
pub found_placed : (d : Definitions) (m : Message) (j : Judged) → shown j ≡ first (faults d m)
    → finds_missing j ≡ false → IfFound j (IsOneOf m.avps)
found_placed d m judged.Good is none = tt
found_placed d m (judged.Bad code Nothing) is none = tt
found_placed d m (judged.Bad code (Example c v z)) is none = tt
found_placed d m (judged.Bad code (Found avp)) is none =
    found_there m.avps code (Found avp) none (by (faults d m) (each_failed_is_there d m) is) where
      by : (fs : List Fault) → ArePlaced m.avps fs → Some (record { code = code; failed = Some (avp_of avp) }) ≡ first fs
          → IsPlaced m.avps (record { code = code; failed = Some (avp_of avp) })
      by [] h e = absurd cc
      by (f ∷ fs) h e = subst (λ o. IfSome o (IsPlaced m.avps)) (sym e) (All-head (IsPlaced m.avps) f fs h)

of_map : {X Y : Type 0} (P : Y → Type 0) (f : X → Y) (xs : List X) → All P (map f xs) → All (λ x. P (f x)) xs
of_map P f [] h = All-nil (λ x. P (f x))
of_map P f (x ∷ xs) h = All-cons (λ x. P (f x)) x xs (All-head P (f x) (map f xs) h) (of_map P f xs (All-tail P (f x) (map f xs) h))

-- so does what is found for each of the faults that are listed
pub listed_found : (d : Definitions) (m : Message) (listed : List ListedFault) → all_told listed ≡ faults d m
    → AreFoundIn m.avps listed
listed_found d m listed is =
    All-weaker (λ f. IsPlaced m.avps (fault_listed f)) (IsFoundIn m.avps) (λ f. found_there m.avps f.code f.failed f.missing) listed
    (of_map (IsPlaced m.avps) fault_listed listed (subst (All (IsPlaced m.avps)) (sym is) (each_failed_is_there d m)))
