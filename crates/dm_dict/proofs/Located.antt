-- Faults with their paths are the faults.
use Rattle.std.proofs.Common.{◌≡◌, ℕ, zero, suc, Bool, true, false, Option, None, Some, List, [], ◌∷◌, ◌++◌, map, flat_map, if◌then◌else◌, refl, sym, ap, ◌∙◌, append-nil, append_assoc}
use Rattle.std.proofs.lemmas.List.{map-append}
use Rattle.dm_wire.specs.declared.avp.Avp.{Avp}
use Rattle.dm_wire.specs.declared.message.Message.{Message}
use Rattle.dm_wire.specs.Members.{members}
use Rattle.dm_value.specs.declared.avp_type.AvpType.{AvpType}
use Rattle.dm_value.specs.declared.avp_type.AvpType.TheVariants.{OctetString, Integer32, Integer64, Unsigned32, Unsigned64, Address, Time, UTF8String, DiameterIdentity, DiameterURI, Enumerated, Grouped}
use Rattle.dm_tables.specs.declared.rule.Entry.{Entry}
use Rattle.dm_tables.specs.declared.values.EnumValue.{EnumValue}
use Rattle.dm_tables.specs.declared.def.AvpDef.{AvpDef}
use Rattle.dm_tables.specs.declared.def.CommandDef.{CommandDef}
use Rattle.dm_tables.specs.Definitions.{Definitions}
use Rattle.dm_dict.specs.Codes.{avp_not_allowed, invalid_hdr_bits}
use Rattle.dm_dict.specs.Faults.{Fault, fault_with_avp, fault_without_avp, wrong_bits, data_faults, avp_faults, entry_faults, list_faults_with_groups, member_faults, group_faults, is_failed_avp, command_for, message_faults, faults}
use Rattle.dm_dict.specs.Limits.{group_limit}
use Rattle.dm_dict.specs.Rules.{definition, entry_for, allows}
use Rattle.dm_dict.specs.declared.path.Step.{Step}
use Rattle.dm_dict.specs.declared.path.Path.{Path}
use Rattle.dm_dict.specs.Locating.{told_behind}
use Rattle.dm_dict.specs.Numbers.{is_group_type, is_wanted}
use Rattle.dm_dict.specs.Located.{Located, step_at, here, under, kind_located, group_part, no_groups, avp_located, occurrence, each_located, list_located_with_groups, members_located, group_located, message_located, located_faults}

fault_of : Located → Fault
fault_of f = f.fault

map_here : (l : List Fault) → map fault_of (map here l) ≡ l
unfolding fault_of
map_here [] = refl
map_here (f ∷ l) = ap (λ t. f ∷ t) (map_here l)

map_under : (i : Step) (l : List Located) → map fault_of (map (under i) l) ≡ map fault_of l
unfolding fault_of
map_under i [] = refl
map_under i (f ∷ l) = ap (λ t. f.fault ∷ t) (map_under i l)

-- data and what a group adds to it
data_same : (kind : AvpType) (values : List EnumValue) (a : Avp) (g : List Located) (plain : List Fault)
    → map fault_of g ≡ plain
    → data_faults kind values [] a ++ map fault_of (kind_located kind g) ≡ data_faults kind values plain a
data_same Grouped values a g plain is = is
data_same OctetString values a g plain is = append-nil _
data_same Integer32 values a g plain is = append-nil _
data_same Integer64 values a g plain is = append-nil _
data_same Unsigned32 values a g plain is = append-nil _
data_same Unsigned64 values a g plain is = append-nil _
data_same Address values a g plain is = append-nil _
data_same Time values a g plain is = append-nil _
data_same UTF8String values a g plain is = append-nil _
data_same DiameterIdentity values a g plain is = append-nil _
data_same DiameterURI values a g plain is = append-nil _
data_same Enumerated values a g plain is = append-nil _

-- the same, where it isn't read
part_same : (failed : Bool) (kind : AvpType) (values : List EnumValue) (a : Avp) (g : List Located) (plain : List Fault)
    → map fault_of g ≡ plain
    → (if failed then [] else data_faults kind values [] a) ++ map fault_of (if failed then [] else kind_located kind g)
    ≡ (if failed then [] else data_faults kind values plain a)
part_same true kind values a g plain is = refl
part_same false kind values a g plain is = data_same kind values a g plain is

avp_same : (groups : List Entry → Avp → List Located) (plain : List Entry → Avp → List Fault)
    → ((rule : List Entry) (a : Avp) → map fault_of (groups rule a) ≡ plain rule a)
    → (allowed : Bool) (a : Avp) (f : Option AvpDef)
    → map fault_of (avp_located groups allowed a f) ≡ avp_faults plain allowed a f
avp_same groups plain same allowed a None =
    map-append fault_of (map here (avp_faults no_groups allowed a None)) [] ∙ append-nil _ ∙ map_here _
avp_same groups plain same allowed a (Some f) =
    map-append fault_of (map here (avp_faults no_groups allowed a (Some f))) (group_part groups a (Some f))
    ∙ ap (λ t. t ++ map fault_of (group_part groups a (Some f))) (map_here _)
    ∙ append_assoc (if allowed then [] else fault_with_avp avp_not_allowed a) _ _
    ∙ ap (λ t. (if allowed then [] else fault_with_avp avp_not_allowed a) ++ t)
    (part_same (is_failed_avp a) f.kind f.values a (groups f.rule a) (plain f.rule a) (same f.rule a))

each_same : (groups : ℕ → List Entry → Avp → List Located) (plain : List Entry → Avp → List Fault)
    → ((i : ℕ) (rule : List Entry) (a : Avp) → map fault_of (groups i rule a) ≡ plain rule a)
    → (avps : List AvpDef) (rule : List Entry) (p l : List Avp)
    → map fault_of (each_located groups avps rule p l)
    ≡ flat_map (λ a. avp_faults plain (allows (entry_for rule (definition avps a))) a (definition avps a)) l
each_same groups plain same avps rule p [] = refl
each_same groups plain same avps rule p (a ∷ l) =
    map-append fault_of (avp_located (groups (occurrence p a)) (allows (entry_for rule (definition avps a))) a (definition avps a))
    (each_located groups avps rule (p ++ a ∷ []) l)
    ∙ ap (λ t. t ++ map fault_of (each_located groups avps rule (p ++ a ∷ []) l))
    (avp_same (groups (occurrence p a)) plain (same (occurrence p a)) (allows (entry_for rule (definition avps a))) a (definition avps a))
    ∙ ap (λ t. avp_faults plain (allows (entry_for rule (definition avps a))) a (definition avps a) ++ t)
    (each_same groups plain same avps rule (p ++ a ∷ []) l)

list_same : (groups : ℕ → List Entry → Avp → List Located) (plain : List Entry → Avp → List Fault)
    → ((i : ℕ) (rule : List Entry) (a : Avp) → map fault_of (groups i rule a) ≡ plain rule a)
    → (avps : List AvpDef) (rule : List Entry) (l : List Avp)
    → map fault_of (list_located_with_groups groups avps rule l) ≡ list_faults_with_groups plain avps rule l
list_same groups plain same avps rule l =
    map-append fault_of (each_located groups avps rule [] l) (map here (flat_map (entry_faults avps rule l) rule))
    ∙ ap (λ t. t ++ map fault_of (map here (flat_map (entry_faults avps rule l) rule)))
    (each_same groups plain same avps rule [] l)
    ∙ ap (λ t. flat_map (λ a. avp_faults plain (allows (entry_for rule (definition avps a))) a (definition avps a)) l ++ t)
    (map_here (flat_map (entry_faults avps rule l) rule))

members_same : (n : ℕ) (avps : List AvpDef) (i : ℕ) (rule : List Entry) (a : Avp)
    → ((k : ℕ) (r : List Entry) (b : Avp) → map fault_of (group_located n avps k r b) ≡ group_faults n avps r b)
    → (o : Option (List Avp))
    → map fault_of (members_located (list_located_with_groups (group_located n avps) avps rule) i a o)
    ≡ member_faults (list_faults_with_groups (group_faults n avps) avps rule) a o
members_same n avps i rule a same None =
    map_here (member_faults (list_faults_with_groups (group_faults n avps) avps rule) a None)
members_same n avps i rule a same (Some l) =
    map_under (step_at i a) _ ∙ list_same (group_located n avps) (group_faults n avps) same avps rule l

group_same : (n : ℕ) (avps : List AvpDef) (i : ℕ) (rule : List Entry) (a : Avp)
    → map fault_of (group_located n avps i rule a) ≡ group_faults n avps rule a
group_same zero avps i rule a = map_here (group_faults zero avps rule a)
group_same (suc n) avps i rule a = members_same n avps i rule a (group_same n avps) (members a.bytes)

pub located_are_faults : (d : Definitions) (m : Message) → map (λ f. f.fault) (located_faults d m) ≡ faults d m
unfolding fault_of
located_are_faults d m = by (command_for d m.header) where
  by : (c : Option CommandDef) → map fault_of (message_located d.avps m c) ≡ message_faults d.avps m c
  by None = refl
  by (Some c) =
      map-append fault_of (map here (if wrong_bits m.header then fault_without_avp invalid_hdr_bits else []))
      (list_located_with_groups (group_located group_limit d.avps) d.avps c.rule m.avps)
      ∙ ap (λ t. t ++ map fault_of (list_located_with_groups (group_located group_limit d.avps) d.avps c.rule m.avps)) (map_here _)
      ∙ ap (λ t. (if wrong_bits m.header then fault_without_avp invalid_hdr_bits else []) ++ t)
      (list_same (group_located group_limit d.avps) (group_faults group_limit d.avps) (group_same group_limit d.avps) d.avps c.rule m.avps)

without_paths : (l : List Located) → map fault_of (map (told_behind None) l) ≡ map fault_of l
unfolding fault_of
without_paths [] = refl
without_paths (f ∷ l) = ap (λ t. f.fault ∷ t) (without_paths l)

-- what is listed where no paths are kept are the faults
pub found_without_paths : (old new : List Fault) (all : List Located) → old ≡ []
    → map here new ≡ map here old ++ map (told_behind None) all → new ≡ map (λ f. f.fault) all
unfolding fault_of
found_without_paths old new all none is =
    sym (map_here new) ∙ ap (map fault_of) (rw none at is) ∙ without_paths all

plain : (l : List Located) → map (told_behind None) l ≡ map here (map fault_of l)
unfolding fault_of
plain [] = refl
plain (f ∷ l) = ap (λ t. here f.fault ∷ t) (plain l)

kind_same : (kind : AvpType) (g h : List Located) → (is_group_type kind ≡ true → g ≡ h) → kind_located kind g ≡ kind_located kind h
kind_same Grouped g h is = is refl
kind_same OctetString g h is = refl
kind_same Integer32 g h is = refl
kind_same Integer64 g h is = refl
kind_same Unsigned32 g h is = refl
kind_same Unsigned64 g h is = refl
kind_same Address g h is = refl
kind_same Time g h is = refl
kind_same UTF8String g h is = refl
kind_same DiameterIdentity g h is = refl
kind_same DiameterURI g h is = refl
kind_same Enumerated g h is = refl

-- what is placed for an AVP hangs on its number just where that is wanted
pub number_alone : (path : Option Path) (depth : ℕ) (avps : List AvpDef) (n m : ℕ) (allowed : Bool) (a : Avp) (f : Option AvpDef)
    → (is_wanted path f ≡ true → n ≡ m)
    → map (told_behind path) (avp_located (group_located depth avps n) allowed a f)
    ≡ map (told_behind path) (avp_located (group_located depth avps m) allowed a f)
number_alone None depth avps n m allowed a f same =
    plain (avp_located (group_located depth avps n) allowed a f)
    ∙ ap (map here) (avp_same (group_located depth avps n) (group_faults depth avps) (group_same depth avps n) allowed a f
    ∙ sym (avp_same (group_located depth avps m) (group_faults depth avps) (group_same depth avps m) allowed a f))
    ∙ sym (plain (avp_located (group_located depth avps m) allowed a f))
number_alone (Some p) depth avps n m allowed a None same = refl
number_alone (Some p) depth avps n m allowed a (Some d) same =
    ap (λ g. map (told_behind (Some p)) (map here (avp_faults no_groups allowed a (Some d)) ++ (if is_failed_avp a then [] else g)))
    (kind_same d.kind (group_located depth avps n d.rule a) (group_located depth avps m d.rule a)
    (λ grouped. ap (λ i. group_located depth avps i d.rule a) (same grouped)))
