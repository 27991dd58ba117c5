-- Lists of AVPs of a shape: which codes stand there, each once or any number of times. Whether all lists of a shape
-- keep to a rule is computed from the shape.
use Rattle.std.proofs.Common.{◌≡◌, ◌<◌, ◌≤◌, ℕ, suc, Bool, true, false, ◌&&◌, nat_lt, nat_le, Option, None, Some, option_map, find, List, [], ◌∷◌, ◌++◌, length, filter, flat_map, if◌then◌else◌, refl, ◌∙◌, ap, arith, length-append}
use Rattle.std.specs.List.{list_all}
use Rattle.std.proofs.lemmas.Bool.{and_parts, leb-true, le-ltb}
use Rattle.std.proofs.lemmas.List.Elements.{filter-append}
use Rattle.dm_wire.specs.declared.avp.Avp.{Avp}
use Rattle.dm_tables.specs.declared.rule.Entry.{Entry}
use Rattle.dm_tables.specs.declared.def.AvpDef.{AvpDef}
use Rattle.dm_tables.specs.Definitions.{is_coded}
use Rattle.dm_dict.specs.Rules.{definition, counts, counted_avps, count, entry_for, allows}
use Rattle.dm_dict.specs.Faults.{Fault, avp_faults, excess_faults, entry_faults, list_faults_with_groups, group_faults}
use Rattle.dm_dict.specs.Limits.{group_limit}

pub data Part : Type 0 where
  One Many : ℕ → Part

abbrev pub code_of : Part → ℕ
code_of (One code) = code
code_of (Many code) = code

-- the definition of a code without vendor
abbrev pub defined : List AvpDef → ℕ → Option AvpDef
defined avps code = find (is_coded code None) avps

-- the faults of a group that stands in a message
abbrev pub in_message : List AvpDef → List Entry → Avp → List Fault
in_message avps = group_faults group_limit avps

-- an AVP of this code without vendor, with nothing wrong where its rule allows it
pub record IsRight (avps : List AvpDef) (code : ℕ) (a : Avp) : Type 0 where
  pub is_defined : definition avps a ≡ defined avps code
  pub faultless : avp_faults (in_message avps) true a (defined avps code) ≡ []

abbrev pub Each : (Avp → Type 0) → List Avp → Type 0
Each P [] = Unit {0}
Each P (a ∷ l) = P a × Each P l

-- the list is what the parts say
abbrev pub IsShaped : List AvpDef → List Part → List Avp → Type 0
IsShaped avps [] l = l ≡ []
IsShaped avps (One code ∷ ps) l =
    (a : Avp) × (rest : List Avp) × (l ≡ a ∷ rest) × IsRight avps code a × IsShaped avps ps rest
IsShaped avps (Many code ∷ ps) l =
    (front : List Avp) × (rest : List Avp) × (l ≡ front ++ rest) × Each
    (IsRight avps code) front × IsShaped avps ps rest

-- the least number of AVPs of a shape whose code passes the test
abbrev pub least : (ℕ → Bool) → List Part → ℕ
least p [] = 0
least p (One code ∷ ps) = if p code then suc (least p ps) else least p ps
least p (Many code ∷ ps) = least p ps

-- and the greatest, where there is one
abbrev pub most : (ℕ → Bool) → List Part → Option ℕ
most p [] = Some 0
most p (One code ∷ ps) = if p code then option_map suc (most p ps) else most p ps
most p (Many code ∷ ps) = if p code then None else most p ps

abbrev pub within : Option ℕ → Option ℕ → Bool
within None n = true
within (Some max) None = false
within (Some max) (Some n) = nat_le n max

abbrev pub is_counted : List AvpDef → List Entry → Entry → ℕ → Bool
is_counted avps rule e code = counts rule e (defined avps code)

abbrev pub entry_keeps : List AvpDef → List Entry → List Part → Entry → Bool
entry_keeps avps rule ps e =
    nat_le e.min (least (is_counted avps rule e) ps) && within e.max (most (is_counted avps rule e) ps)

abbrev pub part_keeps : List AvpDef → List Entry → Part → Bool
part_keeps avps rule p = allows (entry_for rule (defined avps (code_of p)))

-- all lists of the shape keep to the rule
abbrev pub keeps : List AvpDef → List Entry → List Part → Bool
keeps avps rule ps = list_all (part_keeps avps rule) ps && list_all (entry_keeps avps rule ps) rule

-- the faults of one AVP under a rule
abbrev pub faults_at : List AvpDef → List Entry → Avp → List Fault
faults_at avps rule a = avp_faults (in_message avps) (allows (entry_for rule (definition avps a))) a (definition avps a)

one_right : (avps : List AvpDef) (rule : List Entry) (code : ℕ) (a : Avp)
    → IsRight avps code a → allows (entry_for rule (defined avps code)) ≡ true → faults_at avps rule a ≡ []
one_right avps rule code a r h = rw (r.is_defined, h) r.faultless

each_right : (avps : List AvpDef) (rule : List Entry) (code : ℕ)
    (l rest : List Avp)
    → Each (IsRight avps code) l → allows (entry_for rule (defined avps code)) ≡ true
    → flat_map (faults_at avps rule) (l ++ rest) ≡ flat_map (faults_at avps rule) rest
each_right avps rule code [] rest r h = refl
each_right avps rule code (a ∷ l) rest r h =
    rw (one_right avps rule code a r.0 h) (each_right avps rule code l rest r.1 h)

avps_right : (avps : List AvpDef) (rule : List Entry) (ps : List Part)
    (l : List Avp)
    → IsShaped avps ps l → list_all (part_keeps avps rule) ps ≡ true → flat_map (faults_at avps rule) l ≡ []
avps_right avps rule [] l s h = rw s refl
avps_right avps rule (One code ∷ ps) l s h =
    let (here, behind) = and_parts (part_keeps avps rule (One code)) (list_all (part_keeps avps rule) ps) h in
    rw (s.2, one_right avps rule code s.0 s.3 here) (avps_right avps rule ps s.1 s.4 behind)
avps_right avps rule (Many code ∷ ps) l s h =
    let (here, behind) = and_parts (part_keeps avps rule (Many code)) (list_all (part_keeps avps rule) ps) h in
    rw s.2 (each_right avps rule code s.0 s.1 s.3 here ∙ avps_right avps rule ps s.1 s.4 behind)

-- how many AVPs pass a test
abbrev number : (Avp → Bool) → List Avp → ℕ
number q l = length (filter q l)

number_one : (p : ℕ → Bool) (q : Avp → Bool) (code : ℕ) (a : Avp) (rest : List Avp) (b : Bool) → q a ≡ b
    → number q (a ∷ rest) ≡ if b then suc (number q rest) else number q rest
number_one p q code a rest true e = rw e refl
number_one p q code a rest false e = rw e refl

number_none : (q : Avp → Bool) (l rest : List Avp) → Each (λ a. q a ≡ false) l → number q (l ++ rest) ≡ number q rest
number_none q [] rest h = refl
number_none q (a ∷ l) rest h = rw h.0 (number_none q l rest h.1)

number_more : (q : Avp → Bool) (l rest : List Avp) → number q rest ≤ number q (l ++ rest)
number_more q l rest = rw (filter-append q l rest) (omega (arith, length-append (filter q l) (filter q rest)))

-- a test on AVPs that goes by the code
abbrev Goes : List AvpDef → (ℕ → Bool) → (Avp → Bool) → Type 0
Goes avps p q = (code : ℕ) (a : Avp) → IsRight avps code a → q a ≡ p code

each_goes : (avps : List AvpDef) (p : ℕ → Bool) (q : Avp → Bool) (code : ℕ) (l : List Avp) → Goes avps p q
    → Each (IsRight avps code) l → p code ≡ false → Each (λ a. q a ≡ false) l
each_goes avps p q code [] g r h = tt
each_goes avps p q code (a ∷ l) g r h = (g code a r.0 ∙ h, each_goes avps p q code l g r.1 h)

at_least : (avps : List AvpDef) (p : ℕ → Bool) (q : Avp → Bool) (ps : List Part) (l : List Avp) → Goes avps p q
    → IsShaped avps ps l → least p ps ≤ number q l
at_least avps p q [] l g s = omega arith
at_least avps p q (One code ∷ ps) l g s = rw s.2 (by (p code) (g code s.0 s.3) (at_least avps p q ps s.1 g s.4)) where
  by : (b : Bool) → q s.0 ≡ b → least p ps ≤ number q s.1
      → (if b then suc (least p ps) else least p ps) ≤ number q (s.0 ∷ s.1)
  by true e h = rw e (omega arith)
  by false e h = rw e h
at_least avps p q (Many code ∷ ps) l g s =
    rw s.2 (let h = at_least avps p q ps s.1 g s.4 in let more = number_more q s.0 s.1 in omega arith)

at_most : (avps : List AvpDef) (p : ℕ → Bool) (q : Avp → Bool) (ps : List Part) (l : List Avp) (n : ℕ) → Goes avps p q
    → IsShaped avps ps l → most p ps ≡ Some n → number q l ≤ n
at_most avps p q [] l n g s h = rw s (omega arith)
at_most avps p q (One code ∷ ps) l n g s h =
    rw s.2 (by (p code) (g code s.0 s.3) h (λ m e. at_most avps p q ps s.1 m g s.4 e)) where
      up : (o : Option ℕ) → most p ps ≡ o → option_map suc o ≡ Some n
          → ((m : ℕ) → most p ps ≡ Some m → number q s.1 ≤ m) → number q s.1 < n
      up None e k behind = absurd (cc)
      up (Some m) e k behind =
          let same : suc m ≡ n = (cc) in
          let below = behind m e in
          omega arith

      by : (b : Bool) → q s.0 ≡ b → (if b then option_map suc (most p ps) else most p ps) ≡ Some n
          → ((m : ℕ) → most p ps ≡ Some m → number q s.1 ≤ m) → number q (s.0 ∷ s.1) ≤ n
      by true e k behind = rw e (let h = up (most p ps) refl k behind in omega arith)
      by false e k behind = rw e (behind n k)
at_most avps p q (Many code ∷ ps) l n g s h = rw s.2 (by (p code) refl h (λ e. at_most avps p q ps s.1 n g s.4 e)) where
  by : (b : Bool) → p code ≡ b → (if b then None else most p ps) ≡ Some n → (most p ps ≡ Some n → number q s.1 ≤ n)
      → number q (s.0 ++ s.1) ≤ n
  by true e k behind = absurd (cc)
  by false e k behind = rw (number_none q s.0 s.1 (each_goes avps p q code s.0 g s.3 e)) (behind k)

no_fault : (b : Bool) (fs : List Fault) → (if b && false then fs else []) ≡ []
no_fault true fs = refl
no_fault false fs = refl

entry_right : (avps : List AvpDef) (rule : List Entry) (ps : List Part) (l : List Avp) (e : Entry) → IsShaped avps ps l
    → entry_keeps avps rule ps e ≡ true → entry_faults avps rule l e ≡ []
entry_right avps rule ps l e s h =
    let p = is_counted avps rule e in
    let q = λ (a : Avp). counts rule e (definition avps a) in
    let goes = λ (code : ℕ) (a : Avp) (r : IsRight avps code a). ap (counts rule e) r.is_defined in
    let (low, high) = and_parts (nat_le e.min (least p ps)) (within e.max (most p ps)) h in
    let some = at_least avps p q ps l goes s in
    let enough : nat_lt (number q l) e.min ≡ false =
    le-ltb (number q l) e.min (let k = leb-true e.min (least p ps) low in omega arith) in
    rw enough (bounded e.max (most p ps) refl high)
  where
    bounded : (max : Option ℕ) (n : Option ℕ) → most (is_counted avps rule e) ps ≡ n → within max n ≡ true
        → excess_faults max (counted_avps avps rule l e) ≡ []
    bounded None n is w = refl
    bounded (Some max) None is w = absurd (cc)
    bounded (Some max) (Some n) is w =
        let goes = λ (code : ℕ) (a : Avp) (r : IsRight avps code a). ap (counts rule e) r.is_defined in
        let below = at_most avps (is_counted avps rule e) (λ a. counts rule e (definition avps a)) ps l n goes s is in
        let few : nat_lt max (count avps rule l e) ≡ false =
        le-ltb max (count avps rule l e) (let k = leb-true n max w in omega arith) in
        rw few (no_fault (nat_lt 0 max) (_ ∷ []))

entries_right : (avps : List AvpDef) (rule : List Entry) (ps : List Part) (l : List Avp) (es : List Entry)
    → IsShaped avps ps l → list_all (entry_keeps avps rule ps) es ≡ true → flat_map (entry_faults avps rule l) es ≡ []
entries_right avps rule ps l [] s h = refl
entries_right avps rule ps l (e ∷ es) s h =
    let (here, behind) = and_parts (entry_keeps avps rule ps e) (list_all (entry_keeps avps rule ps) es) h in
    rw (entry_right avps rule ps l e s here) (entries_right avps rule ps l es s behind)

-- a list of a shape that keeps to the rule has no faults
pub shaped_right : (avps : List AvpDef) (rule : List Entry) (ps : List Part)
    (l : List Avp)
    → IsShaped avps ps l → keeps avps rule ps ≡ true → list_faults_with_groups (in_message avps) avps rule l ≡ []
shaped_right avps rule ps l s h =
    let (parts, entries) =
    and_parts (list_all (part_keeps avps rule) ps) (list_all (entry_keeps avps rule ps) rule) h in
    rw (avps_right avps rule ps l s parts) (entries_right avps rule ps l rule s entries)
