-- Paths grow by a group at a time.
use Rattle.std.proofs.Common.{◌≡◌, ℕ, zero, suc, ◌-◌, Bool, true, true≢false, Option, None, Some, is_some, option_map, List, [], ◌∷◌, ◌++◌, map, refl, sym, ap, ◌∙◌, arith, append_assoc}
use Rattle.std.proofs.lemmas.List.{map-append}
use Rattle.dm_wire.specs.declared.avp.Avp.{Avp}
use Rattle.dm_wire.specs.Members.{members}
use Rattle.dm_tables.specs.declared.rule.Entry.{Entry}
use Rattle.dm_tables.specs.declared.def.AvpDef.{AvpDef}
use Rattle.dm_dict.specs.declared.path.Step.{Step}
use Rattle.dm_dict.specs.declared.path.Path.{Path}
use Rattle.dm_dict.specs.Faults.{Fault}
use Rattle.dm_dict.specs.Located.{Located, here, step_at, under, occurrence, avp_located, each_located, group_located, list_located}
use Rattle.dm_dict.specs.Numbers.{is_wanted}
use Rattle.dm_dict.specs.Rules.{definition, entry_for, allows}
use Rattle.dm_dict.proofs.Located.{number_alone}
use Rattle.dm_dict.specs.Locating.{path_of, behind, told_behind}

behind_under : (p : List Step) (i : Step) (l : List Located) → map (behind (p ++ i ∷ [])) l ≡ map (behind p) (map (under i) l)
behind_under p i [] = refl
behind_under p i (f ∷ l) =
    ap (λ q. record f { path = q } ∷ map (behind (p ++ i ∷ [])) l) (append_assoc p (i ∷ []) f.path)
    ∙ ap (λ t. behind p (under i f) ∷ t) (behind_under p i l)

group_members : (depth : ℕ) → (depth ≡ 0 → ⊥) → (avps : List AvpDef) (i : ℕ) (rule : List Entry) (a : Avp) (l : List Avp)
    → members a.bytes ≡ Some l
    → group_located depth avps i rule a ≡ map (under (step_at i a)) (list_located (depth - 1) avps rule l)
group_members zero some_left avps i rule a l is = absurd (some_left refl)
group_members (suc n) some_left avps i rule a l is =
    let e : suc n - 1 ≡ n = omega arith in
    rw (e, is) refl

abbrev path_or : List Step → Option (List Step) → List Step
path_or d None = d
path_or d (Some p) = p

-- what is placed one group further in
inside_placed : (p q : Option Path) (i : Step) → option_map path_of q ≡ option_map (λ path. path_of path ++ i ∷ []) p → (l : List Located)
    → map (told_behind q) l ≡ map (told_behind p) (map (under i) l)
inside_placed None None i is [] = refl
inside_placed None None i is (f ∷ l) = ap (λ t. here f.fault ∷ t) (inside_placed None None i is l)
inside_placed None (Some q) i is l = absurd (cc)
inside_placed (Some p) None i is l = absurd (cc)
inside_placed (Some p) (Some q) i is l =
    ap (λ r. map (behind r) l) (ap (path_or (path_of q)) is) ∙ behind_under (path_of p) i l

-- what is listed for the members is what the group adds
by_members : (depth : ℕ) → (depth ≡ 0 → ⊥) → (avps : List AvpDef) (i : ℕ) (rule : List Entry) (a : Avp)
    (p q : Option Path) (old new : List Located)
    → option_map path_of q ≡ option_map (λ path. path_of path ++ step_at i a ∷ []) p
    → (o : Option (List Avp)) → members a.bytes ≡ o → is_some o ≡ true
    → ((l : List Avp) → members a.bytes ≡ Some l → new ≡ old ++ map (told_behind q) (list_located (depth - 1) avps rule l))
    → new ≡ old ++ map (told_behind p) (group_located depth avps i rule a)
by_members depth some_left avps i rule a p q old new inside None is some listed = absurd (true≢false (sym some))
by_members depth some_left avps i rule a p q old new inside (Some l) is some listed =
    listed l is
    ∙ ap (λ t. old ++ t) (inside_placed p q (step_at i a) inside (list_located (depth - 1) avps rule l))
    ∙ ap (λ g. old ++ map (told_behind p) g) (sym (group_members depth some_left avps i rule a l is))

pub group_listed : (depth : ℕ) → (depth ≡ 0 → ⊥) → (avps : List AvpDef) (i : ℕ) (rule : List Entry) (a : Avp)
    (p q : Option Path) (old new : List Located)
    → option_map path_of q ≡ option_map (λ path. path_of path ++ step_at i a ∷ []) p → is_some (members a.bytes) ≡ true
    → ((l : List Avp) → members a.bytes ≡ Some l → new ≡ old ++ map (told_behind q) (list_located (depth - 1) avps rule l))
    → new ≡ old ++ map (told_behind p) (group_located depth avps i rule a)
group_listed depth some_left avps i rule a p q old new inside some listed =
    by_members depth some_left avps i rule a p q old new inside (members a.bytes) refl some listed

-- in no groups a fault is where it is
pub at_top : (l : List Located) → map (behind []) l ≡ l
at_top [] = refl
at_top (f ∷ l) = ap (λ t. f ∷ t) (at_top l)

-- what is listed there are just these
pub found_at_top : (p : List Step) (old new all : List Located) → p ≡ [] → old ≡ [] → new ≡ old ++ map (behind p) all → new ≡ all
found_at_top p old new all top none is = rw (top, none) at is ∙ at_top all

-- faults that are listed without groups
pub placed_here : (fs : List Fault) → map (told_behind None) (map here fs) ≡ map here fs
placed_here [] = refl
placed_here (f ∷ fs) = ap (λ t. here f ∷ t) (placed_here fs)

-- what is listed for the next AVP of a list
pub located_next : (path : Option Path) (depth : ℕ) (avps : List AvpDef) (rule : List Entry) (p m k : List Avp) (a : Avp)
    (nth : ℕ) (b : Bool) (new now total : List Located)
    → m ≡ a ∷ k → b ≡ allows (entry_for rule (definition avps a))
    → (is_wanted path (definition avps a) ≡ true → nth ≡ occurrence p a)
    → new ≡ now ++ map (told_behind path) (avp_located (group_located depth avps nth) b a (definition avps a))
    → now ++ map (told_behind path) (each_located (group_located depth avps) avps rule p m) ≡ total
    → new ++ map (told_behind path) (each_located (group_located depth avps) avps rule (p ++ a ∷ []) k) ≡ total
located_next path depth avps rule p m k a nth b new now total is allowed number one so_far =
    let next = avp_located (group_located depth avps (occurrence p a)) (allows (entry_for rule (definition avps a))) a (definition avps a) in
    let rest = each_located (group_located depth avps) avps rule (p ++ a ∷ []) k in
    let same : new ≡ now ++ map (told_behind path) next
    = rw allowed at one ∙ ap (λ t. now ++ t)
    (number_alone path depth avps nth (occurrence p a) (allows (entry_for rule (definition avps a))) a (definition avps a) number) in
    ap (λ t. t ++ map (told_behind path) rest) same
    ∙ append_assoc now (map (told_behind path) next) (map (told_behind path) rest)
    ∙ ap (λ t. now ++ t) (sym (map-append (told_behind path) next rest))
    ∙ rw is at so_far
