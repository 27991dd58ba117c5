-- Where the entries of the rules are known they have examples.
use Rattle.std.proofs.Common.{◌≡◌, ◌||◌, Bool, true, false, nat_eq, Option, None, Some, is_some, option_map, List, [], ◌∷◌, find, codes, refl, sym}
use Rattle.std.specs.Prelude.{IsSome, if◌then◌else◌}
use Rattle.std.specs.List.{list_any, list_all}
use Rattle.std.specs.Cmp.Lexicographic.{pointwise, same_text}
use Rattle.std.proofs.lemmas.Bool.{and_parts}
use Rattle.dm_tables.specs.declared.rule.Entry.{Entry}
use Rattle.dm_tables.specs.declared.def.AvpDef.{AvpDef}
use Rattle.dm_tables.specs.Definitions.{is_named}
use Rattle.dm_tables.specs.Sound.{is_any, is_entry_known, knows_rule}
use Rattle.dm_dict.specs.Examples.{HasExamples, MissingHasExample}
use Rattle.dm_dict.specs.Faults.{example, example_of}
use Rattle.dm_dict.specs.Rules.{stands_for_any}
use Rattle.dm_dict.specs.Typed.{Each}

-- what is there is found
there : (p : AvpDef → Bool) (ds : List AvpDef) → list_any p ds ≡ true → is_some (find p ds) ≡ true
there p [] h = absurd (cc)
there p (d ∷ ds) h = by (p d) refl h (there p ds) where
  by : (b : Bool) → p d ≡ b → list_any p (d ∷ ds) ≡ true → (list_any p ds ≡ true → is_some (find p ds) ≡ true)
      → is_some (find p (d ∷ ds)) ≡ true
  by true e g later = rw e refl
  by false e g later = rw e (later (rw e at g))

-- an entry that isn't `AVP` doesn't have its name
other_name : (e : Entry) → stands_for_any e ≡ false → is_any e.name ≡ false
other_name e h = by (is_any e.name) refl where
  by : (b : Bool) → is_any e.name ≡ b → is_any e.name ≡ false
  by true t =
      let same : e.name ≡ codes "AVP" = same_text e.name (codes "AVP") (sym t) in
      let any : pointwise nat_eq (codes "AVP") e.name ≡ true = rw same refl in
      absurd (cc)
  by false t = t

either : (a b : Bool) → (a || b) ≡ true → a ≡ false → b ≡ true
either true b h e = absurd (cc)
either false b h e = h

mapped : (b : Bool) (o : Option AvpDef) → b ≡ false → is_some o ≡ true
    → IsSome (if b then None else option_map example_of o)
mapped true o e h = absurd (cc)
mapped false None e h = absurd (cc)
mapped false (Some f) e h = search

known_example : (avps : List AvpDef) (e : Entry) → is_entry_known avps e ≡ true → stands_for_any e ≡ false
    → IsSome (example avps e)
known_example avps e k other =
    mapped (stands_for_any e) (find (is_named e.name) avps) other
    (there (is_named e.name) avps (either (is_any e.name) (list_any (is_named e.name) avps) k (other_name e other)))

rule_examples : (avps : List AvpDef) (rule : List Entry) → knows_rule avps rule ≡ true → HasExamples avps rule
rule_examples avps [] h = tt
rule_examples avps (e ∷ rule) h =
    let (here, rest) = and_parts (is_entry_known avps e) (knows_rule avps rule) h in
    (known_example avps e here, rule_examples avps rule rest)

each_example : {D : Type 0} (avps : List AvpDef) (rule : D → List Entry) (ds : List D)
    → list_all (λ d. knows_rule avps (rule d)) ds ≡ true → Each (λ d. HasExamples avps (rule d)) ds
each_example avps rule [] h = tt
each_example avps rule (d ∷ ds) h =
    let (here, rest) = and_parts (knows_rule avps (rule d)) (list_all (λ x. knows_rule avps (rule x)) ds) h in
    (rule_examples avps (rule d) here, each_example avps rule ds rest)

pub missing_examples : MissingHasExample
missing_examples d h =
    let (avps, commands) = and_parts (list_all (λ a. knows_rule d.avps a.rule) d.avps)
    (list_all (λ c. knows_rule d.avps c.rule) d.commands) h in
    (each_example d.avps (λ a. a.rule) d.avps avps, each_example d.avps (λ c. c.rule) d.commands commands)
