-- What stands behind the first tokens of an item, and behind those of an entry.
use Rattle.std.proofs.Common.{List, [], ◌∷◌, Option, Some, None, refl, inl, inr}
use Rattle.dm_grammar.specs.declared.symbol.Symbol.TheVariants as symbols
use Rattle.dm_grammar.specs.declared.item.Form.TheVariants.{Fixed, Required, Optional}
use Rattle.dm_grammar.specs.declared.reading.Version.{Version}
use Rattle.dm_grammar.specs.Tokens.{Word}
use Rattle.dm_grammar.specs.Places.GrammarPlace.{AtSign, Defined, Starred, High, Closed}
use Rattle.dm_grammar.specs.Grammar.{steps_from, item_steps, bracket_steps, rule_steps}
use Rattle.dm_grammar.specs.Items.{EntryParts}
use Rattle.dm_grammar.specs.Items.Written.{GroupIs, CommandIs}
use Rattle.dm_grammar.specs.Spelling.{Spells}
use Rattle.dm_grammar.proofs.Onward.{Definition, AreAll, IsSymbol, IsName, Has, HasItems, HasEntries, after_title, Bracket, bracket, Onward, TakenOnward}
use Rattle.dm_grammar.proofs.Onward.Definition.{OfGroup, OfCommand}

-- an item of a title and what is behind it
pub by_name : (v : Version) (n : Word) (ws : List Word) → IsName n → Has v Definition (after_title v) ws
    → HasItems v (n ∷ ws)
by_name v n ws f x = named x.parts x.spelled
  where
    named : (d : Definition) → Spells (after_title v d) (AreAll v x.items) ws → HasItems v (n ∷ ws)
    named (OfGroup g) s = record { items = GroupIs (record g { name = n }) ∷ x.items; spelled = inr (f, (refl, s)) }
    named (OfCommand c) s = record { items = CommandIs (record c { name = n }) ∷ x.items; spelled = inr (f, (refl, s)) }

pub by_angles : (v : Version) (o n g : Word) (ws : List Word) → IsSymbol symbols.Less o → IsName n
    → IsSymbol symbols.Greater g
    → Has v Definition (after_title v) ws → HasItems v (o ∷ n ∷ g ∷ ws)
by_angles v o n g ws a b c x = named x.parts x.spelled
  where
    named : (d : Definition) → Spells (after_title v d) (AreAll v x.items) ws → HasItems v (o ∷ n ∷ g ∷ ws)
    named (OfGroup p) s =
        record { items = GroupIs (record p { name = n }) ∷ x.items; spelled = inl (a, (b, (refl, (c, s)))) }
    named (OfCommand p) s =
        record { items = CommandIs (record p { name = n }) ∷ x.items; spelled = inl (a, (b, (refl, (c, s)))) }

by_at : (v : Version) (w : Word) (ws : List Word) → IsSymbol symbols.At w → Onward v AtSign ws → HasItems v (w ∷ ws)
by_at v w ws f x = x w f

-- where an item may begin
pub by_item : (v : Version) (w : Word) (ws : List Word) → TakenOnward v item_steps w ws → HasItems v (w ∷ ws)
by_item v w ws (inl x) = by_at v w ws x.0 x.1
by_item v w ws (inr (inl x)) = x.1 w x.0
by_item v w ws (inr (inr (inl x))) = by_name v w ws x.0 x.1
by_item v w ws (inr (inr (inr x))) = absurd x

-- a bracket
by_bracket : (v : Version) (w : Word) (ws : List Word) → TakenOnward v bracket_steps w ws
    → Has v Bracket bracket (w ∷ ws)
by_bracket v w ws (inl x) =
    record { parts = record x.1.parts { form = Required }; items = x.1.items; spelled = (x.0, x.1.spelled) }
by_bracket v w ws (inr (inl x)) =
    record { parts = record x.1.parts { form = Optional }; items = x.1.items; spelled = (x.0, x.1.spelled) }
by_bracket v w ws (inr (inr x)) = absurd x

pub by_high : (v : Version) (w : Word) (ws : List Word) → TakenOnward v (steps_from v High) w ws
    → Has v Bracket bracket (w ∷ ws)
by_high v w ws (inl x) =
    record { parts = record x.1.parts { form = Fixed }; items = x.1.items; spelled = (x.0, x.1.spelled) }
by_high v w ws (inr x) = by_bracket v w ws x

no_high : (v : Version) (ws : List Word) → Has v Bracket bracket ws → Onward v Starred ws
no_high v ws x = record { parts = record x.parts { high = None }; items = x.items; spelled = x.spelled }

pub by_starred : (v : Version) (w : Word) (ws : List Word) → TakenOnward v (steps_from v Starred) w ws
    → Onward v Starred (w ∷ ws)
by_starred v w ws (inl x) =
    record { parts = record x.1.parts { high = Some w }; items = x.1.items; spelled = (x.0, (refl, x.1.spelled)) }
by_starred v w ws (inr x) = no_high v (w ∷ ws) (by_high v w ws x)

-- the rule that begins with the entry
abbrev without : Bracket → List EntryParts
without b = record { form = b.form; name = b.name; qualifier = None } ∷ b.rule

abbrev with_low : Option Word → Bracket → List EntryParts
with_low low b =
    record { form = b.form; name = b.name; qualifier = Some (record { low = low; high = b.high }) } ∷ b.rule

by_star : (v : Version) (w : Word) (ws : List Word) → IsSymbol symbols.Star w → Onward v Starred ws
    → HasEntries v (w ∷ ws)
by_star v w ws f x = record { parts = with_low None x.parts; items = x.items; spelled = (f, x.spelled) }

pub by_low : (v : Version) (n w : Word) (ws : List Word) → IsSymbol symbols.Number n → IsSymbol symbols.Star w
    → Onward v Starred ws → HasEntries v (n ∷ w ∷ ws)
by_low v n w ws f g x =
    record { parts = with_low (Some n) x.parts; items = x.items; spelled = (f, (refl, (g, x.spelled))) }

unqualified : (v : Version) (ws : List Word) → Has v Bracket bracket ws → HasEntries v ws
unqualified v ws x = record { parts = without x.parts; items = x.items; spelled = x.spelled }

no_entries : (v : Version) (ws : List Word) → HasItems v ws → HasEntries v ws
no_entries v ws x = record { parts = []; items = x.items; spelled = x.spelled }

-- where an entry may begin
pub by_rule : (v : Version) (w : Word) (ws : List Word) → TakenOnward v rule_steps w ws → HasEntries v (w ∷ ws)
by_rule v w ws (inl x) = no_entries v (w ∷ ws) (by_at v w ws x.0 x.1)
by_rule v w ws (inr (inl x)) = no_entries v (w ∷ ws) (by_name v w ws x.0 x.1)
by_rule v w ws (inr (inr (inl x))) = x.1 w x.0
by_rule v w ws (inr (inr (inr (inl x)))) = x.1 w x.0
by_rule v w ws (inr (inr (inr (inr (inl x))))) = by_star v w ws x.0 x.1
by_rule v w ws (inr (inr (inr (inr (inr x))))) = unqualified v (w ∷ ws) (by_bracket v w ws x)

pub rule_end : (v : Version) → HasEntries v []
rule_end v = record { parts = []; items = []; spelled = refl }

-- `<` name `>` begins an item where `::=` is behind it, and else is an entry
pub fixed_entry : (v : Version) (o n g : Word) (ws : List Word) → IsSymbol symbols.Less o → IsName n
    → IsSymbol symbols.Greater g
    → HasEntries v ws → HasEntries v (o ∷ n ∷ g ∷ ws)
fixed_entry v o n g ws a b c x =
    let e : EntryParts = record { form = Fixed; name = n; qualifier = None } in
    record { parts = e ∷ x.parts; items = x.items; spelled = (a, (b, (refl, (c, x.spelled)))) }

defined : (v : Version) (w : Word) (ws : List Word) → IsSymbol symbols.Define w → Onward v Defined ws
    → Has v Definition (after_title v) (w ∷ ws)
defined v w ws f x = record { parts = x.parts; items = x.items; spelled = (f, x.spelled) }

pub by_closed : (v : Version) (w : Word) (ws : List Word) → TakenOnward v (steps_from v Closed) w ws
    → Onward v Closed (w ∷ ws)
by_closed v w ws (inl x) =
    λ o n g a b c. no_entries v (o ∷ n ∷ g ∷ w ∷ ws) (by_angles v o n g (w ∷ ws) a b c (defined v w ws x.0 x.1))
by_closed v w ws (inr x) = λ o n g a b c. fixed_entry v o n g (w ∷ ws) a b c (by_rule v w ws x)
