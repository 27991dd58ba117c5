-- The entries of a rule, one after another.
use Rattle.std.proofs.Common.{◌≡◌, ℕ, List, [], ◌∷◌, ◌++◌, Result, Ok, Err, IfOk, refl, ap, ◌∙◌}
use Rattle.dm_grammar.specs.Items.{EntryParts}
use Rattle.dm_grammar.specs.Readers.{adding_entry, with_rule}
use Rattle.dm_grammar.specs.Told.{Gathered}
use Rattle.dm_grammar.proofs.Plain.{IsPlain}

abbrev pub with_entries : List EntryParts → Result Gathered ℕ → Result Gathered ℕ
with_entries [] r = r
with_entries (e ∷ es) r = adding_entry e (with_entries es r)

-- one more entry at the end
pub with_entries-push : (es : List EntryParts) (e : EntryParts) (r : Result Gathered ℕ)
    → with_entries (es ++ e ∷ []) r ≡ with_entries es (adding_entry e r)
with_entries-push [] e r = refl
with_entries-push (d ∷ es) e r = ap (adding_entry d) (with_entries-push es e r)

pub with_entries-fault : (es : List EntryParts) (r : Result Gathered ℕ) (line : ℕ) → r ≡ Err line → with_entries es r ≡ Err line
with_entries-fault [] r line h = h
with_entries-fault (e ∷ es) r line h = ap (adding_entry e) (with_entries-fault es r line h)

entry_rule : (e : EntryParts) (es : List EntryParts) (r : Result Gathered ℕ) → adding_entry e (with_rule es r) ≡ with_rule (e ∷ es) r
entry_rule e es (Ok told) = refl
entry_rule e es (Err line) = refl

empty_rule : (r : Result Gathered ℕ) → IfOk r IsPlain → r ≡ with_rule [] r
empty_rule (Ok told) h = ap Ok h
empty_rule (Err line) h = refl

-- all entries, before an item
pub with_entries-rule : (es : List EntryParts) (r : Result Gathered ℕ) → IfOk r IsPlain → with_entries es r ≡ with_rule es r
with_entries-rule [] r h = empty_rule r h
with_entries-rule (e ∷ es) r h = ap (adding_entry e) (with_entries-rule es r h) ∙ entry_rule e es r
