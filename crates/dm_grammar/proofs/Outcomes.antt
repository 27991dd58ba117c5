-- A text is items or has a Syntax fault, never both, and one of them.
use Rattle.std.proofs.Common.{◌≡◌, ◌⊎◌, ◌↔◌, ℕ, List, Result, Ok, Err, refl, inl, inr}
use Rattle.dm_grammar.specs.declared.fault.ItemFault.{ItemFault}
use Rattle.dm_grammar.specs.declared.fault.ItemFault.TheVariants.{Syntax, NoMemory}
use Rattle.dm_grammar.specs.Tokens.{tokens}
use Rattle.dm_grammar.specs.Items.{Written}
use Rattle.dm_grammar.specs.Readers.{IfSyntax}
use Rattle.dm_grammar.specs.Told.{items_or_line}
use Rattle.dm_grammar.specs.Syntax.{IsGrammatical, IsSyntaxFault}
use Rattle.dm_grammar.specs.Spelling.{AreItems}
use Rattle.dm_grammar.proofs.Syntax.{fault_law, good_law}
use Rattle.dm_grammar.proofs.Spelled.{spelled_told}
use Rattle.dm_grammar.proofs.ItemsLaw.{told_written}

-- a text is items, or has a Syntax fault
abbrev Outcome : List ℕ → Type 0
Outcome text = ((is : List Written) × AreItems is (tokens text)) ⊎ ((line : ℕ) × IsSyntaxFault text line)

by_told : (text : List ℕ) (r : Result (List Written) ℕ) → items_or_line text ≡ r → Outcome text
by_told text (Ok is) h = inl (is, told_written text is h)
by_told text (Err line) h = inr (line, (fault_law text line).0 h)

pub some_outcome : (text : List ℕ) → Outcome text
some_outcome text = by_told text (items_or_line text) refl

same_line : (r : Result (List Written) ℕ) (m n : ℕ) → r ≡ Err m → r ≡ Err n → m ≡ n
same_line r m n e f = cc

pub one_line : (text : List ℕ) (m n : ℕ) → IsSyntaxFault text m → IsSyntaxFault text n → m ≡ n
one_line text m n g h = same_line (items_or_line text) m n ((fault_law text m).1 g) ((fault_law text n).1 h)

neither : (r : Result (List Written) ℕ) (is : List Written) (line : ℕ) → r ≡ Ok is → r ≡ Err line → ⊥
neither r is line e f = cc

pub never_both : (text : List ℕ) (is : List Written) (line : ℕ) → AreItems is (tokens text) → IsSyntaxFault text line
    → ⊥
never_both text is line g h = neither (items_or_line text) is line (spelled_told text is g) ((fault_law text line).1 h)

-- steps take all tokens of a text exactly where they are items
pub good_items : (text : List ℕ) → IsGrammatical text ↔ ((is : List Written) × AreItems is (tokens text))
good_items text = (
  λ g. let t = (good_law text).0 g in (t.0, told_written text t.0 t.1),
  λ k. (good_law text).1 (k.0, spelled_told text k.0 k.1),
)

-- a Syntax fault that is told stands there
pub told_fault : (text : List ℕ) (f : ItemFault) → IfSyntax f (λ line. items_or_line text ≡ Err line)
    → IfSyntax f (IsSyntaxFault text)
told_fault text (Syntax line) h = (fault_law text line).0 h
told_fault text NoMemory h = tt
