-- A text has one outcome.
use Rattle.std.proofs.Common.{◌≡◌, ℕ, List, [], Option, Some, sym, ap, subst, ◌∙◌, inl, inr}
use Rattle.dm_grammar.specs.Items.{Written}
use Rattle.dm_grammar.specs.Spelling.{AreItems}
use Rattle.dm_grammar.specs.Syntax.{IsSyntaxFault}
use Rattle.dm_grammar.specs.Tokens.{Word, tokens}
use Rattle.dm_dict_text.specs.declared.fault.DictFault.{DictFault}
use Rattle.dm_dict_text.specs.declared.fault.DictFault.TheVariants.{Syntax}
use Rattle.dm_tables.specs.Definitions.{Definitions}
use Rattle.dm_dict_text.specs.Meaning.{with_no_strays, with_items}
use Rattle.dm_dict_text.specs.Faults.{first_dict_fault}
use Rattle.dm_dict_text.specs.Outcome.{all_faults, Defines, IsFirstFault}

no_fault : {P : Type 0} (f : DictFault) → first_dict_fault [] ≡ Some f → P
no_fault f e = absurd cc

one_first : (o : Option DictFault) (f g : DictFault) → o ≡ Some f → o ≡ Some g → f ≡ g
one_first o f g e h = cc

-- what the grammar says of each text: one list of items, one line of a Syntax fault, and never both
abbrev OneList : Type 0
OneList = (ws : List Word) (a b : List Written) → AreItems a ws → AreItems b ws → a ≡ b

abbrev OneLine : Type 0
OneLine = (text : List ℕ) (m n : ℕ) → IsSyntaxFault text m → IsSyntaxFault text n → m ≡ n

abbrev NeverBoth : Type 0
NeverBoth = (text : List ℕ) (items : List Written) (line : ℕ) → AreItems items (tokens text) → IsSyntaxFault text line
    → ⊥

pub one_definition : OneList → (text : List ℕ) (old a b : Definitions) → Defines text old a → Defines text old b
    → a ≡ b
one_definition one text old a b d e =
    d.followed ∙
    ap (λ is. (with_items (with_no_strays old) is).definitions)
    (one (tokens text) d.items e.items d.grammatical e.grammatical) ∙ sym e.followed

pub no_outcome : OneList → NeverBoth → (text : List ℕ) (old new : Definitions) (f : DictFault) → Defines text old new
    → IsFirstFault text old f → ⊥
no_outcome one never text old new f d (inl s) = never text d.items s.0 d.grammatical s.2
no_outcome one never text old new f d (inr h) =
    let same = one (tokens text) h.items d.items h.grammatical d.grammatical in
    no_fault f
    (subst (λ (l : List DictFault). first_dict_fault l ≡ Some f) d.faultless
    (subst (λ (is : List Written). first_dict_fault (all_faults old is) ≡ Some f) same h.first))

pub one_fault : OneList → OneLine → NeverBoth → (text : List ℕ) (old : Definitions) (f g : DictFault)
    → IsFirstFault text old f → IsFirstFault text old g → f ≡ g
one_fault one line never text old f g (inl s) (inl t) =
    s.1 ∙ ap Syntax (line text s.0 t.0 s.2 t.2) ∙ sym t.1
one_fault one line never text old f g (inl s) (inr t) = absurd (never text t.items s.0 t.grammatical s.2)
one_fault one line never text old f g (inr s) (inl t) = absurd (never text s.items t.0 s.grammatical t.2)
one_fault one line never text old f g (inr s) (inr t) =
    let same = one (tokens text) s.items t.items s.grammatical t.grammatical in
    one_first (first_dict_fault (all_faults old t.items)) f g
    (subst (λ (is : List Written). first_dict_fault (all_faults old is) ≡ Some f) same s.first) t.first
