-- The text of a JsonText, and the pieces that it is made of.
use Rattle.std.specs.Prelude.{◌≡◌, ◌&&◌, ℕ, Bool, cond, fold, List, [], ◌∷◌, ◌++◌, codes}
use Rattle.json.specs.Json.{array, no_items}
use Rattle.json.specs.Print.{ends, ends_value, print_from, print, ArePrintable}
use Rattle.json.specs.Token.{Token, key}
use Rattle.json.specs.Tree.{json_tokens}
use Rattle.dm_view.specs.JsonWords.{word_item}

-- a text that some tokens are printed as, the last of which ends a value or doesn't
pub record IsPrinted (text : List ℕ) (after_value : Bool) : Type 0 where
  pub printed : List Token
  pub printable : ArePrintable printed
  pub same : text ≡ print printed
  pub place : after_value ≡ ends_value printed

-- what these tokens are printed as behind others: where they begin a value behind another one, a comma before it
pub record IsPrintedAs (begun : Bool) (piece : List ℕ) (ended : Bool) (ts : List Token) : Type 0 where
  pub good : ArePrintable ts
  pub text : (after_value : Bool) → print_from after_value ts ≡ cond (after_value && begun) (44 ∷ []) [] ++ piece
  pub end : (after_value : Bool) → fold (λ _ t. ends t) after_value ts ≡ ended

-- the flags of an AVP in words, as a member (RFC 6733, 4.1)
abbrev pub flags_tokens : Bool → Bool → Bool → List Token
flags_tokens vendor mandatory protected = key (codes "flags") ∷ json_tokens (array (word_item vendor (codes "vendor")
    (word_item mandatory (codes "mandatory") (word_item protected (codes "protected") no_items))))
