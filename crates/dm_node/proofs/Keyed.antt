-- The look-up of hosts where one of them was noted or forgotten.
use Rattle.std.proofs.Common.{◌≡◌, ℕ, Bool, true, false, List, [], ◌∷◌, Option, None, Some, if◌then◌else◌, ◌⊎◌, refl, sym, ap, subst, ◌∙◌, inl, inr, arith}
use Rattle.std.specs.Cmp.Lexicographic.{same_text}
use Rattle.std.specs.Global.{Vec}
use Rattle.std.specs.Map.{lookup}
use Rattle.indexmap.specs.IndexMap.{IndexMap, get_by, UpdatesBy}
use Rattle.dm_node.specs.Naming.{is_host}

pub itself : (h : List ℕ) → is_host h h ≡ true
itself [] = refl
itself (x ∷ xs) = let rest : is_host xs xs ≡ true = itself xs in grind arith

pub is_that : (h g : List ℕ) → is_host h g ≡ true → h ≡ g
is_that h g e = same_text h g (sym e)

-- a host is that of some key, or none is found for it
abbrev Stands : List (Vec ℕ × ℕ) → List ℕ → Type 0
Stands es h = ((q : Vec ℕ) × (q.items ≡ h)) ⊎ (lookup (λ (k : Vec ℕ). is_host h k.items) es ≡ None)

stands_first : (e : Vec ℕ × ℕ) (es : List (Vec ℕ × ℕ)) (h : List ℕ) (b : Bool) → is_host h e.0.items ≡ b →
    Stands es h → Stands (e ∷ es) h
stands_first e es h true p s = inl (e.0, sym (is_that h e.0.items p))
stands_first e es h false p (inl q) = inl q
stands_first e es h false p (inr none) =
    inr (ap (λ b. if b then Some e.1 else lookup (λ (k : Vec ℕ). is_host h k.items) es) p ∙ none)

stands : (es : List (Vec ℕ × ℕ)) (h : List ℕ) → Stands es h
stands [] h = inr refl
stands (e ∷ es) h = stands_first e es h (is_host h e.0.items) refl (stands es h)

-- what is found where one host was noted or forgotten
module _ {S : Type 0} (m n : IndexMap (Vec ℕ) ℕ S) (g : List ℕ) (w : Option ℕ)
    (updates : UpdatesBy (λ (x y : Vec ℕ). is_host x.items y.items) (λ (k : Vec ℕ). is_host g k.items) m n w) where
  abbrev found : List ℕ → IndexMap (Vec ℕ) ℕ S → Option ℕ
  found h o = get_by (λ (k : Vec ℕ). is_host h k.items) o

  by_key : (h : List ℕ) (q : Vec ℕ) → q.items ≡ h → found h n ≡ (if is_host g h then w else found h m)
  by_key h q e = subst (λ l. found l n ≡ (if is_host g l then w else found l m)) e (updates.0 q)

  found_else : (h : List ℕ) → is_host g h ≡ false → Stands n.entries h → Stands m.entries h → found h n ≡ found h m
  found_else h p (inl q) s = by_key h q.0 q.1 ∙ ap (λ b. if b then w else found h m) p
  found_else h p (inr none) (inl q) = by_key h q.0 q.1 ∙ ap (λ b. if b then w else found h m) p
  found_else h p (inr none) (inr same) = none ∙ sym same

  found_now : (h : List ℕ) (b : Bool) → is_host g h ≡ b → found h n ≡ (if b then w else found h m)
  found_now h true p = ap (λ l. found l n) (sym (is_that g h p)) ∙ updates.1
  found_now h false p = found_else h p (stands n.entries h) (stands m.entries h)

  pub found_updated : (h : List ℕ) → found h n ≡ (if is_host g h then w else found h m)
  found_updated h = found_now h (is_host g h) refl
