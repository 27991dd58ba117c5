-- Walks over octets: what was passed, and what is told at the end.
use Rattle.std.proofs.Common.{◌≡◌, ◌<◌, ◌≤◌, ◌⊎◌, inl, inr, ℕ, ◌+◌, false, Result, Ok, Err, List, [], ◌∷◌, ◌++◌, length, take, drop, map, refl, sym, ◌∙◌, ap, arith, append_assoc, append-nil, length-append}
use Rattle.std.proofs.lemmas.List.{take-append-drop, length-drop, drop-drop}
use Rattle.std.proofs.Math.Seq.{take-append_seam, drop-append_seam}
use Rattle.dm_wire.specs.declared.avp.Avp.{Avp}
use Rattle.dm_wire.specs.Spelling.{SpellsList}
use Rattle.dm_wire.specs.Refusal.{IsBadAt}
use Rattle.dm_wire.specs.WalkStates.{Walk}
use Rattle.dm_wire.specs.Walks.{walk_over, Passes, StopsWalk, IsDone, WalkGives, ReadsAs}
use Rattle.dm_wire.proofs.Cuts.{take-add}
use Rattle.dm_wire.proofs.Lists.{list_push, avp_not_empty}

-- a walk over s has passed the AVPs of l, and is now w
pub record Passed (s : List ℕ) (l : List Avp) (w : Walk) : Type 0 where
  pub told : SpellsList l (take w.offset s)
  pub rest : w.left ≡ drop w.offset s
  pub within : w.offset ≤ length s
  pub fewer : length l ≤ w.offset
  pub going : w.ended ≡ false

pub passed_none : (s : List ℕ) → Passed s [] (walk_over s)
passed_none s = record { told = refl; rest = refl; within = omega arith; fewer = omega arith; going = refl }

-- one AVP more
pub passed_more : (s : List ℕ) (l : List Avp) (w v : Walk) (a : Avp) → Passed s l w → Passes w a v →
    Passed s (l ++ a ∷ []) v
passed_more s l w v a p q =
    let n = length q.first in
    let cut : drop w.offset s ≡ q.first ++ v.left = sym p.rest ∙ q.whole in
    let size : length (drop w.offset s) ≡ n + length v.left = ap length cut ∙ length-append q.first v.left in
    let behind = length-drop w.offset s in
    let some : 0 < n = avp_not_empty a q.first q.spelled in
    let before : w.offset ≤ length s = p.within in
    let few : length l ≤ w.offset = p.fewer in
    let next : take n (drop w.offset s) ≡ q.first = ap (take n) cut ∙ take-append_seam q.first v.left in
    let rest : drop n (drop w.offset s) ≡ v.left = ap (drop n) cut ∙ drop-append_seam q.first v.left in
    record {
      told = rw (q.further, take-add w.offset n s, next) (list_push l a (take w.offset s) q.first p.told q.spelled);
      rest = rw (q.further) (sym (sym (drop-drop n w.offset s) ∙ rest));
      within = rw (q.further) (omega arith);
      fewer = rw (q.further) (omega (arith, length-append l (a ∷ [])));
      going = q.goes_on;
    }

-- where the walk stops is the first bad octet
pub passed_stop : (s : List ℕ) (l : List Avp) (w v : Walk) (o : ℕ) → Passed s l w → StopsWalk w o v →
    IsBadAt 0 s o × SpellsList l (take o s)
passed_stop s l w v o p q =
    let some : 0 < length w.left = q.some in
    let size = ap length p.rest ∙ length-drop w.offset s in (
      rw (q.offset)
          (record { above = omega arith; below = omega arith; before = (l, p.told); bad = rw p.rest at q.bad }),
      rw (q.offset) p.told,
    )

-- where nothing is left all is told
pub passed_all : (s : List ℕ) (l : List Avp) (w : Walk) → Passed s l w → IsDone w → SpellsList l s
passed_all s l w p (inl e) =
    let size : length w.left ≡ 0 = ap length e in
    let behind = ap length p.rest ∙ length-drop w.offset s in
    let none : drop w.offset s ≡ [] = sym p.rest ∙ e in
    let whole : take w.offset s ≡ s = sym (append-nil (take w.offset s)) ∙ ap (λ r. take w.offset s ++ r) (sym none) ∙
    take-append-drop w.offset s in
    rw whole at p.told
passed_all s l w p (inr e) = absurd (let going = p.going in cc)

-- the answers that are left tell the rest
pub passed_tells : (s : List ℕ) (l : List Avp) (w : Walk) (k : List (Result Avp ℕ)) → Passed s l w → WalkGives w k
    → ((m : List Avp) × (k ≡ map Ok m) × SpellsList (l ++ m) s) ⊎
    ((m : List Avp) × (o : ℕ) × (k ≡ map Ok m ++ Err o ∷ []) × SpellsList (l ++ m) (take o s) × IsBadAt 0 s o)
passed_tells s l w [] p g = inl ([], refl, rw append-nil (passed_all s l w p g))
passed_tells s l w (Err o ∷ []) p g =
    let bad = passed_stop s l w g.0 o p g.1 in inr ([], o, refl, rw append-nil bad.1, bad.0)
passed_tells s l w (Err o ∷ Ok a ∷ k) p g =
    absurd (let ended = g.1.stays in let going = (g.2.1).going in let e = ap (λ v. v.ended) ended in cc)
passed_tells s l w (Err o ∷ Err b ∷ k) p g =
    absurd (let ended = g.1.stays in let going = (g.2.1).going in let e = ap (λ v. v.ended) ended in cc)
passed_tells s l w (Ok a ∷ k) p g = joined (passed_tells s (l ++ a ∷ []) g.0 k (passed_more s l w g.0 a p g.1) g.2)
  where
    joined : ((m : List Avp) × (k ≡ map Ok m) × SpellsList ((l ++ a ∷ []) ++ m) s) ⊎
        ((m : List Avp) × (o : ℕ) × (k ≡ map Ok m ++ Err o ∷ []) × SpellsList ((l ++ a ∷ []) ++ m) (take o s) ×
        IsBadAt 0 s o)
        → ((m : List Avp) × (Ok a ∷ k ≡ map Ok m) × SpellsList (l ++ m) s) ⊎
        ((m : List Avp) × (o : ℕ) × (Ok a ∷ k ≡ map Ok m ++ Err o ∷ []) × SpellsList (l ++ m) (take o s) ×
        IsBadAt 0 s o)
    joined (inl h) = inl (a ∷ h.0, ap (λ r. Ok a ∷ r) h.1, rw append_assoc at h.2)
    joined (inr h) = inr (a ∷ h.0, h.1, ap (λ r. Ok a ∷ r) h.2, rw append_assoc at h.3, h.4)

-- a whole walk tells what a list of AVPs is read as
pub walk_tells : (s : List ℕ) (l : List (Result Avp ℕ)) → WalkGives (walk_over s) l → ReadsAs s l
walk_tells s l g = passed_tells s [] (walk_over s) l (passed_none s) g
