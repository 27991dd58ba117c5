-- What several readers give, one after the other.
use Rattle.std.proofs.Common.{◌≡◌, ◌<◌, ◌≤◌, ◌-◌, ℕ, suc, Bool, true, false, cond, Option, Some, None, option_map, List, [], ◌∷◌, ◌++◌}
use Rattle.std.proofs.Common.{length, take, drop, get_or, slice_set, nat_eq, take-suc, append_assoc, append-nil, arith, ap, sym, ◌∙◌, refl, subst, inr}
use Rattle.std.specs.Fmt.{option_append}
use Rattle.std.specs.Io.KnownBytes.{Consumes, IsAtEnd}
use Rattle.dm_view_lines.specs.declared.inputs.EndedReader.{EndedReader}
use Rattle.dm_view_lines.specs.Inputs.{ended_behind, ended_remaining, all_remaining}
use Rattle.dm_view_lines.specs.LineEnds.{ended, is_ended}
use Rattle.dm_view_lines.proofs.Seams.{ended-front, ended-behind}

ended-cons : (b : ℕ) (t : List ℕ) → ended (b ∷ t) ≡ b ∷ ended_behind b t
ended-cons b t = by (is_ended (b ∷ t)) where
  by : (v : Bool) → cond v (b ∷ t) ((b ∷ t) ++ 10 ∷ []) ≡ b ∷ drop 1 (cond v (b ∷ t) ((b ∷ t) ++ 10 ∷ []))
  by true = refl
  by false = refl

-- octets that were read, and those behind them
behind-more : (last x : ℕ) (front rest : List ℕ)
    → ended_behind last ((front ++ x ∷ []) ++ rest) ≡ (front ++ x ∷ []) ++ ended_behind x rest
behind-more last x front rest =
    ap (λ v. drop 1 (ended (last ∷ v))) (append_assoc front (x ∷ []) rest)
    ∙ ap (drop 1) (ended-front (last ∷ front) x rest)
    ∙ ap (λ v. front ++ v) (ended-cons x rest)
    ∙ sym (append_assoc front (x ∷ []) (ended_behind x rest))

taken_is : (n : ℕ) (buf : List ℕ) (d : ℕ) → 0 < n → n ≤ length buf
    → take n buf ≡ take (n - 1) buf ++ get_or buf (n - 1) d ∷ []
taken_is n buf d some within =
    let next : n ≡ suc (n - 1) = omega (arith, some) in
    ap (λ k. take k buf) next ∙ take-suc buf (n - 1) d (omega (arith, some, within))

pub ended_read : (last n d : ℕ) (buf : List ℕ) (a b : Option (List ℕ)) → 0 < n → n ≤ length buf
    → Consumes a b (take n buf)
    → Consumes (option_map (ended_behind last) a) (option_map (ended_behind (get_or buf (n - 1) d)) b) (take n buf)
ended_read last n d buf None b some within h = tt
ended_read last n d buf (Some xs) None some within h = absurd h
ended_read last n d buf (Some xs) (Some ys) some within h =
    let x = get_or buf (n - 1) d in
    let taken = taken_is n buf d some within in
    ap (ended_behind last) (h ∙ ap (λ v. v ++ ys) taken) ∙ behind-more last x (take (n - 1) buf) ys
    ∙ ap (λ v. v ++ ended_behind x ys) (sym taken)

last_feed : (last : ℕ) → nat_eq last 10 ≡ false → ended_behind last [] ≡ 10 ∷ []
last_feed last other = ap (λ v. drop 1 (cond v (last ∷ []) ((last ∷ []) ++ 10 ∷ []))) other

-- its end
pub ended_feed : (last : ℕ) (a b : Option (List ℕ)) → nat_eq last 10 ≡ false → Consumes a b [] → IsAtEnd b
    → Consumes (option_map (ended_behind last) a) (option_map (ended_behind 10) b) (10 ∷ [])
ended_feed last None b other h end = tt
ended_feed last (Some xs) None other h end = absurd h
ended_feed last (Some xs) (Some ys) other h end =
    ap (ended_behind last) (h ∙ end) ∙ last_feed last other ∙ ap (λ v. 10 ∷ ended_behind 10 v) (sym end)

-- a line feed that is put in front
pub feed_put : (buf : List ℕ) → 0 < length buf → take 1 (slice_set buf 0 10) ≡ 10 ∷ []
feed_put [] some = absurd (omega (arith, some))
feed_put (b ∷ s) some = refl

-- nothing was read
pub none_taken : (n : ℕ) (buf : List ℕ) (a b : Option (List ℕ)) → n ≡ 0 → Consumes a b (take n buf) → Consumes a b []
none_taken n buf a b none h =
    let Taken : ℕ → Type 0 = λ k. Consumes a b (take k buf) in subst Taken none h

-- ---- a reader behind others

known_feed : (o : Option (List ℕ)) → option_map (ended_behind 10) o ≡ option_map ended o
known_feed None = refl
known_feed (Some s) = ap (λ v. Some (drop 1 v)) (ended-behind (10 ∷ []) s (inr ([], refl)))

nothing_behind : (o : Option (List ℕ)) → option_append o (Some []) ≡ option_append (Some []) o
nothing_behind None = refl
nothing_behind (Some s) = ap Some (append-nil s)

known_assoc : (a b c : Option (List ℕ)) → option_append a (option_append b c) ≡ option_append (option_append a b) c
known_assoc None b c = refl
known_assoc (Some x) None c = refl
known_assoc (Some x) (Some y) None = refl
known_assoc (Some x) (Some y) (Some z) = ap Some (sym (append_assoc x y z))

module _ {R : Type 0} (remaining : R → Option (List ℕ)) where
  all-push : (l : List (EndedReader R)) (r : EndedReader R)
      → all_remaining remaining (l ++ r ∷ []) ≡ option_append (all_remaining remaining l) (ended_remaining remaining r)
  all-push [] r = nothing_behind (ended_remaining remaining r)
  all-push (first ∷ l) r =
      ap (λ v. option_append (ended_remaining remaining first) v) (all-push l r)
      ∙ known_assoc (ended_remaining remaining first) (all_remaining remaining l) (ended_remaining remaining r)

  pub pushed : (l l' : List (EndedReader R)) (r : R) → l' ≡ l ++ (record { reader = r; last = 10 }) ∷ []
      → all_remaining remaining l' ≡ option_append (all_remaining remaining l) (option_map ended (remaining r))
  pushed l l' r is =
      ap (all_remaining remaining) is ∙ all-push l (record { reader = r; last = 10 })
      ∙ ap (λ v. option_append (all_remaining remaining l) v) (known_feed (remaining r))
