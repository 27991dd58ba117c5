-- The DATA chunks of a packet are read to their end, and are one list.
use Rattle.std.proofs.Common.{◌≡◌, ◌≢◌, ◌≤◌, ◌<◌, ◌⊎◌, inl, inr, ℕ, zero, suc, List, [], ◌∷◌, length, slice_index, refl, sym, ◌∙◌, ap, subst, arith}
use Rattle.std.proofs.lemmas.Bool.{cases_lt}
use Rattle.dm_flows.specs.Sctps.{SeenData, chunk_length, data_chunk, IsWholeChunk, IsData, behind_chunk, PassesChunks, HasData, HasNoData, AreData}
use Rattle.dm_flows.proofs.SctpChunks.{behind_shorter}

-- the next DATA chunk is found in one place
one_place : (n m : ℕ) (s f g : List ℕ) → PassesChunks n s f → IsData f → PassesChunks m s g → IsData g → f ≡ g
one_place zero zero s f g h is k also = h ∙ sym k
one_place zero (suc m) s f g h is k also = absurd (k.1 (subst (λ (l : List ℕ). IsData l) h is))
one_place (suc n) zero s f g h is k also = absurd (h.1 (subst (λ (l : List ℕ). IsData l) k also))
one_place (suc n) (suc m) s f g h is k also = one_place n m (behind_chunk s) f g h.2 is k.2 also

data_or_end : (n m : ℕ) (s f g : List ℕ) → PassesChunks n s f → IsData f → PassesChunks m s g →
    (IsWholeChunk g → ⊥) → ⊥
data_or_end zero zero s f g h is k not =
    not (subst (λ (l : List ℕ). IsWholeChunk l) (h ∙ sym k) is.whole)
data_or_end zero (suc m) s f g h is k not = k.1 (subst (λ (l : List ℕ). IsData l) h is)
data_or_end (suc n) zero s f g h is k not = not (subst (λ (l : List ℕ). IsWholeChunk l) (sym k) h.0)
data_or_end (suc n) (suc m) s f g h is k not = data_or_end n m (behind_chunk s) f g h.2 is k.2 not

one_data : (s : List ℕ) (c d : SeenData) (r q : List ℕ) → HasData s c r → HasData s d q → (c ≡ d) × (r ≡ q)
one_data s c d r q h k =
    let e : h.from ≡ k.from = one_place h.count k.count s h.from k.from h.passes h.is k.passes k.is in
    (h.says ∙ ap data_chunk e ∙ sym k.says, h.behind ∙ ap behind_chunk e ∙ sym k.behind)

data_or_none : (s : List ℕ) (c : SeenData) (r : List ℕ) → HasData s c r → HasNoData s → ⊥
data_or_none s c r h k = data_or_end h.count k.count s h.from k.from h.passes h.is k.passes k.ends

pub one_data_list : (s : List ℕ) (x y : List SeenData) → AreData s x → AreData s y → x ≡ y
one_data_list s [] [] h k = refl
one_data_list s [] (d ∷ y) h (q, k, later) = absurd (data_or_none s d q k h)
one_data_list s (c ∷ x) [] (r, h, later) k = absurd (data_or_none s c r h k)
one_data_list s (c ∷ x) (d ∷ y) (r, h, later) (q, k, rest) =
    let same = one_data s c d r q h k in
    ap (λ e. e ∷ x) same.0 ∙
    ap (λ l. d ∷ l) (one_data_list q x y (subst (λ (l : List ℕ). AreData l x) same.1 later) rest)

-- a whole chunk stands at the front or none does, and it is a DATA chunk or it isn't
whole_or_not : (s : List ℕ) → IsWholeChunk s ⊎ (IsWholeChunk s → ⊥)
whole_or_not s = by (cases_lt (length s) 4) (cases_lt (chunk_length s) 4) (cases_lt (length s) (chunk_length s))
  where
    by : (length s < 4) ⊎ (4 ≤ length s) → (chunk_length s < 4) ⊎ (4 ≤ chunk_length s) →
        (length s < chunk_length s) ⊎ (chunk_length s ≤ length s) → IsWholeChunk s ⊎ (IsWholeChunk s → ⊥)
    by (inl short) header fits = inr (λ is. omega (arith, short, is.least))
    by (inr least) (inl low) fits = inr (λ is. omega (arith, low, is.header))
    by (inr least) (inr header) (inl less) = inr (λ is. omega (arith, less, is.fits))
    by (inr least) (inr header) (inr fits) = inl (record { least = least; header = header; fits = fits })

zero_or_not : (n : ℕ) → (n ≡ 0) ⊎ (n ≢ 0)
zero_or_not zero = inl refl
zero_or_not (suc n) = inr (λ e. omega (arith, e))

data_or_not : (s : List ℕ) → IsWholeChunk s → IsData s ⊎ (IsData s → ⊥)
data_or_not s whole = by (zero_or_not (slice_index s 0)) (cases_lt (chunk_length s) 17)
  where
    by : (slice_index s 0 ≡ 0) ⊎ (slice_index s 0 ≢ 0) → (chunk_length s < 17) ⊎ (17 ≤ chunk_length s) →
        IsData s ⊎ (IsData s → ⊥)
    by (inr other) size = inr (λ is. other is.kind)
    by (inl kind) (inl short) = inr (λ is. omega (arith, short, is.least))
    by (inl kind) (inr least) = inl (record { whole = whole; kind = kind; least = least })

-- the list behind a chunk that is no DATA chunk is that of the whole
one_more : (s : List ℕ) (x : List SeenData) → IsWholeChunk s → (IsData s → ⊥) → AreData (behind_chunk s) x → AreData s x
one_more s [] whole other h =
    record { count = suc h.count; from = h.from; passes = (whole, other, h.passes); ends = h.ends }
one_more s (c ∷ x) whole other (rest, h, later) = (
  rest,
  record {
    count = suc h.count;
    from = h.from;
    passes = (whole, other, h.passes);
    is = h.is;
    says = h.says;
    behind = h.behind;
  },
  later,
)

with_front : (s : List ℕ) → IsWholeChunk s → IsData s ⊎ (IsData s → ⊥) →
    (x : List SeenData) × AreData (behind_chunk s) x → (x : List SeenData) × AreData s x
with_front s whole (inl is) (x, later) = (
  data_chunk s ∷ x,
  (
    behind_chunk s,
    record {
      count = 0;
      from = s;
      passes = refl;
      is = is;
      says = refl;
      behind = refl;
    },
    later,
  ),
)
with_front s whole (inr other) (x, later) = (x, one_more s x whole other later)

list_from : (s : List ℕ) → (IsWholeChunk s → (x : List SeenData) × AreData (behind_chunk s) x) →
    IsWholeChunk s ⊎ (IsWholeChunk s → ⊥) → (x : List SeenData) × AreData s x
list_from s later (inl whole) = with_front s whole (data_or_not s whole) (later whole)
list_from s later (inr not) = ([], record { count = 0; from = s; passes = refl; ends = not })

pub each_list : (n : ℕ) (s : List ℕ) → length s < n → (x : List SeenData) × AreData s x
each_list zero s h = absurd (omega (arith, h))
each_list (suc n) s h =
    list_from s (λ whole. each_list n (behind_chunk s) (omega (arith, h, behind_shorter s whole))) (whole_or_not s)
