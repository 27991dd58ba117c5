-- Chunks that were passed.
use Rattle.std.proofs.Common.{◌≡◌, ◌≢◌, ◌≤◌, ◌<◌, ◌⊎◌, inl, inr, ℕ, suc, ◌+◌, ◌*◌, ◌/◌, List, length, slice_index, refl, ◌∙◌, subst, sym, arith}
use Rattle.std.proofs.lemmas.List.{length-drop}
use Rattle.dm_flows.specs.Sctps.{SeenData, IsWholeChunk, IsData, chunk_length, behind_chunk, data_chunk, HasData, HasNoData}

-- a chunk has octets
pub behind_shorter : (s : List ℕ) → IsWholeChunk s → length (behind_chunk s) < length s
behind_shorter s is = rw (length-drop (4 * ((chunk_length s + 3) / 4)) s) (omega (arith, is.least, is.header))

-- what is found behind chunks in the rest is found behind chunks in the whole
pub record BehindChunks (s rest : List ℕ) : Type 0 where
  pub within : length rest ≤ length s
  pub found : (chunk : SeenData) (left : List ℕ) → HasData rest chunk left → HasData s chunk left
  pub none : HasNoData rest → HasNoData s

pub behind_no_chunk : (s : List ℕ) → BehindChunks s s
behind_no_chunk s = record { within = omega arith; found = λ chunk left h. h; none = λ h. h }

pub behind_one : (s rest left : List ℕ) → BehindChunks s rest → IsWholeChunk rest → (IsData rest → ⊥) →
    left ≡ behind_chunk rest → BehindChunks s left
behind_one s rest left so whole other is =
    let next : BehindChunks s (behind_chunk rest) = record {
      within = omega (arith, so.within, behind_shorter rest whole);
      found = λ chunk l h. so.found chunk l (record {
        count = suc h.count;
        from = h.from;
        passes = (whole, other, h.passes);
        is = h.is;
        says = h.says;
        behind = h.behind;
      });
      none = λ h. so.none (record {
        count = suc h.count;
        from = h.from;
        passes = (whole, other, h.passes);
        ends = h.ends;
      });
    } in
    let P : List ℕ → Type 0 = λ l. BehindChunks s l in
    subst P (sym is) next

-- the DATA chunk at the front of the rest
pub data_found : (s rest : List ℕ) (chunk : SeenData) (left : List ℕ) → BehindChunks s rest → IsData rest →
    chunk ≡ data_chunk rest → left ≡ behind_chunk rest → HasData s chunk left
data_found s rest chunk left so is says behind =
    so.found chunk left
    (record { count = 0; from = rest; passes = refl; is = is; says = says; behind = behind })

pub data_shorter : (s rest left : List ℕ) → BehindChunks s rest → IsWholeChunk rest → left ≡ behind_chunk rest →
    length left < length s
data_shorter s rest left so whole is =
    let P : List ℕ → Type 0 = λ l. length l < length s in
    subst P (sym is) (omega (arith, so.within, behind_shorter rest whole))

-- a whole chunk that is no DATA chunk, or one without user data
pub other_found : (rest : List ℕ) (kind size : ℕ) → kind ≡ slice_index rest 0 → size ≡ chunk_length rest →
    ((kind ≡ 0) × (size ≤ 16)) ⊎ (kind ≢ 0) → IsData rest → ⊥
other_found rest kind size at is (inl (e, less)) data_is =
    let P : ℕ → Type 0 = λ n. n ≤ 16 in
    omega (arith, data_is.least, subst P is less)
other_found rest kind size at is (inr other) data_is = other (at ∙ data_is.kind)

pub data_at_front : (rest : List ℕ) (kind size : ℕ) → kind ≡ slice_index rest 0 → size ≡ chunk_length rest →
    IsWholeChunk rest → kind ≡ 0 → 16 < size → IsData rest
data_at_front rest kind size at is whole e more =
    let P : ℕ → Type 0 = λ n. 16 < n in
    record { whole = whole; kind = sym at ∙ e; least = omega (arith, subst P is more) }
