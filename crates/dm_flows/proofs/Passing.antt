-- Tags and extension headers that were passed.
use Rattle.std.proofs.Common.{◌≡◌, ◌≤◌, ◌⊎◌, inl, inr, ℕ, suc, ◌-◌, List, length, take, drop, slice_index, subst, sym, ◌∙◌}
use Rattle.std.proofs.lemmas.List.{take_rest}
use Rattle.byteorder.specs.Endian.{big_number}
use Rattle.dm_flows.specs.Links.{IsTagType, HasTags, EndsInTags}
use Rattle.dm_flows.specs.Ips.{IsExtension, IsWholeExtension, IsFragmentHeader, extension_size, LeadsTo, EndsInExtensions, LeadsToFragment}

-- what stands behind tags in the rest stands behind tags in the whole
pub record BehindTags (s rest : List ℕ) : Type 0 where
  pub typed : (n kind : ℕ) (left : List ℕ) → HasTags n rest kind left → (m : ℕ) × HasTags m s kind left
  pub ends : (n : ℕ) → EndsInTags n rest → (m : ℕ) × EndsInTags m s

pub behind_none : (s : List ℕ) → BehindTags s s
behind_none s = record { typed = λ n kind left h. (n, h); ends = λ n h. (n, h) }

pub behind_tag : (s rest : List ℕ) → BehindTags s rest → 4 ≤ length rest → IsTagType (big_number 2 rest) →
    BehindTags s (take (length rest - 4) (drop 4 rest))
behind_tag s rest so has tag =
    let next : BehindTags s (drop 4 rest) = record {
      typed = λ n kind left h. so.typed (suc n) kind left (has, tag, h);
      ends = λ n h. so.ends (suc n) (has, tag, h);
    } in
    let P : List ℕ → Type 0 = λ l. BehindTags s l in
    subst P (sym (take_rest rest 4)) next

-- an EtherType, with the octets behind it as the code cuts them
pub type_found : (rest : List ℕ) (kind : ℕ) → 2 ≤ length rest → kind ≡ big_number 2 rest → (kind ≡ 0x8100 → ⊥) →
    (kind ≡ 0x88a8 → ⊥) → HasTags 0 rest kind (take (length rest - 2) (drop 2 rest))
type_found rest kind has is other another = (has, none, is, take_rest rest 2)
  where
    none : IsTagType (big_number 2 rest) → ⊥
    none (inl e) = other (is ∙ e)
    none (inr e) = another (is ∙ e)

pub tag_found : (rest : List ℕ) (kind : ℕ) → kind ≡ big_number 2 rest →
    ((kind ≡ 0x8100 → ⊥) × (kind ≡ 0x88a8)) ⊎ (kind ≡ 0x8100) → IsTagType (big_number 2 rest)
tag_found rest kind is (inl (other, e)) = inr (sym is ∙ e)
tag_found rest kind is (inr e) = inl (sym is ∙ e)

-- the same of extension headers, of which the next has the number `next`
pub record BehindExtensions (first : ℕ) (s : List ℕ) (next : ℕ) (rest : List ℕ) : Type 0 where
  pub upper : (n protocol : ℕ) (payload : List ℕ) → LeadsTo n next rest protocol payload →
      (m : ℕ) × LeadsTo m first s protocol payload
  pub ends : (n : ℕ) → EndsInExtensions n next rest → (m : ℕ) × EndsInExtensions m first s
  pub fragment : (n : ℕ) → LeadsToFragment n next rest → (m : ℕ) × LeadsToFragment m first s

pub behind_no_extension : (first : ℕ) (s : List ℕ) → BehindExtensions first s first s
behind_no_extension first s = record {
  upper = λ n protocol payload h. (n, h);
  ends = λ n h. (n, h);
  fragment = λ n h. (n, h);
}

pub behind_extension : (first : ℕ) (s : List ℕ) (next : ℕ) (rest : List ℕ) (size after : ℕ) →
    BehindExtensions first s next rest → IsWholeExtension next rest → (IsFragmentHeader next rest → ⊥) →
    size ≡ extension_size next rest → after ≡ slice_index rest 0 →
    BehindExtensions first s after (take (length rest - size) (drop size rest))
behind_extension first s next rest size after so whole other is at =
    let there : BehindExtensions first s (slice_index rest 0) (drop (extension_size next rest) rest) = record {
      upper = λ n protocol payload h. so.upper (suc n) protocol payload (whole, other, h);
      ends = λ n h. so.ends (suc n) (whole, other, h);
      fragment = λ n h. so.fragment (suc n) (whole, other, h);
    } in
    let P : ℕ → Type 0 = λ k. BehindExtensions first s k (drop (extension_size next rest) rest) in
    let Q : ℕ → Type 0 = λ k. BehindExtensions first s after (drop k rest) in
    let R : List ℕ → Type 0 = λ l. BehindExtensions first s after l in
    subst R (sym (take_rest rest size)) (subst Q (sym is) (subst P (sym at) there))

pub whole_extension : (next : ℕ) (rest : List ℕ) (size : ℕ) → IsExtension next → 2 ≤ length rest →
    size ≡ extension_size next rest → size ≤ length rest → IsWholeExtension next rest
whole_extension next rest size kind least is fits =
    let P : ℕ → Type 0 = λ n. n ≤ length rest in
    record { kind = kind; least = least; fits = subst P is fits }
