-- Clean octets, and what they are where a text is put.
use Rattle.std.proofs.Common.{◌≡◌, ◌≢◌, ◌≤◌, ◌<◌, ◌+◌, ◌%◌, ◌^◌, ◌∙◌, ℕ, true, inl, inr, List, [], ◌∷◌, ◌++◌}
use Rattle.std.proofs.Common.{cond, length, get_or, map, replicate, ltb, eqb, refl, sym, ap, arith, w8, Fits}
use Rattle.std.proofs.Common.{None, codes}
use Rattle.std.proofs.Common.{append-nil}
use Rattle.std.proofs.lemmas.Bool.{cases_lt, ltb-false, eqb-false}
use Rattle.std.proofs.lemmas.List.{length-map}
use Rattle.std.proofs.lemmas.List.Elements.{All-from_get_or, All-head, All-tail, All-weaker}
use Rattle.std.proofs.lemmas.Simd.{bitmask_splat, length-chunk, map-map, none_from_empty_mask, zip2_splat}
use Rattle.std.proofs.lemmas.Str.{IsUtf8-from_ascii, is_utf8-from_IsUtf8}
use Rattle.std.proofs.lemmas.Str.Ascii.{IsAscii-from_all}
use Rattle.std.specs.List.{All, list_all}
use Rattle.std.specs.Simd.Lanes.{chunk, mask_l, top, zip2}
use Rattle.std.specs.Str.{IsUtf8}
use Rattle.json.proofs.Printed.Strings.{escape_byte_plain}
use Rattle.json.specs.Json.{string}
use Rattle.json.specs.Print.{escape}
use Rattle.dm_value.specs.declared.avp_type.AvpType.TheVariants.{DiameterIdentity, UTF8String}
use Rattle.dm_value.specs.Flaws.{is_visible, flaw}
use Rattle.dm_tables.specs.declared.def.AvpDef.{AvpDef}
use Rattle.dm_view.specs.Clean.{NeedsNoEscape, CleanBetween}
use Rattle.dm_view.specs.JsonView.{data_json}
use Rattle.dm_view.specs.View.{data_view}
use Rattle.dm_view.specs.Words.{is_plain_octet, quoted}

-- two stretches that meet
pub clean_joined : (least : ℕ) (s : List ℕ) (j m n : ℕ) → j ≤ m → CleanBetween least s 0 m → CleanBetween least s j n
    → CleanBetween least s 0 n
clean_joined least s j m n meet front back k from below = elim (cases_lt k m) [
  | inl less ↦ front k from less
  | inr more ↦ back k (omega (arith, more, meet)) below
]

pub all_clean : (least : ℕ) (s : List ℕ) → CleanBetween least s 0 (length s) → All (NeedsNoEscape least) s
all_clean least s clean = All-from_get_or (NeedsNoEscape least) s 0 (λ k below. clean k (omega arith) below)

-- no bit is set in the three masks of so many lanes
pub clean_lanes : (least : ℕ) (s : List ℕ) (i n : ℕ) → least ≤ 33 → i + n ≤ length s
    → ((k : ℕ) → Fits w8 (get_or s k 0))
    → mask_l (map (λ b. ltb ((b + 129) % 2 ^ 8) (least + 129)) (chunk i n s)) ≡ 0
    → mask_l (map (λ b. eqb b 34) (chunk i n s)) ≡ 0 → mask_l (map (λ b. eqb b 92) (chunk i n s)) ≡ 0
    → CleanBetween least s i (i + n)
clean_lanes least s i n bound room fits others quotes slashes k from below =
    let b = get_or s k 0 in
    let octet : b < 2 ^ 8 = (fits k).fits in
    let moved : least + 129 ≤ (b + 129) % 2 ^ 8 =
    ltb-false _ _
    (none_from_empty_mask (λ b. ltb ((b + 129) % 2 ^ 8) (least + 129)) s i n 0 room others k from below) in
    let quote : b ≢ 34 = eqb-false _ _ (none_from_empty_mask (λ b. eqb b 34) s i n 0 room quotes k from below) in
    let slash : b ≢ 92 = eqb-false _ _ (none_from_empty_mask (λ b. eqb b 92) s i n 0 room slashes k from below) in
    (omega (arith, moved, octet, bound), omega (arith, moved, octet, bound), quote, slash)

abbrev sum : ℕ → ℕ → ℕ
sum a b = (a + b) % 2 ^ 8

-- no bit is set in the masks as they are computed
pub clean_masks : (least : ℕ) (s : List ℕ) (i n : ℕ) → least ≤ 33 → n ≤ 64 → i + n ≤ length s
    → ((k : ℕ) → Fits w8 (get_or s k 0))
    → mask_l (map (top 7) (zip2 (λ a b. cond (ltb a b) 255 0) (zip2 sum (chunk i n s) (replicate n 129))
    (replicate n (least + 129)))) % 2 ^ 64 ≡ 0
    → mask_l (map (top 7) (zip2 (λ a b. cond (eqb a b) 255 0) (chunk i n s) (replicate n 34))) % 2 ^ 64 ≡ 0
    → mask_l (map (top 7) (zip2 (λ a b. cond (eqb a b) 255 0) (chunk i n s) (replicate n 92))) % 2 ^ 64 ≡ 0
    → CleanBetween least s i (i + n)
clean_masks least s i n bound few room fits others quotes slashes =
    let v = chunk i n s in
    let long : length v ≡ n = length-chunk i n s room in
    let sums : zip2 sum v (replicate n 129) ≡ map (λ b. sum b 129) v = zip2_splat sum v n 129 long in
    let all : length (zip2 sum v (replicate n 129)) ≡ n = ap length sums ∙ length-map v (λ b. sum b 129) ∙ long in
    clean_lanes least s i n bound room fits
    (sym (ap mask_l (ap (map (λ b. ltb b (least + 129))) sums ∙ map-map (λ b. ltb b (least + 129)) (λ b. sum b 129) v))
    ∙ sym (bitmask_splat w8 ltb (zip2 sum v (replicate n 129)) n (least + 129) all few) ∙ others)
    (sym (bitmask_splat w8 eqb v n 34 long few) ∙ quotes) (sym (bitmask_splat w8 eqb v n 92 long few) ∙ slashes)

-- ---- what they are

pub clean_is_text : (least : ℕ) (s : List ℕ) → All (NeedsNoEscape least) s → IsUtf8 s
clean_is_text least s clean =
    let low = All-weaker (NeedsNoEscape least) (λ b. b < 128) (λ b is. omega (arith, is.1)) s clean in
    IsUtf8-from_ascii s (IsAscii-from_all s low)

visible_octet : (b : ℕ) → NeedsNoEscape 33 b → is_visible b ≡ true
visible_octet b is = grind (arith, is.0, is.1)

pub clean_is_visible : (s : List ℕ) → All (NeedsNoEscape 33) s → list_all is_visible s ≡ true
clean_is_visible [] clean = refl
clean_is_visible (b ∷ s) clean =
    let rest = clean_is_visible s (All-tail (NeedsNoEscape 33) b s clean) in
    rw (visible_octet b (All-head (NeedsNoEscape 33) b s clean), rest) refl

plain_octet : (b : ℕ) → NeedsNoEscape 32 b → is_plain_octet b ≡ true
plain_octet b is = grind (arith, is.0, is.1, is.2)

pub clean_is_plain : (s : List ℕ) → All (NeedsNoEscape 32) s → list_all is_plain_octet s ≡ true
clean_is_plain [] clean = refl
clean_is_plain (b ∷ s) clean =
    let rest = clean_is_plain s (All-tail (NeedsNoEscape 32) b s clean) in
    rw (plain_octet b (All-head (NeedsNoEscape 32) b s clean), rest) refl

pub clean_is_unescaped : (least : ℕ) (s : List ℕ) → 32 ≤ least → All (NeedsNoEscape least) s → escape s ≡ s
clean_is_unescaped least [] from clean = refl
clean_is_unescaped least (b ∷ s) from clean =
    let (low, high, quote, slash) = All-head (NeedsNoEscape least) b s clean in
    let rest = clean_is_unescaped least s from (All-tail (NeedsNoEscape least) b s clean) in
    λ i. escape_byte_plain b quote slash (omega (arith, low, from)) i ++ rest i

-- ---- data that is clean

pub clean_text_is_sound : (s : List ℕ) → All (NeedsNoEscape 32) s → flaw UTF8String s ≡ None
clean_text_is_sound s clean = rw (is_utf8-from_IsUtf8 s (clean_is_text 32 s clean)) (grind arith)

pub clean_identity_is_sound : (s : List ℕ) → 0 < length s → All (NeedsNoEscape 33) s → flaw DiameterIdentity s ≡ None
clean_identity_is_sound s some clean = rw (clean_is_visible s clean) (grind (arith, some))

clean_quoted : (s : List ℕ) → list_all is_plain_octet s ≡ true → quoted s ≡ 34 ∷ (s ++ 34 ∷ [])
unfolding quoted
clean_quoted s plain = rw plain refl

pub clean_text_view : (f : AvpDef) (s : List ℕ) → f.kind ≡ UTF8String → All (NeedsNoEscape 32) s
    → data_view f s ≡ codes " \"" ++ (s ++ codes "\"")
unfolding data_view
clean_text_view f s is clean = rw (is, clean_text_is_sound s clean, clean_quoted s (clean_is_plain s clean)) refl

pub clean_identity_view : (f : AvpDef) (s : List ℕ) → f.kind ≡ DiameterIdentity → 0 < length s
    → All (NeedsNoEscape 33) s → data_view f s ≡ codes " " ++ (s ++ codes "")
unfolding data_view
clean_identity_view f s is some clean =
    rw (is, clean_identity_is_sound s some clean, is_utf8-from_IsUtf8 s (clean_is_text 33 s clean), append-nil) refl

pub clean_text_json : (f : AvpDef) (s : List ℕ) → f.kind ≡ UTF8String → All (NeedsNoEscape 32) s
    → data_json f s ≡ string s
unfolding data_json
clean_text_json f s is clean = rw (is, clean_text_is_sound s clean) refl

pub clean_identity_json : (f : AvpDef) (s : List ℕ) → f.kind ≡ DiameterIdentity → 0 < length s
    → All (NeedsNoEscape 33) s → data_json f s ≡ string s
unfolding data_json
clean_identity_json f s is some clean =
    rw (is, clean_identity_is_sound s some clean, is_utf8-from_IsUtf8 s (clean_is_text 33 s clean)) refl
