-- Which vendors stand before an item.
use Rattle.std.proofs.Common.{◌≡◌, ◌<◌, ◌≤◌, ℕ, zero, suc, ◌+◌, true, false, List, [], ◌∷◌, ◌++◌, map, fold, take, drop, length, get_or, Option, None, Some, is_some, refl, sym, ap, ◌∙◌, arith, add-one, length-append}
use Rattle.std.proofs.Math.Seq.{drop-cons, take-append_seam}
use Rattle.std.specs.Option.{option_or}
use Rattle.dm_grammar.specs.Items.{Written, VendorParts}
use Rattle.dm_grammar.specs.Items.Written.{VendorIs, AvpIs, GroupIs, CommandIs}
use Rattle.dm_dict_text.specs.declared.fault.DictFault.{DictFault}
use Rattle.dm_tables.specs.declared.def.VendorDef.{VendorDef}
use Rattle.dm_dict_text.specs.Meaning.{vendor_count, vendor_def_of, WithStrays}
use Rattle.dm_dict_text.specs.Faults.{first_dict_fault, unknown, vendors_with, items_unknown}
use Rattle.dm_dict_text.proofs.Reading.{all_vendors}

pub is_none : (o : Option DictFault) → is_some o ≡ false → o ≡ None
is_none None h = refl
is_none (Some f) h = absurd cc

pub first_or : (xs ys : List DictFault) → option_or (first_dict_fault xs) (first_dict_fault ys) ≡ first_dict_fault (xs ++ ys)
first_or [] ys = refl
first_or (x ∷ xs) ys = refl

pub first_dict_fault-append : (xs ys : List DictFault) → first_dict_fault xs ≡ None → first_dict_fault (xs ++ ys) ≡ first_dict_fault ys
first_dict_fault-append [] ys h = refl
first_dict_fault-append (x ∷ xs) ys h = absurd cc

pub first_dict_fault-left : (xs ys : List DictFault) (f : DictFault) → Some f ≡ first_dict_fault xs → Some f ≡ first_dict_fault (xs ++ ys)
first_dict_fault-left [] ys f h = absurd cc
first_dict_fault-left (x ∷ xs) ys f h = h

take_long : {A : Type 0} (n : ℕ) (xs : List A) → n ≤ length xs → length (take n xs) ≡ n
take_long zero xs h = refl
take_long (suc n) [] h = absurd (omega arith)
take_long (suc n) (x ∷ xs) h = ap suc (take_long n xs (omega arith))

-- the vendors before the next item, where it is a vendor
pub one_more : (all : List VendorDef) (n : ℕ) (p : VendorParts) (items : List Written) → n ≤ length all
    → fold vendors_with (take n all ++ vendor_def_of p ∷ []) items ≡ all →
    take (n + 1) all ≡ take n all ++ vendor_def_of p ∷ []
one_more all n p items h e =
    let more = all_vendors (take n all ++ vendor_def_of p ∷ []) items in
    let parts : all ≡ take n all ++ vendor_def_of p ∷ [] ++ more.0 = sym e ∙ more.1 in
    let long : length (take n all ++ vendor_def_of p ∷ []) ≡ n + 1 = length-append (take n all) (vendor_def_of p ∷ []) ∙
    ap (λ x. x + 1) (take_long n all h) in
    (λ i. take (sym long i) (parts i)) ∙ take-append_seam (take n all ++ vendor_def_of p ∷ []) more.0

-- what is left of the items behind the next of them
module _ (all : WithStrays) (vendors : List VendorDef) {I : Type 0} (shown : I → Written) where
  next : (items : List I) (i : ℕ) (d x : I) → i < length items → x ≡ get_or items i d
      → drop i items ≡ x ∷ drop (i + 1) items
  next items i d x h at = rw (at, add-one i) (drop-cons items i d h)

  -- a fault of the next item is the first
  pub next_fault : (items : List I) (i n : ℕ) (d x : I) (o : Option DictFault) (whole : List DictFault) →
      i < length items
      → x ≡ get_or items i d → first_dict_fault whole ≡ first_dict_fault (items_unknown all (take n vendors) (map shown (drop i items)))
      → o ≡ first_dict_fault (unknown all (take n vendors) (shown x)) → is_some o ≡ true → o ≡ first_dict_fault whole
  next_fault items i n d x None whole h at left e some = absurd cc
  next_fault items i n d x (Some f) whole h at left e some =
      first_dict_fault-left (unknown all (take n vendors) (shown x)) _ f e
      ∙ sym (left ∙ ap (λ (l : List I). first_dict_fault (items_unknown all (take n vendors) (map shown l)))
      (next items i d x h at))

  -- the next item has no fault
  pub next_left : (items : List I) (i n m : ℕ) (d x : I) (whole : List DictFault) → i < length items
      → x ≡ get_or items i d → first_dict_fault whole ≡ first_dict_fault (items_unknown all (take n vendors) (map shown (drop i items)))
      → None ≡ first_dict_fault (unknown all (take n vendors) (shown x)) →
      take m vendors ≡ vendors_with (take n vendors) (shown x)
      → first_dict_fault whole ≡ first_dict_fault (items_unknown all (take m vendors) (map shown (drop (i + 1) items)))
  next_left items i n m d x whole h at left none step =
      left ∙ ap (λ (l : List I). first_dict_fault (items_unknown all (take n vendors) (map shown l))) (next items i d x h at)
      ∙ first_dict_fault-append (unknown all (take n vendors) (shown x)) _ (sym none)
      ∙ ap (λ vs. first_dict_fault (items_unknown all vs (map shown (drop (i + 1) items)))) (sym step)

  pub next_theirs : (items : List I) (i n m : ℕ) (d x : I) → i < length items → x ≡ get_or items i d
      → fold vendors_with (take n vendors) (map shown (drop i items)) ≡ vendors
      → take m vendors ≡ vendors_with (take n vendors) (shown x)
      → fold vendors_with (take m vendors) (map shown (drop (i + 1) items)) ≡ vendors
  next_theirs items i n m d x h at theirs step =
      ap (λ vs. fold vendors_with vs (map shown (drop (i + 1) items))) step
      ∙ sym (ap (λ (l : List I). fold vendors_with (take n vendors) (map shown l)) (next items i d x h at)) ∙ theirs

  -- behind a vendor there is one more
  pub next_vendor : (items : List I) (i n : ℕ) (d x : I) (p : VendorParts) → i < length items → x ≡ get_or items i d
      → n ≤ length vendors → fold vendors_with (take n vendors) (map shown (drop i items)) ≡ vendors →
      shown x ≡ VendorIs p
      → (take (n + 1) vendors ≡ vendors_with (take n vendors) (shown x)) × (n + 1 ≤ length vendors)
  next_vendor items i n d x p h at within theirs is =
      let here : fold vendors_with (take n vendors ++ vendor_def_of p ∷ []) (map shown (drop (i + 1) items)) ≡ vendors =
      ap (λ (w : Written). fold vendors_with (vendors_with (take n vendors) w) (map shown (drop (i + 1) items)))
      (sym is)
      ∙ sym (ap (λ (l : List I). fold vendors_with (take n vendors) (map shown l)) (next items i d x h at)) ∙ theirs in
      let more = all_vendors (take n vendors ++ vendor_def_of p ∷ []) (map shown (drop (i + 1) items)) in
      let long : length vendors ≡ length (take n vendors) + 1 + length more.0 =
      ap length (sym here ∙ more.1) ∙ length-append (take n vendors ++ vendor_def_of p ∷ []) more.0
      ∙ ap (λ x. x + length more.0) (length-append (take n vendors) (vendor_def_of p ∷ [])) in
      let taken = take_long n vendors within in (
        one_more vendors n p (map shown (drop (i + 1) items)) within here ∙ ap (vendors_with (take n vendors)) (sym is),
        omega arith,
      )

  -- the vendors behind the next item
  pub next_step : (items : List I) (i n : ℕ) (d x : I) → i < length items → x ≡ get_or items i d → n ≤ length vendors
      → fold vendors_with (take n vendors) (map shown (drop i items)) ≡ vendors
      → (take (n + vendor_count (shown x)) vendors ≡ vendors_with (take n vendors) (shown x)) ×
      (n + vendor_count (shown x) ≤ length vendors)
  next_step items i n d x h at within theirs = by (shown x) refl
    where
      none : n + 0 ≡ n
      none = omega arith

      still : n + 0 ≤ length vendors
      still = omega arith

      by : (w : Written) → shown x ≡ w
          → (take (n + vendor_count w) vendors ≡ vendors_with (take n vendors) w) ×
          (n + vendor_count w ≤ length vendors)
      by (VendorIs p) e =
          let one = next_vendor items i n d x p h at within theirs e in
          (one.0 ∙ ap (vendors_with (take n vendors)) e, one.1)
      by (AvpIs p) e = (ap (λ m. take m vendors) none, still)
      by (GroupIs p) e = (ap (λ m. take m vendors) none, still)
      by (CommandIs p) e = (ap (λ m. take m vendors) none, still)
