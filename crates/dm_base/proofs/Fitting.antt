-- What the types of a program say of the parts of a node.
use Rattle.std.proofs.Common.{◌≡◌, ◌<◌, ◌≤◌, ℕ, suc, Bool, true, false, ◌&&◌, ◌||◌, not, nat_eq, nat_lt, nat_le, Option, None, Some, if◌then◌else◌, List, [], ◌∷◌, length, slice_index, Fits, w32, refl, arith}
use Rattle.std.specs.List.{list_all}
use Rattle.std.proofs.Math.Facts.{Fits-lt-pow}
use Rattle.std.proofs.lemmas.Bool.{lt-ltb, and_parts, leb-true, ltb-false, le-leb, eqb-false}
use Rattle.std.specs.Str.{IsUtf8, is_utf8}
use Rattle.std.proofs.lemmas.Str.{is_utf8-from_IsUtf8}
use Rattle.dm_value.specs.declared.address.Ip.{Ip}
use Rattle.dm_value.specs.Flaws.{is_visible_text}
use Rattle.dm_base.specs.declared.node_fault.NodeFault.TheVariants.{BadHost, NoAddress, TooLong}
use Rattle.dm_base.specs.Codes.{max_name_len, max_addresses, max_ids}
use Rattle.dm_base.specs.Refusals.{is_long, node_fault}
use Rattle.dm_base.specs.Fit.{is_number, is_name, is_sized, are_addresses, are_ids, is_product, is_optional_number}
use Rattle.dm_base.specs.Fit.{is_vendor_application, are_vendor_applications}
use Rattle.dm_base.specs.declared.vendor_application.VendorApplication.{VendorApplication}

pub all_numbers : (l : List ℕ) → ((i : ℕ) → Fits w32 (slice_index l i)) → list_all is_number l ≡ true
all_numbers [] h = refl
all_numbers (n ∷ l) h =
    let small : n < 4294967296 = Fits-lt-pow (h 0) in
    rw (lt-ltb n 4294967296 small) (all_numbers l (λ i. h (suc i)))

pub is_text : (s : List ℕ) → IsUtf8 s → is_utf8 s ≡ true
is_text s h = is_utf8-from_IsUtf8 s h

-- what the parts of a node keep to
pub record AreFit (host realm : List ℕ) (addresses : List Ip) (product auth acct : List ℕ) : Type 0 where
  pub host_is : is_name host ≡ true
  pub realm_is : is_name realm ≡ true
  pub addresses_are : are_addresses addresses ≡ true
  pub product_is : is_product product ≡ true
  pub auth_are : are_ids auth ≡ true
  pub acct_are : are_ids acct ≡ true

none_of : (a b c : Bool)
    → (if not a then Some BadHost else (if b then Some NoAddress else (if c then Some TooLong else None))) ≡ None
    → (a ≡ true) × (b ≡ false) × (c ≡ false)
none_of true false false h = (refl, refl, refl)
none_of true false true h = absurd (cc)
none_of true true c h = absurd (cc)
none_of false b c h = absurd (cc)

neither : (a b : Bool) → (a || b) ≡ false → (a ≡ false) × (b ≡ false)
neither false b h = (refl, h)
neither true b h = absurd (cc)

both : (a b : Bool) → a ≡ true → b ≡ true → (a && b) ≡ true
both a b h g = rw (h, g) refl

at_most : (max n : ℕ) → nat_lt max n ≡ false → nat_le n max ≡ true
at_most max n h = le-leb n max (ltb-false max n h)

pub no_fault : (host realm : List ℕ) (addresses : List Ip) (product auth acct : List ℕ)
    → node_fault host realm addresses product auth acct ≡ None
    → list_all is_sized addresses ≡ true → is_utf8 product ≡ true → list_all is_number auth ≡ true
    → list_all is_number acct ≡ true → AreFit host realm addresses product auth acct
no_fault host realm addresses product auth acct h sized text ids more =
    let (names, some, short) =
    none_of (is_visible_text host && is_visible_text realm) (nat_eq (length addresses) 0)
    (is_long host realm addresses product auth acct) h in
    let (host_is, realm_is) = and_parts (is_visible_text host) (is_visible_text realm) names in
    let first = nat_lt max_name_len (length host) in
    let second = nat_lt max_name_len (length realm) in
    let third = nat_lt max_name_len (length product) in
    let fourth = nat_lt max_addresses (length addresses) in
    let fifth = nat_lt max_ids (length auth) in
    let (five, f) = neither (first || second || third || fourth || fifth) (nat_lt max_ids (length acct)) short in
    let (four, e) = neither (first || second || third || fourth) fifth five in
    let (three, d) = neither (first || second || third) fourth four in
    let (two, c) = neither (first || second) third three in
    let (a, b) = neither first second two in
    let not_none : nat_lt 0 (length addresses) ≡ true =
    lt-ltb 0 (length addresses) (let n = eqb-false (length addresses) 0 some in omega arith) in
    record {
      host_is = both _ _ host_is (at_most max_name_len (length host) a);
      realm_is = both _ _ realm_is (at_most max_name_len (length realm) b);
      addresses_are = both _ _ (both _ _ not_none (at_most max_addresses (length addresses) d)) sized;
      product_is = both _ _ text (at_most max_name_len (length product) c);
      auth_are = both _ _ (at_most max_ids (length auth) e) ids;
      acct_are = both _ _ (at_most max_ids (length acct) f) more;
    }

-- the same of parts that were looked at as slices
pub no_fault_of : (host realm : List ℕ) (addresses : List Ip) (product auth acct h r : List ℕ) (a : List Ip)
    (p t u : List ℕ)
    → h ≡ host → r ≡ realm → a ≡ addresses → p ≡ product → t ≡ auth → u ≡ acct → node_fault h r a p t u ≡ None
    → list_all is_sized addresses ≡ true → is_utf8 product ≡ true → list_all is_number auth ≡ true
    → list_all is_number acct ≡ true → AreFit host realm addresses product auth acct
no_fault_of host realm addresses product auth acct h r a p t u eh er ea ep et eu none sized text ids more =
    no_fault host realm addresses product auth acct (rw (← eh, ← er, ← ea, ← ep, ← et, ← eu) none) sized text ids more

pub one_number : (n : ℕ) → n < 4294967296 → is_number n ≡ true
one_number n h = lt-ltb n 4294967296 h

pub optional_number : (o : Option ℕ) → ((n : ℕ) → o ≡ Some n → n < 4294967296) → is_optional_number o ≡ true
optional_number None h = refl
optional_number (Some n) h = lt-ltb n 4294967296 (h n refl)

pub application_numbers : (a : VendorApplication) → Fits w32 a.vendor → Fits w32 a.application
    → is_vendor_application a ≡ true
application_numbers a v i = both _ _ (one_number a.vendor (Fits-lt-pow v)) (one_number a.application (Fits-lt-pow i))

pub few_applications : (l : List VendorApplication) → are_vendor_applications l ≡ true → length l ≤ max_ids
few_applications l h =
    let (few, numbers) = and_parts (nat_le (length l) max_ids) (list_all is_vendor_application l) h in
    leb-true (length l) max_ids few

-- not too many applications of vendors, and not too many vendors
pub extras_fit : (l : List VendorApplication) (ids : List ℕ) → (nat_lt max_ids (length l) || nat_lt max_ids (length ids)) ≡ false
    → list_all is_vendor_application l ≡ true → list_all is_number ids ≡ true
    → (are_vendor_applications l ≡ true) × (are_ids ids ≡ true)
extras_fit l ids h fit numbers =
    let (a, b) = neither (nat_lt max_ids (length l)) (nat_lt max_ids (length ids)) h in
    (both _ _ (at_most max_ids (length l) a) fit, both _ _ (at_most max_ids (length ids) b) numbers)

-- how many addresses and ids a node has
pub few_addresses : (l : List Ip) → are_addresses l ≡ true → length l ≤ max_addresses
few_addresses l h =
    let (both, sized) = and_parts (nat_lt 0 (length l) && nat_le (length l) max_addresses) (list_all is_sized l) h in
    let (some, few) = and_parts (nat_lt 0 (length l)) (nat_le (length l) max_addresses) both in
    leb-true (length l) max_addresses few

pub few_ids : (l : List ℕ) → are_ids l ≡ true → length l ≤ max_ids
few_ids l h =
    let (few, ids) = and_parts (nat_le (length l) max_ids) (list_all is_number l) h in
    leb-true (length l) max_ids few
