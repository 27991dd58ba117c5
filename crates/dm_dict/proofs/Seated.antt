-- The seats of rows, one entry at a time.
use Rattle.std.proofs.Common.{◌≡◌, ◌<◌, ◌+◌, ◌%◌, ℕ, Bool, true, false, ◌&&◌, nat_eq, nat_lt, if◌then◌else◌, Option, None, Some, List, length, take, get_or, slice_index, refl, sym, ◌∙◌, ap, arith}
use Rattle.std.proofs.lemmas.Bool.{and_parts, eqb-true, eq-eqb}
use Rattle.std.proofs.lemmas.List.{get_or_default, take_all}
use Rattle.std.specs.List.{position_from}
use Rattle.std.specs.Option.{option_or}
use Rattle.dm_dict.specs.declared.rows.Row.{Row}
use Rattle.dm_dict.specs.Rows.{has_link, names_avps}
use Rattle.dm_dict.specs.Seats.{seat_with, IsSeat, IsSeated}
use Rattle.dm_dict.proofs.Noting.{position_push}

-- a number of other bits is another number
pub other_code : (n d k : ℕ) → nat_eq (d % n) (k % n) ≡ false → nat_eq k d ≡ false
other_code n d k h = by (nat_eq k d) refl where
  by : (b : Bool) → nat_eq k d ≡ b → nat_eq k d ≡ false
  by false t = t
  by true t =
      let same : d ≡ k = sym (eqb-true k d t) in
      let bits : nat_eq (d % n) (k % n) ≡ true = eq-eqb (d % n) (k % n) (ap (λ m. m % n) same) in
      absurd (cc)

-- an entry that isn't linked, or whose code has other bits, doesn't name the AVPs of a code
not_of : (code : ℕ) (vendor : Option ℕ) (row : Row) → row.linked && nat_eq (row.code % 128) (code % 128) ≡ false
    → names_avps code vendor row ≡ false
not_of code vendor row h = by row.linked refl where
  by : (b : Bool) → row.linked ≡ b → names_avps code vendor row ≡ false
  by false t = rw t refl
  by true t =
      let bits : nat_eq (row.code % 128) (code % 128) ≡ false = rw t at h in
      let other : nat_eq code row.code ≡ false = other_code 128 row.code code bits in
      rw (t, other) refl

left_out : (o : Option ℕ) → option_or o None ≡ o
left_out None = refl
left_out (Some k) = refl

-- an entry more that doesn't name them
passed : (rows : List Row) (n code : ℕ) (vendor : Option ℕ) (seat : ℕ) (row : Row) → names_avps code vendor row ≡ false
    → position_from (names_avps code vendor) 0 (take (n + 1) rows) ≡
    option_or (position_from (names_avps code vendor) 0 (take n rows)) (if names_avps code vendor row then Some n else None)
    → IsSeat rows n code vendor seat → IsSeat rows (n + 1) code vendor seat
passed rows n code vendor seat row other push h =
    let same : position_from (names_avps code vendor) 0 (take (n + 1) rows) ≡
    position_from (names_avps code vendor) 0 (take n rows) =
    push ∙ (rw other (left_out (position_from (names_avps code vendor) 0 (take n rows)))) in
    record {
      none = λ e. same ∙ h.none e;
      within = λ e. let low = h.within e in omega arith;
      allowing = λ e r here. h.allowing e r here;
      one = λ e r here. same ∙ h.one e r here;
    }

-- a crowded seat says nothing
crowd : (rows : List Row) (n code : ℕ) (vendor : Option ℕ) → IsSeat rows n code vendor 254
crowd rows n code vendor = record {
  none = λ e. absurd (omega arith);
  within = λ e. absurd (omega arith);
  allowing = λ e r here. absurd (omega arith);
  one = λ e r here. absurd (omega arith);
}

-- the first linked entry of its slot
seated_first : (rows : List Row) (n code : ℕ) (vendor : Option ℕ) (row : Row) → n < length rows
    → n < 254 → row ≡ get_or rows n row → (row.linked && row.allowed) ≡ true
    → position_from (names_avps code vendor) 0 (take (n + 1) rows) ≡
    option_or (position_from (names_avps code vendor) 0 (take n rows)) (if names_avps code vendor row then Some n else None)
    → position_from (names_avps code vendor) 0 (take n rows) ≡ None → IsSeat rows (n + 1) code vendor n
seated_first rows n code vendor row h low at allowing push none = record {
  none = λ e. absurd (omega arith);
  within = λ e. omega arith;
  allowing = λ e r here. ap (λ x. x.linked && x.allowed) (same r here) ∙ allowing;
  one = λ e r here. rw (same r here) (push ∙ (rw none refl));
} where
  same : (r : Row) → r ≡ get_or rows n r → r ≡ row
  same r here = here ∙ get_or_default rows n r row h ∙ sym at

-- one entry more
pub seated_step : (rows : List Row) (n code : ℕ) (vendor : Option ℕ) (old new : ℕ) (row d : Row) → n < length rows
    → row ≡ get_or rows n d → IsSeat rows n code vendor old → new ≡ seat_with row n (code % 128) old
    → IsSeat rows (n + 1) code vendor new
seated_step rows n code vendor old new row d h place known is =
    slot (row.linked && nat_eq (row.code % 128) (code % 128)) refl
  where
    at : row ≡ get_or rows n row
    at = place ∙ get_or_default rows n d row h

    push : position_from (names_avps code vendor) 0 (take (n + 1) rows) ≡
        option_or (position_from (names_avps code vendor) 0 (take n rows)) (if names_avps code vendor row then Some n else None)
    push =
        let zero_on : 0 + n ≡ n = omega arith in
        rw (← at, zero_on) at (position_push (names_avps code vendor) 0 rows n row h)

    free : (b : Bool) → ((nat_eq old 255 && nat_lt n 254) && row.allowed) ≡ b → row.linked ≡ true
        → new ≡ (if (nat_eq old 255 && nat_lt n 254) && row.allowed then n else 254) → IsSeat rows (n + 1) code vendor new
    free true t linked e =
        let (front, allowed) = and_parts (nat_eq old 255 && nat_lt n 254) row.allowed t in
        let (free_seat, low) = and_parts (nat_eq old 255) (nat_lt n 254) front in
        let low_is : n < 254 = grind (arith, low) in
        let empty : old ≡ 255 = eqb-true old 255 free_seat in
        let none = known.none (omega (arith, empty)) in
        let allowing : (row.linked && row.allowed) ≡ true = rw (linked, allowed) refl in
        let seat : new ≡ n = e ∙ rw t refl in
        rw seat (seated_first rows n code vendor row h low_is at allowing push none)
    free false t linked e = let seat : new ≡ 254 = e ∙ rw t refl in rw seat (crowd rows (n + 1) code vendor)

    slot : (b : Bool) → row.linked && nat_eq (row.code % 128) (code % 128) ≡ b → IsSeat rows (n + 1) code vendor new
    slot false t =
        let same : new ≡ old = is ∙ rw t refl in
        rw same (passed rows n code vendor old row (not_of code vendor row t) push known)
    slot true t =
        let (linked, bits) = and_parts row.linked (nat_eq (row.code % 128) (code % 128)) t in
        free ((nat_eq old 255 && nat_lt n 254) && row.allowed) refl linked (is ∙ rw t refl)

-- a seat that is neither empty nor crowded is that of an entry
pub seat_within : (rows : List Row) (seats : List ℕ) (code : ℕ) (vendor : Option ℕ) (seat : ℕ) → IsSeated rows seats
    → seat ≡ slice_index seats (code % 128) → seat < 254 → seat < length rows
seat_within rows seats code vendor seat all is low = rw is ((all code vendor).within (rw is at low))

-- which is linked and allows AVPs, and names those of the code and vendor or no entry does
pub seated_at : (rows : List Row) (seats : List ℕ) (code : ℕ) (vendor : Option ℕ) (seat : ℕ) (row : Row)
    → IsSeated rows seats → seat ≡ slice_index seats (code % 128) → seat < 254 → row ≡ get_or rows seat row
    → (row.linked && row.allowed ≡ true)
    × (position_from (names_avps code vendor) 0 rows ≡ (if names_avps code vendor row then Some seat else None))
seated_at rows seats code vendor seat row all is low here =
    let whole : take (length rows) rows ≡ rows = take_all (length rows) rows (omega arith) in
    let known = all code vendor in
    let at = rw is at here in
    (known.allowing (rw is at low) row at, rw is (rw whole at (known.one (rw is at low) row at)))

-- where the seat is empty none names them
pub nowhere : (rows : List Row) (seats : List ℕ) (code : ℕ) (vendor : Option ℕ) → IsSeated rows seats
    → 254 < slice_index seats (code % 128) → position_from (names_avps code vendor) 0 rows ≡ None
nowhere rows seats code vendor all empty =
    let whole : take (length rows) rows ≡ rows = take_all (length rows) rows (omega arith) in
    rw whole at ((all code vendor).none empty)

-- where the entry that names the AVPs of a code and vendor is the first that has their definition's link
abbrev pub NamesLinked : List Row → ℕ → Option ℕ → Option ℕ → Type 0
NamesLinked rows code vendor link =
    (k : ℕ) → link ≡ Some k → position_from (names_avps code vendor) 0 rows ≡ position_from (has_link (Some k)) 0 rows

-- the link stands at the entry that names them, and else at the one without a link
pub stands_there : (rows : List Row) (code : ℕ) (vendor : Option ℕ) (link : Option ℕ) (k seat : ℕ) → link ≡ Some k
    → position_from (names_avps code vendor) 0 rows ≡ Some seat → NamesLinked rows code vendor link
    → Some seat ≡ option_or (position_from (has_link link) 0 rows) (position_from (has_link None) 0 rows)
stands_there rows code vendor link k seat is at same =
    let here : position_from (has_link link) 0 rows ≡ Some seat = rw is (sym (same k is) ∙ at) in
    rw here refl

pub stands_else : (rows : List Row) (code : ℕ) (vendor : Option ℕ) (link : Option ℕ) (k : ℕ) (any : Option ℕ)
    → link ≡ Some k → position_from (names_avps code vendor) 0 rows ≡ None → any ≡ position_from (has_link None) 0 rows
    → NamesLinked rows code vendor link
    → any ≡ option_or (position_from (has_link link) 0 rows) (position_from (has_link None) 0 rows)
stands_else rows code vendor link k any is none here same =
    let gone : position_from (has_link link) 0 rows ≡ None = rw is (sym (same k is) ∙ none) in
    rw gone here
