-- AVPs written in room that is zero.
use Rattle.std.proofs.Common.{◌≡◌, ◌≤◌, ℕ, ◌+◌, ◌-◌, ◌*◌, ◌/◌, ◌%◌, List, [], ◌∷◌, ◌++◌, length, length-append, get_or, replicate, take, drop, refl, sym, ◌∙◌, ap, arith, append_assoc, append-nil, None, Some}
use Rattle.std.proofs.Math.Seq.{take-append_seam, drop-append_seam}
use Rattle.std.proofs.lemmas.List.{drop-replicate, drop-drop, drop_all, length-take-le, take-append-drop, take_rest}
use Rattle.std.proofs.lemmas.Slice.{take-put_mid, drop-put_mid}
use borrow.Rule.Slice.PartMut.{put_mid, post_of}
use Rattle.dm_wire.specs.declared.avp.Avp.{Avp}
use Rattle.dm_wire.specs.Spelling.{be, avp_length, SpellsList}
use Rattle.dm_wire.specs.Canonical.{zeros, avp_flags, canonical_avp, canonical_list}
use Rattle.dm_wire.proofs.Canonicals.{canonical_size}

-- what is behind so many octets
behind_front : (h d : List ℕ) (k : ℕ) → length h ≡ k → drop k (h ++ d) ≡ d
behind_front h d k size = rw (← size) (drop-append_seam h d)

-- data behind a header, in room whose rest is zero
pub data_written : (h d b : List ℕ) (k n len : ℕ) → length h ≡ k → k + length b ≡ len → n ≡ (len + 3) / 4 * 4
    → d ≡ replicate (n - k) 0
    → put_mid k (len - k) (h ++ d) b ≡ h ++ b ++ zeros len
data_written h d b k n len header whole room rest =
    let front : take k (h ++ d) ≡ h = rw (← header) (take-append_seam h d) in
    let seam = behind_front h d k header in
    let count : n - k - (len - k) ≡ (4 - len % 4) % 4 = omega (arith, header, whole, room) in
    let behind : post_of k (len - k) (h ++ d) ≡ zeros len =
    ap (drop (len - k)) (seam ∙ rest) ∙ drop-replicate (len - k) (n - k) 0 ∙ ap (λ i. replicate i 0) count in
    rw (front, behind) (sym (append_assoc h b (zeros len)))

-- a Vendor-ID behind the first octets of a header
pub vendor_written : (h d v : List ℕ) (k j : ℕ) → length h ≡ k → length (h ++ d) - k ≡ j →
    put_mid k j (h ++ d) (v ++ drop 4 d) ≡ (h ++ v) ++ drop 4 d
vendor_written h d v k j header whole =
    let front : take k (h ++ d) ≡ h = rw (← header) (take-append_seam h d) in
    let seam = behind_front h d k header in
    let all : length d ≤ j = (let size = length-append h d in omega (arith, header, whole, size)) in
    let behind : post_of k j (h ++ d) ≡ [] = ap (drop j) seam ∙ drop_all j d all in
    rw (front, behind, append-nil) (sym (append_assoc h v (drop 4 d)))

-- an AVP without a Vendor-ID
pub written_alone : (a : Avp) (room h b : List ℕ) (len : ℕ) → a.vendor ≡ None → h ≡ be a.code 4 ++ avp_flags a ∷ be len 3
    → b ≡ a.bytes → len ≡ avp_length a → room ≡ replicate ((len + 3) / 4 * 4) 0
    → put_mid 8 (len - 8) (h ++ drop 8 room) b ≡ canonical_avp a
written_alone a room h b len vendor header bytes size zero =
    let n = (len + 3) / 4 * 4 in
    let rest : drop 8 room ≡ replicate (n - 8) 0 = ap (drop 8) zero ∙ drop-replicate 8 n 0 in
    let long : avp_length a ≡ 8 + length a.bytes = rw vendor refl in
    let same = ap length bytes in
    data_written h (drop 8 room) b 8 n len (rw header refl) (omega (arith, long, same, size)) refl rest
    ∙ rw (header, bytes, size, vendor) refl

-- an AVP with one
pub written_with : (a : Avp) (room h w b : List ℕ) (v len : ℕ) → a.vendor ≡ Some v
    → h ≡ be a.code 4 ++ avp_flags a ∷ be len 3
    → w ≡ be v 4 ++ drop 4 (take (length (h ++ drop 8 room) - 8) (drop 8 (h ++ drop 8 room))) → b ≡ a.bytes → len ≡ avp_length a → room ≡ replicate ((len + 3) / 4 * 4) 0
    → put_mid 12 (len - 12) (put_mid 8 (length (h ++ drop 8 room) - 8) (h ++ drop 8 room) w) b ≡ canonical_avp a
written_with a room h w b v len vendor header id bytes size zero =
    let n = (len + 3) / 4 * 4 in
    let d = drop 8 room in
    let rest : drop 4 d ≡ replicate (n - 12) 0 =
    ap (drop 4) (ap (drop 8) zero ∙ drop-replicate 8 n 0) ∙ drop-replicate 4 (n - 8) 0
    ∙ ap (λ i. replicate i 0) (omega arith) in
    let long : avp_length a ≡ 12 + length a.bytes = rw vendor refl in
    let same = ap length bytes in
    let seam = behind_front h d 8 (rw header refl) in
    let ends : w ≡ be v 4 ++ drop 4 d = id ∙ ap (λ l. be v 4 ++ drop 4 l) (take_rest (h ++ d) 8 ∙ seam) in
    let named : put_mid 8 (length (h ++ d) - 8) (h ++ d) w ≡ (h ++ be v 4) ++ drop 4 d =
    rw ends (vendor_written h d (be v 4) 8 (length (h ++ d) - 8) (rw header refl) refl) in
    rw named
    (data_written (h ++ be v 4) (drop 4 d) b 12 n len (rw header refl) (omega (arith, long, same, size)) refl rest
    ∙ rw (header, bytes, size, vendor) refl)

-- up to the place the first of the AVPs are written, and the rest of the room is zero, and as long as those left
pub record IsWrittenTo (room : List ℕ) (place : ℕ) (left avps : List Avp) : Type 0 where
  pub within : place ≤ length room
  pub put : take place room ++ canonical_list left ≡ canonical_list avps
  pub zero : drop place room ≡ replicate (length (canonical_list left)) 0
  pub fits : (s : List ℕ) × SpellsList left s

pub first_and_rest : (left : List Avp) (a : Avp) → 1 ≤ length left → a ≡ get_or left 0 a → left ≡ a ∷ drop 1 left
first_and_rest [] a h e = absurd (omega arith)
first_and_rest (x ∷ l) a h e = ap (λ z. z ∷ l) (sym e)

spelled_rest : (left : List Avp) (a : Avp) (rest : List Avp) → left ≡ a ∷ rest → ((s : List ℕ) × SpellsList left s) →
    (s : List ℕ) × SpellsList rest s
spelled_rest left a rest whole fits = let h = rw whole at fits.1 in (h.1, h.4)

-- one AVP more is written
pub one_written : (a : Avp) (room new : List ℕ) (place size : ℕ) (left rest avps : List Avp) →
    left ≡ a ∷ rest → new ≡ canonical_avp a → size ≡ (avp_length a + 3) / 4 * 4 → IsWrittenTo room place left avps →
    IsWrittenTo (put_mid place (place + size - place) room new) (place + size) rest avps
one_written a room new place size left rest avps whole is long so =
    let both : canonical_list left ≡ canonical_avp a ++ canonical_list rest = ap canonical_list whole in
    let r = canonical_list rest in
    let one : length (canonical_avp a) ≡ size = canonical_size a ∙ sym long in
    let sum : length (canonical_list left) ≡ size + length r =
    ap length both ∙ length-append (canonical_avp a) r ∙ ap (λ k. k + length r) one in
    let n : length new ≡ size = ap length is ∙ one in
    let front = take-put_mid place (place + size - place) room new (place + size) (omega (arith, n)) so.within in
    let behind = drop-put_mid place (place + size - place) room new (place + size) (omega arith) so.within
    (omega (arith, n)) in
    let after : drop (place + size) room ≡ replicate (length r) 0 =
    sym (drop-drop size place room) ∙ ap (drop size) so.zero ∙ drop-replicate size (length (canonical_list left)) 0
    ∙ ap (λ i. replicate i 0) (omega (arith, sum)) in
    let lead : length (take (place + size) (put_mid place (place + size - place) room new)) ≡ place + size =
    ap length front ∙ length-append (take place room) new ∙ ap (λ i. i + length new) (length-take-le place room so.within)
    ∙ ap (λ i. place + i) n in
    let parts = length-append (take (place + size) (put_mid place (place + size - place) room new))
    (drop (place + size) (put_mid place (place + size - place) room new)) in
    let joined = ap length (take-append-drop (place + size) (put_mid place (place + size - place) room new)) in
    record {
      within = omega (arith, lead, parts, joined);
      put = rw (front, append_assoc, is, ← both) so.put;
      zero = behind ∙ after;
      fits = spelled_rest left a rest whole so.fits;
    }

-- the room behind a header is that of the AVPs
pub list_room : (h room : List ℕ) (k n : ℕ) → length h ≡ k → room ≡ replicate (k + n) 0 →
    take (length (h ++ drop k room) - k) (drop k (h ++ drop k room)) ≡ replicate n 0
list_room h room k n size zero =
    let count : k + n - k ≡ n = omega arith in
    take_rest (h ++ drop k room) k ∙ behind_front h (drop k room) k size ∙ ap (drop k) zero
    ∙ drop-replicate k (k + n) 0 ∙ ap (λ i. replicate i 0) count

-- they are written behind it
pub list_written : (h d l : List ℕ) (k : ℕ) → length h ≡ k → put_mid k (length (h ++ d) - k) (h ++ d) l ≡ h ++ l
list_written h d l k size =
    let front : take k (h ++ d) ≡ h = rw (← size) (take-append_seam h d) in
    let all : length d ≤ length (h ++ d) - k = (let whole = length-append h d in omega (arith, size, whole)) in
    let behind : post_of k (length (h ++ d) - k) (h ++ d) ≡ [] =
    ap (drop (length (h ++ d) - k)) (behind_front h d k size) ∙ drop_all (length (h ++ d) - k) d all in
    rw (front, behind, append-nil) refl
