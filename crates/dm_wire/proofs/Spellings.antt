-- One prefix of octets spells at most one AVP.
use Rattle.std.proofs.Common.{◌≡◌, ◌<◌, ◌≤◌, ℕ, ◌+◌, ◌%◌, ◌^◌, Bool, Option, None, Some, IfSome, is_some, List, ◌∷◌, ◌++◌, length, take, drop, slice_index, refl, sym, ◌∙◌, ap, arith, append_assoc, length-append}
use Rattle.std.proofs.Math.Seq.{take-append_seam, drop-append_seam}
use Rattle.byteorder.specs.Endian.{big_number}
use Rattle.byteorder.specs.Numbers.{big_number-reads_back}
use Rattle.dm_wire.specs.declared.avp.Avp.{Avp}
use Rattle.dm_wire.specs.Spelling.{be, is_bit_set, avp_header_len, avp_length, vendor_octets, SpellsAvp}

-- s begins with the AVP a in n octets: each field of a as a reading of s
pub record Front (a : Avp) (n : ℕ) (s : List ℕ) : Type 0 where
  pub vendor_bit : is_bit_set (slice_index s 4) 128 ≡ is_some a.vendor
  pub mandatory_bit : is_bit_set (slice_index s 4) 64 ≡ a.mandatory
  pub protected_bit : is_bit_set (slice_index s 4) 32 ≡ a.protected
  pub code : a.code ≡ big_number 4 s
  pub len : avp_length a ≡ big_number 3 (drop 5 s)
  pub vendor : IfSome a.vendor (λ v. v ≡ big_number 4 (drop 8 s))
  pub bytes : a.bytes ≡ take (length a.bytes) (drop (avp_header_len a.vendor) s)
  pub least : avp_length a ≤ n
  pub most : n < avp_length a + 4
  pub aligned : n % 4 ≡ 0
  pub within : n ≤ length s

-- the octets of an AVP with this flag octet and padding
abbrev pub layout : ℕ → ℕ → ℕ → Option ℕ → List ℕ → List ℕ → List ℕ
layout code flags len vendor bytes padding = be code 4 ++ flags ∷ be len 3 ++ vendor_octets vendor ++ bytes ++ padding

code_of : (code flags len : ℕ) (vendor : Option ℕ) (bytes padding rest : List ℕ) → code < 256 ^ 4 →
    code ≡ big_number 4 (layout code flags len vendor bytes padding ++ rest)
code_of code flags len None bytes padding rest h =
    sym (big_number-reads_back 4 code (flags ∷ be len 3 ++ (bytes ++ padding ++ rest)) h)
code_of code flags len (Some v) bytes padding rest h =
    sym (big_number-reads_back 4 code (flags ∷ be len 3 ++ (be v 4 ++ bytes ++ padding ++ rest)) h)

len_of : (code flags len : ℕ) (vendor : Option ℕ) (bytes padding rest : List ℕ) → len < 256 ^ 3 →
    len ≡ big_number 3 (drop 5 (layout code flags len vendor bytes padding ++ rest))
len_of code flags len None bytes padding rest h = sym (big_number-reads_back 3 len (bytes ++ padding ++ rest) h)
len_of code flags len (Some v) bytes padding rest h =
    sym (big_number-reads_back 3 len (be v 4 ++ bytes ++ padding ++ rest) h)

vendor_of : (code flags len : ℕ) (vendor : Option ℕ) (bytes padding rest : List ℕ) → IfSome vendor (λ v. v < 256 ^ 4) →
    IfSome vendor (λ v. v ≡ big_number 4 (drop 8 (layout code flags len vendor bytes padding ++ rest)))
vendor_of code flags len None bytes padding rest h = tt
vendor_of code flags len (Some v) bytes padding rest h = sym (big_number-reads_back 4 v (bytes ++ padding ++ rest) h)

flags_of : (code flags len : ℕ) (vendor : Option ℕ) (bytes padding rest : List ℕ) →
    slice_index (layout code flags len vendor bytes padding ++ rest) 4 ≡ flags
flags_of code flags len None bytes padding rest = refl
flags_of code flags len (Some v) bytes padding rest = refl

front_of : (bytes padding rest : List ℕ) → bytes ≡ take (length bytes) (bytes ++ padding ++ rest)
front_of bytes padding rest = rw append_assoc (sym (take-append_seam bytes (padding ++ rest)))

bytes_of : (code flags len : ℕ) (vendor : Option ℕ) (bytes padding rest : List ℕ) →
    bytes ≡ take (length bytes) (drop (avp_header_len vendor) (layout code flags len vendor bytes padding ++ rest))
bytes_of code flags len None bytes padding rest = front_of bytes padding rest
bytes_of code flags len (Some v) bytes padding rest = front_of bytes padding rest

pub size_of : (code flags len : ℕ) (vendor : Option ℕ) (bytes padding : List ℕ) →
    length (layout code flags len vendor bytes padding) ≡ avp_header_len vendor + length bytes + length padding
size_of code flags len None bytes padding = omega (arith, length-append bytes padding)
size_of code flags len (Some v) bytes padding = omega (arith, length-append bytes padding)

-- what a spelling at the front says
pub front : (a : Avp) (first rest s : List ℕ) → SpellsAvp a first → s ≡ first ++ rest → Front a (length first) s
front a first rest s sp e =
    let bits = flags_of a.code sp.flags (avp_length a) a.vendor a.bytes sp.padding rest in
    let size : length first ≡ avp_length a + length sp.padding =
    rw (sp.whole) (size_of a.code sp.flags (avp_length a) a.vendor a.bytes sp.padding) in
    let least : length sp.padding < 4 = sp.least in
    rw (e) (record {
      vendor_bit = rw (sp.whole, bits) sp.vendor_bit;
      mandatory_bit = rw (sp.whole, bits) sp.mandatory_bit;
      protected_bit = rw (sp.whole, bits) sp.protected_bit;
      code = rw (sp.whole) (code_of a.code sp.flags (avp_length a) a.vendor a.bytes sp.padding rest sp.code_fits);
      len = rw (sp.whole) (len_of a.code sp.flags (avp_length a) a.vendor a.bytes sp.padding rest sp.length_fits);
      vendor = rw (sp.whole) (vendor_of a.code sp.flags (avp_length a) a.vendor a.bytes sp.padding rest sp.vendor_fits);
      bytes = rw (sp.whole) (bytes_of a.code sp.flags (avp_length a) a.vendor a.bytes sp.padding rest);
      least = omega (arith, size);
      most = omega (arith, size, least);
      aligned = sp.aligned;
      within = omega (arith, length-append first rest);
    })

abbrev pub made : ℕ → Option ℕ → Bool → Bool → List ℕ → Avp
made c v m p b = record { code = c; vendor = v; mandatory = m; protected = p; bytes = b }

pub same_made : (c e : ℕ) (v w : Option ℕ) (m n p q : Bool) (b d : List ℕ) → c ≡ e → v ≡ w → m ≡ n → p ≡ q → b ≡ d →
    made c v m p b ≡ made e w n q d
same_made c e v w m n p q b d e0 e1 e2 e3 e4 = rw (e0, e1, e2, e3, e4) refl

same_vendor : (v w : Option ℕ) (n : ℕ) → is_some v ≡ is_some w → IfSome v (λ x. x ≡ n) → IfSome w (λ x. x ≡ n) → v ≡ w
same_vendor None None n e h k = refl
same_vendor None (Some y) n e h k = (cc)
same_vendor (Some x) None n e h k = (cc)
same_vendor (Some x) (Some y) n e h k = ap Some (h ∙ sym k)

-- octets begin with one AVP at most
pub one_front : (a b : Avp) (n k : ℕ) (s : List ℕ) → Front a n s → Front b k s → (a ≡ b) × (n ≡ k)
one_front a b n k s f g =
    let vendor : a.vendor ≡ b.vendor = same_vendor a.vendor b.vendor _ (sym f.vendor_bit ∙ g.vendor_bit) f.vendor
    g.vendor in
    let headers : avp_header_len a.vendor ≡ avp_header_len b.vendor = ap avp_header_len vendor in
    let lens : avp_length a ≡ avp_length b = f.len ∙ sym g.len in
    let data_lens : length a.bytes ≡ length b.bytes = omega arith in
    let bytes : a.bytes ≡ b.bytes = f.bytes ∙ rw (data_lens, headers) (sym g.bytes) in (
      same_made a.code b.code a.vendor b.vendor a.mandatory b.mandatory a.protected b.protected a.bytes b.bytes
          (f.code ∙ sym g.code) vendor (sym f.mandatory_bit ∙ g.mandatory_bit) (sym f.protected_bit ∙ g.protected_bit)
          bytes,
      omega (arith, f.least, f.most, f.aligned, g.least, g.most, g.aligned, lens),
    )

-- two texts that begin with parts of one length
pub same_halves : (s t x y : List ℕ) → length s ≡ length t → s ++ x ≡ t ++ y → (s ≡ t) × (x ≡ y)
same_halves s t x y n e = (
  sym (take-append_seam s x) ∙ rw (e, n) (take-append_seam t y),
  sym (drop-append_seam s x) ∙
      rw (e, n) (drop-append_seam t y),
)

-- two spellings of AVPs at one front are one
pub one_avp : (a b : Avp) (s t x y : List ℕ) → SpellsAvp a s → SpellsAvp b t → s ++ x ≡ t ++ y →
    (a ≡ b) × (s ≡ t) × (x ≡ y)
one_avp a b s t x y sa sb e =
    let same = one_front a b (length s) (length t) (s ++ x) (front a s x (s ++ x) sa refl)
    (front b t y (s ++ x) sb e) in
    let halves = same_halves s t x y same.1 e in
    (same.0, halves.0, halves.1)
