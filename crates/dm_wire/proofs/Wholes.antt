-- The message that octets spell is the one that is read from them.
use Rattle.std.proofs.Common.{◌≡◌, ◌≤◌, ◌↔◌, ℕ, ◌%◌, Bool, true, false, ◌&&◌, nat_eq, nat_le, Option, None, Some, option_map, List, [], length, drop, take, slice_index, if◌then◌else◌, refl, sym, ap, arith, append-nil}
use Rattle.std.proofs.lemmas.List.{take-append-drop}
use Rattle.std.proofs.Math.Seq.{drop-append_seam}
use Rattle.std.proofs.lemmas.Bool.Decides.{nat_tests}
use Rattle.byteorder.specs.Endian.{big_number}
use Rattle.dm_wire.specs.declared.avp.Avp.{Avp}
use Rattle.dm_wire.specs.declared.message.Header.{Header}
use Rattle.dm_wire.specs.declared.message.Message.{Message}
use Rattle.dm_wire.specs.Members.{members}
use Rattle.dm_wire.specs.Spelling.{SpellsMessage}
use Rattle.dm_wire.specs.Whole.{has_header, header_in, with_header, message_in}
use Rattle.dm_wire.proofs.Numbers.{IsOctets}
use Rattle.dm_wire.proofs.Fronts.{octets_behind}
use Rattle.dm_wire.proofs.Headers.{IsTested, header_spelled}
use Rattle.dm_wire.proofs.Members.{members_spelled, spelled_members}
use Rattle.dm_wire.proofs.Messages.{message_front, header_len}

-- the four tests of a header
abbrev test : ℕ → ℕ → ℕ → Bool
test n v b = nat_le 20 n && (nat_eq v 1 && (nat_eq b n && nat_eq (n % 4) 0))

tested : (n v b : ℕ) → 20 ≤ n → v ≡ 1 → b ≡ n → n % 4 ≡ 0 → test n v b ≡ true
tested n v b long version size aligned = grind (arith, nat_tests)

long_of : (n v b : ℕ) → test n v b ≡ true → 20 ≤ n
long_of n v b h = grind (arith, nat_tests)

version_of : (n v b : ℕ) → test n v b ≡ true → v ≡ 1
version_of n v b h = grind (arith, nat_tests)

size_of : (n v b : ℕ) → test n v b ≡ true → b ≡ n
size_of n v b h = grind (arith, nat_tests)

aligned_of : (n v b : ℕ) → test n v b ≡ true → n % 4 ≡ 0
aligned_of n v b h = grind (arith, nat_tests)

-- what octets spell is in them
pub spelled_in : (m : Message) (s : List ℕ) → SpellsMessage m s → message_in s ≡ Some m
unfolding message_in
spelled_in m s sp =
    let f = message_front m s [] sp in
    let version : slice_index s 0 ≡ 1 = rw (append-nil s) at f.header.version in
    let size : length s ≡ big_number 3 (drop 1 s) = rw (append-nil s) at f.header.size_is in
    let header : m.header ≡ header_in s = rw (append-nil s) at f.header.header_is in
    let front = header_len m.header (length s) sp.front sp.header in
    let rest : drop 20 s ≡ sp.rest = rw (sp.whole, ← front) (drop-append_seam sp.front sp.rest) in
    let whole : has_header s ≡ true =
    tested (length s) (slice_index s 0) (big_number 3 (drop 1 s)) f.long version (sym size) f.aligned in
    let avps : members (drop 20 s) ≡ Some m.avps =
    spelled_members m.avps (drop 20 s) (rw rest sp.avps) in
    rw (whole, avps) (ap (λ (h : Header). Some (record { header = h; avps = m.avps })) (sym header))

-- a header and AVPs that are in octets are spelled by them
both_spelled : (s : List ℕ) (l : List Avp) → IsOctets s → has_header s ≡ true → members (drop 20 s) ≡ Some l
    → SpellsMessage (with_header s l) s
both_spelled s l octets whole avps =
    let n = length s in
    let v = slice_index s 0 in
    let b = big_number 3 (drop 1 s) in
    let t : IsTested s = record {
      octets = octets;
      long = long_of n v b whole;
      version = version_of n v b whole;
      size = size_of n v b whole;
      aligned = aligned_of n v b whole;
    } in
    record {
      front = take 20 s;
      rest = drop 20 s;
      whole = sym (take-append-drop 20 s);
      header = header_spelled s t;
      avps = members_spelled (length (drop 20 s)) (drop 20 s) l (omega arith) (octets_behind 20 s octets) avps;
    }

-- what is in octets is spelled by them
in_spelled : (m : Message) (s : List ℕ) → IsOctets s → message_in s ≡ Some m → SpellsMessage m s
unfolding message_in
in_spelled m s octets e = by (has_header s) refl (members (drop 20 s)) refl e where
  by : (b : Bool) → has_header s ≡ b → (o : Option (List Avp)) → members (drop 20 s) ≡ o
      → (if b then option_map (with_header s) o else None) ≡ Some m → SpellsMessage m s
  by false h o g k = absurd (cc)
  by true h None g k = absurd (cc)
  by true h (Some l) g k =
      let same : with_header s l ≡ m = (cc) in
      rw (← same) (both_spelled s l octets h g)

pub message_in_spells : (s : List ℕ) (m : Message) → IsOctets s → (message_in s ≡ Some m) ↔ SpellsMessage m s
message_in_spells s m octets = (in_spelled m s octets, spelled_in m s)
