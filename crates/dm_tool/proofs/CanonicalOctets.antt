-- The canonical spelling of a message is octets where the data of its AVPs is.
use Rattle.std.proofs.Common.{◌≡◌, ◌<◌, ◌≤◌, ℕ, zero, suc, ◌-◌, ◌%◌, ◌/◌, ◌^◌, Bool, true, false, nat_lt, is_some}
use Rattle.std.proofs.Common.{List, [], ◌∷◌, ◌++◌, Option, Some, None, replicate, arith, refl}
use Rattle.std.specs.List.{list_all}
use Rattle.std.specs.Int.{byte_at}
use Rattle.std.proofs.Math.Nat.{mod-lt}
use Rattle.std.proofs.lemmas.Bool.{lt-ltb, and_parts, and_from}
use Rattle.dm_wire.specs.declared.avp.Avp.{Avp}
use Rattle.dm_wire.specs.declared.message.Header.{Header}
use Rattle.dm_wire.specs.declared.message.Message.{Message}
use Rattle.dm_wire.specs.Spelling.{be, avp_length, vendor_octets}
use Rattle.dm_wire.specs.Canonical.{worth, avp_flags, zeros, canonical_avp, canonical_list, header_flags}
use Rattle.dm_wire.specs.Canonical.{canonical_header, canonical_message, message_size}
use Rattle.dm_tool.proofs.Decided.{are_octets}

-- the data of each AVP is octets
abbrev pub hold_octets : List Avp → Bool
hold_octets l = list_all (λ a. are_octets a.bytes) l

pub append_both : {X : Type 0} (p : X → Bool) (s t : List X) → list_all p s ≡ true → list_all p t ≡ true
    → list_all p (s ++ t) ≡ true
append_both p [] t h k = k
append_both p (x ∷ s) t h k =
    let parts = and_parts (p x) (list_all p s) h in and_from (p x) (list_all p (s ++ t)) parts.0
    (append_both p s t parts.1 k)

both : (s t : List ℕ) → are_octets s ≡ true → are_octets t ≡ true → are_octets (s ++ t) ≡ true
both s t h k = append_both (λ b. nat_lt b 256) s t h k

more : (b : ℕ) (s : List ℕ) → b < 256 → are_octets s ≡ true → are_octets (b ∷ s) ≡ true
more b s h k = and_from (nat_lt b 256) (are_octets s) (lt-ltb b 256 h) k

byte_small : (i n : ℕ) → byte_at i n < 256
byte_small zero n = mod-lt n (omega arith)
byte_small (suc i) n = mod-lt (n / 256 ^ suc i) (omega arith)

number_octets : (k n : ℕ) → are_octets (be n k) ≡ true
number_octets zero n = refl
number_octets (suc k) n = more (byte_at k n) (be n k) (byte_small k n) (number_octets k n)

vendor_are : (v : Option ℕ) → are_octets (vendor_octets v) ≡ true
vendor_are None = refl
vendor_are (Some v) = number_octets 4 v

zeros_are : (n : ℕ) → are_octets (replicate n 0) ≡ true
zeros_are zero = refl
zeros_are (suc n) = zeros_are n

worth_most : (b : Bool) (n : ℕ) → worth b n ≤ n
worth_most true n = omega arith
worth_most false n = omega arith

avp_flags_small : (a : Avp) → avp_flags a < 256
avp_flags_small a =
    let v = worth_most (is_some a.vendor) 128 in
    let m = worth_most a.mandatory 64 in
    let p = worth_most a.protected 32 in
    omega (arith, v, m, p)

header_flags_small : (h : Header) → header_flags h < 256
header_flags_small h =
    let r = worth_most h.request 128 in
    let p = worth_most h.proxiable 64 in
    let e = worth_most h.error 32 in
    let t = worth_most h.retransmit 16 in
    omega (arith, r, p, e, t)

avp_octets : (a : Avp) → are_octets a.bytes ≡ true → are_octets (canonical_avp a) ≡ true
avp_octets a h =
    let content : List ℕ = vendor_octets a.vendor ++ a.bytes in
    let padded : List ℕ = content ++ zeros (avp_length a) in
    let sized : List ℕ = be (avp_length a) 3 ++ padded in
    let h0 = both (vendor_octets a.vendor) a.bytes (vendor_are a.vendor) h in
    let h1 = both content (zeros (avp_length a)) h0 (zeros_are ((4 - avp_length a % 4) % 4)) in
    let h2 = both (be (avp_length a) 3) padded (number_octets 3 (avp_length a)) h1 in
    both (be a.code 4) (avp_flags a ∷ sized) (number_octets 4 a.code) (more (avp_flags a) sized (avp_flags_small a) h2)

list_octets : (l : List Avp) → hold_octets l ≡ true → are_octets (canonical_list l) ≡ true
list_octets [] h = refl
list_octets (a ∷ l) h =
    let parts = and_parts (are_octets a.bytes) (hold_octets l) h in
    both (canonical_avp a) (canonical_list l) (avp_octets a parts.0) (list_octets l parts.1)

header_octets : (h : Header) (size : ℕ) → are_octets (canonical_header h size) ≡ true
header_octets h size =
    let ids : List ℕ = be h.hop_id 4 ++ be h.end_id 4 in
    let application : List ℕ = be h.application 4 ++ ids in
    let command : List ℕ = be h.command 3 ++ application in
    let flags : List ℕ = header_flags h ∷ command in
    let h0 = both (be h.hop_id 4) (be h.end_id 4) (number_octets 4 h.hop_id) (number_octets 4 h.end_id) in
    let h1 = both (be h.application 4) ids (number_octets 4 h.application) h0 in
    let h2 = more (header_flags h) command (header_flags_small h)
    (both (be h.command 3) application (number_octets 3 h.command) h1) in
    more 1 (be size 3 ++ flags) (omega arith) (both (be size 3) flags (number_octets 3 size) h2)

pub message_octets : (m : Message) → hold_octets m.avps ≡ true → are_octets (canonical_message m) ≡ true
message_octets m h =
    both (canonical_header m.header (message_size m)) (canonical_list m.avps) (header_octets m.header (message_size m))
    (list_octets m.avps h)
