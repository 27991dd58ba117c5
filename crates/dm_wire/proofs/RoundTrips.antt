-- What has a spelling has a canonical one, and that is read back.
use Rattle.std.proofs.Common.{◌≡◌, ℕ, ◌^◌, ◌<◌, ◌≤◌, Bool, true, false, List, [], ◌∷◌, length, refl, sym, ◌∙◌, arith}
use Rattle.dm_wire.specs.declared.avp.Avp.{Avp}
use Rattle.dm_wire.specs.declared.message.Header.{Header}
use Rattle.dm_wire.specs.declared.message.Message.{Message}
use Rattle.dm_wire.specs.Spelling.{is_bit_set, SpellsList, SpellsHeader, SpellsMessage}
use Rattle.dm_wire.specs.Canonical.{flag_octet, header_flags, canonical_avp, canonical_list, canonical_header, message_size, canonical_message}
use Rattle.dm_wire.proofs.Canonicals.{avp_spelled}
use Rattle.dm_wire.proofs.Limit.{spelled_size}
use Rattle.dm_wire.proofs.Messages.{one_message}
use Rattle.dm_wire.proofs.Lists.{one_list}

-- the bits of a flag octet are those that it was made of
header_bits : (r p e t : Bool) → (is_bit_set (flag_octet r p e t) 128 ≡ r) × (is_bit_set (flag_octet r p e t) 64 ≡ p) ×
    (is_bit_set (flag_octet r p e t) 32 ≡ e) × (is_bit_set (flag_octet r p e t) 16 ≡ t)
header_bits true true true true = (refl, refl, refl, refl)
header_bits true true true false = (refl, refl, refl, refl)
header_bits true true false true = (refl, refl, refl, refl)
header_bits true true false false = (refl, refl, refl, refl)
header_bits true false true true = (refl, refl, refl, refl)
header_bits true false true false = (refl, refl, refl, refl)
header_bits true false false true = (refl, refl, refl, refl)
header_bits true false false false = (refl, refl, refl, refl)
header_bits false true true true = (refl, refl, refl, refl)
header_bits false true true false = (refl, refl, refl, refl)
header_bits false true false true = (refl, refl, refl, refl)
header_bits false true false false = (refl, refl, refl, refl)
header_bits false false true true = (refl, refl, refl, refl)
header_bits false false true false = (refl, refl, refl, refl)
header_bits false false false true = (refl, refl, refl, refl)
header_bits false false false false = (refl, refl, refl, refl)

pub canonical_list_spells : (l : List Avp) (s : List ℕ) → SpellsList l s → SpellsList l (canonical_list l)
canonical_list_spells [] s sp = refl
canonical_list_spells (a ∷ l) s sp =
    let first = sp.3 in (
      canonical_avp a,
      canonical_list l,
      refl,
      avp_spelled a first.code_fits first.length_fits first.vendor_fits,
      canonical_list_spells l sp.1 sp.4,
    )

pub canonical_header_spelled : (h : Header) (size : ℕ) → size ≤ 16777212 → h.command < 256 ^ 3 →
    h.application < 256 ^ 4 → h.hop_id < 256 ^ 4 → h.end_id < 256 ^ 4
    → SpellsHeader h size (canonical_header h size)
canonical_header_spelled h size fits command application hop end =
    let bits = header_bits h.request h.proxiable h.error h.retransmit in
    record {
      flags = header_flags h;
      whole = refl;
      request_bit = bits.0;
      proxiable_bit = bits.1;
      error_bit = bits.2;
      retransmit_bit = bits.3;
      size_fits = fits;
      command_fits = command;
      application_fits = application;
      hop_fits = hop;
      end_fits = end;
    }

canonical_header_spells : (h : Header) (size : ℕ) (s : List ℕ) → SpellsHeader h size s →
    SpellsHeader h size (canonical_header h size)
canonical_header_spells h size s sp = canonical_header_spelled h size sp.size_fits sp.command_fits sp.application_fits
    sp.hop_fits sp.end_fits

whole_size : (m : Message) → length (canonical_message m) ≡ message_size m
whole_size m = omega arith

pub canonical_spells : (m : Message) (s : List ℕ) → SpellsMessage m s → SpellsMessage m (canonical_message m)
canonical_spells m s sp =
    let size = spelled_size m s sp in
    record {
      front = canonical_header m.header (message_size m);
      rest = canonical_list m.avps;
      whole = refl;
      header = rw (whole_size m) (canonical_header_spells m.header (message_size m) sp.front (rw (← size) sp.header));
      avps = canonical_list_spells m.avps sp.rest sp.avps;
    }

pub reads_back : (m k : Message) (s : List ℕ) → SpellsMessage m s → SpellsMessage k (canonical_message m) → k ≡ m
reads_back m k s sp back =
    let whole = canonical_message m in
    (one_message k m whole whole [] [] back (canonical_spells m s sp) refl).0

pub one_size : (m : Message) (s : List ℕ) → SpellsMessage m s → length s ≡ length (canonical_message m)
one_size m s sp = spelled_size m s sp ∙ sym (whole_size m)

pub list_reads_back : (l k : List Avp) (s : List ℕ) → SpellsList l s → SpellsList k (canonical_list l) → k ≡ l
list_reads_back l k s sp back = one_list k l (canonical_list l) back (canonical_list_spells l s sp)
