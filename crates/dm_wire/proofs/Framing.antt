-- What spells a message is a frame.
use Rattle.std.proofs.Common.{◌≡◌, ◌<◌, ◌≤◌, ◌^◌, ◌%◌, ℕ, ◌+◌, List, [], ◌++◌, length, drop, slice_index, refl, sym, ap, ◌∙◌, arith, append-nil}
use Rattle.byteorder.specs.Endian.{big_number}
use Rattle.byteorder.specs.Numbers.{big_number-reads_back}
use Rattle.dm_framer.specs.Frames.{IsFrame, message_length}
use Rattle.dm_wire.specs.declared.message.Header.{Header}
use Rattle.dm_wire.specs.declared.message.Message.{Message}
use Rattle.dm_wire.specs.Spelling.{SpellsMessage}
use Rattle.dm_wire.specs.Canonical.{canonical_list, canonical_header, canonical_message, message_size}
use Rattle.dm_wire.proofs.Limit.{spelled_size}
use Rattle.dm_wire.proofs.Messages.{message_front}

pub spelled_framed : (m : Message) (s : List ℕ) → SpellsMessage m s → IsFrame 16777212 s
spelled_framed m s sp =
    let f = message_front m s [] sp in
    let version : slice_index s 0 ≡ 1 = rw (append-nil s) at f.header.version in
    let size : length s ≡ big_number 3 (drop 1 s) = rw (append-nil s) at f.header.size_is in
    record { version = version; size = sym size; least = f.long; aligned = f.aligned; most = sp.header.size_fits }

-- the size that a header gives is read back, whatever its other numbers
size_read : (h : Header) (n : ℕ) (rest : List ℕ) → n ≤ 16777212 →
    message_length (canonical_header h n ++ rest) ≡ n
size_read h n rest fits =
    let below : n < 256 ^ 3 = omega arith in
    big_number-reads_back 3 n (drop 4 (canonical_header h n ++ rest)) below

pub canonical_framed : (m k : Message) (s : List ℕ) → SpellsMessage k s → m.avps ≡ k.avps →
    IsFrame 16777212 (canonical_message m)
canonical_framed m k s sp same =
    let f = spelled_framed k s sp in
    let size : length s ≡ message_size m =
    spelled_size k s sp ∙ ap (λ l. 20 + length (canonical_list l)) (sym same) in
    let whole : length (canonical_message m) ≡ message_size m = omega arith in
    let most : message_size m ≤ 16777212 = rw size at f.most in
    let aligned : message_size m % 4 ≡ 0 = rw size at f.aligned in
    record {
      version = refl;
      size = size_read m.header (message_size m) (canonical_list m.avps) most ∙ sym whole;
      least = omega (arith, whole);
      aligned = rw whole aligned;
      most = rw whole most;
    }
