use Rattle.dm_text.proofs.Ascii.{encoded_is_text}
use Rattle.dm_text.proofs.hexadecimal.write_hex_at_once.Goals as goal

pub from_utf8_unchecked-requires : goal.from_utf8_unchecked-requires
from_utf8_unchecked-requires g c = rw c.fill_hex_digits.ensures (encoded_is_text c.args.octets.now)
