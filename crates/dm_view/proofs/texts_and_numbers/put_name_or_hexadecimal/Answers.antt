use Rattle.std.proofs.Common.{rules}
use Rattle.std.proofs.lemmas.Str.{is_utf8-from_IsUtf8}
use Rattle.dm_view.proofs.Sound.{ascii_is_text}
use Rattle.dm_view.proofs.texts_and_numbers.put_name_or_hexadecimal.Goals as goal

pub from_utf8_unchecked-requires : goal.from_utf8_unchecked-requires
from_utf8_unchecked-requires c =
    ascii_is_text c.is_ascii.result c.args.octets.now c.is_ascii.ensures.cases c.if-is_ascii.true

pub returns-then-is_ascii : goal.returns-then-is_ascii
returns-then-is_ascii c =
    let octets = c.args.octets.now in
    rw (is_utf8-from_IsUtf8 octets
    (ascii_is_text c.is_ascii.result octets c.is_ascii.ensures.cases c.if-is_ascii.true)) (search rules)
