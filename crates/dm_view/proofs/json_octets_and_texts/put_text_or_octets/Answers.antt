use Rattle.std.proofs.Common.{arith}
use Rattle.std.proofs.lemmas.Str.{is_utf8-from_IsUtf8}
use Rattle.dm_view.proofs.CleanOctets.{clean_is_text, clean_is_unescaped}
use Rattle.dm_view.proofs.json_octets_and_texts.put_text_or_octets.Goals as goal

pub from_utf8_unchecked-requires : goal.from_utf8_unchecked-requires
from_utf8_unchecked-requires c = clean_is_text 32 c.args.octets.now (c.are_escape_free_ascii.ensures c.if-are_escape_free_ascii.true)

pub put_string_as_is-requires : goal.put_string_as_is-requires
put_string_as_is-requires c =
    let clean = c.are_escape_free_ascii.ensures c.if-are_escape_free_ascii.true in
    rw c.from_utf8_unchecked.ensures (clean_is_unescaped 32 c.args.octets.now (omega arith) clean)

pub returns-then-are_escape_free_ascii : goal.returns-then-are_escape_free_ascii
returns-then-are_escape_free_ascii c =
    let octets = c.args.octets.now in
    let text = clean_is_text 32 octets (c.are_escape_free_ascii.ensures c.if-are_escape_free_ascii.true) in
    rw (is_utf8-from_IsUtf8 octets text, ← c.from_utf8_unchecked.ensures) c.put_string_as_is.ensures
