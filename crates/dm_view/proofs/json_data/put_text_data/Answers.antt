use Rattle.std.proofs.Common.{arith}
use Rattle.dm_view.proofs.CleanOctets.{clean_is_text, clean_is_unescaped, clean_text_json}
use Rattle.dm_view.proofs.json_data.put_text_data.Goals as goal

pub from_utf8_unchecked-requires : goal.from_utf8_unchecked-requires
from_utf8_unchecked-requires c = clean_is_text 32 c.args.octets.now (c.are_escape_free_ascii.ensures c.if-are_escape_free_ascii.true)

pub put_string_as_is-requires : goal.put_string_as_is-requires
put_string_as_is-requires c =
    let clean = c.are_escape_free_ascii.ensures c.if-are_escape_free_ascii.true in
    rw c.from_utf8_unchecked.ensures (clean_is_unescaped 32 c.args.octets.now (omega arith) clean)

pub returns-then-are_escape_free_ascii : goal.returns-then-are_escape_free_ascii
returns-then-are_escape_free_ascii c =
    let clean = c.are_escape_free_ascii.ensures c.if-are_escape_free_ascii.true in
    let is = clean_text_json c.args.def.now c.args.octets.now c.requires clean in
    rw (is, ← c.from_utf8_unchecked.ensures) c.put_string_as_is.ensures
