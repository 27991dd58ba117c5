use Rattle.std.proofs.Common.{arith}
use Rattle.std.proofs.lemmas.Str.{is_utf8-from_IsUtf8}
use Rattle.dm_view.proofs.CleanOctets.{clean_is_text, clean_is_unescaped}
use Rattle.dm_view.proofs.json_avps.put_defined_avp_name_member.Goals as goal

pub from_utf8_unchecked-requires : goal.from_utf8_unchecked-requires
from_utf8_unchecked-requires c = clean_is_text 32 c.args.name.now (c.are_escape_free_ascii.ensures c.if-are_escape_free_ascii.true)

pub put_avp_name_member_as_is-requires : goal.put_avp_name_member_as_is-requires
put_avp_name_member_as_is-requires c =
    let clean = c.are_escape_free_ascii.ensures c.if-are_escape_free_ascii.true in
    rw c.from_utf8_unchecked.ensures (clean_is_unescaped 32 c.args.name.now (omega arith) clean)

pub returns-then-are_escape_free_ascii : goal.returns-then-are_escape_free_ascii
returns-then-are_escape_free_ascii c =
    let name = c.args.name.now in
    let text = clean_is_text 32 name (c.are_escape_free_ascii.ensures c.if-are_escape_free_ascii.true) in
    rw (is_utf8-from_IsUtf8 name text, ← c.from_utf8_unchecked.ensures) c.put_avp_name_member_as_is.ensures
