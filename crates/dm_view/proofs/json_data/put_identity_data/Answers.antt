use Rattle.std.proofs.Common.{◌∙◌, sym, arith}
use Rattle.std.proofs.lemmas.Bool.{eqb-false}
use Rattle.dm_view.proofs.CleanOctets.{clean_is_text, clean_is_unescaped, clean_identity_json}
use Rattle.dm_view.proofs.json_data.put_identity_data.Goals as goal

pub from_utf8_unchecked-requires : goal.from_utf8_unchecked-requires
from_utf8_unchecked-requires c = clean_is_text 33 c.args.octets.now (c.are_escape_free_ascii.ensures c.if-are_escape_free_ascii.true)

pub put_string_as_is-requires : goal.put_string_as_is-requires
put_string_as_is-requires c =
    let clean = c.are_escape_free_ascii.ensures c.if-are_escape_free_ascii.true in
    rw c.from_utf8_unchecked.ensures (clean_is_unescaped 33 c.args.octets.now (omega arith) clean)

pub returns-then-are_escape_free_ascii : goal.returns-then-are_escape_free_ascii
returns-then-are_escape_free_ascii c =
    let some = eqb-false _ 0 (sym c.is_empty.ensures ∙ c.if-is_empty.false) in
    let clean = c.are_escape_free_ascii.ensures c.if-are_escape_free_ascii.true in
    let is = clean_identity_json c.args.def.now c.args.octets.now c.requires (omega (arith, some)) clean in
    rw (is, ← c.from_utf8_unchecked.ensures) c.put_string_as_is.ensures
