use Rattle.std.proofs.Common.{◌∷◌, [], arith}
use Rattle.json.specs.Token.{string}
use Rattle.dm_view.proofs.CleanOctets.{clean_is_unescaped}
use Rattle.dm_view.proofs.JsonPrinted.{of_token}
use Rattle.dm_view.proofs.json_printed.Printed.put_string.Goals as goal

pub put_string_as_is-requires : goal.put_string_as_is-requires
put_string_as_is-requires c =
    rw c.as_bytes.ensures.value at (clean_is_unescaped 32 _ (omega arith) (c.are_escape_free_ascii.ensures c.if-are_escape_free_ascii.true))

pub from_utf8_unchecked-text-requires : goal.from_utf8_unchecked-text-requires
from_utf8_unchecked-text-requires c = rw c.as_slice.ensures.value c.in_ok-octets.ensures.text

pub put_tokens_in_one_piece-done-requires : goal.put_tokens_in_one_piece-done-requires
put_tokens_in_one_piece-done-requires c =
    rw (c.from_utf8_unchecked-text.ensures, c.as_slice.ensures.value, c.in_ok-octets.ensures.quoted)
    (string c.args.text.now ∷ [], of_token (string c.args.text.now) tt)

pub returns : goal.returns
returns c =
    c.put_tokens_in_one_piece-done.ensures (string c.args.text.now ∷ [])
    (rw (c.from_utf8_unchecked-text.ensures, c.as_slice.ensures.value, c.in_ok-octets.ensures.quoted)
    (of_token (string c.args.text.now) tt))
