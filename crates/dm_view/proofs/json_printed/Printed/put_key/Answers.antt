use Rattle.std.proofs.Common.{◌≡◌, ◌∷◌, [], arith}
use Rattle.json.specs.Print.{escape}
use Rattle.json.specs.Token.{key}
use Rattle.dm_view.proofs.CleanOctets.{clean_is_unescaped}
use Rattle.dm_view.proofs.JsonPrinted.{of_key, of_escaped_key}
use Rattle.dm_view.proofs.json_printed.Printed.put_key.Goals as goal

pub put_tokens_in_three_pieces-requires : goal.put_tokens_in_three_pieces-requires
put_tokens_in_three_pieces-requires c =
    let name = c.args.name.now in
    let clean = clean_is_unescaped 32 _ (omega arith) (c.are_escape_free_ascii.ensures c.if-are_escape_free_ascii.true) in
    let plain : escape name ≡ name = rw c.as_bytes.ensures.value at clean in
    (key name ∷ [], of_key name plain)

pub returns-then-are_escape_free_ascii : goal.returns-then-are_escape_free_ascii
returns-then-are_escape_free_ascii c =
    let name = c.args.name.now in
    let clean = clean_is_unescaped 32 _ (omega arith) (c.are_escape_free_ascii.ensures c.if-are_escape_free_ascii.true) in
    let plain : escape name ≡ name = rw c.as_bytes.ensures.value at clean in
    c.put_tokens_in_three_pieces.ensures (key name ∷ []) (of_key name plain)

pub from_utf8_unchecked-text-requires : goal.from_utf8_unchecked-text-requires
from_utf8_unchecked-text-requires c = rw c.as_slice.ensures.value c.in_ok-octets.ensures.text

pub put_tokens_in_three_pieces-done-requires : goal.put_tokens_in_three_pieces-done-requires
put_tokens_in_three_pieces-done-requires c =
    rw (c.from_utf8_unchecked-text.ensures, c.as_slice.ensures.value, c.in_ok-octets.ensures.quoted)
    (key c.args.name.now ∷ [], of_escaped_key c.args.name.now)

pub returns : goal.returns
returns c =
    c.put_tokens_in_three_pieces-done.ensures (key c.args.name.now ∷ [])
    (rw (c.from_utf8_unchecked-text.ensures, c.as_slice.ensures.value, c.in_ok-octets.ensures.quoted)
    (of_escaped_key c.args.name.now))
