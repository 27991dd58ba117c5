use Rattle.std.proofs.Common.{◌≡◌, ◌≤◌, ◌-◌, length, drop, arith}
use Rattle.std.proofs.lemmas.Fmt.{IsAscii-decimal}
use Rattle.std.proofs.lemmas.List.{length-drop, take_all}
use Rattle.std.proofs.lemmas.Str.{IsUtf8-from_ascii}
use Rattle.dm_text.proofs.decimal.put_decimal.Goals as goal

pub from_utf8_unchecked-requires : goal.from_utf8_unchecked-requires
from_utf8_unchecked-requires c =
    let ascii = IsAscii-decimal c.args.number c.ranges.number.fits in
    let start = c.fill_end_with_decimal-start.result in
    let room = c.fill_end_with_decimal-start.new.room in
    let long : length room ≡ 20 = c.fill_end_with_decimal-start.array_long in
    let all : length (drop start room) ≤ 20 - start = omega (arith, length-drop start room, long) in
    rw (take_all (20 - start) (drop start room) all)
    (IsUtf8-from_ascii _ (rw (← c.fill_end_with_decimal-start.ensures.digits) at ascii))
