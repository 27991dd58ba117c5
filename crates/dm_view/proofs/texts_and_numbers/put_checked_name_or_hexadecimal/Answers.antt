use Rattle.std.proofs.Common.{rules}
use Rattle.std.proofs.lemmas.Str.{is_utf8-from_IsUtf8, IsUtf8-from_is_utf8}
use Rattle.std.proofs.lemmas.Bool.{false_from_ne_true}
use Rattle.dm_view.proofs.texts_and_numbers.put_checked_name_or_hexadecimal.Goals as goal

pub returns-in-Ok : goal.returns-in-Ok
returns-in-Ok c =
    let read = c.in-Ok.ensures.cases in rw (is_utf8-from_IsUtf8 _ read.1, ← read.0) (search rules)

pub returns-in-Err : goal.returns-in-Err
returns-in-Err c =
    let octets = c.args.octets.now in
    rw (false_from_ne_true _ (λ h. c.in-Err.ensures.cases.0 (IsUtf8-from_is_utf8 octets h))) c.put_hexadecimal.ensures
