use Rattle.std.proofs.lemmas.Str.{is_utf8-from_IsUtf8, IsUtf8-from_is_utf8}
use Rattle.std.proofs.lemmas.Bool.{false_from_ne_true}
use Rattle.dm_view.proofs.described_data.write_name_or_hexadecimal.Goals as goal

pub returns-in-Ok : goal.returns-in-Ok
returns-in-Ok g c =
    let read = c.in-Ok.ensures.cases in rw (is_utf8-from_IsUtf8 _ read.1, ← read.0) c.write_str.ensures.writes

pub returns-in-Err : goal.returns-in-Err
returns-in-Err g c =
    let octets = c.args.octets.now in
    rw (false_from_ne_true _ (λ h. c.in-Err.ensures.cases.0 (IsUtf8-from_is_utf8 octets h))) c.write.ensures.writes
