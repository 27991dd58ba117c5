use Rattle.std.proofs.Common.{refl}
use Rattle.json.specs.Print.{print_from, escape_byte}
use Rattle.dm_view.proofs.json_text.avp_flags_member_text.Goals as goal

pub returns-in-false-true-true : goal.returns-in-false-true-true
unfolding print_from escape_byte
returns-in-false-true-true c =
    let fits = c.in-false-true-true in
    rw (fits.is-0, fits.is-1, fits.is-2) refl
