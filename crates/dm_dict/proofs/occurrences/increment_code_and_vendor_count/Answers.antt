-- The number of one code and vendor is set.
use Rattle.std.proofs.Common.{◌≡◌, ℕ, Bool, true, false, cond, if◌then◌else◌, Option, Some, refl, ap, ◌∙◌}
use Rattle.std.specs.Option.{unwrap_or}
use Rattle.dm_dict.specs.Numbers.{is_key_of}
use Rattle.dm_dict.proofs.occurrences.increment_code_and_vendor_count.Goals as goal

set_one : (b : Bool) (n : ℕ) (old : Option ℕ) → unwrap_or (cond b (Some n) old) 0 ≡ (if b then n else unwrap_or old 0)
set_one true n old = refl
set_one false n old = refl

pub returns-clause-counted : goal.returns-clause-counted
returns-clause-counted c = λ code vendor.
    ap (λ o. unwrap_or o 0) (c.in_ok-insert.ensures.updates.0 (code, vendor))
    ∙ set_one (is_key_of c.args.code c.args.vendor (code, vendor)) c.match-get.nth _
