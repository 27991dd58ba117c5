-- It is the first of those that stand there, or isn't.
use Rattle.std.proofs.Common.{◌≡◌, ◌∙◌, sym, true, false}
use Rattle.dm_wire.specs.Borrowed.{avp_of}
use Rattle.dm_wire.specs.Finding.{is_of}
use Rattle.dm_wire.proofs.Placing.{passed, passed_end, met}
use Rattle.dm_wire.proofs.avp_places.matching_avp_at.Goals as goal

pub returns-in_err-avp-clause-passed : goal.returns-in_err-avp-clause-passed
returns-in_err-avp-clause-passed c = rw (c.from_residual.ensures) (λ avps e.
    passed_end (is_of c.args.code c.args.vendor) avps (c.in_err-avp.ensures avps e))

pub returns-then-has_code_and_vendor-clause-found : goal.returns-then-has_code_and_vendor-clause-found
returns-then-has_code_and_vendor-clause-found c = λ avps e.
    let sought : is_of c.args.code c.args.vendor (avp_of c.in_ok-avp.avp) ≡ true =
    sym c.has_code_and_vendor.ensures ∙ c.if-has_code_and_vendor.true in
    met (is_of c.args.code c.args.vendor) avps (avp_of c.in_ok-avp.avp) (c.in_ok-avp.ensures avps e) sought

pub returns-else-has_code_and_vendor-clause-passed : goal.returns-else-has_code_and_vendor-clause-passed
returns-else-has_code_and_vendor-clause-passed c = λ avps e.
    let other : is_of c.args.code c.args.vendor (avp_of c.in_ok-avp.avp) ≡ false =
    sym c.has_code_and_vendor.ensures ∙ c.if-has_code_and_vendor.false in
    passed (is_of c.args.code c.args.vendor) avps (avp_of c.in_ok-avp.avp) (c.in_ok-avp.ensures avps e) other
