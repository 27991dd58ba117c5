use Rattle.std.proofs.Common.{◌+◌, ◌-◌, length, take, drop, sym, ◌∙◌}
use Rattle.dm_tool.proofs.Options.{none-anyway}
use Rattle.dm_tool.proofs.Slashes.{with_slash, without_slash, cut}
use Rattle.dm_tool.proofs.avp_line.read_code_and_vendor.Goals as goal

pub returns-in_err-code-in-Some-clause-none : goal.returns-in_err-code-in-Some-clause-none
returns-in_err-code-in-Some-clause-none c =
    none-anyway c.from_residual.result
    (λ code vendor told. c.in_err-code-in-Some.ensures.none code
    (with_slash c.args.word.now c.in-Some.at code vendor (sym c.slash_position.ensures ∙ c.in-Some.is) told).2)

pub returns-in_err-vendor-in-Some-clause-none : goal.returns-in_err-vendor-in-Some-clause-none
returns-in_err-vendor-in-Some-clause-none c =
    none-anyway c.from_residual-in_err-vendor-in-Some.result (λ code vendor told.
    let parts = with_slash c.args.word.now c.in-Some.at code vendor
    (sym c.slash_position.ensures ∙ c.in-Some.is) told in c.in_err-vendor-in-Some.ensures.none parts.0 parts.3)

pub returns-in_err-code-in-None-clause-none : goal.returns-in_err-code-in-None-clause-none
returns-in_err-code-in-None-clause-none c =
    none-anyway c.from_residual-in_err-code-in-None.result
    (λ code vendor told. c.in_err-code-in-None.ensures.none code
    (without_slash c.args.word.now code vendor (sym c.slash_position.ensures ∙ c.in-None.is) told).1)

pub returns-in_ok-vendor-in-Some-clause-told : goal.returns-in_ok-vendor-in-Some-clause-told
returns-in_ok-vendor-in-Some-clause-told c = (
  take c.in-Some.at c.args.word.now,
  take (length c.args.word.now - (c.in-Some.at + 1)) (drop (c.in-Some.at + 1) c.args.word.now),
  cut c.args.word.now c.in-Some.at (sym c.slash_position.ensures ∙ c.in-Some.is),
  c.in_ok-code-in-Some.ensures.told,
  c.in_ok-vendor-in-Some.ensures.told,
)
