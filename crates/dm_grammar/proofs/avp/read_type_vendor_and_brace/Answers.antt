use Rattle.std.proofs.Common.{ap, ◌∙◌}
use Rattle.dm_grammar.specs.Places.TokenRole.{KindIs}
use Rattle.dm_grammar.specs.Readers.{behind_kind, behind_vendor, adding_reference}
use Rattle.dm_grammar.specs.Told.{filled}
use Rattle.dm_grammar.specs.Views.{view_word, view_reference_option}
use Rattle.dm_grammar.proofs.Exits.{handed_on}
use Rattle.dm_grammar.proofs.Vendors.{behind_colon, kind_place}
use Rattle.dm_grammar.proofs.avp.read_type_vendor_and_brace.Goals as goal

pub returns-in_err-vendor-clause-tells : goal.returns-in_err-vendor-clause-tells
returns-in_err-vendor-clause-tells c =
    let may = c.in_ok-kind.may in
    let place = kind_place c.args.how.version may in
    handed_on _ _ c.from_residual-in_err-vendor.result _ c.from_residual-in_err-vendor.ensures.1
    (c.in_ok-kind.ensures.tells ∙ ap (filled KindIs (view_word c.in_ok-kind.kind))
    (c.in_err-vendor.ensures.tells (behind_kind may) (behind_colon may) (behind_vendor may) place))

pub returns-clause-tells : goal.returns-clause-tells
returns-clause-tells c =
    let may = c.in_ok-kind.may in
    let place = kind_place c.args.how.version may in
    c.in_ok-kind.ensures.tells ∙ ap (filled KindIs (view_word c.in_ok-kind.kind))
    (c.in_ok-vendor.ensures.tells (behind_kind may) (behind_colon may) (behind_vendor may) place
    ∙ ap (adding_reference (view_reference_option c.in_ok-vendor.vendor)) c.read_list_brace-list.ensures.tells)
