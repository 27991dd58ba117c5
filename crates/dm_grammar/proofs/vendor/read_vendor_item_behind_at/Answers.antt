use Rattle.std.proofs.Common.{refl, ap, ◌∙◌}
use Rattle.dm_grammar.specs.Places.GrammarPlace.{Text, VendorNamed}
use Rattle.dm_grammar.specs.Places.TokenRole.{NameOfAvp, NamedIs, CodeIs}
use Rattle.dm_grammar.specs.Told.{filled}
use Rattle.dm_grammar.specs.Views.{view_word, view_words}
use Rattle.dm_grammar.proofs.Exits.{handed_on}
use Rattle.dm_grammar.proofs.Vendors.{vendor_words, vendor_told}
use Rattle.dm_grammar.proofs.vendor.read_vendor_item_behind_at.Goals as goal

pub returns-in_err-number-clause-tells : goal.returns-in_err-number-clause-tells
returns-in_err-number-clause-tells c =
    let word = view_word c.in_ok-_word._word in
    let name = view_word c.in_ok-name.name in
    handed_on _ _ c.from_residual-in_err-number.result _ c.from_residual-in_err-number.ensures.1
    (vendor_words c.args.how word name (view_words c.args.tokens.now) (view_words c.in_ok-_word.rest.now)
    (view_words c.in_ok-name.rest.now) c.requires c.in_ok-_word.ensures.found.0 c.in_ok-name.ensures.found.0
    ∙ ap (λ r. filled NameOfAvp word (filled NamedIs name r))
    (c.in_err-number.ensures.tells VendorNamed Text CodeIs refl refl))

pub returns-clause-tells : goal.returns-clause-tells
returns-clause-tells c =
    let word = view_word c.in_ok-_word._word in
    let name = view_word c.in_ok-name.name in
    vendor_words c.args.how word name (view_words c.args.tokens.now) (view_words c.in_ok-_word.rest.now)
    (view_words c.in_ok-name.rest.now) c.requires c.in_ok-_word.ensures.found.0 c.in_ok-name.ensures.found.0
    ∙ (ap (λ r. filled NameOfAvp word (filled NamedIs name r))
    (c.in_ok-number.ensures.tells VendorNamed Text CodeIs refl refl)
    ∙ vendor_told c.args.how word name (view_word c.in_ok-number.number) (view_words c.in_ok-number.rest.now))
