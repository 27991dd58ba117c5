use Rattle.std.proofs.Common.{◌≡◌, drop, sym, ◌∙◌}
use Rattle.dm_grammar.specs.Places.TokenRole.{NamedIs}
use Rattle.dm_grammar.specs.Told.{collect}
use Rattle.dm_grammar.specs.Views.{view_word, view_words}
use Rattle.dm_grammar.proofs.Exits.{handed_on}
use Rattle.dm_grammar.proofs.Vendors.{colon_taken, named_told, vendor_there}
use Rattle.dm_grammar.proofs.vendor.read_vendor_word.Goals as goal

pub returns-in_err-name-clause-tells : goal.returns-in_err-name-clause-tells
returns-in_err-name-clause-tells c = λ p colon q f.
    let ws = view_words c.args.tokens.now in
    let rest : view_words c.read_colon_before_vendor_name-named.result.1.now ≡ drop 1 ws =
    rw c.if-named.true at c.read_colon_before_vendor_name-named.ensures.rest in
    handed_on _ _ c.from_residual.result _ c.from_residual.ensures.1
    (colon_taken c.args.how p colon q ws _ f (sym c.read_colon_before_vendor_name-named.ensures.named ∙ c.if-named.true) rest
    ∙ c.in_err-name.ensures.tells colon q NamedIs f.named f.no_end)

pub returns-in_ok-name-clause-tells : goal.returns-in_ok-name-clause-tells
returns-in_ok-name-clause-tells c = λ p colon q f.
    let ws = view_words c.args.tokens.now in
    let rest : view_words c.read_colon_before_vendor_name-named.result.1.now ≡ drop 1 ws =
    rw c.if-named.true at c.read_colon_before_vendor_name-named.ensures.rest in
    colon_taken c.args.how p colon q ws _ f (sym c.read_colon_before_vendor_name-named.ensures.named ∙ c.if-named.true) rest
    ∙ (c.in_ok-name.ensures.tells colon q NamedIs f.named f.no_end
    ∙ named_told (view_word c.in_ok-name.name) (collect c.args.how q (view_words c.in_ok-name.rest.now)))

pub returns-else-named-clause-tells : goal.returns-else-named-clause-tells
returns-else-named-clause-tells c = λ p colon q f.
    rw c.named_or_numbered_vendor.ensures
    (vendor_there c.args.how p colon q (view_words c.args.tokens.now)
    (view_words c.take_token_if.result.1.now) c.take_token_if.result.0 f
    (sym c.read_colon_before_vendor_name-named.ensures.named ∙ c.if-named.false) c.take_token_if.ensures.tells)
