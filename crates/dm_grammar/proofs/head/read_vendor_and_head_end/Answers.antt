use Rattle.std.proofs.Common.{◌≡◌, drop, refl, sym, ◌∙◌}
use Rattle.dm_grammar.specs.Places.GrammarPlace.{GroupNamed, HeadEnd, InRule}
use Rattle.dm_grammar.specs.Places.TokenRole.{NamedIs, Rules}
use Rattle.dm_grammar.specs.Told.{collect}
use Rattle.dm_grammar.specs.Views.{view_word, view_words}
use Rattle.dm_grammar.proofs.Exits.{handed_on}
use Rattle.dm_grammar.proofs.Vendors.{group_colon, named_end}
use Rattle.dm_grammar.proofs.head.read_vendor_and_head_end.Goals as goal

pub returns-in_err-words-clause-tells : goal.returns-in_err-words-clause-tells
returns-in_err-words-clause-tells c =
    let ws = view_words c.args.tokens.now in
    let rest : view_words c.read_colon_before_vendor_name-named.result.1.now ≡ drop 1 ws =
    rw c.if-named.true at c.read_colon_before_vendor_name-named.ensures.rest in
    handed_on _ _ c.from_residual.result _ c.from_residual.ensures.1
    (group_colon c.args.how ws _ (sym c.read_colon_before_vendor_name-named.ensures.named ∙ c.if-named.true) rest
    ∙ c.in_err-words.ensures.tells GroupNamed HeadEnd InRule NamedIs Rules refl refl refl refl)

pub returns-in_ok-words-clause-tells : goal.returns-in_ok-words-clause-tells
returns-in_ok-words-clause-tells c =
    let ws = view_words c.args.tokens.now in
    let words = c.in_ok-words.words in
    let rest : view_words c.read_colon_before_vendor_name-named.result.1.now ≡ drop 1 ws =
    rw c.if-named.true at c.read_colon_before_vendor_name-named.ensures.rest in
    group_colon c.args.how ws _ (sym c.read_colon_before_vendor_name-named.ensures.named ∙ c.if-named.true) rest
    ∙ (c.in_ok-words.ensures.tells GroupNamed HeadEnd InRule NamedIs Rules refl refl refl refl
    ∙ named_end (view_word words.0) (view_word words.1) (collect c.args.how InRule (view_words c.in_ok-words.rest.now)))
