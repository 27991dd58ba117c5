use Rattle.std.proofs.Common.{refl, ap}
use Rattle.dm_grammar.specs.Places.GrammarPlace.{Low, Starred}
use Rattle.dm_grammar.specs.Places.TokenRole.{StarIs}
use Rattle.dm_grammar.specs.Views.{view_word, view_words, view_option, view_entry, view_qualifier}
use Rattle.dm_grammar.proofs.Entries.{low_to_entry, no_star, no_bracket}
use Rattle.dm_grammar.proofs.Exits.{handed_on}
use Rattle.dm_grammar.proofs.entry.read_entry_from_star.Goals as goal

pub returns-in_err-_star-clause-tells : goal.returns-in_err-_star-clause-tells
returns-in_err-_star-clause-tells c =
    handed_on _ _ c.from_residual.result _ c.from_residual.ensures.1
    (no_star c.args.how (view_option c.args.low) c.in_err-_star.field-0.0 (view_words c.args.tokens.now)
    (c.in_err-_star.ensures.tells Low Starred StarIs refl refl))

pub returns-in_err-entry-clause-tells : goal.returns-in_err-entry-clause-tells
returns-in_err-entry-clause-tells c =
    handed_on _ _ c.from_residual-in_err-entry.result _ c.from_residual-in_err-entry.ensures.1
    (no_bracket c.args.how (view_option c.args.low) c.in_err-entry.field-0.0 (view_word c.in_ok-_star._star)
    (view_words c.args.tokens.now) (view_words c.in_ok-_star.rest.now)
    (view_words c.take_token_if.result.1.now) c.take_token_if.result.0
    (c.in_ok-_star.ensures.tells Low Starred StarIs refl refl) c.take_token_if.ensures.tells
    c.in_err-entry.ensures.tells)

pub returns-clause-tells : goal.returns-clause-tells
returns-clause-tells c =
    low_to_entry c.args.how (view_option c.args.low) (view_word c.in_ok-_star._star) (view_words c.args.tokens.now)
    (view_words c.in_ok-_star.rest.now) (view_words c.take_token_if.result.1.now)
    (view_words c.in_ok-entry.rest.now) c.take_token_if.result.0 (view_entry c.in_ok-entry.entry)
    (c.in_ok-_star.ensures.tells Low Starred StarIs refl refl) c.take_token_if.ensures.tells
    (ap view_qualifier c.in_ok-entry.ensures.plain) c.in_ok-entry.ensures.tells
