use Rattle.std.proofs.Common.{refl, ap, ◌∙◌}
use Rattle.dm_grammar.specs.Places.GrammarPlace.{CommandColon, CommandCode, Coded, InRule}
use Rattle.dm_grammar.specs.Places.TokenRole.{NoPart, CodeIs, CommandHead, RequestFlag, ProxiableFlag, ErrorFlag}
use Rattle.dm_grammar.specs.Told.{filled, collect}
use Rattle.dm_grammar.specs.Views.{view_word, view_option, view_words}
use Rattle.dm_grammar.proofs.Exits.{handed_on}
use Rattle.dm_grammar.proofs.Heads.{nothing_told, flagged, flags_read, command_told}
use Rattle.dm_grammar.proofs.head.read_command_head_from_colon.Goals as goal

pub returns-in_err-words-clause-tells : goal.returns-in_err-words-clause-tells
returns-in_err-words-clause-tells c = λ w.
    handed_on _ _ c.from_residual.result _ c.from_residual.ensures.1
    (c.in_err-words.ensures.tells CommandColon CommandCode Coded NoPart CodeIs refl refl refl refl)

pub returns-in_err-second-clause-tells : goal.returns-in_err-second-clause-tells
returns-in_err-second-clause-tells c = λ w.
    let words = c.in_ok-words.words in
    handed_on _ _ c.from_residual-in_err-second.result _ c.from_residual-in_err-second.ensures.1
    (c.in_ok-words.ensures.tells CommandColon CommandCode Coded NoPart CodeIs refl refl refl refl
    ∙ ap (λ r. filled NoPart (view_word words.0) (filled CodeIs (view_word words.1) r))
    (flags_read c.args.how (view_words c.in_ok-words.rest.now) _ _ _ _ _ _ c.read_comma_and_flag-request.ensures.flag
    c.read_comma_and_flag-request.ensures.rest c.read_comma_and_flag-proxiable.ensures.flag c.read_comma_and_flag-proxiable.ensures.rest
    c.read_comma_and_flag-error.ensures.flag c.read_comma_and_flag-error.ensures.rest
    ∙ ap (λ r. flagged RequestFlag c.read_comma_and_flag-request.result.0
    (flagged ProxiableFlag c.read_comma_and_flag-proxiable.result.0 (flagged ErrorFlag c.read_comma_and_flag-error.result.0 r)))
    c.in_err-second.ensures.tells))

pub returns-clause-tells : goal.returns-clause-tells
returns-clause-tells c = λ w.
    let words = c.in_ok-words.words in
    ap (filled CommandHead w)
    (c.in_ok-words.ensures.tells CommandColon CommandCode Coded NoPart CodeIs refl refl refl refl
    ∙ (nothing_told (view_word words.0) _
    ∙ ap (filled CodeIs (view_word words.1))
    (flags_read c.args.how (view_words c.in_ok-words.rest.now) _ _ _ _ _ _ c.read_comma_and_flag-request.ensures.flag
    c.read_comma_and_flag-request.ensures.rest c.read_comma_and_flag-proxiable.ensures.flag c.read_comma_and_flag-proxiable.ensures.rest
    c.read_comma_and_flag-error.ensures.flag c.read_comma_and_flag-error.ensures.rest
    ∙ ap (λ r. flagged RequestFlag c.read_comma_and_flag-request.result.0
    (flagged ProxiableFlag c.read_comma_and_flag-proxiable.result.0 (flagged ErrorFlag c.read_comma_and_flag-error.result.0 r)))
    c.in_ok-second.ensures.tells)))
    ∙ command_told w (view_word words.1) c.read_comma_and_flag-request.result.0 c.read_comma_and_flag-proxiable.result.0
    c.read_comma_and_flag-error.result.0
    (view_option c.in_ok-second.second) (collect c.args.how InRule (view_words c.in_ok-second.rest.now))
