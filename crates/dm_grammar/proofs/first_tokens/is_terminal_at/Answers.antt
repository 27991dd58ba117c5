use Rattle.std.proofs.Common.{◌∙◌}
use Rattle.dm_grammar.proofs.Rest.{begins_at}
use Rattle.dm_grammar.proofs.first_tokens.is_terminal_at.Goals as goal

pub returns-then-place-tokens : goal.returns-then-place-tokens
returns-then-place-tokens c =
    c.terminal_takes_symbol.ensures ∙ begins_at _ c.args.tokens.now c.args.place c.args.terminal c.if-place-tokens.true
