use Rattle.std.proofs.Common.{◌≡◌, false}
use Rattle.dm_grammar.specs.declared.symbol.Symbol.TheVariants.{Star}
use Rattle.dm_grammar.specs.declared.terminal.Terminal.TheVariants.{One}
use Rattle.dm_grammar.specs.Readers.{begins_with}
use Rattle.dm_grammar.specs.Views.{view_words}
use Rattle.dm_grammar.proofs.Rules.{rule_bracket}
use Rattle.dm_grammar.proofs.entry.read_entry.Goals as goal

pub returns-else-begins_with_terminal-clause-tells : goal.returns-else-begins_with_terminal-clause-tells
returns-else-begins_with_terminal-clause-tells c =
    let none = rw c.in-None.is at c.take_token_if.ensures.tells in
    let star : begins_with (One Star) (view_words c.args.tokens.now) ≡ false = cc in
    rw (rule_bracket c.args.how (view_words c.args.tokens.now) c.requires none.1 star)
    c.read_bracketed_name.ensures.tells
