use Rattle.std.proofs.Common.{◌∙◌, sym, arith}
use Rattle.std.proofs.lemmas.List.Sums.{prefix_len-le-length}
use Rattle.dm_grammar.specs.Symbols.{goes_on}
use Rattle.dm_grammar.proofs.WordRuns.{first_end, no_end}
use Rattle.dm_grammar.proofs.lex.word_len_of_sixteen.Goals as goal

pub returns-then-ends-eq0-clause-value : goal.returns-then-ends-eq0-clause-value
returns-then-ends-eq0-clause-value c =
    no_end c.args.octets c.fits-octets.0 (sym c.non_word_octet_bitmask-ends.ensures ∙ c.if-ends-eq0.true)

pub returns-else-ends-eq0-clause-value : goal.returns-else-ends-eq0-clause-value
returns-else-ends-eq0-clause-value c =
    first_end c.args.octets c.non_word_octet_bitmask-ends.result c.fits-octets.0 c.non_word_octet_bitmask-ends.ensures c.if-ends-eq0.false

pub returns-else-ends-eq0-clause-within : goal.returns-else-ends-eq0-clause-within
returns-else-ends-eq0-clause-within c =
    let octets = c.args.octets in
    let is = first_end octets c.non_word_octet_bitmask-ends.result c.fits-octets.0 c.non_word_octet_bitmask-ends.ensures
    c.if-ends-eq0.false in
    omega (arith, is, prefix_len-le-length goes_on octets, c.fits-octets.0)
