use Rattle.std.proofs.Common.{◌≡◌, ◌-◌, ◌*◌, ◌+◌, ◌/◌, length, subst, arith}
use Rattle.dm_text.specs.SideBySide.{AreRead}
use Rattle.dm_text.proofs.Read.{read_bad, told}
use Rattle.dm_text.proofs.hexadecimal.read_sixteen_octets_or_more.Goals as goal

pub returns-then-not-read_runs_of_sixteen_octets : goal.returns-then-not-read_runs_of_sixteen_octets
returns-then-not-read_runs_of_sixteen_octets c =
    read_bad c.args.word.now (omega arith) (c.read_runs_of_sixteen_octets.ensures.bad c.if-not-read_runs_of_sixteen_octets.true)

pub returns : goal.returns
returns c =
    let word = c.args.word.now in
    let octets = c.read_sixteen_octets_and_marks.new.octets in
    let end : length c.args.octets.now - 16 + 16 ≡ length octets = omega arith in
    told word octets c.read_sixteen_octets_and_marks.result c.are_all_digits.result c.are_all_digits.ensures (omega arith)
    (λ none.
    subst (AreRead word octets) end
    (c.read_sixteen_octets_and_marks.ensures.good none (16 * ((length c.args.octets.now - 1) / 16)) (omega arith)
    (c.read_runs_of_sixteen_octets.ensures.good c.if-not-read_runs_of_sixteen_octets.false)))
    c.read_sixteen_octets_and_marks.ensures.bad
