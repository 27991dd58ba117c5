use Rattle.std.proofs.Common.{ap, sym, ◌∙◌, ℕ, List, length, subst}
use Rattle.dm_text.specs.Lines.{is_skipped}
use Rattle.dm_replay.specs.Scripts.{MayStandBehind}
use Rattle.dm_replay.proofs.Options.{ok-then}
use Rattle.dm_replay.proofs.NextLine.{not_first, not_second, not_later, taken}
use Rattle.dm_replay.proofs.lines_so_far.LinesSoFar.take_line.Goals as goal

pub returns-in-None-clause-refused : goal.returns-in-None-clause-refused
returns-in-None-clause-refused c =
    λ no lines stands may.
    let May : List ℕ → Type 0 = λ v. MayStandBehind (length lines) v in
    not_first lines c.args.self.now.hosts c.args.self.now.list.items c.trim_spaces-line.result.now c.in-NotYet.is
    c.in-None.ensures.none stands (subst May (sym c.trim_spaces-line.ensures) may)

pub returns-in-None-read_host_line-clause-refused : goal.returns-in-None-read_host_line-clause-refused
returns-in-None-read_host_line-clause-refused c =
    λ no lines stands may.
    let May : List ℕ → Type 0 = λ v. MayStandBehind (length lines) v in
    not_second lines c.args.self.now.hosts c.in-One.left c.args.self.now.list.items c.trim_spaces-line.result.now
    c.in-One.is c.in-None-read_host_line.ensures.none stands
    (subst May (sym c.trim_spaces-line.ensures) may)

pub returns-in-Both-clause-taken : goal.returns-in-Both-clause-taken
returns-in-Both-clause-taken c =
    ok-then c.take_happening_line.result
    (λ b told yes lines stands.
    taken lines c.args.self.now.hosts c.take_happening_line.new.self.hosts c.in-Both.field-0 c.in-Both.field-1
    c.args.self.now.list.items c.take_happening_line.new.self.list.items c.args.line.now
    c.trim_spaces-line.result.now (told yes).0 c.in-Both.is c.take_happening_line.ensures.hosts
    (ap is_skipped (sym c.trim_spaces-line.ensures) ∙ sym c.is_empty_or_comment.ensures ∙ c.if-is_empty_or_comment.false)
    c.trim_spaces-line.ensures (told yes).1 (told yes).2 stands)
    c.take_happening_line.ensures.taken

pub returns-in-Both-clause-refused : goal.returns-in-Both-clause-refused
returns-in-Both-clause-refused c =
    ok-then c.take_happening_line.result
    (λ b none no lines stands may.
    let May : List ℕ → Type 0 = λ v. MayStandBehind (length lines) v in
    not_later lines c.args.self.now.hosts c.in-Both.field-0 c.in-Both.field-1 c.args.self.now.list.items
    c.trim_spaces-line.result.now c.in-Both.is (none no) stands
    (subst May (sym c.trim_spaces-line.ensures) may))
    c.take_happening_line.ensures.refused
