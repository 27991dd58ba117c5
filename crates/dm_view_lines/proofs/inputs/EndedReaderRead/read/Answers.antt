use Rattle.std.proofs.Common.{rules, ◌≡◌, ◌≤◌, ◌<◌, ℕ, List, length, nat_eq, false, arith, sym, subst}
use Rattle.std.specs.Io.KnownBytes.{Consumes}
use Rattle.dm_view_lines.specs.Inputs.{ended_remaining}
use Rattle.dm_view_lines.proofs.InputsRead.{ended_read, ended_feed, feed_put, none_taken}
use Rattle.dm_view_lines.proofs.inputs.EndedReaderRead.read.Goals as goal

pub returns-then-count-gt0-clause-bytes : goal.returns-then-count-gt0-clause-bytes
returns-then-count-gt0-clause-bytes g c =
    let some : 0 < c.in_ok-count.count = search rules in
    let within : c.in_ok-count.count ≤ length c.read.new.buf = search rules in (
      ended_read c.args.self.now.last c.in_ok-count.count 0 c.read.new.buf _ _ some within
          c.in_ok-count.ensures.bytes.0,
      λ none room. absurd (search rules),
    )

pub returns-clause-bytes : goal.returns-clause-bytes
returns-clause-bytes g c =
    let none : c.in_ok-count.count ≡ 0 = search rules in
    let some : 0 < length c.read.new.buf = search rules in
    let other : nat_eq c.args.self.now.last 10 ≡ false = search rules in
    let Put : List ℕ → Type 0 = λ v. Consumes (ended_remaining g.R.Read.remaining c.args.self.now)
    (ended_remaining g.R.Read.remaining record { reader = c.read.new.self; last = 10 }) v in (
      subst Put (sym (feed_put c.read.new.buf some))
          (ended_feed c.args.self.now.last _ _ other
          (none_taken c.in_ok-count.count c.read.new.buf _ _ none c.in_ok-count.ensures.bytes.0)
          (c.in_ok-count.ensures.bytes.1 none some)),
      λ one room. absurd (omega (arith, one)),
    )
