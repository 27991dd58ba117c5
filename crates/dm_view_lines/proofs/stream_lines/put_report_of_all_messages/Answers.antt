use Rattle.std.proofs.Common.{◌≡◌, ◌+◌, ◌++◌, ◌∷◌, [], length, length-append, arith, ap, sym, ◌∙◌, refl}
use Rattle.std.specs.Str.Lines.{lines}
use Rattle.std.specs.String.{string_bytes}
use Rattle.dm_view_lines.proofs.Steps.{line_counts, lines-next}
use Rattle.dm_view_lines.proofs.Streamed.{so-none, so-next, so-stop}
use Rattle.dm_view_lines.proofs.stream_lines.put_report_of_all_messages.Goals as goal

pub loop-line-init : goal.loop-line-init
loop-line-init c =
    let input = c.args.input.now in
    let old = string_bytes c.args.text.now in
    let same : c.into_iter-line-iterator.result ≡ input = c.into_iter-line-iterator.ensures.into_iter_gives ∙ c.new-line-items.ensures in
    let held = ap (λ f. f.octets) c.new-framer.ensures in
    record {
      before = [];
      lines_are = ap lines (sym same);
      counted = refl;
      max = ap (λ f. f.max) c.new-framer.ensures;
      sound = ap (λ f. f.fault) c.new-framer.ensures;
      held = sym (ap length held);
      so_far = so-none c.frames_in_a_row_stay_themselves.ensures c.args.task c.args.dictionary.now (lines input)
          (lines c.into_iter-line-iterator.result) c.new-framer.result.octets old (ap lines (sym same)) held;
    }

pub overflow_add-number : goal.overflow_add-number
overflow_add-number c =
    let inv = c.loop-line.invariant in
    let most = line_counts c.lines_exceed_octets_by_one_at_most.ensures c.args.input.now c.in-Some.line.now
    c.loop-line.line-iterator c.next.new.self inv.before inv.lines_are c.in-Some.ensures.steps in
    omega (arith, most, inv.counted)

pub loop-line-preserved : goal.loop-line-preserved
loop-line-preserved c =
    let inv = c.loop-line.invariant in
    let line = c.in-Some.line.now in
    let said = c.in_ok-read.ensures in
    record {
      before = inv.before ++ line ∷ [];
      lines_are = lines-next c.args.input.now line c.loop-line.line-iterator c.next.new.self inv.before inv.lines_are
          c.in-Some.ensures.steps;
      counted = ap (λ n. n + 1) inv.counted ∙ sym (length-append inv.before (line ∷ []));
      max = ap (λ f. f.max) said.kept ∙ inv.max;
      sound = ap (λ f. f.fault) said.kept ∙ inv.sound;
      held = said.held;
      so_far = so-next c.cuts_change_no_frames.ensures c.args.task c.args.dictionary.now (lines c.args.input.now)
          (lines c.loop-line.line-iterator) (lines c.next.new.self) line (c.loop-line.number + 1)
          c.loop-line.framer.octets c.feed_line_and_put_reports.new.framer.octets (string_bytes c.args.text.now)
          (string_bytes c.loop-line.text) (string_bytes c.feed_line_and_put_reports.new.text) c.loop-line.reading.tally
          c.in_ok-read.read.tally c.in_ok-read.read.fault c.in_ok-read.stop c.in-Some.ensures.steps inv.so_far
          (record {
            bad = λ none. let r = said.bad none in (r.1, ap (λ v. v.tally) r.0, r.2, ap (λ f. f.octets) r.3);
            said = said.said;
          })
          (sym c.is_some.ensures ∙ c.if-is_some.false);
    }

pub returns-then-is_some : goal.returns-then-is_some
returns-then-is_some c =
    let inv = c.loop-line.invariant in
    let said = c.in_ok-read.ensures in
    so-stop c.cuts_change_no_frames.ensures c.faults_of_streams_stay.ensures c.args.task c.args.dictionary.now (lines c.args.input.now)
    (lines c.loop-line.line-iterator) (lines c.next.new.self) c.in-Some.line.now (c.loop-line.number + 1)
    c.loop-line.framer.octets c.feed_line_and_put_reports.new.framer.octets (string_bytes c.args.text.now)
    (string_bytes c.loop-line.text) (string_bytes c.feed_line_and_put_reports.new.text) c.loop-line.reading.tally
    c.in_ok-read.read.tally c.in_ok-read.read.fault c.in_ok-read.stop c.in-Some.ensures.steps inv.so_far
    (record {
      bad = λ none. let r = said.bad none in (r.1, ap (λ v. v.tally) r.0, r.2, ap (λ f. f.octets) r.3);
      said = said.said;
    })
    (sym c.is_some.ensures ∙ c.if-is_some.true)
