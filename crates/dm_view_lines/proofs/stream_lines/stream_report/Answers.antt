use Rattle.std.proofs.Common.{◌≡◌, ◌+◌, [], append_assoc, ap, ◌∙◌, refl}
use Rattle.std.specs.String.{string_bytes}
use Rattle.dm_view_lines.specs.Frames.{stop_text}
use Rattle.dm_view_lines.proofs.Pieces.{frames-counted}
use Rattle.dm_view_lines.proofs.stream_lines.stream_report.Goals as goal

pub returns : goal.returns
returns c =
    let (rest, said, fault, text, told, stopped) = c.in_ok-counted.ensures in
    let counted = c.in_ok-counted.counted in
    let stop = c.in_ok-counted.stop in
    let tally = c.in_ok-tally.tally in
    let count = frames-counted c.args.task c.args.dictionary.now 1 told.frames said counted told.framed.each told.each in
    let number = ap (λ n. stop_text c.args.task (n + 1) stop) count in
    let empty : string_bytes c.new-text.result ≡ [] = c.new-text.ensures.bytes in
    record {
      rest = rest;
      fault = fault;
      said = said;
      counted = counted;
      told = told;
      stop = stop;
      stop_is = stopped;
      tally = tally;
      tally_is = c.in_ok-tally.ensures.0;
      text_is = ap (λ v. v.items) c.into_bytes.ensures.value
          ∙ rw (c.in_ok-put_tally_if_checked.ensures, c.in_ok-tally.ensures.1, text, empty, number) (simp append_assoc);
      good_is = refl;
    }
