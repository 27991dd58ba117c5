use Rattle.std.proofs.Common.{◌≡◌, ◌*◌, ◌+◌, ◌++◌, ◌∙◌, map, ap, arith}
use Rattle.std.specs.Simd.Lanes.{chunk}
use Rattle.dm_text.specs.Hexadecimal.{high_digit, low_digit}
use Rattle.dm_text.specs.SideBySide.{by_turns}
use Rattle.dm_text.proofs.Turns.{put_run}
use Rattle.dm_text.proofs.hexadecimal.fill_hex_digits_by_sixteens.Goals as goal

pub runs-preserved : goal.runs-preserved
runs-preserved c =
    let k = c.runs.k in
    let run = chunk (16 * k) 16 c.args.octets.now in
    let turns : c.interleaved_lanes.result.0 ++ c.interleaved_lanes.result.1 ≡ by_turns (map high_digit run) (map low_digit run) =
    c.interleaved_lanes.ensures ∙ ap (λ v. by_turns v c.low_digits.result) c.high_digits.ensures
    ∙ ap (λ v. by_turns (map high_digit run) v) c.low_digits.ensures in
    put_run c.args.octets.now c.runs.room c.interleaved_lanes.result.0 c.interleaved_lanes.result.1 (16 * k) (32 * k) (32 * k + 16)
    (16 * (k + 1)) (omega arith) (omega arith) (omega arith) (omega arith) (omega arith) (omega arith) (omega arith)
    turns c.runs.invariant
