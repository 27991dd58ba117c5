use Rattle.std.proofs.Common.{◌+◌, ◌-◌, length, take, drop, arith, ap, sym, ◌∙◌}
use Rattle.dm_two_peers.specs.Happens.{happens}
use Rattle.dm_octet_peers.specs.Octets.{octet_peers}
use Rattle.dm_world.specs.Happening.{as_happening}
use Rattle.dm_replay.specs.ReplayLines.{trace_line}
use Rattle.dm_replay.specs.Replay.{replay_from}
use Rattle.dm_replay.proofs.NextHappening.{effect_line, go_on, cut_first}
use Rattle.dm_replay.proofs.replay.push_whole_replay.Goals as goal

pub script-preserved : goal.script-preserved
script-preserved c =
    let rest = c.script.rest.now in
    let n = c.script.count + 1 in
    let h = c.happening-item.result in
    let w = c.script.world in
    let next = c.apply.new.self in
    let more = take (length rest - 1) (drop 1 rest) in
    let cut = cut_first rest h c.in-len1-up.len_at_least c.happening-item.is in
    let line = effect_line c.in-Ok.effect n w next (happens octet_peers w (as_happening h))
    (λ v. replay_from (n + 1) v more) c.in-Ok.ensures.step in
    let whole = ap (λ l. replay_from n w l) cut ∙ line in
    let size = ap length cut in (
      omega (arith, c.script.invariant.0, size),
      go_on _ c.script.text.items c.push_trace_line.new.text.items (trace_line n c.in-Ok.effect next)
          (replay_from n w rest) (replay_from (n + 1) next more)
          c.script.invariant.1 whole c.in_ok-push_trace_line-in-Ok.ensures,
      sym (ap (λ r. r.1) whole) ∙ c.script.invariant.2,
    )
