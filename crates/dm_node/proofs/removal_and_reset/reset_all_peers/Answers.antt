use Rattle.std.proofs.Common.{◌<◌, ◌∙◌, ap, subst, option_map, length, sym}
use Rattle.std.proofs.Math.ListN.{set}
use Rattle.std.proofs.lemmas.List.Edits.{map_over_more}
use Rattle.dm_node.specs.Emptying.{set_back}
use Rattle.dm_node.proofs.removal_and_reset.reset_all_peers.Goals as goal

pub loop-peer-preserved : goal.loop-peer-preserved
loop-peer-preserved c =
    ap (set c.loop-peer.peer-items c.loop-peer.peer-index)
    (c.reset_if_any.ensures ∙ ap (option_map set_back) (sym c.peer-item.is))
    ∙ map_over_more (option_map set_back) c.args.peers.now.items c.loop-peer.peer-items c.loop-peer.peer-index
    c.peer-item.result
    (subst (λ l. c.loop-peer.peer-index < length l) c.deref_mut-peer-items.ensures.value c.loop-peer-test.true)
    c.loop-peer.invariant c.peer-item.is
