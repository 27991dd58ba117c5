use Rattle.std.proofs.Common.{◌∙◌, sym}
use Rattle.dm_node.proofs.Counted.{present_all_back}
use Rattle.dm_node.proofs.Named.{named_same}
use Rattle.dm_node.proofs.Renamed.{all_back_hosts}
use Rattle.dm_node.proofs.Rostered.{apart_all, unlike_all, kept_all}
use Rattle.dm_node.proofs.neighbours.Neighbours.reset_all_neighbours.Goals as goal

pub invariant_of-self : goal.invariant_of-self
invariant_of-self c =
    let ps = c.self.inside.peers.items in
    record {
      apart = apart_all ps _ c.reset_all_peers.ensures;
      unlike = unlike_all ps _ c.reset_all_peers.ensures c.self.invariant.unlike;
      kept = kept_all c.each_event_keeps_peers_settled.ensures.fresh c.each_send_spells_a_message.ensures.fresh ps _
          c.reset_all_peers.ensures c.self.invariant.kept;
      named = named_same c.self.inside.hosts ps _ (all_back_hosts ps _ c.reset_all_peers.ensures)
          c.self.invariant.named;
      counted = c.self.invariant.counted ∙ sym (present_all_back ps _ c.reset_all_peers.ensures);
    }
