use Rattle.std.proofs.Common.{◌∙◌, sym}
use Rattle.dm_node.specs.Holding.{peer_at}
use Rattle.dm_node.proofs.Counted.{present_back}
use Rattle.dm_node.proofs.Named.{named_same}
use Rattle.dm_node.proofs.Renamed.{back_hosts}
use Rattle.dm_node.proofs.Rostered.{back_holds, back_named, back_kept, apart_set, unlike_set, kept_set}
use Rattle.dm_node.proofs.neighbours.Neighbours.reset_neighbour.Goals as goal

pub invariant_of-self : goal.invariant_of-self
invariant_of-self c =
    let ps = c.self.inside.peers.items in
    record {
      apart = apart_set ps _ c.args.index _ c.reset_one_peer.ensures (λ d. back_holds d _) c.self.invariant.apart;
      unlike = unlike_set ps _ c.args.index _ c.reset_one_peer.ensures (back_named ps c.args.index)
          c.self.invariant.unlike;
      kept = kept_set ps _ c.args.index _ c.reset_one_peer.ensures
          (λ p. back_kept c.each_event_keeps_peers_settled.ensures.fresh c.each_send_spells_a_message.ensures.fresh
          (peer_at ps c.args.index) p (c.self.invariant.kept c.args.index)) c.self.invariant.kept;
      named = named_same c.self.inside.hosts ps _ (back_hosts ps _ c.args.index c.reset_one_peer.ensures)
          c.self.invariant.named;
      counted = c.self.invariant.counted ∙ sym (present_back ps _ c.args.index c.reset_one_peer.ensures);
    }
