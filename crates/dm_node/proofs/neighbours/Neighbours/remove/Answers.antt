use Rattle.std.proofs.Common.{sym}
use Rattle.dm_node.proofs.Counted.{some_before, counted_less}
use Rattle.dm_node.proofs.Renamed.{named_without}
use Rattle.dm_node.proofs.Rostered.{none_free, none_named, none_kept, apart_set, unlike_set, kept_set}
use Rattle.dm_node.proofs.neighbours.Neighbours.remove.Goals as goal

pub count_after_removing-self-inside-requires : goal.count_after_removing-self-inside-requires
count_after_removing-self-inside-requires c =
    some_before c.self.inside.peers.items c.args.index c.self.inside.present c.take_peer_out-gone.result
    c.take_peer_out-gone.ensures.gone c.self.invariant.counted

pub invariant_of-self : goal.invariant_of-self
invariant_of-self c =
    let ps = c.self.inside.peers.items in
    record {
      apart = apart_set ps _ c.args.index _ c.take_peer_out-gone.ensures.without none_free c.self.invariant.apart;
      unlike = unlike_set ps _ c.args.index _ c.take_peer_out-gone.ensures.without (none_named ps c.args.index)
          c.self.invariant.unlike;
      kept = kept_set ps _ c.args.index _ c.take_peer_out-gone.ensures.without none_kept c.self.invariant.kept;
      named = named_without c.self.inside.hosts _ ps _ c.args.index c.take_peer_out-gone.result
          c.take_peer_out-gone.ensures.without (sym c.take_peer_out-gone.ensures.gone) c.forget_host_of.ensures
          c.self.invariant.named;
      counted = counted_less ps _ c.args.index c.self.inside.present _ c.take_peer_out-gone.result
          c.take_peer_out-gone.ensures.gone c.self.invariant.counted c.take_peer_out-gone.ensures.without
          c.count_after_removing-self-inside.ensures.gone c.count_after_removing-self-inside.ensures.nobody;
    }
