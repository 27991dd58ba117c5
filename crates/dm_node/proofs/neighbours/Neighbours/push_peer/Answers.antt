-- One more, whose host nobody has and who holds nothing of another's.
use Rattle.std.proofs.Common.{◌≡◌, ◌∷◌, ℕ, true, false, List, Option, Some, [], ◌++◌, length, if◌then◌else◌, sym, ap, subst, ◌∙◌}
use Rattle.dm_base.specs.Before.{lower}
use Rattle.dm_machine.specs.declared.connection.Conn.{Conn}
use Rattle.dm_peer.specs.declared.config.Config.{Config}
use Rattle.dm_peer.specs.declared.peer.Peer.{Peer}
use Rattle.dm_node.specs.Holding.{holds, holds_at, host_at, AreApart, AreUnlike}
use Rattle.dm_node.specs.Naming.{is_host, noted_number, AreHostsNoted}
use Rattle.dm_node.specs.NodeHeld.{AreKept}
use Rattle.dm_node.specs.Strangers.{present}
use Rattle.dm_node.proofs.Counted.{room_for, counted_put}
use Rattle.dm_node.proofs.Growing.{unlike_grown}
use Rattle.dm_node.proofs.Named.{noted_same}
use Rattle.dm_node.proofs.Renamed.{named_put}
use Rattle.dm_node.proofs.Rostered.{kept_grown}
use Rattle.dm_node.proofs.Welcomed.{apart_admitted}
use Rattle.dm_node.proofs.neighbours.Neighbours.push_peer.Goals as goal

pub count_after_adding_one-self-inside-requires : goal.count_after_adding_one-self-inside-requires
count_after_adding_one-self-inside-requires c =
    room_for c.self.inside.peers.items _ c.args.peer c.self.inside.present c.self.invariant.counted
    (c.deref.ensures.value ∙ c.push_reserved.ensures.items
    ∙ ap (λ l. l ++ Some c.args.peer ∷ []) c.reserve_place_and_note_new_host.ensures.same)

pub invariant_of-self : goal.invariant_of-self
invariant_of-self c =
    let ps = c.self.inside.peers.items in
    let free : (d : Conn) (j : ℕ) → holds d c.args.peer ≡ true → holds_at ps d j ≡ false =
    λ d j held. subst (λ (l : List (Option Peer)). holds_at l d j ≡ false) (sym c.self.view_is) (c.requires d j held) in
    let grown : c.push_reserved.new.self.items ≡ ps ++ Some c.args.peer ∷ [] =
    c.push_reserved.ensures.items ∙ ap (λ l. l ++ Some c.args.peer ∷ []) c.reserve_place_and_note_new_host.ensures.same in
    record {
      apart = subst AreApart (sym grown) (apart_admitted ps c.args.peer free c.self.invariant.apart);
      unlike = subst AreUnlike (sym grown)
          (unlike_grown ps c.args.peer c.config.result.now.peer (ap (λ (k : Config). k.peer) (sym c.config.ensures))
          c.in-Ok.ensures.unknown c.self.invariant.unlike);
      kept = subst AreKept (sym grown) (kept_grown ps c.args.peer c.peers_are_settled_with_encodable_numbers.ensures c.self.invariant.kept);
      named = subst (AreHostsNoted c.reserve_place_and_note_new_host.new.hosts) (sym grown)
          (named_put c.self.inside.hosts c.reserve_place_and_note_new_host.new.hosts ps c.args.peer c.self.invariant.named
          (subst (λ (k : Config). (j : ℕ) → host_at ps j ≡ Some (lower k.peer) → ⊥) c.config.ensures
          c.in-Ok.ensures.unknown)
          (subst (λ (k : Config). (h : List ℕ) → noted_number c.reserve_place_and_note_new_host.new.hosts h
          ≡ if is_host (lower k.peer) h then Some (length ps) else noted_number c.self.inside.hosts h)
          c.config.ensures c.in-Ok.ensures.noted));
      counted = counted_put ps _ c.args.peer c.self.inside.present _ c.self.invariant.counted grown
          c.count_after_adding_one-self-inside.ensures;
    }

pub invariant_of-self-in-Err-1 : goal.invariant_of-self-in-Err-1
invariant_of-self-in-Err-1 c =
    let same = sym c.reserve_place_and_note_new_host.ensures.same in
    record {
      apart = subst AreApart same c.self.invariant.apart;
      unlike = subst AreUnlike same c.self.invariant.unlike;
      kept = subst AreKept same c.self.invariant.kept;
      named = subst (AreHostsNoted c.reserve_place_and_note_new_host.new.hosts) same
          (noted_same c.self.inside.hosts c.reserve_place_and_note_new_host.new.hosts c.self.inside.peers.items c.in-Err.ensures.kept
          c.self.invariant.named);
      counted = c.self.invariant.counted ∙ ap present same;
    }
