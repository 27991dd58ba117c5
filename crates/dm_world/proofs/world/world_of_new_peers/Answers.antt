use Rattle.std.proofs.Common.{◌≡◌, sym, ap, subst, ◌∙◌}
use Rattle.dm_peer.specs.declared.config.Config.{Config}
use Rattle.dm_peer.specs.declared.peer.Peer.{Peer}
use Rattle.dm_peer.specs.declared.standing.Standing.{Standing}
use Rattle.dm_peer.specs.After.{fresh_standing}
use Rattle.dm_two_peers.specs.Facts.{AreSound}
use Rattle.dm_two_peers.specs.Laws.{world_of}
use Rattle.dm_two_peers.specs.Streams.{AreCut}
use Rattle.dm_two_peers.specs.Links.{A}
use Rattle.dm_octet_peers.specs.Laws.{fresh_peer}
use Rattle.dm_octet_peers.specs.Octets.{octet_peers}
use Rattle.dm_octet_peers.specs.Talking.{ArePeers}
use Rattle.dm_world.specs.Delivering.{HasPast}
use Rattle.dm_world.specs.Ends.{AreNamed}
use Rattle.dm_world.specs.Seen.{as_links}
use Rattle.dm_world.proofs.Named.{none_named}
use Rattle.dm_world.proofs.Paired.{no_fault_pairs}
use Rattle.dm_world.proofs.Pasts.{new_past}
use Rattle.dm_world.proofs.world.world_of_new_peers.Goals as goal

abbrev the_peer : Config → Standing → Peer
the_peer c s = record { config = c; standing = s }

is_fresh : (p : Peer) (c : Config) → p.config ≡ c → p.standing ≡ fresh_standing c.first_id → fresh_peer c ≡ p
is_fresh p c e g =
    ap (λ (k : Config). the_peer k (fresh_standing c.first_id)) (sym e) ∙ ap (λ (s : Standing). the_peer p.config s) (sym g)

pub invariant_of-result : goal.invariant_of-result
invariant_of-result c =
    let a = c.new.result in
    let b = c.new-2.result in
    let left = is_fresh a c.args.a c.new.ensures.config c.new.ensures.standing in
    let right = is_fresh b c.args.b c.new-2.ensures.config c.new-2.ensures.standing in
    let closed = c.closed_peers_make_a_sound_world.ensures octet_peers a b (ap (λ (s : Standing). s.core) c.new.ensures.standing)
    (ap (λ (s : Standing). s.core) c.new-2.ensures.standing) in
    let made =
    subst (λ p. ArePeers (world_of p b)) left
    (subst (λ p. ArePeers (world_of (fresh_peer c.args.a) p)) right
    (c.octet_peers_begin_and_stay_paired.ensures.fresh c.args.a c.args.b
    (no_fault_pairs c.args.a c.args.b c.requires) c.new.ensures.number
    c.new-2.ensures.number)) in
    let is = sym c.new-3.ensures.items in
    record {
      kept = record {
        sound = subst (λ ls. AreSound A a.standing.core b.standing.core (as_links ls)) is closed;
        peers = subst (λ ls. ArePeers (record { a = a; b = b; links = as_links ls })) is made;
        cut = subst (λ ls. AreCut octet_peers (record { a = a; b = b; links = as_links ls })) is (λ k l is. cc);
      };
      past = subst (λ ls. HasPast (record { a = a; b = b; links = as_links ls })) is
          (new_past c.args.a c.args.b (world_of a b) (ap (λ p. world_of p b) (sym left)
          ∙ ap (λ p. world_of (fresh_peer c.args.a) p) (sym right)));
      named = subst (λ ls. AreNamed c.new-4.result (as_links ls)) is (none_named c.new-4.result);
    }
