-- A restart goes over the links that are named and those that the peer holds, one after the other.
use Rattle.std.proofs.Common.{◌≡◌, ℕ, ◌+◌, ◌<◌, ◌≤◌, Option, List, ◌++◌, length, drop, get_or, sym, ap, ◌∙◌}
use Rattle.std.proofs.lemmas.List.{drop_more, drop_all}
use Rattle.dm_two_peers.specs.Machine.{Conn, Node, Initiated, Accepted, held_as}
use Rattle.dm_two_peers.specs.Links.{Side, A, B, Link}
use Rattle.dm_two_peers.specs.Facts.{AreSound, IsSoundWorld}
use Rattle.dm_two_peers.specs.Worlds.{peer_on, with_peer, change_at}
use Rattle.dm_two_peers.specs.Happens.{restart_links}
use Rattle.dm_octet_peers.specs.Octets.{octet_peers}
use Rattle.dm_world.specs.declared.made_ends.MadeEnds.{MadeEnds}
use Rattle.dm_world.specs.declared.net.Net.{Net}
use Rattle.dm_world.specs.Asking.{peer_of, with_peer_of, reset_of}
use Rattle.dm_world.specs.Ends.{ends_of, NamesFresh, AreNamed, restart_each, numbers, held_numbers}
use Rattle.dm_world.specs.Seen.{as_links, restart_link}
use Rattle.dm_world.specs.Views.{as_world}
use Rattle.dm_world.proofs.Anew.{each_append, restarts_all, from_other_side}

-- one link after the other
pub each_more : (s : Side) (i : ℕ) (cs : List ℕ) (now next : List (Link (List ℕ))) → i < length cs →
    next ≡ change_at (get_or cs i 0) (restart_link s) now →
    restart_each s (drop (i + 1) cs) next ≡ restart_each s (drop i cs) now
each_more s i cs now next lt is =
    ap (λ ls. restart_each s (drop (i + 1) cs) ls) is ∙ ap (λ ds. restart_each s ds now) (sym (drop_more cs i 0 lt))

pub each_end : (s : Side) (i : ℕ) (cs : List ℕ) (ls : List (Link (List ℕ))) → length cs ≤ i →
    ls ≡ restart_each s (drop i cs) ls
each_end s i cs ls h = ap (λ ds. restart_each s ds ls) (sym (drop_all i cs h))

-- all of them
all_restarted : (s : Side) (n m : Node) (cs : List ℕ) (ls first done : List (Link (List ℕ))) → AreSound s n m ls →
    NamesFresh s cs ls → first ≡ restart_each s cs ls → done ≡ restart_each s (held_numbers n) first →
    done ≡ restart_links s ls
all_restarted s n m cs ls first done sound named named_done held_done =
    held_done
    ∙ ap (λ ls. restart_each s (held_numbers n) ls) named_done
    ∙ sym (each_append s cs (held_numbers n) ls)
    ∙ restarts_all s n m cs ls sound named

-- the two links that a peer holds
pub held_restarted : (s : Side) (n : Node) (i r : Option Conn) (first then done : List (Link (List ℕ))) →
    i ≡ held_as Initiated n.held → r ≡ held_as Accepted n.held → then ≡ restart_each s (numbers i) first →
    done ≡ restart_each s (numbers r) then → done ≡ restart_each s (held_numbers n) first
held_restarted s n i r first then done is_i is_r to_i to_r =
    to_r ∙ ap (λ ls. restart_each s (numbers r) ls) to_i ∙ sym (each_append s (numbers i) (numbers r) first)
    ∙ ap (λ o. restart_each s (numbers o ++ numbers r) first) is_i
    ∙ ap (λ o. restart_each s (numbers (held_as Initiated n.held) ++ numbers o) first) is_r

world_of : (s : Side) (old new : Net) (links : List (Link (List ℕ))) →
    new.pair ≡ with_peer_of s (reset_of (peer_of s old.pair)) old.pair → as_links new.links.items ≡ links →
    as_world new ≡ with_peer s (reset_of (peer_on s (as_world old))) links (as_world old)
world_of A old new links pair is = cc
world_of B old new links pair is = cc

-- the links of a world that has started anew for a side
pub links_anew : (s : Side) (old : Net) (made : MadeEnds) (first done : List (Link (List ℕ))) →
    IsSoundWorld octet_peers (as_world old) → AreNamed made (as_links old.links.items) →
    first ≡ restart_each s (ends_of s made) (as_links old.links.items) →
    done ≡ restart_each s (held_numbers (peer_of s old.pair).standing.core) first →
    done ≡ restart_links s (as_links old.links.items)
links_anew A old made first done sound named named_done held_done =
    all_restarted A old.pair.a.standing.core old.pair.b.standing.core (ends_of A made) (as_links old.links.items) first
    done sound (named A) named_done held_done
links_anew B old made first done sound named named_done held_done =
    all_restarted B old.pair.b.standing.core old.pair.a.standing.core (ends_of B made) (as_links old.links.items) first
    done (from_other_side old.pair.a.standing.core old.pair.b.standing.core (as_links old.links.items) sound) (named B)
    named_done held_done

pub world_anew : (s : Side) (old new : Net) (made : MadeEnds) (first : List (Link (List ℕ))) →
    IsSoundWorld octet_peers (as_world old) → AreNamed made (as_links old.links.items) →
    new.pair ≡ with_peer_of s (reset_of (peer_of s old.pair)) old.pair →
    first ≡ restart_each s (ends_of s made) (as_links old.links.items) →
    as_links new.links.items ≡ restart_each s (held_numbers (peer_of s old.pair).standing.core) first →
    as_world new ≡ with_peer s (reset_of (peer_on s (as_world old))) (restart_links s (as_links old.links.items))
    (as_world old)
world_anew s old new made first sound named pair named_done held_done =
    world_of s old new (restart_links s (as_links old.links.items)) pair
    (links_anew s old made first (as_links new.links.items) sound named named_done held_done)
