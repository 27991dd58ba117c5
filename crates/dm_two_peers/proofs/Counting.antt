-- A piece counts as a step just where it ends its message.
use Rattle.std.proofs.Common.{◌≡◌, ℕ, ◌+◌, ◌<◌, ◌≤◌, true, false, nat_lt, if◌then◌else◌, List, slice_get, ap, ◌∙◌}
use Rattle.std.proofs.Common.{arith}
use Rattle.std.proofs.lemmas.Bool.Decides.{nat_tests}
use Rattle.dm_two_peers.specs.Links.{Side, Link}
use Rattle.dm_two_peers.specs.Peers.{Peers}
use Rattle.dm_two_peers.specs.Worlds.{World}
use Rattle.dm_two_peers.specs.Happens.{own_view}
use Rattle.dm_two_peers.specs.Quiet.{is_in_part, is_in_part_at}
use Rattle.dm_two_peers.specs.Streams.{IsNextTowards}
use Rattle.dm_two_peers.specs.Counting.{EachPieceCounts}

is_less : (a b : ℕ) → a < b → nat_lt a b ≡ true
is_less a b h = grind (arith, nat_tests, h)

not_less : (a b : ℕ) → b ≤ a → nat_lt a b ≡ false
not_less a b h = grind (arith, nat_tests, h)

-- the test at the front message
at_front : {P M : Type 0} (m : Peers P M) (w : World P M) (c : ℕ) (s : Side) (l : Link M) (x : M) (more : List M)
    (k : ℕ) → IsNextTowards w c s l x more →
    is_in_part_at m.size s k (slice_get w.links c) ≡ nat_lt ((own_view s l).incoming.taken + k) (m.size x)
at_front m w c s l x more k front =
    let d = (own_view s l).incoming in
    ap (λ o. is_in_part_at m.size s k o) front.there
    ∙ ap (λ messages. is_in_part m.size k (record { messages = messages; taken = d.taken; mark = d.mark })) front.front

pub each_piece_counts_proof : {P M : Type 0} → EachPieceCounts P M
each_piece_counts_proof m w c s l x more k front =
    let taken = (own_view s l).incoming.taken in
    let at = at_front m w c s l x more k front in
    record {
      part = λ h. ap (λ b. if b then 0 else 1) (at ∙ is_less (taken + k) (m.size x) h);
      last = λ h. ap (λ b. if b then 0 else 1) (at ∙ not_less (taken + k) (m.size x) h);
    }
