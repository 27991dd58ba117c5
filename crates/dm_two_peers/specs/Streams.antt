-- Octets of a front message that were delivered: how many they may be, and that it makes no difference how a message
-- was cut.
use Rattle.std.specs.Prelude.{◌≡◌, ℕ, ◌+◌, ◌<◌, ◌≤◌, Bool, true, ◌&&◌, ◌==◌, nat_lt, IsTrue, IfSome, Some, List, []}
use Rattle.std.specs.Prelude.{◌∷◌, map, slice_get}
use Rattle.std.specs.List.{list_all}
use Rattle.dm_two_peers.specs.Links.{Side, A, B, LinkUp, Direction, Link}
use Rattle.dm_two_peers.specs.Peers.{Event, Action, Send, ActsBy, Peers}
use Rattle.dm_two_peers.specs.Worlds.{World, with_links, After, DoneWith, Ignored, NoLink}
use Rattle.dm_two_peers.specs.Happens.{Happening, Delivers, Pieces, Loses, own_view, happens, world_after, run}
use Rattle.dm_two_peers.specs.Laws.{world_of}

-- every message has octets
abbrev pub are_sized : {M : Type 0} → (M → ℕ) → List M → Bool
are_sized size ms = list_all (λ x. nat_lt 0 (size x)) ms

-- none is delivered of an empty list, else fewer than the front message has
abbrev pub is_cut : {M : Type 0} → (M → ℕ) → List M → ℕ → Bool
is_cut size [] n = n == 0
is_cut size (x ∷ xs) n = nat_lt n (size x)

abbrev pub is_cut_way : {M : Type 0} → (M → ℕ) → Direction M → Bool
is_cut_way size d = are_sized size d.messages && is_cut size d.messages d.taken

abbrev pub is_cut_link : {M : Type 0} → (M → ℕ) → Link M → Bool
is_cut_link size l = is_cut_way size l.to_opener && is_cut_way size l.to_other

abbrev pub AreCut : {P M : Type 0} → Peers P M → World P M → Type 0
AreCut {P} {M} m w = (c : ℕ) (l : Link M) → slice_get w.links c ≡ Some l → IsTrue (is_cut_link m.size l)

-- peers that send messages with octets alone
abbrev pub sends_sized : {M : Type 0} → (M → ℕ) → List (Action M) → Bool
sends_sized size [] = true
sends_sized size (Send c x ∷ more) = nat_lt 0 (size x) && sends_sized size more
sends_sized size (_ ∷ more) = sends_sized size more

abbrev pub IsMeasured : {P M : Type 0} → Peers P M → Type 0
IsMeasured {P} {M} m =
    (p next : P) (e : Event M) (actions : List (Action M)) → m.reply p e ≡ ActsBy actions next →
    IsTrue (sends_sized m.size actions)

-- each happening keeps it so
abbrev pub HappeningKeepsCut : Type 0 → Type 0 → Type 0
HappeningKeepsCut P M =
    (m : Peers P M) → IsMeasured m → (w : World P M) (h : Happening M) → AreCut m w →
    AreCut m (world_after w (happens m w h))

-- after every list of happenings fewer octets are delivered of a front message than it has
abbrev pub EachRunIsCut : Type 0 → Type 0 → Type 0
EachRunIsCut P M =
    (m : Peers P M) → IsMeasured m → (a b : P) (hs : List (Happening M)) →
    IfSome (run m (world_of a b) hs) (λ r. AreCut m r.world)

-- a world but for the octets delivered
abbrev pub whole_way : {M : Type 0} → Direction M → Direction M
whole_way d = record d { taken = 0 }

abbrev pub whole_link : {M : Type 0} → Link M → Link M
whole_link l = record l { to_opener = whole_way l.to_opener; to_other = whole_way l.to_other }

abbrev pub whole_world : {P M : Type 0} → World P M → World P M
whole_world w = with_links (map (λ l. whole_link l) w.links) w

-- a link that is up, with a front message in the direction to a side
pub record IsNextTowards {P M : Type 0} (w : World P M) (c : ℕ) (s : Side) (l : Link M) (x : M)
    (more : List M) : Type 0 where
  pub there : slice_get w.links c ≡ Some l
  pub up : l.phase ≡ LinkUp
  pub front : (own_view s l).incoming.messages ≡ x ∷ more

-- it changes nothing but the octets delivered
pub record IsPartOnly {P M : Type 0} (w : World P M) (after : After P M) : Type 0 where
  pub world : World P M
  pub is : after ≡ DoneWith world []
  pub same : whole_world world ≡ whole_world w

-- a piece that ends no message changes nothing else; one that ends its message is the delivery
pub record IsPiece {P M : Type 0} (m : Peers P M) (w : World P M) (c : ℕ) (s : Side) (l : Link M) (x : M)
    (k : ℕ) : Type 0 where
  pub part : (own_view s l).incoming.taken + k < m.size x → IsPartOnly w (happens m w (Pieces c s k))
  pub last : m.size x ≤ (own_view s l).incoming.taken + k → happens m w (Pieces c s k) ≡ happens m w (Delivers c s)

abbrev pub EachPieceAddsUp : Type 0 → Type 0 → Type 0
EachPieceAddsUp P M =
    (m : Peers P M) (w : World P M) (c : ℕ) (s : Side) (l : Link M) (x : M) (more : List M) (k : ℕ) → 0 < k →
    IsNextTowards w c s l x more → IsPiece m w c s l x k

-- an outcome but for the octets delivered
abbrev pub whole_after : {P M : Type 0} → After P M → After P M
whole_after (DoneWith w put) = DoneWith (whole_world w) put
whole_after Ignored = Ignored
whole_after NoLink = NoLink

-- a loss is the one of whole messages, with the octets already delivered counted as kept: its effect, what it puts in
-- and the world after it
abbrev pub EachLossAddsUp : Type 0 → Type 0 → Type 0
EachLossAddsUp P M =
    (m : Peers P M) (w : World P M) (c a b : ℕ) (l : Link M) → slice_get w.links c ≡ Some l →
    whole_after (happens m w (Loses c a b))
    ≡ whole_after
    (happens m (whole_world w) (Loses c (a + (own_view A l).incoming.taken) (b + (own_view B l).incoming.taken)))
