-- What comes on a dead link is dropped: nobody is told, and one thing less is under way.
use Rattle.std.proofs.Common.{◌≡◌, ◌⊎◌, inl, inr, ℕ, suc, ◌+◌, true, ◌&&◌, Some, List, [], ◌∷◌, slice_get, refl, arith}
use Rattle.std.specs.List.{list_all}
use Rattle.std.proofs.lemmas.Bool.{and_parts, and_from}
use Rattle.dm_two_peers.specs.Machine.{LinkConcern, HeardOnLink, EndsLink}
use Rattle.dm_two_peers.specs.Links.{Side, A, B, LinkPhase, LinkPending, LinkUp, LinkCancelled, End, Fresh, Open, Shut, Mark, NoMark}
use Rattle.dm_two_peers.specs.Links.{Coming, Delivered, Direction, Link, by_side}
use Rattle.dm_two_peers.specs.Peers.{Peers}
use Rattle.dm_two_peers.specs.Steps.{entered}
use Rattle.dm_two_peers.specs.Worlds.{World, with_links, change_at, DoneWith, Ignored}
use Rattle.dm_two_peers.specs.Happens.{own_view}
use Rattle.dm_two_peers.specs.Quiet.{is_still, is_quiet_link}
use Rattle.dm_two_peers.specs.Draining.{under_way_on}
use Rattle.dm_two_peers.proofs.Running.{delivery_of}
use Rattle.dm_two_peers.proofs.Dead.{is_dead, are_dead}

-- nothing comes to a side on a link
pub record Idles {M : Type 0} (s : Side) (l : Link M) : Type 1 where
  pub still : is_still (own_view s l).incoming ≡ true
  pub ignored : {P : Type 0} (m : Peers P M) (w : World P M) (c : ℕ) → delivery_of m c s w l ≡ Ignored

-- what comes to it is dropped
pub record Discards {M : Type 0} (s : Side) (l : Link M) : Type 1 where
  pub concern : LinkConcern
  pub delivers : {P : Type 0} (m : Peers P M) (w : World P M) (c : ℕ) → delivery_of m c s w l ≡ DoneWith
      (with_links (change_at c (by_side s (entered concern)) w.links) w) []
  pub dead : is_dead (by_side s (entered concern) l) ≡ true
  pub less : under_way_on (by_side s (entered concern) l) + 1 ≡ under_way_on l

-- a link by its parts, and one with both its ends shut
abbrev link_at : {M : Type 0} → Side → LinkPhase → End → End → Direction M → Direction M → Link M
link_at o p u v i j = record { opener = o; phase = p; opener_end = u; other_end = v; to_opener = i; to_other = j }

abbrev shut_link : {M : Type 0} → Side → Direction M → Direction M → Link M
shut_link o i j = link_at o LinkUp Shut Shut i j

seen_at : {M : Type 0} (o s : Side) (is : List M) (ti : ℕ) (mi : Mark) (js : List M) (tj : ℕ) (mj : Mark) →
    let l = shut_link o (record { messages = is; taken = ti; mark = mi })
    (record { messages = js; taken = tj; mark = mj }) in Idles s l ⊎ Discards s l
seen_at A A (x ∷ xs) ti mi js tj mj =
    inr (record { concern = HeardOnLink; delivers = λ m w c. refl; dead = refl; less = omega arith })
seen_at A A [] ti Coming js tj mj =
    inr (record { concern = EndsLink; delivers = λ m w c. refl; dead = refl; less = omega arith })
seen_at A A [] ti NoMark js tj mj = inl (record { still = refl; ignored = λ m w c. refl })
seen_at A A [] ti Delivered js tj mj = inl (record { still = refl; ignored = λ m w c. refl })
seen_at A B is ti mi (x ∷ xs) tj mj =
    inr (record { concern = HeardOnLink; delivers = λ m w c. refl; dead = refl; less = omega arith })
seen_at A B is ti mi [] tj Coming =
    inr (record { concern = EndsLink; delivers = λ m w c. refl; dead = refl; less = omega arith })
seen_at A B is ti mi [] tj NoMark = inl (record { still = refl; ignored = λ m w c. refl })
seen_at A B is ti mi [] tj Delivered = inl (record { still = refl; ignored = λ m w c. refl })
seen_at B A is ti mi (x ∷ xs) tj mj =
    inr (record { concern = HeardOnLink; delivers = λ m w c. refl; dead = refl; less = omega arith })
seen_at B A is ti mi [] tj Coming =
    inr (record { concern = EndsLink; delivers = λ m w c. refl; dead = refl; less = omega arith })
seen_at B A is ti mi [] tj NoMark = inl (record { still = refl; ignored = λ m w c. refl })
seen_at B A is ti mi [] tj Delivered = inl (record { still = refl; ignored = λ m w c. refl })
seen_at B B (x ∷ xs) ti mi js tj mj =
    inr (record { concern = HeardOnLink; delivers = λ m w c. refl; dead = refl; less = omega arith })
seen_at B B [] ti Coming js tj mj =
    inr (record { concern = EndsLink; delivers = λ m w c. refl; dead = refl; less = omega arith })
seen_at B B [] ti NoMark js tj mj = inl (record { still = refl; ignored = λ m w c. refl })
seen_at B B [] ti Delivered js tj mj = inl (record { still = refl; ignored = λ m w c. refl })

still_own : {M : Type 0} (s o : Side) (u v : End) (i j : Direction M) → (is_still i && is_still j) ≡ true →
    is_still (own_view s (link_at o LinkCancelled u v i j)).incoming ≡ true
still_own A A u v i j h = (and_parts (is_still i) (is_still j) h).0
still_own A B u v i j h = (and_parts (is_still i) (is_still j) h).1
still_own B A u v i j h = (and_parts (is_still i) (is_still j) h).1
still_own B B u v i j h = (and_parts (is_still i) (is_still j) h).0

pub seen : {M : Type 0} (s o : Side) (p : LinkPhase) (u v : End) (i j : Direction M) →
    is_dead (link_at o p u v i j) ≡ true → Idles s (link_at o p u v i j) ⊎ Discards s (link_at o p u v i j)
seen s o LinkPending u v i j h = cc
seen s o LinkCancelled u v i j h = inl (record { still = still_own s o u v i j h; ignored = λ m w c. refl })
seen s o LinkUp Shut Shut i j h = seen_at o s i.messages i.taken i.mark j.messages j.taken j.mark
seen s o LinkUp Shut Fresh i j h = cc
seen s o LinkUp Shut Open i j h = cc
seen s o LinkUp Fresh v i j h = cc
seen s o LinkUp Open v i j h = cc

-- where nothing comes to either side it is quiet
both_still : {M : Type 0} (o : Side) (p : LinkPhase) (u v : End) (i j : Direction M) →
    let l = link_at o p u v i j in is_dead l ≡ true → is_still (own_view A l).incoming ≡ true →
    is_still (own_view B l).incoming ≡ true → is_quiet_link l ≡ true
both_still o LinkPending u v i j h a b = cc
both_still A LinkUp u v i j h a b = and_from (is_still i) (is_still j) a b
both_still B LinkUp u v i j h a b = and_from (is_still i) (is_still j) b a
both_still A LinkCancelled u v i j h a b = and_from (is_still i) (is_still j) a b
both_still B LinkCancelled u v i j h a b = and_from (is_still i) (is_still j) b a

-- the side to which something comes on a link
record DropsOne {M : Type 0} (l : Link M) : Type 1 where
  pub side : Side
  pub drops : Discards side l

quiet_or_drops : {M : Type 0} (l : Link M) → is_dead l ≡ true → (is_quiet_link l ≡ true) ⊎ DropsOne l
quiet_or_drops l h =
    elim (seen A l.opener l.phase l.opener_end l.other_end l.to_opener l.to_other h) [
      | inr drops ↦ inr (record { side = A; drops = drops })
      | inl a ↦ elim (seen B l.opener l.phase l.opener_end l.other_end l.to_opener l.to_other h) [
        | inr drops ↦ inr (record { side = B; drops = drops })
        | inl b ↦ inl (both_still l.opener l.phase l.opener_end l.other_end l.to_opener l.to_other h a.still b.still)
      ]
    ]

-- dead links are quiet, or on one of them something is dropped
pub record Found {M : Type 0} (links : List (Link M)) : Type 1 where
  pub number : ℕ
  pub link : Link M
  pub at : slice_get links number ≡ Some link
  pub side : Side
  pub drops : Discards side link

pub find : {M : Type 0} (links : List (Link M)) → are_dead links ≡ true →
    (list_all (λ l. is_quiet_link l) links ≡ true) ⊎ Found links
find [] h = inl refl
find (l ∷ links) h =
    let p = and_parts (is_dead l) (are_dead links) h in
    elim (quiet_or_drops l p.0) [
      | inr one ↦ inr (record { number = 0; link = l; at = refl; side = one.side; drops = one.drops })
      | inl quiet ↦ elim (find links p.1) [
        | inl rest ↦ inl (and_from (is_quiet_link l) (list_all (λ k. is_quiet_link k) links) quiet rest)
        | inr f ↦ inr (record {
          number = suc f.number;
          link = f.link;
          at = f.at;
          side = f.side;
          drops = f.drops;
        })
      ]
    ]
