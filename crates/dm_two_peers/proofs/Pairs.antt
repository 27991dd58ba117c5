-- A world of a clean run, as one side sees it: its own link of the run, the other side's, and quiet links beside them.
use Rattle.std.proofs.Common.{◌≡◌, ℕ, ◌==◌, Bool, true, false, ◌&&◌, ◌||◌, IsTrue, if◌then◌else◌, Option, Some, None}
use Rattle.std.proofs.Common.{List, [], ◌∷◌, ◌++◌, slice_get, refl, ap, ◌∙◌, arith}
use Rattle.std.specs.Prelude.{option_map}
use Rattle.std.proofs.lemmas.Bool.{and_parts, eqb-true}
use Rattle.dm_two_peers.specs.Machine.{Node}
use Rattle.dm_two_peers.specs.Links.{Side, A, B, flip, Link, View, link_of, by_side}
use Rattle.dm_two_peers.specs.Peers.{Action, Send, Close, Connect, Peers}
use Rattle.dm_two_peers.specs.Peers as peers
use Rattle.dm_two_peers.specs.Steps.{with_sent, with_close}
use Rattle.dm_two_peers.specs.Worlds.{World, peer_on, with_peer, Put, PutMessage, Disconnect, change_at, takes_more, put_if}
use Rattle.dm_two_peers.specs.Worlds.{puts_of}
use Rattle.dm_two_peers.specs.Quiet.{is_quiet_link}
use Rattle.dm_machine.specs.Awaiting.{awaits_cea, holds_cer}
use Rattle.dm_two_peers.specs.Electing.{Talks, IsPeerOf}
use Rattle.dm_two_peers.proofs.Lists.{change_at-tested}

-- the two sides, either first
pub data IsPair : Side → Side → Type 0 where
  ab : IsPair A B
  ba : IsPair B A

pub swapped : {s o : Side} → IsPair s o → IsPair o s
swapped ab = ba
swapped ba = ab

-- the same link from its other end
abbrev pub mirror : {M : Type 0} → View M → View M
mirror v = record { phase = v.phase; own = v.other; other = v.own; incoming = v.outgoing; outgoing = v.incoming }

pub flipped : {s o : Side} → IsPair s o → flip s ≡ o
flipped ab = refl
flipped ba = refl

pub own_by : {M : Type 0} (s o : Side) → IsPair s o → (f : View M → View M) (u : Option (View M)) →
    option_map (by_side s f) (option_map (link_of true s) u) ≡ option_map (link_of true s) (option_map f u)
own_by s o ab f None = refl
own_by s o ab f (Some v) = refl
own_by s o ba f None = refl
own_by s o ba f (Some v) = refl

pub other_by : {M : Type 0} (s o : Side) → IsPair s o → (f : View M → View M) (u : Option (View M)) →
    option_map (by_side s f) (option_map (link_of false o) u) ≡ option_map (link_of false o) (option_map f u)
other_by s o ab f None = refl
other_by s o ab f (Some v) = refl
other_by s o ba f None = refl
other_by s o ba f (Some v) = refl

pub own_flipped : {M : Type 0} (s : Side) (u : Option (View M)) →
    option_map (link_of true s) u ≡ option_map (link_of false s) (option_map mirror u)
own_flipped s None = refl
own_flipped s (Some v) = refl

pub other_flipped : {M : Type 0} (s : Side) (u : Option (View M)) →
    option_map (link_of false s) u ≡ option_map (link_of true s) (option_map mirror u)
other_flipped s None = refl
other_flipped s (Some v) = refl

pub here_after : {P M : Type 0} (s o : Side) → IsPair s o → (p : P) (links : List (Link M)) (w : World P M) →
    peer_on s (with_peer s p links w) ≡ p
here_after s o ab p links w = refl
here_after s o ba p links w = refl

pub there_after : {P M : Type 0} (s o : Side) → IsPair s o → (p : P) (links : List (Link M)) (w : World P M) →
    peer_on o w ≡ peer_on o (with_peer s p links w)
there_after s o ab p links w = refl
there_after s o ba p links w = refl

pub links_after : {P M : Type 0} (s : Side) (p : P) (links : List (Link M)) (w : World P M) →
    links ≡ (with_peer s p links w).links
links_after A p links w = refl
links_after B p links w = refl

-- what a side is to itself: its peer, its node, the number that it awaits
pub record Stands {P M C H : Type 0} (m : Peers P M) (t : Talks P M C H) (s : Side) (p : P) (n : Node)
    (h h' : ℕ) : Type 0 where
  pub peer : IsPeerOf t s p
  pub node : m.node_of p ≡ n
  pub awaits : awaits_cea n.state ≡ true → t.awaited_of p ≡ Some h
  pub waits : holds_cer n.state ≡ true → t.waiting_of p ≡ Some (t.cer_header h')
  pub number : IsTrue (t.is_number h)

pub record AreAt {P M C H : Type 0} (m : Peers P M) (t : Talks P M C H) (s o : Side) (w : World P M) (x y : ℕ)
    (u v : Option (View M)) (n n' : Node) (h h' : ℕ) : Type 0 where
  pub own : Stands m t s (peer_on s w) n h h'
  pub other : Stands m t o (peer_on o w) n' h' h
  pub at_x : slice_get w.links x ≡ option_map (link_of true s) u
  pub at_y : slice_get w.links y ≡ option_map (link_of false o) v
  pub apart : (x == y) ≡ false
  pub others : (d : ℕ) (l : Link M) → slice_get w.links d ≡ Some l → (x == d) ≡ false → (y == d) ≡ false →
      is_quiet_link l ≡ true

pub not_same : (x y : ℕ) → (x == y) ≡ false → (y == x) ≡ false
not_same x y h = grind (arith, Rattle.std.proofs.lemmas.Bool.Decides.nat_tests)

pub at_flip : {P M C H : Type 0} (m : Peers P M) (t : Talks P M C H) (s o : Side) (w : World P M) (x y : ℕ)
    (u v : Option (View M)) (n n' : Node) (h h' : ℕ) →
    AreAt m t s o w x y u v n n' h h' → AreAt m t o s w y x (option_map mirror v) (option_map mirror u) n' n h' h
at_flip m t s o w x y u v n n' h h' a =
    record {
      own = a.other;
      other = a.own;
      at_x = a.at_y ∙ other_flipped o v;
      at_y = a.at_x ∙ own_flipped s u;
      apart = not_same x y a.apart;
      others = λ d l at hy hx. a.others d l at hx hy;
    }

-- what actions on the two links put in
abbrev pub put_at : {M : Type 0} → Put M → Option (View M) → List (Put M)
put_at p None = []
put_at p (Some v) = elim (takes_more v.phase v.outgoing.mark) [ true ↦ p ∷ [] | false ↦ [] ]

abbrev pub done_if : {M : Type 0} → Bool → (View M → View M) → Option (View M) → Option (View M)
done_if b f u = option_map (λ z. if b then f z else z) u

abbrev pub puts_by : {M : Type 0} → Side → ℕ → ℕ → List (Action M) → Option (View M) → Option (View M) →
    List (Put M)
puts_by o x y [] u v = []
puts_by o x y (Send c a ∷ more) u v =
    (if c.0 == x then put_at (PutMessage c.0 o a) u else put_at (PutMessage c.0 o a) v)
    ++ puts_by o x y more (done_if (c.0 == x) (with_sent a) u) (done_if (c.0 == y) (with_sent a) v)
puts_by o x y (Close c ∷ more) u v =
    (if c.0 == x then put_at (Disconnect c.0 o) u else put_at (Disconnect c.0 o) v)
    ++ puts_by o x y more (done_if (c.0 == x) with_close u) (done_if (c.0 == y) with_close v)
puts_by o x y (Connect c ∷ more) u v = puts_by o x y more u v
puts_by o x y (peers.HandUp a ∷ more) u v = puts_by o x y more u v

abbrev pub names : {M : Type 0} → ℕ → ℕ → List (Action M) → Bool
names x y [] = true
names x y (Send c a ∷ more) = ((c.0 == x) || (c.0 == y)) && names x y more
names x y (Close c ∷ more) = ((c.0 == x) || (c.0 == y)) && names x y more
names x y (Connect c ∷ more) = names x y more
names x y (peers.HandUp a ∷ more) = names x y more

own_put : {M : Type 0} (s o : Side) → IsPair s o → (p : Put M) (u : Option (View M)) →
    put_if s p (option_map (link_of true s) u) ≡ put_at p u
own_put s o ab p None = refl
own_put s o ab p (Some v) = refl
own_put s o ba p None = refl
own_put s o ba p (Some v) = refl

other_put : {M : Type 0} (s o : Side) → IsPair s o → (p : Put M) (u : Option (View M)) →
    put_if s p (option_map (link_of false o) u) ≡ put_at p u
other_put s o ab p None = refl
other_put s o ab p (Some v) = refl
other_put s o ba p None = refl
other_put s o ba p (Some v) = refl

-- the two links of a list
record AreTwo {M : Type 0} (s o : Side) (links : List (Link M)) (x y : ℕ) (u v : Option (View M)) : Type 0 where
  pub pair : IsPair s o
  pub at_x : slice_get links x ≡ option_map (link_of true s) u
  pub at_y : slice_get links y ≡ option_map (link_of false o) v

own_if : {M : Type 0} (s o : Side) → IsPair s o → (b : Bool) (f : View M → View M) (u : Option (View M)) →
    option_map (λ l. if b then by_side s f l else l) (option_map (link_of true s) u) ≡ option_map (link_of true s)
    (done_if b f u)
own_if s o pair true f u = own_by s o pair f u
own_if s o pair false f None = refl
own_if s o pair false f (Some v) = refl

other_if : {M : Type 0} (s o : Side) → IsPair s o → (b : Bool) (f : View M → View M) (u : Option (View M)) →
    option_map (λ l. if b then by_side s f l else l) (option_map (link_of false o) u) ≡ option_map
    (link_of false o) (done_if b f u)
other_if s o pair true f u = other_by s o pair f u
other_if s o pair false f None = refl
other_if s o pair false f (Some v) = refl

two_changed : {M : Type 0} (s o : Side) (links : List (Link M)) (x y : ℕ) (u v : Option (View M)) (c : ℕ)
    (f : View M → View M) → AreTwo s o links x y u v →
    AreTwo s o (change_at c (by_side s f) links) x y (done_if (c == x) f u) (done_if (c == y) f v)
two_changed s o links x y u v c f two =
    record {
      pair = two.pair;
      at_x = change_at-tested c x (c == x) (by_side s f) links refl
          ∙ (ap (option_map (λ l. if c == x then by_side s f l else l)) two.at_x
          ∙ own_if s o two.pair (c == x) f u);
      at_y = change_at-tested c y (c == y) (by_side s f) links refl
          ∙ (ap (option_map (λ l. if c == y then by_side s f l else l)) two.at_y
          ∙ other_if s o two.pair (c == y) f v);
    }

put_tested : {M : Type 0} (s o : Side) (links : List (Link M)) (x y : ℕ) (u v : Option (View M)) (c : ℕ)
    (p : Put M) (b : Bool) → (c == x) ≡ b → AreTwo s o links x y u v → (b || (c == y)) ≡ true →
    put_if s p (slice_get links c) ≡ (if b then put_at p u else put_at p v)
put_tested s o links x y u v c p true e two h =
    ap (λ n. put_if s p (slice_get links n)) (eqb-true c x e)
    ∙ (ap (put_if s p) two.at_x ∙ own_put s o two.pair p u)
put_tested s o links x y u v c p false e two h =
    ap (λ n. put_if s p (slice_get links n)) (eqb-true c y h)
    ∙ (ap (put_if s p) two.at_y ∙ other_put s o two.pair p v)

puts_seen : {M : Type 0} (s o : Side) (actions : List (Action M)) (links : List (Link M)) (x y : ℕ)
    (u v : Option (View M)) → AreTwo s o links x y u v → names x y actions ≡ true →
    puts_of s actions links ≡ puts_by o x y actions u v
puts_seen s o [] links x y u v two h = refl
puts_seen s o (Connect c ∷ more) links x y u v two h = puts_seen s o more links x y u v two h
puts_seen s o (peers.HandUp a ∷ more) links x y u v two h = puts_seen s o more links x y u v two h
puts_seen {M} s o (Send c a ∷ more) links x y u v two h =
    let parts = and_parts ((c.0 == x) || (c.0 == y)) (names x y more) h in
    let rest = puts_seen s o more (change_at c.0 (by_side s (with_sent a)) links) x y
    (done_if (c.0 == x) (with_sent a) u)
    (done_if (c.0 == y) (with_sent a) v) (two_changed s o links x y u v c.0 (with_sent a) two) parts.1 in
    ap (λ (z : Side). put_if s (PutMessage c.0 z a) (slice_get links c.0) ++ puts_of s more
    (change_at c.0 (by_side s (with_sent a)) links)) (flipped two.pair)
    ∙ (ap (λ (ps : List (Put M)). ps ++ puts_of s more (change_at c.0 (by_side s (with_sent a)) links))
    (put_tested s o links x y u v c.0 (PutMessage c.0 o a) (c.0 == x) refl two parts.0)
    ∙ ap (λ (ps : List (Put M)).
    (if c.0 == x then put_at (PutMessage c.0 o a) u else put_at (PutMessage c.0 o a) v) ++ ps) rest)
puts_seen {M} s o (Close c ∷ more) links x y u v two h =
    let parts = and_parts ((c.0 == x) || (c.0 == y)) (names x y more) h in
    let rest = puts_seen s o more (change_at c.0 (by_side s with_close) links) x y (done_if (c.0 == x) with_close u)
    (done_if (c.0 == y) with_close v) (two_changed s o links x y u v c.0 with_close two) parts.1 in
    ap (λ (z : Side). put_if s (Disconnect c.0 z) (slice_get links c.0) ++ puts_of s more
    (change_at c.0 (by_side s with_close) links)) (flipped two.pair)
    ∙ (ap (λ (ps : List (Put M)). ps ++ puts_of s more (change_at c.0 (by_side s with_close) links))
    (put_tested s o links x y u v c.0 (Disconnect c.0 o) (c.0 == x) refl two parts.0)
    ∙ ap (λ (ps : List (Put M)).
    (if c.0 == x then put_at (Disconnect c.0 o) u else put_at (Disconnect c.0 o) v) ++ ps) rest)

pub puts_of_two : {M : Type 0} (s o : Side) → IsPair s o →
    (actions : List (Action M)) (links : List (Link M)) (x y : ℕ) (u v : Option (View M)) →
    slice_get links x ≡ option_map (link_of true s) u → slice_get links y ≡ option_map (link_of false o) v →
    names x y actions ≡ true →
    puts_of s actions links ≡ puts_by o x y actions u v
puts_of_two s o pair actions links x y u v at_x at_y h =
    puts_seen s o actions links x y u v (record { pair = pair; at_x = at_x; at_y = at_y }) h
