-- It makes no difference how messages were cut.
use Rattle.std.proofs.Common.{◌≡◌, ℕ, zero, suc, ◌+◌, ◌<◌, ◌==◌, Bool, true, false, nat_lt, if◌then◌else◌, Some, List}
use Rattle.std.proofs.Common.{[], ◌∷◌, ◌++◌, map, slice_get, refl, sym, ap, subst, ◌∙◌, arith}
use Rattle.std.proofs.lemmas.Bool.{lt-ltb, le-ltb, ne_eqb}
use Rattle.std.proofs.lemmas.Option.{slice_get-map}
use Rattle.std.specs.Prelude.{option_map}
use Rattle.dm_two_peers.specs.Machine.{conn}
use Rattle.dm_two_peers.specs.Links.{Side, A, B, opens, LinkPhase, LinkPending, LinkUp, LinkCancelled, End, Direction, Link, view_of}
use Rattle.dm_two_peers.specs.Links.{link_of, by_side}
use Rattle.dm_two_peers.specs.Peers.{ArrivedEvent, Peers}
use Rattle.dm_two_peers.specs.Steps.{marked}
use Rattle.dm_two_peers.specs.Worlds.{World, with_links, Put, takes_more, put_if, Disconnect, change_at, After, DoneWith, Ignored}
use Rattle.dm_two_peers.specs.Happens.{Delivers, Pieces, Loses, next_in, comes, deliver_next, take_part, deliver_part}
use Rattle.dm_two_peers.specs.Happens.{whole_in, lost_messages, lost, lost_link, are_shut, if_up, at_link, own_view}
use Rattle.dm_two_peers.specs.Happens.{happens}
use Rattle.dm_two_peers.specs.Streams.{whole_way, whole_link, whole_world, whole_after, IsNextTowards, IsPiece, EachLossAddsUp}

-- one link is changed
same_mapped : {X Y : Type 0} (g : X → Y) (f : X → X) (c : ℕ) (xs : List X) → ((x : X) → g (f x) ≡ g x) →
    map g (change_at c f xs) ≡ map g xs
same_mapped g f c [] h = refl
same_mapped g f zero (x ∷ xs) h = ap (λ y. y ∷ map g xs) (h x)
same_mapped g f (suc c) (x ∷ xs) h = ap (λ ys. g x ∷ ys) (same_mapped g f c xs h)

twice_mapped : {X : Type 0} (g : X → X) (xs : List X) → ((x : X) → g x ≡ g (g x)) → map g xs ≡ map g (map g xs)
twice_mapped g [] h = refl
twice_mapped g (x ∷ xs) h = ap (λ y. y ∷ map g xs) (h x) ∙ ap (λ ys. g (g x) ∷ ys) (twice_mapped g xs h)

change_mapped : {X : Type 0} (g f f' : X → X) (c : ℕ) (xs : List X) (l : X) → slice_get xs c ≡ Some l →
    ((x : X) → g x ≡ g (g x)) → g (f l) ≡ g (f' (g l)) →
    map g (change_at c f xs) ≡ map g (change_at c f' (map g xs))
change_mapped g f f' c [] l at h e = refl
change_mapped g f f' zero (x ∷ xs) l at h e =
    let same : l ≡ x = cc at in
    ap (λ y. y ∷ map g xs) (subst (λ z. g (f z) ≡ g (f' (g z))) same e)
    ∙ ap (λ ys. g (f' (g x)) ∷ ys) (twice_mapped g xs h)
change_mapped g f f' (suc c) (x ∷ xs) l at h e = ap (λ y. y ∷ map g (change_at c f xs)) (h x)
    ∙ ap (λ ys. g (g x) ∷ ys) (change_mapped g f f' c xs l at h e)

-- a piece
taking_whole : {M : Type 0} (mine : Bool) (k : ℕ) (l : Link M) →
    whole_link (link_of mine l.opener (take_part k (view_of mine l))) ≡ whole_link l
taking_whole true k l = refl
taking_whole false k l = refl

taken_whole : {P M : Type 0} (w : World P M) (c : ℕ) (s : Side) (k : ℕ) →
    whole_world (with_links (change_at c (by_side s (take_part k)) w.links) w) ≡ whole_world w
taken_whole w c s k = ap (λ ls. with_links ls w)
    (same_mapped (λ l. whole_link l) (by_side s (take_part k)) c w.links (λ l. taking_whole (opens s l.opener) k l))

module _ {P M : Type 0} (m : Peers P M) where
  piece_is : (w : World P M) (c : ℕ) (s : Side) (l : Link M) (x : M) (more : List M) (k : ℕ) → 0 < k →
      IsNextTowards w c s l x more →
      happens m w (Pieces c s k) ≡ (if nat_lt ((own_view s l).incoming.taken + k) (m.size x) then DoneWith
      (with_links (change_at c (by_side s (take_part k)) w.links) w) [] else comes m s (ArrivedEvent (conn c) x)
      (own_view s l).own w)
  piece_is w c s l x more k low front =
      let v = own_view s l in
      let some : (k == 0) ≡ false = ne_eqb k 0 (λ e. absurd (omega (arith, low, e))) in
      ap (λ o. at_link o (λ q. let u = own_view s q in if_up q.phase
      (if k == 0 then Ignored else deliver_part m c s k u.own u.incoming.taken
      (next_in u.incoming.messages u.incoming.mark) w) Ignored)) front.there
      ∙ (ap (λ p. if_up p (if k == 0 then Ignored else deliver_part m c s k v.own v.incoming.taken
      (next_in v.incoming.messages v.incoming.mark) w) Ignored) front.up
      ∙ (ap (λ b. if b then Ignored else deliver_part m c s k v.own v.incoming.taken
      (next_in v.incoming.messages v.incoming.mark) w) some
      ∙ ap (λ ms. deliver_part m c s k v.own v.incoming.taken (next_in ms v.incoming.mark) w) front.front))

  delivery_is : (w : World P M) (c : ℕ) (s : Side) (l : Link M) (x : M) (more : List M) → IsNextTowards w c s l x more →
      happens m w (Delivers c s) ≡ comes m s (ArrivedEvent (conn c) x) (own_view s l).own w
  delivery_is w c s l x more front =
      let v = own_view s l in
      ap (λ o. at_link o (λ q. let u = own_view s q in if_up q.phase
      (deliver_next m c s u.own (next_in u.incoming.messages u.incoming.mark) w) Ignored)) front.there
      ∙ (ap (λ p. if_up p (deliver_next m c s v.own (next_in v.incoming.messages v.incoming.mark) w) Ignored) front.up
      ∙ ap (λ ms. deliver_next m c s v.own (next_in ms v.incoming.mark) w) front.front)

  pub piece_adds_up : (w : World P M) (c : ℕ) (s : Side) (l : Link M) (x : M) (more : List M) (k : ℕ) → 0 < k →
      IsNextTowards w c s l x more → IsPiece m w c s l x k
  piece_adds_up w c s l x more k low front =
      let n = (own_view s l).incoming.taken + k in
      let w1 = with_links (change_at c (by_side s (take_part k)) w.links) w in
      let after = comes m s (ArrivedEvent (conn c) x) (own_view s l).own w in
      record {
        part = λ h.
            record {
              world = w1;
              is = piece_is w c s l x more k low front
                  ∙ ap (λ b. if b then DoneWith w1 [] else after) (lt-ltb n (m.size x) h);
              same = taken_whole w c s k;
            };
        last = λ h.
            piece_is w c s l x more k low front
            ∙ (ap (λ b. if b then DoneWith w1 [] else after) (le-ltb n (m.size x) h)
            ∙ sym (delivery_is w c s l x more front));
      }

-- a loss
abbrev lost_way : {M : Type 0} → (M → ℕ) → ℕ → Direction M → Direction M
lost_way size n d = record {
  messages = lost_messages d.mark (whole_in size n d.messages) d.messages;
  taken =
      0;
  mark = marked d.mark;
}

way_lost : {M : Type 0} (size : M → ℕ) (k : ℕ) (d : Direction M) →
    whole_way (lost size k d) ≡ whole_way (lost size (k + d.taken) (whole_way d))
way_lost size k d =
    let same : k + d.taken ≡ k + d.taken + 0 = omega arith in ap (λ n. lost_way size n d) same

abbrev loss_at : {M : Type 0} → Side → LinkPhase → End → End → Direction M → Direction M → Link M
loss_at o p u v d e = record { opener = o; phase = p; opener_end = u; other_end = v; to_opener = d; to_other = e }

lost_at : {M : Type 0} (size : M → ℕ) (a b : ℕ) (o : Side) (p : LinkPhase) (u v : End) (d e : Direction M) →
    (let l = loss_at o p u v d e in
    whole_link (lost_link size a b l) ≡ whole_link
    (lost_link size (a + (own_view A l).incoming.taken) (b + (own_view B l).incoming.taken) (whole_link l)))
lost_at size a b A p u v d e = ap (λ x. loss_at A p u v x (whole_way (lost size b e)))
    (way_lost size a d) ∙ ap (λ y. loss_at A p u v (whole_way (lost size (a + d.taken) (whole_way d))) y)
    (way_lost size b e)
lost_at size a b B p u v d e = ap (λ x. loss_at B p u v x (whole_way (lost size a e)))
    (way_lost size b d) ∙ ap (λ y. loss_at B p u v (whole_way (lost size (b + d.taken) (whole_way d))) y)
    (way_lost size a e)

link_lost : {M : Type 0} (size : M → ℕ) (a b : ℕ) (l : Link M) →
    whole_link (lost_link size a b l) ≡ whole_link
    (lost_link size (a + (own_view A l).incoming.taken) (b + (own_view B l).incoming.taken) (whole_link l))
link_lost size a b l = lost_at size a b l.opener l.phase l.opener_end l.other_end l.to_opener l.to_other

abbrev put_at : {M : Type 0} → Bool → Put M → Link M → List (Put M)
put_at mine p l = elim (takes_more l.phase (view_of mine l).outgoing.mark) [ true ↦ p ∷ [] | false ↦ [] ]

put_whole : {M : Type 0} (s : Side) (p : Put M) (l : Link M) →
    put_if s p (Some l) ≡ put_if s p (Some (whole_link l))
put_whole s p l = by_side_of (opens s l.opener)
  where
    by_side_of : (mine : Bool) → put_at mine p l ≡ put_at mine p (whole_link l)
    by_side_of true = refl
    by_side_of false = refl

same_outcomes : {P M : Type 0} (p : LinkPhase) (b : Bool) (w v : World P M) (ps qs : List (Put M)) →
    whole_world w ≡ whole_world v → ps ≡ qs →
    whole_after (if_up p (if b then Ignored else DoneWith w ps) Ignored)
    ≡ whole_after (if_up p (if b then Ignored else DoneWith v qs) Ignored)
same_outcomes LinkUp true w v ps qs e f = refl
same_outcomes LinkUp false w v ps qs e f = ap (λ x. DoneWith x ps) e ∙ ap (λ xs. DoneWith (whole_world v) xs) f
same_outcomes LinkPending b w v ps qs e f = refl
same_outcomes LinkCancelled b w v ps qs e f = refl

abbrev loss_of : {P M : Type 0} → Peers P M → World P M → ℕ → ℕ → ℕ → Link M → After P M
loss_of m w c a b l =
    if_up l.phase (if are_shut l.opener_end l.other_end then Ignored else DoneWith
    (with_links (change_at c (lost_link m.size a b) w.links) w)
    (put_if B (Disconnect c A) (Some l) ++ put_if A (Disconnect c B) (Some l))) Ignored

pub loss_adds_up : {P M : Type 0} → EachLossAddsUp P M
loss_adds_up m w c a b l at =
    let a' = a + (own_view A l).incoming.taken in
    let b' = b + (own_view B l).incoming.taken in
    let v = whole_world w in
    let k = whole_link l in
    let there : slice_get v.links c ≡ Some k = slice_get-map (λ q. whole_link q) w.links c
    ∙ ap (option_map (λ q. whole_link q)) at in
    let one : happens m w (Loses c a b) ≡ loss_of m w c a b l = ap (λ o. at_link o (loss_of m w c a b)) at in
    let two : happens m v (Loses c a' b') ≡ loss_of m v c a' b' k = ap
    (λ o. at_link o (loss_of m v c a' b')) there in
    let lost_both : whole_world (with_links (change_at c (lost_link m.size a b) w.links) w) ≡ whole_world
    (with_links (change_at c (lost_link m.size a' b') v.links) v) =
    ap (λ ls. with_links ls w)
    (change_mapped (λ q. whole_link q) (lost_link m.size a b) (lost_link m.size a' b') c w.links l at
    (λ q. refl) (link_lost m.size a b l)) in
    ap whole_after one
    ∙ (same_outcomes l.phase (are_shut l.opener_end l.other_end)
    (with_links (change_at c (lost_link m.size a b) w.links) w)
    (with_links (change_at c (lost_link m.size a' b') v.links) v)
    (put_if B (Disconnect c A) (Some l) ++ put_if A (Disconnect c B) (Some l))
    (put_if B (Disconnect c A) (Some k) ++ put_if A (Disconnect c B) (Some k)) lost_both
    (ap (λ xs. xs ++ put_if A (Disconnect c B) (Some l)) (put_whole B (Disconnect c A) l)
    ∙ ap (λ ys. put_if B (Disconnect c A) (Some k) ++ ys) (put_whole A (Disconnect c B) l))
    ∙ ap whole_after (sym two))
