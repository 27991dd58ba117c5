-- Each happening of a clean run leads from phase to phase, and so does a run.
use Rattle.std.proofs.Common.{◌≡◌, ℕ, ◌+◌, ◌==◌, Bool, true, false, if◌then◌else◌, Option, Some, None, IfSome, List, []}
use Rattle.std.proofs.Common.{◌∷◌, ◌++◌, slice_get, refl, sym, ap, subst, ◌∙◌, arith, append-nil, append_assoc, ◌⊎◌}
use Rattle.std.proofs.Common.{inl, inr, ◌≤◌}
use Rattle.std.specs.Prelude.{option_map}
use Rattle.std.proofs.lemmas.Bool.{cases_Bool, and_parts, eqb-true}
use Rattle.dm_two_peers.specs.Machine.{conn}
use Rattle.dm_two_peers.specs.Links.{Side, A, B, Link, View, link_of}
use Rattle.dm_two_peers.specs.Peers.{AckEvent, Peers}
use Rattle.dm_two_peers.specs.Worlds.{World, Put, After, Ignored, tell}
use Rattle.dm_two_peers.specs.Happens.{Happening, Starts, Stops, TimesOut, Ticks, Restarts, Acks, Nacks, Delivers, Pieces}
use Rattle.dm_two_peers.specs.Happens.{Loses, Submits, next_in, deliver_next, deliver_part, if_up, if_pending, at_link}
use Rattle.dm_two_peers.specs.Happens.{own_view, happens, world_after, RunEnd, ran_on, run_from}
use Rattle.dm_two_peers.specs.Quiet.{is_quiet_link, is_clean_one, is_clean, is_in_part_at, makes, links_made, cost}
use Rattle.dm_two_peers.specs.Quiet.{steps_of, steps_taken}
use Rattle.dm_two_peers.specs.Electing.{Talks, IsElecting}
use Rattle.dm_two_peers.proofs.Pairs.{IsPair, ab, ba, swapped, mirror}
use Rattle.dm_two_peers.proofs.Acting.{own_at}
use Rattle.dm_two_peers.proofs.Phases.{Phase, C1, stage_g, stage_l, depth, present, put_so_far, Adds, InPhase, Went, stays}
use Rattle.dm_two_peers.proofs.Phases.{is_lost, moves}
use Rattle.dm_two_peers.proofs.Phasing.{acked_own, arrives_own, arrives_other, flip_in}
use Rattle.dm_two_peers.proofs.TableAcks.{ack_g, ack_l}
use Rattle.dm_two_peers.proofs.TableDelivers.{arrive_gg, arrive_gl, arrive_ll, arrive_lg}
use Rattle.dm_two_peers.proofs.TableStarts.{start_g, start_l}
use Rattle.dm_two_peers.proofs.Pieces.{PieceWent, take_gg, take_gl, take_ll, take_lg, pieces_went, quiet_ack, quiet_arrives}
use Rattle.dm_two_peers.proofs.Pieces.{quiet_pieces}

pub either_side : (g l : Side) → IsPair g l → (s : Side) → (s ≡ g) ⊎ (s ≡ l)
either_side g l ab A = inl refl
either_side g l ab B = inr refl
either_side g l ba A = inr refl
either_side g l ba B = inl refl

-- what the link of a number is, as a happening asks
abbrev pub ack_of : {P M : Type 0} → Peers P M → ℕ → World P M → Link M → After P M
ack_of m c w l = if_pending l.phase (tell m l.opener (AckEvent (conn c)) w) Ignored

abbrev pub delivery_of : {P M : Type 0} → Peers P M → ℕ → Side → World P M → Link M → After P M
delivery_of m c s w l = let v = own_view s l in if_up l.phase
    (deliver_next m c s v.own (next_in v.incoming.messages v.incoming.mark) w) Ignored

abbrev piece_of : {P M : Type 0} → Peers P M → ℕ → Side → ℕ → World P M → Link M → After P M
piece_of m c s n w l =
    let v = own_view s l in if_up l.phase
    (if n == 0 then Ignored else deliver_part m c s n v.own v.incoming.taken
    (next_in v.incoming.messages v.incoming.mark) w) Ignored

module _ {P M C H : Type 0} (m : Peers P M) (t : Talks P M C H) where
  abbrev WentAt : (g l : Side) (k : Phase) (x y h h' b : ℕ) → After P M → Type 0
  WentAt g l k x y h h' b after = Went m t g l k x y h h' b after [] []

  -- the link that is named: one of the two, another, or none
  other_link : (g l : Side) (w : World P M) (k : Phase) (x y : ℕ) → InPhase m t g l w k x y →
      (K : Option (Link M) → Type 0) → K None → ((q : Link M) → is_quiet_link q ≡ true → K (Some q)) →
      (c : ℕ) (o : Option (Link M)) → slice_get w.links c ≡ o → (x == c) ≡ false → (y == c) ≡ false → K o
  other_link g l w k x y q K none quiet c None e hx hy = none
  other_link g l w k x y q K none quiet c (Some z) e hx hy = quiet z (q.at.others c z e hx hy)

  which_link : (g l : Side) (w : World P M) (k : Phase) (x y : ℕ) → InPhase m t g l w k x y →
      (K : ℕ → Option (Link M) → Type 0) → ((c : ℕ) → K c None) →
      ((c : ℕ) (q : Link M) → is_quiet_link q ≡ true → K c (Some q)) → K x (slice_get w.links x) →
      K y (slice_get w.links y) → (c : ℕ) → K c (slice_get w.links c)
  which_link g l w k x y q K none quiet at_x at_y c =
      elim (cases_Bool (x == c)) [
        | inl hx ↦ subst (λ d. K d (slice_get w.links d)) (eqb-true x c hx) at_x
        | inr hx ↦ elim (cases_Bool (y == c)) [
          | inl hy ↦ subst (λ d. K d (slice_get w.links d)) (eqb-true y c hy) at_y
          | inr hy ↦ other_link g l w k x y q (K c) (none c) (quiet c) c (slice_get w.links c) refl hx hy
        ]
      ]

  ack_went : IsElecting m t → (g l : Side) → IsPair g l → t.wins g ≡ true → t.wins l ≡ false →
      (w : World P M) (k : Phase) (x y : ℕ) → (q : InPhase m t g l w k x y) → (c : ℕ) →
      WentAt g l k x y q.h q.h' 1 (happens m w (Acks c))
  ack_went el g l pair wins loses w k x y q c =
      let f = flip_in m t g l w k x y q in
      which_link g l w k x y q (λ d o. WentAt g l k x y q.h q.h' 1 (at_link o (ack_of m d w))) (λ d. is_lost)
      (λ d z h. quiet_ack m t g l k x y z (tell m z.opener (AckEvent (conn d)) w) h)
      (subst (λ a. WentAt g l k x y q.h q.h' 1 a)
      (sym (ap (λ o. at_link o (ack_of m x w)) q.at.at_x
      ∙ acked_own m g x w (own_at m t g l (stage_g k) q.h q.i q.j)))
      (ack_g m t el g l pair wins loses w k x y q))
      (subst (λ a. WentAt g l k x y q.h q.h' 1 a)
      (sym (ap (λ o. at_link o (ack_of m y w)) f.at_x
      ∙ acked_own m l y w (own_at m t l g (stage_l k) q.h' q.i' q.j')))
      (ack_l m t el g l pair wins loses w k x y q))
      c

  delivery_g : IsElecting m t → (g l : Side) → IsPair g l → t.wins g ≡ true → t.wins l ≡ false →
      (w : World P M) (k : Phase) (x y : ℕ) → (q : InPhase m t g l w k x y) → (c : ℕ) →
      WentAt g l k x y q.h q.h' 1 (happens m w (Delivers c g))
  delivery_g el g l pair wins loses w k x y q c =
      which_link g l w k x y q (λ d o. WentAt g l k x y q.h q.h' 1 (at_link o (delivery_of m d g w))) (λ d. is_lost)
      (λ d z h. quiet_arrives m t g l k x y g d w z h)
      (subst (λ a. WentAt g l k x y q.h q.h' 1 a)
      (sym (ap (λ o. at_link o (delivery_of m x g w)) q.at.at_x
      ∙ arrives_own m g l pair x w (own_at m t g l (stage_g k) q.h q.i q.j)))
      (arrive_gg m t el g l pair wins loses w k x y q))
      (subst (λ a. WentAt g l k x y q.h q.h' 1 a)
      (sym (ap (λ o. at_link o (delivery_of m y g w)) q.at.at_y
      ∙ arrives_other m g l pair y w (option_map mirror (own_at m t l g (stage_l k) q.h' q.i' q.j'))))
      (arrive_lg m t el g l pair wins loses w k x y q))
      c

  delivery_l : IsElecting m t → (g l : Side) → IsPair g l → t.wins g ≡ true → t.wins l ≡ false →
      (w : World P M) (k : Phase) (x y : ℕ) → (q : InPhase m t g l w k x y) → (c : ℕ) →
      WentAt g l k x y q.h q.h' 1 (happens m w (Delivers c l))
  delivery_l el g l pair wins loses w k x y q c =
      let f = flip_in m t g l w k x y q in
      which_link g l w k x y q (λ d o. WentAt g l k x y q.h q.h' 1 (at_link o (delivery_of m d l w))) (λ d. is_lost)
      (λ d z h. quiet_arrives m t g l k x y l d w z h)
      (subst (λ a. WentAt g l k x y q.h q.h' 1 a)
      (sym (ap (λ o. at_link o (delivery_of m x l w)) f.at_y
      ∙ arrives_other m l g (swapped pair) x w (option_map mirror (own_at m t g l (stage_g k) q.h q.i q.j))))
      (arrive_gl m t el g l pair wins loses w k x y q))
      (subst (λ a. WentAt g l k x y q.h q.h' 1 a)
      (sym (ap (λ o. at_link o (delivery_of m y l w)) f.at_x
      ∙ arrives_own m l g (swapped pair) y w (own_at m t l g (stage_l k) q.h' q.i' q.j')))
      (arrive_ll m t el g l pair wins loses w k x y q))
      c

  -- a piece to a side, by the link that it names
  abbrev PieceAt : (g l : Side) (k : Phase) (x y h h' : ℕ) (w : World P M) (s : Side) (n c : ℕ) → Option (Link M) →
      Type 0
  PieceAt g l k x y h h' w s n c o =
      WentAt g l k x y h h' (if is_in_part_at m.size s n o then 0 else 1) (at_link o (piece_of m c s n w))

  piece_own : {h h' : ℕ} (g l : Side) (k : Phase) (x y : ℕ) (w : World P M) (s o : Side) → IsPair s o → (n c : ℕ)
      (u : Option (View M)) → PieceWent m t g l k x y h h' w s n c u →
      PieceAt g l k x y h h' w s n c (option_map (link_of true s) u)
  piece_own g l k x y w s o ab n c None h = h
  piece_own g l k x y w s o ab n c (Some z) h = h
  piece_own g l k x y w s o ba n c None h = h
  piece_own g l k x y w s o ba n c (Some z) h = h

  piece_other : {h h' : ℕ} (g l : Side) (k : Phase) (x y : ℕ) (w : World P M) (s o : Side) → IsPair s o → (n c : ℕ)
      (u : Option (View M)) → PieceWent m t g l k x y h h' w s n c u →
      PieceAt g l k x y h h' w s n c (option_map (link_of false o) u)
  piece_other g l k x y w s o ab n c None h = h
  piece_other g l k x y w s o ab n c (Some z) h = h
  piece_other g l k x y w s o ba n c None h = h
  piece_other g l k x y w s o ba n c (Some z) h = h

  piece_g : IsElecting m t → (g l : Side) → IsPair g l → t.wins g ≡ true → t.wins l ≡ false →
      (w : World P M) (k : Phase) (x y : ℕ) → (q : InPhase m t g l w k x y) → (c n : ℕ) →
      WentAt g l k x y q.h q.h' (cost m w (Pieces c g n)) (happens m w (Pieces c g n))
  piece_g el g l pair wins loses w k x y q c n =
      let u = own_at m t g l (stage_g k) q.h q.i q.j in
      let v = option_map mirror (own_at m t l g (stage_l k) q.h' q.i' q.j') in
      which_link g l w k x y q (λ d o. PieceAt g l k x y q.h q.h' w g n d o) (λ d. is_lost)
      (λ d z h. quiet_pieces m t g l k x y _ g d n w z h)
      (subst (λ o. PieceAt g l k x y q.h q.h' w g n x o) (sym q.at.at_x)
      (piece_own g l k x y w g l pair n x u (pieces_went m t g l k x y g x n w u (take_gg m t g l pair w k x y n q)
      (arrive_gg m t el g l pair wins loses w k x y q))))
      (subst (λ o. PieceAt g l k x y q.h q.h' w g n y o) (sym q.at.at_y)
      (piece_other g l k x y w g l pair n y v (pieces_went m t g l k x y g y n w v (take_lg m t g l pair w k x y n q)
      (arrive_lg m t el g l pair wins loses w k x y q))))
      c

  piece_l : IsElecting m t → (g l : Side) → IsPair g l → t.wins g ≡ true → t.wins l ≡ false →
      (w : World P M) (k : Phase) (x y : ℕ) → (q : InPhase m t g l w k x y) → (c n : ℕ) →
      WentAt g l k x y q.h q.h' (cost m w (Pieces c l n)) (happens m w (Pieces c l n))
  piece_l el g l pair wins loses w k x y q c n =
      let f = flip_in m t g l w k x y q in
      let u = option_map mirror (own_at m t g l (stage_g k) q.h q.i q.j) in
      let v = own_at m t l g (stage_l k) q.h' q.i' q.j' in
      which_link g l w k x y q (λ d o. PieceAt g l k x y q.h q.h' w l n d o) (λ d. is_lost)
      (λ d z h. quiet_pieces m t g l k x y _ l d n w z h)
      (subst (λ o. PieceAt g l k x y q.h q.h' w l n x o) (sym f.at_y)
      (piece_other g l k x y w l g (swapped pair) n x u (pieces_went m t g l k x y l x n w u
      (take_gl m t g l (swapped pair) w k x y n q) (arrive_gl m t el g l pair wins loses w k x y q))))
      (subst (λ o. PieceAt g l k x y q.h q.h' w l n y o) (sym f.at_x)
      (piece_own g l k x y w l g (swapped pair) n y v (pieces_went m t g l k x y l y n w v
      (take_ll m t g l (swapped pair) w k x y n q) (arrive_ll m t el g l pair wins loses w k x y q))))
      c

  -- one happening
  abbrev HappensTo : (g l : Side) (k : Phase) (x y n n' : ℕ) (w : World P M) → Happening M → Type 0
  HappensTo g l k x y n n' w h = Went m t g l k x y n n' (cost m w h) (happens m w h)
      (makes g w h (happens m w h)) (makes l w h (happens m w h))

  at_side : {n n' : ℕ} (g l : Side) → IsPair g l → (k : Phase) (x y : ℕ) (w : World P M) (f : Side → Happening M) →
      HappensTo g l k x y n n' w (f g) → HappensTo g l k x y n n' w (f l) → (s : Side) →
      HappensTo g l k x y n n' w (f s)
  at_side {n} {n'} g l pair k x y w f at_g at_l s =
      elim (either_side g l pair s) [
        | inl e ↦ subst (λ z. HappensTo g l k x y n n' w (f z)) (sym e) at_g
        | inr e ↦ subst (λ z. HappensTo g l k x y n n' w (f z)) (sym e) at_l
      ]

  pub happening_went : IsElecting m t → (g l : Side) → IsPair g l → t.wins g ≡ true → t.wins l ≡ false →
      (w : World P M) (k : Phase) (x y : ℕ) → (q : InPhase m t g l w k x y) → (h : Happening M) →
      is_clean_one h ≡ true → HappensTo g l k x y q.h q.h' w h
  happening_went el g l pair wins loses w k x y q (Starts s) c = at_side g l pair k x y w (λ z. Starts z)
      (start_g m t el g l pair w k x y q) (start_l m t el g l pair w k x y q) s
  happening_went el g l pair wins loses w k x y q (Acks d) c = ack_went el g l pair wins loses w k x y q d
  happening_went el g l pair wins loses w k x y q (Delivers d s) c =
      at_side g l pair k x y w (λ z. Delivers d z) (delivery_g el g l pair wins loses w k x y q d)
      (delivery_l el g l pair wins loses w k x y q d) s
  happening_went el g l pair wins loses w k x y q (Pieces d s n) c =
      at_side g l pair k x y w (λ z. Pieces d z n) (piece_g el g l pair wins loses w k x y q d n)
      (piece_l el g l pair wins loses w k x y q d n) s
  happening_went el g l pair wins loses w k x y q (Stops s z) c = cc
  happening_went el g l pair wins loses w k x y q (TimesOut s) c = cc
  happening_went el g l pair wins loses w k x y q (Ticks s) c = cc
  happening_went el g l pair wins loses w k x y q (Restarts s) c = cc
  happening_went el g l pair wins loses w k x y q (Nacks d) c = cc
  happening_went el g l pair wins loses w k x y q (Loses d i j) c = cc
  happening_went el g l pair wins loses w k x y q (Submits s z) c = cc

  -- what a run in a phase has put in, with the numbers of its CERs
  pub record HasPut (g l : Side) (k : Phase) (x y h h' : ℕ) (put : List (Put M)) : Type 0 where
    pub first : Bool
    pub all : put ≡ put_so_far m t g l k first x y h h'

  pub nothing_put : (g l : Side) (x y h h' : ℕ) → HasPut g l C1 x y h h' []
  nothing_put g l x y h h' = record { first = true; all = refl }

  puts_on : (g l : Side) (k k' : Phase) (x y n n' x' y' h h' : ℕ) (old put : List (Put M)) →
      HasPut g l k x y n n' old → Adds m t g l k k' x y n n' x' y' h h' put →
      HasPut g l k' x' y' h h' (old ++ put)
  puts_on g l k k' x y n n' x' y' h h' old put f a =
      record {
        first = a.first f.first;
        all = ap (λ (ps : List (Put M)). ps ++ put) f.all ∙ a.adds f.first;
      }

  -- what a run has come to, with its steps and the links that it made
  pub record Ended (g l : Side) (n : ℕ) (gs ls : List ℕ) (r : RunEnd P M) : Type 0 where
    pub k : Phase
    pub x : ℕ
    pub y : ℕ
    pub phase : InPhase m t g l r.world k x y
    pub put : HasPut g l k x y phase.h phase.h' r.put
    pub reached : n ≤ depth k
    pub made_g : gs ≡ present (stage_g k) x
    pub made_l : ls ≡ present (stage_l k) y

  abbrev RunsFrom : (g l : Side) → List (Happening M) → Type 0
  RunsFrom g l hs =
      (k : Phase) (x y n : ℕ) (r : RunEnd P M) → (q : InPhase m t g l r.world k x y) →
      HasPut g l k x y q.h q.h' r.put → n ≤ depth k →
      IfSome (run_from m (Some r) hs) (λ z. Ended g l (n + steps_taken m r.world hs)
      (present (stage_g k) x ++ links_made m g r.world hs) (present (stage_l k) y ++ links_made m l r.world hs) z)

  went_on : (g l : Side) (h : Happening M) (hs : List (Happening M)) → RunsFrom g l hs → (k : Phase) (x y n : ℕ)
      (r : RunEnd P M) → (q : InPhase m t g l r.world k x y) → HasPut g l k x y q.h q.h' r.put → n ≤ depth k →
      (after : After P M) (gs ls : List ℕ) → Went m t g l k x y q.h q.h' (cost m r.world h) after gs ls →
      IfSome (run_from m (ran_on r after) hs) (λ z. Ended g l
      (n + (steps_of m r.world h after + steps_taken m (world_after r.world after) hs))
      (present (stage_g k) x ++ (gs ++ links_made m g (world_after r.world after) hs))
      (present (stage_l k) y ++ (ls ++ links_made m l (world_after r.world after) hs)) z)
  went_on g l h hs ih k x y n r q put low after gs ls stays =
      let same : n + steps_taken m r.world hs ≡ n + (0 + steps_taken m r.world hs) = omega arith in
      subst (λ (j : ℕ). IfSome (run_from m (Some r) hs) (λ z. Ended g l j
      (present (stage_g k) x ++ links_made m g r.world hs) (present (stage_l k) y ++ links_made m l r.world hs) z)) same
      (ih k x y n r q put low)
  went_on g l h hs ih k x y n r q put low after gs ls is_lost = tt
  went_on g l h hs ih k x y n r q put low after gs ls
      (moves w more gs0 ls0 k' x' y' q' adds e0 e4 e5) =
      let r' : RunEnd P M = record { world = w; put = r.put ++ more } in
      let has = puts_on g l k k' x y q.h q.h' x' y' q'.h q'.h' r.put more put adds in
      let next = ih k' x' y' (n + cost m r.world h) r' q' has (omega (arith, low, e0)) in
      let same_g : present (stage_g k') x' ++ links_made m g w hs ≡ present (stage_g k) x
      ++ (gs0 ++ links_made m g w hs) =
      ap (λ (ns : List ℕ). ns ++ links_made m g w hs) (sym e4)
      ∙ append_assoc (present (stage_g k) x) gs0 (links_made m g w hs) in
      let same_l : present (stage_l k') y' ++ links_made m l w hs ≡ present (stage_l k) y
      ++ (ls0 ++ links_made m l w hs) =
      ap (λ (ns : List ℕ). ns ++ links_made m l w hs) (sym e5)
      ∙ append_assoc (present (stage_l k) y) ls0 (links_made m l w hs) in
      let same_n : n + cost m r.world h + steps_taken m w hs ≡ n + (cost m r.world h + steps_taken m w hs) =
      omega arith in
      subst (λ (j : ℕ). IfSome (run_from m (Some r') hs) (λ z. Ended g l j
      (present (stage_g k) x ++ (gs0 ++ links_made m g w hs)) (present (stage_l k) y
      ++ (ls0 ++ links_made m l w hs)) z)) same_n
      (subst (λ (ns : List ℕ). IfSome (run_from m (Some r') hs)
      (λ z. Ended g l (n + cost m r.world h + steps_taken m w hs)
      (present (stage_g k) x ++ (gs0 ++ links_made m g w hs)) ns z)) same_l
      (subst (λ (ns : List ℕ). IfSome (run_from m (Some r') hs)
      (λ z. Ended g l (n + cost m r.world h + steps_taken m w hs) ns
      (present (stage_l k') y' ++ links_made m l w hs) z)) same_g next))

  pub runs : IsElecting m t → (g l : Side) → IsPair g l → t.wins g ≡ true → t.wins l ≡ false →
      (hs : List (Happening M)) → is_clean hs ≡ true → RunsFrom g l hs
  runs el g l pair wins loses [] clean k x y n r q put low =
      record {
        k = k;
        x = x;
        y = y;
        phase = q;
        put = put;
        reached = omega (arith, low);
        made_g = append-nil (present (stage_g k) x);
        made_l = append-nil (present (stage_l k) y);
      }
  runs el g l pair wins loses (h ∷ hs) clean k x y n r q put low =
      let parts = and_parts (is_clean_one h) (is_clean hs) clean in
      went_on g l h hs (runs el g l pair wins loses hs parts.1) k x y n r q put low (happens m r.world h)
      (makes g r.world h (happens m r.world h)) (makes l r.world h (happens m r.world h))
      (happening_went el g l pair wins loses r.world k x y q h parts.0)
