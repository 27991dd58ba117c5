-- What a clean run comes to.
use Rattle.std.proofs.Common.{◌≡◌, ℕ, suc, ◌+◌, Bool, true, false, if◌then◌else◌, Option, None}
use Rattle.std.proofs.Common.{IfSome, List, [], ◌∷◌, ◌++◌, length, slice_get, refl, sym, ap, subst, ◌∙◌, arith, inl}
use Rattle.std.proofs.Common.{inr, ◌≤◌, ◌⊎◌}
use Rattle.std.specs.Prelude.{option_map}
use Rattle.std.proofs.lemmas.Bool.{ne_eqb}
use Rattle.dm_two_peers.specs.Machine.{Accepted, closed_node}
use Rattle.dm_two_peers.specs.Links.{Side, A, B, NoMark, Coming, Delivered, link_of}
use Rattle.dm_two_peers.specs.Peers.{Peers}
use Rattle.dm_two_peers.specs.Worlds.{World, peer_on, Put}
use Rattle.dm_two_peers.specs.Happens.{Happening, RunEnd}
use Rattle.dm_two_peers.specs.Quiet.{is_quiet_link, is_quiet, links_made, KeptLink, kept_of, kept, steps_taken}
use Rattle.dm_two_peers.specs.Electing.{Talks, IsPeerOf, IsElecting}
use Rattle.dm_two_peers.specs.Settled.{Tally, AtMost, disconnects, AreOpenOnKept, FellQuiet, IsSettledRun}
use Rattle.dm_two_peers.specs.Courses.{IsOnCourse}
use Rattle.dm_two_peers.proofs.Pairs.{IsPair, ab, ba, swapped, Stands}
use Rattle.dm_two_peers.proofs.CleanSteps.{i_open, r_open}
use Rattle.dm_two_peers.proofs.Stages.{Stage, Unmade, Dialled, Asked, Accepted, Answered, Dropped, Halved, Parted}
use Rattle.dm_two_peers.proofs.Acting.{own_at}
use Rattle.dm_two_peers.proofs.Phases.{Phase, C1, stage_g, stage_l, depth, present}
use Rattle.dm_two_peers.proofs.Phases.{InPhase}
use Rattle.dm_two_peers.proofs.Phasing.{flip_in}
use Rattle.dm_two_peers.proofs.Running.{HasPut, Ended}
use Rattle.dm_two_peers.proofs.Matching.{phase_matches}
use Rattle.dm_two_peers.proofs.Tallies.{one_answered, all_counted, few_so_far}
use Rattle.dm_two_peers.proofs.Putting.{by_greater, by_each, one_at_most, is_led, still_to_come, on_course, course_by}
use Rattle.dm_two_peers.proofs.Depths.{all_at, past_end, past_more, still, nine_by, alone_l, alone_g, four_low, Rests, idle}
use Rattle.dm_two_peers.proofs.Depths.{only_g, only_l, both, rests_when_still, opens_as_i, opens_as_r}

module _ {P M C H : Type 0} (m : Peers P M) (t : Talks P M C H) where
  quiet_at : (s o : Side) (w : World P M) (d : ℕ) (st : Stage) (h i j : ℕ) → is_quiet w ≡ true →
      slice_get w.links d ≡ option_map (link_of true s) (own_at m t s o st h i j) → still st ≡ true
  quiet_at s o w d Unmade h i j q e = refl
  quiet_at s o w d Dialled h i j q e = all_at (λ l. is_quiet_link l) w.links d _ q e
  quiet_at s o w d Asked h i j q e = all_at (λ l. is_quiet_link l) w.links d _ q e
  quiet_at s o w d Accepted h i j q e = refl
  quiet_at s o w d Answered h i j q e = all_at (λ l. is_quiet_link l) w.links d _ q e
  quiet_at s o w d Dropped h i j q e = all_at (λ l. is_quiet_link l) w.links d _ q e
  quiet_at s o w d Halved h i j q e = all_at (λ l. is_quiet_link l) w.links d _ q e
  quiet_at s o w d (Parted Coming b) h i j q e = all_at (λ l. is_quiet_link l) w.links d _ q e
  quiet_at s o w d (Parted NoMark Coming) h i j q e = all_at (λ l. is_quiet_link l) w.links d _ q e
  quiet_at s o w d (Parted Delivered Coming) h i j q e = all_at (λ l. is_quiet_link l) w.links d _ q e
  quiet_at s o w d (Parted NoMark NoMark) h i j q e = refl
  quiet_at s o w d (Parted NoMark Delivered) h i j q e = refl
  quiet_at s o w d (Parted Delivered NoMark) h i j q e = refl
  quiet_at s o w d (Parted Delivered Delivered) h i j q e = refl

  pub are_open : (g l : Side) → IsPair g l → (w : World P M) (x : ℕ) → m.node_of (peer_on g w) ≡ i_open x →
      m.node_of (peer_on l w) ≡ r_open x → AreOpenOnKept m w (record { opener = g; link = x })
  are_open g l ab w x e e' =
      record {
        opener = opens_as_i (m.node_of (peer_on g w)) x e;
        other = opens_as_r
            (m.node_of (peer_on l w)) x e';
      }
  are_open g l ba w x e e' =
      record {
        opener = opens_as_i (m.node_of (peer_on g w)) x e;
        other = opens_as_r
            (m.node_of (peer_on l w)) x e';
      }

  -- the link that is kept, by who wins
  pub kept_by : (g l : Side) → IsPair g l → t.wins g ≡ true → t.wins l ≡ false →
      (w : World P M) (hs : List (Happening M)) →
      kept m t.wins w hs ≡ kept_of l (links_made m l w hs) (kept_of g (links_made m g w hs) None)
  kept_by g l ab wins loses w hs = rw wins refl
  kept_by g l ba wins loses w hs = rw loses refl

  -- the counts by sides
  abbrev CountedBy : RunEnd P M → List ℕ → List ℕ → Type 0
  CountedBy r gs ls = Tally t r.put (length gs + length ls) 1 (disconnects gs ls)

  by_sides : (g l : Side) → IsPair g l → (w : World P M) (hs : List (Happening M)) (r : RunEnd P M) (gs ls : List ℕ) →
      links_made m g w hs ≡ gs → links_made m l w hs ≡ ls → CountedBy r gs ls → CountedBy r ls gs →
      CountedBy r (links_made m A w hs) (links_made m B w hs)
  by_sides g l ab w hs r gs ls e e' c c' = subst (λ ns. CountedBy r ns (links_made m B w hs)) (sym e)
      (subst (λ ns. CountedBy r gs ns) (sym e') c)
  by_sides g l ba w hs r gs ls e e' c c' = subst (λ ns. CountedBy r ns (links_made m B w hs)) (sym e')
      (subst (λ ns. CountedBy r ls ns) (sym e) c')

  abbrev QuietlyEnds : (w : World P M) (hs : List (Happening M)) (r : RunEnd P M) → Option KeptLink → Type 0
  QuietlyEnds w hs r o = IfSome o (λ k. FellQuiet m t w hs r k)

  fell : (g l : Side) → IsPair g l →
      (w : World P M) (hs : List (Happening M)) (r : RunEnd P M) (k : Phase) (x y : ℕ) → Rests k →
      (q : InPhase m t g l r.world k x y) → HasPut m t g l k x y q.h q.h' r.put →
      links_made m g w hs ≡ present (stage_g k) x → links_made m l w hs ≡ present (stage_l k) y →
      QuietlyEnds w hs r (kept_of l (present (stage_l k) y) (kept_of g (present (stage_g k) x) None))
  fell g l pair w hs r k x y idle q put e e' = tt
  fell g l pair w hs r k x y only_g q put e e' =
      let tally = subst (λ ps. Tally t ps 1 1 0) (sym put.all) (one_answered m t g l pair x q.h) in
      record {
        opened = are_open g l pair r.world x q.at.own.node q.at.other.node;
        counted =
            by_sides g l pair w hs r (x ∷ []) [] e e' tally tally;
      }
  fell g l pair w hs r k x y only_l q put e e' =
      let tally = subst (λ ps. Tally t ps 1 1 0) (sym put.all) (one_answered m t l g (swapped pair) y q.h') in
      record {
        opened = are_open l g (swapped pair) r.world y q.at.other.node q.at.own.node;
        counted =
            by_sides g l pair w hs r [] (y ∷ []) e e' tally tally;
      }
  fell g l pair w hs r k x y both q put e e' =
      let tally = subst (λ ps. Tally t ps 2 1 2) (sym put.all) (all_counted m t g l pair put.first x y q.h q.h') in
      record {
        opened = are_open l g (swapped pair) r.world y q.at.other.node q.at.own.node;
        counted =
            by_sides g l pair w hs r (x ∷ []) (y ∷ []) e e' tally tally;
      }

  pub by_pair : (g l : Side) → IsPair g l → (w : World P M) (hs : List (Happening M)) →
      (links_made m A w hs ≡ []) ⊎ (links_made m B w hs ≡ []) → (links_made m g w hs ≡ []) ⊎ (links_made m l w hs ≡ [])
  by_pair g l ab w hs h = h
  by_pair g l ba w hs h = elim h [ inl e ↦ inr e | inr e ↦ inl e ]

  four_by : (g l : Side) (w : World P M) (hs : List (Happening M)) (k : Phase) (x y : ℕ) →
      links_made m g w hs ≡ present (stage_g k) x → links_made m l w hs ≡ present (stage_l k) y →
      (links_made m g w hs ≡ []) ⊎ (links_made m l w hs ≡ []) → 0 + steps_taken m w hs ≤ depth k →
      steps_taken m w hs ≤ 4
  four_by g l w hs k x y e e' alone h =
      elim alone [
        | inl none ↦ four_low k (steps_taken m w hs) (alone_l k x (sym e ∙ none)) h
        | inr none ↦ four_low k (steps_taken m w hs) (alone_g k y (sym e' ∙ none)) h
      ]

  rests_at : (g l : Side) (w : World P M) (k : Phase) (x y : ℕ) → InPhase m t g l w k x y → is_quiet w ≡ true →
      Rests k
  rests_at g l w k x y q quiet =
      rests_when_still k (quiet_at g l w x (stage_g k) q.h q.i q.j quiet q.at.at_x)
      (quiet_at l g w y (stage_l k) q.h' q.i' q.j' quiet (flip_in m t g l w k x y q).at_x)

  -- the link that is kept, in the phase that a run ends in
  kept_in : (g l : Side) → IsPair g l → t.wins g ≡ true → t.wins l ≡ false →
      (w : World P M) (hs : List (Happening M)) (r : RunEnd P M) →
      (z : Ended m t g l (0 + steps_taken m w hs) (links_made m g w hs) (links_made m l w hs) r) →
      kept m t.wins w hs ≡ kept_of l (present (stage_l z.k) z.y) (kept_of g (present (stage_g z.k) z.x) None)
  kept_in g l pair wins loses w hs r z =
      kept_by g l pair wins loses w hs
      ∙ (ap (λ ns. kept_of l ns (kept_of g (links_made m g w hs) None)) z.made_l
      ∙ ap (λ ns. kept_of l (present (stage_l z.k) z.y) (kept_of g ns None)) z.made_g)

  -- where a run rests nothing is to come
  none_to_come : (g l : Side) (k : Phase) (b : Bool) (x y h h' : ℕ) → Rests k → still_to_come m t g l k b x y h h' ≡ []
  none_to_come g l k b x y h h' idle = refl
  none_to_come g l k b x y h h' only_g = refl
  none_to_come g l k b x y h h' only_l = refl
  none_to_come g l k b x y h h' both = refl

  on_its_course : (g l : Side) → IsPair g l → t.wins g ≡ true → t.wins l ≡ false →
      (w : World P M) (hs : List (Happening M)) (r : RunEnd P M) →
      Ended m t g l (0 + steps_taken m w hs) (links_made m g w hs) (links_made m l w hs) r → IsOnCourse m t w hs r
  on_its_course g l pair wins loses w hs r z =
      let q = z.phase in
      let b = z.put.first in
      let rest = still_to_come m t g l z.k b z.x z.y q.h q.h' in
      let numbers = by_greater g q.h q.h' in
      let first = if is_led z.k b then g else l in
      let links = by_each g l pair (λ s. links_made m s w hs) (present (stage_g z.k) z.x) (present (stage_l z.k) z.y)
      z.made_g z.made_l in
      record {
        one_each = one_at_most g l pair (λ s. links_made m s w hs) z.k z.x z.y links;
        numbers = numbers;
        first = first;
        to_come = rest;
        put = ap (λ (ps : List (Put M)). ps ++ rest) z.put.all
            ∙ (on_course m t g l pair b z.k z.x z.y q.h q.h'
            ∙ sym (course_by m t numbers first (λ s. links_made m s w hs)
            (by_greater g (present (stage_g z.k) z.x) (present (stage_l z.k) z.y)) (kept m t.wins w hs) _ links
            (kept_in g l pair wins loses w hs r z)));
        ended = λ quiet. none_to_come g l z.k b z.x z.y q.h q.h' (rests_at g l r.world z.k z.x z.y q quiet);
      }

  pub settled : (g l : Side) → IsPair g l → t.wins g ≡ true → t.wins l ≡ false →
      (w : World P M) (hs : List (Happening M)) (r : RunEnd P M) →
      Ended m t g l (0 + steps_taken m w hs) (links_made m g w hs) (links_made m l w hs) r →
      IsSettledRun m t w hs r
  settled g l pair wins loses w hs r z =
      record {
        put = subst (λ ps. AtMost t ps) (sym z.put.all)
            (few_so_far m t g l pair z.k z.put.first z.x z.y z.phase.h z.phase.h');
        course = on_its_course g l pair wins loses w hs r z;
        quiet = λ quiet.
            let rest = rests_at g l r.world z.k z.x z.y z.phase quiet in
            let here = fell g l pair w hs r z.k z.x z.y rest z.phase z.put z.made_g z.made_l in
            subst (λ o. QuietlyEnds w hs r o) (sym (kept_in g l pair wins loses w hs r z)) here;
        matched = phase_matches m t g l pair r.world z.k z.x z.y z.phase;
        nine = nine_by z.k (steps_taken m w hs) z.reached;
        four = λ alone. four_by g l w hs z.k z.x z.y z.made_g z.made_l (by_pair g l pair w hs alone) z.reached;
      }

  -- how it begins
  at_rest : IsElecting m t → (s : Side) (p : P) (h' : ℕ) → IsPeerOf t s p → m.node_of p ≡ closed_node →
      Stands m t s p closed_node (t.next_of p) h'
  at_rest el s p h' is closed =
      record { peer = is; node = closed; awaits = λ b. cc; waits = λ b. cc; number = el.numbers p is.stands }

  pub begins : IsElecting m t → (g l : Side) (w : World P M) → IsPeerOf t g (peer_on g w) →
      IsPeerOf t l (peer_on l w) → m.node_of (peer_on g w) ≡ closed_node → m.node_of (peer_on l w) ≡ closed_node →
      is_quiet w ≡ true →
      InPhase m t g l w C1 (length w.links) (suc (length w.links))
  begins el g l w is is' closed closed' quiet =
      record {
        h = t.next_of (peer_on g w);
        h' = t.next_of (peer_on l w);
        i = 0;
        j = 0;
        i' = 0;
        j' = 0;
        at = record {
          own = at_rest el g (peer_on g w) (t.next_of (peer_on l w)) is closed;
          other = at_rest el l (peer_on l w) (t.next_of (peer_on g w)) is' closed';
          at_x = past_end w.links;
          at_y = past_more w.links;
          apart = ne_eqb _ _ (λ e. absurd (omega (arith, e)));
          others = λ d q at hx hy. all_at (λ z. is_quiet_link z) w.links d q quiet at;
        };
      }
