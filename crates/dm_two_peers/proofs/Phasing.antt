-- From the steps of one side to the phases.
use Rattle.std.proofs.Common.{◌≡◌, ℕ, ◌+◌, ◌==◌, nat_le, Bool, true, false, if◌then◌else◌, Option, Some, None, List, []}
use Rattle.std.proofs.Common.{◌++◌, refl, sym, ap, subst, ◌∙◌}
use Rattle.std.specs.Prelude.{option_map}
use Rattle.std.proofs.lemmas.Bool.{leb-true}
use Rattle.dm_two_peers.specs.Machine.{conn}
use Rattle.dm_two_peers.specs.Links.{Side, NoMark, Coming, Delivered, View, link_of}
use Rattle.dm_two_peers.specs.Peers.{AckEvent, Peers}
use Rattle.dm_two_peers.specs.Worlds.{World, Put, After, Ignored, NoLink, tell}
use Rattle.dm_two_peers.specs.Happens.{next_in, deliver_next, deliver_part, if_up, if_pending, at_link, own_view}
use Rattle.dm_two_peers.specs.Electing.{Talks}
use Rattle.dm_two_peers.proofs.Pairs.{IsPair, ab, ba, mirror, AreAt, at_flip}
use Rattle.dm_two_peers.proofs.Told.{Goes}
use Rattle.dm_two_peers.proofs.Stages.{Stage, Unmade, Dialled, Asked, Accepted, Answered, Dropped, Halved, Parted}
use Rattle.dm_two_peers.proofs.Acting.{own_at}
use Rattle.dm_two_peers.proofs.Phases.{Phase, node_g, node_l, stage_g, stage_l, depth, present, put_so_far, Adds, InPhase}
use Rattle.dm_two_peers.proofs.Phases.{Went, stays, is_lost, moves}

pub mirror_twice : {M : Type 0} (u : Option (View M)) → option_map mirror (option_map mirror u) ≡ u
mirror_twice None = refl
mirror_twice (Some v) = refl

-- an Ack, a delivery and a piece, by a side's view of the link
abbrev pub acked : {P M : Type 0} → Peers P M → Side → ℕ → World P M → Option (View M) → After P M
acked m s c w None = NoLink
acked m s c w (Some z) = if_pending z.phase (tell m s (AckEvent (conn c)) w) Ignored

abbrev pub arrives : {P M : Type 0} → Peers P M → Side → ℕ → World P M → Option (View M) → After P M
arrives m s c w None = NoLink
arrives m s c w (Some z) = if_up z.phase
    (deliver_next m c s z.own (next_in z.incoming.messages z.incoming.mark) w) Ignored

abbrev pub pieces_in : {P M : Type 0} → Peers P M → Side → ℕ → ℕ → World P M → Option (View M) → After P M
pieces_in m s c n w None = NoLink
pieces_in m s c n w (Some z) =
    if_up z.phase (if n == 0 then Ignored else deliver_part m c s n z.own z.incoming.taken
    (next_in z.incoming.messages z.incoming.mark) w) Ignored

pub acked_own : {P M : Type 0} (m : Peers P M) (s : Side) (c : ℕ) (w : World P M) (u : Option (View M)) →
    at_link (option_map (link_of true s) u)
    (λ l. if_pending l.phase (tell m l.opener (AckEvent (conn c)) w) Ignored) ≡ acked m s c w u
acked_own m s c w None = refl
acked_own m s c w (Some z) = refl

pub arrives_own : {P M : Type 0} (m : Peers P M) (s o : Side) → IsPair s o →
    (c : ℕ) (w : World P M) (u : Option (View M)) →
    at_link (option_map (link_of true s) u)
    (λ l. let v = own_view s l in if_up l.phase
    (deliver_next m c s v.own (next_in v.incoming.messages v.incoming.mark) w) Ignored) ≡ arrives m s c w u
arrives_own m s o ab c w None = refl
arrives_own m s o ab c w (Some z) = refl
arrives_own m s o ba c w None = refl
arrives_own m s o ba c w (Some z) = refl

pub arrives_other : {P M : Type 0} (m : Peers P M) (s o : Side) → IsPair s o →
    (c : ℕ) (w : World P M) (u : Option (View M)) →
    at_link (option_map (link_of false o) u)
    (λ l. let v = own_view s l in if_up l.phase
    (deliver_next m c s v.own (next_in v.incoming.messages v.incoming.mark) w) Ignored) ≡ arrives m s c w u
arrives_other m s o ab c w None = refl
arrives_other m s o ab c w (Some z) = refl
arrives_other m s o ba c w None = refl
arrives_other m s o ba c w (Some z) = refl

-- where nothing is next
abbrev pub is_dialled : Stage → Bool
is_dialled Dialled = true
is_dialled _ = false

abbrev pub idle_in : Stage → Bool
idle_in Answered = false
idle_in (Parted Coming o) = false
idle_in _ = true

abbrev pub idle_out : Stage → Bool
idle_out Asked = false
idle_out Dropped = false
idle_out Halved = false
idle_out (Parted i Coming) = false
idle_out _ = true

module _ {P M C H : Type 0} (m : Peers P M) (t : Talks P M C H) where
  pub idle_ack : {n n' : ℕ} (g l : Side) (k : Phase) (x y : ℕ) (s o : Side) (c : ℕ) (w : World P M) (st : Stage)
      (h i j : ℕ) →
      is_dialled st ≡ false → Went m t g l k x y n n' 1 (acked m s c w (own_at m t s o st h i j)) [] []
  idle_ack g l k x y s o c w Unmade h i j e = is_lost
  idle_ack g l k x y s o c w Dialled h i j e = cc
  idle_ack g l k x y s o c w Asked h i j e = stays
  idle_ack g l k x y s o c w Accepted h i j e = stays
  idle_ack g l k x y s o c w Answered h i j e = stays
  idle_ack g l k x y s o c w Dropped h i j e = stays
  idle_ack g l k x y s o c w Halved h i j e = stays
  idle_ack g l k x y s o c w (Parted a b) h i j e = stays

  pub idle_own : {n n' : ℕ} (g l : Side) (k : Phase) (x y : ℕ) (s o : Side) (c : ℕ) (w : World P M) (st : Stage)
      (h i j : ℕ) →
      idle_in st ≡ true → Went m t g l k x y n n' 1 (arrives m s c w (own_at m t s o st h i j)) [] []
  idle_own g l k x y s o c w Unmade h i j e = is_lost
  idle_own g l k x y s o c w Dialled h i j e = stays
  idle_own g l k x y s o c w Asked h i j e = stays
  idle_own g l k x y s o c w Accepted h i j e = stays
  idle_own g l k x y s o c w Answered h i j e = cc
  idle_own g l k x y s o c w Dropped h i j e = stays
  idle_own g l k x y s o c w Halved h i j e = stays
  idle_own g l k x y s o c w (Parted Coming b) h i j e = cc
  idle_own g l k x y s o c w (Parted NoMark b) h i j e = stays
  idle_own g l k x y s o c w (Parted Delivered b) h i j e = stays

  pub idle_other : {n n' : ℕ} (g l : Side) (k : Phase) (x y : ℕ) (s o : Side) (c : ℕ) (w : World P M) (st : Stage)
      (h i j : ℕ) → idle_out st ≡ true →
      Went m t g l k x y n n' 1 (arrives m s c w (option_map mirror (own_at m t o s st h i j))) [] []
  idle_other g l k x y s o c w Unmade h i j e = is_lost
  idle_other g l k x y s o c w Dialled h i j e = stays
  idle_other g l k x y s o c w Asked h i j e = cc
  idle_other g l k x y s o c w Accepted h i j e = stays
  idle_other g l k x y s o c w Answered h i j e = stays
  idle_other g l k x y s o c w Dropped h i j e = cc
  idle_other g l k x y s o c w Halved h i j e = cc
  idle_other g l k x y s o c w (Parted a Coming) h i j e = cc
  idle_other g l k x y s o c w (Parted NoMark NoMark) h i j e = stays
  idle_other g l k x y s o c w (Parted NoMark Delivered) h i j e = stays
  idle_other g l k x y s o c w (Parted Coming NoMark) h i j e = stays
  idle_other g l k x y s o c w (Parted Coming Delivered) h i j e = stays
  idle_other g l k x y s o c w (Parted Delivered NoMark) h i j e = stays
  idle_other g l k x y s o c w (Parted Delivered Delivered) h i j e = stays

  -- the world as the lesser side sees it
  pub flip_in : (g l : Side) (w : World P M) (k : Phase) (x y : ℕ) → (q : InPhase m t g l w k x y) →
      AreAt m t l g w y x (own_at m t l g (stage_l k) q.h' q.i' q.j')
      (option_map mirror (own_at m t g l (stage_g k) q.h q.i q.j)) (node_l k x y) (node_g k x y) q.h' q.h
  flip_in g l w k x y q =
      subst (λ u. AreAt m t l g w y x u (option_map mirror (own_at m t g l (stage_g k) q.h q.i q.j)) (node_l k x y)
      (node_g k x y) q.h' q.h) (mirror_twice (own_at m t l g (stage_l k) q.h' q.i' q.j'))
      (at_flip m t g l w x y (own_at m t g l (stage_g k) q.h q.i q.j)
      (option_map mirror (own_at m t l g (stage_l k) q.h' q.i' q.j')) (node_g k x y)
      (node_l k x y) q.h q.h' q.at)

  abbrev pub flip_out : (g l : Side) (w : World P M) (k : Phase) (x y h h' i j i' j' : ℕ) →
      AreAt m t l g w y x (own_at m t l g (stage_l k) h' i' j') (option_map mirror (own_at m t g l (stage_g k) h i j))
      (node_l k x y) (node_g k x y) h' h → InPhase m t g l w k x y
  flip_out g l w k x y h h' i j i' j' a =
      record {
        h = h;
        h' = h';
        i = i;
        j = j;
        i' = i';
        j' = j';
        at = subst (λ u. AreAt m t g l w x y u (option_map mirror (own_at m t l g (stage_l k) h' i' j'))
            (node_g k x y) (node_l k x y) h h') (mirror_twice (own_at m t g l (stage_g k) h i j))
            (at_flip m t l g w y x (own_at m t l g (stage_l k) h' i' j')
            (option_map mirror (own_at m t g l (stage_g k) h i j)) (node_l k x y) (node_g k x y) h' h a);
      }

  -- what is put in, shown where the greater side's CER came first and where the other's did
  pub adds_either : (g l : Side) (k k' : Phase) (x y n n' x' y' h h' : ℕ) (puts put : List (Put M))
      (first : Bool → Bool) →
      put ≡ puts → put_so_far m t g l k true x y n n' ++ puts ≡ put_so_far m t g l k' (first true) x' y' h h' →
      put_so_far m t g l k false x y n n' ++ puts ≡ put_so_far m t g l k' (first false) x' y' h h' →
      Adds m t g l k k' x y n n' x' y' h h' put
  adds_either g l k k' x y n n' x' y' h h' puts put first e e1 e2 =
      record {
        first = first;
        adds = λ b.
            ap (λ (qs : List (Put M)). put_so_far m t g l k b x y n n' ++ qs) e
            ∙ elim b as (λ c. put_so_far m t g l k c x y n n' ++ puts ≡ put_so_far m t g l k' (first c) x' y' h h') [
              | true ↦ e1
              | false ↦ e2
            ];
      }

  -- a step of the greater side, and of the other
  pub went_own : {n n' : ℕ} (g l : Side) (k k' : Phase) (x y h h' i j i' j' : ℕ) (first : Bool → Bool)
      (puts : List (Put M)) (after : After P M) →
      Goes m t g l x y (own_at m t g l (stage_g k') h i j)
      (option_map mirror (own_at m t l g (stage_l k') h' i' j')) (node_g k' x y)
      (node_l k' x y) h h' after puts →
      put_so_far m t g l k true x y n n' ++ puts ≡ put_so_far m t g l k' (first true) x y h h' →
      put_so_far m t g l k false x y n n' ++ puts ≡ put_so_far m t g l k' (first false) x y h h' →
      nat_le (depth k + 1) (depth k') ≡ true →
      present (stage_g k) x ++ [] ≡ present (stage_g k') x →
      present (stage_l k) y ++ [] ≡ present (stage_l k') y → Went m t g l k x y n n' 1 after [] []
  went_own {n} {n'} g l k k' x y h h' i j i' j' first puts after s e1 e2 e0 e4 e5 =
      subst (λ z. Went m t g l k x y n n' 1 z [] []) (sym s.is)
      (moves s.world s.put [] [] k' x y
      (record { h = h; h' = h'; i = i; j = j; i' = i'; j' = j'; at = s.at })
      (adds_either g l k k' x y n n' x y h h' puts s.put first s.is_put e1 e2)
      (leb-true (depth k + 1) (depth k') e0) e4 e5)

  pub went_other : {n n' : ℕ} (g l : Side) (k k' : Phase) (x y h h' i j i' j' : ℕ) (first : Bool → Bool)
      (puts : List (Put M)) (after : After P M) →
      Goes m t l g y x (own_at m t l g (stage_l k') h' i' j')
      (option_map mirror (own_at m t g l (stage_g k') h i j)) (node_l k' x y) (node_g k' x y) h' h after puts →
      put_so_far m t g l k true x y n n' ++ puts ≡ put_so_far m t g l k' (first true) x y h h' →
      put_so_far m t g l k false x y n n' ++ puts ≡ put_so_far m t g l k' (first false) x y h h' →
      nat_le (depth k + 1) (depth k') ≡ true →
      present (stage_g k) x ++ [] ≡ present (stage_g k') x →
      present (stage_l k) y ++ [] ≡ present (stage_l k') y → Went m t g l k x y n n' 1 after [] []
  went_other {n} {n'} g l k k' x y h h' i j i' j' first puts after s e1 e2 e0 e4 e5 =
      subst (λ z. Went m t g l k x y n n' 1 z [] []) (sym s.is)
      (moves s.world s.put [] [] k' x y (flip_out g l s.world k' x y h h' i j i' j' s.at)
      (adds_either g l k k' x y n n' x y h h' puts s.put first s.is_put e1 e2)
      (leb-true (depth k + 1) (depth k') e0) e4 e5)
