-- A piece that ends no message leaves the phase as it is, one that ends its message is the delivery; and what comes to
-- any other link is ignored.
use Rattle.std.proofs.Common.{◌≡◌, ℕ, ◌+◌, ◌==◌, Bool, true, false, ◌&&◌, nat_lt, if◌then◌else◌, Option, Some, None}
use Rattle.std.proofs.Common.{List, [], ◌∷◌, slice_get, refl, sym, ap, subst, ◌∙◌, append-nil, arith}
use Rattle.std.specs.Prelude.{option_map}
use Rattle.std.proofs.lemmas.Bool.{and_parts}
use Rattle.dm_two_peers.specs.Machine.{conn, Node}
use Rattle.dm_two_peers.specs.Links.{Side, opens, LinkPhase, LinkPending, LinkUp, LinkCancelled, End, Mark, NoMark, Coming, Delivered}
use Rattle.dm_two_peers.specs.Links.{Link, View, view_of, link_of, by_side}
use Rattle.dm_two_peers.specs.Peers.{ArrivedEvent, Peers}
use Rattle.dm_two_peers.specs.Worlds.{World, with_links, change_at, After, DoneWith, Ignored}
use Rattle.dm_two_peers.specs.Happens.{NextNothing, next_in, comes, deliver_next, take_part, deliver_part, if_up}
use Rattle.dm_two_peers.specs.Happens.{if_pending, own_view}
use Rattle.dm_two_peers.specs.Quiet.{is_still, is_quiet_link, is_in_part}
use Rattle.dm_two_peers.specs.Electing.{Talks}
use Rattle.dm_two_peers.proofs.Lists.{change_at-tested}
use Rattle.dm_two_peers.proofs.Pairs.{IsPair, mirror, own_by, other_by, Stands, AreAt, not_same}
use Rattle.dm_two_peers.proofs.Stages.{Stage, Unmade, Dialled, Asked, Accepted, Answered, Dropped, Halved, Parted}
use Rattle.dm_two_peers.proofs.Acting.{itself, own_at}
use Rattle.dm_two_peers.proofs.Starting.{same_peers}
use Rattle.dm_two_peers.proofs.Phases.{Phase, node_g, node_l, stage_g, stage_l, present, as_before, put_so_far, Adds}
use Rattle.dm_two_peers.proofs.Phases.{InPhase, Went, stays, moves}
use Rattle.dm_two_peers.proofs.Phasing.{arrives, pieces_in, flip_in, flip_out}

same_map : {X : Type 0} (o : Option X) → option_map (λ x. x) o ≡ o
same_map None = refl
same_map (Some x) = refl

-- what a quiet link has
still_next : {M : Type 0} (ms : List M) (n : ℕ) (mark : Mark) →
    is_still (record { messages = ms; taken = n; mark = mark }) ≡ true → next_in ms mark ≡ NextNothing
still_next [] n NoMark h = refl
still_next [] n Coming h = cc
still_next [] n Delivered h = refl
still_next (x ∷ xs) n mark h = cc

quiet_ways : {M : Type 0} (l : Link M) → is_quiet_link l ≡ true → l.phase ≡ LinkUp →
    (is_still l.to_opener && is_still l.to_other) ≡ true
quiet_ways l h e = subst
    (λ (p : LinkPhase). elim p [ LinkPending ↦ false | _ ↦ is_still l.to_opener && is_still l.to_other ] ≡ true) e h

seen_still : {M : Type 0} (mine : Bool) (l : Link M) → is_still l.to_opener ≡ true → is_still l.to_other ≡ true →
    is_still (view_of mine l).incoming ≡ true
seen_still true l h g = h
seen_still false l h g = g

quiet_next : {M : Type 0} (mine : Bool) (l : Link M) → is_quiet_link l ≡ true → l.phase ≡ LinkUp →
    next_in (view_of mine l).incoming.messages (view_of mine l).incoming.mark ≡ NextNothing
quiet_next mine l h e =
    let parts = and_parts (is_still l.to_opener) (is_still l.to_other) (quiet_ways l h e) in
    let v = view_of mine l in
    still_next v.incoming.messages v.incoming.taken v.incoming.mark (seen_still mine l parts.0 parts.1)

both_ignored : {P M : Type 0} (b : Bool) (after : After P M) → after ≡ Ignored →
    (if b then Ignored else after) ≡ Ignored
both_ignored true after e = refl
both_ignored false after e = e

-- octets delivered of what is under way
pub taken_own : {M : Type 0} (st : Stage) (P C H : Type 0) (m : Peers P M) (t : Talks P M C H) (s o : Side)
    (h i j n : ℕ) → option_map (take_part n) (own_at m t s o st h i j) ≡ own_at m t s o st h (i + n) j
taken_own Unmade P C H m t s o h i j n = refl
taken_own Dialled P C H m t s o h i j n = refl
taken_own Asked P C H m t s o h i j n = refl
taken_own Accepted P C H m t s o h i j n = refl
taken_own Answered P C H m t s o h i j n = refl
taken_own Dropped P C H m t s o h i j n = refl
taken_own Halved P C H m t s o h i j n = refl
taken_own (Parted a b) P C H m t s o h i j n = refl

pub taken_other : {M : Type 0} (st : Stage) (P C H : Type 0) (m : Peers P M) (t : Talks P M C H) (s o : Side)
    (h i j n : ℕ) → option_map (take_part n) (option_map mirror (own_at m t o s st h i j)) ≡ option_map mirror
    (own_at m t o s st h i (j + n))
taken_other Unmade P C H m t s o h i j n = refl
taken_other Dialled P C H m t s o h i j n = refl
taken_other Asked P C H m t s o h i j n = refl
taken_other Accepted P C H m t s o h i j n = refl
taken_other Answered P C H m t s o h i j n = refl
taken_other Dropped P C H m t s o h i j n = refl
taken_other Halved P C H m t s o h i j n = refl
taken_other (Parted a b) P C H m t s o h i j n = refl

-- whether a piece leaves the front message in part, by the view of the link
abbrev pub is_seen_in_part : {M : Type 0} → (M → ℕ) → ℕ → Option (View M) → Bool
is_seen_in_part size n None = false
is_seen_in_part size n (Some z) = is_in_part size n z.incoming

module _ {P M C H : Type 0} (m : Peers P M) (t : Talks P M C H) where
  -- one of the two links is changed
  pub change_own : (s o : Side) → IsPair s o →
      (w : World P M) (x y : ℕ) (u v u1 : Option (View M)) (n n' : Node) (h h' : ℕ) (f : View M → View M) →
      AreAt m t s o w x y u v n n' h h' → option_map f u ≡ u1 →
      AreAt m t s o (with_links (change_at x (by_side s f) w.links) w) x y u1 v n n' h h'
  change_own s o pair w x y u v u1 n n' h h' f a e =
      let links = change_at x (by_side s f) w.links in
      record {
        own = subst (λ q. Stands m t s q n h h') (same_peers s links w) a.own;
        other = subst (λ q. Stands m t o q n' h' h) (same_peers o links w) a.other;
        at_x = change_at-tested x x true (by_side s f) w.links (itself x)
            ∙ (ap (option_map (by_side s f)) a.at_x ∙ (own_by s o pair f u ∙ ap (option_map (link_of true s)) e));
        at_y = change_at-tested x y false (by_side s f) w.links a.apart ∙ (same_map (slice_get w.links y) ∙ a.at_y);
        apart = a.apart;
        others = λ d l at hx hy. a.others d l
            (sym (change_at-tested x d false (by_side s f) w.links hx ∙ same_map (slice_get w.links d)) ∙ at) hx hy;
      }

  pub change_other : (s o : Side) → IsPair s o →
      (w : World P M) (x y : ℕ) (u v v1 : Option (View M)) (n n' : Node) (h h' : ℕ) (f : View M → View M) →
      AreAt m t s o w x y u v n n' h h' → option_map f v ≡ v1 →
      AreAt m t s o (with_links (change_at y (by_side s f) w.links) w) x y u v1 n n' h h'
  change_other s o pair w x y u v v1 n n' h h' f a e =
      let links = change_at y (by_side s f) w.links in
      record {
        own = subst (λ q. Stands m t s q n h h') (same_peers s links w) a.own;
        other = subst (λ q. Stands m t o q n' h' h) (same_peers o links w) a.other;
        at_x = change_at-tested y x false (by_side s f) w.links (not_same x y a.apart)
            ∙ (same_map (slice_get w.links x) ∙ a.at_x);
        at_y = change_at-tested y y true (by_side s f) w.links (itself y)
            ∙ (ap (option_map (by_side s f)) a.at_y
            ∙ (other_by s o pair f v ∙ ap (option_map (link_of false o)) e));
        apart = a.apart;
        others = λ d l at hx hy. a.others d l
            (sym (change_at-tested y d false (by_side s f) w.links hy ∙ same_map (slice_get w.links d)) ∙ at) hx hy;
      }

  abbrev pub take_gg : (g l : Side) → IsPair g l → (w : World P M) (k : Phase) (x y n : ℕ) → InPhase m t g l w k x y →
      InPhase m t g l (with_links (change_at x (by_side g (take_part n)) w.links) w) k x y
  take_gg g l pair w k x y n q =
      record {
        h = q.h;
        h' = q.h';
        i = q.i + n;
        j = q.j;
        i' = q.i';
        j' = q.j';
        at = change_own g l pair w x y (own_at m t g l (stage_g k) q.h q.i q.j)
            (option_map mirror (own_at m t l g (stage_l k) q.h' q.i' q.j'))
            (own_at m t g l (stage_g k) q.h (q.i + n) q.j)
            (node_g k x y) (node_l k x y) q.h q.h' (take_part n) q.at
            (taken_own (stage_g k) P C H m t g l q.h q.i q.j n);
      }

  abbrev pub take_lg : (g l : Side) → IsPair g l → (w : World P M) (k : Phase) (x y n : ℕ) → InPhase m t g l w k x y →
      InPhase m t g l (with_links (change_at y (by_side g (take_part n)) w.links) w) k x y
  take_lg g l pair w k x y n q =
      record {
        h = q.h;
        h' = q.h';
        i = q.i;
        j = q.j;
        i' = q.i';
        j' = q.j' + n;
        at = change_other g l pair w x y (own_at m t g l (stage_g k) q.h q.i q.j)
            (option_map mirror (own_at m t l g (stage_l k) q.h' q.i' q.j'))
            (option_map mirror (own_at m t l g (stage_l k) q.h' q.i' (q.j' + n)))
            (node_g k x y) (node_l k x y) q.h q.h' (take_part n) q.at
            (taken_other (stage_l k) P C H m t g l q.h' q.i' q.j' n);
      }

  abbrev pub take_ll : (g l : Side) → IsPair l g → (w : World P M) (k : Phase) (x y n : ℕ) → InPhase m t g l w k x y →
      InPhase m t g l (with_links (change_at y (by_side l (take_part n)) w.links) w) k x y
  take_ll g l pair w k x y n q =
      flip_out m t g l (with_links (change_at y (by_side l (take_part n)) w.links) w) k x y q.h q.h' q.i q.j
      (q.i' + n) q.j'
      (change_own l g pair w y x (own_at m t l g (stage_l k) q.h' q.i' q.j')
      (option_map mirror (own_at m t g l (stage_g k) q.h q.i q.j))
      (own_at m t l g (stage_l k) q.h' (q.i' + n) q.j')
      (node_l k x y) (node_g k x y) q.h' q.h (take_part n) (flip_in m t g l w k x y q)
      (taken_own (stage_l k) P C H m t l g q.h' q.i' q.j' n))

  abbrev pub take_gl : (g l : Side) → IsPair l g → (w : World P M) (k : Phase) (x y n : ℕ) → InPhase m t g l w k x y →
      InPhase m t g l (with_links (change_at x (by_side l (take_part n)) w.links) w) k x y
  take_gl g l pair w k x y n q =
      flip_out m t g l (with_links (change_at x (by_side l (take_part n)) w.links) w) k x y q.h q.h' q.i
      (q.j + n) q.i' q.j'
      (change_other l g pair w y x (own_at m t l g (stage_l k) q.h' q.i' q.j')
      (option_map mirror (own_at m t g l (stage_g k) q.h q.i q.j))
      (option_map mirror (own_at m t g l (stage_g k) q.h q.i (q.j + n)))
      (node_l k x y) (node_g k x y) q.h' q.h (take_part n) (flip_in m t g l w k x y q)
      (taken_other (stage_g k) P C H m t l g q.h q.i q.j n))

  -- a piece to a side, by the view of the link: it is a step where it ends its message
  abbrev pub PieceWent : (g l : Side) (k : Phase) (x y h h' : ℕ) (w : World P M) (s : Side) (n c : ℕ) →
      Option (View M) → Type 0
  PieceWent g l k x y h h' w s n c u =
      Went m t g l k x y h h' (if is_seen_in_part m.size n u then 0 else 1) (pieces_in m s c n w u) [] []

  none_added : (g l : Side) (k : Phase) (x y h h' : ℕ) → Adds m t g l k k x y h h' x y h h' []
  none_added g l k x y h h' = record {
    first = as_before;
    adds = λ b. append-nil (put_so_far m t g l k b x y h h');
  }

  piece_size : (g l : Side) (k : Phase) (x y : ℕ) (b : Bool) (w1 : World P M) (after : After P M) →
      (q : InPhase m t g l w1 k x y) → Went m t g l k x y q.h q.h' 1 after [] [] →
      Went m t g l k x y q.h q.h' (if b then 0 else 1) (if b then DoneWith w1 [] else after) [] []
  piece_size g l k x y true w1 after q h = moves w1 [] [] [] k x y q (none_added g l k x y q.h q.h')
      (omega arith) (append-nil (present (stage_g k) x)) (append-nil (present (stage_l k) y))
  piece_size g l k x y false w1 after q h = h

  piece_next : (g l : Side) (k : Phase) (x y : ℕ) (s : Side) (c n : ℕ) (w : World P M) (end : End) (taken : ℕ)
      (messages : List M) (mark : Mark) →
      (q : InPhase m t g l (with_links (change_at c (by_side s (take_part n)) w.links) w) k x y) →
      Went m t g l k x y q.h q.h' 1 (deliver_next m c s end (next_in messages mark) w) [] [] →
      Went m t g l k x y q.h q.h'
      (if is_in_part m.size n (record { messages = messages; taken = taken; mark = mark }) then 0 else 1)
      (deliver_part m c s n end taken (next_in messages mark) w) [] []
  piece_next g l k x y s c n w end taken [] NoMark q h = stays
  piece_next g l k x y s c n w end taken [] Coming q h = stays
  piece_next g l k x y s c n w end taken [] Delivered q h = stays
  piece_next g l k x y s c n w end taken (a ∷ more) mark q h =
      piece_size g l k x y (nat_lt (taken + n) (m.size a))
      (with_links (change_at c (by_side s (take_part n)) w.links) w) (comes m s (ArrivedEvent (conn c) a) end w) q h

  piece_none : {h h' : ℕ} (g l : Side) (k : Phase) (x y i : ℕ) (b : Bool) (after : After P M) →
      Went m t g l k x y h h' i after [] [] → Went m t g l k x y h h' i (if b then Ignored else after) [] []
  piece_none g l k x y i true after h = stays
  piece_none g l k x y i false after h = h

  piece_up : {h h' : ℕ} (g l : Side) (k : Phase) (x y i : ℕ) (p : LinkPhase) (one two : After P M) →
      (Went m t g l k x y h h' 1 one [] [] → Went m t g l k x y h h' i two [] []) →
      Went m t g l k x y h h' 1 (if_up p one Ignored) [] [] → Went m t g l k x y h h' i (if_up p two Ignored) [] []
  piece_up g l k x y i LinkUp one two f h = f h
  piece_up g l k x y i LinkPending one two f h = stays
  piece_up g l k x y i LinkCancelled one two f h = stays

  pub pieces_went : (g l : Side) (k : Phase) (x y : ℕ) (s : Side) (c n : ℕ) (w : World P M) (u : Option (View M)) →
      (q : InPhase m t g l (with_links (change_at c (by_side s (take_part n)) w.links) w) k x y) →
      Went m t g l k x y q.h q.h' 1 (arrives m s c w u) [] [] → PieceWent g l k x y q.h q.h' w s n c u
  pieces_went g l k x y s c n w None q h = h
  pieces_went g l k x y s c n w (Some z) q h =
      let nx = next_in z.incoming.messages z.incoming.mark in
      let i = if is_in_part m.size n z.incoming then 0 else 1 in
      piece_up g l k x y i z.phase (deliver_next m c s z.own nx w)
      (if n == 0 then Ignored else deliver_part m c s n z.own z.incoming.taken nx w)
      (λ one. piece_none g l k x y i (n == 0) (deliver_part m c s n z.own z.incoming.taken nx w)
      (piece_next g l k x y s c n w z.own z.incoming.taken z.incoming.messages z.incoming.mark q one)) h

  -- what comes to another link
  quiet_pending : {h h' : ℕ} (g l : Side) (k : Phase) (x y : ℕ) (p : LinkPhase) (b : Bool) (after : After P M) →
      elim p [ LinkPending ↦ false | _ ↦ b ] ≡ true → Went m t g l k x y h h' 1 (if_pending p after Ignored) [] []
  quiet_pending g l k x y LinkPending b after h = cc
  quiet_pending g l k x y LinkUp b after h = stays
  quiet_pending g l k x y LinkCancelled b after h = stays

  pub quiet_ack : {h h' : ℕ} (g l : Side) (k : Phase) (x y : ℕ) (q : Link M) (after : After P M) →
      is_quiet_link q ≡ true → Went m t g l k x y h h' 1 (if_pending q.phase after Ignored) [] []
  quiet_ack g l k x y q after h = quiet_pending g l k x y q.phase (is_still q.to_opener && is_still q.to_other) after h

  quiet_up : {h h' : ℕ} (n : ℕ) (g l : Side) (k : Phase) (x y : ℕ) (p : LinkPhase) (after : After P M) →
      (p ≡ LinkUp → after ≡ Ignored) →
      Went m t g l k x y h h' n (if_up p after Ignored) [] []
  quiet_up {h} {h'} n g l k x y LinkUp after f = subst (λ z. Went m t g l k x y h h' n z [] []) (sym (f refl)) stays
  quiet_up n g l k x y LinkPending after f = stays
  quiet_up n g l k x y LinkCancelled after f = stays

  pub quiet_arrives : {h h' : ℕ} (g l : Side) (k : Phase) (x y : ℕ) (s : Side) (c : ℕ) (w : World P M) (q : Link M) →
      is_quiet_link q ≡ true →
      Went m t g l k x y h h' 1 (let v = own_view s q in if_up q.phase
      (deliver_next m c s v.own (next_in v.incoming.messages v.incoming.mark) w) Ignored) [] []
  quiet_arrives g l k x y s c w q h =
      let v = own_view s q in
      quiet_up 1 g l k x y q.phase (deliver_next m c s v.own (next_in v.incoming.messages v.incoming.mark) w)
      (λ e. ap (λ nx. deliver_next m c s v.own nx w) (quiet_next (opens s q.opener) q h e))

  pub quiet_pieces : {h h' : ℕ} (g l : Side) (k : Phase) (x y i : ℕ) (s : Side) (c n : ℕ) (w : World P M) (q : Link M) →
      is_quiet_link q ≡ true →
      Went m t g l k x y h h' i (let v = own_view s q in if_up q.phase
      (if n == 0 then Ignored else deliver_part m c s n v.own v.incoming.taken
      (next_in v.incoming.messages v.incoming.mark) w) Ignored) [] []
  quiet_pieces g l k x y i s c n w q h =
      let v = own_view s q in
      quiet_up i g l k x y q.phase
      (if n == 0 then Ignored else deliver_part m c s n v.own v.incoming.taken
      (next_in v.incoming.messages v.incoming.mark) w)
      (λ e. both_ignored (n == 0)
      (deliver_part m c s n v.own v.incoming.taken (next_in v.incoming.messages v.incoming.mark) w)
      (ap (λ nx. deliver_part m c s n v.own v.incoming.taken nx w) (quiet_next (opens s q.opener) q h e)))
