-- Losses and pieces keep it.
use Rattle.std.proofs.Common.{◌≡◌, ℕ, ◌+◌, ◌==◌, Bool, true, false, if◌then◌else◌, nat_le, ◌-◌, List, [], ◌∷◌, ◌++◌}
use Rattle.std.proofs.Common.{refl, sym, ap, subst, ◌∙◌, append-nil, append_assoc}
use Rattle.dm_two_peers.specs.Links.{Side, A, B, flip, opens, LinkPhase, End, Mark, NoMark, Coming, Delivered, Link}
use Rattle.dm_two_peers.specs.Links.{view_of, by_side}
use Rattle.dm_two_peers.specs.Peers.{Peers}
use Rattle.dm_two_peers.specs.Steps.{marked}
use Rattle.dm_two_peers.specs.Worlds.{World, peer_on, with_links, change_at, DoneWith}
use Rattle.dm_two_peers.specs.Happens.{take_part, lost_link, lost_messages, whole_in, kept_at, own_view}
use Rattle.dm_two_peers.specs.Delivery.{apps}
use Rattle.dm_two_peers.proofs.Closing.{CarriesOn}
use Rattle.dm_two_peers.proofs.Lists.{change_at-tested}
use Rattle.dm_two_peers.proofs.Ways.{Way, apps_append}
use Rattle.dm_two_peers.proofs.Mirrors.{view_other, view_own}
use Rattle.dm_two_peers.proofs.Carried.{WayOnView, over_of}
use Rattle.dm_two_peers.proofs.CarriedTold.{Keeps, kept_if, mapped_keeps}

module _ {P M : Type 0} (m : Peers P M) (is_app : M → Bool) (stands : P → Bool) (carries : CarriesOn m is_app stands)
    (lost : Bool) where
  -- a loss
  kept_front : (size : M → ℕ) (k : ℕ) (ms : List M) → (rest : List M) × (ms ≡ whole_in size k ms ++ rest)
  kept_front size k [] = ([], refl)
  kept_front size k (x ∷ xs) = by_test (nat_le (size x) k) (kept_front size (k - size x) xs)
    where
      by_test : (b : Bool) → (rest : List M) × (xs ≡ whole_in size (k - size x) xs ++ rest) →
          (rest : List M) × (x ∷ xs ≡ (if b then x ∷ whole_in size (k - size x) xs else []) ++ rest)
      by_test true p = (p.0, ap (λ ys. x ∷ ys) p.1)
      by_test false p = (x ∷ xs, refl)

  lost_front : (size : M → ℕ) (k : ℕ) (mark : Mark) (ms : List M) →
      (rest : List M) × (ms ≡ lost_messages mark (whole_in size k ms) ms ++ rest)
  lost_front size k NoMark ms = kept_front size k ms
  lost_front size k Coming ms = kept_front size k ms
  lost_front size k Delivered ms = ([], sym (append-nil ms))

  not_unmarked : (mark : Mark) → marked mark ≡ NoMark → ⊥
  not_unmarked NoMark h = cc
  not_unmarked Coming h = cc
  not_unmarked Delivered h = cc

  way_lost : (p : LinkPhase) (own other : End) (ms kept rest : List M) (mark : Mark) (over : Bool) (said up : List M) →
      lost ≡ true → ms ≡ kept ++ rest → Way is_app lost p own other ms mark over said up →
      Way is_app lost p own other kept (marked mark) over said up
  way_lost p own other ms kept rest mark over said up is split way =
      record {
        rest = way.rest;
        whole = way.whole;
        under = λ h.
            let u = way.under h in
            record {
              tail = apps is_app rest ++ u.tail;
              is = u.is ∙ (ap (λ xs. apps is_app xs ++ u.tail) split
                  ∙ (ap (λ xs. xs ++ u.tail) (apps_append is_app kept rest)
                  ∙ append_assoc (apps is_app kept) (apps is_app rest) u.tail));
              unmarked = λ n. absurd (not_unmarked mark n);
              sure = λ l. cc;
            };
        marks = λ l h. cc;
      }

  lost_view : (a b : ℕ) (mine : Bool) (l : Link M) (over : Bool) (said up : List M) → lost ≡ true →
      WayOnView is_app lost over (view_of mine l) said up →
      WayOnView is_app lost over (view_of mine (lost_link m.size a b l)) said up
  lost_view a b true l over said up is way =
      let d = l.to_opener in
      let f = lost_front m.size (kept_at l.opener a b + d.taken) d.mark d.messages in
      way_lost l.phase l.opener_end l.other_end d.messages
      (lost_messages d.mark (whole_in m.size (kept_at l.opener a b + d.taken) d.messages) d.messages) f.0 d.mark over
      said
      up is f.1 way
  lost_view a b false l over said up is way =
      let d = l.to_other in
      let f = lost_front m.size (kept_at (flip l.opener) a b + d.taken) d.mark d.messages in
      way_lost l.phase l.other_end l.opener_end d.messages
      (lost_messages d.mark (whole_in m.size (kept_at (flip l.opener) a b + d.taken) d.messages) d.messages) f.0 d.mark
      over said up is f.1 way

  pub loss_keeps : (t : Side) (c : ℕ) (w : World P M) (d a b : ℕ) → ((d == c) ≡ true → lost ≡ true) →
      Keeps m is_app stands carries lost w t c (DoneWith (with_links (change_at d (lost_link m.size a b) w.links) w) []) []
  loss_keeps t c w d a b is =
      mapped_keeps m is_app stands carries lost t c w (λ l. if d == c then lost_link m.size a b l else l)
      (change_at d (lost_link m.size a b) w.links)
      (change_at-tested d c (d == c) (lost_link m.size a b) w.links refl)
      (λ l said up at way. kept_if m is_app stands carries lost t (d == c) (lost_link m.size a b) l
      (over_of (m.node_of (peer_on t w)) c) said up
      (λ named. lost_view a b (opens t l.opener) l (over_of (m.node_of (peer_on t w)) c) said up (is named) way) way)

  -- a part of a message
  taken_view : (t s : Side) (k : ℕ) (l : Link M) (over : Bool) (said up : List M) →
      WayOnView is_app lost over (own_view t l) said up → WayOnView is_app lost over
      (own_view t (by_side s (take_part k) l))
      said up
  taken_view A A k l over said up way = subst (λ v. WayOnView is_app lost over v said up)
      (sym (view_own A (take_part k) l))
      way
  taken_view B B k l over said up way = subst (λ v. WayOnView is_app lost over v said up)
      (sym (view_own B (take_part k) l))
      way
  taken_view A B k l over said up way = subst (λ v. WayOnView is_app lost over v said up)
      (sym (view_other A (take_part k) l)) way
  taken_view B A k l over said up way = subst (λ v. WayOnView is_app lost over v said up)
      (sym (view_other B (take_part k) l)) way

  pub part_keeps : (t s : Side) (c : ℕ) (w : World P M) (d k : ℕ) →
      Keeps m is_app stands carries lost w t c (DoneWith (with_links (change_at d (by_side s (take_part k)) w.links) w) [])
      []
  part_keeps t s c w d k =
      mapped_keeps m is_app stands carries lost t c w (λ l. if d == c then by_side s (take_part k) l else l)
      (change_at d (by_side s (take_part k)) w.links)
      (change_at-tested d c (d == c) (by_side s (take_part k)) w.links refl)
      (λ l said up at way. kept_if m is_app stands carries lost t (d == c) (by_side s (take_part k)) l
      (over_of (m.node_of (peer_on t w)) c) said up
      (λ named. taken_view t s k l (over_of (m.node_of (peer_on t w)) c) said up way) way)
