-- Views and links of which fewer octets are delivered of a front message than it has.
use Rattle.std.proofs.Common.{◌≡◌, ℕ, ◌+◌, ◌-◌, Bool, true, false, nat_lt, nat_le, if◌then◌else◌}
use Rattle.std.proofs.Common.{List, [], ◌∷◌, refl, sym, subst}
use Rattle.std.proofs.lemmas.Bool.{and_parts, and_from}
use Rattle.dm_two_peers.specs.Machine.{LinkConcern}
use Rattle.dm_two_peers.specs.Links.{Side, flip, opens, LinkPhase, LinkPending, LinkUp, LinkCancelled, Mark}
use Rattle.dm_two_peers.specs.Links.{NoMark, Coming, Delivered, Link, View, view_of, link_of, by_side}
use Rattle.dm_two_peers.specs.Peers.{Action}
use Rattle.dm_two_peers.specs.Steps.{entered, with_close}
use Rattle.dm_two_peers.specs.Happens.{take_part, whole_in, taken_of, lost_messages, lost}
use Rattle.dm_two_peers.specs.Happens.{lost_link, kept_at, restarted}
use Rattle.dm_two_peers.specs.Streams.{are_sized, is_cut, is_cut_way, is_cut_link, sends_sized}
use Rattle.dm_two_peers.proofs.Columns.{entered_by_columns, summed, acted, words_at, is_closed_at}
use Rattle.dm_two_peers.proofs.Columns.{stepped}
use Rattle.dm_two_peers.proofs.Views.{acted_summed, shut_is_summed}
use Rattle.dm_two_peers.proofs.CutLists.{is_way, way_at, way_added, sized_if, words_sized}

-- views and links
pub record CutView {M : Type 0} (size : M → ℕ) (v : View M) : Type 0 where
  pub incoming : is_way size v.incoming.messages v.incoming.taken ≡ true
  pub outgoing : is_way size v.outgoing.messages v.outgoing.taken ≡ true

pub view_cut : {M : Type 0} (size : M → ℕ) (mine : Bool) (l : Link M) → is_cut_link size l ≡ true →
    CutView size (view_of mine l)
view_cut size true l h =
    let parts = and_parts (is_cut_way size l.to_opener) (is_cut_way size l.to_other) h in
    record { incoming = parts.0; outgoing = parts.1 }
view_cut size false l h =
    let parts = and_parts (is_cut_way size l.to_opener) (is_cut_way size l.to_other) h in
    record { incoming = parts.1; outgoing = parts.0 }

pub link_cut : {M : Type 0} (size : M → ℕ) (mine : Bool) (s : Side) (v : View M) → CutView size v →
    is_cut_link size (link_of mine s v) ≡ true
link_cut size true s v h = and_from (is_way size v.incoming.messages v.incoming.taken)
    (is_way size v.outgoing.messages v.outgoing.taken) h.incoming h.outgoing
link_cut size false s v h = and_from (is_way size v.outgoing.messages v.outgoing.taken)
    (is_way size v.incoming.messages v.incoming.taken) h.outgoing h.incoming

pub side_cut : {M : Type 0} (size : M → ℕ) (s : Side) (f : View M → View M) (l : Link M) →
    ((v : View M) → CutView size v → CutView size (f v)) → is_cut_link size l ≡ true →
    is_cut_link size (by_side s f l) ≡ true
side_cut size s f l keeps h =
    let mine = opens s l.opener in link_cut size mine l.opener (f (view_of mine l))
    (keeps (view_of mine l) (view_cut size mine l h))

pub entered_cut : {M : Type 0} (size : M → ℕ) (k : LinkConcern) (v : View M) → CutView size v → CutView size (entered k v)
entered_cut size k v h = subst (λ u. CutView size u) (sym (entered_by_columns k v))
    record { incoming = way_at size k v.incoming.messages v.incoming.taken h.incoming; outgoing = h.outgoing }

summed_cut : {M : Type 0} (size : M → ℕ) (closed : Bool) (words : List M) (v : View M) →
    are_sized size words ≡ true → CutView size v → CutView size (summed closed words v)
summed_cut size closed words v g h =
    record {
      incoming = h.incoming;
      outgoing =
          way_added size v.phase v.outgoing.mark words v.outgoing.messages v.outgoing.taken h.outgoing g;
    }

pub acted_cut : {M : Type 0} (size : M → ℕ) (d : ℕ) (actions : List (Action M)) (v : View M) →
    sends_sized size actions ≡ true → CutView size v → CutView size (acted d actions v)
acted_cut size d actions v g h = subst (λ u. CutView size u) (sym (acted_summed d actions v))
    (summed_cut size (is_closed_at d actions) (words_at d actions) v (words_sized size d actions g) h)

pub stepped_cut : {M : Type 0} (size : M → ℕ) (k : LinkConcern) (b : Bool) (d : ℕ) (actions : List (Action M))
    (v : View M) → sends_sized size actions ≡ true → CutView size v → CutView size (stepped k b d actions v)
stepped_cut size k b d actions v g h =
    let after = acted_cut size d actions (entered k v) g (entered_cut size k v h) in
    record { incoming = after.incoming; outgoing = after.outgoing }

pub taking_cut : {M : Type 0} (size : M → ℕ) (k : ℕ) (v : View M) (x : M) (xs : List M) →
    v.incoming.messages ≡ x ∷ xs → nat_lt (v.incoming.taken + k) (size x) ≡ true → CutView size v →
    CutView size (take_part k v)
taking_cut size k v x xs e low h =
    let parts = and_parts (are_sized size v.incoming.messages)
    (is_cut size v.incoming.messages v.incoming.taken) h.incoming in
    record {
      incoming = and_from (are_sized size v.incoming.messages)
          (is_cut size v.incoming.messages (v.incoming.taken + k)) parts.0
          (subst (λ ms. is_cut size ms (v.incoming.taken + k) ≡ true) (sym e) low);
      outgoing = h.outgoing;
    }

-- a loss
cut_if : {M : Type 0} (size : M → ℕ) (b : Bool) (x : M) (kept : List M) (n : ℕ) → nat_lt n (size x) ≡ true →
    is_cut size (if b then x ∷ kept else []) (taken_of (if b then x ∷ kept else []) n) ≡ true
cut_if size true x kept n h = h
cut_if size false x kept n h = refl

kept_sized : {M : Type 0} (size : M → ℕ) (k : ℕ) (ms : List M) → are_sized size ms ≡ true →
    are_sized size (whole_in size k ms) ≡ true
kept_sized size k [] h = refl
kept_sized size k (x ∷ xs) h =
    let parts = and_parts (nat_lt 0 (size x)) (are_sized size xs) h in
    sized_if size (nat_le (size x) k) (x ∷ whole_in size (k - size x) xs) []
    (and_from (nat_lt 0 (size x)) (are_sized size (whole_in size (k - size x) xs)) parts.0
    (kept_sized size (k - size x) xs parts.1)) refl

kept_cut : {M : Type 0} (size : M → ℕ) (k n : ℕ) (ms : List M) → is_cut size ms n ≡ true →
    is_cut size (whole_in size k ms) (taken_of (whole_in size k ms) n) ≡ true
kept_cut size k n [] h = refl
kept_cut size k n (x ∷ xs) h = cut_if size (nat_le (size x) k) x (whole_in size (k - size x) xs) n h

kept_way : {M : Type 0} (size : M → ℕ) (k n : ℕ) (ms : List M) → is_way size ms n ≡ true →
    is_way size (whole_in size k ms) (taken_of (whole_in size k ms) n) ≡ true
kept_way size k n ms h =
    let parts = and_parts (are_sized size ms) (is_cut size ms n) h in
    and_from (are_sized size (whole_in size k ms))
    (is_cut size (whole_in size k ms) (taken_of (whole_in size k ms) n)) (kept_sized size k ms parts.0)
    (kept_cut size k n ms parts.1)

same_cut : {M : Type 0} (size : M → ℕ) (ms : List M) (n : ℕ) → is_cut size ms n ≡ true →
    is_cut size ms (taken_of ms n) ≡ true
same_cut size [] n h = refl
same_cut size (x ∷ xs) n h = h

same_way : {M : Type 0} (size : M → ℕ) (ms : List M) (n : ℕ) → is_way size ms n ≡ true →
    is_way size ms (taken_of ms n) ≡ true
same_way size ms n h =
    let parts = and_parts (are_sized size ms) (is_cut size ms n) h in and_from (are_sized size ms)
    (is_cut size ms (taken_of ms n)) parts.0 (same_cut size ms n parts.1)

lost_at : {M : Type 0} (size : M → ℕ) (k n : ℕ) (ms : List M) (mark : Mark) → is_way size ms n ≡ true →
    is_way size (lost_messages mark (whole_in size k ms) ms)
    (taken_of (lost_messages mark (whole_in size k ms) ms) n) ≡ true
lost_at size k n ms NoMark h = kept_way size k n ms h
lost_at size k n ms Coming h = kept_way size k n ms h
lost_at size k n ms Delivered h = same_way size ms n h

pub lost_cut : {M : Type 0} (size : M → ℕ) (a b : ℕ) (l : Link M) → is_cut_link size l ≡ true →
    is_cut_link size (lost_link size a b l) ≡ true
lost_cut size a b l h =
    let parts = and_parts (is_cut_way size l.to_opener) (is_cut_way size l.to_other) h in
    let kept_to_opener = kept_at l.opener a b + l.to_opener.taken in
    let kept_to_other = kept_at (flip l.opener) a b + l.to_other.taken in
    let to_opener = lost size (kept_at l.opener a b) l.to_opener in
    let to_other = lost size (kept_at (flip l.opener) a b) l.to_other in
    and_from (is_cut_way size to_opener) (is_cut_way size to_other)
    (lost_at size kept_to_opener l.to_opener.taken l.to_opener.messages l.to_opener.mark parts.0)
    (lost_at size kept_to_other l.to_other.taken l.to_other.messages l.to_other.mark parts.1)

shut_cut : {M : Type 0} (size : M → ℕ) (v : View M) → CutView size v → CutView size (with_close v)
shut_cut size v h = subst (λ u. CutView size u) (sym (shut_is_summed v)) (summed_cut size true [] v refl h)

-- a restart
restarted_by : {M : Type 0} (size : M → ℕ) (mine : Bool) (p : LinkPhase) (v : View M) → CutView size v →
    CutView size (elim p [ LinkPending ↦ elim mine [ true ↦ with_close v | false ↦ v ] | _ ↦ with_close v ])
restarted_by size true LinkPending v h = shut_cut size v h
restarted_by size false LinkPending v h = h
restarted_by size mine LinkUp v h = shut_cut size v h
restarted_by size mine LinkCancelled v h = shut_cut size v h

pub restarted_cut : {M : Type 0} (size : M → ℕ) (mine : Bool) (v : View M) → CutView size v →
    CutView size (restarted mine v)
restarted_cut size mine v h = restarted_by size mine v.phase v h
