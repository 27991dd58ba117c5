-- Lists of messages of which fewer octets are delivered of the front one than it has.
use Rattle.std.proofs.Common.{◌≡◌, ℕ, ◌==◌, Bool, true, false, ◌&&◌, nat_lt, if◌then◌else◌}
use Rattle.std.proofs.Common.{List, [], ◌∷◌, ◌++◌, refl, sym, subst}
use Rattle.std.proofs.lemmas.Bool.{and_parts, and_from, eqb-true}
use Rattle.dm_two_peers.specs.Machine.{LinkConcern, Elsewhere, StartsLink, MakesLink, FailsLink, EndsLink, HeardOnLink}
use Rattle.dm_two_peers.specs.Links.{LinkPhase, LinkPending, LinkUp, LinkCancelled, Mark}
use Rattle.dm_two_peers.specs.Links.{NoMark, Coming, Delivered}
use Rattle.dm_two_peers.specs.Peers.{Action, Send}
use Rattle.dm_two_peers.specs.Peers.{Close, Connect}
use Rattle.dm_two_peers.specs.Peers as peers
use Rattle.dm_two_peers.specs.Steps.{queued}
use Rattle.dm_two_peers.specs.Streams.{are_sized, is_cut, sends_sized}
use Rattle.dm_two_peers.proofs.Columns.{messages_at, taken_at, words_at}

-- lists of messages
sized_append : {M : Type 0} (size : M → ℕ) (xs ys : List M) → are_sized size xs ≡ true → are_sized size ys ≡ true →
    are_sized size (xs ++ ys) ≡ true
sized_append size [] ys h g = g
sized_append size (x ∷ xs) ys h g =
    let parts = and_parts (nat_lt 0 (size x)) (are_sized size xs) h in
    and_from (nat_lt 0 (size x)) (are_sized size (xs ++ ys)) parts.0 (sized_append size xs ys parts.1 g)

cut_append : {M : Type 0} (size : M → ℕ) (xs ys : List M) (n : ℕ) → is_cut size xs n ≡ true →
    are_sized size ys ≡ true → is_cut size (xs ++ ys) n ≡ true
cut_append size [] [] n h g = h
cut_append size [] (y ∷ ys) n h g = subst (λ k. nat_lt k (size y) ≡ true) (sym (eqb-true n 0 h))
    (and_parts (nat_lt 0 (size y)) (are_sized size ys) g).0
cut_append size (x ∷ xs) ys n h g = h

abbrev pub is_way : {M : Type 0} → (M → ℕ) → List M → ℕ → Bool
is_way size ms n = are_sized size ms && is_cut size ms n

way_append : {M : Type 0} (size : M → ℕ) (xs ys : List M) (n : ℕ) → is_way size xs n ≡ true →
    are_sized size ys ≡ true → is_way size (xs ++ ys) n ≡ true
way_append size xs ys n h g =
    let parts = and_parts (are_sized size xs) (is_cut size xs n) h in
    and_from (are_sized size (xs ++ ys)) (is_cut size (xs ++ ys) n) (sized_append size xs ys parts.0 g)
    (cut_append size xs ys n parts.1 g)

way_popped : {M : Type 0} (size : M → ℕ) (ms : List M) (n : ℕ) → is_way size ms n ≡ true →
    is_way size (messages_at HeardOnLink ms) 0 ≡ true
way_popped size [] n h = refl
way_popped size (x ∷ []) n h = refl
way_popped size (x ∷ y ∷ ys) n h =
    let parts = and_parts (are_sized size (x ∷ y ∷ ys)) (nat_lt n (size x)) h in
    let rest = (and_parts (nat_lt 0 (size x)) (are_sized size (y ∷ ys)) parts.0).1 in
    and_from (are_sized size (y ∷ ys)) (nat_lt 0 (size y)) rest
    (and_parts (nat_lt 0 (size y)) (are_sized size ys) rest).0

pub way_at : {M : Type 0} (size : M → ℕ) (k : LinkConcern) (ms : List M) (n : ℕ) → is_way size ms n ≡ true →
    is_way size (messages_at k ms) (taken_at k n) ≡ true
way_at size HeardOnLink ms n h = way_popped size ms n h
way_at size Elsewhere ms n h = h
way_at size StartsLink ms n h = h
way_at size MakesLink ms n h = h
way_at size FailsLink ms n h = h
way_at size EndsLink ms n h = h

pub way_added : {M : Type 0} (size : M → ℕ) (p : LinkPhase) (mark : Mark) (words old : List M) (n : ℕ) →
    is_way size old n ≡ true → are_sized size words ≡ true → is_way size (queued p mark words old) n ≡ true
way_added size LinkUp NoMark words old n h g = way_append size old words n h g
way_added size LinkUp Coming words old n h g = h
way_added size LinkUp Delivered words old n h g = h
way_added size LinkPending mark words old n h g = h
way_added size LinkCancelled mark words old n h g = h

pub sized_if : {M : Type 0} (size : M → ℕ) (b : Bool) (xs ys : List M) → are_sized size xs ≡ true →
    are_sized size ys ≡ true → are_sized size (if b then xs else ys) ≡ true
sized_if size true xs ys h g = h
sized_if size false xs ys h g = g

pub words_sized : {M : Type 0} (size : M → ℕ) (d : ℕ) (actions : List (Action M)) → sends_sized size actions ≡ true →
    are_sized size (words_at d actions) ≡ true
words_sized size d [] h = refl
words_sized size d (Send c x ∷ more) h =
    let parts = and_parts (nat_lt 0 (size x)) (sends_sized size more) h in
    let rest = words_sized size d more parts.1 in
    sized_if size (c.0 == d) (x ∷ words_at d more) (words_at d more)
    (and_from (nat_lt 0 (size x)) (are_sized size (words_at d more)) parts.0 rest) rest
words_sized size d (Close c ∷ more) h = sized_if size (c.0 == d) [] (words_at d more) refl
    (words_sized size d more h)
words_sized size d (Connect c ∷ more) h = words_sized size d more h
words_sized size d (peers.HandUp x ∷ more) h = words_sized size d more h
