-- The same chunks in another order give the same messages.
use Rattle.std.proofs.Common.{◌≡◌, ◌≢◌, ℕ, zero, suc, eqb, Bool, true, false, Option, None, Some, List, [], ◌∷◌, map, slice_get, refl, sym, ◌∙◌, ap, subst, arith, IsPermutation}
use Rattle.std.proofs.lemmas.Bool.{eqb-true}
use Rattle.std.proofs.lemmas.List.Sorted.{IsPermutation-refl, IsPermutation-sym, IsPermutation-cons, IsPermutation-map, IsPermutation-trans, IsPermutation-middle}
use Rattle.dm_flows.specs.Sctps.{SeenData}
use Rattle.dm_association.specs.Reassembly.{NumberedChunk, chunk_numbered, marks_read, octets_read, marks_numbered, octets_numbered, NumberedMessage, message_numbered, IsAmongMessages, IsAmongChunks, AgreeOnChunks, OrderOfChunksChangesNothing}
use Rattle.dm_association.proofs.ChunkLists.{map_same, same_message, same_octets}
use Rattle.dm_association.proofs.MessageRuns.{same}
use Rattle.dm_association.proofs.TsnLists.{chosen_yes, chosen_no}

-- a list with a place left out, and where its places stand in the whole
abbrev without : List NumberedMessage → ℕ → List NumberedMessage
without [] i = []
without (y ∷ ms) zero = ms
without (y ∷ ms) (suc i) = y ∷ without ms i

abbrev beside : ℕ → ℕ → ℕ
beside zero j = suc j
beside (suc i) zero = zero
beside (suc i) (suc j) = suc (beside i j)

get_beside : (ms : List NumberedMessage) (i j : ℕ) → slice_get (without ms i) j ≡ slice_get ms (beside i j)
get_beside [] i j = refl
get_beside (y ∷ ms) zero j = refl
get_beside (y ∷ ms) (suc i) zero = refl
get_beside (y ∷ ms) (suc i) (suc j) = get_beside ms i j

not_there : (i j : ℕ) → beside i j ≡ i → ⊥
not_there zero j e = omega (arith, e)
not_there (suc i) zero e = omega (arith, e)
not_there (suc i) (suc j) e = not_there i j (omega (arith, e))

one_place : (i a b : ℕ) → beside i a ≡ beside i b → a ≡ b
one_place zero a b e = omega (arith, e)
one_place (suc i) zero zero e = refl
one_place (suc i) zero (suc b) e = absurd (omega (arith, e))
one_place (suc i) (suc a) zero e = absurd (omega (arith, e))
one_place (suc i) (suc a) (suc b) e = ap suc (one_place i a b (omega (arith, e)))

each_place : (i k : ℕ) → k ≢ i → (j : ℕ) × (beside i j ≡ k)
each_place zero zero h = absurd (h refl)
each_place zero (suc k) h = (k, refl)
each_place (suc i) zero h = (zero, refl)
each_place (suc i) (suc k) h =
    let there = each_place i k (λ e. h (ap suc e)) in (suc there.0, ap suc there.1)

only_one : (x y : NumberedMessage) → Some x ≡ Some y → x ≡ y
only_one x y e = cc

taken_out : (ms : List NumberedMessage) (i : ℕ) (x : NumberedMessage) → slice_get ms i ≡ Some x →
    IsPermutation ms (x ∷ without ms i)
taken_out [] i x e = cc
taken_out (y ∷ ms) zero x e =
    let P : NumberedMessage → Type 0 = λ z. IsPermutation (y ∷ ms) (z ∷ ms) in
    subst P (only_one y x e) (IsPermutation-refl (y ∷ ms))
taken_out (y ∷ ms) (suc i) x e =
    IsPermutation-trans (y ∷ ms) (y ∷ (x ∷ without ms i)) (x ∷ (y ∷ without ms i))
    (IsPermutation-cons y ms (x ∷ without ms i) (taken_out ms i x e))
    (IsPermutation-middle (y ∷ []) x (without ms i))

-- two lists that have the same messages, each once, are one another in another order
abbrev AreOnce : List NumberedMessage → Type 0
AreOnce ms = (i j : ℕ) (m : NumberedMessage) → slice_get ms i ≡ Some m → slice_get ms j ≡ Some m → i ≡ j

rest_once : (x : NumberedMessage) (ms : List NumberedMessage) → AreOnce (x ∷ ms) → AreOnce ms
rest_once x ms once i j m here there = let e = once (suc i) (suc j) m here there in omega (arith, e)

without_once : (ms : List NumberedMessage) (i : ℕ) → AreOnce ms → AreOnce (without ms i)
without_once ms i once a b m here there =
    one_place i a b
    (once (beside i a) (beside i b) m (sym (get_beside ms i a) ∙ here) (sym (get_beside ms i b) ∙ there))

among_rest : (x : NumberedMessage) (xs ys : List NumberedMessage) (i : ℕ) → AreOnce (x ∷ xs) →
    slice_get ys i ≡ Some x → ((m : NumberedMessage) → IsAmongMessages (x ∷ xs) m → IsAmongMessages ys m) →
    (m : NumberedMessage) → IsAmongMessages xs m → IsAmongMessages (without ys i) m
among_rest x xs ys i once at to m among =
    let there = to m (suc among.0, among.1) in
    let away : there.0 ≢ i = λ e.
    let here : Some x ≡ Some m = sym at ∙ ap (λ k. slice_get ys k) (sym e) ∙ there.1 in
    let first = once zero (suc among.0) m here among.1 in
    omega (arith, first) in
    let place = each_place i there.0 away in
    (place.0, get_beside ys i place.0 ∙ ap (λ k. slice_get ys k) place.1 ∙ there.1)

among_back : (x : NumberedMessage) (xs ys : List NumberedMessage) (i : ℕ) → AreOnce ys → slice_get ys i ≡ Some x →
    (m : NumberedMessage) (j : ℕ) → slice_get (without ys i) j ≡ Some m → (k : ℕ) →
    slice_get (x ∷ xs) k ≡ Some m → IsAmongMessages xs m
among_back x xs ys i once at m j e zero is =
    absurd (not_there i j (once (beside i j) i m (sym (get_beside ys i j) ∙ e) (at ∙ is)))
among_back x xs ys i once at m j e (suc k) is = (k, is)

in_another_order : (xs ys : List NumberedMessage) → AreOnce xs → AreOnce ys →
    ((m : NumberedMessage) → IsAmongMessages xs m → IsAmongMessages ys m) →
    ((m : NumberedMessage) → IsAmongMessages ys m → IsAmongMessages xs m) → IsPermutation xs ys
in_another_order [] [] once other to from = IsPermutation-refl []
in_another_order [] (y ∷ ys) once other to from = absurd (nothing (from y (0, refl)))
  where
    nothing : IsAmongMessages [] y → ⊥
    nothing among = let e = among.1 in cc
in_another_order (x ∷ xs) ys once other to from =
    let at = to x (0, refl) in
    let rest = in_another_order xs (without ys at.0) (rest_once x xs once) (without_once ys at.0 other)
    (among_rest x xs ys at.0 once at.1 to)
    (λ m among.
    let whole = from m (beside at.0 among.0, sym (get_beside ys at.0 among.0) ∙ among.1) in
    among_back x xs ys at.0 other at.1 m among.0 among.1 whole.0 whole.1) in
    IsPermutation-trans (x ∷ xs) (x ∷ without ys at.0) ys (IsPermutation-cons x xs (without ys at.0) rest)
    (IsPermutation-sym ys (x ∷ without ys at.0) (taken_out ys at.0 x at.1))

-- a chunk that is found by its number is among those that came, and of those that came one is found
abbrev numbered : ℕ → SeenData → NumberedChunk
numbered k chunk = record { number = k; chunk = chunk }

one_chunk : (a b : SeenData) → Some a ≡ Some b → a ≡ b
one_chunk a b e = cc

found_by : (one : NumberedChunk) (arrivals : List NumberedChunk) (k : ℕ) (chunk : SeenData) (b : Bool) →
    b ≡ eqb one.number k →
    (chunk_numbered arrivals k ≡ Some chunk → IsAmongChunks arrivals (numbered k chunk)) →
    chunk_numbered (one ∷ arrivals) k ≡ Some chunk → IsAmongChunks (one ∷ arrivals) (numbered k chunk)
found_by one arrivals k chunk true is h e =
    let same_chunk = one_chunk one.chunk chunk
    (sym (chosen_yes (eqb one.number k) (Some one.chunk) (chunk_numbered arrivals k) (sym is)) ∙ e) in
    let same_number = eqb-true one.number k (sym is) in
    (0, ap (λ n. Some (numbered n one.chunk)) same_number ∙ ap (λ d. Some (numbered k d)) same_chunk)
found_by one arrivals k chunk false is h e =
    let there = h (sym (chosen_no (eqb one.number k) (Some one.chunk) (chunk_numbered arrivals k) (sym is)) ∙ e) in
    (suc there.0, there.1)

found_among : (arrivals : List NumberedChunk) (k : ℕ) (chunk : SeenData) → chunk_numbered arrivals k ≡ Some chunk →
    IsAmongChunks arrivals (numbered k chunk)
found_among [] k chunk e = cc
found_among (one ∷ arrivals) k chunk e =
    found_by one arrivals k chunk (eqb one.number k) refl (found_among arrivals k chunk) e

some_by : (one : NumberedChunk) (arrivals : List NumberedChunk) (k : ℕ) (b : Bool) → b ≡ eqb one.number k →
    (chunk_numbered arrivals k ≡ None → ⊥) → chunk_numbered (one ∷ arrivals) k ≡ None → ⊥
some_by one arrivals k true is h e =
    clash (sym (chosen_yes (eqb one.number k) (Some one.chunk) (chunk_numbered arrivals k) (sym is)) ∙ e)
  where
    clash : Some one.chunk ≡ None → ⊥
    clash f = cc
some_by one arrivals k false is h e =
    h (sym (chosen_no (eqb one.number k) (Some one.chunk) (chunk_numbered arrivals k) (sym is)) ∙ e)

first_found : (one : NumberedChunk) (arrivals : List NumberedChunk) → chunk_numbered (one ∷ arrivals) one.number ≡ None → ⊥
first_found one arrivals e =
    clash (sym (chosen_yes (eqb one.number one.number) (Some one.chunk) (chunk_numbered arrivals one.number)
    (same one.number one.number refl)) ∙ e)
  where
    clash : Some one.chunk ≡ None → ⊥
    clash f = cc

one_numbered : (x y : NumberedChunk) → Some x ≡ Some y → x ≡ y
one_numbered x y e = cc

among_found : (arrivals : List NumberedChunk) (x : NumberedChunk) (i : ℕ) → slice_get arrivals i ≡ Some x →
    chunk_numbered arrivals x.number ≡ None → ⊥
among_found [] x i here e = cc
among_found (one ∷ arrivals) x zero here e =
    let P : NumberedChunk → Type 0 = λ y. chunk_numbered (one ∷ arrivals) y.number ≡ None in
    first_found one arrivals (subst P (sym (one_numbered one x here)) e)
among_found (one ∷ arrivals) x (suc i) here e =
    some_by one arrivals x.number (eqb one.number x.number) refl (among_found arrivals x i here) e

-- so both find the same chunk
alike : (arrivals others : List NumberedChunk) (k : ℕ) (o p : Option SeenData) → chunk_numbered arrivals k ≡ o →
    chunk_numbered others k ≡ p → ((x : NumberedChunk) → IsAmongChunks arrivals x → IsAmongChunks others x) →
    ((x : NumberedChunk) → IsAmongChunks others x → IsAmongChunks arrivals x) → AgreeOnChunks arrivals → o ≡ p
alike arrivals others k None None is also to from agree = refl
alike arrivals others k None (Some d) is also to from agree =
    let there = from (numbered k d) (found_among others k d also) in
    absurd (among_found arrivals (numbered k d) there.0 there.1 is)
alike arrivals others k (Some c) None is also to from agree =
    let there = to (numbered k c) (found_among arrivals k c is) in
    absurd (among_found others (numbered k c) there.0 there.1 also)
alike arrivals others k (Some c) (Some d) is also to from agree =
    ap Some (agree (numbered k c) (numbered k d) (found_among arrivals k c is)
    (from (numbered k d) (found_among others k d also)) refl)

pub order_changes_nothing : OrderOfChunksChangesNothing
order_changes_nothing base arrivals others messages said to from agree one other =
    rw (one.says, other.says, octets)
    (IsPermutation-map (message_numbered others) one.numbered other.numbered
    (in_another_order one.numbered other.numbered one.once other.once
    (λ m among.
    let is_one = one.each m among in
    other.all m is_one.0 (same_message (marks_numbered arrivals) (marks_numbered others) m.first m.count
    (λ k low high. ap marks_read (sym (each k))) is_one.1))
    (λ m among.
    let is_one = other.each m among in
    one.all m is_one.0 (same_message (marks_numbered others) (marks_numbered arrivals) m.first m.count
    (λ k low high. ap marks_read (each k)) is_one.1))))
  where
    each : (k : ℕ) → chunk_numbered arrivals k ≡ chunk_numbered others k
    each k = alike arrivals others k (chunk_numbered arrivals k) (chunk_numbered others k) refl refl to from agree

    octets : map (message_numbered arrivals) one.numbered ≡ map (message_numbered others) one.numbered
    octets =
        map_same (message_numbered arrivals) (message_numbered others) one.numbered
        (λ m among. same_octets (octets_numbered others) (octets_numbered arrivals) m.first m.count
        (λ k low high. ap octets_read (each k)))
