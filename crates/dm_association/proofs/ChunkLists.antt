-- Chunks by their numbers, and lists of user messages.
use Rattle.std.proofs.Common.{◌≡◌, ◌≢◌, ◌≤◌, ◌<◌, ◌⊎◌, inl, inr, ℕ, zero, suc, ◌+◌, eqb, if◌then◌else◌, Bool, true, false, Option, None, Some, List, [], ◌∷◌, ◌++◌, map, length, slice_get, refl, sym, ◌∙◌, ap, arith}
use Rattle.dm_flows.specs.Sctps.{SeenData}
use Rattle.dm_association.specs.declared.marks.ChunkMarks.{ChunkMarks}
use Rattle.dm_association.specs.Fragments.{IsUserMessage, user_message}
use Rattle.dm_association.specs.Reassembly.{NumberedChunk, chunk_numbered, NumberedMessage, IsAmongMessages}
use Rattle.dm_association.proofs.MessageRuns.{differ, same}
use Rattle.dm_association.proofs.TsnLists.{chosen_yes, chosen_no}

-- one chunk more, behind the others: where one came with its number, that one stays
abbrev found_by : Bool → SeenData → Option SeenData → Option SeenData
found_by b chunk later = if b then Some chunk else later

there_by : (arrivals : List NumberedChunk) (x one : NumberedChunk) (k : ℕ) (chunk : SeenData) (b : Bool) →
    b ≡ eqb one.number k →
    (chunk_numbered arrivals k ≡ Some chunk → chunk_numbered (arrivals ++ x ∷ []) k ≡ Some chunk) →
    chunk_numbered (one ∷ arrivals) k ≡ Some chunk → chunk_numbered (one ∷ (arrivals ++ x ∷ [])) k ≡ Some chunk
there_by arrivals x one k chunk true is h e =
    chosen_yes (eqb one.number k) (Some one.chunk) (chunk_numbered (arrivals ++ x ∷ []) k) (sym is)
    ∙ sym (chosen_yes (eqb one.number k) (Some one.chunk) (chunk_numbered arrivals k) (sym is)) ∙ e
there_by arrivals x one k chunk false is h e =
    chosen_no (eqb one.number k) (Some one.chunk) (chunk_numbered (arrivals ++ x ∷ []) k) (sym is)
    ∙ h (sym (chosen_no (eqb one.number k) (Some one.chunk) (chunk_numbered arrivals k) (sym is)) ∙ e)

pub more_there : (arrivals : List NumberedChunk) (x : NumberedChunk) (k : ℕ) (chunk : SeenData) →
    chunk_numbered arrivals k ≡ Some chunk → chunk_numbered (arrivals ++ x ∷ []) k ≡ Some chunk
more_there [] x k chunk e = cc
more_there (one ∷ arrivals) x k chunk e =
    there_by arrivals x one k chunk (eqb one.number k) refl (more_there arrivals x k chunk) e

pub more_other : (arrivals : List NumberedChunk) (x : NumberedChunk) (k : ℕ) → x.number ≢ k →
    chunk_numbered (arrivals ++ x ∷ []) k ≡ chunk_numbered arrivals k
more_other [] x k h = chosen_no (eqb x.number k) (Some x.chunk) None (differ x.number k h)
more_other (one ∷ arrivals) x k h =
    ap (λ o. found_by (eqb one.number k) one.chunk o) (more_other arrivals x k h)

none_none : (chunk : SeenData) → Some chunk ≡ None → ⊥
none_none chunk e = cc

here_by : (arrivals : List NumberedChunk) (x one : NumberedChunk) (b : Bool) → b ≡ eqb one.number x.number →
    (chunk_numbered arrivals x.number ≡ None → chunk_numbered (arrivals ++ x ∷ []) x.number ≡ Some x.chunk) →
    chunk_numbered (one ∷ arrivals) x.number ≡ None →
    chunk_numbered (one ∷ (arrivals ++ x ∷ [])) x.number ≡ Some x.chunk
here_by arrivals x one true is h e =
    absurd (none_none one.chunk
    (sym (chosen_yes (eqb one.number x.number) (Some one.chunk) (chunk_numbered arrivals x.number) (sym is)) ∙ e))
here_by arrivals x one false is h e =
    chosen_no (eqb one.number x.number) (Some one.chunk) (chunk_numbered (arrivals ++ x ∷ []) x.number) (sym is)
    ∙ h (sym (chosen_no (eqb one.number x.number) (Some one.chunk) (chunk_numbered arrivals x.number) (sym is)) ∙ e)

pub more_here : (arrivals : List NumberedChunk) (x : NumberedChunk) → chunk_numbered arrivals x.number ≡ None →
    chunk_numbered (arrivals ++ x ∷ []) x.number ≡ Some x.chunk
more_here [] x e = chosen_yes (eqb x.number x.number) (Some x.chunk) None (same x.number x.number refl)
more_here (one ∷ arrivals) x e =
    here_by arrivals x one (eqb one.number x.number) refl (more_here arrivals x) e

-- one message more, behind the others
pub get_more : (ms : List NumberedMessage) (x m : NumberedMessage) (i : ℕ) → slice_get ms i ≡ Some m →
    slice_get (ms ++ x ∷ []) i ≡ Some m
get_more [] x m i e = cc
get_more (y ∷ ms) x m zero e = e
get_more (y ∷ ms) x m (suc i) e = get_more ms x m i e

pub get_last : (ms : List NumberedMessage) (x : NumberedMessage) → slice_get (ms ++ x ∷ []) (length ms) ≡ Some x
get_last [] x = refl
get_last (y ∷ ms) x = get_last ms x

only : (x m : NumberedMessage) → Some x ≡ Some m → x ≡ m
only x m e = cc

pub get_either : (ms : List NumberedMessage) (x m : NumberedMessage) (i : ℕ) → slice_get (ms ++ x ∷ []) i ≡ Some m →
    (slice_get ms i ≡ Some m) ⊎ ((i ≡ length ms) × (x ≡ m))
get_either [] x m zero e = inr (refl, only x m e)
get_either [] x m (suc i) e = cc
get_either (y ∷ ms) x m zero e = inl e
get_either (y ∷ ms) x m (suc i) e = later (get_either ms x m i e)
  where
    later : (slice_get ms i ≡ Some m) ⊎ ((i ≡ length ms) × (x ≡ m)) →
        (slice_get (y ∷ ms) (suc i) ≡ Some m) ⊎ ((suc i ≡ length (y ∷ ms)) × (x ≡ m))
    later (inl h) = inl h
    later (inr h) = inr (ap suc h.0, h.1)

pub map_more : (f : NumberedMessage → List ℕ) (ms : List NumberedMessage) (x : NumberedMessage) →
    map f (ms ++ x ∷ []) ≡ map f ms ++ f x ∷ []
map_more f [] x = refl
map_more f (y ∷ ms) x = ap (λ l. f y ∷ l) (map_more f ms x)

pub map_same : (f g : NumberedMessage → List ℕ) (ms : List NumberedMessage) →
    ((m : NumberedMessage) → IsAmongMessages ms m → f m ≡ g m) → map f ms ≡ map g ms
map_same f g [] h = refl
map_same f g (y ∷ ms) h =
    ap (λ o. o ∷ map f ms) (h y (0, refl)) ∙ ap (λ l. g y ∷ l) (map_same f g ms (λ m i. h m (suc i.0, i.1)))

-- chunks that are the same make the same message
pub same_message : (seen other : ℕ → Option ChunkMarks) (first count : ℕ) →
    ((k : ℕ) → first ≤ k → k < first + count → other k ≡ seen k) → IsUserMessage seen first count →
    IsUserMessage other first count
same_message seen other first count h m = record {
  stream = m.stream;
  some = m.some;
  each = λ k low high. h k low high ∙ m.each k low high;
}

pub same_octets : (f g : ℕ → List ℕ) (first count : ℕ) → ((k : ℕ) → first ≤ k → k < first + count → g k ≡ f k) →
    user_message g first count ≡ user_message f first count
same_octets f g first zero h = refl
same_octets f g first (suc n) h =
    ap (λ l. l ++ g (first + n)) (same_octets f g first n (λ k low high. h k low (omega arith)))
    ∙ ap (λ l. user_message f first n ++ l) (h (first + n) (omega arith) (omega arith))
