-- Each octet of user data is somewhere.
use Rattle.std.proofs.Common.{◌≡◌, ◌⊎◌, inl, inr, ℕ, ◌+◌, ◌-◌, ◌^◌, ◌≤◌, min, Bool, true, false, if◌then◌else◌, nat_le, Option, None, Some, List, [], ◌∷◌, ◌++◌, length, refl, sym, ◌∙◌, ap, subst, arith, length-append, append-nil, option_to_list}
use Rattle.std.proofs.lemmas.Bool.{and_parts}
use Rattle.std.proofs.lemmas.Bool.Decides.{nat_tests}
use Rattle.std.proofs.lemmas.List.Folds.{concat-append}
use Rattle.std.specs.List.{concat}
use Rattle.dm_flows.specs.Flows.{more_passed}
use Rattle.dm_flows.specs.Sctps.{SeenData}
use Rattle.dm_association.specs.declared.chunk_place.ChunkPlace.{ChunkPlace}
use Rattle.dm_association.specs.declared.chunk_place.ChunkPlace.TheVariants.{Wanted, Repeated, Astray}
use Rattle.dm_association.specs.ChunkAccounts.{ChunkAccount, begun_chunk_account, octets_again, BringsChunk, BringsAssociation, ChunkAccountsFollow, IsChunkAccounted, EachChunkIsAccounted}
use Rattle.dm_association.specs.Fragments.{fragment_of}
use Rattle.dm_association.specs.SctpFlows.{SctpFlowState, is_secured, without_chunk, waiting_in_flow, association_left, begun_at_tsn, place_in_flow, ReadsChunk, PassesChunk, TakesWanted, may_begin_with, TakesAt, HasRoomInFlow}
use Rattle.dm_association.specs.TsnWindows.{TsnWindowState}
use Rattle.dm_association.proofs.Places.{room_in_flow, room_at_first, room_is_free}
use Rattle.dm_association.proofs.TsnCounting.{fragment_waits, message_waits, pass_waits}

-- so many octets come, and so many are said in messages or came before; of the others some wait, and some are counted
record Moves (old new : SctpFlowState) (come told : ℕ) : Type 0 where
  lost : ℕ
  hidden : ℕ
  passed : (n : ℕ) → old.passed ≡ min n (2 ^ 64 - 1) → new.passed ≡ min (n + lost) (2 ^ 64 - 1)
  secured : (n : ℕ) → old.secured ≡ min n (2 ^ 64 - 1) → new.secured ≡ min (n + hidden) (2 ^ 64 - 1)
  all : waiting_in_flow old.window + come ≡ waiting_in_flow new.window + told + lost + hidden

more_lost : (lost n : ℕ) → more_passed (min lost (2 ^ 64 - 1)) n ≡ min (lost + n) (2 ^ 64 - 1)
more_lost lost n = omega arith

counted_more : (passed n more : ℕ) → passed ≡ min n (2 ^ 64 - 1) → more_passed passed more ≡ min (n + more) (2 ^ 64 - 1)
counted_more passed n more e = ap (λ p. more_passed p more) e ∙ more_lost n more

counted_same : (passed n : ℕ) → passed ≡ min n (2 ^ 64 - 1) → passed ≡ min (n + 0) (2 ^ 64 - 1)
counted_same passed n e = omega (arith, e)

-- one after the other
also : (old mid new : SctpFlowState) (a b told : ℕ) → Moves old mid a 0 → Moves mid new b told → Moves old new (a + b) told
also old mid new a b told one other =
    let first = one.all in
    let second = other.all in
    record {
      lost = one.lost + other.lost;
      hidden = one.hidden + other.hidden;
      passed = λ n e.
          other.passed (n + one.lost) (one.passed n e)
          ∙ ap (λ m. min m (2 ^ 64 - 1)) (omega arith);
      secured = λ n e.
          other.secured (n + one.hidden) (one.secured n e)
          ∙ ap (λ m. min m (2 ^ 64 - 1)) (omega arith);
      all = omega (arith, first, second);
    }

-- what waits is passed over
leaves : (old : SctpFlowState) → Moves old (association_left old) 0 0
leaves old = record {
  lost = waiting_in_flow old.window;
  hidden = 0;
  passed = λ n e. counted_more old.passed n (waiting_in_flow old.window) e;
  secured = λ n e. counted_same old.secured n e;
  all = omega arith;
}

begins : (old : SctpFlowState) (tsn : ℕ) → Moves old (begun_at_tsn old tsn) 0 0
begins old tsn = record {
  lost = waiting_in_flow old.window;
  hidden = 0;
  passed = λ n e. counted_more old.passed n (waiting_in_flow old.window) e;
  secured = λ n e. counted_same old.secured n e;
  all = omega arith;
}

-- a chunk is counted
counts_by : (b : Bool) (old : SctpFlowState) (size : ℕ) →
    Moves old (if b then record old { secured = more_passed old.secured size }
    else record old { passed = more_passed old.passed size }) size 0
counts_by true old size = record {
  lost = 0;
  hidden = size;
  passed = λ n e. counted_same old.passed n e;
  secured = λ n e. counted_more old.secured n size e;
  all = omega arith;
}
counts_by false old size = record {
  lost = size;
  hidden = 0;
  passed = λ n e. counted_more old.passed n size e;
  secured = λ n e. counted_same old.secured n e;
  all = omega arith;
}

counts : (chunk : SeenData) (old : SctpFlowState) → Moves old (without_chunk chunk old) (length chunk.user_data) 0
counts chunk old = counts_by (is_secured chunk.payload_protocol) old (length chunk.user_data)

-- only the window changes
windowed : (old : SctpFlowState) (before after : TsnWindowState) (come told : ℕ) → old.window ≡ Some before →
    waiting_in_flow (Some before) + come ≡ waiting_in_flow (Some after) + told →
    Moves old (record old { window = Some after }) come told
windowed old before after come told known e =
    let was = ap waiting_in_flow known in
    record {
      lost = 0;
      hidden = 0;
      passed = λ n s. counted_same old.passed n s;
      secured = λ n s. counted_same old.secured n s;
      all = omega (arith, e, was);
    }

abbrev told_in : Option (List ℕ) → ℕ
told_in found = length (concat (option_to_list found))

told_one : (message : List ℕ) → told_in (Some message) ≡ length message
told_one message = ap length (append-nil message)

reads : (old new : SctpFlowState) (at : ℕ) (chunk : SeenData) (found : Option (List ℕ)) →
    ReadsChunk old at chunk found new → HasRoomInFlow old.window at (length chunk.user_data) →
    Moves old new (length chunk.user_data) (told_in found)
reads old new at chunk None h room =
    let P : Option TsnWindowState → Type 0 = λ w. HasRoomInFlow w at (length chunk.user_data) in
    let free = room_is_free h.before at (length chunk.user_data) (subst P h.known room) in
    let Q : SctpFlowState → Type 0 = λ n. Moves old n (length chunk.user_data) 0 in
    let sums = fragment_waits h.before h.after at (fragment_of chunk) h.takes.puts free in
    subst Q (sym h.others) (windowed old h.before h.after (length chunk.user_data) 0 h.known (omega (arith, sums)))
reads old new at chunk (Some message) h room =
    let P : Option TsnWindowState → Type 0 = λ w. HasRoomInFlow w at (length chunk.user_data) in
    let free = room_is_free h.before at (length chunk.user_data) (subst P h.known room) in
    let Q : SctpFlowState → Type 0 = λ n. Moves old n (length chunk.user_data) (told_in (Some message)) in
    let sums = message_waits h.before h.after at (fragment_of chunk) message h.takes free in
    let told = told_one message in
    subst Q (sym h.others)
    (windowed old h.before h.after (length chunk.user_data) (told_in (Some message)) h.known (omega (arith, sums, told)))

-- the same under other names
moved : (old new next : SctpFlowState) (come more told said : ℕ) → new ≡ next → come ≡ more → told ≡ said →
    Moves old new come told → Moves old next more said
moved old new next come more told said new_is come_is told_is h =
    let P : SctpFlowState → Type 0 = λ n. Moves old n come told in
    let Q : ℕ → Type 0 = λ n. Moves old next n told in
    let R : ℕ → Type 0 = λ n. Moves old next more n in
    subst R told_is (subst Q come_is (subst P new_is h))

passes : (old new : SctpFlowState) (at : ℕ) (chunk : SeenData) (found : Option (List ℕ)) →
    PassesChunk old at chunk found new → HasRoomInFlow old.window at (length chunk.user_data) →
    Moves old new (length chunk.user_data) (told_in found)
passes old new at chunk found h room =
    let P : Option TsnWindowState → Type 0 = λ w. HasRoomInFlow w at (length chunk.user_data) in
    let free = room_is_free h.before at (length chunk.user_data) (subst P h.known room) in
    let sums = pass_waits h.before h.after at h.finishes free in
    let mid = record old { window = Some h.after } in
    let one = windowed old h.before h.after 0 0 h.known (omega (arith, sums)) in
    let both = also old mid (without_chunk chunk mid) 0 (length chunk.user_data) 0 one (counts chunk mid) in
    moved old (without_chunk chunk mid) new (0 + length chunk.user_data) (length chunk.user_data) 0 (told_in found)
    (sym h.others) (omega arith) (sym (ap told_in h.none)) both

taken : (old new : SctpFlowState) (at : ℕ) (chunk : SeenData) (found : Option (List ℕ)) →
    TakesWanted old at chunk found new → HasRoomInFlow old.window at (length chunk.user_data) →
    Moves old new (length chunk.user_data) (told_in found)
taken old new at chunk found (inl h) room = reads old new at chunk found h room
taken old new at chunk found (inr h) room = passes old new at chunk found h room

small_enough : (chunk : SeenData) → may_begin_with chunk ≡ true → length chunk.user_data ≤ 1048576
small_enough chunk e =
    let fits = (and_parts chunk.beginning (nat_le (length chunk.user_data) 1048576) e).1 in grind (arith, nat_tests)

none_told : (found : Option (List ℕ)) (chunk : SeenData) → found ≡ None →
    0 ≡ told_in found + octets_again Astray chunk
none_told found chunk e = sym (ap (λ f. told_in f + 0) e)

-- a chunk that came before changes nothing
repeats : (old new : SctpFlowState) (chunk : SeenData) (found : Option (List ℕ)) → new ≡ old → found ≡ None →
    Moves old new (length chunk.user_data) (told_in found + octets_again Repeated chunk)
repeats old new chunk found same none =
    let stays = ap (λ (f : SctpFlowState). waiting_in_flow f.window) same in
    let nothing = ap told_in none in
    record {
      lost = 0;
      hidden = 0;
      passed = λ n e. counted_same new.passed n (ap (λ (f : SctpFlowState). f.passed) same ∙ e);
      secured = λ n e. counted_same new.secured n (ap (λ (f : SctpFlowState). f.secured) same ∙ e);
      all = omega (arith, stays, nothing);
    }

-- by where the chunk belongs
brings_at : (place : ChunkPlace) (old new : SctpFlowState) (chunk : SeenData) (found : Option (List ℕ)) →
    place_in_flow old.window chunk ≡ place → TakesAt place old chunk found new →
    Moves old new (length chunk.user_data) (told_in found + octets_again place chunk)
brings_at (Wanted at) old new chunk found is h =
    moved old new new (length chunk.user_data) (length chunk.user_data) (told_in found)
    (told_in found + octets_again (Wanted at) chunk) refl refl (omega arith)
    (taken old new at chunk found h (room_in_flow old.window chunk at is))
brings_at Repeated old new chunk found is (same, none) = repeats old new chunk found same none
brings_at Astray old new chunk found is (inl (may, h)) =
    let mid = begun_at_tsn old chunk.tsn in
    let room = room_at_first chunk.tsn (length chunk.user_data) (small_enough chunk may) in
    moved old new new (0 + length chunk.user_data) (length chunk.user_data) (told_in found)
    (told_in found + octets_again Astray chunk) refl (omega arith) (omega arith)
    (also old mid new 0 (length chunk.user_data) (told_in found) (begins old chunk.tsn)
    (taken mid new 0 chunk found h room))
brings_at Astray old new chunk found is (inr (may, none, passed)) =
    let mid = association_left old in
    moved old (without_chunk chunk mid) new (0 + length chunk.user_data) (length chunk.user_data) 0
    (told_in found + octets_again Astray chunk) (sym passed) (omega arith) (none_told found chunk none)
    (also old mid (without_chunk chunk mid) 0 (length chunk.user_data) 0 (leaves old) (counts chunk mid))

same_messages : (old new : List (List ℕ)) → new ≡ old → length (concat new) ≡ length (concat old)
same_messages old new e = ap (λ m. length (concat m)) e

more_messages : (old new : List (List ℕ)) (found : Option (List ℕ)) → new ≡ old ++ option_to_list found →
    length (concat new) ≡ length (concat old) + told_in found
more_messages old new found e =
    ap (λ m. length (concat m)) e ∙ ap length (concat-append old (option_to_list found))
    ∙ length-append (concat old) (concat (option_to_list found))

with_chunk : (old new : ChunkAccount) → IsChunkAccounted old → BringsChunk old new → IsChunkAccounted new
with_chunk old new so b =
    let place = place_in_flow old.flow.window b.chunk in
    let h = brings_at place old.flow new.flow b.chunk b.found refl b.takes in
    let messages = more_messages old.messages new.messages b.found b.messages in
    let came = b.came in
    let again = b.again in
    let all = h.all in
    let before = so.came in
    record {
      lost = so.lost + h.lost;
      hidden = so.hidden + h.hidden;
      passed = h.passed so.lost so.passed;
      secured = h.secured so.hidden so.secured;
      came = omega (arith, messages, came, again, all, before);
    }

turned : (old new : ChunkAccount) → IsChunkAccounted old → Moves old.flow new.flow 0 0 → new.came ≡ old.came →
    new.again ≡ old.again → new.messages ≡ old.messages → IsChunkAccounted new
turned old new so h came again same =
    let messages = same_messages old.messages new.messages same in
    let all = h.all in
    let before = so.came in
    record {
      lost = so.lost + h.lost;
      hidden = so.hidden + h.hidden;
      passed = h.passed so.lost so.passed;
      secured = h.secured so.hidden so.secured;
      came = omega (arith, messages, came, again, all, before);
    }

turns : (old new : SctpFlowState) → ((tsn : ℕ) × (new ≡ begun_at_tsn old tsn)) ⊎ (new ≡ association_left old) →
    Moves old new 0 0
turns old new (inl (tsn, e)) =
    let P : SctpFlowState → Type 0 = λ n. Moves old n 0 0 in subst P (sym e) (begins old tsn)
turns old new (inr e) =
    let P : SctpFlowState → Type 0 = λ n. Moves old n 0 0 in subst P (sym e) (leaves old)

with_association : (old new : ChunkAccount) → IsChunkAccounted old → BringsAssociation old new → IsChunkAccounted new
with_association old new so b =
    turned old new so (turns old.flow new.flow b.turns) b.came b.again b.messages

next_accounted : (old new : ChunkAccount) → IsChunkAccounted old →
    BringsChunk old new ⊎ BringsAssociation old new → IsChunkAccounted new
next_accounted old new so (inl b) = with_chunk old new so b
next_accounted old new so (inr b) = with_association old new so b

all_accounted : (old : ChunkAccount) (later : List ChunkAccount) (now : ChunkAccount) → IsChunkAccounted old →
    ChunkAccountsFollow old later now → IsChunkAccounted now
all_accounted old [] now so e = subst IsChunkAccounted e so
all_accounted old (next ∷ later) now so h = all_accounted next later now (next_accounted old next so h.0) h.1

pub each_accounted : EachChunkIsAccounted
each_accounted later now h =
    all_accounted begun_chunk_account later now
    (record { lost = 0; hidden = 0; passed = refl; secured = refl; came = refl }) h
