-- What is handed out of a direction, while its association isn't left, are its user messages.
use Rattle.std.proofs.Common.{◌≡◌, ◌≢◌, ◌≤◌, ◌<◌, ◌⊎◌, inl, inr, ℕ, ◌+◌, ◌-◌, ◌%◌, ◌^◌, Bool, true, false, Option, None, Some, List, [], ◌∷◌, ◌++◌, map, length, refl, sym, ◌∙◌, ap, subst, arith, append-nil, option_to_list, if◌then◌else◌}
use Rattle.std.proofs.lemmas.Bool.{cases_lt}
use Rattle.std.proofs.lemmas.Bool.Decides.{eqb_tells}
use Rattle.dm_flows.specs.Flows.{more_passed}
use Rattle.dm_flows.specs.Order.{number_near}
use Rattle.dm_flows.specs.Sctps.{SeenData}
use Rattle.dm_flows.specs.Windows.{ahead, sequence_behind}
use Rattle.dm_association.specs.declared.chunk_place.ChunkPlace.{ChunkPlace}
use Rattle.dm_association.specs.declared.chunk_place.ChunkPlace.TheVariants.{Wanted, Repeated, Astray}
use Rattle.dm_association.specs.declared.tsn_state.TsnState.{TsnState}
use Rattle.dm_association.specs.declared.tsn_state.TsnState.TheVariants.{Missing, Done, Held}
use Rattle.dm_association.specs.Fragments.{chunk_marks, fragment_of}
use Rattle.dm_association.specs.Reassembly.{NumberedChunk, chunk_numbered, NumberedMessage, message_numbered, ChunkPassage, BeginsChunks, first_tsn, ChunksGoOn, ChunksFollow, EachUserMessageIsHandedOut}
use Rattle.dm_association.specs.SctpFlows.{SctpFlowState, is_clear_text, is_secured, without_chunk, place_in_flow, TakesFragment, TakesWanted, TakesAt}
use Rattle.dm_association.specs.TsnWindows.{TsnWindowState, begun_window, tsn_at, is_missing, chunk_place, HasRoomAt, FinishesTsns, CompletesMessage, HoldsFragment}
use Rattle.dm_association.proofs.ChunkLists.{more_there, more_other, more_here, map_more}
use Rattle.dm_association.proofs.NumberedTsns.{state_of, state_before, state_from, state_passed, state_done, state_undone, state_put, state_unput, message_shifted, none_numbered, said_shifted, message_within, ahead_more, next_more, near_ahead, near_before, front_count}
use Rattle.dm_association.proofs.Places.{room_at, wanted_at, again_at, missing_is}
use Rattle.dm_association.proofs.Reassembly.{SaysChunk, HasNumber, IsReassembled, none_came, ComesAt, holds, passes, completes, octets_stay, octets_are, stays, same_octets_stay}

-- what holds of every passage
record IsSoundPassage (base : ℕ) (p : ChunkPassage) : Type 0 where
  window : TsnWindowState
  known : p.flow.window ≡ Some window
  order : base ≤ p.number
  next : window.next ≡ p.number % 2 ^ 32
  span : length window.tsns ≤ 65536
  numbered : List NumberedMessage
  says : p.messages ≡ map (message_numbered p.arrivals) numbered
  sound : IsReassembled base (state_of p.number window.tsns) p.arrivals numbered

-- a window as a chunk finds it and leaves it, by numbers
record Goes (base n : ℕ) (before after : TsnWindowState) (old new : List NumberedChunk) (messages : List NumberedMessage)
    (found : Option (List ℕ)) : Type 0 where
  count : ℕ
  next : after.next ≡ sequence_behind before.next count
  small : count ≤ 65536
  span : length after.tsns ≤ 65536
  more : List NumberedMessage
  says : map (message_numbered new) messages ++ option_to_list found ≡ map (message_numbered new) more
  same : map (message_numbered new) messages ≡ map (message_numbered old) messages
  sound : IsReassembled base (state_of (n + count) after.tsns) new more

-- a chunk comes at a number that was missing
comes : (base n at : ℕ) (w : TsnWindowState) (chunk : SeenData) (old : List NumberedChunk) (messages : List NumberedMessage) →
    base ≤ n → IsReassembled base (state_of n w.tsns) old messages → is_missing (tsn_at w.tsns at) ≡ true →
    ComesAt base (n + at) (state_of n w.tsns) chunk old (old ++ record { number = n + at; chunk = chunk } ∷ [])
comes base n at w chunk old messages order so missing =
    let x : NumberedChunk = record { number = n + at; chunk = chunk } in
    let is : state_of n w.tsns (n + at) ≡ Missing =
    state_from n w.tsns (n + at) (omega arith) ∙ ap (λ j. tsn_at w.tsns j) (omega arith)
    ∙ missing_is (tsn_at w.tsns at) missing in
    let P : TsnState → Type 0 = λ s. SaysChunk s (chunk_numbered old (n + at)) in
    record {
      low = omega arith;
      missing = is;
      here = more_here old x (subst P is (so.says (n + at) (omega arith)));
      others = λ k low not_it. more_other old x k (λ e. not_it (sym e));
    }

-- so many TSNs are done
record Finished (n first count : ℕ) (before after : TsnWindowState) : Type 0 where
  passed : ℕ
  next : after.next ≡ sequence_behind before.next passed
  small : passed ≤ 65536
  span : length after.tsns ≤ 65536
  at : (k : ℕ) → n + first ≤ k → k < n + first + count → state_of (n + passed) after.tsns k ≡ Done
  others : (k : ℕ) → (k < n + first) ⊎ (n + first + count ≤ k) →
      state_of (n + passed) after.tsns k ≡ state_of n before.tsns k

finished : (n first count : ℕ) (before after : TsnWindowState) → FinishesTsns before first count after →
    length before.tsns ≤ 65536 → first + count ≤ 65536 → Finished n first count before after
finished n first count before after h span most =
    let mid : TsnWindowState = record before { tsns = h.mid } in
    let front = h.passes.passes in
    let len = h.done.len in
    let gone = front_count mid after front in
    record {
      passed = front.count;
      next = front.next;
      small = omega (arith, len, gone, span, most);
      span = omega (arith, len, gone, span, most);
      at = λ k low high.
          state_passed mid after n front k ∙ state_done before.tsns h.mid n first count h.done k low high;
      others = λ k out.
          state_passed mid after n front k ∙ state_undone before.tsns h.mid n first count h.done k out;
    }

one_only : (n at k : ℕ) → k ≢ n + at → (k < n + at) ⊎ (n + at + 1 ≤ k)
one_only n at k not_it = elim (cases_lt k (n + at)) [
  | inl less ↦ inl less
  | inr more ↦ inr (omega (arith, more))
]

outside : (n first count k : ℕ) →
    (HasNumber (record { first = n + first; count = count }) k → ⊥) → (k < n + first) ⊎ (n + first + count ≤ k)
outside n first count k not_it = elim (cases_lt k (n + first)) [
  | inl less ↦ inl less
  | inr low ↦ elim (cases_lt k (n + first + count)) [
    | inl high ↦ absurd (not_it (low, high))
    | inr more ↦ inr more
  ]
]

-- a chunk isn't read
goes_past : (base n at : ℕ) (before after : TsnWindowState) (chunk : SeenData) (old : List NumberedChunk)
    (messages : List NumberedMessage) (found : Option (List ℕ)) → base ≤ n → length before.tsns ≤ 65536 → at < 65536 →
    IsReassembled base (state_of n before.tsns) old messages → is_missing (tsn_at before.tsns at) ≡ true →
    is_clear_text chunk.payload_protocol ≡ false → FinishesTsns before at 1 after → found ≡ None →
    Goes base n before after old (old ++ record { number = n + at; chunk = chunk } ∷ []) messages found
goes_past base n at before after chunk old messages found order span near so missing other h none =
    let new = old ++ record { number = n + at; chunk = chunk } ∷ [] in
    let c = comes base n at before chunk old messages order so missing in
    let done = finished n at 1 before after h span (omega arith) in
    record {
      count = done.passed;
      next = done.next;
      small = done.small;
      span = done.span;
      more = messages;
      says = ap (λ f. map (message_numbered new) messages ++ option_to_list f) none
          ∙ append-nil (map (message_numbered new) messages);
      same = octets_stay base (n + at) (state_of n before.tsns) chunk old new messages so c;
      sound = passes base (n + at) (state_of n before.tsns) (state_of (n + done.passed) after.tsns) chunk old new
          messages so c other (done.at (n + at) (omega arith) (omega arith))
          (λ k not_it. done.others k (one_only n at k not_it));
    }

-- a fragment waits
goes_waiting : (base n at : ℕ) (before after : TsnWindowState) (chunk : SeenData) (old : List NumberedChunk)
    (messages : List NumberedMessage) → base ≤ n → length before.tsns ≤ 65536 → at < 65536 →
    IsReassembled base (state_of n before.tsns) old messages → is_missing (tsn_at before.tsns at) ≡ true →
    is_clear_text chunk.payload_protocol ≡ true → HoldsFragment before at (fragment_of chunk) after →
    Goes base n before after old (old ++ record { number = n + at; chunk = chunk } ∷ []) messages None
goes_waiting base n at before after chunk old messages order span near so missing clear h =
    let new = old ++ record { number = n + at; chunk = chunk } ∷ [] in
    let c = comes base n at before chunk old messages order so missing in
    let len = h.puts.len in
    let P : ℕ → Type 0 = λ m. IsReassembled base (state_of m after.tsns) new messages in
    let same_number : n ≡ n + 0 = omega arith in
    record {
      count = 0;
      next = h.puts.next;
      small = omega arith;
      span = omega (arith, len, span);
      more = messages;
      says = append-nil (map (message_numbered new) messages);
      same = octets_stay base (n + at) (state_of n before.tsns) chunk old new messages so c;
      sound = subst P same_number (holds base (n + at) (state_of n before.tsns) (state_of n after.tsns) chunk old new
          messages so c clear (none_numbered n at before.tsns (chunk_marks chunk) h.part)
          (state_put before after n at (fragment_of chunk) h.puts)
          (state_unput before after n at (fragment_of chunk) h.puts));
    }

-- a message is whole
goes_whole : (base n at : ℕ) (before after : TsnWindowState) (chunk : SeenData) (old : List NumberedChunk)
    (messages : List NumberedMessage) (message : List ℕ) → base ≤ n → length before.tsns ≤ 65536 → at < 65536 →
    IsReassembled base (state_of n before.tsns) old messages → is_missing (tsn_at before.tsns at) ≡ true →
    is_clear_text chunk.payload_protocol ≡ true → CompletesMessage before at (fragment_of chunk) message after →
    Goes base n before after old (old ++ record { number = n + at; chunk = chunk } ∷ []) messages (Some message)
goes_whole base n at before after chunk old messages message order span near so missing clear h =
    let new = old ++ record { number = n + at; chunk = chunk } ∷ [] in
    let m : NumberedMessage = record { first = n + h.first; count = h.count } in
    let c = comes base n at before chunk old messages order so missing in
    let most = message_within before.tsns at (chunk_marks chunk) h.first h.count h.whole h.before h.behind in
    let done = finished n h.first h.count before after h.finishes span (omega (arith, most)) in
    let whole = message_shifted n at before.tsns (chunk_marks chunk) h.first h.count h.whole in
    let said : message_numbered new m ≡ message =
    octets_are base (n + at) (state_of n before.tsns) chunk old new messages so c clear m (omega arith) whole
    ∙ said_shifted n at before.tsns chunk.user_data h.first h.count ∙ sym h.says in
    record {
      count = done.passed;
      next = done.next;
      small = done.small;
      span = done.span;
      more = messages ++ m ∷ [];
      says = ap (λ l. map (message_numbered new) messages ++ l ∷ []) (sym said)
          ∙ sym (map_more (message_numbered new) messages m);
      same = octets_stay base (n + at) (state_of n before.tsns) chunk old new messages so c;
      sound = completes base (n + at) (state_of n before.tsns) (state_of (n + done.passed) after.tsns) chunk old new
          messages so c clear m (omega arith) (omega (arith, h.before), omega (arith, h.behind)) whole
          (λ k has. done.at k has.0 has.1)
          (λ k not_it. done.others k (outside n h.first h.count k not_it));
    }

-- a chunk that came before changes nothing
was_there : (s : TsnState) (o : Option SeenData) → is_missing s ≡ false → SaysChunk s o →
    (chunk : SeenData) × (o ≡ Some chunk)
was_there Missing o e says = cc
was_there Done o e says = says
was_there (Held fragment) o e says = (says.0, says.1)

goes_again : (base m : ℕ) (state : ℕ → TsnState) (chunk : SeenData) (old : List NumberedChunk)
    (messages : List NumberedMessage) → IsReassembled base state old messages →
    (base ≤ m → is_missing (state m) ≡ false) → (k : ℕ) → base ≤ k →
    chunk_numbered (old ++ record { number = m; chunk = chunk } ∷ []) k ≡ chunk_numbered old k
goes_again base m state chunk old messages so there k low = elim (eqb_tells k m) [
  | inl is_it ↦
      let P : ℕ → Type 0 = λ i. base ≤ i in
      let least : base ≤ m = subst P is_it.1 low in
      let came = was_there (state m) (chunk_numbered old m) (there least) (so.says m least) in
      ap (λ i. chunk_numbered (old ++ record { number = m; chunk = chunk } ∷ []) i) is_it.1
      ∙ more_there old (record { number = m; chunk = chunk }) m came.0 came.1 ∙ sym came.1
      ∙ ap (λ i. chunk_numbered old i) (sym is_it.1)
  | inr not_it ↦ more_other old (record { number = m; chunk = chunk }) k (λ e. not_it.1 (sym e))
]

-- a passage goes on
goes_on : (base : ℕ) (old new : ChunkPassage) (so : IsSoundPassage base old) (found : Option (List ℕ))
    (after : TsnWindowState) (arrivals : List NumberedChunk) → new.flow.window ≡ Some after →
    new.number ≡ old.number + ahead (first_tsn old.flow.window) (first_tsn new.flow.window) →
    new.arrivals ≡ arrivals → new.messages ≡ old.messages ++ option_to_list found →
    Goes base old.number so.window after old.arrivals arrivals so.numbered found → IsSoundPassage base new
goes_on base old new so found after arrivals known number came told h =
    let was : first_tsn old.flow.window ≡ old.number % 2 ^ 32 = ap first_tsn so.known ∙ so.next in
    let is : first_tsn new.flow.window ≡ sequence_behind (old.number % 2 ^ 32) h.count =
    ap first_tsn known ∙ h.next ∙ ap (λ m. sequence_behind m h.count) so.next in
    let moved : ahead (first_tsn old.flow.window) (first_tsn new.flow.window) ≡ h.count =
    ap (λ m. ahead m (first_tsn new.flow.window)) was ∙ ap (λ m. ahead (old.number % 2 ^ 32) m) is
    ∙ ahead_more old.number h.count h.small in
    let there : new.number ≡ old.number + h.count = number ∙ ap (λ m. old.number + m) moved in
    let order = so.order in
    let P : ℕ → Type 0 = λ m. IsReassembled base (state_of m after.tsns) arrivals h.more in
    let Q : List NumberedChunk → Type 0 = λ l. IsReassembled base (state_of new.number after.tsns) l h.more in
    record {
      window = after;
      known = known;
      order = omega (arith, order, there);
      next = h.next ∙ ap (λ m. sequence_behind m h.count) so.next ∙ next_more old.number h.count
          ∙ ap (λ m. m % 2 ^ 32) (sym there);
      span = h.span;
      numbered = h.more;
      says = told ∙ ap (λ l. l ++ option_to_list found) (so.says ∙ sym h.same) ∙ h.says
          ∙ ap (λ l. map (message_numbered l) h.more) (sym came);
      sound = subst Q (sym came) (subst P (sym there) h.sound);
    }

same_window : (w v : TsnWindowState) → Some w ≡ Some v → w ≡ v
same_window w v e = cc

goes_reading : (base n at : ℕ) (before after : TsnWindowState) (chunk : SeenData) (old : List NumberedChunk)
    (messages : List NumberedMessage) (found : Option (List ℕ)) → base ≤ n → length before.tsns ≤ 65536 → at < 65536 →
    IsReassembled base (state_of n before.tsns) old messages → is_missing (tsn_at before.tsns at) ≡ true →
    is_clear_text chunk.payload_protocol ≡ true → TakesFragment before at chunk found after →
    Goes base n before after old (old ++ record { number = n + at; chunk = chunk } ∷ []) messages found
goes_reading base n at before after chunk old messages None order span near so missing clear h =
    goes_waiting base n at before after chunk old messages order span near so missing clear h
goes_reading base n at before after chunk old messages (Some message) order span near so missing clear h =
    goes_whole base n at before after chunk old messages message order span near so missing clear h

-- counting a chunk leaves the window
window_by : (b : Bool) (flow other : SctpFlowState) → flow.window ≡ other.window →
    (if b then flow else other).window ≡ other.window
window_by true flow other e = e
window_by false flow other e = refl

counted_window : (chunk : SeenData) (flow : SctpFlowState) → (without_chunk chunk flow).window ≡ flow.window
counted_window chunk flow =
    window_by (is_secured chunk.payload_protocol)
    (record flow { secured = more_passed flow.secured (length chunk.user_data) })
    (record flow { passed = more_passed flow.passed (length chunk.user_data) }) refl

-- a chunk that is wanted
record GoesTo (base : ℕ) (old : ChunkPassage) (so : IsSoundPassage base old) (new : SctpFlowState)
    (arrivals : List NumberedChunk) (found : Option (List ℕ)) : Type 0 where
  after : TsnWindowState
  known : new.window ≡ Some after
  goes : Goes base old.number so.window after old.arrivals arrivals so.numbered found

wanted : (base : ℕ) (old : ChunkPassage) (so : IsSoundPassage base old) (at : ℕ) (chunk : SeenData)
    (found : Option (List ℕ)) (new : SctpFlowState) → HasRoomAt so.window at (length chunk.user_data) →
    TakesWanted old.flow at chunk found new →
    GoesTo base old so new (old.arrivals ++ record { number = old.number + at; chunk = chunk } ∷ []) found
wanted base old so at chunk found new room (inl h) =
    let same = same_window h.before so.window (sym h.known ∙ so.known) in
    let P : TsnWindowState → Type 0 = λ w. TakesFragment w at chunk found h.after in
    record {
      after = h.after;
      known = ap (λ (f : SctpFlowState). f.window) h.others;
      goes = goes_reading base old.number at so.window h.after chunk old.arrivals so.numbered found so.order so.span
          room.near so.sound room.missing h.clear (subst P same h.takes);
    }
wanted base old so at chunk found new room (inr h) =
    let same = same_window h.before so.window (sym h.known ∙ so.known) in
    let P : TsnWindowState → Type 0 = λ w. FinishesTsns w at 1 h.after in
    record {
      after = h.after;
      known = ap (λ (f : SctpFlowState). f.window) h.others ∙ counted_window chunk (record old.flow { window = Some h.after });
      goes = goes_past base old.number at so.window h.after chunk old.arrivals so.numbered found so.order so.span
          room.near so.sound room.missing h.other (subst P same h.finishes) h.none;
    }

-- a repetition
again_missing : (base : ℕ) (old : ChunkPassage) (so : IsSoundPassage base old) (tsn : ℕ) → 2 ^ 32 ≤ base →
    tsn < 2 ^ 32 →
    ((ahead so.window.next tsn < 65536) × (is_missing (tsn_at so.window.tsns (ahead so.window.next tsn)) ≡ false))
    ⊎ ((0 < ahead so.window.next tsn) × (ahead tsn so.window.next ≤ 65536)) →
    is_missing (state_of old.number so.window.tsns (number_near old.number tsn)) ≡ false
again_missing base old so tsn least fits (inl h) =
    let is = so.next in
    let a = ahead (old.number % 2 ^ 32) tsn in
    let same : ahead so.window.next tsn ≡ a = ap (λ m. ahead m tsn) is in
    let near = near_ahead old.number tsn (omega (arith, h, same)) in
    let low : old.number ≤ number_near old.number tsn = omega (arith, near) in
    let place : number_near old.number tsn - old.number ≡ ahead so.window.next tsn = omega (arith, near, same) in
    ap is_missing (state_from old.number so.window.tsns (number_near old.number tsn) low
    ∙ ap (λ j. tsn_at so.window.tsns j) place) ∙ h.1
again_missing base old so tsn least fits (inr h) =
    let is = so.next in
    let same : ahead so.window.next tsn ≡ ahead (old.number % 2 ^ 32) tsn = ap (λ m. ahead m tsn) is in
    let back : ahead tsn so.window.next ≡ ahead tsn (old.number % 2 ^ 32) = ap (λ m. ahead tsn m) is in
    let order = so.order in
    let less = near_before old.number tsn (omega (arith, order, least)) fits (omega (arith, h, same))
    (omega (arith, h, back)) in
    ap is_missing (state_before old.number so.window.tsns (number_near old.number tsn) less)

-- by where the chunk belongs
goes_by : (base : ℕ) (place : ChunkPlace) (old : ChunkPassage) (so : IsSoundPassage base old) (chunk : SeenData)
    (found : Option (List ℕ)) (new : SctpFlowState) → 2 ^ 32 ≤ base → chunk.tsn < 2 ^ 32 →
    place_in_flow old.flow.window chunk ≡ place → place ≢ Astray → TakesAt place old.flow chunk found new →
    GoesTo base old so new
    (old.arrivals ++ record { number = number_near old.number chunk.tsn; chunk = chunk } ∷ []) found
goes_by base (Wanted at) old so chunk found new least fits is stays_here h =
    let here : chunk_place so.window chunk.tsn (length chunk.user_data) ≡ Wanted at =
    sym (ap (λ w. place_in_flow w chunk) so.known) ∙ is in
    let room = room_at so.window chunk.tsn (length chunk.user_data) at here in
    let ahead_is : ahead (old.number % 2 ^ 32) chunk.tsn ≡ at =
    sym (ap (λ m. ahead m chunk.tsn) so.next)
    ∙ wanted_at so.window chunk.tsn (length chunk.user_data) at here in
    let near = room.near in
    let number : old.number + at ≡ number_near old.number chunk.tsn =
    sym (near_ahead old.number chunk.tsn (omega (arith, ahead_is, near)) ∙ ap (λ m. old.number + m) ahead_is) in
    let P : ℕ → Type 0 = λ m.
    GoesTo base old so new (old.arrivals ++ record { number = m; chunk = chunk } ∷ []) found in
    subst P number (wanted base old so at chunk found new room h)
goes_by base Repeated old so chunk found new least fits is stays_here h =
    let here : chunk_place so.window chunk.tsn (length chunk.user_data) ≡ Repeated =
    sym (ap (λ w. place_in_flow w chunk) so.known) ∙ is in
    let there = again_missing base old so chunk.tsn least fits
    (again_at so.window chunk.tsn (length chunk.user_data) here) in
    let arrivals = old.arrivals ++ record { number = number_near old.number chunk.tsn; chunk = chunk } ∷ [] in
    let all = goes_again base (number_near old.number chunk.tsn) (state_of old.number so.window.tsns) chunk
    old.arrivals so.numbered so.sound (λ low. there) in
    let P : ℕ → Type 0 = λ m. IsReassembled base (state_of m so.window.tsns) arrivals so.numbered in
    let same_number : old.number ≡ old.number + 0 = omega arith in
    record {
      after = so.window;
      known = ap (λ (f : SctpFlowState). f.window) h.0 ∙ so.known;
      goes = record {
        count = 0;
        next = refl;
        small = omega arith;
        span = so.span;
        more = so.numbered;
        says = ap (λ f. map (message_numbered arrivals) so.numbered ++ option_to_list f) h.1
            ∙ append-nil (map (message_numbered arrivals) so.numbered);
        same = same_octets_stay base (state_of old.number so.window.tsns) old.arrivals arrivals so.numbered so.sound all;
        sound = subst P same_number
            (stays base (state_of old.number so.window.tsns) old.arrivals arrivals so.numbered so.sound all);
      };
    }
goes_by base Astray old so chunk found new least fits is stays_here h = absurd (stays_here refl)

step : (base : ℕ) (old new : ChunkPassage) → 2 ^ 32 ≤ base → IsSoundPassage base old → ChunksGoOn old new →
    IsSoundPassage base new
step base old new least so b =
    let h = goes_by base (place_in_flow old.flow.window b.chunk) old so b.chunk b.found new.flow least b.fits refl
    b.stays b.takes in
    goes_on base old new so b.found h.after
    (old.arrivals ++ record { number = number_near old.number b.chunk.tsn; chunk = b.chunk } ∷ [])
    h.known b.number b.arrivals b.messages h.goes

all_steps : (base : ℕ) (old : ChunkPassage) (later : List ChunkPassage) (now : ChunkPassage) → 2 ^ 32 ≤ base →
    IsSoundPassage base old → ChunksFollow old later now → IsSoundPassage base now
all_steps base old [] now least so e = subst (IsSoundPassage base) e so
all_steps base old (next ∷ later) now least so h =
    all_steps base next later now least (step base old next least so h.0) h.1

begun_sound : (base : ℕ) (p : ChunkPassage) → BeginsChunks base p → IsSoundPassage base p
begun_sound base p b =
    let number = b.number in
    let P : List NumberedChunk → Type 0 = λ l. IsReassembled base (state_of p.number []) l [] in
    record {
      window = begun_window (base % 2 ^ 32);
      known = b.window;
      order = omega (arith, number);
      next = ap (λ n. n % 2 ^ 32) (sym b.number);
      span = omega arith;
      numbered = [];
      says = b.messages;
      sound = subst P (sym b.arrivals) (none_came base (state_of p.number []) (λ k low.
          state_from p.number [] k (omega (arith, number, low))));
    }

pub each_handed_out : EachUserMessageIsHandedOut
each_handed_out base begun later now least begins follows =
    let so = all_steps base begun later now least (begun_sound base begun begins) follows in
    record {
      numbered = so.numbered;
      says = so.says;
      each = so.sound.each;
      all = so.sound.all;
      once = so.sound.once;
    }
