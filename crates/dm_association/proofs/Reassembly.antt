-- Chunks come one by one, and what was handed out are their user messages.
use Rattle.std.proofs.Common.{◌≡◌, ◌≢◌, ◌≤◌, ◌<◌, ◌⊎◌, inl, inr, ℕ, ◌+◌, eqb, if◌then◌else◌, true, false, Option, None, Some, List, [], ◌∷◌, ◌++◌, map, length, slice_get, refl, sym, ◌∙◌, ap, subst, arith}
use Rattle.std.proofs.lemmas.Bool.{cases_lt}
use Rattle.std.proofs.lemmas.Bool.Decides.{eqb_tells}
use Rattle.dm_flows.specs.Sctps.{SeenData}
use Rattle.dm_association.specs.declared.marks.ChunkMarks.{ChunkMarks}
use Rattle.dm_association.specs.declared.tsn_state.TsnState.{TsnState}
use Rattle.dm_association.specs.declared.tsn_state.TsnState.TheVariants.{Missing, Done, Held}
use Rattle.dm_association.specs.Fragments.{FragmentState, chunk_marks, fragment_of, marks_in_message, IsUserMessage, user_message}
use Rattle.dm_association.specs.Reassembly.{NumberedChunk, chunk_numbered, marks_read, octets_read, marks_numbered, octets_numbered, NumberedMessage, message_numbered, IsAmongMessages}
use Rattle.dm_association.specs.SctpFlows.{is_clear_text}
use Rattle.dm_association.specs.TsnWindows.{held_marks, slot_octets}
use Rattle.dm_association.proofs.ChunkLists.{get_more, get_last, get_either, map_same, same_message, same_octets}
use Rattle.dm_association.proofs.OneMessage.{one_user_message}
use Rattle.dm_association.proofs.TsnLists.{chosen_yes, chosen_no}

-- what is kept of a number says what came of it
abbrev pub SaysChunk : TsnState → Option SeenData → Type 0
SaysChunk Missing o = o ≡ None
SaysChunk Done o = (chunk : SeenData) × (o ≡ Some chunk)
SaysChunk (Held fragment) o =
    (chunk : SeenData) × (o ≡ Some chunk) × (is_clear_text chunk.payload_protocol ≡ true)
    × (fragment_of chunk ≡ fragment)

abbrev pub HasNumber : NumberedMessage → ℕ → Type 0
HasNumber m k = (m.first ≤ k) × (k < m.first + m.count)

-- what holds whatever came: the messages so far are the user messages, and what is done and was read is in one of them
pub record IsReassembled (base : ℕ) (state : ℕ → TsnState) (arrivals : List NumberedChunk)
    (messages : List NumberedMessage) : Type 0 where
  pub says : (k : ℕ) → base ≤ k → SaysChunk (state k) (chunk_numbered arrivals k)
  pub each : (m : NumberedMessage) → IsAmongMessages messages m →
      (base ≤ m.first) × IsUserMessage (marks_numbered arrivals) m.first m.count
  pub all : (m : NumberedMessage) → base ≤ m.first → IsUserMessage (marks_numbered arrivals) m.first m.count →
      IsAmongMessages messages m
  pub once : (i j : ℕ) (m : NumberedMessage) → slice_get messages i ≡ Some m → slice_get messages j ≡ Some m → i ≡ j
  pub done : (k : ℕ) (marks : ChunkMarks) → base ≤ k → state k ≡ Done → marks_numbered arrivals k ≡ Some marks →
      (m : NumberedMessage) × IsAmongMessages messages m × HasNumber m k

-- nothing came
pub none_came : (base : ℕ) (state : ℕ → TsnState) → ((k : ℕ) → base ≤ k → state k ≡ Missing) →
    IsReassembled base state [] []
none_came base state missing = record {
  says = λ k low.
      let P : TsnState → Type 0 = λ s. SaysChunk s None in subst P (sym (missing k low)) refl;
  each = λ m among. absurd (nothing_at m among.1);
  all = λ m low whole. absurd (nothing_whole m whole);
  once = λ i j m here there. absurd (nothing_at m here);
  done = λ k marks low is there. absurd (nothing_told marks there);
}
  where
    nothing_at : (m : NumberedMessage) → ◌≡◌ {A = Option NumberedMessage} None (Some m) → ⊥
    nothing_at m e = cc

    nothing_told : (marks : ChunkMarks) → ◌≡◌ {A = Option ChunkMarks} None (Some marks) → ⊥
    nothing_told marks e = cc

    nothing_whole : (m : NumberedMessage) → IsUserMessage (marks_numbered []) m.first m.count → ⊥
    nothing_whole m whole =
        nothing_told (marks_in_message m.first m.count whole.stream m.first)
        (whole.each m.first (omega arith) (omega (arith, whole.some)))

-- a chunk of a number came that was missing
pub record ComesAt (base a : ℕ) (state : ℕ → TsnState) (chunk : SeenData) (old new : List NumberedChunk) : Type 0 where
  pub low : base ≤ a
  pub missing : state a ≡ Missing
  pub here : chunk_numbered new a ≡ Some chunk
  pub others : (k : ℕ) → base ≤ k → k ≢ a → chunk_numbered new k ≡ chunk_numbered old k

other_marks : (base a : ℕ) (state : ℕ → TsnState) (chunk : SeenData) (old new : List NumberedChunk) →
    ComesAt base a state chunk old new → (k : ℕ) → base ≤ k → k ≢ a → marks_numbered new k ≡ marks_numbered old k
other_marks base a state chunk old new c k low not_it = ap marks_read (c.others k low not_it)

was_none : (base a : ℕ) (state : ℕ → TsnState) (chunk : SeenData) (old new : List NumberedChunk)
    (messages : List NumberedMessage) → IsReassembled base state old messages → ComesAt base a state chunk old new →
    marks_numbered old a ≡ None
was_none base a state chunk old new messages so c =
    let P : TsnState → Type 0 = λ s. SaysChunk s (chunk_numbered old a) in
    ap marks_read (subst P c.missing (so.says a c.low))

told_none : (seen : ℕ → Option ChunkMarks) (m : NumberedMessage) (a : ℕ) → IsUserMessage seen m.first m.count →
    seen a ≡ None → HasNumber m a → ⊥
told_none seen m a whole none has = clash (marks_in_message m.first m.count whole.stream a)
    (sym none ∙ whole.each a has.0 has.1)
  where
    clash : (marks : ChunkMarks) → ◌≡◌ {A = Option ChunkMarks} None (Some marks) → ⊥
    clash marks e = cc

not_the_number : (m : NumberedMessage) (a k : ℕ) → (HasNumber m a → ⊥) → m.first ≤ k → k < m.first + m.count → k ≢ a
not_the_number m a k not_it low high e =
    let P : ℕ → Type 0 = λ n. HasNumber m n in not_it (subst P e (low, high))

-- the messages so far stay
message_stays : (base a : ℕ) (state : ℕ → TsnState) (chunk : SeenData) (old new : List NumberedChunk)
    (messages : List NumberedMessage) → IsReassembled base state old messages → ComesAt base a state chunk old new →
    (m : NumberedMessage) → base ≤ m.first → IsUserMessage (marks_numbered old) m.first m.count →
    IsUserMessage (marks_numbered new) m.first m.count
message_stays base a state chunk old new messages so c m low whole =
    let not_it = told_none (marks_numbered old) m a whole (was_none base a state chunk old new messages so c) in
    same_message (marks_numbered old) (marks_numbered new) m.first m.count
    (λ k from till.
    other_marks base a state chunk old new c k (omega arith) (not_the_number m a k not_it from till)) whole

-- and one that hasn't the chunk was one before
message_was : (base a : ℕ) (state : ℕ → TsnState) (chunk : SeenData) (old new : List NumberedChunk) →
    ComesAt base a state chunk old new → (m : NumberedMessage) → base ≤ m.first →
    IsUserMessage (marks_numbered new) m.first m.count → (HasNumber m a → ⊥) →
    IsUserMessage (marks_numbered old) m.first m.count
message_was base a state chunk old new c m low whole not_it =
    same_message (marks_numbered new) (marks_numbered old) m.first m.count
    (λ k from till.
    sym (other_marks base a state chunk old new c k (omega arith) (not_the_number m a k not_it from till))) whole

-- what is seen with a chunk at a number, and what waits
abbrev pub seen_with : (ℕ → TsnState) → ℕ → ChunkMarks → ℕ → Option ChunkMarks
seen_with state a own k = if eqb k a then Some own else held_marks (state k)

abbrev pub octets_seen : (ℕ → TsnState) → ℕ → List ℕ → ℕ → List ℕ
octets_seen state a own k = if eqb k a then own else slot_octets (state k)

read_held : (chunk : SeenData) (o : Option SeenData) → o ≡ Some chunk →
    is_clear_text chunk.payload_protocol ≡ true → marks_read o ≡ Some (chunk_marks chunk)
read_held chunk o is clear =
    ap marks_read is
    ∙ chosen_yes (is_clear_text chunk.payload_protocol) (Some (chunk_marks chunk)) None clear

-- of what waits the marks and octets are those that came
held_came : (s : TsnState) (o : Option SeenData) (marks : ChunkMarks) → SaysChunk s o → held_marks s ≡ Some marks →
    (marks_read o ≡ Some marks) × (octets_read o ≡ slot_octets s)
held_came Missing o marks says e = cc
held_came Done o marks says e = cc
held_came (Held f) o marks says e =
    let mine : Some (chunk_marks says.0) ≡ Some f.marks = ap (λ (g : FragmentState). Some g.marks) says.3 in (
      read_held says.0 o says.1 says.2 ∙ mine ∙ e,
      ap octets_read says.1 ∙ ap (λ (g : FragmentState). g.octets) says.3,
    )

-- in a user message with the chunk the others wait
others_wait : (base a : ℕ) (state : ℕ → TsnState) (chunk : SeenData) (old new : List NumberedChunk)
    (messages : List NumberedMessage) → IsReassembled base state old messages → ComesAt base a state chunk old new →
    (m : NumberedMessage) → base ≤ m.first → IsUserMessage (marks_numbered new) m.first m.count → HasNumber m a →
    (k : ℕ) → m.first ≤ k → k < m.first + m.count → k ≢ a →
    (s : TsnState) → state k ≡ s → held_marks s ≡ marks_numbered new k
others_wait base a state chunk old new messages so c m low whole has k from till not_it Missing is =
    let P : TsnState → Type 0 = λ s. SaysChunk s (chunk_numbered old k) in
    let none = ap marks_read (subst P is (so.says k (omega arith))) in
    sym none ∙ sym (other_marks base a state chunk old new c k (omega arith) not_it)
others_wait base a state chunk old new messages so c m low whole has k from till not_it Done is =
    let marks = marks_in_message m.first m.count whole.stream k in
    let there = sym (other_marks base a state chunk old new c k (omega arith) not_it) ∙ whole.each k from till in
    let told = so.done k marks (omega arith) is there in
    let is_one = so.each told.0 told.1 in
    let stays = message_stays base a state chunk old new messages so c told.0 is_one.0 is_one.1 in
    let same_one = one_user_message (marks_numbered new) k m.first m.count told.0.first told.0.count
    whole from till stays told.2.0 told.2.1 in
    absurd (told_none (marks_numbered old) told.0 a is_one.1 (was_none base a state chunk old new messages so c)
    (has_too m told.0 a same_one.0 same_one.1 has))
  where
    has_too : (m n : NumberedMessage) (a : ℕ) → m.first ≡ n.first → m.count ≡ n.count → HasNumber m a → HasNumber n a
    has_too m n a first count h = (omega (arith, h, first), omega (arith, h, first, count))
others_wait base a state chunk old new messages so c m low whole has k from till not_it (Held f) is =
    let P : TsnState → Type 0 = λ s. SaysChunk s (chunk_numbered old k) in
    let came = held_came (Held f) (chunk_numbered old k) f.marks (subst P is (so.says k (omega arith))) refl in
    sym came.0 ∙ sym (other_marks base a state chunk old new c k (omega arith) not_it)

-- so it is one of what is seen with the chunk
pub whole_seen : (base a : ℕ) (state : ℕ → TsnState) (chunk : SeenData) (old new : List NumberedChunk)
    (messages : List NumberedMessage) → IsReassembled base state old messages → ComesAt base a state chunk old new →
    is_clear_text chunk.payload_protocol ≡ true → (m : NumberedMessage) → base ≤ m.first →
    IsUserMessage (marks_numbered new) m.first m.count → HasNumber m a →
    IsUserMessage (seen_with state a (chunk_marks chunk)) m.first m.count
whole_seen base a state chunk old new messages so c clear m low whole has =
    same_message (marks_numbered new) (seen_with state a (chunk_marks chunk)) m.first m.count seen whole
  where
    seen : (k : ℕ) → m.first ≤ k → k < m.first + m.count →
        seen_with state a (chunk_marks chunk) k ≡ marks_numbered new k
    seen k from till = elim (eqb_tells k a) [
      | inl is_it ↦
          chosen_yes (eqb k a) (Some (chunk_marks chunk)) (held_marks (state k)) is_it.0
          ∙ sym (read_held chunk (chunk_numbered new a) c.here clear)
          ∙ ap (λ n. marks_numbered new n) (sym is_it.1)
      | inr not_it ↦
          chosen_no (eqb k a) (Some (chunk_marks chunk)) (held_marks (state k)) not_it.0
          ∙ others_wait base a state chunk old new messages so c m low whole has k from till not_it.1 (state k) refl
    ]

-- a list of messages stays that of the user messages
each_stays : (base a : ℕ) (state : ℕ → TsnState) (chunk : SeenData) (old new : List NumberedChunk)
    (messages : List NumberedMessage) → IsReassembled base state old messages → ComesAt base a state chunk old new →
    (m : NumberedMessage) → IsAmongMessages messages m →
    (base ≤ m.first) × IsUserMessage (marks_numbered new) m.first m.count
each_stays base a state chunk old new messages so c m among =
    let is_one = so.each m among in
    (is_one.0, message_stays base a state chunk old new messages so c m is_one.0 is_one.1)

-- whether a message has the number
has_or_not : (m : NumberedMessage) (a : ℕ) → HasNumber m a ⊎ (HasNumber m a → ⊥)
has_or_not m a = elim (cases_lt a m.first) [
  | inl less ↦ inr (λ has. omega (arith, has, less))
  | inr low ↦ elim (cases_lt a (m.first + m.count)) [
    | inl high ↦ inl (low, high)
    | inr more ↦ inr (λ has. omega (arith, has, more))
  ]
]

-- what was kept of other numbers says the same
says_other : (base a : ℕ) (state : ℕ → TsnState) (chunk : SeenData) (old new : List NumberedChunk)
    (messages : List NumberedMessage) → IsReassembled base state old messages → ComesAt base a state chunk old new →
    (k : ℕ) → base ≤ k → k ≢ a → SaysChunk (state k) (chunk_numbered new k)
says_other base a state chunk old new messages so c k low not_it =
    let P : Option SeenData → Type 0 = λ o. SaysChunk (state k) o in
    subst P (sym (c.others k low not_it)) (so.says k low)

-- the chunk waits
pub holds : (base a : ℕ) (state next : ℕ → TsnState) (chunk : SeenData) (old new : List NumberedChunk)
    (messages : List NumberedMessage) → IsReassembled base state old messages → ComesAt base a state chunk old new →
    is_clear_text chunk.payload_protocol ≡ true →
    ((m : NumberedMessage) → HasNumber m a → IsUserMessage (seen_with state a (chunk_marks chunk)) m.first m.count → ⊥) →
    next a ≡ Held (fragment_of chunk) → ((k : ℕ) → k ≢ a → next k ≡ state k) →
    IsReassembled base next new messages
holds base a state next chunk old new messages so c clear none at others = record {
  says = says;
  each = each_stays base a state chunk old new messages so c;
  all = all;
  once = so.once;
  done = done;
}
  where
    says : (k : ℕ) → base ≤ k → SaysChunk (next k) (chunk_numbered new k)
    says k low = elim (eqb_tells k a) [
      | inl is_it ↦
          let P : ℕ → Type 0 = λ n. SaysChunk (next n) (chunk_numbered new n) in
          let Q : TsnState → Type 0 = λ s. SaysChunk s (chunk_numbered new a) in
          subst P (sym is_it.1) (subst Q (sym at) (chunk, c.here, clear, refl))
      | inr not_it ↦
          let Q : TsnState → Type 0 = λ s. SaysChunk s (chunk_numbered new k) in
          subst Q (sym (others k not_it.1)) (says_other base a state chunk old new messages so c k low not_it.1)
    ]

    all : (m : NumberedMessage) → base ≤ m.first → IsUserMessage (marks_numbered new) m.first m.count →
        IsAmongMessages messages m
    all m low whole = elim (has_or_not m a) [
      | inl has ↦ absurd (none m has (whole_seen base a state chunk old new messages so c clear m low whole has))
      | inr not_it ↦ so.all m low (message_was base a state chunk old new c m low whole not_it)
    ]

    never : Held (fragment_of chunk) ≡ Done → ⊥
    never e = cc

    done : (k : ℕ) (marks : ChunkMarks) → base ≤ k → next k ≡ Done → marks_numbered new k ≡ Some marks →
        (m : NumberedMessage) × IsAmongMessages messages m × HasNumber m k
    done k marks low is there = elim (eqb_tells k a) [
      | inl is_it ↦ absurd (never (sym at ∙ ap next (sym is_it.1) ∙ is))
      | inr not_it ↦
          so.done k marks low (sym (others k not_it.1) ∙ is)
          (sym (other_marks base a state chunk old new c k low not_it.1) ∙ there)
    ]

-- the chunk isn't read
pub passes : (base a : ℕ) (state next : ℕ → TsnState) (chunk : SeenData) (old new : List NumberedChunk)
    (messages : List NumberedMessage) → IsReassembled base state old messages → ComesAt base a state chunk old new →
    is_clear_text chunk.payload_protocol ≡ false → next a ≡ Done → ((k : ℕ) → k ≢ a → next k ≡ state k) →
    IsReassembled base next new messages
passes base a state next chunk old new messages so c other at others = record {
  says = says;
  each = each_stays base a state chunk old new messages so c;
  all = all;
  once = so.once;
  done = done;
}
  where
    unread : marks_numbered new a ≡ None
    unread =
        ap marks_read c.here
        ∙ chosen_no (is_clear_text chunk.payload_protocol) (Some (chunk_marks chunk)) None other

    says : (k : ℕ) → base ≤ k → SaysChunk (next k) (chunk_numbered new k)
    says k low = elim (eqb_tells k a) [
      | inl is_it ↦
          let P : ℕ → Type 0 = λ n. SaysChunk (next n) (chunk_numbered new n) in
          let Q : TsnState → Type 0 = λ s. SaysChunk s (chunk_numbered new a) in
          subst P (sym is_it.1) (subst Q (sym at) (chunk, c.here))
      | inr not_it ↦
          let Q : TsnState → Type 0 = λ s. SaysChunk s (chunk_numbered new k) in
          subst Q (sym (others k not_it.1)) (says_other base a state chunk old new messages so c k low not_it.1)
    ]

    all : (m : NumberedMessage) → base ≤ m.first → IsUserMessage (marks_numbered new) m.first m.count →
        IsAmongMessages messages m
    all m low whole =
        so.all m low (message_was base a state chunk old new c m low whole
        (told_none (marks_numbered new) m a whole unread))

    clash : (marks : ChunkMarks) → ◌≡◌ {A = Option ChunkMarks} None (Some marks) → ⊥
    clash marks e = cc

    done : (k : ℕ) (marks : ChunkMarks) → base ≤ k → next k ≡ Done → marks_numbered new k ≡ Some marks →
        (m : NumberedMessage) × IsAmongMessages messages m × HasNumber m k
    done k marks low is there = elim (eqb_tells k a) [
      | inl is_it ↦ absurd (clash marks (sym unread ∙ ap (λ n. marks_numbered new n) (sym is_it.1) ∙ there))
      | inr not_it ↦
          so.done k marks low (sym (others k not_it.1) ∙ is)
          (sym (other_marks base a state chunk old new c k low not_it.1) ∙ there)
    ]

-- the chunk completes a message
came_whole : (base a : ℕ) (state : ℕ → TsnState) (chunk : SeenData) (old new : List NumberedChunk)
    (messages : List NumberedMessage) → IsReassembled base state old messages → ComesAt base a state chunk old new →
    is_clear_text chunk.payload_protocol ≡ true → (m : NumberedMessage) → base ≤ m.first →
    IsUserMessage (seen_with state a (chunk_marks chunk)) m.first m.count → (k : ℕ) → m.first ≤ k →
    k < m.first + m.count →
    (marks_numbered new k ≡ seen_with state a (chunk_marks chunk) k)
    × (octets_numbered new k ≡ octets_seen state a chunk.user_data k)
came_whole base a state chunk old new messages so c clear m low whole k from till = elim (eqb_tells k a) [
  | inl is_it ↦ (
    ap (λ n. marks_numbered new n) is_it.1 ∙ read_held chunk (chunk_numbered new a) c.here clear
        ∙ sym (chosen_yes (eqb k a) (Some (chunk_marks chunk)) (held_marks (state k)) is_it.0),
    ap (λ n. octets_numbered new n) is_it.1 ∙ ap octets_read c.here
        ∙ sym (chosen_yes (eqb k a) chunk.user_data (slot_octets (state k)) is_it.0),
  )
  | inr not_it ↦
      let there = sym (chosen_no (eqb k a) (Some (chunk_marks chunk)) (held_marks (state k)) not_it.0)
      ∙ whole.each k from till in
      let came = held_came (state k) (chunk_numbered old k) (marks_in_message m.first m.count whole.stream k)
      (so.says k (omega arith)) there in (
        other_marks base a state chunk old new c k (omega arith) not_it.1 ∙ came.0 ∙ sym there
            ∙ sym (chosen_no (eqb k a) (Some (chunk_marks chunk)) (held_marks (state k)) not_it.0),
        ap octets_read (c.others k (omega arith) not_it.1) ∙ came.1
            ∙ sym (chosen_no (eqb k a) chunk.user_data (slot_octets (state k)) not_it.0),
      )
]

abbrev numbers : ℕ → ℕ → NumberedMessage
numbers first count = record { first = first; count = count }

same_numbers : (m n : NumberedMessage) → m.first ≡ n.first → m.count ≡ n.count → m ≡ n
same_numbers m n first count = ap (λ f. numbers f m.count) first ∙ ap (λ c. numbers n.first c) count

pub completes : (base a : ℕ) (state next : ℕ → TsnState) (chunk : SeenData) (old new : List NumberedChunk)
    (messages : List NumberedMessage) → IsReassembled base state old messages → ComesAt base a state chunk old new →
    is_clear_text chunk.payload_protocol ≡ true → (m : NumberedMessage) → base ≤ m.first → HasNumber m a →
    IsUserMessage (seen_with state a (chunk_marks chunk)) m.first m.count →
    ((k : ℕ) → HasNumber m k → next k ≡ Done) → ((k : ℕ) → (HasNumber m k → ⊥) → next k ≡ state k) →
    IsReassembled base next new (messages ++ m ∷ [])
completes base a state next chunk old new messages so c clear m low has whole at others = record {
  says = says;
  each = λ n among. each n among.0 (get_either messages m n among.0 among.1);
  all = all;
  once = λ i j n here there. once i j n (get_either messages m n i here) (get_either messages m n j there);
  done = done;
}
  where
    came : (k : ℕ) → m.first ≤ k → k < m.first + m.count →
        (marks_numbered new k ≡ seen_with state a (chunk_marks chunk) k)
        × (octets_numbered new k ≡ octets_seen state a chunk.user_data k)
    came k from till = came_whole base a state chunk old new messages so c clear m low whole k from till

    is_new : IsUserMessage (marks_numbered new) m.first m.count
    is_new =
        same_message (seen_with state a (chunk_marks chunk)) (marks_numbered new) m.first m.count
        (λ k from till. (came k from till).0) whole

    last : IsAmongMessages (messages ++ m ∷ []) m
    last = (length messages, get_last messages m)

    not_other : (k : ℕ) → (HasNumber m k → ⊥) → k ≢ a
    not_other k not_it e =
        let P : ℕ → Type 0 = λ n. HasNumber m n in not_it (subst P (sym e) has)

    marks_there : (k : ℕ) → HasNumber m k → (marks : ChunkMarks) × (marks_numbered new k ≡ Some marks)
    marks_there k it = (marks_in_message m.first m.count is_new.stream k, is_new.each k it.0 it.1)

    says_done : (o : Option SeenData) (marks : ChunkMarks) → marks_read o ≡ Some marks → SaysChunk Done o
    says_done None marks e = cc
    says_done (Some chunk) marks e = (chunk, refl)

    says : (k : ℕ) → base ≤ k → SaysChunk (next k) (chunk_numbered new k)
    says k least = elim (has_or_not m k) [
      | inl is_it ↦
          let Q : TsnState → Type 0 = λ s. SaysChunk s (chunk_numbered new k) in
          let there = marks_there k is_it in
          subst Q (sym (at k is_it)) (says_done (chunk_numbered new k) there.0 there.1)
      | inr not_it ↦
          let Q : TsnState → Type 0 = λ s. SaysChunk s (chunk_numbered new k) in
          subst Q (sym (others k not_it))
          (says_other base a state chunk old new messages so c k least (not_other k not_it))
    ]

    each : (n : NumberedMessage) (i : ℕ) → (slice_get messages i ≡ Some n) ⊎ ((i ≡ length messages) × (m ≡ n)) →
        (base ≤ n.first) × IsUserMessage (marks_numbered new) n.first n.count
    each n i (inl among) = each_stays base a state chunk old new messages so c n (i, among)
    each n i (inr is) =
        let P : NumberedMessage → Type 0 =
        λ n. (base ≤ n.first) × IsUserMessage (marks_numbered new) n.first n.count in
        subst P is.1 (low, is_new)

    same_one : (n : NumberedMessage) → IsUserMessage (marks_numbered new) n.first n.count → HasNumber n a → m ≡ n
    same_one n other both =
        let e = one_user_message (marks_numbered new) a m.first m.count n.first n.count
        is_new has.0 has.1 other both.0 both.1 in
        same_numbers m n e.0 e.1

    all : (n : NumberedMessage) → base ≤ n.first → IsUserMessage (marks_numbered new) n.first n.count →
        IsAmongMessages (messages ++ m ∷ []) n
    all n least other = elim (has_or_not n a) [
      | inl both ↦
          let P : NumberedMessage → Type 0 = λ n. IsAmongMessages (messages ++ m ∷ []) n in
          subst P (same_one n other both) last
      | inr not_it ↦
          let was = so.all n least (message_was base a state chunk old new c n least other not_it) in
          (was.0, get_more messages m n was.0 was.1)
    ]

    not_yet : (i : ℕ) → slice_get messages i ≡ Some m → ⊥
    not_yet i e =
        told_none (marks_numbered old) m a (so.each m (i, e)).1
        (was_none base a state chunk old new messages so c) has

    once : (i j : ℕ) (n : NumberedMessage) → (slice_get messages i ≡ Some n) ⊎ ((i ≡ length messages) × (m ≡ n)) →
        (slice_get messages j ≡ Some n) ⊎ ((j ≡ length messages) × (m ≡ n)) → i ≡ j
    once i j n (inl here) (inl there) = so.once i j n here there
    once i j n (inl here) (inr is) = absurd (not_yet i (here ∙ ap Some (sym is.1)))
    once i j n (inr is) (inl there) = absurd (not_yet j (there ∙ ap Some (sym is.1)))
    once i j n (inr is) (inr also) = is.0 ∙ sym also.0

    done : (k : ℕ) (marks : ChunkMarks) → base ≤ k → next k ≡ Done → marks_numbered new k ≡ Some marks →
        (n : NumberedMessage) × IsAmongMessages (messages ++ m ∷ []) n × HasNumber n k
    done k marks least is there = elim (has_or_not m k) [
      | inl is_it ↦ (m, last, is_it)
      | inr not_it ↦
          let was = so.done k marks least (sym (others k not_it) ∙ is)
          (sym (other_marks base a state chunk old new c k least (not_other k not_it)) ∙ there) in
          (was.0, (was.1.0, get_more messages m was.0 was.1.0 was.1.1), was.2)
    ]

-- the octets of the messages so far stay, and the new one's are those that are seen with the chunk
pub octets_stay : (base a : ℕ) (state : ℕ → TsnState) (chunk : SeenData) (old new : List NumberedChunk)
    (messages : List NumberedMessage) → IsReassembled base state old messages → ComesAt base a state chunk old new →
    map (message_numbered new) messages ≡ map (message_numbered old) messages
octets_stay base a state chunk old new messages so c =
    map_same (message_numbered new) (message_numbered old) messages stays
  where
    stays : (m : NumberedMessage) → IsAmongMessages messages m → message_numbered new m ≡ message_numbered old m
    stays m among =
        let is_one = so.each m among in
        let not_it = told_none (marks_numbered old) m a is_one.1 (was_none base a state chunk old new messages so c) in
        same_octets (octets_numbered old) (octets_numbered new) m.first m.count
        (λ k from till.
        ap octets_read (c.others k (omega (arith, is_one)) (not_the_number m a k not_it from till)))

pub octets_are : (base a : ℕ) (state : ℕ → TsnState) (chunk : SeenData) (old new : List NumberedChunk)
    (messages : List NumberedMessage) → IsReassembled base state old messages → ComesAt base a state chunk old new →
    is_clear_text chunk.payload_protocol ≡ true → (m : NumberedMessage) → base ≤ m.first →
    IsUserMessage (seen_with state a (chunk_marks chunk)) m.first m.count →
    message_numbered new m ≡ user_message (octets_seen state a chunk.user_data) m.first m.count
octets_are base a state chunk old new messages so c clear m low whole =
    same_octets (octets_seen state a chunk.user_data) (octets_numbered new) m.first m.count
    (λ k from till. (came_whole base a state chunk old new messages so c clear m low whole k from till).1)

-- where what came of each number stays, all stays
pub stays : (base : ℕ) (state : ℕ → TsnState) (old new : List NumberedChunk) (messages : List NumberedMessage) →
    IsReassembled base state old messages →
    ((k : ℕ) → base ≤ k → chunk_numbered new k ≡ chunk_numbered old k) → IsReassembled base state new messages
stays base state old new messages so h = record {
  says = λ k low.
      let P : Option SeenData → Type 0 = λ o. SaysChunk (state k) o in subst P (sym (h k low)) (so.says k low);
  each = λ m among.
      let is_one = so.each m among in (
        is_one.0,
        same_message (marks_numbered old) (marks_numbered new) m.first m.count
            (λ k from till. ap marks_read (h k (omega (arith, is_one)))) is_one.1,
      );
  all = λ m low whole.
      so.all m low (same_message (marks_numbered new) (marks_numbered old) m.first m.count
      (λ k from till. ap marks_read (sym (h k (omega arith)))) whole);
  once = so.once;
  done = λ k marks low is there. so.done k marks low is (ap marks_read (sym (h k low)) ∙ there);
}

pub same_octets_stay : (base : ℕ) (state : ℕ → TsnState) (old new : List NumberedChunk)
    (messages : List NumberedMessage) → IsReassembled base state old messages →
    ((k : ℕ) → base ≤ k → chunk_numbered new k ≡ chunk_numbered old k) →
    map (message_numbered new) messages ≡ map (message_numbered old) messages
same_octets_stay base state old new messages so h =
    map_same (message_numbered new) (message_numbered old) messages
    (λ m among.
    let is_one = so.each m among in
    same_octets (octets_numbered old) (octets_numbered new) m.first m.count
    (λ k from till. ap octets_read (h k (omega (arith, is_one)))))
