-- Fragments around a place, and the user message that they are.
use Rattle.std.proofs.Common.{◌≡◌, ◌≢◌, ◌≤◌, ◌<◌, inl, inr, ℕ, suc, ◌+◌, ◌-◌, eqb, Bool, true, false, true≢false, not, ◌&&◌, Option, None, Some, List, length, refl, sym, ◌∙◌, ap, arith}
use Rattle.std.proofs.lemmas.Bool.{cases_lt}
use Rattle.std.proofs.lemmas.Bool.Decides.{eqb_tells, nat_tests}
use Rattle.dm_association.specs.declared.marks.ChunkMarks.{ChunkMarks}
use Rattle.dm_association.specs.declared.message_around.ChunkRun.{ChunkRun}
use Rattle.dm_association.specs.declared.tsn_state.TsnState.{TsnState}
use Rattle.dm_association.specs.Fragments.{marks_in_message, IsUserMessage}
use Rattle.dm_association.specs.MessageRuns.{marks_in_run, IsRunAround}
use Rattle.dm_association.specs.TsnWindows.{tsn_at, held_marks, marks_with, CompletesNone}
use Rattle.dm_association.proofs.TsnLists.{at_past, chosen_yes, chosen_no}

pub differ : (a b : ℕ) → a ≢ b → eqb a b ≡ false
differ a b h = grind (arith, nat_tests)

pub same : (a b : ℕ) → a ≡ b → eqb a b ≡ true
same a b h = grind (arith, nat_tests)

and_true : (b : Bool) → (b && true) ≡ b
and_true true = refl
and_true false = refl

and_false : (b : Bool) → (b && false) ≡ false
and_false true = refl
and_false false = refl

abbrev made : Bool → Bool → ℕ → ChunkMarks
made b e s = record { beginning = b; ending = e; stream = s }

-- what a chunk tells, if one is there
abbrev pub begins : Option ChunkMarks → Bool
begins None = false
begins (Some m) = m.beginning

abbrev pub ends : Option ChunkMarks → Bool
ends None = false
ends (Some m) = m.ending

abbrev stream_in : Option ChunkMarks → ℕ
stream_in None = 0
stream_in (Some m) = m.stream

never : (b : Bool) → b ≡ false → b ≡ true → ⊥
never b not_it is_it = true≢false (sym is_it ∙ not_it)

nothing_held : (tsns : List TsnState) (k : ℕ) (m : ChunkMarks) → held_marks (tsn_at tsns k) ≡ Some m →
    length tsns ≤ k → ⊥
nothing_held tsns k m there past =
    let none : held_marks (tsn_at tsns k) ≡ None = ap held_marks (at_past tsns k past) in cc

pub held_within : (tsns : List TsnState) (k : ℕ) (m : ChunkMarks) → held_marks (tsn_at tsns k) ≡ Some m → k < length tsns
held_within tsns k m there = elim (cases_lt k (length tsns)) [
  | inl less ↦ less
  | inr more ↦ absurd (nothing_held tsns k m there more)
]

-- what is seen at the place, and elsewhere
own_seen : (tsns : List TsnState) (at : ℕ) (own : ChunkMarks) → marks_with tsns at own at ≡ Some own
own_seen tsns at own = chosen_yes (eqb at at) (Some own) (held_marks (tsn_at tsns at)) (same at at refl)

other_seen : (tsns : List TsnState) (at : ℕ) (own : ChunkMarks) (k : ℕ) → k ≢ at →
    marks_with tsns at own k ≡ held_marks (tsn_at tsns k)
other_seen tsns at own k h = chosen_no (eqb k at) (Some own) (held_marks (tsn_at tsns k)) (differ k at h)

-- one chunk is a run
pub run_of_one : (tsns : List TsnState) (at : ℕ) (own : ChunkMarks) →
    IsRunAround tsns at own (record { first = at; last = at; begun = own.beginning; ended = own.ending })
run_of_one tsns at own = record {
  left = omega arith;
  right = omega arith;
  most = omega arith;
  each = λ k low high.
      let here : k ≡ at = omega arith in
      let e = same k at here in
      ap (λ n. marks_with tsns at own n) here ∙ own_seen tsns at own
      ∙ ap (λ b. Some (made (b && own.beginning) (b && own.ending) own.stream)) (sym e);
}

-- with a fragment before it
left_marks : (run : ChunkRun) (f : ℕ) (m : ChunkMarks) (stream : ℕ) → f < run.last → m.ending ≡ false →
    m.stream ≡ stream →
    m ≡ marks_in_run (record { first = f; last = run.last; begun = m.beginning; ended = run.ended }) stream f
left_marks run f m stream less ending of =
    let one = same f f refl in
    let none = differ f run.last (λ e. omega arith) in
    rw (one, none, ← ending, ← of)

pub run_left : (tsns : List TsnState) (at : ℕ) (own : ChunkMarks) (run : ChunkRun) (f : ℕ) (m : ChunkMarks) →
    IsRunAround tsns at own run → run.begun ≡ false → run.first ≡ f + 1 → held_marks (tsn_at tsns f) ≡ Some m →
    m.ending ≡ false → m.stream ≡ own.stream →
    IsRunAround tsns at own (record { first = f; last = run.last; begun = m.beginning; ended = run.ended })
run_left tsns at own run f m so begun is there ending of = record {
  left = omega (arith, so.left);
  right = so.right;
  most = so.most;
  each = λ k low high. elim (eqb_tells k f) [
    | inl is_it ↦
        ap (λ n. marks_with tsns at own n) is_it.1 ∙ other_seen tsns at own f (λ e. omega (arith, so.left)) ∙ there
        ∙ ap Some (left_marks run f m own.stream (omega (arith, so.left, so.right)) ending of)
        ∙ ap (λ n. Some (marks_in_run (record { first = f; last = run.last; begun = m.beginning; ended = run.ended })
        own.stream n)) (sym is_it.1)
    | inr not_it ↦
        so.each k (omega (arith, not_it.1)) high
        ∙ ap (λ b. Some (made b (eqb k run.last && run.ended) own.stream))
        (ap (λ b. eqb k run.first && b) begun ∙ and_false (eqb k run.first)
        ∙ sym (ap (λ b. b && m.beginning) not_it.0))
  ];
}

-- with a fragment behind it
right_marks : (run : ChunkRun) (l : ℕ) (m : ChunkMarks) (stream : ℕ) → run.first < l → m.beginning ≡ false →
    m.stream ≡ stream →
    m ≡ marks_in_run (record { first = run.first; last = l; begun = run.begun; ended = m.ending }) stream l
right_marks run l m stream less beginning of =
    let one = same l l refl in
    let none = differ l run.first (λ e. omega arith) in
    rw (one, none, ← beginning, ← of)

pub run_right : (tsns : List TsnState) (at : ℕ) (own : ChunkMarks) (run : ChunkRun) (l : ℕ) (m : ChunkMarks) →
    IsRunAround tsns at own run → run.ended ≡ false → l ≡ run.last + 1 → held_marks (tsn_at tsns l) ≡ Some m →
    m.beginning ≡ false → m.stream ≡ own.stream →
    IsRunAround tsns at own (record { first = run.first; last = l; begun = run.begun; ended = m.ending })
run_right tsns at own run l m so ended is there beginning of = record {
  left = so.left;
  right = omega (arith, so.right);
  most = omega (arith, held_within tsns l m there);
  each = λ k low high. elim (eqb_tells k l) [
    | inl is_it ↦
        ap (λ n. marks_with tsns at own n) is_it.1 ∙ other_seen tsns at own l (λ e. omega (arith, so.right)) ∙ there
        ∙ ap Some (right_marks run l m own.stream (omega (arith, so.left, so.right)) beginning of)
        ∙ ap (λ n. Some (marks_in_run (record { first = run.first; last = l; begun = run.begun; ended = m.ending })
        own.stream n)) (sym is_it.1)
    | inr not_it ↦
        so.each k low (omega (arith, not_it.1))
        ∙ ap (λ b. Some (made (eqb k run.first && run.begun) b own.stream))
        (ap (λ b. eqb k run.last && b) ended ∙ and_false (eqb k run.last)
        ∙ sym (ap (λ b. b && m.ending) not_it.0))
  ];
}

-- where both ends are there it is a user message
pub run_whole : (tsns : List TsnState) (at : ℕ) (own : ChunkMarks) (run : ChunkRun) → IsRunAround tsns at own run →
    run.begun ≡ true → run.ended ≡ true →
    IsUserMessage (marks_with tsns at own) run.first (run.last - run.first + 1)
run_whole tsns at own run so begun ended =
    let order : run.first ≤ run.last = omega (arith, so.left, so.right) in
    record {
      stream = own.stream;
      some = omega arith;
      each = λ k low high.
          let end : eqb k run.last ≡ eqb (suc k) (run.first + (run.last - run.first + 1)) = grind (arith, nat_tests) in
          so.each k low (omega arith)
          ∙ ap (λ b. Some (made b (eqb k run.last && run.ended) own.stream))
          (ap (λ b. eqb k run.first && b) begun ∙ and_true (eqb k run.first))
          ∙ ap (λ b. Some (made (eqb k run.first) b own.stream))
          (ap (λ b. eqb k run.last && b) ended ∙ and_true (eqb k run.last) ∙ end);
    }

-- a user message around the place is of the chunk's own stream
own_stream : (tsns : List TsnState) (at : ℕ) (own : ChunkMarks) (first count : ℕ) →
    (message : IsUserMessage (marks_with tsns at own) first count) → first ≤ at → at < first + count →
    message.stream ≡ own.stream
own_stream tsns at own first count message low high =
    ap stream_in (sym (message.each at low high) ∙ own_seen tsns at own)

-- and goes on before a run that doesn't begin
pub record WantsLeft (tsns : List TsnState) (own : ChunkMarks) (run : ChunkRun) : Type 0 where
  pub some : 0 < run.first
  pub marks : ChunkMarks
  pub there : held_marks (tsn_at tsns (run.first - 1)) ≡ Some marks
  pub ending : marks.ending ≡ false
  pub stream : marks.stream ≡ own.stream

begins_before : (tsns : List TsnState) (at : ℕ) (own : ChunkMarks) (run : ChunkRun) (first count : ℕ) →
    IsRunAround tsns at own run → run.begun ≡ false → IsUserMessage (marks_with tsns at own) first count →
    first ≤ at → run.first ≤ first → ⊥
begins_before tsns at own run first count so begun message low after =
    let seen = sym (so.each first after (omega (arith, so.right)))
    ∙ message.each first (omega arith) (omega (arith, message.some)) in
    never (eqb first run.first && run.begun)
    (ap (λ b. eqb first run.first && b) begun ∙ and_false (eqb first run.first))
    (ap begins seen ∙ same first first refl)

pub left_wanted : (tsns : List TsnState) (at : ℕ) (own : ChunkMarks) (run : ChunkRun) (first count : ℕ) →
    IsRunAround tsns at own run → run.begun ≡ false → IsUserMessage (marks_with tsns at own) first count →
    first ≤ at → at < first + count → WantsLeft tsns own run
left_wanted tsns at own run first count so begun message low high =
    let before : first < run.first = elim (cases_lt first run.first) [
      | inl less ↦ less
      | inr more ↦ absurd (begins_before tsns at own run first count so begun message low more)
    ] in
    let k = run.first - 1 in
    let next : suc k ≡ run.first = omega arith in
    let seen = sym (other_seen tsns at own k (λ e. omega (arith, so.left)))
    ∙ message.each k (omega arith) (omega (arith, so.left)) in
    record {
      some = omega arith;
      marks = marks_in_message first count message.stream k;
      there = seen;
      ending = differ (suc k) (first + count) (λ e. omega (arith, so.left));
      stream = own_stream tsns at own first count message low high;
    }

-- and behind one that doesn't end
pub record WantsRight (tsns : List TsnState) (own : ChunkMarks) (run : ChunkRun) : Type 0 where
  pub marks : ChunkMarks
  pub there : held_marks (tsn_at tsns (run.last + 1)) ≡ Some marks
  pub beginning : marks.beginning ≡ false
  pub stream : marks.stream ≡ own.stream

ends_behind : (tsns : List TsnState) (at : ℕ) (own : ChunkMarks) (run : ChunkRun) (first count : ℕ) →
    IsRunAround tsns at own run → run.ended ≡ false → IsUserMessage (marks_with tsns at own) first count →
    first ≤ at → at < first + count → first + count ≤ run.last + 1 → ⊥
ends_behind tsns at own run first count so ended message low high before =
    let k = first + count - 1 in
    let next : suc k ≡ first + count = omega arith in
    let seen = sym (so.each k (omega (arith, so.left)) (omega arith)) ∙ message.each k (omega arith) (omega arith) in
    never (eqb k run.last && run.ended)
    (ap (λ b. eqb k run.last && b) ended ∙ and_false (eqb k run.last))
    (ap ends seen ∙ same (suc k) (first + count) next)

pub right_wanted : (tsns : List TsnState) (at : ℕ) (own : ChunkMarks) (run : ChunkRun) (first count : ℕ) →
    IsRunAround tsns at own run → run.ended ≡ false → IsUserMessage (marks_with tsns at own) first count →
    first ≤ at → at < first + count → WantsRight tsns own run
right_wanted tsns at own run first count so ended message low high =
    let k = run.last + 1 in
    let behind : k < first + count = elim (cases_lt k (first + count)) [
      | inl less ↦ less
      | inr more ↦ absurd (ends_behind tsns at own run first count so ended message low high more)
    ] in
    let seen = sym (other_seen tsns at own k (λ e. omega (arith, so.right)))
    ∙ message.each k (omega (arith, so.left, so.right)) behind in
    record {
      marks = marks_in_message first count message.stream k;
      there = seen;
      beginning = differ k first (λ e. omega (arith, so.right));
      stream = own_stream tsns at own first count message low high;
    }

-- where the next fragment doesn't fit there is none
pub left_other : (tsns : List TsnState) (at : ℕ) (own : ChunkMarks) (run : ChunkRun) (marks : ChunkMarks) →
    IsRunAround tsns at own run → run.begun ≡ false → held_marks (tsn_at tsns (run.first - 1)) ≡ Some marks →
    marks.stream ≢ own.stream → CompletesNone tsns at own
left_other tsns at own run marks so begun there other first count low high message =
    let wants = left_wanted tsns at own run first count so begun message low high in
    other (ap stream_in (sym there ∙ wants.there) ∙ wants.stream)

pub right_other : (tsns : List TsnState) (at : ℕ) (own : ChunkMarks) (run : ChunkRun) (marks : ChunkMarks) →
    IsRunAround tsns at own run → run.ended ≡ false → held_marks (tsn_at tsns (run.last + 1)) ≡ Some marks →
    marks.stream ≢ own.stream → CompletesNone tsns at own
right_other tsns at own run marks so ended there other first count low high message =
    let wants = right_wanted tsns at own run first count so ended message low high in
    other (ap stream_in (sym there ∙ wants.there) ∙ wants.stream)

pub is_so : (b : Bool) → not b ≡ false → b ≡ true
is_so true e = refl
is_so false e = cc

pub right_begins : (tsns : List TsnState) (at : ℕ) (own : ChunkMarks) (run : ChunkRun) (marks : ChunkMarks) →
    IsRunAround tsns at own run → run.ended ≡ false → held_marks (tsn_at tsns (run.last + 1)) ≡ Some marks →
    marks.beginning ≡ true → CompletesNone tsns at own
right_begins tsns at own run marks so ended there begun first count low high message =
    let wants = right_wanted tsns at own run first count so ended message low high in
    never marks.beginning (ap begins (sym there ∙ wants.there) ∙ wants.beginning) begun
