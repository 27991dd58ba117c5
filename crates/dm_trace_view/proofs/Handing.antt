-- Messages that are handed out one after the other.
use Rattle.std.proofs.Common.{◌≡◌, ◌+◌, ◌++◌, ◌∷◌, [], ℕ, List, Bool, true, false, Some, inl, inr, Result, Ok, Err, IfOk, append_assoc, append-nil, ap, sym, ◌∙◌, refl, subst}
use Rattle.dm_tables.specs.Definitions.{Definitions}
use Rattle.dm_view_lines.specs.declared.message_reports.Task.{Task}
use Rattle.dm_view_lines.specs.Counts.{tally_of, tallied}
use Rattle.dm_view_lines.specs.Said.{SaysFronted}
use Rattle.dm_trace_view.specs.declared.filter.Filter.{Filter}
use Rattle.dm_trace_view.specs.declared.handed_messages.Direction.{Direction}
use Rattle.dm_trace_view.specs.declared.handed_messages.Numbered.{Numbered}
use Rattle.dm_trace_view.specs.Filters.{PassesFilter}
use Rattle.dm_trace_view.specs.Fronts.{front_seen}
use Rattle.dm_trace_view.specs.Handed.{SaysOne, SaysSome}

-- one more
pub some_next : {T : Type 0} (Hands : T → List ℕ → T → Type 0) (Says : Numbered → List ℕ → Numbered → List ℕ → Type 0)
    (before mid after : Numbered) (old now new : T) (l : List (List ℕ)) (message text first : List ℕ)
    → SaysSome Hands Says before old l mid now text → Hands now message new → Says mid message after first
    → SaysSome Hands Says before old (l ++ message ∷ []) after new (text ++ first)
some_next {T} Hands Says before mid after old now new [] message text first h out said =
    let From : T → Type 0 = λ t. Hands t message new in
    let Number : Numbered → Type 0 = λ t. Says t message after first in (
      new,
      after,
      first,
      [],
      subst From h.1 out,
      subst Number h.0 said,
      (refl, refl, refl),
      ap (λ v. v ++ first) h.2 ∙ sym (append-nil first),
    )
some_next Hands Says before mid after old now new (m ∷ l) message text first h out said =
    let rest = some_next Hands Says h.1 mid after h.0 now new l message h.3 first h.6 out said in
    (h.0, h.1, h.2, h.3 ++ first, h.4, h.5, rest, ap (λ v. v ++ first) h.7 ∙ append_assoc h.2 h.3 first)

module _ (task : Task) (d : Definitions) (filter : Filter) (direction : Direction) (before : Numbered)
    (message : List ℕ) where
  -- a message that doesn't pass is numbered alone
  pub passed_one : (text : List ℕ) (number : ℕ) (passed : Bool) → number ≡ before.messages + 1 → passed ≡ false
      → PassesFilter filter d message passed
      → (more : List ℕ) × (text ≡ text ++ more)
      × SaysOne task d filter direction before message (record before { messages = number }) more
  passed_one text number passed is not it =
      let Not : Bool → Type 0 = λ b. PassesFilter filter d message b in
      ([], sym (append-nil text), inr (subst Not not it, refl, ap (λ n. record before { messages = n }) is))

  -- one that says_all is said and counted
  pub said_one : {E : Type 0} (r : Result Numbered E) (text new : List ℕ) (number : ℕ) (passed good : Bool)
      → number ≡ before.messages + 1 → passed ≡ true → PassesFilter filter d message passed
      → (more : List ℕ) × (new ≡ text ++ more)
      × SaysFronted task d (front_seen number direction.clock direction.seen) message more good
      → IfOk r (λ after. after
      ≡ record before { messages = number; tally = tallied before.tally (tally_of (Some good)) })
      → IfOk r (λ after. (more : List ℕ) × (new ≡ text ++ more)
      × SaysOne task d filter direction before message after more)
  said_one (Err why) text new number passed good is so it said counted = tt
  said_one (Ok after) text new number passed good is so it said counted =
      let So : Bool → Type 0 = λ b. PassesFilter filter d message b in
      let Number : ℕ → Type 0 =
      λ n. SaysFronted task d (front_seen n direction.clock direction.seen) message said.0 good in
      let Counted : ℕ → Type 0 =
      λ n. after ≡ record before { messages = n; tally = tallied before.tally (tally_of (Some good)) } in
      (said.0, said.1, inl (subst So so it, good, subst Number is said.2, subst Counted is counted))
