-- What is said of the messages that are handed out in one direction.
use Rattle.std.specs.Prelude.{◌≡◌, ◌⊎◌, ℕ, ◌+◌, Bool, true, false, None, Some, List, [], ◌∷◌, ◌++◌}
use Rattle.dm_connections.specs.Held.{HeldTable, connection_of, OneWayGoesOn}
use Rattle.dm_tables.specs.Definitions.{Definitions}
use Rattle.dm_view_lines.specs.declared.message_reports.Task.{Task}
use Rattle.dm_view_lines.specs.Counts.{tally_of, tallied}
use Rattle.dm_view_lines.specs.Said.{SaysFronted}
use Rattle.dm_trace_view.specs.declared.filter.Filter.{Filter}
use Rattle.dm_trace_view.specs.declared.handed_messages.Direction.{Direction}
use Rattle.dm_trace_view.specs.declared.handed_messages.Numbered.{Numbered}
use Rattle.dm_trace_view.specs.Filters.{PassesFilter}
use Rattle.dm_trace_view.specs.Fronts.{front_seen}
use Rattle.dm_trace_view.specs.Talks.{Talk}

-- the next message is handed out
pub record HandsNext {C W : Type 0} (talk : Talk C W) (direction : Direction) (old : HeldTable C) (message : List ℕ)
    (new : HeldTable C) : Type 0 where
  pub goes : OneWayGoesOn talk.one_way talk.with_way old.held direction.ends direction.from_first new.held
      (λ before after. talk.Hands before message after)
  pub max : new.max ≡ old.max

-- none is, and where what is in order is no message the stream is left
abbrev pub HandsNone : {C W : Type 0} → Talk C W → Direction → HeldTable C → HeldTable C → Type 0
HandsNone talk direction old new =
    ((connection_of old.held direction.ends ≡ None) × (new ≡ old))
    ⊎ (OneWayGoesOn talk.one_way talk.with_way old.held direction.ends direction.from_first new.held talk.HandsNone
    × (new.max ≡ old.max))

-- one more message is handed out
abbrev pub one_later : Numbered → Numbered
one_later before = record before { messages = before.messages + 1 }

-- a message is numbered behind those before; where it says_all the filter it is said, and counted
abbrev pub SaysOne : Task → Definitions → Filter → Direction → Numbered → List ℕ → Numbered → List ℕ → Type 0
SaysOne task d filter direction before message after text =
    (PassesFilter filter d message true × (good : Bool)
    × SaysFronted task d (front_seen (before.messages + 1) direction.clock direction.seen) message text good
    × (after ≡ record (one_later before) { tally = tallied before.tally (tally_of (Some good)) }))
    ⊎ (PassesFilter filter d message false × (text ≡ []) × (after ≡ one_later before))

-- messages that are handed out one after the other
abbrev pub SaysSome : {T : Type 0} → (T → List ℕ → T → Type 0) → (Numbered → List ℕ → Numbered → List ℕ → Type 0)
    → Numbered → T → List (List ℕ) → Numbered → T → List ℕ → Type 0
SaysSome Hands Says before old [] after new text = (after ≡ before) × (new ≡ old) × (text ≡ [])
SaysSome {T} Hands Says before old (message ∷ messages) after new text =
    (mid : T) × (counted : Numbered) × (first others : List ℕ) × Hands old message mid
    × Says before message counted first × SaysSome Hands Says counted mid messages after new others
    × (text ≡ first ++ others)

-- all that are whole
pub record SaysHanded {C W : Type 0} (talk : Talk C W) (task : Task) (d : Definitions) (filter : Filter)
    (direction : Direction) (before : Numbered) (old : HeldTable C) (after : Numbered) (new : HeldTable C)
    (text : List ℕ) : Type 0 where
  pub messages : List (List ℕ)
  pub last : HeldTable C
  pub said : SaysSome (HandsNext talk direction) (SaysOne task d filter direction) before old messages after last text
  pub none : HandsNone talk direction last new
