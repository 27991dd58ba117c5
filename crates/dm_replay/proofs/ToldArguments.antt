-- Whether words tell a verb's arguments, and which.
use Rattle.std.proofs.Common.{◌≡◌, ◌⊎◌, inl, inr, ℕ, List, [], ◌∷◌, ap, ◌∙◌, refl}
use Rattle.dm_text.specs.Numbers.{TellsNumber, TellsLongNumber}
use Rattle.dm_text.specs.ReadBack.{NumberOrNone}
use Rattle.dm_base.specs.declared.kind.Cause.{Cause}
use Rattle.dm_machine.specs.declared.connection.Conn.{Conn}
use Rattle.dm_world.specs.declared.side.Side.{Side}
use Rattle.dm_world.specs.declared.happening.Happening.{Happening}
use Rattle.dm_world.specs.declared.happening.Happening.TheVariants.{Start, Stop, Timeout, Tick, Restart, Ack, Nack, Deliver, Piece, Lose, Submit}
use Rattle.dm_replay.specs.declared.verb.Verb.{Verb}
use Rattle.dm_replay.specs.declared.verb.Verb.TheVariants as verbs
use Rattle.dm_replay.specs.HappeningLines.{side_name, verb_of, TellsArguments}
use Rattle.dm_replay.proofs.Told.{Told, side_told, OneWord, TwoWords, ThreeWords, one, two, three, Names, Causes, Spells, octets_told, cause_told}

-- what a verb's arguments tell
abbrev pub TellsVerb : Verb → List (List ℕ) → Type 0
TellsVerb v args =
    ((h : Happening) × (verb_of h ≡ v) × TellsArguments h args) ⊎ ((h : Happening) → verb_of h ≡ v
    → TellsArguments h args → ⊥)

abbrev OneSideTold : List (List ℕ) → Type 0
OneSideTold args = Told {X = Side} (OneWord Names args)

abbrev OneLinkTold : List (List ℕ) → Type 0
OneLinkTold args = Told {X = ℕ} (OneWord TellsLongNumber args)

abbrev conn : ℕ → Conn
conn n = record { 0 = n }

start_told : (args : List (List ℕ)) → OneSideTold args → TellsVerb verbs.Start args
start_told args (inl h) = inl (Start h.0, refl, h.1.1 ∙ ap (λ v. v ∷ []) h.1.2)
start_told args (inr none) = inr no where
  no : (h : Happening) → verb_of h ≡ verbs.Start → TellsArguments h args → ⊥
  no (Start s) is told = none s (side_name s, told, refl)
  no h is told = absurd (cc)

timeout_told : (args : List (List ℕ)) → OneSideTold args → TellsVerb verbs.Timeout args
timeout_told args (inl h) = inl (Timeout h.0, refl, h.1.1 ∙ ap (λ v. v ∷ []) h.1.2)
timeout_told args (inr none) = inr no where
  no : (h : Happening) → verb_of h ≡ verbs.Timeout → TellsArguments h args → ⊥
  no (Timeout s) is told = none s (side_name s, told, refl)
  no h is told = absurd (cc)

tick_told : (args : List (List ℕ)) → OneSideTold args → TellsVerb verbs.Tick args
tick_told args (inl h) = inl (Tick h.0, refl, h.1.1 ∙ ap (λ v. v ∷ []) h.1.2)
tick_told args (inr none) = inr no where
  no : (h : Happening) → verb_of h ≡ verbs.Tick → TellsArguments h args → ⊥
  no (Tick s) is told = none s (side_name s, told, refl)
  no h is told = absurd (cc)

restart_told : (args : List (List ℕ)) → OneSideTold args → TellsVerb verbs.Restart args
restart_told args (inl h) = inl (Restart h.0, refl, h.1.1 ∙ ap (λ v. v ∷ []) h.1.2)
restart_told args (inr none) = inr no where
  no : (h : Happening) → verb_of h ≡ verbs.Restart → TellsArguments h args → ⊥
  no (Restart s) is told = none s (side_name s, told, refl)
  no h is told = absurd (cc)

stop_told : (args : List (List ℕ)) → Told {X = Side × Cause} (TwoWords Names Causes args) → TellsVerb verbs.Stop args
stop_told args (inl h) = inl (Stop h.0.0 h.0.1, refl, (h.1.1, h.1.2 ∙ ap (λ v. v ∷ h.1.1 ∷ []) h.1.3, h.1.4))
stop_told args (inr none) = inr no where
  no : (h : Happening) → verb_of h ≡ verbs.Stop → TellsArguments h args → ⊥
  no (Stop s c) is told = none (s, c) (side_name s, told.0, told.1, refl, told.2)
  no h is told = absurd (cc)

ack_told : (args : List (List ℕ)) → OneLinkTold args → TellsVerb verbs.Ack args
ack_told args (inl h) = inl (Ack (conn h.0), refl, h.1)
ack_told args (inr none) = inr no where
  no : (h : Happening) → verb_of h ≡ verbs.Ack → TellsArguments h args → ⊥
  no (Ack c) is told = none c.0 told
  no h is told = absurd (cc)

nack_told : (args : List (List ℕ)) → OneLinkTold args → TellsVerb verbs.Nack args
nack_told args (inl h) = inl (Nack (conn h.0), refl, h.1)
nack_told args (inr none) = inr no where
  no : (h : Happening) → verb_of h ≡ verbs.Nack → TellsArguments h args → ⊥
  no (Nack c) is told = none c.0 told
  no h is told = absurd (cc)

deliver_told : (args : List (List ℕ)) → Told {X = ℕ × Side} (TwoWords TellsLongNumber Names args) → TellsVerb
    verbs.Deliver args
deliver_told args (inl h) = inl
    (Deliver (conn h.0.0) h.0.1, refl, (h.1.0, h.1.2 ∙ ap (λ v. h.1.0 ∷ v ∷ []) h.1.4, h.1.3))
deliver_told args (inr none) = inr no where
  no : (h : Happening) → verb_of h ≡ verbs.Deliver → TellsArguments h args → ⊥
  no (Deliver c s) is told = none (c.0, s) (told.0, side_name s, told.1, told.2, refl)
  no h is told = absurd (cc)

piece_told : (args : List (List ℕ)) → Told {X = ℕ × Side × ℕ} (ThreeWords TellsLongNumber Names TellsNumber args) →
    TellsVerb verbs.Piece args
piece_told args (inl h) = inl
    (Piece (conn h.0.0) h.0.1 h.0.2, refl, (h.1.0, h.1.2, h.1.3 ∙ ap (λ v. h.1.0 ∷ v ∷ h.1.2 ∷ []) h.1.5, h.1.4, h.1.6))
piece_told args (inr none) = inr no where
  no : (h : Happening) → verb_of h ≡ verbs.Piece → TellsArguments h args → ⊥
  no (Piece c s k) is told = none (c.0, s, k) (told.0, side_name s, told.1, told.2, told.3, refl, told.4)
  no h is told = absurd (cc)

lose_told : (args : List (List ℕ)) → Told {X = ℕ × ℕ × ℕ} (ThreeWords TellsLongNumber TellsNumber TellsNumber args) →
    TellsVerb verbs.Lose args
lose_told args (inl h) = inl (Lose (conn h.0.0) h.0.1 h.0.2, refl, h.1)
lose_told args (inr none) = inr no where
  no : (h : Happening) → verb_of h ≡ verbs.Lose → TellsArguments h args → ⊥
  no (Lose c a b) is told = none (c.0, a, b) told
  no h is told = absurd (cc)

submit_told : (args : List (List ℕ)) → Told {X = Side × List ℕ} (TwoWords Names Spells args) → TellsVerb verbs.Submit
    args
submit_told args (inl h) = inl (Submit h.0.0 h.0.1, refl, (h.1.1, h.1.2 ∙ ap (λ v. v ∷ h.1.1 ∷ []) h.1.3, h.1.4))
submit_told args (inr none) = inr no where
  no : (h : Happening) → verb_of h ≡ verbs.Submit → TellsArguments h args → ⊥
  no (Submit s octets) is told = none (s, octets) (side_name s, told.0, told.1, refl, told.2)
  no h is told = absurd (cc)

pub arguments_told : NumberOrNone → (v : Verb) (args : List (List ℕ)) → TellsVerb v args
arguments_told numbers verbs.Start args = start_told args (one Names side_told args)
arguments_told numbers verbs.Stop args = stop_told args (two Names Causes side_told (cause_told numbers) args)
arguments_told numbers verbs.Timeout args = timeout_told args (one Names side_told args)
arguments_told numbers verbs.Tick args = tick_told args (one Names side_told args)
arguments_told numbers verbs.Restart args = restart_told args (one Names side_told args)
arguments_told numbers verbs.Ack args = ack_told args (one TellsLongNumber (numbers 18446744073709551615) args)
arguments_told numbers verbs.Nack args = nack_told args (one TellsLongNumber (numbers 18446744073709551615) args)
arguments_told numbers verbs.Deliver args = deliver_told args
    (two TellsLongNumber Names (numbers 18446744073709551615) side_told args)
arguments_told numbers verbs.Piece args =
    piece_told args
    (three TellsLongNumber Names TellsNumber (numbers 18446744073709551615) side_told (numbers 4294967295) args)
arguments_told numbers verbs.Lose args =
    lose_told args
    (three TellsLongNumber TellsNumber TellsNumber (numbers 18446744073709551615) (numbers 4294967295)
    (numbers 4294967295) args)
arguments_told numbers verbs.Submit args = submit_told args (two Names Spells side_told octets_told args)
