-- The lines of happenings.
use Rattle.std.specs.Prelude.{◌≡◌, ℕ, Some, List, [], ◌∷◌, codes}
use Rattle.dm_text.specs.Words.{words}
use Rattle.dm_text.specs.Numbers.{TellsNumber, TellsLongNumber}
use Rattle.dm_text.specs.Hexadecimal.{word_octets}
use Rattle.dm_base.specs.Built.{cause_number}
use Rattle.dm_world.specs.declared.side.Side.{Side}
use Rattle.dm_world.specs.declared.side.Side.TheVariants.{A, B}
use Rattle.dm_world.specs.declared.happening.Happening.{Happening}
use Rattle.dm_world.specs.declared.happening.Happening.TheVariants.{Start, Stop, Timeout, Tick, Restart}
use Rattle.dm_world.specs.declared.happening.Happening.TheVariants.{Ack, Nack, Deliver, Piece, Lose, Submit}
use Rattle.dm_replay.specs.declared.verb.Verb.{Verb}
use Rattle.dm_replay.specs.declared.verb.Verb.TheVariants as verbs

-- the name of a side
abbrev pub side_name : Side → List ℕ
side_name A = codes "A"
side_name B = codes "B"

-- the word of a verb
abbrev pub word_of : Verb → List ℕ
word_of verbs.Start = codes "start"
word_of verbs.Stop = codes "stop"
word_of verbs.Timeout = codes "timeout"
word_of verbs.Tick = codes "tick"
word_of verbs.Restart = codes "restart"
word_of verbs.Ack = codes "ack"
word_of verbs.Nack = codes "nack"
word_of verbs.Deliver = codes "deliver"
word_of verbs.Piece = codes "piece"
word_of verbs.Lose = codes "lose"
word_of verbs.Submit = codes "submit"

-- the verb of a happening
abbrev pub verb_of : Happening → Verb
verb_of (Start side) = verbs.Start
verb_of (Stop side cause) = verbs.Stop
verb_of (Timeout side) = verbs.Timeout
verb_of (Tick side) = verbs.Tick
verb_of (Restart side) = verbs.Restart
verb_of (Ack link) = verbs.Ack
verb_of (Nack link) = verbs.Nack
verb_of (Deliver link side) = verbs.Deliver
verb_of (Piece link side count) = verbs.Piece
verb_of (Lose link to_a to_b) = verbs.Lose
verb_of (Submit side octets) = verbs.Submit

-- the words behind the verb: sides by their names, numbers in decimal, and octets in hexadecimal
abbrev pub TellsArguments : Happening → List (List ℕ) → Type 0
TellsArguments (Start side) args = args ≡ side_name side ∷ []
TellsArguments (Stop side cause) args =
    (number : List ℕ) × (args ≡ side_name side ∷ number ∷ []) × TellsNumber (cause_number cause) number
TellsArguments (Timeout side) args = args ≡ side_name side ∷ []
TellsArguments (Tick side) args = args ≡ side_name side ∷ []
TellsArguments (Restart side) args = args ≡ side_name side ∷ []
TellsArguments (Ack link) args = (number : List ℕ) × (args ≡ number ∷ []) × TellsLongNumber link.0 number
TellsArguments (Nack link) args = (number : List ℕ) × (args ≡ number ∷ []) × TellsLongNumber link.0 number
TellsArguments (Deliver link side) args =
    (number : List ℕ) × (args ≡ number ∷ side_name side ∷ []) × TellsLongNumber link.0 number
TellsArguments (Piece link side count) args =
    (number k : List ℕ) × (args ≡ number ∷ side_name side ∷ k ∷ [])
    × TellsLongNumber link.0 number × TellsNumber count k
TellsArguments (Lose link to_a to_b) args =
    (number a b : List ℕ) × (args ≡ number ∷ a ∷ b ∷ [])
    × TellsLongNumber link.0 number × TellsNumber to_a a × TellsNumber to_b b
TellsArguments (Submit side octets) args =
    (digits : List ℕ) × (args ≡ side_name side ∷ digits ∷ []) × (word_octets digits ≡ Some octets)

-- the line of a happening: its verb and its arguments
abbrev pub TellsHappening : Happening → List ℕ → Type 0
TellsHappening h line = (args : List (List ℕ)) × (words line ≡ word_of (verb_of h) ∷ args) × TellsArguments h args
