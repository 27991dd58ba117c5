-- Happenings by their verbs.
use Rattle.std.proofs.Common.{◌≡◌, ℕ, List, [], ◌∷◌}
use Rattle.dm_text.specs.Numbers.{TellsNumber}
use Rattle.dm_base.specs.declared.kind.Cause.{Cause}
use Rattle.dm_world.specs.declared.side.Side.{Side}
use Rattle.dm_world.specs.declared.happening.Happening.{Happening}
use Rattle.dm_world.specs.declared.happening.Happening.TheVariants.{Stop}
use Rattle.dm_replay.specs.declared.verb.Verb.TheVariants as verbs
use Rattle.dm_base.specs.Built.{cause_number}
use Rattle.dm_replay.specs.HappeningLines.{side_name, verb_of, TellsArguments}

-- words that aren't a side and a cause tell no Stop
pub no_stop : (args : List (List ℕ))
    → ((side : Side) (cause : Cause) (number : List ℕ) → args ≡ side_name side ∷ number ∷ []
    → TellsNumber (cause_number cause) number → ⊥)
    → (h : Happening) → verb_of h ≡ verbs.Stop → TellsArguments h args → ⊥
no_stop args none (Stop side cause) is told = none side cause told.0 told.1 told.2
no_stop args none h is told = absurd (cc)
