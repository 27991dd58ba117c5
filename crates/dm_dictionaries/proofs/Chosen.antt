-- Which dictionary judges a message.
use Rattle.std.proofs.Common.{◌≡◌, Bool, true, false, if◌then◌else◌, refl, sym, ◌∙◌, ap}
use Rattle.dm_tables.specs.Definitions.{Definitions}
use Rattle.dm_tables.specs.Base.{base_definitions}
use Rattle.dm_base.specs.Commands.{is_base_command}
use Rattle.dm_dictionaries.specs.Choosing.{own_or_other, definitions_of}
use Rattle.dm_dictionaries.specs.Laws.{BaseCommandsGoByBase, OneAloneJudgesAll, OwnJudgesItsApplication}

chosen_base : (b : Bool) (base other : Definitions) → b ≡ true → (if b then base else other) ≡ base
chosen_base true base other e = refl
chosen_base false base other e = absurd (cc)

chosen_other : (b : Bool) (base other : Definitions) → (b ≡ true → other ≡ base) → (if b then base else other) ≡ other
chosen_other true base other e = sym (e refl)
chosen_other false base other e = refl

pub base_by_base : BaseCommandsGoByBase
base_by_base c h e =
    chosen_base (is_base_command h.command) base_definitions (definitions_of c h.application) e

pub alone_judges : OneAloneJudgesAll
alone_judges c none h same =
    let other : definitions_of c h.application ≡ c.others = ap (own_or_other c.others) (none h.application) in
    chosen_other (is_base_command h.command) base_definitions (definitions_of c h.application)
    (λ e. other ∙ same e) ∙ other

never : (b : Bool) (P : Type 0) → b ≡ false → b ≡ true → P
never true P e f = absurd (cc)
never false P e f = absurd (cc)

pub own_judges : OwnJudgesItsApplication
own_judges c d h e has =
    chosen_other (is_base_command h.command) base_definitions (definitions_of c h.application)
    (never (is_base_command h.command) (definitions_of c h.application ≡ base_definitions) e) ∙
    ap (own_or_other c.others) has
