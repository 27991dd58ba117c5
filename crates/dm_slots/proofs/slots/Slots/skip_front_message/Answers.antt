-- The front message goes, and nothing else changes; where there is none nothing does.
use Rattle.std.proofs.Common.{◌≡◌, ◌∙◌, refl, sym, ap, subst, cond, nat_eq, Some, IfSome, IsSome, unwrap_or, option_map}
use Rattle.std.proofs.Math.Path.{fun_ext}
use Rattle.dm_slots.specs.Intakes.{Intake, IsFirst}
use Rattle.dm_slots.specs.Held.{intakes_of}
use Rattle.dm_slots.specs.declared.slots.Slot.{Slot}
use Rattle.dm_framer.specs.Frames.{BeginsWithNoFrame}
use Rattle.dm_slots.proofs.Steps.{intake_changed, kept_at}
use Rattle.dm_slots.proofs.slots.Slots.skip_front_message.Goals as goal

pub returns-in-Some-clause-skipped : goal.returns-in-Some-clause-skipped
returns-in-Some-clause-skipped c =
    λ intake message rest there first.
    let slot = c.in-Some.slot.now in
    let found : Some slot.intake ≡ Some intake =
    ap (option_map (λ (s : Slot). s.intake)) c.in-Some.ensures.value ∙ there in
    let same : slot.intake ≡ intake = ap (λ o. unwrap_or o intake) found in
    let now = c.skip_front_message.ensures.skipped message rest (subst (λ i. IsFirst i message rest) (sym same) first) in
    let updates = (c.get_mut.follows.holds (record slot { intake = c.skip_front_message.new.self })).3
    (subst IsSome c.in-Some.ensures.value refl) in
    let with_rest : Intake → Intake = λ i. record i { octets = rest } in
    fun_ext (λ q. ap (option_map (λ (s : Slot). s.intake)) (updates.0 q)
    ∙ intake_changed (nat_eq c.args.conn.0 q) (record slot { intake = c.skip_front_message.new.self }) _
    ∙ ap (λ w. cond (nat_eq c.args.conn.0 q) (Some w) (intakes_of c.args.self.now q)) (now ∙ ap with_rest same))

pub returns-in-Some-clause-none : goal.returns-in-Some-clause-none
returns-in-Some-clause-none c =
    λ none.
    let slot = c.in-Some.slot.now in
    let there = ap (option_map (λ (s : Slot). s.intake)) c.in-Some.ensures.value in
    let stays = c.skip_front_message.ensures.none
    (subst (λ o. IfSome o (λ i. BeginsWithNoFrame i.max i.octets)) (sym there) none) in
    let updates = (c.get_mut.follows.holds (record slot { intake = c.skip_front_message.new.self })).3
    (subst IsSome c.in-Some.ensures.value refl) in
    fun_ext (λ q. ap (option_map (λ (s : Slot). s.intake)) (updates.0 q)
    ∙ intake_changed (nat_eq c.args.conn.0 q) (record slot { intake = c.skip_front_message.new.self }) _
    ∙ ap (λ w. cond (nat_eq c.args.conn.0 q) (Some w) (intakes_of c.args.self.now q)) stays
    ∙ kept_at c.args.conn.0 q slot.intake (intakes_of c.args.self.now) there (nat_eq c.args.conn.0 q) refl)
