use Rattle.std.proofs.Common.{ap, sym, ◌∙◌, true, [], append-nil}
use Rattle.dm_tool.proofs.Buildings.{built_last, built_none}
use mathlib.Core.Bool.{and-true}
use Rattle.dm_tool.proofs.built_messages.Building.push_last_message_and_clear_avps.Goals as goal
use Rattle.dm_tool.proofs.built_messages.Building.push_last_message_and_clear_avps.Goals.{in-Some+in_ok-fine, in_default}

pub returns-clause-built : goal.returns-clause-built
returns-clause-built c = elim c.match-self.branch [
  | in-Some+in_ok-fine w ↦
      let built = w.in_ok-fine.ensures.built in (
        built.0,
        w.in_ok-fine.fine,
        ap (λ s. s.text.items) w.self-is ∙ built.1,
        ap (λ s. s.good) w.self-is,
        built_last c.args.self.now.last w.in-Some.header c.args.self.now.avps.items w.from_vec.result built.0
            w.in_ok-fine.fine w.in-Some.is (w.from_vec.ensures ∙ ap (λ v. v.items) w.replace-avps.ensures.value)
            built.2,
      )
  | in_default w ↦ (
    [],
    true,
    ap (λ s. s.text.items) w.self-is ∙ sym (append-nil c.args.self.now.text.items),
    ap (λ s. s.good) w.self-is ∙ sym (and-true c.args.self.now.good),
    built_none c.args.self.now.last c.args.self.now.avps.items w.in_default.is,
  )
]
