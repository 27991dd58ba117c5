use Rattle.std.proofs.Common.{◌≡◌, [], ◌∷◌, ◌++◌, ap, ◌∙◌, sym, subst, IfNone}
use Rattle.std.specs.Option.{option_or}
use Rattle.std.specs.String.{string_bytes}
use Rattle.dm_node.specs.Answers.{as_answer, turn_told}
use Rattle.dm_node.specs.NodeStates.{NodeTurn, NodeIsOut}
use Rattle.dm_live.specs.Answers.{turn_lines, policy_of, MeetsNext}
use Rattle.dm_live.specs.Meetings.{meeting_of}
use Rattle.dm_live.proofs.Turns.{along_out, along_push, text_push, turn_of, whom_after}
use Rattle.dm_live.proofs.answer.tell_all_that_came.Goals as goal

pub returns-in-Nothing : goal.returns-in-Nothing
returns-in-Nothing c =
    let so = c.turn.invariant in
    let answer = c.tell_turn_if_any.new.answer in
    let m = meeting_of c.turn.node in
    let t = meeting_of c.tell_turn_if_any.new.node in
    let none = ap (λ v. turn_told c.args.conn v (as_answer answer)) c.in-Nothing.is in
    let out = subst (λ v. IfNone v (NodeIsOut c.args.conn m.node × (t.node ≡ m.node))) none
    c.in_ok-tell_turn_if_any.ensures.out in
    let unmet = subst (λ v. IfNone v (t.known ≡ m.known)) none c.in_ok-tell_turn_if_any.ensures.unmet in
    (so.0, along_out (policy_of c.args.form) c.args.conn _ m t so.0 so.1 out unmet, so.2, so.3)

pub turn-preserved : goal.turn-preserved
turn-preserved c =
    let so = c.turn.invariant in
    let answer = c.tell_turn_if_any.new.answer in
    let Next : NodeTurn → Type 0 = λ turn. MeetsNext (policy_of c.args.form) c.args.conn (meeting_of c.turn.node) turn
    (meeting_of c.tell_turn_if_any.new.node) in
    let Put : NodeTurn → Type 0 = λ turn. string_bytes c.put_turn.new.text
    ≡ string_bytes c.turn.text ++ turn_lines c.args.form turn in
    let told = turn_of c.args.conn answer.told (as_answer answer) Next Put c.in_default.not-Nothing
    c.in_ok-tell_turn_if_any.ensures.told c.in_ok-put_turn.ensures in (
      so.0 ++ told.0 ∷ [],
      along_push (policy_of c.args.form) c.args.conn _ _ _ so.0 told.0 so.1 told.2,
      whom_after _ _ _ so.0 told.0 so.2 (c.or-last.ensures ∙ ap (λ v. option_or v.neighbour c.turn.last) (sym told.1)),
      text_push c.args.form _ _ _ so.0 told.0 so.3 told.3,
    )
