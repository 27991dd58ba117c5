-- An order is answered by itself, a piece by what came.
use Rattle.std.proofs.Common.{refl, sym, subst, None, [], append-nil}
use Rattle.dm_live.specs.Answers.{TakesAs, HearsOut, policy_of}
use Rattle.dm_live.specs.Meetings.{meeting_of}
use Rattle.dm_live.proofs.Turns.{answered}
use Rattle.dm_live.proofs.answer.answer_asked_without_dot.Goals as goal

pub returns-in_ok-who-in-Order : goal.returns-in_ok-who-in-Order
returns-in_ok-who-in-Order c =
    let own = c.in_ok-who-in-Order.ensures in
    let form = c.args.form in
    let took = meeting_of c.answer_order.new.node in
    answered _ form c.args.asked _ took took c.in_ok-who-in-Order.who _ [] _ own.0 _ _ _ _
    (subst (λ o. TakesAs form o (meeting_of c.args.node.now) c.in_ok-who-in-Order.who took own.0) (sym c.in-Order.is) own.1)
    (subst (λ o. HearsOut (policy_of form) o took [] took) (sym c.in-Order.is) (refl, refl))
    refl refl own.2 (sym (append-nil _)) c.put_answer_states.ensures

pub returns-in_ok-last-in-Piece : goal.returns-in_ok-last-in-Piece
returns-in_ok-last-in-Piece c =
    let heard = c.in_ok-last-in-Piece.ensures in
    let form = c.args.form in
    let kept = meeting_of c.keep.new.self in
    let told = meeting_of c.tell_all_that_came.new.node in
    answered _ form c.args.asked _ kept told None c.in_ok-last-in-Piece.last heard.0 _ [] _ _ _ _
    (subst (λ o. TakesAs form o (meeting_of c.args.node.now) None kept []) (sym c.in-Piece.is)
    (c.in_ok-keep-in-Piece.ensures.fed, c.keep.ensures.known, refl, refl))
    (subst (λ o. HearsOut (policy_of form) o kept heard.0 told) (sym c.in-Piece.is) heard.1)
    heard.2 refl (sym (append-nil _)) heard.3 c.put_answer_states-in-Piece.ensures
