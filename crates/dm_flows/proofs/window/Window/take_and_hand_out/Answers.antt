-- Octets in order go straight to the output.
use Rattle.std.proofs.Common.{◌≡◌, [], length, sym, ◌∙◌, ap, arith, eqb-true}
use Rattle.dm_flows.specs.Windows.{WindowState}
use Rattle.dm_flows.proofs.Straight.{through_straight, straight_near, on_both, on_ok, empty_list}
use Rattle.dm_flows.proofs.window.Window.take_and_hand_out.Goals as goal

pub returns-then-octets-le-WINDOW-clause-through : goal.returns-then-octets-le-WINDOW-clause-through
returns-then-octets-le-WINDOW-clause-through c =
    let empty : length c.self.inside.slots.items ≡ 0 =
    sym c.self.inside.slots.ok.0 ∙ eqb-true _ _ (sym c.is_empty.ensures ∙ c.if-is_empty.true) in
    let none : c.args.self.now.held ≡ [] =
    sym (ap (λ (w : WindowState). w.held) c.self.view_is) ∙ empty_list c.self.inside.slots.items empty in
    let next : c.args.self.now.next ≡ c.args.sequence =
    sym (ap (λ (w : WindowState). w.next) c.self.view_is) ∙ c.if-self-sequence.true in
    on_both c.hand_octets_straight_on.result _ _ _ c.hand_octets_straight_on.ensures.passed c.hand_octets_straight_on.ensures.put
    (λ straight put.
    through_straight c.args.self.now c.hand_octets_straight_on.new.self c.args.sequence c.args.octets.now c.args.output.now.items
    c.hand_octets_straight_on.new.output.items none next (omega arith) straight put)

pub returns-then-octets-le-WINDOW-clause-near : goal.returns-then-octets-le-WINDOW-clause-near
returns-then-octets-le-WINDOW-clause-near c =
    let next : c.args.self.now.next ≡ c.args.sequence =
    sym (ap (λ (w : WindowState). w.next) c.self.view_is) ∙ c.if-self-sequence.true in
    on_ok c.hand_octets_straight_on.result _
    (straight_near c.args.self.now.next c.args.sequence c.args.octets.now next (omega arith) (omega arith))
