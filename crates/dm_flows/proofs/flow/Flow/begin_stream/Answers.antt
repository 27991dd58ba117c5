-- The stream that was left has nothing in front of the octets.
use Rattle.std.proofs.Common.{◌≡◌, ◌∙◌, ap, [], Some}
use Rattle.dm_flows.specs.Flows.{FlowState}
use Rattle.dm_flows.specs.Windows.{sequence_behind}
use Rattle.dm_flows.proofs.FlowParts.{none_in_front}
use Rattle.dm_flows.proofs.flow.Flow.begin_stream.Goals as goal

pub returns : goal.returns
returns c =
    let whole = c.self.view_is ∙ c.leave_stream.ensures in
    let none : c.self.inside.framer.octets ≡ [] = none_in_front _ _ (ap (λ (f : FlowState). f.ready) whole) in
    rw (none, c.new.ensures, c.sequence_number_behind.ensures, c.len.ensures, ← c.args.front.ok.0)
    (ap (λ (f : FlowState). record f {
      window = Some (record { next = sequence_behind c.args.number c.args.front.len; held = [] });
      ready = c.args.front.items;
    }) whole)
