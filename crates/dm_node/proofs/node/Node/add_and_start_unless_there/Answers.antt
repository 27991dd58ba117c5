-- A connection that wasn't there is opened, and where its Start is refused shut again.
use Rattle.std.proofs.Common.{rules, inl, inr, refl, sym, ◌∙◌, ap, Ok, Err}
use Rattle.std.specs.Prelude.{⊤}
use Rattle.dm_node.specs.Answers.{asks_of}
use Rattle.dm_node.specs.NodeOrders.{node_shut}
use Rattle.dm_node.specs.NodeSeen.{node_state_of, node_known_of}
use Rattle.dm_node.specs.NodeStates.{NodeState}
use Rattle.dm_node.specs.declared.events.NodeEvent.TheVariants.{Start}
use Rattle.dm_node.specs.declared.fault.OrderFault.TheVariants.{Peer}
use Rattle.dm_peer.specs.declared.fault.PeerFault.TheVariants.{NoMemory}
use Rattle.dm_node.proofs.NodeKnowing.{after_opened}
use Rattle.dm_node.proofs.NodeStaying.{started_there}
use Rattle.dm_node.proofs.NodeStarting.{started, shut_opened}
use Rattle.dm_node.proofs.Ruling.{order_goes}
use Rattle.dm_node.proofs.node.Node.add_and_start_unless_there.Goals as goal

pub returns-in-Ok-tell_order_event : goal.returns-in-Ok-tell_order_event
returns-in-Ok-tell_order_event c =
    let told = c.in-Ok-tell_order_event.ensures in
    let old = node_state_of c.args.self.now in
    let opened = node_state_of c.add_connection_unless_there.new.self in
    let new = node_state_of c.tell_order_event.new.self in
    let asks = asks_of c.tell_order_event.new.answer in
    let same = ap (λ (t : NodeState). t.peers) c.in-Ok.ensures.opened in
    let is = started c.args.index c.args.conn old opened new asks (sym c.if-has.ensures) c.in-Ok.ensures.opened
    told.taken in
    let met = after_opened asks old opened new (node_known_of c.args.self.now)
    (node_known_of c.add_connection_unless_there.new.self) (node_known_of c.tell_order_event.new.self) same
    c.add_connection_unless_there.ensures.known told.met in
    let goes = order_goes {B = ⊤} (Start c.args.index c.args.conn) old.peers (Ok tt) (Ok tt)
    (λ f other. absurd (cc)) tt (rw c.in_default.is at c.check_start.ensures.rules) in
    search (rules, sym c.if-has.ensures, told, is, met, goes)

pub returns-in-Err-tell_order_event : goal.returns-in-Err-tell_order_event
returns-in-Err-tell_order_event c =
    let told = c.in-Err-tell_order_event.ensures in
    let peers = ap (λ (t : NodeState). t.peers) c.in-Ok.ensures.opened in
    let same = c.shut.ensures.shut ∙ ap (node_shut c.args.conn) (told.unchanged ∙ c.in-Ok.ensures.opened)
    ∙ shut_opened c.args.conn (node_state_of c.args.self.now) (sym c.if-has.ensures) in
    search (rules, sym c.if-has.ensures, peers, told, same)

pub tell_order_event-requires-clause-there : goal.tell_order_event-requires-clause-there
tell_order_event-requires-clause-there c =
    started_there c.connections_stay_until_closed.ensures.opened c.args.conn (node_state_of c.args.self.now)
    (node_state_of c.add_connection_unless_there.new.self) c.in-Ok.ensures.opened

pub returns-in-Err : goal.returns-in-Err
returns-in-Err c =
    let e = Start c.args.index c.args.conn in
    let failed = c.in-Err.ensures in
    let goes = order_goes e c.args.self.now.neighbours (Err c.in-Err.fault) (Err c.in-Err.fault) (λ f same. cc)
    (inr (e, refl, failed.rules.by_rule.ruled)) failed.rules in
    search (rules, sym c.if-has.ensures, failed, goes)

pub returns-in-Err-add_connection_unless_there : goal.returns-in-Err-add_connection_unless_there
returns-in-Err-add_connection_unless_there c =
    let failed = c.in-Err-add_connection_unless_there.ensures in
    let goes = order_goes {B = ⊤} (Start c.args.index c.args.conn) c.args.self.now.neighbours (Ok tt)
    (Err (Peer NoMemory)) (λ f other. absurd (cc)) (inl refl) (rw c.in_default.is at c.check_start.ensures.rules) in
    search (rules, sym c.if-has.ensures, failed, goes)
