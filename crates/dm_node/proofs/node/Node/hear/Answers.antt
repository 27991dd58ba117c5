-- The message with which the piece begins is told, nothing of it is kept, and whom it met is known.
use Rattle.std.proofs.Common.{Some, IfOk, refl, subst, take, inl}
use Rattle.dm_slots.specs.Held.{intakes_of}
use Rattle.dm_slots.specs.Hearing.{IsWholeAt, TakesFrontAt}
use Rattle.dm_node.specs.NodeHearing.{NodeHears, NodeHearTakesMemory}
use Rattle.dm_node.specs.NodeKnown.{known_of, NodeMeetsMessage}
use Rattle.dm_node.specs.NodeSeen.{node_state_of, node_known_of}
use Rattle.dm_node.specs.NodeStates.{NodeState, node_fed}
use Rattle.dm_node.specs.Answers.{as_answer}
use Rattle.dm_node.proofs.NodeHeard.{heard_where_it_lies, met_where_it_lies}
use Rattle.dm_node.proofs.NodeStaying.{arrived_there, node_at, settled_as}
use Rattle.dm_node.proofs.node.Node.hear.Goals as goal

pub returns-in-Ok-clause-turn : goal.returns-in-Ok-clause-turn
returns-in-Ok-clause-turn g c =
    let whole : IsWholeAt (intakes_of c.look_at_arrival-arrival.new.self.intakes c.args.conn.0) c.args.piece.now c.in-Some.size =
    rw (c.in-Some.is) at c.look_at_arrival-arrival.ensures.whole in
    let policy = g.S.Strangers.policy c.args.strangers.now in
    let old = node_state_of c.look_at_arrival-arrival.new.self in
    let qs = c.tell_message.new.neighbours in
    let answer = c.tell_message.new.answer in
    let new = node_at old qs (intakes_of c.settle_connections.new.slots) in
    subst (λ s. NodeHears policy c.args.conn c.args.piece.now c.in-Some.size s (record { arrived = Some c.args.conn; answer = as_answer answer }) new)
    c.look_at_arrival-arrival.ensures.state
    (heard_where_it_lies policy c.args.conn c.args.piece.now old new (as_answer answer)
    qs c.in-Some.size whole c.in-Ok.ensures.told
    (settled_as old qs answer.neighbour answer.actions.items _ _ _
    c.settle_connections.ensures.settled refl))

pub settle_connections-requires-clause-there : goal.settle_connections-requires-clause-there
settle_connections-requires-clause-there g c =
    let whole : IsWholeAt (intakes_of c.look_at_arrival-arrival.new.self.intakes c.args.conn.0) c.args.piece.now c.in-Some.size =
    rw (c.in-Some.is) at c.look_at_arrival-arrival.ensures.whole in
    let at = whole in
    let old = intakes_of c.look_at_arrival-arrival.new.self.intakes in
    c.tell_message.ensures.held old c.look_at_arrival-arrival.new.self.held
    (arrived_there c.args.conn (take c.in-Some.size c.args.piece.now) at.intake old at.there)

pub settle_connections-requires-clause-stays : goal.settle_connections-requires-clause-stays
settle_connections-requires-clause-stays g c =
    c.in-Ok.ensures.stays c.look_at_arrival-arrival.new.self.most (intakes_of c.look_at_arrival-arrival.new.self.intakes)
    c.look_at_arrival-arrival.new.self.raised

pub invariant_of-self : goal.invariant_of-self
invariant_of-self g c =
    record {
      held = c.settle_connections.ensures.held;
      raised = c.settle_connections.ensures.raised c.look_at_arrival-arrival.new.self.neighbours c.in-Ok.ensures.before
          c.look_at_arrival-arrival.new.self.raised;
      owned = c.settle_connections.ensures.owned c.look_at_arrival-arrival.new.self.neighbours c.in-Ok.ensures.before c.look_at_arrival-arrival.new.self.owned;
      met = c.tell_message.ensures.places;
    }

pub returns-in-Err-clause-memory : goal.returns-in-Err-clause-memory
returns-in-Err-clause-memory g c =
    let whole : IsWholeAt (intakes_of c.look_at_arrival-arrival.new.self.intakes c.args.conn.0) c.args.piece.now c.in-Some.size =
    rw (c.in-Some.is) at c.look_at_arrival-arrival.ensures.whole in
    subst (NodeHearTakesMemory (g.S.Strangers.policy c.args.strangers.now) c.args.conn c.args.piece.now)
    c.look_at_arrival-arrival.ensures.state (inl (c.in-Some.size, whole, c.in-Err.ensures.memory))

pub returns-in-Ok-clause-met : goal.returns-in-Ok-clause-met
returns-in-Ok-clause-met g c =
    let whole : IsWholeAt (intakes_of c.look_at_arrival-arrival.new.self.intakes c.args.conn.0) c.args.piece.now c.in-Some.size =
    rw (c.in-Some.is) at c.look_at_arrival-arrival.ensures.whole in
    let old = node_state_of c.look_at_arrival-arrival.new.self in
    let qs = c.tell_message.new.neighbours in
    let new = node_at old qs (intakes_of c.settle_connections.new.slots) in
    let answer = as_answer c.tell_message.new.answer in
    subst (λ ks. NodeMeetsMessage c.args.conn
    (node_fed c.args.conn (take c.in-Some.size c.args.piece.now) (node_state_of c.args.self.now)) answer new ks
    (known_of c.tell_message.new.known)) c.look_at_arrival-arrival.ensures.known
    (subst (λ (s : NodeState). NodeMeetsMessage c.args.conn
    (node_fed c.args.conn (take c.in-Some.size c.args.piece.now) s) answer new (node_known_of c.look_at_arrival-arrival.new.self)
    (known_of c.tell_message.new.known)) c.look_at_arrival-arrival.ensures.state
    (met_where_it_lies c.args.conn c.args.piece.now old new answer c.in-Some.size
    (node_known_of c.look_at_arrival-arrival.new.self) (known_of c.tell_message.new.known) whole
    c.in-Ok.ensures.met))

pub returns-in-Ok-clause-taken : goal.returns-in-Ok-clause-taken
returns-in-Ok-clause-taken g c =
    let whole : IsWholeAt (intakes_of c.look_at_arrival-arrival.new.self.intakes c.args.conn.0) c.args.piece.now c.in-Some.size =
    rw (c.in-Some.is) at c.look_at_arrival-arrival.ensures.whole in
    subst (λ (s : NodeState). TakesFrontAt (s.intakes c.args.conn.0) c.args.piece.now c.in-Some.size)
    c.look_at_arrival-arrival.ensures.state
    (c.feed_front_takes_whole_message_len.ensures _ c.args.piece.now c.in-Some.size whole)

pub returns-in_default-clause-taken : goal.returns-in_default-clause-taken
returns-in_default-clause-taken g c =
    subst (λ (s : NodeState). IfOk c.keep_front_and_tell.result (TakesFrontAt (s.intakes c.args.conn.0) c.args.piece.now))
    c.look_at_arrival-arrival.ensures.state c.keep_front_and_tell.ensures.taken
