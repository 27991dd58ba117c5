-- A connection that was accepted is there, and whom an event met is known where a connection goes behind it.
use Rattle.std.proofs.Common.{◌≡◌, rules, ap, None}
use Rattle.dm_node.specs.Answers.{as_answer, asks_as, asks_of}
use Rattle.dm_node.specs.NodeSeen.{node_state_of, node_known_of}
use Rattle.dm_node.specs.NodeStates.{NodeState}
use Rattle.dm_node.proofs.NodeKnowing.{after_moved, unheld_peers}
use Rattle.dm_node.proofs.NodeStarting.{gone_free}
use Rattle.dm_node.proofs.node.Node.take_order.Goals as goal

pub returns-in-Ok : goal.returns-in-Ok
returns-in-Ok c =
    let opened = c.in-Ok.ensures in
    let answer = c.args.answer.now in
    let untold : asks_of answer ≡ None = ap (λ told. asks_as told (as_answer answer)) c.requires.nothing in
    search (rules, c.in-Accept.is, opened, untold)

pub returns-in_ok-tell_event_if_there-in-Nack : goal.returns-in_ok-tell_event_if_there-in-Nack
returns-in_ok-tell_event_if_there-in-Nack c =
    let told = c.in_ok-tell_event_if_there-in-Nack.ensures in
    let mid = c.tell_event_if_there-in-Nack.new in
    let new = c.shut_unless_held.new.self in
    let met = after_moved (asks_of mid.answer) (node_state_of c.args.self.now) (node_state_of mid.self)
    (node_state_of new) (node_known_of c.args.self.now) (node_known_of mid.self) (node_known_of new)
    (unheld_peers c.in-Nack.conn (node_state_of mid.self) (node_state_of new) c.shut_unless_held.ensures.shut)
    c.shut_unless_held.ensures.known told.met in
    search (rules, c.in-Nack.is, told, met)

pub returns-in_ok-tell_event_if_there-in-Gone : goal.returns-in_ok-tell_event_if_there-in-Gone
returns-in_ok-tell_event_if_there-in-Gone c =
    let told = c.in_ok-tell_event_if_there-in-Gone.ensures in
    let mid = c.tell_event_if_there-in-Gone.new in
    let new = c.shut.new.self in
    let met = after_moved (asks_of mid.answer) (node_state_of c.args.self.now) (node_state_of mid.self)
    (node_state_of new) (node_known_of c.args.self.now) (node_known_of mid.self) (node_known_of new)
    (ap (λ (t : NodeState). t.peers) c.shut.ensures.shut) c.shut.ensures.known told.met in
    search (rules, c.in-Gone.is, told, met)

pub shut-requires : goal.shut-requires
shut-requires c =
    gone_free c.events_take_named_release_closed_connections.ensures.gone c.in-Gone.conn
    (node_state_of c.args.self.now) (node_state_of c.tell_event_if_there-in-Gone.new.self) _
    c.neighbours_are_apart_and_sound.ensures.kept c.neighbours_are_apart_and_sound.ensures.apart.apart
    c.args.self.now.held c.in_ok-tell_event_if_there-in-Gone.ensures.taken

pub returns-in-Stop : goal.returns-in-Stop
returns-in-Stop c = rw (c.in-Stop.is) c.tell_order_event-in-Stop.ensures

pub returns-in-Submit : goal.returns-in-Submit
returns-in-Submit c = rw (c.in-Submit.is) c.tell_order_event-in-Submit.ensures
