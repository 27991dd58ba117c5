-- What one step does to one connection: each question about a connection has the same answer about its mark.
use Rattle.std.proofs.Common.{◌≡◌, Bool, true, false, ◌==◌, if◌then◌else◌, Option, List, [], ◌∷◌, refl, subst, ap, ◌∙◌}
use Rattle.dm_machine.specs.declared.connection.Conn.{Conn}
use Rattle.dm_machine.specs.declared.phase.Role.{Role}
use Rattle.dm_machine.specs.declared.state_name.State.{State}
use Rattle.dm_machine.specs.declared.inputs.Input.{Input}
use Rattle.dm_machine.specs.declared.inputs.Input.TheVariants.{Start, Ack, Nack, Gone, Heard}
use Rattle.dm_machine.specs.declared.outputs.Command.{Command}
use Rattle.dm_machine.specs.declared.outputs.Command.TheVariants.{Connect, SendCer, SendCea, SendRefusal, SendDwr, SendDwa, SendDpr, SendDpa, SendSubmit, Close, Up}
use Rattle.dm_machine.specs.Node.{Node}
use Rattle.dm_machine.specs.Moves.{NodeOutcome, NodeMoved, NodeRefused, machine_outcome}
use Rattle.dm_machine.specs.Connection.{Hold, Concern, StartsIt, AcksIt, NacksIt, EndsIt, HeardOnIt, hold_as, hold_in, hold_of, if_named, concern_of, ConnOrder, Connects, SendsCer, SendsCea, SendsRefusal, SendsDwr, SendsDwa, SendsDpr, SendsDpa, SendsSubmit, Closes, if_ordered, order_to, with_order, orders_to, AtConnection}
use Rattle.dm_machine.specs.Changes.{changed_to, allowed, EachConnectionChangesAsAllowed}
use Rattle.std.specs.Prelude.{Contains}
use Rattle.dm_machine.proofs.Renamed.{renamed_held, renamed_node, renamed_input, renamed_command, renamed_commands, renamed_outcome}
use Rattle.dm_machine.proofs.Marks.{this, mark, mark_if}
use Rattle.dm_machine.proofs.ChangeLemmas.{among}
use Rattle.dm_machine.proofs.StepFacts.{is_listed, listed}

asked_if : (b : Bool) → ((mark_if b).0 == 1) ≡ b
asked_if true = refl
asked_if false = refl

asked : (c x : Conn) → ((mark c x).0 == 1) ≡ (x.0 == c.0)
asked c x = asked_if (x.0 == c.0)

hold_marked : (s : State) (held : List (Role × Conn)) (c : Conn) →
    hold_in s (renamed_held (mark c) held) this ≡ hold_in s held c
hold_marked s [] c = refl
hold_marked s (p ∷ ps) c =
    ap (λ (b : Bool). if b then hold_as s p.0 else hold_in s (renamed_held (mark c) ps) this) (asked c p.1)
    ∙ ap (λ (h : Hold). if p.1.0 == c.0 then hold_as s p.0 else h) (hold_marked s ps c)

concern_marked : (i : Input) (c : Conn) → concern_of (renamed_input (mark c) i) this ≡ concern_of i c
concern_marked (Start d) c = ap (λ (b : Bool). if_named b StartsIt) (asked c d)
concern_marked (Ack d) c = ap (λ (b : Bool). if_named b AcksIt) (asked c d)
concern_marked (Nack d) c = ap (λ (b : Bool). if_named b NacksIt) (asked c d)
concern_marked (Gone d) c = ap (λ (b : Bool). if_named b EndsIt) (asked c d)
concern_marked (Heard d w) c = ap (λ (b : Bool). if_named b (HeardOnIt w)) (asked c d)
concern_marked _ c = refl

ordered : (c d : Conn) (o : ConnOrder) → if_ordered ((mark c d).0 == 1) o ≡ if_ordered (d.0 == c.0) o
ordered c d o = ap (λ (b : Bool). if_ordered b o) (asked c d)

order_marked : (c : Conn) (a : Command) → order_to this (renamed_command (mark c) a) ≡ order_to c a
order_marked c (Connect d) = ordered c d Connects
order_marked c (SendCer d) = ordered c d SendsCer
order_marked c (SendCea d) = ordered c d SendsCea
order_marked c (SendRefusal d) = ordered c d SendsRefusal
order_marked c (SendDwr d) = ordered c d SendsDwr
order_marked c (SendDwa d) = ordered c d SendsDwa
order_marked c (SendDpr d) = ordered c d SendsDpr
order_marked c (SendDpa d) = ordered c d SendsDpa
order_marked c (SendSubmit d) = ordered c d SendsSubmit
order_marked c (Close d) = ordered c d Closes
order_marked c Up = refl

orders_marked : (c : Conn) (commands : List Command) →
    orders_to this (renamed_commands (mark c) commands) ≡ orders_to c commands
orders_marked c [] = refl
orders_marked c (a ∷ more) =
    ap (λ (o : Option ConnOrder). with_order o (orders_to this (renamed_commands (mark c) more))) (order_marked c a)
    ∙ ap (with_order (order_to c a)) (orders_marked c more)

abbrev IsListed : Concern → Hold → Hold → List ConnOrder → Type 0
IsListed k before after orders = Contains (allowed k before) (changed_to after orders)

from_marked : (n : Node) (i : Input) (c : Conn) (o : NodeOutcome) →
    is_listed (renamed_node (mark c) n) (renamed_input (mark c) i) (renamed_outcome (mark c) o) ≡ true →
    AtConnection IsListed n i c o
from_marked n i c (NodeRefused r) h = tt
from_marked n i c (NodeMoved commands next) h =
    let k = concern_of (renamed_input (mark c) i) this in
    let before = hold_in n.state (renamed_held (mark c) n.held) this in
    let later = hold_in next.state (renamed_held (mark c) next.held) this in
    let orders = orders_to this (renamed_commands (mark c) commands) in
    let here : IsListed k before later orders = among (changed_to later orders) (allowed k before) h in
    subst (λ (x : List ConnOrder). IsListed (concern_of i c) (hold_of n c) (hold_of next c) x) (orders_marked c commands)
    (subst (λ (x : Hold). IsListed (concern_of i c) (hold_of n c) x orders) (hold_marked next.state next.held c)
    (subst (λ (x : Hold). IsListed (concern_of i c) x later orders) (hold_marked n.state n.held c)
    (subst (λ (x : Concern). IsListed x before later orders) (concern_marked i c) here)))

pub each_connection : EachConnectionChangesAsAllowed
each_connection n i wins c h = from_marked n i c (machine_outcome n i wins) (listed n i wins c h)
