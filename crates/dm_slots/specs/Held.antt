-- Which connections are there: by number what came on each, and whose it is.
use Rattle.std.specs.Prelude.{ℕ, nat_eq, cond, Option, None, Some, List}
use Rattle.std.specs.Option.{option_map}
use Rattle.indexmap.specs.IndexMap.{get}
use Rattle.dm_machine.specs.declared.connection.Conn.{Conn}
use Rattle.dm_peer.specs.declared.actions.Action.{Action}
use Rattle.dm_slots.specs.declared.slots.Slots as declared
use Rattle.dm_slots.specs.declared.slots.Slot.{Slot}
use Rattle.dm_slots.specs.Intakes.{Intakes, is_conn_number, actions_close}

-- by a connection's number what came on it
abbrev pub intakes_of : declared.Slots → Intakes
intakes_of i c = option_map (λ s. s.intake) (get nat_eq i.map c)

-- by a connection's number whose it is
abbrev pub Owners : Type 0
Owners = ℕ → Option ℕ

abbrev pub owner_in : Option Slot → Option ℕ
owner_in None = None
owner_in (Some s) = s.owner

abbrev pub owners_of : declared.Slots → Owners
owners_of i c = owner_in (get nat_eq i.map c)

-- each connection is nobody's
abbrev pub no_owner : Owners
no_owner c = None

-- the connection, if it is one, is of this owner; it is nobody's
abbrev pub owned_by : Option Conn → ℕ → Owners → Owners
owned_by conn owner f c = cond (is_conn_number c conn) (Some owner) (f c)

abbrev pub disowned_by : Option Conn → Owners → Owners
disowned_by conn f c = cond (is_conn_number c conn) None (f c)

-- what the actions close is nobody's
abbrev pub closed_by : List Action → Owners → Owners
closed_by actions f c = cond (actions_close actions c) None (f c)
