-- What came on the connections that are there and wasn't told yet.
use Rattle.std.specs.Prelude.{◌≡◌, ℕ, Bool, true, false, cond, nat_eq, is_some, Option, None, Some, List, [], ◌++◌}
use Rattle.std.specs.Prelude.{length, take, ◌-◌}
use Rattle.std.specs.Option.{option_map}
use Rattle.std.specs.List.{list_any}
use Rattle.dm_machine.specs.declared.connection.Conn.{Conn}
use Rattle.dm_peer.specs.declared.actions.Action.{Action}
use Rattle.dm_peer.specs.declared.actions.Action.TheVariants as action
use Rattle.dm_framer.specs.declared.fault.FrameFault.{FrameFault}
use Rattle.dm_framer.specs.Frames.{IsFrame, HasFault, IsPartial}

-- of a connection the octets that came and weren't told, the greatest Message Length on it, and whether a fault of its
-- stream was told: from then on what comes is thrown away
pub record Intake : Type 0 where
  pub octets : List ℕ
  pub max : ℕ
  pub is_broken : Bool

-- the intakes of the connections that are there, by number
abbrev pub Intakes : Type 0
Intakes = ℕ → Option Intake

-- no connection is there
abbrev pub none_there : Intakes
none_there c = None

abbrev pub is_there : ℕ → Intakes → Bool
is_there c f = is_some (f c)

-- the intakes with this one for connection c
abbrev pub with_intake : ℕ → Option Intake → Intakes → Intakes
with_intake c i f d = cond (nat_eq c d) i (f d)

-- a connection on which nothing came
abbrev pub new_intake : ℕ → Intake
new_intake max = record { octets = []; max = max; is_broken = false }

-- connection c is there, as it was or as a new one
abbrev pub opened : ℕ → ℕ → Intakes → Intakes
opened max c f = cond (is_there c f) f (with_intake c (Some (new_intake max)) f)

-- connection c is no more there
abbrev pub taken_down : ℕ → Intakes → Intakes
taken_down c f = with_intake c None f

-- connection c, where it is there, is changed so
abbrev pub changed : ℕ → (Intake → Intake) → Intakes → Intakes
changed c change f d = cond (nat_eq c d) (option_map change (f d)) (f d)

-- the connection, if it is one, has this number
abbrev pub is_conn_number : ℕ → Option Conn → Bool
is_conn_number d None = false
is_conn_number d (Some c) = nat_eq c.0 d

-- the action closes connection c
abbrev pub is_close_of : ℕ → Action → Bool
is_close_of c (action.Close d) = nat_eq d.0 c
is_close_of c _ = false

-- the actions close connection c
abbrev pub actions_close : List Action → ℕ → Bool
actions_close actions c = list_any (is_close_of c) actions

-- what the actions close is no more there
abbrev pub left_by : List Action → Intakes → Intakes
left_by actions f c = cond (actions_close actions c) None (f c)

-- a piece came
abbrev pub fed_intake : List ℕ → Intake → Intake
fed_intake piece i = cond i.is_broken i (record i { octets = i.octets ++ piece })

-- so many of the octets that came last are taken away again
abbrev pub unfed_intake : ℕ → Intake → Intake
unfed_intake n i = cond i.is_broken i (record i { octets = take (length i.octets - n) i.octets })

-- a fault was told
abbrev pub broken_intake : Intake → Intake
broken_intake i = record { octets = []; max = i.max; is_broken = true }

-- longer messages, or shorter ones, may come
abbrev pub with_max : ℕ → Intake → Intake
with_max max i = record i { max = max }

-- the message is the first that came, and behind it stand these octets
pub record IsFirst (i : Intake) (message rest : List ℕ) : Type 0 where
  pub whole : i.is_broken ≡ false
  pub frame : IsFrame i.max message
  pub octets : i.octets ≡ message ++ rest

-- what came has a fault at its front
pub record IsFaulty (i : Intake) : Type 0 where
  pub whole : i.is_broken ≡ false
  pub fault : (fault : FrameFault) × HasFault i.max i.octets fault

-- nothing of what came is to be told: a fault was, or the next message isn't whole yet
abbrev pub IsToldOut : Intake → Type 0
IsToldOut i = i.is_broken ≡ false → IsPartial i.max i.octets

-- the connection, if it is there, takes messages up to this maximum
abbrev pub raised_at : ℕ → Option Conn → Intakes → Intakes
raised_at max o f d = cond (is_conn_number d o) (option_map (with_max max) (f d)) (f d)
