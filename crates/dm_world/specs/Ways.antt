-- What goes into a direction, and what leaves it.
use Rattle.std.specs.Prelude.{ℕ, ◌+◌, List, [], ◌∷◌}
use Rattle.dm_two_peers.specs.Links.{Direction, LinkUp, NoMark, Coming, Delivered}
use Rattle.dm_two_peers.specs.Links as links
use Rattle.dm_two_peers.specs.Steps.{queued, marked}
use Rattle.dm_world.specs.declared.direction.Mark.{Mark}
use Rattle.dm_world.specs.declared.direction.Mark.TheVariants as mark

abbrev pub as_mark : Mark → links.Mark
as_mark mark.Absent = NoMark
as_mark mark.Coming = Coming
as_mark mark.Delivered = Delivered

-- a message is put in behind the others, unless the disconnect is in
abbrev pub with_message : List ℕ → Direction (List ℕ) → Direction (List ℕ)
with_message m d = record { messages = queued LinkUp d.mark (m ∷ []) d.messages; taken = d.taken; mark = d.mark }

-- a disconnect is put in, where none is
abbrev pub with_disconnect : Direction (List ℕ) → Direction (List ℕ)
with_disconnect d = record { messages = d.messages; taken = d.taken; mark = marked d.mark }

-- the disconnect has left
abbrev pub with_disconnect_delivered : Direction (List ℕ) → Direction (List ℕ)
with_disconnect_delivered d = record { messages = d.messages; taken = d.taken; mark = Delivered }

-- some octets of the front message have left, and not its last
abbrev pub with_taken : ℕ → Direction (List ℕ) → Direction (List ℕ)
with_taken k d = record { messages = d.messages; taken = d.taken + k; mark = d.mark }
