-- A direction as contracts see it.
use Rattle.std.specs.Prelude.{◌-◌}
use Rattle.std.specs.VecDeque.{deque_capacity, deque_len}
use Rattle.dm_world.specs.declared.direction.Direction.TheInside.{Inside}
use Rattle.dm_world.specs.Fed.{IsFed}
use Rattle.dm_world.specs.Way.{Way}
use Rattle.dm_world.specs.Ways.{as_mark}

abbrev pub way_of : Inside → Way
way_of d =
    record {
      direction = record { messages = d.queue.items; taken = d.taken; mark = as_mark d.mark };
      room = deque_capacity d.queue - deque_len d.queue;
    }

-- what holds of each direction
abbrev pub IsFedWay : Inside → Type 0
IsFedWay d = IsFed d.queue.items d.taken d.framer
