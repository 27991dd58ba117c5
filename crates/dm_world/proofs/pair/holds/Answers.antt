-- What a node holds is tied to it.
use Rattle.std.proofs.Common.{◌≡◌, refl, ◌∙◌}
use Rattle.dm_machine.specs.Connection.{Hold, NotHeld, Pending, Made, OpenAsI, ClosingAsI, Taken, OpenAsR, ClosingAsR, hold_of}
use Rattle.dm_peer.specs.Holding as peers
use Rattle.dm_two_peers.specs.Machine.{is_tie_held, tie_as}
use Rattle.dm_world.proofs.pair.holds.Goals as goal

is_tied : (h : Hold) → peers.is_held h ≡ is_tie_held (tie_as h)
is_tied NotHeld = refl
is_tied Pending = refl
is_tied Made = refl
is_tied OpenAsI = refl
is_tied ClosingAsI = refl
is_tied Taken = refl
is_tied OpenAsR = refl
is_tied ClosingAsR = refl

pub returns : goal.returns
returns c = c.holds.ensures ∙ is_tied (hold_of c.args.peer.now.standing.core c.args.conn)
