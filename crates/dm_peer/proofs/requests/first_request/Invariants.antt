-- The commands from here on decide.
use Rattle.std.proofs.Common.{◌≡◌, length}
use Rattle.dm_peer.specs.After.{request_in}
use Rattle.dm_peer.proofs.requests.first_request.Given as goal

abbrev pub invariant-loop-left : goal.invariant-loop-left
invariant-loop-left l = request_in l.left ≡ request_in l.commands

abbrev pub decreases-loop-left : goal.decreases-loop-left
decreases-loop-left l = length l.left
