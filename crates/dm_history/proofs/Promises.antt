-- What is promised of a run, from the laws of every list of events.
use Rattle.std.proofs.Common.{◌≡◌, List, ◌++◌, subst}
use Rattle.dm_peer.specs.declared.actions.Action.{Action}
use Rattle.dm_peer.specs.declared.peer.Peer.{Peer}
use Rattle.dm_peer.specs.Acts.{Moved, acts}
use Rattle.dm_history.specs.History.{Happened, new_peer, Became}
use Rattle.dm_history.specs.Opened.{EachOpeningWasAsked}
use Rattle.dm_history.specs.Carrying.{IsCarried, EachRunCarries}
use Rattle.dm_history.specs.Over.{EachEndIsLast, NothingFollowsClose}
use Rattle.dm_history.specs.Promised.{LeadsOn, LeavesOpened, CarriesThrough, LeavesEnded, EndsAtEachClose, ClosesThrough}
use Rattle.dm_history.proofs.Replays.{lived_on, throughout}

pub leads_on : (p last : Peer) (run : List Happened) → Became p run last → LeadsOn p run last
leads_on p last run lived first past before = lived_on first p past before run last lived

pub leaves_opened : EachOpeningWasAsked → (p last : Peer) (run : List Happened) → Became p run last →
    LeavesOpened p run last
leaves_opened law p last run lived config next past before c =
    law config next (run ++ past) last c (lived_on (new_peer config next) p past before run last lived)

pub carries_through : EachRunCarries → (p last : Peer) (run : List Happened) → Became p run last → CarriesThrough p run
carries_through law p last run lived config next past before =
    throughout (IsCarried config.node) p
    (λ older q e actions after was is.
    (law config next (older ++ past) q (lived_on (new_peer config next) p past before older q was)).only e actions after
    is) run last lived

pub leaves_ended : EachEndIsLast → (p last : Peer) (run : List Happened) → Became p run last → LeavesEnded p run last
leaves_ended law p last run lived config next past before c =
    law config next (run ++ past) last c (lived_on (new_peer config next) p past before run last lived)

pub closes_through : NothingFollowsClose → (p last : Peer) (run : List Happened) → Became p run last →
    ClosesThrough p run
closes_through law p last run lived config next past before =
    throughout EndsAtEachClose p
    (λ older q e actions after was is c s earlier later cut.
    law config next (older ++ past) q e after c s earlier later
    (lived_on (new_peer config next) p past before older q was)
    (subst (λ (l : List Action). acts q e ≡ Moved l after) cut is)) run last lived
