-- What a run is, what clean happenings come to, and what a world can come to.
use Rattle.std.specs.Prelude.{◌≡◌, ℕ, IsTrue, IfSome, Some, List, map}
use Rattle.dm_two_peers.specs.Worlds.{Put}
use Rattle.dm_two_peers.specs.Happens.{run}
use Rattle.dm_two_peers.specs.Quiet.{is_clean}
use Rattle.dm_two_peers.specs.Falling.{CanFallQuiet, FallsQuiet}
use Rattle.dm_two_peers.specs.Links.{Side}
use Rattle.dm_two_peers.specs.Recovering.{CanOpen}
use Rattle.dm_two_peers.specs.Settled.{IsSettledRun}
use Rattle.dm_octet_peers.specs.Octets.{octet_peers}
use Rattle.dm_octet_peers.specs.Talking.{octet_talks}
use Rattle.dm_world.specs.declared.happening.Happening.{Happening}
use Rattle.dm_world.specs.Happening.{as_happening}
use Rattle.dm_world.specs.Views.{OctetWorld}

-- a run from one world to another, which puts some messages and disconnects in
abbrev pub RanTo : OctetWorld → List Happening → OctetWorld → Type 0
RanTo w list next =
    (put : List (Put (List ℕ))) ×
    (run octet_peers w (map as_happening list) ≡ Some (record { world = next; put = put }))

-- they are Starts, connects that come about, and what is delivered
abbrev pub AreClean : List Happening → Type 0
AreClean list = IsTrue (is_clean (map as_happening list))

-- what their run comes to: at most two CERs, one CEA and two disconnects are put in, in their course; and where it
-- falls quiet after a taken Start both sides are open on the connection that the election keeps (RFC 6733, 5.6.4)
abbrev pub RunSettles : OctetWorld → List Happening → Type 0
RunSettles w list =
    IfSome (run octet_peers w (map as_happening list))
    (λ r. IsSettledRun octet_peers (octet_talks w.a.config w.b.config) w (map as_happening list) r)

-- it is quiet where no Ack and no delivery is done any more, after nine steps, and after four where one side alone
-- starts
abbrev pub RunFallsQuiet : OctetWorld → List Happening → Type 0
RunFallsQuiet w list =
    IfSome (run octet_peers w (map as_happening list))
    (λ r. FallsQuiet octet_peers (octet_talks w.a.config w.b.config) w (map as_happening list) r)

-- some Acks and deliveries, with its own steps nine at most, make it quiet
abbrev pub RunCanFallQuiet : OctetWorld → List Happening → Type 0
RunCanFallQuiet w list =
    IfSome (run octet_peers w (map as_happening list))
    (λ r. CanFallQuiet octet_peers (octet_talks w.a.config w.b.config) w (map as_happening list))

-- both can restart, and after some deliveries a Start of either side, the Ack and two deliveries open both
abbrev pub EitherCanOpen : OctetWorld → Type 0
EitherCanOpen w = (s : Side) → CanOpen octet_peers w s
