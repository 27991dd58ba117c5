-- How an input concerns a link: as the event does that it is told for.
use Rattle.std.proofs.Common.{◌≡◌, Bool, true, false, ◌==◌, if◌then◌else◌, refl}
use Rattle.dm_machine.specs.declared.inputs.Word.{Word}
use Rattle.dm_machine.specs.Connection as machine
use Rattle.dm_two_peers.specs.Machine.{Conn, LinkConcern, Elsewhere, StartsLink, MakesLink, FailsLink, EndsLink, HeardOnLink}
use Rattle.dm_two_peers.specs.Peers.{Event, StartEvent, StopEvent, TimeoutEvent, TickEvent, AckEvent, NackEvent, GoneEvent, SubmitEvent, ArrivedEvent, concern_by}
use Rattle.dm_two_peers.specs.Follows.{input_told}

abbrev pub concern_as : machine.Concern → LinkConcern
concern_as machine.StartsIt = StartsLink
concern_as machine.AcksIt = MakesLink
concern_as machine.NacksIt = FailsLink
concern_as machine.EndsIt = EndsLink
concern_as (machine.HeardOnIt w) = HeardOnLink
concern_as _ = Elsewhere

named_as : (b : Bool) (k : machine.Concern) →
    concern_as (machine.if_named b k) ≡ (if b then concern_as k else Elsewhere)
named_as true k = refl
named_as false k = refl

pub told_concern : {M : Type 0} (e : Event M) (word : Word) (c : Conn) →
    concern_as (machine.concern_of (input_told e word) c) ≡ concern_by e c
told_concern (StartEvent d) word c = named_as (d.0 == c.0) machine.StartsIt
told_concern (StopEvent cause) word c = refl
told_concern TimeoutEvent word c = refl
told_concern TickEvent word c = refl
told_concern (AckEvent d) word c = named_as (d.0 == c.0) machine.AcksIt
told_concern (NackEvent d) word c = named_as (d.0 == c.0) machine.NacksIt
told_concern (GoneEvent d) word c = named_as (d.0 == c.0) machine.EndsIt
told_concern (SubmitEvent x) word c = refl
told_concern (ArrivedEvent d x) word c = named_as (d.0 == c.0) (machine.HeardOnIt word)
