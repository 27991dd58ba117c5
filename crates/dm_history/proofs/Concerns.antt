-- How an event concerns a connection: whether it names it, tells that it was made, or that it has ended.
use Rattle.std.proofs.Common.{◌≡◌, ◌==◌, Bool, true, false, Option, refl}
use Rattle.dm_machine.specs.declared.connection.Conn.{Conn}
use Rattle.dm_machine.specs.Connection.{Concern, NamesAnother, StartsIt, AcksIt, NacksIt, EndsIt, HeardOnIt, if_named, concern_of}
use Rattle.dm_machine.specs.Openings.{names_it}
use Rattle.dm_peer.specs.Events.{PeerEvent, Start, Ack, Nack, Arrived, Gone}
use Rattle.dm_peer.specs.Said.{Heard, word_heard}
use Rattle.dm_peer.specs.Acts.{input_of}
use Rattle.dm_history.specs.Naming.{names_conn, tells_made, event_ends}

abbrev pub is_end : Concern → Bool
is_end NacksIt = true
is_end EndsIt = true
is_end _ = false

abbrev pub is_making : Concern → Bool
is_making AcksIt = true
is_making (HeardOnIt w) = true
is_making _ = false

-- a fact that holds of no other connection
if_so : (is : Concern → Bool) → is NamesAnother ≡ false → (b : Bool) (k : Concern) → is k ≡ true →
    is (if_named b k) ≡ b
if_so is other true k e = e
if_so is other false k e = other

if_not : (is : Concern → Bool) → is NamesAnother ≡ false → (b : Bool) (k : Concern) → is k ≡ false →
    is (if_named b k) ≡ false
if_not is other true k e = e
if_not is other false k e = other

pub names_as : (e : PeerEvent) (h : Option Heard) (c : Conn) → names_it (concern_of (input_of e h) c) ≡ names_conn e c
names_as (Start d) h c = if_so names_it refl (d.0 == c.0) StartsIt refl
names_as (Ack d) h c = if_so names_it refl (d.0 == c.0) AcksIt refl
names_as (Nack d) h c = if_so names_it refl (d.0 == c.0) NacksIt refl
names_as (Gone d) h c = if_so names_it refl (d.0 == c.0) EndsIt refl
names_as (Arrived d s) h c = if_so names_it refl (d.0 == c.0) (HeardOnIt (word_heard h)) refl
names_as _ h c = refl

pub ends_as : (e : PeerEvent) (h : Option Heard) (c : Conn) → is_end (concern_of (input_of e h) c) ≡ event_ends e c
ends_as (Start d) h c = if_not is_end refl (d.0 == c.0) StartsIt refl
ends_as (Ack d) h c = if_not is_end refl (d.0 == c.0) AcksIt refl
ends_as (Nack d) h c = if_so is_end refl (d.0 == c.0) NacksIt refl
ends_as (Gone d) h c = if_so is_end refl (d.0 == c.0) EndsIt refl
ends_as (Arrived d s) h c = if_not is_end refl (d.0 == c.0) (HeardOnIt (word_heard h)) refl
ends_as _ h c = refl

pub makes_as : (e : PeerEvent) (h : Option Heard) (c : Conn) →
    is_making (concern_of (input_of e h) c) ≡ tells_made e c
makes_as (Start d) h c = if_not is_making refl (d.0 == c.0) StartsIt refl
makes_as (Ack d) h c = if_so is_making refl (d.0 == c.0) AcksIt refl
makes_as (Nack d) h c = if_not is_making refl (d.0 == c.0) NacksIt refl
makes_as (Gone d) h c = if_not is_making refl (d.0 == c.0) EndsIt refl
makes_as (Arrived d s) h c = if_so is_making refl (d.0 == c.0) (HeardOnIt (word_heard h)) refl
makes_as _ h c = refl
