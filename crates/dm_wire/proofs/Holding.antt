-- A message that is held is the one that its octets spell.
use Rattle.std.proofs.Common.{◌≡◌, ℕ, Some, true, is_some, List, [], drop, refl, sym, ◌∙◌, ap}
use Rattle.dm_wire.specs.declared.avp.Avp.{Avp}
use Rattle.dm_wire.specs.declared.message.Header.{Header}
use Rattle.dm_wire.specs.declared.message.Message.{Message}
use Rattle.dm_wire.specs.Members.{members}
use Rattle.dm_wire.specs.Spelling.{SpellsList, SpellsMessage}
use Rattle.dm_wire.specs.Held.{ArePlaces, HoldsMessage}
use Rattle.dm_wire.proofs.Members.{spelled_members}
use Rattle.dm_wire.proofs.Messages.{one_message}

pub held_is : (h : Header) (octets places : List ℕ) (held : HoldsMessage h octets places) (m : Message) →
    SpellsMessage m octets → record { header = h; avps = held.avps } ≡ m
held_is h octets places held m sp = (one_message (record { header = h; avps = held.avps }) m octets octets [] []
    held.spelled sp refl).0

pub held_header : (h : Header) (octets places : List ℕ) (held : HoldsMessage h octets places) (m : Message) →
    SpellsMessage m octets → h ≡ m.header
held_header h octets places held m sp = ap (λ (x : Message). x.header) (held_is h octets places held m sp)

pub held_avps : (h : Header) (octets places : List ℕ) (held : HoldsMessage h octets places) (m : Message) →
    SpellsMessage m octets → held.avps ≡ m.avps
held_avps h octets places held m sp = ap (λ (x : Message). x.avps) (held_is h octets places held m sp)

-- what was read is held with the places of its AVPs
pub held_so : (h : Header) (octets rest places : List ℕ) → rest ≡ drop 20 octets →
    ((avps : List Avp) × SpellsList avps rest × SpellsMessage (record { header = h; avps = avps }) octets) →
    ((avps : List Avp) → members (drop 20 octets) ≡ Some avps → ArePlaces places avps (drop 20 octets)) →
    HoldsMessage h octets places
held_so h octets rest places behind read placed =
    let listed : members (drop 20 octets) ≡ Some read.0 =
    ap members (sym behind) ∙ spelled_members read.0 rest read.1 in
    record { avps = read.0; spelled = read.2; listed = listed; placed = placed read.0 listed }

-- octets of which these are read are AVPs, one after the other
pub some_listed : (octets rest : List ℕ) (avps : List Avp) → rest ≡ drop 20 octets → SpellsList avps rest →
    is_some (members (drop 20 octets)) ≡ true
some_listed octets rest avps behind sp = ap is_some (ap members (sym behind) ∙ spelled_members avps rest sp)
