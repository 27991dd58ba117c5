-- The message that is read from octets is the one in them.
use Rattle.std.proofs.Common.{◌≡◌, ℕ, Option, None, Some, List, refl}
use Rattle.dm_wire.specs.declared.avp.Avp.{Avp}
use Rattle.dm_wire.specs.declared.fault.WireFault.{WireFault}
use Rattle.dm_wire.specs.declared.message.Header.{Header}
use Rattle.dm_wire.specs.declared.message.Message.{Message}
use Rattle.dm_wire.specs.OneAnswer.{NoMessageRefused}
use Rattle.dm_wire.specs.Refusal.{Refuses}
use Rattle.dm_wire.specs.Spelling.{SpellsList, SpellsMessage}
use Rattle.dm_wire.specs.Whole.{message_in, MessageInSpells}
use Rattle.dm_wire.specs.Octets.{AreOctets}

abbrev pub message_with : Header → List Avp → Message
message_with h l = record { header = h; avps = l }

pub read_in : MessageInSpells → (s : List ℕ) → AreOctets s → (h : Header) (rest : List ℕ) →
    ((l : List Avp) × SpellsList l rest × SpellsMessage (message_with h l) s) →
    (l : List Avp) × SpellsList l rest × (message_in s ≡ Some (message_with h l))
read_in law s octets h rest (l, listed, spelled) = (l, listed, (law s (message_with h l) octets).1 spelled)

-- octets that are refused have none
pub none_in : MessageInSpells → NoMessageRefused →
    (s : List ℕ) (f : WireFault) → AreOctets s → Refuses s f → message_in s ≡ None
none_in law spelled_none s f octets refused = by (message_in s) refl where
  by : (o : Option Message) → message_in s ≡ o → o ≡ None
  by None e = refl
  by (Some m) e = absurd (spelled_none m s f ((law s m octets).0 e) refused)
