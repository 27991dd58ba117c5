-- Octets say one thing: at most one message at a front, a message or a fault, and at most one fault.
use Rattle.std.specs.Prelude.{◌≡◌, ◌⊎◌, ℕ, List, ◌++◌}
use Rattle.dm_wire.specs.declared.avp.Avp.{Avp}
use Rattle.dm_wire.specs.declared.message.Message.{Message}
use Rattle.dm_wire.specs.declared.fault.WireFault.{WireFault}
use Rattle.dm_wire.specs.Spelling.{SpellsAvp, SpellsList, SpellsMessage}
use Rattle.dm_wire.specs.Refusal.{IsBadAt, Refuses}
use Rattle.dm_wire.specs.Octets.{AreOctets}

-- two spellings of messages that begin one text are equal, and spell one message
abbrev pub OneMessage : Type 0
OneMessage = (m k : Message) (s t x y : List ℕ) → SpellsMessage m s → SpellsMessage k t → s ++ x ≡ t ++ y →
    (m ≡ k) × (s ≡ t)

-- two spellings of AVPs that begin one text are equal, and spell one AVP
abbrev pub OneAvp : Type 0
OneAvp = (a b : Avp) (s t x y : List ℕ) → SpellsAvp a s → SpellsAvp b t → s ++ x ≡ t ++ y → (a ≡ b) × (s ≡ t)

-- octets spell at most one list of AVPs
abbrev pub OneList : Type 0
OneList = (l k : List Avp) (s : List ℕ) → SpellsList l s → SpellsList k s → l ≡ k

-- at most one octet behind octet n is where the first bad AVP begins
abbrev pub OneBadOctet : Type 0
OneBadOctet = (n : ℕ) (s : List ℕ) (o p : ℕ) → IsBadAt n s o → IsBadAt n s p → o ≡ p

-- octets have at most one fault
abbrev pub OneRefusal : Type 0
OneRefusal = (s : List ℕ) (f g : WireFault) → Refuses s f → Refuses s g → f ≡ g

-- octets that spell a message have no fault
abbrev pub NoMessageRefused : Type 0
NoMessageRefused = (m : Message) (s : List ℕ) (f : WireFault) → SpellsMessage m s → Refuses s f → ⊥

-- octets spell a list of AVPs, or there is a first bad one
abbrev pub ListOrBadOctet : Type 0
ListOrBadOctet = (s : List ℕ) → AreOctets s →
    ((l : List Avp) × SpellsList l s) ⊎ ((o : ℕ) × IsBadAt 0 s o)

-- octets spell a message, or have a fault
abbrev pub MessageOrFault : Type 0
MessageOrFault = (s : List ℕ) → AreOctets s →
    ((m : Message) × SpellsMessage m s) ⊎ ((f : WireFault) × Refuses s f)
