-- AVPs of a list that were judged, up to those that are left.
use Rattle.std.specs.Prelude.{◌≡◌, ◌∷◌, ℕ, List, ◌++◌, flat_map}
use Rattle.dm_wire.specs.declared.avp.Avp.{Avp}
use Rattle.dm_wire.specs.declared.avps_ref.AvpsRef.{AvpsRef}
use Rattle.dm_wire.specs.Borrowed.{Lists}
use Rattle.dm_wire.specs.Spelling.{SpellsList}
use Rattle.dm_tables.specs.declared.rule.Entry.{Entry}
use Rattle.dm_tables.specs.declared.def.AvpDef.{AvpDef}
use Rattle.dm_dict.specs.Counters.{IsCountedBut}
use Rattle.dm_dict.specs.Faults.{Fault, avp_faults, entry_faults, group_faults, list_faults, first}
use Rattle.dm_dict.specs.Rules.{definition, entry_for, allows}

-- what is wrong with each AVP of m under the rule
abbrev pub each_faults : ℕ → List AvpDef → List Entry → List Avp → List Fault
each_faults n avps rule m =
    flat_map
    (λ a. avp_faults (group_faults n avps) (allows (entry_for rule (definition avps a))) a (definition avps a)) m

-- nothing is wrong with the AVPs of l but for those of m, at its end, and those are counted
abbrev pub IsGoodBut : ℕ → List AvpDef → List Entry → List Avp → List Avp → List ℕ → Type 0
IsGoodBut n avps rule l m numbers =
    (first (list_faults n avps rule l) ≡ first (each_faults n avps rule m ++ flat_map (entry_faults avps rule l) rule))
    × IsCountedBut avps rule l m 0 numbers

-- a is passed by the counters that come of these, wherever it is the first of the AVPs that are left
abbrev pub PassesNext : ℕ → List AvpDef → List Entry → Avp → List ℕ → List ℕ → Type 0
PassesNext n avps rule a old new =
    (l m k : List Avp) → IsGoodBut n avps rule l m old → m ≡ a ∷ k → IsGoodBut n avps rule l k new

-- of the AVPs of a list those before the ones that are left are passed by the counters that come of these
abbrev pub PassesList : ℕ → List AvpDef → List Entry → AvpsRef → AvpsRef → List ℕ → List ℕ → Type 0
PassesList n avps rule list left old new =
    (l m : List Avp) → Lists list m → IsGoodBut n avps rule l m old
    → (k : List Avp) × Lists left k × IsGoodBut n avps rule l k new

-- octets spell AVPs before those of the octets that are left, and these are passed by the counters that come of these
abbrev pub PassesOctets : ℕ → List AvpDef → List Entry → List ℕ → List ℕ → List ℕ → List ℕ → Type 0
PassesOctets n avps rule octets left old new =
    (all : List Avp → List Avp) × ((m : List Avp) → SpellsList m left → SpellsList (all m) octets)
    × ((l m : List Avp) → IsGoodBut n avps rule l (all m) old → IsGoodBut n avps rule l m new)
