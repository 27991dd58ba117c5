-- Two peers over octets match an answer with its request, by the Hop-by-Hop Identifier (RFC 6733, 3 and 6.2.1).
use Rattle.std.specs.Prelude.{◌<◌, ◌^◌, ℕ, Bool, true, false, not, ◌&&◌, ◌||◌, nat_eq, nat_lt, if◌then◌else◌, Option}
use Rattle.std.specs.Prelude.{None, Some, is_none, IsTrue, IfSome, List, Result, Ok}
use Rattle.dm_wire.specs.declared.message.Header.{Header}
use Rattle.dm_wire.specs.declared.message.Message.{Message}
use Rattle.dm_wire.specs.Whole.{message_in}
use Rattle.dm_tables.specs.Base.{base_definitions}
use Rattle.dm_dict.specs.Faults.{Fault}
use Rattle.dm_base.specs.Codes.{capabilities_exchange, disconnect_peer}
use Rattle.dm_base.specs.declared.kind.Kind.{Kind}
use Rattle.dm_base.specs.declared.kind.Kind.TheVariants as kinds
use Rattle.dm_base.specs.Kinds.{kind}
use Rattle.dm_machine.specs.Awaiting.{awaits_dpa}
use Rattle.dm_peer.specs.declared.config.Config.{Config}
use Rattle.dm_peer.specs.declared.peer.Peer.{Peer}
use Rattle.dm_two_peers.specs.Laws.{world_of}
use Rattle.dm_two_peers.specs.Happens.{Happening, run}
use Rattle.dm_two_peers.specs.Quiet.{is_quiet}
use Rattle.dm_two_peers.specs.Requests.{Requests, AnswersMatch}
use Rattle.dm_two_peers.specs.ClosedOrOpen.{AreClosedOrOpen}
use Rattle.dm_octet_peers.specs.Octets.{octet_peers}
use Rattle.dm_octet_peers.specs.Talking.{ArePaired, is_standing}
use Rattle.dm_octet_peers.specs.Laws.{fresh_peer}

-- the message that octets spell passes a test
abbrev pub spells_such : (Message → Bool) → List ℕ → Bool
spells_such passes s = elim (message_in s) [ None ↦ false | Some m ↦ passes m ]

-- a header of a command under a number, a request or an answer
abbrev pub is_numbered_so : Bool → ℕ → ℕ → Header → Bool
is_numbered_so request command n h =
    nat_eq h.hop_id n && (nat_eq h.command command && (if request then h.request else not h.request))

-- the numbers of a header fit their fields
abbrev pub has_fit : Header → Bool
has_fit h =
    nat_lt h.command (256 ^ 3) && (nat_lt h.application (256 ^ 4) && (nat_lt h.hop_id (256 ^ 4) && nat_lt h.end_id
    (256 ^ 4)))

-- the kind of a message under the base dictionary
unfoldable pub base_kind : Message → Result Kind Fault
base_kind m = kind base_definitions m

-- a good DPR, a good DPA [5.4]
abbrev pub is_good_dpr : Result Kind Fault → Bool
is_good_dpr (Ok (kinds.Dpr cause)) = true
is_good_dpr _ = false

abbrev pub is_good_dpa : Result Kind Fault → Bool
is_good_dpa (Ok kinds.Dpa) = true
is_good_dpa _ = false

-- the number of a CER that waits for its CEA, where its header fits its fields
abbrev pub waiting_number : Option Header → Option ℕ
waiting_number None = None
waiting_number (Some h) = if has_fit h && nat_eq h.command capabilities_exchange then Some h.hop_id else None

abbrev pub octet_requests : Requests Peer (List ℕ)
octet_requests =
    record {
      cea_of = λ p. p.standing.awaited.cea;
      dpa_of = λ p. p.standing.awaited.dpa;
      cer_of = λ p. waiting_number p.standing.waiting;
      is_cer = λ n. spells_such (λ m. has_fit m.header && is_numbered_so true capabilities_exchange n m.header);
      is_cea = λ n. spells_such (λ m. is_numbered_so false capabilities_exchange n m.header);
      is_dpr = λ n. spells_such (λ m. has_fit m.header && (is_numbered_so true disconnect_peer n m.header && is_good_dpr
          (base_kind m)));
      is_dpa = λ n. spells_such (λ m. is_numbered_so false disconnect_peer n m.header && is_good_dpa (base_kind m));
      asks_end = spells_such (λ m. nat_eq m.header.command disconnect_peer && m.header.request);
    }

-- a peer that stands as one does after every list of events, and awaits a DPA in Closing alone
abbrev pub is_matching : Peer → Bool
is_matching p = is_standing p && (awaits_dpa p.standing.core.state || is_none p.standing.awaited.dpa)

-- peers over octets match their answers
abbrev pub OctetAnswersMatch : Type 0
OctetAnswersMatch = AnswersMatch octet_peers octet_requests is_matching

-- wherever a run of two new peers that are configured for each other falls quiet both are Closed, or both are open on
-- one link in opposite roles
abbrev pub EachOctetQuietRunIsClosedOrOpen : Type 0
EachOctetQuietRunIsClosedOrOpen =
    (a b : Config) → ArePaired a b → a.first_id < 2 ^ 32 → b.first_id < 2 ^ 32 → (hs : List (Happening (List ℕ))) →
    IfSome (run octet_peers (world_of (fresh_peer a) (fresh_peer b)) hs)
    (λ r. IsTrue (is_quiet r.world) → AreClosedOrOpen r.world.a.standing.core r.world.b.standing.core)
