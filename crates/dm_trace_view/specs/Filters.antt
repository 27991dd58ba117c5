-- Which messages something is said of: those that say all that is asked for.
use Rattle.std.specs.Char.{to_ascii_lowercase}
use Rattle.std.specs.Prelude.{◌≡◌, ◌⊎◌, ℕ, Bool, true, false, not, ◌&&◌, ◌||◌, nat_eq, Option, None, Some}
use Rattle.std.specs.Prelude.{option_map, unwrap_or, is_none, List, map}
use Rattle.std.specs.List.{list_any}
use Rattle.std.specs.Borrow.{Bor}
use Rattle.std.specs.Str.{bytes_eq}
use Rattle.dm_wire.specs.declared.avp.Avp.{Avp}
use Rattle.dm_wire.specs.declared.message.Header.{Header}
use Rattle.dm_wire.specs.declared.message.Message.{Message}
use Rattle.dm_wire.specs.declared.fault.WireFault.{WireFault}
use Rattle.dm_wire.specs.declared.codes.avps.TheConstants.{ORIGIN_HOST as origin_host, SESSION_ID as session_id}
use Rattle.dm_wire.specs.declared.codes.avps.TheConstants.{DESTINATION_HOST as destination_host}
use Rattle.dm_wire.specs.Finding.{is_of}
use Rattle.dm_wire.specs.Refusal.{Refuses}
use Rattle.dm_wire.specs.Spelling.{SpellsMessage}
use Rattle.dm_tables.specs.Definitions.{Definitions}
use Rattle.dm_tables.specs.declared.def.CommandDef.{CommandDef}
use Rattle.dm_dict.specs.Faults.{faults, has_none}
use Rattle.dm_view.specs.View.{command_of}
use Rattle.dm_trace_view.specs.declared.filter.Asked.{Asked}
use Rattle.dm_trace_view.specs.declared.filter.Asked.TheVariants as asked
use Rattle.dm_trace_view.specs.declared.filter.Filter.{Filter}
use Rattle.dm_trace_view.specs.declared.filter.Wanted.{Wanted}
use Rattle.dm_trace_view.specs.declared.filter.Wanted.TheVariants as wanted

-- `A` to `Z` taken as `a` to `z`
abbrev pub same_host : List ℕ → List ℕ → Bool
same_host one other = bytes_eq (map to_ascii_lowercase one) (map to_ascii_lowercase other)

-- an Origin-Host or a Destination-Host that is this host (RFC 6733, 6.3 and 6.5), or this Session-Id (8.8)
abbrev pub says_asked : Asked → Avp → Bool
says_asked (asked.Host host) a =
    (is_of origin_host None a || is_of destination_host None a) && same_host a.bytes host.now
says_asked (asked.Session session) a = is_of session_id None a && bytes_eq a.bytes session.now

-- one of its AVPs does, in no group; what isn't asked for is said by each
abbrev pub has_asked : Asked → Message → Bool
has_asked what m = list_any (says_asked what) m.avps

abbrev pub says_peer : Option (Bor (List ℕ)) → Message → Bool
says_peer host m = unwrap_or (option_map (λ h. has_asked (asked.Host h) m) host) true

abbrev pub tells_session : Option (Bor (List ℕ)) → Message → Bool
tells_session session m = unwrap_or (option_map (λ s. has_asked (asked.Session s) m) session) true

-- the name that the dictionary has for its command
abbrev pub bears_name : Option CommandDef → List ℕ → Bool
bears_name None name = false
bears_name (Some command) name = bytes_eq command.name name

-- its Command Code (3), or that name
abbrev pub tells_command : Definitions → Option Wanted → Header → Bool
tells_command d None header = true
tells_command d (Some (wanted.Code code)) header = nat_eq header.command code
tells_command d (Some (wanted.Named name)) header = bears_name (command_of d header) name.now

-- all that is asked for; where that something is wrong with it, one fault at least
abbrev pub says_all : Filter → Definitions → Message → Bool
says_all f d m =
    says_peer f.host m && tells_session f.session m && tells_command d f.command m.header
    && (not f.bad || not (has_none (faults d m)))

-- octets that are no message say nothing that could be asked for, and something is wrong with them
abbrev pub passes_refused : Filter → Bool
passes_refused f = is_none f.host && is_none f.session && is_none f.command

abbrev pub PassesFilter : Filter → Definitions → List ℕ → Bool → Type 0
PassesFilter f d s passed =
    ((m : Message) × SpellsMessage m s × (passed ≡ says_all f d m))
    ⊎ ((fault : WireFault) × Refuses s fault × (passed ≡ passes_refused f))
