-- Messages of base commands: they are heard as such, and no other message is; what a node builds is no application's.
use Rattle.std.proofs.Common.{◌≡◌, ℕ, Bool, true, false, not, ◌&&◌, nat_le, Option, None, Some, is_some, List, ◌∷◌, ◌++◌, drop, if◌then◌else◌, refl, sym, ap, subst, nat_eq}
use Rattle.std.specs.Prelude.{option_map, Result, Ok}
use Rattle.std.proofs.lemmas.Bool.{eqb-true}
use Rattle.dm_wire.specs.declared.avp.Avp.{Avp}
use Rattle.dm_wire.specs.declared.message.Header.{Header}
use Rattle.dm_wire.specs.declared.message.Message.{Message}
use Rattle.dm_wire.specs.Members.{members}
use Rattle.dm_wire.specs.Whole.{has_header, header_in, with_header, message_in}
use Rattle.dm_dict.specs.Faults.{Fault, faults, first}
use Rattle.dm_base.specs.Codes.{capabilities_exchange, device_watchdog, disconnect_peer, result_code}
use Rattle.dm_base.specs.declared.base_command.BaseCommand.{BaseCommand}
use Rattle.dm_base.specs.declared.base_command.BaseCommand.TheVariants.{CapabilitiesExchange, DeviceWatchdog, DisconnectPeer}
use Rattle.dm_base.specs.declared.kind.Kind.{Kind}
use Rattle.dm_base.specs.declared.kind.Kind.TheVariants as kinds
use Rattle.dm_wire.specs.Spelling.{be}
use Rattle.dm_wire.specs.Canonical.{header_flags, message_size, canonical_list, canonical_message}
use Rattle.dm_base.specs.Commands.{base_command, is_base_command}
use Rattle.dm_base.specs.Kinds.{caps_of, number_at, kind_by, kind_of, kind_or_fault}
use Rattle.dm_machine.specs.declared.inputs.Word.{Word}
use Rattle.dm_machine.specs.declared.inputs.Word.TheVariants.{Cea, CeaFailed, Other}
use Rattle.dm_peer.specs.declared.config.Config.{Config}
use Rattle.dm_peer.specs.Octets.{octets_of}
use Rattle.dm_peer.specs.Said as said_words
use Rattle.dm_peer.specs.Said.{word_of_bad, refusal_of_caps, heard_caps, is_other_sender, word_of_cea, said_by_kind, said, kind_under, heard_in}
use Rattle.dm_peer.specs.Acts.{can_submit}
use Rattle.dm_octet_peers.specs.Carrying.{is_app}

abbrev pub is_other : Word → Bool
is_other Other = true
is_other _ = false

-- what is heard has the header of its message
caps_header : (h : Header) (o : Option ℕ) → (heard_caps h o).header ≡ h
caps_header h None = refl
caps_header h (Some code) = refl

said_header : (c : Config) (m : Message) (r : Result Kind Fault) → (said c m r).header ≡ m.header
said_header c m (Ok (kinds.Cer caps)) = caps_header m.header (refusal_of_caps c caps)
said_header c m _ = refl

pub heard_header : (c : Config) (m : Message) → (heard_in c m).header ≡ m.header
heard_header c m = said_header c m (kind_under c m)

-- a message of another command is heard as one
other_kind : (c : Config) (m : Message) → is_base_command m.header.command ≡ false → kind_under c m ≡ Ok kinds.Other
unfolding kind_under
other_kind c m h =
    ap (λ b. if b then kind_or_fault (first (faults c.dictionary m))
    (kind_of m.header.command m.header.request m.avps) else Ok kinds.Other) h

pub other_heard : (c : Config) (m : Message) → is_base_command m.header.command ≡ false →
    (heard_in c m).word ≡ Other
other_heard c m h = ap (λ k. (said c m k).word) (other_kind c m h)

-- and one of a base command isn't
bad_word : (h : Header) → is_other (word_of_bad h) ≡ false
bad_word h = by_command (base_command h.command) h.request
  where
    by_command : (o : Option BaseCommand) (request : Bool) → is_other (said_words.bad_word o request) ≡ false
    by_command (Some CapabilitiesExchange) true = refl
    by_command (Some CapabilitiesExchange) false = refl
    by_command (Some DeviceWatchdog) true = refl
    by_command (Some DeviceWatchdog) false = refl
    by_command (Some DisconnectPeer) true = refl
    by_command (Some DisconnectPeer) false = refl
    by_command None true = refl
    by_command None false = refl

caps_word : (h : Header) (o : Option ℕ) → is_other (heard_caps h o).word ≡ false
caps_word h None = refl
caps_word h (Some code) = refl

code_word : (c : Config) (m : Message) (code : ℕ) → is_other (word_of_cea c m code) ≡ false
code_word c m code = by_tests (is_other_sender c m) (nat_le 2000 code && nat_le code 2999)
  where
    by_tests : (another b : Bool) → is_other (if another then CeaFailed else (if b then Cea else CeaFailed)) ≡ false
    by_tests true b = refl
    by_tests false true = refl
    by_tests false false = refl

kind_word : (c : Config) (m : Message) (code : ℕ) (request : Bool) (l : List Avp) →
    is_base_command code ≡ true → is_other (said_by_kind c m (kind_of code request l)).word ≡ false
kind_word c m code request l base = by_command (base_command code) request base
  where
    by_command : (o : Option BaseCommand) (request : Bool) → is_some o ≡ true →
        is_other (said_by_kind c m (kind_by o request l)).word ≡ false
    by_command (Some CapabilitiesExchange) true e = caps_word m.header (refusal_of_caps c (caps_of l))
    by_command (Some CapabilitiesExchange) false e = code_word c m (number_at result_code l)
    by_command (Some DeviceWatchdog) true e = refl
    by_command (Some DeviceWatchdog) false e = refl
    by_command (Some DisconnectPeer) true e = refl
    by_command (Some DisconnectPeer) false e = refl
    by_command None request e = cc

said_word : (c : Config) (m : Message) (code : ℕ) (request : Bool) (l : List Avp) (o : Option Fault) →
    is_base_command code ≡ true → is_other (said c m (kind_or_fault o (kind_of code request l))).word ≡ false
said_word c m code request l None base = kind_word c m code request l base
said_word c m code request l (Some f) base = bad_word m.header

pub base_heard : (c : Config) (m : Message) → is_base_command m.header.command ≡ true →
    is_other (heard_in c m).word ≡ false
unfolding kind_under
base_heard c m base =
    subst (λ b. is_other (said c m (if b then kind_or_fault (first (faults c.dictionary m))
    (kind_of m.header.command m.header.request m.avps) else Ok kinds.Other)).word ≡ false) (sym base)
    (said_word c m m.header.command m.header.request m.avps (first (faults c.dictionary m)) base)

-- what a node builds is no message of an application
abbrev command_by : Bool → Bool → Bool → Option BaseCommand
command_by exchange watchdog disconnect =
    if exchange then Some CapabilitiesExchange
    else (if watchdog then Some DeviceWatchdog else (if disconnect then Some DisconnectPeer else None))

abbrev headed : ℕ → ℕ → List ℕ → ℕ → List ℕ
headed size flags more code = 1 ∷ be size 3 ++ flags ∷ be code 3 ++ more

command_at : (size flags : ℕ) (more : List ℕ) (code : ℕ) → is_base_command code ≡ true →
    is_base_command (header_in (headed size flags more code)).command ≡ true
command_at size flags more code base =
    by_tests (nat_eq code capabilities_exchange) (nat_eq code device_watchdog) (nat_eq code disconnect_peer) refl refl
    refl
    base
  where
    by_tests : (exchange watchdog disconnect : Bool) → nat_eq code capabilities_exchange ≡ exchange →
        nat_eq code device_watchdog ≡ watchdog → nat_eq code disconnect_peer ≡ disconnect →
        is_some (command_by exchange watchdog disconnect) ≡ true → is_base_command
        (header_in (headed size flags more code)).command ≡ true
    by_tests true watchdog disconnect e f g h =
        subst (λ n. is_base_command (header_in (headed size flags more n)).command ≡ true)
        (sym (eqb-true code capabilities_exchange e)) refl
    by_tests false true disconnect e f g h =
        subst (λ n. is_base_command (header_in (headed size flags more n)).command ≡ true)
        (sym (eqb-true code device_watchdog f)) refl
    by_tests false false true e f g h =
        subst (λ n. is_base_command (header_in (headed size flags more n)).command ≡ true)
        (sym (eqb-true code disconnect_peer g)) refl
    by_tests false false false e f g h = cc

header_base : (m : Message) → is_base_command m.header.command ≡ true →
    is_base_command (header_in (canonical_message m)).command ≡ true
header_base m base =
    command_at (message_size m) (header_flags m.header)
    (be m.header.application 4 ++ be m.header.hop_id 4 ++ be m.header.end_id 4 ++ canonical_list m.avps)
    m.header.command base

no_app : (s : List ℕ) (b : Bool) (o : Option (List Avp)) → is_base_command (header_in s).command ≡ true →
    can_submit (if b then option_map (with_header s) o else None) ≡ false
no_app s true None base = refl
no_app s true (Some l) base = ap (λ q. not q) base
no_app s false o base = refl

pub base_sent : (m : Message) → is_base_command m.header.command ≡ true → is_app (octets_of m) ≡ false
unfolding message_in octets_of
base_sent m base =
    no_app (canonical_message m) (has_header (canonical_message m)) (members (drop 20 (canonical_message m)))
    (header_base m base)
