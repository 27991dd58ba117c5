-- Which messages leave an open connection open, by their words.
use Rattle.std.proofs.Common.{◌≡◌, ℕ, Bool, true, false, not, ◌&&◌, ◌||◌, nat_eq, Option, None, Some, is_some, List, Ok, if◌then◌else◌, refl, ap, ◌∙◌}
use Rattle.std.specs.Option.{option_eq}
use Rattle.dm_wire.specs.declared.avp.Avp.{Avp}
use Rattle.dm_wire.specs.declared.message.Header.{Header}
use Rattle.dm_wire.specs.declared.message.Message.{Message}
use Rattle.dm_dict.specs.Faults.{Fault, faults, first}
use Rattle.dm_base.specs.declared.kind.Kind.TheVariants as kinds
use Rattle.dm_base.specs.Commands.{base_command, is_base_command}
use Rattle.dm_base.specs.declared.base_command.BaseCommand.{BaseCommand}
use Rattle.dm_base.specs.declared.base_command.BaseCommand.TheVariants.{CapabilitiesExchange, DeviceWatchdog, DisconnectPeer}
use Rattle.dm_base.specs.Kinds.{caps_of, kind, kind_by, kind_of, kind_or_fault}
use Rattle.dm_peer.specs.declared.config.Config.{Config}
use Rattle.dm_peer.specs.declared.standing.Awaited.{Awaited}
use Rattle.dm_peer.specs.Said.{heard_in, heard_caps, refusal_of_caps, bad_word, said}
use Rattle.dm_peer.specs.After.{awaited_by}
use Rattle.dm_peer.specs.Acts.{is_unawaited}
use Rattle.dm_history.specs.Staying.{is_exchange, is_disconnect, ends_at_message}
use Rattle.dm_history.proofs.Commands.{word_is, word_if}
use Rattle.dm_history.proofs.OpenNodes.{keeps_open}

-- an answer that isn't dropped, where neither a CEA nor a DPA is awaited, by its command and the R bit
abbrev IsAwaitedBy : Awaited → Option BaseCommand → Bool → ℕ → Type 0
IsAwaitedBy a o r id = (not r && (is_some o && not (option_eq nat_eq (awaited_by a o) (Some id)))) ≡ false

none_awaited : (o : Option ℕ) (id : ℕ) → o ≡ None → (true && (true && not (option_eq nat_eq o (Some id)))) ≡ false → ⊥
none_awaited None id none e = cc e
none_awaited (Some n) id none e = cc none

-- what leaves it open, and what ends it
abbrev leaves : Bool → Option BaseCommand → Bool → Bool
leaves disconnects o r = not ((r && is_exchange o) || disconnects)

bad_keeps : (a : Awaited) (o : Option BaseCommand) (r : Bool) (id : ℕ) → a.cea ≡ None → a.dpa ≡ None →
    is_some o ≡ true → IsAwaitedBy a o r id → keeps_open (bad_word o r) ≡ leaves false o r
bad_keeps a (Some CapabilitiesExchange) true id cea dpa base e = refl
bad_keeps a (Some CapabilitiesExchange) false id cea dpa base e = absurd (none_awaited a.cea id cea e)
bad_keeps a (Some DeviceWatchdog) true id cea dpa base e = refl
bad_keeps a (Some DeviceWatchdog) false id cea dpa base e = refl
bad_keeps a (Some DisconnectPeer) true id cea dpa base e = refl
bad_keeps a (Some DisconnectPeer) false id cea dpa base e = absurd (none_awaited a.dpa id dpa e)
bad_keeps a None r id cea dpa base e = cc base

caps_end : (h : Header) (o : Option ℕ) → keeps_open (heard_caps h o).word ≡ false
caps_end h None = refl
caps_end h (Some code) = refl

good_keeps : (c : Config) (m : Message) (a : Awaited) (o : Option BaseCommand) (r : Bool) (id : ℕ) (l : List Avp) →
    a.cea ≡ None → a.dpa ≡ None → is_some o ≡ true → IsAwaitedBy a o r id →
    keeps_open (said c m (Ok (kind_by o r l))).word ≡ leaves (is_disconnect (Ok (kind_by o r l))) o r
good_keeps c m a (Some CapabilitiesExchange) true id l cea dpa base e = caps_end m.header (refusal_of_caps c (caps_of l))
good_keeps c m a (Some CapabilitiesExchange) false id l cea dpa base e = absurd (none_awaited a.cea id cea e)
good_keeps c m a (Some DeviceWatchdog) true id l cea dpa base e = refl
good_keeps c m a (Some DeviceWatchdog) false id l cea dpa base e = refl
good_keeps c m a (Some DisconnectPeer) true id l cea dpa base e = refl
good_keeps c m a (Some DisconnectPeer) false id l cea dpa base e = absurd (none_awaited a.dpa id dpa e)
good_keeps c m a None r id l cea dpa base e = cc base

-- a message of a base command, and one of another
base_keeps : (c : Config) (m : Message) (a : Awaited) (f : Option Fault) → a.cea ≡ None → a.dpa ≡ None →
    is_base_command m.header.command ≡ true → is_unawaited a m.header ≡ false →
    keeps_open (said c m (kind_or_fault f (kind_of m.header.command m.header.request m.avps))).word
    ≡ leaves (is_disconnect (kind_or_fault f (kind_of m.header.command m.header.request m.avps)))
    (base_command m.header.command) m.header.request
base_keeps c m a (Some f) cea dpa base e =
    bad_keeps a (base_command m.header.command) m.header.request m.header.hop_id cea dpa base e
base_keeps c m a None cea dpa base e =
    good_keeps c m a (base_command m.header.command) m.header.request m.header.hop_id m.avps cea dpa base e

no_exchange : (r : Bool) (o : Option BaseCommand) → is_some o ≡ false → true ≡ leaves false o r
no_exchange r (Some x) e = cc e
no_exchange true None e = refl
no_exchange false None e = refl

-- the same, by whether its command is a base one
abbrev leaves_if : Config → Message → Bool → Bool
leaves_if c m b =
    leaves (is_disconnect (if b
    then kind_or_fault (first (faults c.dictionary m)) (kind_of m.header.command m.header.request m.avps)
    else Ok kinds.Other)) (base_command m.header.command) m.header.request

by_command : (c : Config) (m : Message) (a : Awaited) → a.cea ≡ None → a.dpa ≡ None →
    is_unawaited a m.header ≡ false → (b : Bool) → is_base_command m.header.command ≡ b →
    keeps_open (word_if c m b) ≡ leaves_if c m b
by_command c m a cea dpa e true base = base_keeps c m a (first (faults c.dictionary m)) cea dpa base e
by_command c m a cea dpa e false other = no_exchange m.header.request (base_command m.header.command) other

pub keeps_word : (c : Config) (m : Message) (a : Awaited) → a.cea ≡ None → a.dpa ≡ None →
    is_unawaited a m.header ≡ false → keeps_open (heard_in c m).word ≡ not (ends_at_message c (Some m))
keeps_word c m a cea dpa e =
    ap keeps_open (word_is c m) ∙ by_command c m a cea dpa e (is_base_command m.header.command) refl

-- an answer ends no open connection
no_disconnect_by : (o : Option BaseCommand) (l : List Avp) → is_disconnect (Ok (kind_by o false l)) ≡ false
no_disconnect_by (Some CapabilitiesExchange) l = refl
no_disconnect_by (Some DeviceWatchdog) l = refl
no_disconnect_by (Some DisconnectPeer) l = refl
no_disconnect_by None l = refl

no_disconnect : (b r : Bool) (o : Option BaseCommand) (f : Option Fault) (l : List Avp) → r ≡ false →
    is_disconnect (if b then kind_or_fault f (kind_by o r l) else Ok kinds.Other) ≡ false
no_disconnect true r o (Some f) l e = refl
no_disconnect true r o None l e = ap (λ x. is_disconnect (Ok (kind_by o x l))) e ∙ no_disconnect_by o l
no_disconnect false r o f l e = refl

pub answer_ends_none : (c : Config) (m : Message) → m.header.request ≡ false →
    ends_at_message c (Some m) ≡ false
answer_ends_none c m e =
    ap (λ r. (r && is_exchange (base_command m.header.command)) || is_disconnect (kind c.dictionary m)) e
    ∙ no_disconnect (is_base_command m.header.command) m.header.request (base_command m.header.command)
    (first (faults c.dictionary m)) m.avps e
