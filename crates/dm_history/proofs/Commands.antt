-- What the word of a message says of its command.
use Rattle.std.proofs.Common.{◌≡◌, inl, inr, Bool, true, false, ◌&&◌, nat_le, Option, None, Some, is_some, List, Ok, if◌then◌else◌, refl, sym, ap, ◌∙◌}
use Rattle.std.proofs.lemmas.Bool.{cases_Bool}
use Rattle.dm_wire.specs.declared.avp.Avp.{Avp}
use Rattle.dm_wire.specs.declared.message.Message.{Message}
use Rattle.dm_dict.specs.Faults.{Fault, faults, first}
use Rattle.dm_base.specs.Codes.{result_code}
use Rattle.dm_base.specs.declared.kind.Kind.{Kind}
use Rattle.dm_base.specs.declared.kind.Kind.TheVariants as kinds
use Rattle.dm_base.specs.Commands.{base_command, is_base_command}
use Rattle.dm_base.specs.declared.base_command.BaseCommand.{BaseCommand}
use Rattle.dm_base.specs.declared.base_command.BaseCommand.TheVariants.{CapabilitiesExchange, DeviceWatchdog, DisconnectPeer}
use Rattle.dm_base.specs.Kinds.{caps_of, number_at, kind_by, kind_of, kind_or_fault}
use Rattle.dm_machine.specs.declared.inputs.Word.{Word}
use Rattle.dm_machine.specs.declared.inputs.Word.TheVariants.{Other}
use Rattle.dm_peer.specs.declared.config.Config.{Config}
use Rattle.dm_peer.specs.Said.{heard_in, refusal_of_caps, is_other_sender, said, kind_under}
use Rattle.dm_history.specs.Meant.{IsAcceptableCer, IsAcceptableCea}
use Rattle.dm_history.proofs.Words.{not_bad, caps_word, code_word}

-- a message of another command is no base message, and the other way round
abbrev pub word_if : Config → Message → Bool → Word
word_if c m b =
    (said c m (if b
    then kind_or_fault (first (faults c.dictionary m)) (kind_of m.header.command m.header.request m.avps)
    else Ok kinds.Other)).word

pub word_is : (c : Config) (m : Message) → (heard_in c m).word ≡ word_if c m (is_base_command m.header.command)
unfolding kind_under
word_is c m = refl

pub other_word : (c : Config) (m : Message) → is_base_command m.header.command ≡ false → (heard_in c m).word ≡ Other
other_word c m e = word_is c m ∙ ap (word_if c m) e

pub base_word : (c : Config) (m : Message) (w : Word) → (heard_in c m).word ≡ w → (Other ≡ w → ⊥) →
    is_base_command m.header.command ≡ true
base_word c m w e differs = elim (cases_Bool (is_base_command m.header.command)) [
  | inl base ↦ base
  | inr other ↦ absurd (differs (sym (other_word c m other) ∙ e))
]

no_other_kind : (c : Config) (m : Message) (o : Option BaseCommand) (r : Bool) (l : List Avp) →
    is_some o ≡ true → (said c m (Ok (kind_by o r l))).word ≡ Other → ⊥
no_other_kind c m (Some CapabilitiesExchange) true l base e =
    caps_word m.header (refusal_of_caps c (caps_of l)) Other e (λ x. cc x) (λ x. cc x)
no_other_kind c m (Some CapabilitiesExchange) false l base e =
    let code = number_at result_code l in
    code_word (is_other_sender c m) (nat_le 2000 code && nat_le code 2999) Other e (λ x. cc x) (λ x. cc x)
no_other_kind c m (Some DeviceWatchdog) true l base e = cc e
no_other_kind c m (Some DeviceWatchdog) false l base e = cc e
no_other_kind c m (Some DisconnectPeer) true l base e = cc e
no_other_kind c m (Some DisconnectPeer) false l base e = cc e
no_other_kind c m None r l base e = cc base

base_differs : (c : Config) (m : Message) (f : Option Fault) → is_base_command m.header.command ≡ true →
    (said c m (kind_or_fault f (kind_of m.header.command m.header.request m.avps))).word ≡ Other → ⊥
base_differs c m (Some f) base e =
    not_bad (base_command m.header.command) m.header.request Other e refl
base_differs c m None base e =
    no_other_kind c m (base_command m.header.command) m.header.request m.avps base e

pub other_command : (c : Config) (m : Message) → (heard_in c m).word ≡ Other → is_base_command m.header.command ≡ false
other_command c m e = elim (cases_Bool (is_base_command m.header.command)) [
  | inl base ↦
      absurd (base_differs c m (first (faults c.dictionary m)) base (sym (word_is c m ∙ ap (word_if c m) base) ∙ e))
  | inr other ↦ other
]

-- a CEA is an answer of command 257, and a CER is of it too
abbrev is_cer_or_cea : Bool → Kind → Bool
is_cer_or_cea true (kinds.Cer caps) = true
is_cer_or_cea false (kinds.Cea code) = true
is_cer_or_cea r k = false

exchange_by : (r' : Bool) (o : Option BaseCommand) (r : Bool) (l : List Avp) → is_cer_or_cea r' (kind_by o r l) ≡ true →
    (o ≡ Some CapabilitiesExchange) × (r ≡ r')
exchange_by true (Some CapabilitiesExchange) true l e = (refl, refl)
exchange_by false (Some CapabilitiesExchange) false l e = (refl, refl)
exchange_by true (Some CapabilitiesExchange) false l e = absurd (cc e)
exchange_by false (Some CapabilitiesExchange) true l e = absurd (cc e)
exchange_by true (Some DeviceWatchdog) true l e = absurd (cc e)
exchange_by true (Some DeviceWatchdog) false l e = absurd (cc e)
exchange_by false (Some DeviceWatchdog) true l e = absurd (cc e)
exchange_by false (Some DeviceWatchdog) false l e = absurd (cc e)
exchange_by true (Some DisconnectPeer) true l e = absurd (cc e)
exchange_by true (Some DisconnectPeer) false l e = absurd (cc e)
exchange_by false (Some DisconnectPeer) true l e = absurd (cc e)
exchange_by false (Some DisconnectPeer) false l e = absurd (cc e)
exchange_by true None r l e = absurd (cc e)
exchange_by false None r l e = absurd (cc e)

kind_parts : (r : Bool) (m : Message) (b : Bool) (f : Option Fault) (k : Kind) → is_cer_or_cea r k ≡ true →
    (if b then kind_or_fault f (kind_of m.header.command m.header.request m.avps) else Ok kinds.Other) ≡ Ok k →
    (base_command m.header.command ≡ Some CapabilitiesExchange) × (m.header.request ≡ r)
kind_parts true m false f k is e = absurd (cc (is, e))
kind_parts false m false f k is e = absurd (cc (is, e))
kind_parts r m true (Some f) k is e = absurd (cc e)
kind_parts r m true None k is e =
    let same : kind_of m.header.command m.header.request m.avps ≡ k = cc e in
    exchange_by r (base_command m.header.command) m.header.request m.avps (ap (is_cer_or_cea r) same ∙ is)

pub cea_answers : (c : Config) (m : Message) → IsAcceptableCea c m →
    (base_command m.header.command ≡ Some CapabilitiesExchange) × (m.header.request ≡ false)
cea_answers c m good =
    kind_parts false m (is_base_command m.header.command) (first (faults c.dictionary m)) (kinds.Cea good.code) refl
    good.checked

pub cer_asks : (c : Config) (m : Message) → IsAcceptableCer c m →
    (base_command m.header.command ≡ Some CapabilitiesExchange) × (m.header.request ≡ true)
cer_asks c m good =
    kind_parts true m (is_base_command m.header.command) (first (faults c.dictionary m)) (kinds.Cer good.caps) refl
    good.checked
