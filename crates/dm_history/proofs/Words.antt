-- What makes the word of a message that of a good CER or CEA.
use Rattle.std.proofs.Common.{◌≡◌, ℕ, Bool, true, false, not, ◌&&◌, nat_le, Option, None, Some, Result, Ok, Err, if◌then◌else◌, refl, sym, ap, ◌∙◌}
use Rattle.std.proofs.lemmas.Bool.{and_parts}
use Rattle.dm_wire.specs.declared.message.Header.{Header}
use Rattle.dm_wire.specs.declared.message.Message.{Message}
use Rattle.dm_dict.specs.Faults.{Fault}
use Rattle.dm_base.specs.declared.kind.Caps.{Caps}
use Rattle.dm_base.specs.declared.kind.Kind.{Kind}
use Rattle.dm_base.specs.declared.kind.Kind.TheVariants as kinds
use Rattle.dm_base.specs.Commands.{base_command}
use Rattle.dm_base.specs.declared.base_command.BaseCommand.{BaseCommand}
use Rattle.dm_base.specs.declared.base_command.BaseCommand.TheVariants.{CapabilitiesExchange, DeviceWatchdog, DisconnectPeer}
use Rattle.dm_base.specs.Common.{is_common, is_secure}
use Rattle.dm_base.specs.Kinds.{kind}
use Rattle.dm_machine.specs.declared.inputs.Word.{Word}
use Rattle.dm_machine.specs.declared.inputs.Word.TheVariants.{Cer, CerRefused, Cea, CeaFailed, DwrBad, DwaBad, DprBad, DpaBad}
use Rattle.dm_peer.specs.declared.config.Config.{Config}
use Rattle.dm_peer.specs.Hosts.{is_same_host}
use Rattle.dm_peer.specs.Said.{heard_in, heard_caps, bad_word, refusal_of_caps, sender_host, is_other_sender, said, kind_under}
use Rattle.dm_history.specs.Meant.{IsAcceptableCer, IsAcceptableCea}

-- a message that fails its check has a word of its own
abbrev is_bad : Word → Bool
is_bad CerRefused = true
is_bad CeaFailed = true
is_bad DwrBad = true
is_bad DwaBad = true
is_bad DprBad = true
is_bad DpaBad = true
is_bad _ = false

bad_is_bad : (o : Option BaseCommand) (r : Bool) → is_bad (bad_word o r) ≡ true
bad_is_bad (Some CapabilitiesExchange) true = refl
bad_is_bad (Some CapabilitiesExchange) false = refl
bad_is_bad (Some DeviceWatchdog) true = refl
bad_is_bad (Some DeviceWatchdog) false = refl
bad_is_bad (Some DisconnectPeer) true = refl
bad_is_bad (Some DisconnectPeer) false = refl
bad_is_bad None true = refl
bad_is_bad None false = refl

pub not_bad : (o : Option BaseCommand) (r : Bool) (w : Word) → bad_word o r ≡ w → is_bad w ≡ false → ⊥
not_bad o r w e good = cc (sym (bad_is_bad o r) ∙ (ap is_bad e ∙ good))

-- the capabilities of a CER are good or refused, the code of a CEA success or failure
pub caps_word : (h : Header) (o : Option ℕ) (w : Word) → (heard_caps h o).word ≡ w → (Cer ≡ w → ⊥) →
    (CerRefused ≡ w → ⊥) → ⊥
caps_word h None w e good bad = good e
caps_word h (Some code) w e good bad = bad e

pub code_word : (other b : Bool) (w : Word) → (if other then CeaFailed else (if b then Cea else CeaFailed)) ≡ w →
    (Cea ≡ w → ⊥) → (CeaFailed ≡ w → ⊥) → ⊥
code_word true b w e good bad = bad e
code_word false true w e good bad = good e
code_word false false w e good bad = bad e

none_refused : (h : Header) (o : Option ℕ) → (heard_caps h o).word ≡ Cer → o ≡ None
none_refused h None e = refl
none_refused h (Some code) e = cc

is_success : (other b : Bool) → (if other then CeaFailed else (if b then Cea else CeaFailed)) ≡ Cea →
    (b ≡ true) × (other ≡ false)
is_success true b e = absurd (cc e)
is_success false true e = (refl, refl)
is_success false false e = absurd (cc e)

cer_of : (c : Config) (m : Message) (r : Result Kind Fault) → (said c m r).word ≡ Cer →
    (caps : Caps) × (r ≡ Ok (kinds.Cer caps)) × (refusal_of_caps c caps ≡ None)
cer_of c m (Ok (kinds.Cer caps)) e = (caps, refl, none_refused m.header (refusal_of_caps c caps) e)
cer_of c m (Ok (kinds.Cea code)) e =
    absurd (code_word (is_other_sender c m) (nat_le 2000 code && nat_le code 2999) Cer e (λ x. cc x) (λ x. cc x))
cer_of c m (Ok _) e = absurd (cc e)
cer_of c m (Err f) e =
    absurd (not_bad (base_command m.header.command) m.header.request Cer e refl)

cea_of : (c : Config) (m : Message) (r : Result Kind Fault) → (said c m r).word ≡ Cea →
    (code : ℕ) × (r ≡ Ok (kinds.Cea code)) × ((nat_le 2000 code && nat_le code 2999) ≡ true)
    × (is_other_sender c m ≡ false)
cea_of c m (Ok (kinds.Cea code)) e =
    let s = is_success (is_other_sender c m) (nat_le 2000 code && nat_le code 2999) e in
    (code, refl, s.0, s.1)
cea_of c m (Ok (kinds.Cer caps)) e =
    absurd (caps_word m.header (refusal_of_caps c caps) Cea e (λ x. cc x) (λ x. cc x))
cea_of c m (Ok _) e = absurd (cc e)
cea_of c m (Err f) e =
    absurd (not_bad (base_command m.header.command) m.header.request Cea e refl)

-- where hosts are compared and the sender is no other, it is the configured peer
no_other : (compares same : Bool) → (compares && not same) ≡ false → compares ≡ true → same ≡ true
no_other true true e is = refl
no_other true false e is = absurd (cc e)
no_other false same e is = absurd (cc is)

none_of_three : (x y z : ℕ) (a b d : Bool) →
    (if not a then Some x else (if not b then Some y else (if not d then Some z else None))) ≡ None →
    (a ≡ true) × (b ≡ true) × (d ≡ true)
none_of_three x y z true true true e = (refl, refl, refl)
none_of_three x y z true true false e = absurd (cc e)
none_of_three x y z true false d e = absurd (cc e)
none_of_three x y z false b d e = absurd (cc e)

kind_is : (c : Config) (m : Message) → kind_under c m ≡ kind c.dictionary m
unfolding kind_under
kind_is c m = refl

pub good_cer : (c : Config) (m : Message) → (heard_in c m).word ≡ Cer → IsAcceptableCer c m
good_cer c m e =
    let x = cer_of c m (kind_under c m) e in
    let t = none_of_three 3010 5010 5017 (is_same_host x.0.host c.peer) (is_common x.0 c.node) (is_secure x.0) x.2 in
    record { caps = x.0; checked = sym (kind_is c m) ∙ x.1; named = t.0; shared = t.1; secure = t.2 }

pub good_cea : (c : Config) (m : Message) → (heard_in c m).word ≡ Cea → IsAcceptableCea c m
good_cea c m e =
    let x = cea_of c m (kind_under c m) e in
    let t = and_parts (nat_le 2000 x.0) (nat_le x.0 2999) x.2 in
    record {
      code = x.0;
      checked = sym (kind_is c m) ∙ x.1;
      least = t.0;
      most = t.1;
      named = no_other c.compares (is_same_host (sender_host m) c.peer) x.3;
    }

-- the header of what is heard is that of the message
pub same_header : (c : Config) (m : Message) (r : Result Kind Fault) → (said c m r).header ≡ m.header
same_header c m (Ok (kinds.Cer caps)) = by_refusal (refusal_of_caps c caps) where
  by_refusal : (o : Option ℕ) → (heard_caps m.header o).header ≡ m.header
  by_refusal None = refl
  by_refusal (Some code) = refl
same_header c m _ = refl

pub heard_header : (c : Config) (m : Message) → (heard_in c m).header ≡ m.header
heard_header c m = same_header c m (kind_under c m)
