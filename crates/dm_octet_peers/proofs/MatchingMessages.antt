-- What a node builds is read as what it is; what is heard of a good DPR or DPA, and which messages may be a DPR.
use Rattle.std.proofs.Common.{◌≡◌, ◌<◌, ◌^◌, ℕ, Bool, true, false, not, ◌&&◌, nat_eq, nat_lt, nat_le, if◌then◌else◌, Option, None, Some, is_some, List, ◌∷◌, ◌++◌, drop, refl, sym, ap, subst, ◌∙◌, arith}
use Rattle.std.specs.Prelude.{option_map, Result, Ok}
use Rattle.std.proofs.lemmas.Bool.{and_parts, and_from, eqb-true}
use Rattle.std.proofs.lemmas.Bool.Decides.{nat_tests}
use Rattle.dm_wire.specs.declared.avp.Avp.{Avp}
use Rattle.dm_wire.specs.declared.message.Header.{Header}
use Rattle.dm_wire.specs.declared.message.Message.{Message}
use Rattle.dm_wire.specs.Limits.{HeaderFits}
use Rattle.dm_wire.specs.Members.{members}
use Rattle.dm_wire.specs.RoundTrip.{CanonicalSpells}
use Rattle.dm_wire.specs.Spelling.{be}
use Rattle.dm_wire.specs.Canonical.{flag_octet, message_size, canonical_list, canonical_message}
use Rattle.dm_wire.specs.Whole.{has_header, header_in, with_header, message_in, SpelledIsIn}
use Rattle.dm_dict.specs.Faults.{Fault, faults, first}
use Rattle.dm_base.specs.declared.node.Node as base
use Rattle.dm_base.specs.declared.base_command.BaseCommand.{BaseCommand}
use Rattle.dm_base.specs.declared.base_command.BaseCommand.TheVariants.{CapabilitiesExchange, DeviceWatchdog, DisconnectPeer}
use Rattle.dm_base.specs.declared.kind.Cause.{Cause}
use Rattle.dm_base.specs.declared.kind.Kind.{Kind}
use Rattle.dm_base.specs.declared.kind.Kind.TheVariants as kinds
use Rattle.dm_base.specs.Codes.{capabilities_exchange, device_watchdog, disconnect_peer, result_code, success}
use Rattle.dm_base.specs.Commands.{base_command, is_base_command}
use Rattle.dm_base.specs.Fit.{is_number}
use Rattle.dm_base.specs.Kinds.{caps_of, number_at, kind_by, kind_of, kind_or_fault, kind, IsBase}
use Rattle.dm_base.specs.Spelled.{HasSpelling}
use Rattle.dm_base.specs.Built.{request_header, answer_header, built_cer, built_dwr, built_dpr, built_cea, built_answer, built_error}
use Rattle.dm_base.specs.Laws.{CerIsSpelled, CeaIsSpelled, DprIsSpelled, AnswerIsSpelled, DprIsOwn, DpaIsOwn}
use Rattle.dm_machine.specs.declared.inputs.Word.{Word}
use Rattle.dm_machine.specs.declared.inputs.Word.TheVariants.{Dpr, Dpa, Cea, CeaFailed}
use Rattle.dm_peer.specs.declared.config.Config.{Config}
use Rattle.dm_peer.specs.Octets.{octets_of}
use Rattle.dm_peer.specs.Said as said_words
use Rattle.dm_peer.specs.Said.{word_of_bad, refusal_of_caps, heard_caps, is_other_sender, word_of_cea, said_by_kind, said, kind_under, heard_in}
use Rattle.dm_peer.specs.Sent.{is_protocol_error, answer_by, refusal}
use Rattle.dm_peer.specs.Acts.{can_submit}
use Rattle.dm_octet_peers.specs.Matching.{spells_such, is_numbered_so, has_fit, base_kind, is_good_dpr, is_good_dpa, octet_requests}

pub record MessageLaws : Type 0 where
  pub cer : CerIsSpelled
  pub cea : CeaIsSpelled
  pub dpr : DprIsSpelled
  pub answer : AnswerIsSpelled
  pub own_dpr : DprIsOwn
  pub own_dpa : DpaIsOwn
  pub canonical : CanonicalSpells
  pub inside : SpelledIsIn

-- what is spelled is read back
read_back : MessageLaws → (m : Message) → HasSpelling m → message_in (octets_of m) ≡ Some m
unfolding octets_of
read_back laws m s = laws.inside (octets_of m) m (laws.canonical m s.octets s.spelled)

passes_built : MessageLaws → (f : Message → Bool) (m : Message) → HasSpelling m → f m ≡ true →
    spells_such f (octets_of m) ≡ true
passes_built laws f m s h =
    ap (λ (o : Option Message). elim o [ None ↦ false | Some z ↦ f z ]) (read_back laws m s) ∙ h

low : (a b : ℕ) → nat_lt a b ≡ true → a < b
low a b h = grind (arith, nat_tests, h)

self : (n : ℕ) → nat_eq n n ≡ true
self n = grind (arith, nat_tests)

both : (a b : Bool) → a ≡ true → b ≡ true → (a && b) ≡ true
both a b h g = and_from a b h g

pub fits_of : (h : Header) → has_fit h ≡ true → HeaderFits h
fits_of h e =
    let a = and_parts (nat_lt h.command (256 ^ 3)) _ e in
    let b = and_parts (nat_lt h.application (256 ^ 4)) _ a.1 in
    let c = and_parts (nat_lt h.hop_id (256 ^ 4)) (nat_lt h.end_id (256 ^ 4)) b.1 in
    record {
      command = low h.command (256 ^ 3) a.0;
      application = low h.application (256 ^ 4) b.0;
      hop = low h.hop_id (256 ^ 4) c.0;
      end = low h.end_id (256 ^ 4) c.1;
    }

number_low : (n : ℕ) → is_number n ≡ true → nat_lt n (256 ^ 4) ≡ true
number_low n h = h

request_fits : (n : ℕ) → is_number n ≡ true → (nat_lt n (256 ^ 4) && nat_lt n (256 ^ 4)) ≡ true
request_fits n h = both (nat_lt n (256 ^ 4)) (nat_lt n (256 ^ 4)) (number_low n h) (number_low n h)

hop_and : (n : ℕ) (b : Bool) → b ≡ true → (nat_eq n n && b) ≡ true
hop_and n b h = both (nat_eq n n) b (self n) h

pub cer_is : MessageLaws → (node : base.Node) (n : ℕ) → is_number n ≡ true →
    octet_requests.is_cer n (octets_of (built_cer node n)) ≡ true
cer_is laws node n h =
    passes_built laws (λ m. has_fit m.header && is_numbered_so true capabilities_exchange n m.header) (built_cer node n)
    (laws.cer node n (low n (256 ^ 4) (number_low n h)))
    (both (has_fit (request_header capabilities_exchange n)) _ (request_fits n h) (hop_and n true refl))

pub cea_is : MessageLaws → (node : base.Node) (to : Header) → has_fit to ≡ true →
    nat_eq to.command capabilities_exchange ≡ true →
    octet_requests.is_cea to.hop_id (octets_of (built_cea node to success None)) ≡ true
cea_is laws node to fit command =
    passes_built laws (λ m. is_numbered_so false capabilities_exchange to.hop_id m.header) (built_cea node to success None)
    (laws.cea node to success None (fits_of to fit))
    (hop_and to.hop_id _ (both (nat_eq to.command capabilities_exchange) true command refl))

base_is : (m : Message) (k : Kind) → IsBase m k → base_kind m ≡ Ok k
unfolding base_kind
base_is m k is = is.of_kind

pub dpr_is : MessageLaws → (node : base.Node) (n : ℕ) (cause : Cause) → is_number n ≡ true →
    octet_requests.is_dpr n (octets_of (built_dpr node n cause)) ≡ true
dpr_is laws node n cause h =
    let m = built_dpr node n cause in
    passes_built laws (λ z. has_fit z.header && (is_numbered_so true disconnect_peer n z.header && is_good_dpr
    (base_kind z))) m (laws.dpr node n cause (low n (256 ^ 4) (number_low n h)))
    (both (has_fit (request_header disconnect_peer n)) _ (request_fits n h)
    (both (is_numbered_so true disconnect_peer n (request_header disconnect_peer n)) _ (hop_and n true refl)
    (ap is_good_dpr (base_is m _ (laws.own_dpr node n cause)))))

pub dpa_is : MessageLaws → (node : base.Node) (to : Header) → has_fit to ≡ true →
    nat_eq to.command disconnect_peer ≡ true →
    octet_requests.is_dpa to.hop_id (octets_of (built_answer node to success None)) ≡ true
dpa_is laws node to fit command =
    let m = built_answer node to success None in
    passes_built laws (λ z. is_numbered_so false disconnect_peer to.hop_id z.header && is_good_dpa (base_kind z)) m
    (laws.answer node to success None (fits_of to fit))
    (both (is_numbered_so false disconnect_peer to.hop_id (answer_header false to)) _
    (hop_and to.hop_id _ (both (nat_eq to.command disconnect_peer) true command refl))
    (ap is_good_dpa (base_is m _ (laws.own_dpa node to success None (eqb-true to.command disconnect_peer command)))))

-- what is heard
under_is : (c : Config) (m : Message) → kind_under c m ≡ base_kind m
unfolding kind_under base_kind
under_is c m = ap (λ d. kind d m) c.based

pub dpr_heard : (c : Config) (m : Message) → is_good_dpr (base_kind m) ≡ true → (heard_in c m).word ≡ Dpr
dpr_heard c m h = ap (λ k. (said c m k).word) (under_is c m) ∙ by_kind (base_kind m) h
  where
    by_kind : (k : Result Kind Fault) → is_good_dpr k ≡ true → (said c m k).word ≡ Dpr
    by_kind (Ok (kinds.Dpr cause)) h = refl
    by_kind _ h = cc

pub dpa_heard : (c : Config) (m : Message) → is_good_dpa (base_kind m) ≡ true → (heard_in c m).word ≡ Dpa
dpa_heard c m h = ap (λ k. (said c m k).word) (under_is c m) ∙ by_kind (base_kind m) h
  where
    by_kind : (k : Result Kind Fault) → is_good_dpa k ≡ true → (said c m k).word ≡ Dpa
    by_kind (Ok kinds.Dpa) h = refl
    by_kind _ h = cc

-- only a request of the command is heard as a DPR
abbrev is_dpr_word : Word → Bool
is_dpr_word Dpr = true
is_dpr_word _ = false

bad_word : (h : Header) → is_dpr_word (word_of_bad h) ≡ false
bad_word h = by_command (base_command h.command) h.request
  where
    by_command : (o : Option BaseCommand) (request : Bool) → is_dpr_word (said_words.bad_word o request) ≡ false
    by_command (Some CapabilitiesExchange) true = refl
    by_command (Some CapabilitiesExchange) false = refl
    by_command (Some DeviceWatchdog) true = refl
    by_command (Some DeviceWatchdog) false = refl
    by_command (Some DisconnectPeer) true = refl
    by_command (Some DisconnectPeer) false = refl
    by_command None true = refl
    by_command None false = refl

caps_word : (h : Header) (o : Option ℕ) → is_dpr_word (heard_caps h o).word ≡ false
caps_word h None = refl
caps_word h (Some code) = refl

code_word : (c : Config) (m : Message) (code : ℕ) → is_dpr_word (word_of_cea c m code) ≡ false
code_word c m code = by_tests (is_other_sender c m) (nat_le 2000 code && nat_le code 2999)
  where
    by_tests : (another b : Bool) → is_dpr_word (if another then CeaFailed else (if b then Cea else CeaFailed)) ≡ false
    by_tests true b = refl
    by_tests false true = refl
    by_tests false false = refl

kind_word : (c : Config) (m : Message) (code : ℕ) (request : Bool) (l : List Avp) →
    is_dpr_word (said_by_kind c m (kind_of code request l)).word ≡ true → (nat_eq code disconnect_peer && request) ≡ true
kind_word c m code request l is =
    by_tests (nat_eq code capabilities_exchange) (nat_eq code device_watchdog) (nat_eq code disconnect_peer) request is
  where
    by_tests : (e w d request : Bool) → is_dpr_word (said_by_kind c m (kind_by
        (if e then Some CapabilitiesExchange else (if w then Some DeviceWatchdog else (if d then Some DisconnectPeer
        else None))) request l)).word ≡ true → (d && request) ≡ true
    by_tests true w d true is = let no_word = caps_word m.header (refusal_of_caps c (caps_of l)) in cc (is, no_word)
    by_tests true w d false is = let no_word = code_word c m (number_at result_code l) in cc (is, no_word)
    by_tests false true d true is = cc
    by_tests false true d false is = cc
    by_tests false false true true is = refl
    by_tests false false true false is = cc
    by_tests false false false request is = cc

said_word : (c : Config) (m : Message) (code : ℕ) (request : Bool) (l : List Avp) (o : Option Fault) →
    is_dpr_word (said c m (kind_or_fault o (kind_of code request l))).word ≡ true →
    (nat_eq code disconnect_peer && request) ≡ true
said_word c m code request l None is = kind_word c m code request l is
said_word c m code request l (Some f) is = let no_word = bad_word m.header in cc (is, no_word)

base_or_other : (c : Config) (m : Message) (b : Bool) →
    is_dpr_word (said c m (if b then kind_or_fault (first (faults c.dictionary m))
    (kind_of m.header.command m.header.request m.avps) else Ok kinds.Other)).word ≡ true →
    (nat_eq m.header.command disconnect_peer && m.header.request) ≡ true
base_or_other c m true is =
    said_word c m m.header.command m.header.request m.avps (first (faults c.dictionary m)) is
base_or_other c m false is = cc

pub dpr_asks : (c : Config) (m : Message) → (heard_in c m).word ≡ Dpr →
    (nat_eq m.header.command disconnect_peer && m.header.request) ≡ true
unfolding kind_under
dpr_asks c m is = base_or_other c m (is_base_command m.header.command) (ap is_dpr_word is)

-- what a node builds that is no DPR
abbrev headed : ℕ → ℕ → ℕ → List ℕ → List ℕ
headed size flags code more = 1 ∷ be size 3 ++ flags ∷ be code 3 ++ more

asks_none : (s : List ℕ) (b : Bool) (o : Option (List Avp)) →
    (nat_eq (header_in s).command disconnect_peer && (header_in s).request) ≡ false →
    elim (if b then option_map (with_header s) o else None)
    [ None ↦ false | Some m ↦ nat_eq m.header.command disconnect_peer && m.header.request ] ≡ false
asks_none s true None h = refl
asks_none s true (Some l) h = h
asks_none s false o h = refl

header_asks : (m : Message) → (nat_eq (header_in (canonical_message m)).command disconnect_peer
    && (header_in (canonical_message m)).request) ≡ false →
    octet_requests.asks_end (octets_of m) ≡ false
unfolding message_in octets_of
header_asks m h =
    asks_none (canonical_message m) (has_header (canonical_message m)) (members (drop 20 (canonical_message m))) h

second_false : (a b : Bool) → b ≡ false → (a && b) ≡ false
second_false true b h = h
second_false false b h = refl

answer_flags : (size code : ℕ) (more : List ℕ) (p e t : Bool) →
    (header_in (headed size (flag_octet false p e t) code more)).request ≡ false
answer_flags size code more true true true = refl
answer_flags size code more true true false = refl
answer_flags size code more true false true = refl
answer_flags size code more true false false = refl
answer_flags size code more false true true = refl
answer_flags size code more false true false = refl
answer_flags size code more false false true = refl
answer_flags size code more false false false = refl

pub answer_asks : (m : Message) → m.header.request ≡ false → octet_requests.asks_end (octets_of m) ≡ false
answer_asks m h =
    header_asks m (second_false (nat_eq (header_in (canonical_message m)).command disconnect_peer) _
    (subst (λ b. (header_in (headed (message_size m)
    (flag_octet b m.header.proxiable m.header.error m.header.retransmit) m.header.command
    (be m.header.application 4 ++ be m.header.hop_id 4 ++ be m.header.end_id 4 ++ canonical_list m.avps))).request
    ≡ false) (sym h)
    (answer_flags (message_size m) m.header.command
    (be m.header.application 4 ++ be m.header.hop_id 4 ++ be m.header.end_id 4 ++ canonical_list m.avps)
    m.header.proxiable m.header.error m.header.retransmit)))

pub cer_asks : (node : base.Node) (n : ℕ) → octet_requests.asks_end (octets_of (built_cer node n)) ≡ false
cer_asks node n = header_asks (built_cer node n) refl

pub dwr_asks : (node : base.Node) (n : ℕ) → octet_requests.asks_end (octets_of (built_dwr node n)) ≡ false
dwr_asks node n = header_asks (built_dwr node n) refl

pub refusal_asks : (node : base.Node) (to : Header) (f : Fault) →
    octet_requests.asks_end (octets_of (refusal node to f)) ≡ false
refusal_asks node to f = by_code (is_protocol_error f.code) (base_command to.command)
  where
    by_code : (b : Bool) (o : Option BaseCommand) →
        octet_requests.asks_end (octets_of (if b then built_error node to f.code else answer_by o node to f)) ≡ false
    by_code true o = answer_asks (built_error node to f.code) refl
    by_code false (Some CapabilitiesExchange) = answer_asks (built_cea node to f.code f.failed) refl
    by_code false (Some DeviceWatchdog) = answer_asks (built_answer node to f.code f.failed) refl
    by_code false (Some DisconnectPeer) = answer_asks (built_answer node to f.code f.failed) refl
    by_code false None = answer_asks (built_answer node to f.code f.failed) refl

-- nor is what may be submitted
pub submitted_asks : (s : List ℕ) → can_submit (message_in s) ≡ true → octet_requests.asks_end s ≡ false
submitted_asks s h = by_message (message_in s) h
  where
    by_command : (e w d request : Bool) →
        not (is_some (if e then Some CapabilitiesExchange else (if w then Some DeviceWatchdog
        else (if d then Some DisconnectPeer else None)))) ≡ true → (d && request) ≡ false
    by_command true w d request h = cc
    by_command false true d request h = cc
    by_command false false true request h = cc
    by_command false false false request h = refl

    by_message : (o : Option Message) → can_submit o ≡ true →
        elim o [ None ↦ false | Some m ↦ nat_eq m.header.command disconnect_peer && m.header.request ] ≡ false
    by_message None h = refl
    by_message (Some m) h =
        by_command (nat_eq m.header.command capabilities_exchange) (nat_eq m.header.command device_watchdog)
        (nat_eq m.header.command disconnect_peer) m.header.request h
