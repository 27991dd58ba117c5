-- What a node builds is good to the other side.
use Rattle.std.proofs.Common.{◌≡◌, ℕ, Bool, true, false, not, ◌&&◌, Option, None, Some, option_map, Ok, if◌then◌else◌, refl, sym, subst, ap, ◌∙◌, arith, pos}
use Rattle.dm_wire.specs.declared.message.Message.{Message}
use Rattle.dm_wire.specs.RoundTrip.{CanonicalSpells}
use Rattle.dm_wire.specs.Whole.{SpelledIsIn}
use Rattle.dm_tables.specs.Definitions.{Definitions}
use Rattle.dm_base.specs.declared.kind.Kind.{Kind}
use Rattle.dm_base.specs.declared.kind.Kind.TheVariants as kinds
use Rattle.dm_base.specs.Kinds.{kind, IsBase}
use Rattle.dm_base.specs.Built.{own_caps, cause_number, request_header, built_cer, built_cea, built_dwr, built_dpr, built_answer}
use Rattle.dm_base.specs.Common.{is_common, is_secure, OwnInCommon}
use Rattle.dm_base.specs.Laws.{CerIsOwn, CeaIsOwn, DwrIsOwn, DwaIsOwn, DprIsOwn, DpaIsOwn, CerIsSpelled, CeaIsSpelled, DwrIsSpelled, DprIsSpelled, AnswerIsSpelled}
use Rattle.dm_base.specs.Spelled.{HasSpelling}
use Rattle.dm_machine.specs.declared.inputs.Word.{Word}
use Rattle.dm_machine.specs.declared.inputs.Word.TheVariants.{Cer, Cea, CeaFailed, Dwr, Dwa, Dpr, Dpa}
use Rattle.dm_peer.specs.declared.config.Config.{Config}
use Rattle.dm_peer.specs.Hosts.{is_same_host}
use Rattle.dm_peer.specs.Octets.{octets_of}
use Rattle.dm_peer.specs.Said.{good, said, heard_caps, heard_in, kind_under, said_by_kind}
use Rattle.dm_peer.specs.Laws.{SentIsHeard, IsHeardAs, CerIsGood, CeaIsGood, DwrIsGood, DwaIsGood, DprIsGood, DpaIsGood}

pub sent_is_heard : CanonicalSpells → SpelledIsIn → SentIsHeard
unfolding octets_of
sent_is_heard spells inside c m s = ap (option_map (heard_in c)) (inside (octets_of m) m (spells m s.octets s.spelled))

-- a kind under the base dictionary is one under the configuration's
kind_is : (c : Config) (m : Message) (k : Kind) → IsBase m k → kind_under c m ≡ Ok k
unfolding kind_under
kind_is c m k base =
    let Is : Definitions → Type 0 = λ b. kind b m ≡ Ok k in
    subst Is (sym c.based) base.of_kind

-- a message of a kind is heard as a word where its kind is
heard_as : SentIsHeard → (c : Config) (m : Message) (k : Kind) (word : Word) →
    HasSpelling m → IsBase m k → said_by_kind c m k ≡ good m.header word → IsHeardAs c m word
heard_as heard c m k word s base told = heard c m s ∙ ap Some (ap (said c m) (kind_is c m k base) ∙ told)

abbrev refusal : Bool → Bool → Bool → Option ℕ
refusal host common secure =
    if not host then Some 3010 else (if not common then Some 5010 else (if not secure then Some 5017 else None))

-- nothing is wrong with capabilities that pass each test
accepted : (host common secure : Bool) → host ≡ true → common ≡ true → secure ≡ true → refusal host common secure ≡ None
accepted host common secure e f g = rw (e, f, g) refl

pub cer_is_good : SentIsHeard → CerIsOwn → CerIsSpelled → OwnInCommon → CerIsGood
cer_is_good heard own spelled shared c d id fits host common =
    let caps = own_caps c.node in
    heard_as heard d (built_cer c.node id) (kinds.Cer caps) Cer (spelled c.node id fits) (own c.node id)
    (ap (heard_caps (request_header 257 id))
    (accepted (is_same_host caps.host d.peer) (is_common caps d.node) (is_secure caps)
    host (shared c.node d.node ∙ common) refl))

-- a host that is the configured one where hosts are compared is no other
no_other : (compares same : Bool) → (compares ≡ true → same ≡ true) → (compares && not same) ≡ false
no_other false same is = refl
no_other true same is = ap not (is refl)

pub cea_is_good : SentIsHeard → CeaIsOwn → CeaIsSpelled → CeaIsGood
cea_is_good heard own spelled c d to fits e named =
    let m = built_cea d.node to 2001 None in
    heard_as heard c m (kinds.Cea 2001) Cea
    (spelled d.node to 2001 None fits) (own d.node to 2001 None e (omega arith))
    (ap (λ b. good m.header (if b then CeaFailed else Cea)) (no_other c.compares (is_same_host d.node.host c.peer) named))

pub dwr_is_good : SentIsHeard → DwrIsOwn → DwrIsSpelled → DwrIsGood
dwr_is_good heard own spelled c d id fits =
    heard_as heard c (built_dwr d.node id) kinds.Dwr Dwr (spelled d.node id fits) (own d.node id) refl

pub dwa_is_good : SentIsHeard → DwaIsOwn → AnswerIsSpelled → DwaIsGood
dwa_is_good heard own spelled c d to fits e =
    heard_as heard c (built_answer d.node to 2001 None) kinds.Dwa Dwa
    (spelled d.node to 2001 None fits) (own d.node to 2001 None e) refl

pub dpr_is_good : SentIsHeard → DprIsOwn → DprIsSpelled → DprIsGood
dpr_is_good heard own spelled c d id cause fits =
    heard_as heard c (built_dpr d.node id cause) (kinds.Dpr (pos (cause_number cause))) Dpr
    (spelled d.node id cause fits) (own d.node id cause) refl

pub dpa_is_good : SentIsHeard → DpaIsOwn → AnswerIsSpelled → DpaIsGood
dpa_is_good heard own spelled c d to fits e =
    heard_as heard c (built_answer d.node to 2001 None) kinds.Dpa Dpa
    (spelled d.node to 2001 None fits) (own d.node to 2001 None e) refl
