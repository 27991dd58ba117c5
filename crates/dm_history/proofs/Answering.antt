-- Which CER a CEA answers, and that all other answers are those of base messages.
use Rattle.std.proofs.Common.{◌≡◌, inl, inr, ℕ, true, false, not, Option, Some, List, refl, sym, subst, ap, ◌∙◌}
use Rattle.std.specs.List.{list_all}
use Rattle.std.proofs.lemmas.Bool.{and_parts, cases_Bool}
use Rattle.dm_wire.specs.declared.message.Header.{Header}
use Rattle.dm_wire.specs.declared.message.Message.{Message}
use Rattle.dm_base.specs.Commands.{is_base_command}
use Rattle.dm_machine.specs.declared.connection.Conn.{Conn}
use Rattle.dm_machine.specs.declared.inputs.Word.TheVariants.{Cer}
use Rattle.dm_machine.specs.declared.outputs.Command.{Command}
use Rattle.dm_machine.specs.Node.{Node}
use Rattle.dm_machine.specs.Moves as moves
use Rattle.dm_machine.specs.Moves.{machine_outcome}
use Rattle.dm_machine.specs.Connection.{Hold, NotHeld, OpenAsR, hold_of, concern_of, HeardOnIt, ConnOrder, SendsCea, orders_to, AtConnection}
use Rattle.dm_machine.specs.Openings.{is_hold, has_order, is_entered, OpensAcceptedWithCea}
use Rattle.dm_machine.specs.Causes.{IsCaused, EachHoldIsCaused}
use Rattle.dm_machine.specs.Ordered.{OrdersAreToldApart}
use Rattle.dm_machine.specs.Answering.{is_prompt, has_its_request, AnswersWhatIsHeard}
use Rattle.dm_machine.specs.Unread.{reads_first, ClosesUnread}
use Rattle.dm_peer.specs.declared.peer.Peer.{Peer}
use Rattle.dm_peer.specs.Events.{PeerEvent, Arrived}
use Rattle.dm_peer.specs.Configs.{wins}
use Rattle.dm_peer.specs.Said.{Heard, word_heard, header_heard}
use Rattle.dm_peer.specs.Sent.{header_of, cer_answered}
use Rattle.dm_machine.specs.Awaiting.{holds_cer}
use Rattle.dm_peer.specs.Acts.{input_of}
use Rattle.dm_peer.specs.Settled.{IsSettled}
use Rattle.dm_history.specs.History.{Happened}
use Rattle.dm_history.specs.Meant.{IsAcceptableCer}
use Rattle.dm_history.proofs.Words.{good_cer, heard_header}
use Rattle.dm_history.proofs.Commands.{cer_asks, base_word}
use Rattle.dm_history.proofs.Turning.{AreRead}
use Rattle.dm_history.proofs.Holding.{is_open_as_r, reads_none}
use Rattle.dm_history.proofs.Waiting.{none_there, exchange_is_base}
use Rattle.dm_history.proofs.Coming.{WordCame, came_on}
use Rattle.dm_history.proofs.Sending.{asked_for, asks_base, asks_readable}
use Rattle.dm_history.proofs.Stories.{HasHeard, StoryOf}

-- where a connection is taken, a first message is read
reads : ClosesUnread → (p : Peer) → IsSettled p → (e : PeerEvent) (h : Option Heard) (commands : List Command)
    (core : Node) → machine_outcome p.standing.core (input_of e h) (wins p.config) ≡ moves.NodeMoved commands core → (c : Conn) →
    hold_of p.standing.core c ≡ NotHeld → (hold_of core c ≡ NotHeld → ⊥) → (s : List ℕ) → e ≡ Arrived c s →
    reads_first p.standing.core.state ≡ true
reads closes p was e h commands core o c free held s is = elim (cases_Bool (reads_first p.standing.core.state)) [
  | inl y ↦ y
  | inr y ↦
      let n = p.standing.core in
      let same = sym o ∙ (ap (λ f. machine_outcome n (input_of f h) (wins p.config)) is
      ∙ closes n c (word_heard h) (wins p.config) was.shaped (ap not y) free) in
      let there : core ≡ n = cc same in
      absurd (held (ap (λ k. hold_of k c) there ∙ free))
]

-- the good CER by which a connection is taken: no other waits, so it is the one that is answered
pub record TakenByCer (p : Peer) (e : PeerEvent) (h : Option Heard) (c : Conn) : Type 0 where
  pub cer : WordCame p e h c Cer
  pub good : IsAcceptableCer p.config cer.message
  pub alone : holds_cer p.standing.core.state ≡ false
  pub header : header_heard h ≡ Some cer.message.header
  pub answered : cer_answered p.standing.waiting h ≡ cer.message.header

pub came_cer : ClosesUnread → (p : Peer) → IsSettled p → (e : PeerEvent) (h : Option Heard) (commands : List Command)
    (core : Node) → machine_outcome p.standing.core (input_of e h) (wins p.config) ≡ moves.NodeMoved commands core →
    AreRead p e h → (c : Conn) → hold_of p.standing.core c ≡ NotHeld → (hold_of core c ≡ NotHeld → ⊥) →
    concern_of (input_of e h) c ≡ HeardOnIt Cer → TakenByCer p e h c
came_cer closes p was e h commands core o read c free held k =
    let m = came_on p e h c Cer read (λ y. cc y) k in
    let alone = reads_none p.standing.core.state
    (reads closes p was e h commands core o c free held m.octets m.came) in
    let none = none_there (holds_cer p.standing.core.state) p.standing.waiting was.waiting alone in
    record {
      cer = m;
      good = good_cer p.config m.message m.word;
      alone = alone;
      header = ap header_heard m.heard ∙ ap Some (heard_header p.config m.message);
      answered = ap (λ w. cer_answered w h) none ∙ (ap header_of m.heard ∙ heard_header p.config m.message);
    }

base_cer : (p : Peer) (to : Header) (m : Message) → IsAcceptableCer p.config m → to ≡ m.header →
    is_base_command to.command ≡ true
base_cer p to m good is =
    ap (λ x. is_base_command x.command) is ∙ exchange_is_base m.header.command (cer_asks p.config m good).0

-- a CEA answers a CER
cea_to : ClosesUnread → (p : Peer) → IsSettled p → (e : PeerEvent) (h : Option Heard) (commands : List Command)
    (core : Node) → machine_outcome p.standing.core (input_of e h) (wins p.config) ≡ moves.NodeMoved commands core →
    AreRead p e h → (c : Conn) (past : List Happened) (before : Hold) → hold_of p.standing.core c ≡ before →
    hold_of core c ≡ OpenAsR → (before ≡ OpenAsR → ⊥) →
    IsCaused (concern_of (input_of e h) c) before OpenAsR (orders_to c commands) →
    StoryOf p.config p.standing c past before → is_base_command (cer_answered p.standing.waiting h).command ≡ true
cea_to closes p was e h commands core o read c past before at is differs (inl same) s = absurd (differs same)
cea_to closes p was e h commands core o read c past before at is differs (inr (has, inl taken)) s =
    let t : HasHeard p.config p.standing c past = subst (StoryOf p.config p.standing c past) taken s in
    base_cer p (cer_answered p.standing.waiting h) t.cer t.good (ap (λ w. cer_answered w h) t.kept)
cea_to closes p was e h commands core o read c past before at is differs (inr (has, inr (free, k))) s =
    let m = came_cer closes p was e h commands core o read c (at ∙ free) (λ y. cc (y, is)) k in
    base_cer p (cer_answered p.standing.waiting h) m.cer.message m.good m.answered

not_before : (h : Hold) → not (is_hold OpenAsR h) ≡ true → h ≡ OpenAsR → ⊥
not_before h e same = cc (sym (ap (λ k. not (is_hold OpenAsR k)) same) ∙ e)

pub cea_answers_base : OpensAcceptedWithCea → EachHoldIsCaused → ClosesUnread → (p : Peer) → IsSettled p →
    (e : PeerEvent) (h : Option Heard) (commands : List Command) (core : Node) →
    machine_outcome p.standing.core (input_of e h) (wins p.config) ≡ moves.NodeMoved commands core → AreRead p e h → (c : Conn)
    (past : List Happened) → StoryOf p.config p.standing c past (hold_of p.standing.core c) →
    has_order SendsCea (orders_to c commands) ≡ true →
    is_base_command (cer_answered p.standing.waiting h).command ≡ true
cea_answers_base accepted law closes p was e h commands core o read c past story has =
    let n = p.standing.core in
    let i = input_of e h in
    let entered : is_entered OpenAsR (hold_of n c) (hold_of core c) ≡ has_order SendsCea (orders_to c commands) =
    subst (AtConnection (λ k before after orders. is_entered OpenAsR before after ≡ has_order SendsCea orders) n i c) o
    (accepted n i (wins p.config) c was.shaped) in
    let both = and_parts (not (is_hold OpenAsR (hold_of n c))) (is_hold OpenAsR (hold_of core c)) (entered ∙ has) in
    let now = is_open_as_r (hold_of core c) both.1 in
    let caused : IsCaused (concern_of i c) (hold_of n c) (hold_of core c) (orders_to c commands) =
    subst (AtConnection IsCaused n i c) o (law n i (wins p.config) c was.shaped) in
    cea_to closes p was e h commands core o read c past (hold_of n c) refl now (not_before (hold_of n c) both.0)
    (subst (λ k. IsCaused (concern_of i c) (hold_of n c) k (orders_to c commands)) now caused) story

-- every other answer is that of a base message that was heard
pub prompt_answers_base : AnswersWhatIsHeard → OrdersAreToldApart → (p : Peer) → IsSettled p → (e : PeerEvent)
    (h : Option Heard)
    (commands : List Command) (core : Node) →
    machine_outcome p.standing.core (input_of e h) (wins p.config) ≡ moves.NodeMoved commands core → AreRead p e h → (c : Conn)
    (want : ConnOrder) → is_prompt want ≡ true → has_order want (orders_to c commands) ≡ true →
    is_base_command (header_of h).command ≡ true
prompt_answers_base answers apart p was e h commands core o read c want prompt has =
    let n = p.standing.core in
    let i = input_of e h in
    let all : list_all (has_its_request (concern_of i c)) (orders_to c commands) ≡ true =
    subst (AtConnection (λ k before after orders. list_all (has_its_request k) orders ≡ true) n i c) o
    (answers n i (wins p.config) c was.shaped) in
    let asked = asked_for apart (concern_of i c) want (orders_to c commands) all prompt has in
    let m = came_on p e h c asked.0 read (asks_readable asked.0 want asked.2) asked.1 in
    ap (λ x. is_base_command x.command) (ap header_of m.heard ∙ heard_header p.config m.message)
    ∙ base_word p.config m.message asked.0 m.word (asks_base asked.0 want asked.2)
