-- One turn, as it looks from one connection: it goes on with what the connection has been through.
use Rattle.std.proofs.Common.{◌≡◌, inl, inr, ℕ, true, false, ◌&&◌, Option, None, List, ◌∷◌, refl, sym, subst, ap, ◌∙◌}
use Rattle.std.proofs.lemmas.Bool.{and_parts, cases_Bool}
use Rattle.dm_wire.specs.declared.message.Header.{Header}
use Rattle.dm_wire.specs.declared.message.Message.{Message}
use Rattle.dm_base.specs.Built.{built_cer, built_cea}
use Rattle.dm_machine.specs.declared.connection.Conn.{Conn}
use Rattle.dm_machine.specs.declared.inputs.Input.{Input}
use Rattle.dm_machine.specs.declared.inputs.Word.{Word}
use Rattle.dm_machine.specs.declared.inputs.Word.TheVariants.{Cer, Cea}
use Rattle.dm_machine.specs.declared.outputs.Command.{Command}
use Rattle.dm_machine.specs.declared.outputs.Command.TheVariants as command
use Rattle.dm_machine.specs.Node.{Node}
use Rattle.dm_machine.specs.Forms.{Form}
use Rattle.dm_machine.specs.Moves as moves
use Rattle.dm_machine.specs.Moves.{machine_outcome}
use Rattle.dm_machine.specs.Connection.{Hold, NotHeld, Pending, Made, OpenAsI, ClosingAsI, Taken, OpenAsR, ClosingAsR, hold_of, HeardOnIt, concern_of, SendsCer, SendsCea, if_ordered, orders_to, AtConnection}
use Rattle.dm_machine.specs.Openings.{is_hold, has_order, is_ack}
use Rattle.dm_machine.specs.Causes.{IsCaused}
use Rattle.dm_peer.specs.declared.peer.Peer.{Peer}
use Rattle.dm_peer.specs.declared.standing.Standing.{Standing}
use Rattle.dm_peer.specs.Events.{PeerEvent}
use Rattle.dm_peer.specs.Configs.{wins}
use Rattle.dm_peer.specs.Said.{Heard, header_heard}
use Rattle.dm_peer.specs.Sent.{action_of, actions_of, cer_answered, sent}
use Rattle.dm_machine.specs.Awaiting.{awaits_cea, holds_cer}
use Rattle.dm_peer.specs.After.{request_in, is_cer, standing_after}
use Rattle.dm_peer.specs.Acts.{input_of, standing_at, is_unawaited, is_made, is_dropped}
use Rattle.dm_peer.specs.Settled.{IsSettled}
use Rattle.dm_history.specs.History.{Happened, done_at, Once, StandsAmong}
use Rattle.dm_history.specs.Opened.{HasCome, CameFirst, WasSent, IsAsked}
use Rattle.dm_history.proofs.Among.{mapped}
use Rattle.dm_history.proofs.SameConn.{is_conn}
use Rattle.dm_history.proofs.Words.{good_cea}
use Rattle.dm_history.proofs.Commands.{cea_answers}
use Rattle.dm_history.proofs.Turning.{AreRead}
use Rattle.dm_history.proofs.Holding.{is_pending, holds_taken, awaits_made, pending_awaits_none}
use Rattle.dm_history.proofs.Waiting.{awaited_number, none_there, number_kept, number_set, header_kept, header_set, cer_among}
use Rattle.dm_history.proofs.Coming.{acked_by, WordCame, came_on}
use Rattle.dm_history.proofs.Stories.{StepLaws, HasAsked, HasHeard, StoryOf, later, IsTold}
use Rattle.dm_history.proofs.Answering.{TakenByCer, came_cer}

unawaited_made : (p : Peer) (c : Conn) (m : Message) → hold_of p.standing.core c ≡ Made →
    is_dropped p c m.header ≡ false → is_unawaited p.standing.awaited m.header ≡ false
unawaited_made p c m made e = sym (ap (λ h. is_made h && is_unawaited p.standing.awaited m.header) made) ∙ e

-- one turn, as it looks from one connection
module _ (laws : StepLaws) (p : Peer) (e : PeerEvent) (h : Option Heard) (commands : List Command) (core : Node)
    (past : List Happened) (before : IsTold p past)
    (settled : IsSettled (standing_at p (standing_after p.standing h (request_in commands) core)))
    (o : machine_outcome p.standing.core (input_of e h) (wins p.config) ≡ moves.NodeMoved commands core) (read : AreRead p e h)
    (c : Conn) where
  abbrev n : Node
  n = p.standing.core

  abbrev i : Input
  i = input_of e h

  abbrev after_it : Standing
  after_it = standing_after p.standing h (request_in commands) core

  abbrev x : Happened
  x = done_at e (actions_of p e h commands)

  caused_by : IsCaused (concern_of i c) (hold_of n c) (hold_of core c) (orders_to c commands)
  caused_by = subst (AtConnection IsCaused n i c) o (laws.caused n i (wins p.config) c before.settled.shaped)

  before_form : Form n
  before_form = laws.form n before.settled.shaped

  after_form : Form core
  after_form = laws.form core settled.shaped

  came_now : (w : Word) → (m : WordCame p e h c w) → HasCome c m.message x
  came_now w m = record {
    octets = m.octets;
    actions = actions_of p e h commands;
    spelled = m.spelled;
    came = ap (λ y. done_at y (actions_of p e h commands)) m.came;
  }

  -- as the first message there
  first_now : hold_of n c ≡ NotHeld → (m : WordCame p e h c Cer) → CameFirst c m.message x past
  first_now free m = record { come = came_now Cer m; first = before.unheard c free }

  sent_cea : (to : Header) → cer_answered p.standing.waiting h ≡ to →
      has_order SendsCea (orders_to c commands) ≡ true → WasSent c (built_cea p.config.node to 2001 None) x
  sent_cea to is has =
      let there = mapped (action_of p e h) commands (command.SendCea c) (laws.commands SendsCea c commands has) in
      record {
        actions = actions_of p e h commands;
        did = refl;
        sent = subst (λ (t : Header). StandsAmong (actions_of p e h commands)
            (sent c (built_cea p.config.node t 2001 None))) is there;
      }

  sent_cer : has_order SendsCer (orders_to c commands) ≡ true → WasSent c (built_cer p.config.node p.standing.next) x
  sent_cer has =
      record {
        actions = actions_of p e h commands;
        did = refl;
        sent = mapped (action_of p e h) commands (command.SendCer c) (laws.commands SendsCer c commands has);
      }

  -- a CER is sent at the Ack of a connection that is pending alone, so none where a CEA is awaited
  cer_pends : (d : Conn) → has_order SendsCer (orders_to d commands) ≡ true → hold_of n d ≡ Pending
  cer_pends d has =
      let law : has_order SendsCer (orders_to d commands) ≡ (is_ack (concern_of i d) && is_hold Pending (hold_of n d)) =
      subst (AtConnection (λ k was after orders. has_order SendsCer orders ≡ (is_ack k && is_hold Pending was)) n i d)
      o (laws.asked n i (wins p.config) d before.settled.shaped) in
      is_pending (hold_of n d)
      (and_parts (is_ack (concern_of i d)) (is_hold Pending (hold_of n d)) (sym law ∙ has)).1

  no_cer_here : awaits_cea n.state ≡ true → is_cer (request_in commands) ≡ false
  no_cer_here awaits = elim (cases_Bool (is_cer (request_in commands))) [
    | inl y ↦
        let r = cer_among commands y in
        let has = laws.orders SendsCer r.0 commands (command.SendCer r.0) r.1
        (ap (λ b. if_ordered b SendsCer) (is_conn r.0 r.0 refl)) in
        absurd (cc (sym awaits ∙ pending_awaits_none n before_form r.0 (cer_pends r.0 has)))
    | inr y ↦ y
  ]

  was_it : (was h' : Hold) → was ≡ h' → StoryOf p.config p.standing c past was → StoryOf p.config p.standing c past h'
  was_it was h' same s = subst (StoryOf p.config p.standing c past) same s

  now_cer : hold_of n c ≡ NotHeld → (hold_of core c ≡ NotHeld → ⊥) → concern_of i c ≡ HeardOnIt Cer →
      TakenByCer p e h c
  now_cer free held k = came_cer laws.closes p before.settled e h commands core o read c free held k

  go : (was after : Hold) → hold_of n c ≡ was → hold_of core c ≡ after →
      IsCaused (concern_of i c) was after (orders_to c commands) → StoryOf p.config p.standing c past was →
      StoryOf p.config after_it c (x ∷ past) after
  go was OpenAsR at is (inl same) s = later p.config after_it c x past OpenAsR (was_it was OpenAsR same s)
  go was OpenAsR at is (inr (has, inl taken)) s =
      let t : HasHeard p.config p.standing c past = was_it was Taken taken s in
      record {
        cer = t.cer;
        good = t.good;
        accepted = inl (record {
          answered = sent_cea t.cer.header (ap (λ w. cer_answered w h) t.kept) has;
          heard = inr t.heard;
        });
      }
  go was OpenAsR at is (inr (has, inr (free, k))) s =
      let m = now_cer (at ∙ free) (λ y. cc (y, is)) k in
      record {
        cer = m.cer.message;
        good = m.good;
        accepted = inl (record {
          answered = sent_cea m.cer.message.header m.answered has;
          heard = inl (first_now (at ∙ free) m.cer);
        });
      }
  go was Taken at is (inl same) s =
      let t : HasHeard p.config p.standing c past = was_it was Taken same s in
      record {
        cer = t.cer;
        good = t.good;
        kept = header_kept (holds_cer core.state) (holds_cer n.state) (header_heard h) p.standing.waiting
            (holds_taken core after_form c is) (holds_taken n before_form c (at ∙ same)) ∙ t.kept;
        heard = inr t.heard;
      }
  go was Taken at is (inr (free, k)) s =
      let m = now_cer (at ∙ free) (λ y. cc (y, is)) k in
      record {
        cer = m.cer.message;
        good = m.good;
        kept = header_set (holds_cer core.state) (holds_cer n.state) (header_heard h) p.standing.waiting
            (holds_taken core after_form c is) m.alone ∙ m.header;
        heard = inl (first_now (at ∙ free) m.cer);
      }
  go was Made at is (inl same) s =
      let t : HasAsked p.config p.standing c past = was_it was Made same s in
      record {
        id = t.id;
        kept = number_kept (awaits_cea core.state) (is_cer (request_in commands)) p.standing.next
            p.standing.awaited.cea (awaits_made core after_form c is)
            (no_cer_here (awaits_made n before_form c (at ∙ same))) ∙ t.kept;
        asked = inr t.asked;
      }
  go was Made at is (inr (pending, ack, has)) s =
      record {
        id = p.standing.next;
        kept = number_set (awaits_cea core.state) (is_cer (request_in commands)) p.standing.next
            p.standing.awaited.cea (awaits_made core after_form c is)
            (none_there (awaits_cea n.state) p.standing.awaited.cea before.settled.cea
            (pending_awaits_none n before_form c (at ∙ pending))) settled.cea;
        asked = inl (record { acked = acked_by e h c ack; sent = sent_cer has });
      }
  go was OpenAsI at is (inl same) s = later p.config after_it c x past OpenAsI (was_it was OpenAsI same s)
  go was OpenAsI at is (inr (made, k)) s =
      let t : HasAsked p.config p.standing c past = was_it was Made made s in
      let m = came_on p e h c Cea read (λ y. cc y) k in
      let good = good_cea p.config m.message m.word in
      let a = cea_answers p.config m.message good in
      let number = awaited_number p.standing.awaited m.message.header a.0 a.1
      (unawaited_made p c m.message (at ∙ made) m.awaited) in
      let id : t.id ≡ m.message.header.hop_id = cc (t.kept, number) in
      record {
        cea = m.message;
        good = good;
        answered = inl (record {
          heard = came_now Cea m;
          asked = subst (λ (j : ℕ). Once (λ y earlier. IsAsked p.config.node c j y) past) id t.asked;
        });
      }
  go was NotHeld at is k s = tt
  go was Pending at is k s = tt
  go was ClosingAsI at is k s = tt
  go was ClosingAsR at is k s = tt

  pub goes_on : StoryOf p.config after_it c (x ∷ past) (hold_of core c)
  goes_on = go (hold_of n c) (hold_of core c) refl refl caused_by (before.story c)
