-- The steps of a peer in a clean run.
use Rattle.std.proofs.Common.{◌≡◌, ℕ, ◌==◌, true, false, not, IsTrue, Option, Some, None, [], ◌∷◌, refl, sym, ap, subst}
use Rattle.std.proofs.Common.{◌∙◌}
use Rattle.std.specs.Prelude.{option_map}
use Rattle.std.proofs.lemmas.Bool.{both_ways, eq-eqb}
use Rattle.dm_machine.specs.declared.inputs.Word.TheVariants.{Unreadable, Cer, Cea}
use Rattle.dm_machine.specs.declared.inputs.Input.TheVariants as input
use Rattle.dm_machine.specs.declared.outputs.Command.TheVariants as command
use Rattle.dm_machine.specs.Connection.{NotHeld, Made, hold_of}
use Rattle.dm_machine.specs.Unread.{reads_first}
use Rattle.dm_two_peers.specs.Machine.{conn, Conn, Node, tie_of, is_tie_held, closed_node}
use Rattle.dm_two_peers.specs.Links.{Side, flip, LinkUp, Open, Shut, NoMark, Coming, Delivered, View, link_of}
use Rattle.dm_two_peers.specs.Peers.{AckEvent, GoneEvent, ArrivedEvent, Action, Send, Close, Peers, concern_by}
use Rattle.dm_two_peers.specs.Worlds.{World, peer_on, Put, PutMessage, Disconnect, put_if_fresh, tell}
use Rattle.dm_machine.specs.Awaiting.{holds_cer, cer_to_answer}
use Rattle.dm_two_peers.specs.Electing.{Talks, IsReadAs, reads_ack, reads_end, reads_cer, leaves_cer, reads_cea, IsElecting}
use Rattle.dm_two_peers.proofs.Columns.{stepped}
use Rattle.dm_two_peers.proofs.Pairs.{IsPair, ab, ba, mirror, Stands, AreAt, not_same}
use Rattle.dm_two_peers.proofs.Told.{Goes}
use Rattle.dm_two_peers.proofs.CleanSteps.{wait_conn_ack, wait_i_cea, elect, returns, r_open, i_open, out_ack, out_ack_lose}
use Rattle.dm_two_peers.proofs.CleanSteps.{out_ack_win, out_cer_closed, out_cer_wait, out_cer_lose, out_cer_win, out_reject}
use Rattle.dm_two_peers.proofs.CleanSteps.{out_cea, out_cea_returns, out_gone}
use Rattle.dm_two_peers.proofs.Stages.{Stage, Dialled, Asked, Accepted, Answered, Dropped, Halved, Parted, direction_of}
use Rattle.dm_two_peers.proofs.Stages.{seen, stage_view, turn, none_said, one_said, two_said, three_said}

-- a link that isn't named stays
pub unnamed : {M : Type 0} (f : View M → View M) (v : Option (View M)) → ((z : View M) → f z ≡ z) →
    option_map f v ≡ v
unnamed f None h = refl
unnamed f (Some z) h = ap (λ r. Some r) (h z)

pub itself : (x : ℕ) → (x == x) ≡ true
itself x = eq-eqb x x refl

module _ {P M C H : Type 0} (m : Peers P M) (t : Talks P M C H) where
  -- the link that a side opens, and the one that the other side opens as this side sees it
  abbrev pub own_at : Side → Side → Stage → ℕ → ℕ → ℕ → Option (View M)
  own_at s o st h j k = stage_view st (t.cer (t.config s) h) (t.cea (t.config o) h) j k

  abbrev pub other_at : Side → Side → Stage → ℕ → ℕ → ℕ → Option (View M)
  other_at s o st h j k = option_map mirror (own_at o s st h j k)

  -- the CER of a side on its link, and the CEA that the other side gives to it
  abbrev pub cer_put : Side → Side → ℕ → ℕ → Put M
  cer_put s o x h = PutMessage x o (t.cer (t.config s) h)

  abbrev pub cea_put : Side → Side → ℕ → ℕ → Put M
  cea_put s o x h = PutMessage x s (t.cea (t.config o) h)

  none_waits : IsElecting m t → (s : Side) (p : P) (n : Node) (h h' : ℕ) → Stands m t s p n h h' →
      not (holds_cer n.state) ≡ true → t.waiting_of p ≡ None
  none_waits el s p n h h' a b = el.keeps_none p a.peer.stands
      (subst (λ (k : Node). IsTrue (not (holds_cer k.state))) (sym a.node) b)

  reads_asks : (s o : Side) → IsPair s o → (p : P) (n : Node) (h h' : ℕ) (c : Conn) (k : ℕ) →
      Stands m t s p n h h' → IsTrue (t.is_number k) → reads_first n.state ≡ true → hold_of n c ≡ NotHeld →
      IsReadAs m t s p (ArrivedEvent c (t.cer (t.config o) k)) (input.Heard c Cer) (Some (t.cer_header k))
  reads_asks s o ab p n h h' c k a number f g =
      reads_cer c k number (subst (λ (z : Node). IsTrue (reads_first z.state)) (sym a.node) f)
      (ap (λ (z : Node). hold_of z c) a.node ∙ g)
  reads_asks s o ba p n h h' c k a number f g =
      reads_cer c k number (subst (λ (z : Node). IsTrue (reads_first z.state)) (sym a.node) f)
      (ap (λ (z : Node). hold_of z c) a.node ∙ g)

  reads_passes : (s o : Side) → IsPair s o → (p : P) (n : Node) (h h' : ℕ) (c : Conn) (k : ℕ) →
      Stands m t s p n h h' → not (reads_first n.state) ≡ true → hold_of n c ≡ NotHeld →
      IsReadAs m t s p (ArrivedEvent c (t.cer (t.config o) k)) (input.Heard c Unreadable) None
  reads_passes s o ab p n h h' c k a f g =
      leaves_cer c k (subst (λ (z : Node). IsTrue (not (reads_first z.state))) (sym a.node) f)
      (ap (λ (z : Node). hold_of z c) a.node ∙ g)
  reads_passes s o ba p n h h' c k a f g =
      leaves_cer c k (subst (λ (z : Node). IsTrue (not (reads_first z.state))) (sym a.node) f)
      (ap (λ (z : Node). hold_of z c) a.node ∙ g)

  reads_answers : (s o : Side) → IsPair s o → (p : P) (n : Node) (h h' : ℕ) (c : Conn) → Stands m t s p n h h' →
      t.awaited_of p ≡ Some h → hold_of n c ≡ Made →
      IsReadAs m t s p (ArrivedEvent c (t.cea (t.config o) h)) (input.Heard c Cea) (Some (t.cea_header h))
  reads_answers s o ab p n h h' c a f g = reads_cea c h a.number f (ap (λ (z : Node). hold_of z c) a.node ∙ g)
  reads_answers s o ba p n h h' c a f g = reads_cea c h a.number f (ap (λ (z : Node). hold_of z c) a.node ∙ g)

  -- an Ack
  pub acks_plain : IsElecting m t → (s o : Side) → IsPair s o →
      (w : World P M) (x y j k : ℕ) (v : Option (View M)) (n' : Node) (h h' : ℕ) →
      AreAt m t s o w x y (own_at s o Dialled h j k) v (wait_conn_ack x) n' h h' → holds_cer n'.state ≡ false →
      Goes m t s o x y (own_at s o Asked (t.next_of (peer_on s w)) j k) v (wait_i_cea x) n'
      (t.next_of (peer_on s w)) h' (tell m s (AckEvent (conn x)) w) (cer_put s o x (t.next_of (peer_on s w)) ∷ [])
  acks_plain el s o pair w x y j k v n' h h' a free =
      let h1 = t.next_of (peer_on s w) in
      let xx = itself x in
      let xy = a.apart in
      let act : Action M = Send (conn x) (t.cer (t.config s) h1) in
      turn m t el s o pair w x y (own_at s o Dialled h j k) v (own_at s o Asked h1 j k) v (wait_conn_ack x) n'
      (wait_i_cea x) h h' h1 (AckEvent (conn x)) (input.Ack (conn x)) None (command.SendCer (conn x) ∷ []) (act ∷ [])
      (PutMessage x o (t.cer (t.config s) h1) ∷ []) a (λ q. elim q [ ]) (reads_ack (conn x)) (out_ack x (t.wins s) xx)
      (λ acts. one_said m t s (peer_on s w) None (command.SendCer (conn x)) act acts (λ b q. q)) (λ b. refl)
      (λ b. cc) (el.numbers (peer_on s w) a.own.peer.stands)
      (λ b. absurd (both_ways (holds_cer n'.state) free b))
      (simp (xx)) (unnamed _ v (λ z. simp (xy))) (λ d b z hx hy. simp (hx)) (simp (xx)) refl (simp (xx))

  -- the Ack with the other side's CER there: lost, or won at once
  pub acks_lose : IsElecting m t → (s o : Side) → IsPair s o → t.wins s ≡ false →
      (w : World P M) (x y j k : ℕ) (v : Option (View M)) (n' : Node) (h h' : ℕ) →
      AreAt m t s o w x y (own_at s o Dialled h j k) v (elect x y) n' h h' → holds_cer n'.state ≡ false →
      Goes m t s o x y (own_at s o Asked (t.next_of (peer_on s w)) j k) v (returns x y) n'
      (t.next_of (peer_on s w)) h' (tell m s (AckEvent (conn x)) w) (cer_put s o x (t.next_of (peer_on s w)) ∷ [])
  acks_lose el s o pair loses w x y j k v n' h h' a free =
      let h1 = t.next_of (peer_on s w) in
      let xx = itself x in
      let xy = a.apart in
      let act : Action M = Send (conn x) (t.cer (t.config s) h1) in
      turn m t el s o pair w x y (own_at s o Dialled h j k) v (own_at s o Asked h1 j k) v (elect x y) n'
      (returns x y) h h' h1 (AckEvent (conn x)) (input.Ack (conn x)) None (command.SendCer (conn x) ∷ []) (act ∷ [])
      (PutMessage x o (t.cer (t.config s) h1) ∷ []) a (λ q. elim q [ ]) (reads_ack (conn x))
      (rw loses (out_ack_lose x y xx))
      (λ acts. one_said m t s (peer_on s w) None (command.SendCer (conn x)) act acts (λ b q. q)) (λ b. refl)
      (λ b. a.own.waits refl) (el.numbers (peer_on s w) a.own.peer.stands)
      (λ b. absurd (both_ways (holds_cer n'.state) free b))
      (simp (xx)) (unnamed _ v (λ z. simp (xy))) (λ d b z hx hy. simp (hx)) (simp (xx)) refl (simp (xx))

  pub acks_win : IsElecting m t → (s o : Side) → IsPair s o → t.wins s ≡ true →
      (w : World P M) (x y j k j' k' : ℕ) (n' : Node) (h h' : ℕ) →
      AreAt m t s o w x y (own_at s o Dialled h j k) (other_at s o Accepted h' j' k') (elect x y) n' h h' →
      holds_cer n'.state ≡ false →
      Goes m t s o x y (own_at s o Dropped (t.next_of (peer_on s w)) j k)
      (option_map mirror (own_at o s Answered h' j' k')) (r_open y) n' (t.next_of (peer_on s w)) h'
      (tell m s (AckEvent (conn x)) w) (cer_put s o x (t.next_of (peer_on s w)) ∷ Disconnect x o ∷ cea_put o s y h' ∷ [])
  acks_win el s o pair wins w x y j k j' k' n' h h' a free =
      let p = peer_on s w in
      let h1 = t.next_of p in
      let xx = itself x in
      let yy = itself y in
      let xy = a.apart in
      let yx = not_same x y xy in
      let one : Action M = Send (conn x) (t.cer (t.config s) h1) in
      let two : Action M = Close (conn x) in
      let three : Action M = Send (conn y) (t.cea (t.config s) h') in
      turn m t el s o pair w x y (own_at s o Dialled h j k) (other_at s o Accepted h' j' k')
      (own_at s o Dropped h1 j k) (option_map mirror (own_at o s Answered h' j' k')) (elect x y) n'
      (r_open y) h h' h1 (AckEvent (conn x)) (input.Ack (conn x)) None
      (command.SendCer (conn x) ∷ command.Close (conn x) ∷ command.SendCea (conn y) ∷ []) (one ∷ two ∷ three ∷ [])
      (PutMessage x o (t.cer (t.config s) h1) ∷ Disconnect x o ∷ PutMessage y o (t.cea (t.config s) h') ∷ []) a
      (λ q. elim q [ ]) (reads_ack (conn x)) (rw wins (out_ack_win x y xx))
      (λ acts. three_said m t s p None (command.SendCer (conn x)) (command.Close (conn x))
      (command.SendCea (conn y)) one two three acts (λ b q. q) (λ b q. q)
      (λ b q. q h' (ap (λ z. cer_to_answer z None) (a.own.waits refl))))
      (λ b. cc) (λ b. cc) (el.numbers p a.own.peer.stands) (λ b. absurd (both_ways (holds_cer n'.state) free b))
      (simp (xx, yx)) (simp (xy, yy)) (λ d b z hx hy. simp (hx, hy)) (simp (xx, yy, yx)) refl (simp (xx, xy, yx))

  -- a CER to a closed peer, and to one whose own connect is pending
  pub cer_closed : IsElecting m t → (s o : Side) → IsPair s o →
      (w : World P M) (x y j k : ℕ) (u : Option (View M)) (n' : Node) (h h' : ℕ) →
      AreAt m t s o w x y u (option_map mirror (own_at o s Asked h' j k)) closed_node n' h h' →
      Goes m t s o x y u (option_map mirror (own_at o s Answered h' j 0)) (r_open y) n' h h'
      (tell m s (ArrivedEvent (conn y) (t.cer (t.config o) h')) w) (cea_put o s y h' ∷ [])
  cer_closed el s o pair w x y j k u n' h h' a =
      let p = peer_on s w in
      let yy = itself y in
      let xy = a.apart in
      let yx = not_same x y xy in
      let act : Action M = Send (conn y) (t.cea (t.config s) h') in
      turn m t el s o pair w x y u (option_map mirror (own_at o s Asked h' j k)) u
      (option_map mirror (own_at o s Answered h' j 0)) closed_node n' (r_open y) h h' h
      (ArrivedEvent (conn y) (t.cer (t.config o) h')) (input.Heard (conn y) Cer) (Some (t.cer_header h'))
      (command.SendCea (conn y) ∷ []) (act ∷ []) (PutMessage y o (t.cea (t.config s) h') ∷ []) a
      (λ q. elim q [ ])
      (reads_asks s o pair p closed_node h h' (conn y) h' a.own a.other.number refl refl)
      (out_cer_closed y (t.wins s))
      (λ acts. one_said m t s p (Some (t.cer_header h')) (command.SendCea (conn y)) act acts
      (λ b q. q h' (ap (λ z. cer_to_answer z (Some (t.cer_header h')))
      (none_waits el s p closed_node h h' a.own refl))))
      (λ b. cc) (λ b. cc) a.own.number (λ b. refl)
      (unnamed _ u (λ z. simp (yx))) (simp (yy)) (λ d b z hx hy. simp (hy)) (simp (yy, yx)) refl (simp (yy, yx))

  pub cer_wait : IsElecting m t → (s o : Side) → IsPair s o →
      (w : World P M) (x y j k : ℕ) (u : Option (View M)) (n' : Node) (h h' : ℕ) →
      AreAt m t s o w x y u (option_map mirror (own_at o s Asked h' j k)) (wait_conn_ack x) n' h h' →
      Goes m t s o x y u (option_map mirror (own_at o s Accepted h' j 0)) (elect x y) n' h h'
      (tell m s (ArrivedEvent (conn y) (t.cer (t.config o) h')) w) []
  cer_wait el s o pair w x y j k u n' h h' a =
      let p = peer_on s w in
      let yy = itself y in
      let xy = a.apart in
      let yx = not_same x y xy in
      turn m t el s o pair w x y u (option_map mirror (own_at o s Asked h' j k)) u
      (option_map mirror (own_at o s Accepted h' j 0)) (wait_conn_ack x) n' (elect x y) h h' h
      (ArrivedEvent (conn y) (t.cer (t.config o) h')) (input.Heard (conn y) Cer) (Some (t.cer_header h'))
      [] [] [] a (λ q. elim q [ ])
      (reads_asks s o pair p (wait_conn_ack x) h h' (conn y) h' a.own a.other.number refl (simp (xy)))
      (out_cer_wait x y (t.wins s) xy)
      (λ acts. none_said m t s p (Some (t.cer_header h')) acts)
      (λ b. cc) (λ b. refl) a.own.number (λ b. refl)
      (unnamed _ u (λ z. simp (yx))) (simp (xy, yy)) (λ d b z hx hy. simp (hy)) refl refl refl

  -- a CER to a peer that awaits its CEA, and loses
  cer_loses : IsElecting m t → (s o : Side) → IsPair s o → t.wins s ≡ false →
      (w : World P M) (x y : ℕ) (u v v1 : Option (View M)) (n' : Node) (h h' : ℕ) →
      AreAt m t s o w x y u v (wait_i_cea x) n' h h' →
      option_map (stepped (concern_by (ArrivedEvent (conn y) (t.cer (t.config o) h')) (conn y))
      (is_tie_held (tie_of (returns x y) y)) y []) v ≡ v1 →
      Goes m t s o x y u v1 (returns x y) n' h h' (tell m s (ArrivedEvent (conn y) (t.cer (t.config o) h')) w) []
  cer_loses el s o pair loses w x y u v v1 n' h h' a to_v =
      let p = peer_on s w in
      let yy = itself y in
      let xy = a.apart in
      let yx = not_same x y xy in
      turn m t el s o pair w x y u v u v1 (wait_i_cea x) n' (returns x y) h h' h
      (ArrivedEvent (conn y) (t.cer (t.config o) h')) (input.Heard (conn y) Cer) (Some (t.cer_header h'))
      [] [] [] a (λ q. elim q [ ])
      (reads_asks s o pair p (wait_i_cea x) h h' (conn y) h' a.own a.other.number refl (simp (xy)))
      (rw loses (out_cer_lose x y xy))
      (λ acts. none_said m t s p (Some (t.cer_header h')) acts)
      (λ b. a.own.awaits refl) (λ b. refl) a.own.number (λ b. refl)
      (unnamed _ u (λ z. simp (yx))) to_v (λ d b z hx hy. simp (hy)) refl refl refl

  pub cer_lose : IsElecting m t → (s o : Side) → IsPair s o → t.wins s ≡ false →
      (w : World P M) (x y j k : ℕ) (u : Option (View M)) (n' : Node) (h h' : ℕ) →
      AreAt m t s o w x y u (option_map mirror (own_at o s Asked h' j k)) (wait_i_cea x) n' h h' →
      Goes m t s o x y u (option_map mirror (own_at o s Accepted h' j 0)) (returns x y) n' h h'
      (tell m s (ArrivedEvent (conn y) (t.cer (t.config o) h')) w) []
  cer_lose el s o pair loses w x y j k u n' h h' a =
      let yy = itself y in
      let xy = a.apart in
      cer_loses el s o pair loses w x y u (option_map mirror (own_at o s Asked h' j k))
      (option_map mirror (own_at o s Accepted h' j 0)) n' h h' a (simp (xy, yy))

  pub cer_late : IsElecting m t → (s o : Side) → IsPair s o → t.wins s ≡ false →
      (w : World P M) (x y j k : ℕ) (u : Option (View M)) (n' : Node) (h h' : ℕ) →
      AreAt m t s o w x y u (option_map mirror (own_at o s Dropped h' j k)) (wait_i_cea x) n' h h' →
      Goes m t s o x y u (option_map mirror (own_at o s Halved h' j 0)) (returns x y) n' h h'
      (tell m s (ArrivedEvent (conn y) (t.cer (t.config o) h')) w) []
  cer_late el s o pair loses w x y j k u n' h h' a =
      let yy = itself y in
      let xy = a.apart in
      cer_loses el s o pair loses w x y u (option_map mirror (own_at o s Dropped h' j k))
      (option_map mirror (own_at o s Halved h' j 0)) n' h h' a (simp (xy, yy))

  -- a CER to a peer that awaits its CEA, and wins: its own CER is under way, or was accepted
  pub cer_win : IsElecting m t → (s o : Side) → IsPair s o → t.wins s ≡ true →
      (w : World P M) (x y i l j k : ℕ) (n' : Node) (h h' : ℕ) →
      AreAt m t s o w x y (own_at s o Asked h i l) (option_map mirror (own_at o s Asked h' j k))
      (wait_i_cea x) n' h h' →
      Goes m t s o x y (own_at s o Dropped h i l) (option_map mirror (own_at o s Answered h' j 0))
      (r_open y) n' h h' (tell m s (ArrivedEvent (conn y) (t.cer (t.config o) h')) w)
      (Disconnect x o ∷ cea_put o s y h' ∷ [])
  cer_win el s o pair wins w x y i l j k n' h h' a =
      let p = peer_on s w in
      let xx = itself x in
      let yy = itself y in
      let xy = a.apart in
      let yx = not_same x y xy in
      let one : Action M = Close (conn x) in
      let two : Action M = Send (conn y) (t.cea (t.config s) h') in
      turn m t el s o pair w x y (own_at s o Asked h i l) (option_map mirror (own_at o s Asked h' j k))
      (own_at s o Dropped h i l) (option_map mirror (own_at o s Answered h' j 0)) (wait_i_cea x) n'
      (r_open y) h h' h
      (ArrivedEvent (conn y) (t.cer (t.config o) h')) (input.Heard (conn y) Cer) (Some (t.cer_header h'))
      (command.Close (conn x) ∷ command.SendCea (conn y) ∷ []) (one ∷ two ∷ [])
      (Disconnect x o ∷ PutMessage y o (t.cea (t.config s) h') ∷ []) a (λ q. elim q [ ])
      (reads_asks s o pair p (wait_i_cea x) h h' (conn y) h' a.own a.other.number refl (simp (xy)))
      (rw wins (out_cer_win x y xy))
      (λ acts. two_said m t s p (Some (t.cer_header h')) (command.Close (conn x))
      (command.SendCea (conn y)) one two acts (λ b q. q)
      (λ b q. q h' (ap (λ z. cer_to_answer z (Some (t.cer_header h')))
      (none_waits el s p (wait_i_cea x) h h' a.own refl))))
      (λ b. cc) (λ b. cc) a.own.number (λ b. refl)
      (simp (xx, yx)) (simp (xy, yy)) (λ d b z hx hy. simp (hx, hy)) (simp (xx, yy, yx)) refl
      (simp (xx, xy, yy, yx))

  pub cer_win_late : IsElecting m t → (s o : Side) → IsPair s o → t.wins s ≡ true →
      (w : World P M) (x y i l j k : ℕ) (n' : Node) (h h' : ℕ) →
      AreAt m t s o w x y (own_at s o Accepted h i l) (option_map mirror (own_at o s Asked h' j k))
      (wait_i_cea x) n' h h' →
      Goes m t s o x y (own_at s o Halved h i l) (option_map mirror (own_at o s Answered h' j 0))
      (r_open y) n' h h' (tell m s (ArrivedEvent (conn y) (t.cer (t.config o) h')) w)
      (Disconnect x o ∷ cea_put o s y h' ∷ [])
  cer_win_late el s o pair wins w x y i l j k n' h h' a =
      let p = peer_on s w in
      let xx = itself x in
      let yy = itself y in
      let xy = a.apart in
      let yx = not_same x y xy in
      let one : Action M = Close (conn x) in
      let two : Action M = Send (conn y) (t.cea (t.config s) h') in
      turn m t el s o pair w x y (own_at s o Accepted h i l) (option_map mirror (own_at o s Asked h' j k))
      (own_at s o Halved h i l) (option_map mirror (own_at o s Answered h' j 0)) (wait_i_cea x) n'
      (r_open y) h h' h
      (ArrivedEvent (conn y) (t.cer (t.config o) h')) (input.Heard (conn y) Cer) (Some (t.cer_header h'))
      (command.Close (conn x) ∷ command.SendCea (conn y) ∷ []) (one ∷ two ∷ [])
      (Disconnect x o ∷ PutMessage y o (t.cea (t.config s) h') ∷ []) a (λ q. elim q [ ])
      (reads_asks s o pair p (wait_i_cea x) h h' (conn y) h' a.own a.other.number refl (simp (xy)))
      (rw wins (out_cer_win x y xy))
      (λ acts. two_said m t s p (Some (t.cer_header h')) (command.Close (conn x))
      (command.SendCea (conn y)) one two acts (λ b q. q)
      (λ b q. q h' (ap (λ z. cer_to_answer z (Some (t.cer_header h')))
      (none_waits el s p (wait_i_cea x) h h' a.own refl))))
      (λ b. cc) (λ b. cc) a.own.number (λ b. refl)
      (simp (xx, yx)) (simp (xy, yy)) (λ d b z hx hy. simp (hx, hy)) (simp (xx, yy, yx)) refl
      (simp (xx, xy, yy, yx))

  -- a CER to an open peer
  pub cer_rejected : IsElecting m t → (s o : Side) → IsPair s o →
      (w : World P M) (x y j k : ℕ) (u : Option (View M)) (n' : Node) (h h' : ℕ) →
      AreAt m t s o w x y u (option_map mirror (own_at o s Dropped h' j k)) (i_open x) n' h h' →
      Goes m t s o x y u (option_map mirror (own_at o s (Parted Coming Coming) h' j 0)) (i_open x) n' h h'
      (tell m s (ArrivedEvent (conn y) (t.cer (t.config o) h')) w) (Disconnect y o ∷ [])
  cer_rejected el s o pair w x y j k u n' h h' a =
      let p = peer_on s w in
      let yy = itself y in
      let xy = a.apart in
      let yx = not_same x y xy in
      let act : Action M = Close (conn y) in
      turn m t el s o pair w x y u (option_map mirror (own_at o s Dropped h' j k)) u
      (option_map mirror (own_at o s (Parted Coming Coming) h' j 0)) (i_open x) n' (i_open x) h h' h
      (ArrivedEvent (conn y) (t.cer (t.config o) h')) (input.Heard (conn y) Unreadable) None
      (command.Close (conn y) ∷ []) (act ∷ []) (Disconnect y o ∷ []) a (λ q. elim q [ ])
      (reads_passes s o pair p (i_open x) h h' (conn y) h' a.own refl (simp (xy))) (out_reject x y (t.wins s) xy)
      (λ acts. one_said m t s p None (command.Close (conn y)) act acts (λ b q. q))
      (λ b. cc) (λ b. cc) a.own.number (λ b. refl)
      (unnamed _ u (λ z. simp (yx))) (simp (xy, yy)) (λ d b z hx hy. simp (hy)) (simp (yy, yx)) refl
      (simp (yy, yx))

  -- a CEA
  pub cea_plain : IsElecting m t → (s o : Side) → IsPair s o →
      (w : World P M) (x y j k : ℕ) (v : Option (View M)) (n' : Node) (h h' : ℕ) →
      AreAt m t s o w x y (own_at s o Answered h j k) v (wait_i_cea x) n' h h' →
      Goes m t s o x y (own_at s o Accepted h 0 k) v (i_open x) n' h h'
      (tell m s (ArrivedEvent (conn x) (t.cea (t.config o) h)) w) []
  cea_plain el s o pair w x y j k v n' h h' a =
      let p = peer_on s w in
      let xx = itself x in
      let xy = a.apart in
      turn m t el s o pair w x y (own_at s o Answered h j k) v (own_at s o Accepted h 0 k) v (wait_i_cea x) n'
      (i_open x) h h' h (ArrivedEvent (conn x) (t.cea (t.config o) h)) (input.Heard (conn x) Cea)
      (Some (t.cea_header h))
      [] [] [] a (λ q. elim q [ ])
      (reads_answers s o pair p (wait_i_cea x) h h' (conn x) a.own (a.own.awaits refl) (simp (xx)))
      (out_cea x (t.wins s) xx)
      (λ acts. none_said m t s p (Some (t.cea_header h)) acts) (λ b. cc) (λ b. cc) a.own.number (λ b. refl)
      (simp (xx)) (unnamed _ v (λ z. simp (xy))) (λ d b z hx hy. simp (hx)) refl refl refl

  pub cea_returns : IsElecting m t → (s o : Side) → IsPair s o →
      (w : World P M) (x y j k i l : ℕ) (n' : Node) (h h' : ℕ) →
      AreAt m t s o w x y (own_at s o Answered h j k) (option_map mirror (own_at o s Halved h' i l))
      (returns x y) n' h h' →
      Goes m t s o x y (own_at s o Accepted h 0 k) (option_map mirror (own_at o s (Parted Coming Coming) h' i l))
      (i_open x) n' h h' (tell m s (ArrivedEvent (conn x) (t.cea (t.config o) h)) w) (Disconnect y o ∷ [])
  cea_returns el s o pair w x y j k i l n' h h' a =
      let p = peer_on s w in
      let xx = itself x in
      let yy = itself y in
      let xy = a.apart in
      let yx = not_same x y xy in
      let act : Action M = Close (conn y) in
      turn m t el s o pair w x y (own_at s o Answered h j k) (option_map mirror (own_at o s Halved h' i l))
      (own_at s o Accepted h 0 k) (option_map mirror (own_at o s (Parted Coming Coming) h' i l))
      (returns x y) n' (i_open x) h h' h
      (ArrivedEvent (conn x) (t.cea (t.config o) h)) (input.Heard (conn x) Cea) (Some (t.cea_header h))
      (command.Close (conn y) ∷ []) (act ∷ []) (Disconnect y o ∷ []) a (λ q. elim q [ ])
      (reads_answers s o pair p (returns x y) h h' (conn x) a.own (a.own.awaits refl) (simp (xx)))
      (out_cea_returns x y (t.wins s) xx)
      (λ acts. one_said m t s p (Some (t.cea_header h)) (command.Close (conn y)) act acts (λ b q. q)) (λ b. cc)
      (λ b. cc) a.own.number (λ b. refl)
      (simp (xx, yx)) (simp (xy, yy)) (λ d b z hx hy. simp (hx, hy)) (simp (yy, yx)) refl (simp (yx, xy))

  -- the winner's disconnect to a peer that accepted its link
  open_not_fresh : (s o : Side) → IsPair s o → (q : Put M) (z : View M) → z.own ≡ Open →
      put_if_fresh s q (Some (link_of false o z)) ≡ []
  open_not_fresh s o ab q z e = rw e refl
  open_not_fresh s o ba q z e = rw e refl

  pub gone_returns : IsElecting m t → (s o : Side) → IsPair s o →
      (w : World P M) (x y j k : ℕ) (u : Option (View M)) (n' : Node) (h h' : ℕ) →
      AreAt m t s o w x y u (option_map mirror (own_at o s Halved h' j k)) (returns x y) n' h h' →
      Goes m t s o x y u (option_map mirror (own_at o s (Parted Coming Delivered) h' j k)) (wait_i_cea x) n' h h'
      (tell m s (GoneEvent (conn y)) w) (Disconnect y o ∷ [])
  gone_returns el s o pair w x y j k u n' h h' a =
      let p = peer_on s w in
      let yy = itself y in
      let xy = a.apart in
      let yx = not_same x y xy in
      let act : Action M = Close (conn y) in
      turn m t el s o pair w x y u (option_map mirror (own_at o s Halved h' j k)) u
      (option_map mirror (own_at o s (Parted Coming Delivered) h' j k)) (returns x y) n' (wait_i_cea x) h h' h
      (GoneEvent (conn y)) (input.Gone (conn y)) None
      (command.Close (conn y) ∷ []) (act ∷ []) (Disconnect y o ∷ []) a (λ q. elim q [ ])
      (reads_end (conn y)) (out_gone x y (t.wins s) xy yy)
      (λ acts. one_said m t s p None (command.Close (conn y)) act acts (λ b q. q)) (λ b. a.own.awaits refl)
      (λ b. cc) a.own.number (λ b. refl)
      (unnamed _ u (λ z. simp (yx))) (simp (yy)) (λ d b z hx hy. simp (hy)) (simp (yy, yx))
      (ap (put_if_fresh s (Disconnect y (flip s))) a.at_y
      ∙ open_not_fresh s o pair (Disconnect y (flip s))
      (mirror (seen LinkUp Shut Open (direction_of [] j NoMark) (direction_of [] k Coming))) refl) (simp (yy, yx))
