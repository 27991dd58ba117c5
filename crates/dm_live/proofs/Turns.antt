-- Turn by turn.
use Rattle.std.proofs.Common.{◌≡◌, inl, ℕ, Option, None, Some, List, [], ◌∷◌, ◌++◌, ap, ◌∙◌, refl, sym, append_assoc}
use Rattle.std.proofs.Common.{subst, Result, Ok, Err, IfSome, OnOk, IfOk}
use Rattle.std.proofs.lemmas.List.{flat_map_more}
use Rattle.std.specs.Option.{option_or}
use Rattle.dm_machine.specs.declared.connection.Conn.{Conn}
use Rattle.dm_node.specs.Policies.{Policy}
use Rattle.dm_peer.specs.declared.peer.Peer.{Peer}
use Rattle.dm_node.specs.declared.order.Order.{Order}
use Rattle.dm_node.specs.declared.answer.Told.{Told}
use Rattle.dm_node.specs.declared.answer.Told.TheVariants.{Nothing, Message}
use Rattle.dm_node.specs.Answers.{asks_as, turn_told}
use Rattle.dm_live.specs.declared.asked.Asked.{Asked}
use Rattle.dm_node.specs.NodeKnown.{KnownAfterOrder}
use Rattle.dm_node.specs.NodeOrders.{NodeTakes}
use Rattle.dm_node.specs.NodeStates.{NodeAnswer, NodeTurn, NodeIsOut}
use Rattle.dm_live.specs.declared.form.Form.{Form}
use Rattle.dm_live.specs.Answers.{asked_lines, whom_asked, turn_lines, turns_lines, whom_last, states_behind, policy_of}
use Rattle.dm_live.specs.Answers.{TakesOrder, TakesAs, MeetsNext, MeetsAlong, MeetsOut, HearsOut, Answers}
use Rattle.dm_live.specs.Meetings.{Meeting}

-- one turn more
pub along_push : (policy : Policy) (c : Conn) (s m t : Meeting) (turns : List NodeTurn) (turn : NodeTurn)
    → MeetsAlong policy c s turns m → MeetsNext policy c m turn t → MeetsAlong policy c s (turns ++ turn ∷ []) t
along_push policy c s m t [] turn along next =
    let From : Meeting → Type 0 = λ v. MeetsNext policy c v turn t in (t, subst From (sym along) next, refl)
along_push policy c s m t (first ∷ turns) turn along next =
    (along.0, along.1, along_push policy c along.0 m t turns turn along.2 next)

-- and its lines
pub text_push : (form : Form) (old text new : List ℕ) (turns : List NodeTurn) (turn : NodeTurn)
    → text ≡ old ++ turns_lines form turns → new ≡ text ++ turn_lines form turn
    → new ≡ old ++ turns_lines form (turns ++ turn ∷ [])
text_push form old text new turns turn is more =
    more ∙ ap (λ v. v ++ turn_lines form turn) is ∙ flat_map_more (turn_lines form) old turns turn

-- and whom it concerned
whom_push : (who : Option ℕ) (turns : List NodeTurn) (turn : NodeTurn)
    → whom_last who (turns ++ turn ∷ []) ≡ option_or turn.answer.neighbour (whom_last who turns)
whom_push who [] turn = refl
whom_push who (first ∷ turns) turn = whom_push (option_or first.answer.neighbour who) turns turn

pub whom_after : (who last next : Option ℕ) (turns : List NodeTurn) (turn : NodeTurn) → last ≡ whom_last who turns
    → next ≡ option_or turn.answer.neighbour last → next ≡ whom_last who (turns ++ turn ∷ [])
whom_after who last next turns turn is more =
    more ∙ ap (λ v. option_or turn.answer.neighbour v) is ∙ sym (whom_push who turns turn)

-- the turn of what was told
pub turn_of : (c : Conn) (told : Told) (answer : NodeAnswer) (P Q : NodeTurn → Type 0) → (told ≡ Nothing → ⊥)
    → IfSome (turn_told c told answer) P → IfSome (turn_told c told answer) Q
    → (turn : NodeTurn) × (turn.answer ≡ answer) × P turn × Q turn
turn_of c Nothing answer P Q some p q = absurd (some refl)
turn_of c Message answer P Q some p q = (record { arrived = Some c; answer = answer }, refl, p, q)
turn_of c told answer P Q some p q = (record { arrived = None; answer = answer }, refl, p, q)

-- where nothing was told
pub along_out : (policy : Policy) (c : Conn) (s m t : Meeting) (turns : List NodeTurn) → MeetsAlong policy c s turns m
    → NodeIsOut c m.node × (t.node ≡ m.node) → t.known ≡ m.known → MeetsOut policy c s turns t
along_out policy c s m t turns along (out, node) known =
    let same : m ≡ t = ap (λ v. record { node = v; known = m.known }) (sym node)
    ∙ ap (λ v. record { node = t.node; known = v }) (sym known) in
    subst (λ v. MeetsOut policy c s turns v) same (along, out)

-- an order that was taken, and what is said of that
pub taken_so : {E : Type 0} (r : Result (Option ℕ) E) (form : Form) (o : Order) (m n : Meeting)
    (asks said : Option NodeAnswer) (old new : List ℕ) → NodeTakes o m.node asks n.node
    → KnownAfterOrder asks m.node n.node m.known n.known → asks ≡ said → IfOk r (λ who. who ≡ whom_asked o said)
    → OnOk r (new ≡ old ++ asked_lines form o said)
    → IfOk r (λ who. (own : List ℕ) × TakesOrder form o m who n own × (new ≡ old ++ own))
taken_so (Err e) form o m n asks said old new takes knows same is text = tt
taken_so (Ok who) form o m n asks said old new takes knows same is text =
    let Takes : Option NodeAnswer → Type 0 = λ v. NodeTakes o m.node v n.node in
    let Knows : Option NodeAnswer → Type 0 = λ v. KnownAfterOrder v m.node n.node m.known n.known in
    (asked_lines form o said, inl (said, subst Takes same takes, subst Knows same knows, is, refl), text)

-- what was told asks for something
pub asks_told : (told : Told) (answer : NodeAnswer) → (told ≡ Nothing → ⊥) → asks_as told answer ≡ Some answer
asks_told Nothing answer some = absurd (some refl)
asks_told told answer some = refl

-- the parts of an answer, one behind the other
pub answered : {T E : Type 0} (r : Result T E) (form : Form) (o : Asked) (s m t : Meeting) (who last : Option ℕ)
    (turns : List NodeTurn) (ps : List (Option Peer)) (own old first second new : List ℕ) → TakesAs form o s who m own
    → HearsOut (policy_of form) o m turns t → last ≡ whom_last who turns → ps ≡ t.node.peers → first ≡ old ++ own
    → second ≡ first ++ turns_lines form turns → OnOk r (new ≡ second ++ states_behind form o last ps)
    → OnOk r ((more : List ℕ) × Answers form o s t more × (new ≡ old ++ more))
answered (Err e) form o s m t who last turns ps own old first second new takes hears is stands one two three = tt
answered (Ok v) form o s m t who last turns ps own old first second new takes hears is stands one two three =
    let lines = turns_lines form turns in
    let states = states_behind form o (whom_last who turns) t.node.peers in
    let same : states_behind form o last ps ≡ states =
    ap (λ w. states_behind form o w ps) is ∙ ap (λ q. states_behind form o (whom_last who turns) q) stands in
    let joined : new ≡ ((old ++ own) ++ lines) ++ states =
    three ∙ ap (λ v. second ++ v) same ∙ ap (λ v. v ++ states) (two ∙ ap (λ v. v ++ lines) one) in (
      own ++ lines ++ states,
      record { between = m; who = who; own = own; turns = turns; takes = takes; hears = hears; whole = refl },
      joined ∙ append_assoc (old ++ own) lines states ∙ append_assoc old own (lines ++ states)
          ∙ ap (λ v. old ++ v) (sym (append_assoc own lines states)),
    )
