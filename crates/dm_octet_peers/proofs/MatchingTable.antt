-- What a step orders a connection that it doesn't close, and what that becomes: checked at every change that is allowed.
use Rattle.std.proofs.Common.{◌≡◌, ℕ, Bool, true, false, not, ◌&&◌, ◌||◌, List, [], ◌∷◌, refl, subst}
use Rattle.std.specs.Prelude.{Contains}
use Rattle.std.specs.List.{list_all}
use Rattle.std.proofs.lemmas.Bool.{and_parts}
use Rattle.std.proofs.lemmas.List.Elements.{All-contains}
use Rattle.std.proofs.lemmas.List.Sums.{AllPass-from_list_all}
use Rattle.dm_machine.specs.declared.inputs.Input.{Input}
use Rattle.dm_machine.specs.declared.inputs.Word.TheVariants as word
use Rattle.dm_machine.specs.declared.outputs.Command.{Command}
use Rattle.dm_machine.specs.Node.{Node, is_shaped}
use Rattle.dm_machine.specs.Connection.{Hold, ConnOrder, hold_of, orders_to, AtConnection, Concern, concern_of}
use Rattle.dm_machine.specs.Connection as machine
use Rattle.dm_machine.specs.Openings.{is_hold, is_order, has_order}
use Rattle.dm_machine.specs.Changes.{Change, changed_to, allowed, EachConnectionChangesAsAllowed}
use Rattle.dm_machine.specs.Moves as moves
use Rattle.dm_machine.specs.Moves.{machine_outcome}
use Rattle.dm_two_peers.specs.Machine.{conn}
use Rattle.dm_two_peers.specs.Delivery.{is_closing_hold}
use Rattle.dm_machine.specs.Upward.{is_open_hold}

abbrev pub is_ack : Concern → Bool
is_ack machine.AcksIt = true
is_ack _ = false

abbrev pub is_start : Concern → Bool
is_start machine.StartsIt = true
is_start _ = false

abbrev pub is_stop : Concern → Bool
is_stop machine.AsksStop = true
is_stop _ = false

abbrev pub is_submit : Concern → Bool
is_submit machine.AsksSubmit = true
is_submit _ = false

abbrev pub brings_word : Concern → Bool
brings_word (machine.HeardOnIt w) = true
brings_word _ = false

abbrev pub brings_cer : Concern → Bool
brings_cer (machine.HeardOnIt word.Cer) = true
brings_cer _ = false

abbrev pub brings_dpr : Concern → Bool
brings_dpr (machine.HeardOnIt word.Dpr) = true
brings_dpr _ = false

abbrev pub brings_dpa : Concern → Bool
brings_dpa (machine.HeardOnIt word.Dpa) = true
brings_dpa _ = false

abbrev pub is_silent : List ConnOrder → Bool
is_silent [] = true
is_silent _ = false

abbrev pub just_one : ConnOrder → List ConnOrder → Bool
just_one o (p ∷ []) = is_order o p
just_one o _ = false

abbrev pub if_then : Bool → Bool → Bool
if_then a b = not a || b

-- what is made is so by its Ack, with the CER, or was so, and is ordered nothing, nor does a message come on it
abbrev pub made_well : Concern → Hold → Change → Bool
made_well k h x =
    if_then (is_hold machine.Made x.next)
    ((is_hold machine.Made h && (is_silent x.orders && not (brings_word k)))
    || (is_hold machine.Pending h && (is_ack k && just_one machine.SendsCer x.orders)))

-- a new connection: nothing becomes of it but by a CER, and that waits or is answered
abbrev pub rests_well : Concern → Hold → Change → Bool
rests_well k h x =
    if_then (is_hold machine.NotHeld h && not (brings_word k || is_start k))
    (is_hold machine.NotHeld x.next && is_silent x.orders)

abbrev pub takes_well : Concern → Hold → Change → Bool
takes_well k h x =
    if_then (is_hold machine.NotHeld h && brings_word k)
    (brings_cer k && ((is_hold machine.Taken x.next && is_silent x.orders) || just_one machine.SendsCea x.orders))

abbrev pub owes_well : Concern → Hold → Change → Bool
owes_well k h x =
    if_then (is_hold machine.Taken h)
    ((is_hold machine.Taken x.next && is_silent x.orders) || just_one machine.SendsCea x.orders)

-- closing: it was so, or by a Stop, with the DPR, or by a DPR, with the DPA
abbrev pub closes_well : Concern → Hold → Change → Bool
closes_well k h x =
    if_then (is_closing_hold x.next)
    ((is_closing_hold h && not (brings_dpa k))
    || (is_open_hold h && ((is_stop k && just_one machine.SendsDpr x.orders)
    || (brings_dpr k && just_one machine.SendsDpa x.orders))))

abbrev pub stays_well : Hold → Change → Bool
stays_well h x = if_then (is_closing_hold h) (is_closing_hold x.next)

abbrev pub answers_well : Concern → Hold → Change → Bool
answers_well k h x = if_then (brings_dpr k && not (is_hold machine.Pending h)) (just_one machine.SendsDpa x.orders)

abbrev pub says_well : Concern → Hold → Change → Bool
says_well k h x =
    if_then (has_order machine.SendsDpr x.orders) (is_stop k && (is_open_hold h && is_closing_hold x.next))
    && if_then (has_order machine.SendsSubmit x.orders) (is_submit k)

abbrev is_well : Concern → Hold → Change → Bool
is_well k h x =
    has_order machine.Closes x.orders
    || (made_well k h x && (rests_well k h x && (takes_well k h x && (owes_well k h x && (closes_well k h x
    && (stays_well h x && (answers_well k h x && says_well k h x)))))))

abbrev all_well : Concern → Hold → Bool
all_well k h = list_all (is_well k h) (allowed k h)

-- every hold, every concern
abbrev each_hold : (Hold → Bool) → Bool
each_hold f =
    f machine.NotHeld && (f machine.Pending && (f machine.Made && (f machine.OpenAsI && (f machine.ClosingAsI
    && (f machine.Taken && (f machine.OpenAsR && f machine.ClosingAsR))))))

checked_of : (k : Concern) → each_hold (all_well k) ≡ true
checked_of machine.NamesAnother = refl
checked_of machine.AsksStop = refl
checked_of machine.SaysTimeout = refl
checked_of machine.SaysTick = refl
checked_of machine.AsksSubmit = refl
checked_of machine.StartsIt = refl
checked_of machine.AcksIt = refl
checked_of machine.NacksIt = refl
checked_of machine.EndsIt = refl
checked_of (machine.HeardOnIt word.Unreadable) = refl
checked_of (machine.HeardOnIt word.Cer) = refl
checked_of (machine.HeardOnIt word.CerRefused) = refl
checked_of (machine.HeardOnIt word.Cea) = refl
checked_of (machine.HeardOnIt word.CeaFailed) = refl
checked_of (machine.HeardOnIt word.Dwr) = refl
checked_of (machine.HeardOnIt word.DwrBad) = refl
checked_of (machine.HeardOnIt word.Dwa) = refl
checked_of (machine.HeardOnIt word.DwaBad) = refl
checked_of (machine.HeardOnIt word.Dpr) = refl
checked_of (machine.HeardOnIt word.DprBad) = refl
checked_of (machine.HeardOnIt word.Dpa) = refl
checked_of (machine.HeardOnIt word.DpaBad) = refl
checked_of (machine.HeardOnIt word.Other) = refl

left : (a b : Bool) → (a && b) ≡ true → a ≡ true
left a b h = (and_parts a b h).0

right : (a b : Bool) → (a && b) ≡ true → b ≡ true
right a b h = (and_parts a b h).1

hold_at : (f : Hold → Bool) → each_hold f ≡ true → (h : Hold) → f h ≡ true
hold_at f e machine.NotHeld = left (f machine.NotHeld) _ e
hold_at f e machine.Pending = left (f machine.Pending) _ (right (f machine.NotHeld) _ e)
hold_at f e machine.Made = left (f machine.Made) _ (right (f machine.Pending) _ (right (f machine.NotHeld) _ e))
hold_at f e machine.OpenAsI =
    left (f machine.OpenAsI) _ (right (f machine.Made) _ (right (f machine.Pending) _ (right (f machine.NotHeld) _ e)))
hold_at f e machine.ClosingAsI =
    left (f machine.ClosingAsI) _ (right (f machine.OpenAsI) _ (right (f machine.Made) _ (right (f machine.Pending) _
    (right (f machine.NotHeld) _ e))))
hold_at f e machine.Taken =
    left (f machine.Taken) _ (right (f machine.ClosingAsI) _ (right (f machine.OpenAsI) _ (right (f machine.Made) _
    (right (f machine.Pending) _ (right (f machine.NotHeld) _ e)))))
hold_at f e machine.OpenAsR =
    left (f machine.OpenAsR) _ (right (f machine.Taken) _ (right (f machine.ClosingAsI) _ (right (f machine.OpenAsI) _
    (right (f machine.Made) _ (right (f machine.Pending) _ (right (f machine.NotHeld) _ e))))))
hold_at f e machine.ClosingAsR =
    right (f machine.OpenAsR) _ (right (f machine.Taken) _ (right (f machine.ClosingAsI) _
    (right (f machine.OpenAsI) _ (right (f machine.Made) _ (right (f machine.Pending) _
    (right (f machine.NotHeld) _ e))))))

-- a step that doesn't close the connection
pub record IsWell (k : Concern) (h : Hold) (x : Change) : Type 0 where
  pub made : made_well k h x ≡ true
  pub rests : rests_well k h x ≡ true
  pub takes : takes_well k h x ≡ true
  pub owes : owes_well k h x ≡ true
  pub closes : closes_well k h x ≡ true
  pub stays : stays_well h x ≡ true
  pub answers : answers_well k h x ≡ true
  pub says : says_well k h x ≡ true

unclosed : (a b : Bool) → (a || b) ≡ true → a ≡ false → b ≡ true
unclosed true b h e = cc
unclosed false b h e = h

pub step_is_well : EachConnectionChangesAsAllowed → (n next : Node) (i : Input) (wins : Bool) (c : ℕ)
    (commands : List Command) → is_shaped n ≡ true → machine_outcome n i wins ≡ moves.NodeMoved commands next →
    has_order machine.Closes (orders_to (conn c) commands) ≡ false →
    IsWell (concern_of i (conn c)) (hold_of n (conn c)) (changed_to (hold_of next (conn c)) (orders_to (conn c) commands))
step_is_well changes n next i wins c commands shaped is open_still =
    let k = concern_of i (conn c) in
    let h = hold_of n (conn c) in
    let x = changed_to (hold_of next (conn c)) (orders_to (conn c) commands) in
    let there : Contains (allowed k h) x =
    subst (λ (o : moves.NodeOutcome). AtConnection (λ j b a os. Contains (allowed j b) (changed_to a os)) n i (conn c) o) is
    (changes n i wins (conn c) shaped) in
    let well : is_well k h x ≡ true =
    All-contains (λ y. is_well k h y ≡ true) (allowed k h) x
    (AllPass-from_list_all (is_well k h) (allowed k h) (hold_at (all_well k) (checked_of k) h)) there in
    let a = unclosed (has_order machine.Closes x.orders) _ well open_still in
    let b = and_parts (made_well k h x) _ a in
    let c1 = and_parts (rests_well k h x) _ b.1 in
    let d = and_parts (takes_well k h x) _ c1.1 in
    let e = and_parts (owes_well k h x) _ d.1 in
    let f = and_parts (closes_well k h x) _ e.1 in
    let g = and_parts (stays_well h x) _ f.1 in
    let j = and_parts (answers_well k h x) _ g.1 in
    record {
      made = b.0;
      rests = c1.0;
      takes = d.0;
      owes = e.0;
      closes = f.0;
      stays = g.0;
      answers = j.0;
      says = j.1;
    }
