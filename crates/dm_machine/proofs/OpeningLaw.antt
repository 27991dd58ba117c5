-- What the listed changes come to: each fact is computed at every one of them.
use Rattle.std.proofs.Common.{◌≡◌, Bool, true, false, not, ◌&&◌, IsTrue, List, [], ◌∷◌, refl}
use Rattle.std.proofs.lemmas.Bool.{and_parts}
use Rattle.std.proofs.lemmas.List.Elements.{All-contains}
use Rattle.std.proofs.lemmas.List.Sums.{AllPass-from_list_all}
use Rattle.std.specs.List.{list_all}
use Rattle.std.specs.Prelude.{Contains}
use Rattle.dm_machine.specs.declared.connection.Conn.{Conn}
use Rattle.dm_machine.specs.declared.inputs.Input.{Input}
use Rattle.dm_machine.specs.Node.{Node}
use Rattle.dm_machine.specs.Moves.{NodeOutcome, NodeMoved, NodeRefused, machine_outcome}
use Rattle.dm_machine.specs.Connection.{Hold, NotHeld, Pending, Made, OpenAsI, ClosingAsI, Taken, OpenAsR, ClosingAsR, Concern, NamesAnother, AsksStop, SaysTimeout, SaysTick, AsksSubmit, StartsIt, AcksIt, NacksIt, EndsIt, HeardOnIt, hold_of, concern_of, ConnOrder, SendsCer, SendsCea, Closes, orders_to, AtConnection, AtEachStep}
use Rattle.dm_machine.specs.Changes.{Change, changed_to, allowed}
use Rattle.dm_machine.specs.Openings.{is_hold, has_order, is_entered, is_ack, is_good_cea, names_it, is_left_unclosed, OpensAcceptedWithCea, OpensInitiatedAtCea, SendsCerAtAck, ClosesWhatItGivesUp, LeavesOthersAlone, ends_in_close, EndsAtClose}
use Rattle.dm_machine.specs.EachStep.{all_words, everywhere}
use Rattle.dm_machine.proofs.Every.{at, at_word}
use Rattle.dm_machine.proofs.Steps.{when, is_when}
use Rattle.dm_machine.proofs.ChangeLemmas.{same_hold, are_orders, same_orders}
use Rattle.dm_machine.proofs.ConnectionLaw.{each_connection}

abbrev holds : List Hold
holds = NotHeld ∷ Pending ∷ Made ∷ OpenAsI ∷ ClosingAsI ∷ Taken ∷ OpenAsR ∷ ClosingAsR ∷ []

at_hold : (f : Hold → Bool) → everywhere f holds ≡ true → (h : Hold) → f h ≡ true
at_hold f e NotHeld = at f holds 0 e
at_hold f e Pending = at f holds 1 e
at_hold f e Made = at f holds 2 e
at_hold f e OpenAsI = at f holds 3 e
at_hold f e ClosingAsI = at f holds 4 e
at_hold f e Taken = at f holds 5 e
at_hold f e OpenAsR = at f holds 6 e
at_hold f e ClosingAsR = at f holds 7 e

-- how an input concerns a connection, but for messages
abbrev concerns : List Concern
concerns = NamesAnother ∷ AsksStop ∷ SaysTimeout ∷ SaysTick ∷ AsksSubmit ∷ StartsIt ∷ AcksIt ∷ NacksIt ∷ EndsIt ∷ []

abbrev every_concern : (Concern → Bool) → Bool
every_concern f = everywhere f concerns && everywhere (λ w. f (HeardOnIt w)) all_words

at_concern : (f : Concern → Bool) → every_concern f ≡ true → (k : Concern) → f k ≡ true
at_concern f e = by (and_parts (everywhere f concerns) (everywhere (λ w. f (HeardOnIt w)) all_words) e) where
  by : (everywhere f concerns ≡ true) × (everywhere (λ w. f (HeardOnIt w)) all_words ≡ true)
      → (k : Concern) → f k ≡ true
  by p NamesAnother = at f concerns 0 p.0
  by p AsksStop = at f concerns 1 p.0
  by p SaysTimeout = at f concerns 2 p.0
  by p SaysTick = at f concerns 3 p.0
  by p AsksSubmit = at f concerns 4 p.0
  by p StartsIt = at f concerns 5 p.0
  by p AcksIt = at f concerns 6 p.0
  by p NacksIt = at f concerns 7 p.0
  by p EndsIt = at f concerns 8 p.0
  by p (HeardOnIt w) = at_word (λ v. f (HeardOnIt v)) p.1 w

-- a fact of each listed change, by how it concerns the connection and what that was
abbrev pub OfListed : (Concern → Hold → Change → Type 0) → Type 0
OfListed P = (k : Concern) (h : Hold) (x : Change) → Contains (allowed k h) x → P k h x

abbrev pub ChangeTest : Type 0
ChangeTest = Concern → Hold → Change → Bool

abbrev pub every_change : ChangeTest → Bool
every_change test = every_concern (λ k. everywhere (λ h. list_all (test k h) (allowed k h)) holds)

pub passes : (test : ChangeTest) → every_change test ≡ true → OfListed (λ k h x. test k h x ≡ true)
passes test e k h x m =
    let at_k = at_concern (λ j. everywhere (λ g. list_all (test j g) (allowed j g)) holds) e k in
    let at_h = at_hold (λ g. list_all (test k g) (allowed k g)) at_k h in
    All-contains (λ y. test k h y ≡ true) (allowed k h) x (AllPass-from_list_all (test k h) (allowed k h) at_h) m

-- a fact of how a step looks from one connection
abbrev pub Fact : Type 1
Fact = Concern → Hold → Hold → List ConnOrder → Type 0

from_outcome : (P : Fact) → OfListed (λ k h x. P k h x.next x.orders) →
    (n : Node) (i : Input) (c : Conn) (o : NodeOutcome) →
    AtConnection (λ k before after orders. Contains (allowed k before) (changed_to after orders)) n i c o →
    AtConnection P n i c o
from_outcome P f n i c (NodeRefused r) m = tt
from_outcome P f n i c (NodeMoved commands next) m =
    f (concern_of i c) (hold_of n c) (changed_to (hold_of next c) (orders_to c commands)) m

-- what holds of each listed change holds of each connection at each step
pub from_changes : (P : Fact) → OfListed (λ k h x. P k h x.next x.orders) → AtEachStep P
from_changes P f n i wins c h = from_outcome P f n i c (machine_outcome n i wins) (each_connection n i wins c h)

-- that two tests agree, as one
abbrev pub agree : Bool → Bool → Bool
agree true b = b
agree false b = not b

agreed : (a b : Bool) → agree a b ≡ true → a ≡ b
agreed true true e = refl
agreed false false e = refl
agreed true false e = cc
agreed false true e = cc

abbrev pub SeenTest : Type 0
SeenTest = Concern → Hold → Hold → List ConnOrder → Bool

abbrev pub agree_at : SeenTest → SeenTest → ChangeTest
agree_at f g k h x = agree (f k h x.next x.orders) (g k h x.next x.orders)

-- two tests that agree at each listed change agree at each step
pub from_agreed : (f g : SeenTest) → every_change (agree_at f g) ≡ true →
    AtEachStep (λ k before after orders. f k before after orders ≡ g k before after orders)
from_agreed f g e = from_changes (λ k before after orders. f k before after orders ≡ g k before after orders)
    (λ k h x m. agreed (f k h x.next x.orders) (g k h x.next x.orders) (passes (agree_at f g) e k h x m))

abbrev enters_open_as_r : SeenTest
enters_open_as_r k before after orders = is_entered OpenAsR before after

abbrev enters_open_as_i : SeenTest
enters_open_as_i k before after orders = is_entered OpenAsI before after

abbrev has_cea : SeenTest
has_cea k before after orders = has_order SendsCea orders

abbrev is_answered : SeenTest
is_answered k before after orders = is_good_cea k && is_hold Made before

abbrev has_cer : SeenTest
has_cer k before after orders = has_order SendsCer orders

abbrev is_made : SeenTest
is_made k before after orders = is_ack k && is_hold Pending before

abbrev has_close : SeenTest
has_close k before after orders = has_order Closes orders

abbrev is_gone : SeenTest
is_gone k before after orders = is_hold NotHeld after && not (is_left_unclosed k before)

pub accepted : OpensAcceptedWithCea
unfolding everywhere
accepted = from_agreed enters_open_as_r has_cea refl

pub initiated : OpensInitiatedAtCea
unfolding everywhere
initiated = from_agreed enters_open_as_i is_answered refl

pub asked : SendsCerAtAck
unfolding everywhere
asked = from_agreed has_cer is_made refl

pub closed : ClosesWhatItGivesUp
unfolding everywhere
closed = from_agreed has_close is_gone refl

abbrev is_other : Concern → Hold → Bool
is_other k h = is_hold NotHeld h && not (names_it k)

abbrev leaves_alone : ChangeTest
leaves_alone k h x = when (is_other k h) (is_hold x.next NotHeld && are_orders x.orders [])

left_checked : every_change leaves_alone ≡ true
unfolding everywhere
left_checked = refl

left_alone : OfListed (λ k h x. IsTrue (is_other k h) → (x.next ≡ NotHeld) × (x.orders ≡ []))
left_alone k h x m other =
    let stays = is_hold x.next NotHeld && are_orders x.orders [] in
    let both = is_when (is_other k h) stays (passes leaves_alone left_checked k h x m) other in
    let parts = and_parts (is_hold x.next NotHeld) (are_orders x.orders []) both in
    (same_hold x.next NotHeld parts.0, same_orders x.orders [] parts.1)

pub alone : LeavesOthersAlone
alone = from_changes (λ k before after orders. IsTrue (is_other k before) → (after ≡ NotHeld) × (orders ≡ []))
    left_alone

abbrev nothing_follows : SeenTest
nothing_follows k before after orders = ends_in_close orders

abbrev pub is_any : SeenTest
is_any k before after orders = true

pub last : EndsAtClose
unfolding everywhere
last = from_agreed nothing_follows is_any refl
