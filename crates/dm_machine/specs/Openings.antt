-- What the changes of a connection come to in words: how it is opened, when its CER goes out, when it is closed, what
-- ends there, and when it is left alone.
use Rattle.std.specs.Prelude.{◌≡◌, ℕ, Bool, true, false, not, ◌&&◌, ◌==◌, List, [], ◌∷◌, IsTrue}
use Rattle.std.specs.List.{list_any}
use Rattle.dm_machine.specs.declared.inputs.Word.TheVariants.{Cea}
use Rattle.dm_machine.specs.Connection.{Hold, NotHeld, Pending, Made, OpenAsI, ClosingAsI, Taken, OpenAsR}
use Rattle.dm_machine.specs.Connection.{ClosingAsR, Concern, StartsIt, AcksIt, NacksIt, EndsIt, HeardOnIt}
use Rattle.dm_machine.specs.Connection.{ConnOrder, Connects, SendsCer, SendsCea, SendsRefusal, SendsDwr}
use Rattle.dm_machine.specs.Connection.{SendsDwa, SendsDpr, SendsDpa, SendsSubmit, Closes, AtEachStep}

-- what a connection is, and orders, are told apart by their numbers
abbrev pub hold_code : Hold → ℕ
hold_code NotHeld = 0
hold_code Pending = 1
hold_code Made = 2
hold_code OpenAsI = 3
hold_code ClosingAsI = 4
hold_code Taken = 5
hold_code OpenAsR = 6
hold_code ClosingAsR = 7

abbrev pub is_hold : Hold → Hold → Bool
is_hold h k = hold_code h == hold_code k

abbrev pub order_code : ConnOrder → ℕ
order_code Connects = 0
order_code SendsCer = 1
order_code SendsCea = 2
order_code SendsRefusal = 3
order_code SendsDwr = 4
order_code SendsDwa = 5
order_code SendsDpr = 6
order_code SendsDpa = 7
order_code SendsSubmit = 8
order_code Closes = 9

abbrev pub is_order : ConnOrder → ConnOrder → Bool
is_order o p = order_code o == order_code p

abbrev pub has_order : ConnOrder → List ConnOrder → Bool
has_order o orders = list_any (is_order o) orders

-- what a connection was not, it is
abbrev pub is_entered : Hold → Hold → Hold → Bool
is_entered h before after = not (is_hold h before) && is_hold h after

abbrev pub is_ack : Concern → Bool
is_ack AcksIt = true
is_ack _ = false

abbrev pub is_good_cea : Concern → Bool
is_good_cea (HeardOnIt Cea) = true
is_good_cea _ = false

abbrev pub names_it : Concern → Bool
names_it StartsIt = true
names_it AcksIt = true
names_it NacksIt = true
names_it EndsIt = true
names_it (HeardOnIt w) = true
names_it _ = false

-- what isn't held afterwards and yet isn't closed: a pending connection at its Nack or its end, and one that wasn't
-- held and isn't heard from
abbrev pub is_left_unclosed : Concern → Hold → Bool
is_left_unclosed (HeardOnIt w) h = false
is_left_unclosed k NotHeld = true
is_left_unclosed NacksIt Pending = true
is_left_unclosed EndsIt Pending = true
is_left_unclosed k h = false

-- R-Open is entered on a connection exactly where its CEA is sent
abbrev pub OpensAcceptedWithCea : Type 0
OpensAcceptedWithCea = AtEachStep (λ k before after orders. is_entered OpenAsR before after ≡ has_order SendsCea orders)

-- I-Open is entered on a connection exactly where its good CEA is heard
abbrev pub OpensInitiatedAtCea : Type 0
OpensInitiatedAtCea =
    AtEachStep (λ k before after orders. is_entered OpenAsI before after ≡ (is_good_cea k && is_hold Made before))

-- a CER is sent exactly at the Ack of a pending connection
abbrev pub SendsCerAtAck : Type 0
SendsCerAtAck = AtEachStep (λ k before after orders. has_order SendsCer orders ≡ (is_ack k && is_hold Pending before))

-- a connection is closed exactly where it isn't held afterwards, but for what is left unclosed
abbrev pub ClosesWhatItGivesUp : Type 0
ClosesWhatItGivesUp =
    AtEachStep (λ k before after orders.
    has_order Closes orders ≡ (is_hold NotHeld after && not (is_left_unclosed k before)))

-- a connection that isn't held and isn't named stays so and is ordered nothing
abbrev pub LeavesOthersAlone : Type 0
LeavesOthersAlone =
    AtEachStep (λ k before after orders.
    IsTrue (is_hold NotHeld before && not (names_it k)) → (after ≡ NotHeld) × (orders ≡ []))

-- nothing is ordered behind a Close
abbrev pub ends_in_close : List ConnOrder → Bool
ends_in_close [] = true
ends_in_close (Closes ∷ []) = true
ends_in_close (Closes ∷ more) = false
ends_in_close (o ∷ more) = ends_in_close more

-- a connection that is closed is ordered nothing more at that step
abbrev pub EndsAtClose : Type 0
EndsAtClose = AtEachStep (λ k before after orders. ends_in_close orders ≡ true)
