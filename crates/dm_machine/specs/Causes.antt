-- What brings a connection to what it is to a node: an event, and what it was.
use Rattle.std.specs.Prelude.{◌≡◌, ◌⊎◌, ⊤, true, List}
use Rattle.dm_machine.specs.declared.inputs.Word.TheVariants.{Cer, Cea}
use Rattle.dm_machine.specs.Connection.{Hold, NotHeld, Pending, Made, OpenAsI, Taken, OpenAsR, Concern}
use Rattle.dm_machine.specs.Connection.{AcksIt, HeardOnIt, ConnOrder, SendsCer, SendsCea, AtEachStep}
use Rattle.dm_machine.specs.Openings.{has_order}

-- it was so, or it has become so: an accepted connection by a good CER, R-Open by the CEA that is sent to it at once or
-- later, the initiated one by its Ack, at which the CER goes out, I-Open by a good CEA
abbrev pub IsCaused : Concern → Hold → Hold → List ConnOrder → Type 0
IsCaused k before OpenAsR orders =
    (before ≡ OpenAsR)
    ⊎ ((has_order SendsCea orders ≡ true) × ((before ≡ Taken) ⊎ ((before ≡ NotHeld) × (k ≡ HeardOnIt Cer))))
IsCaused k before Taken orders = (before ≡ Taken) ⊎ ((before ≡ NotHeld) × (k ≡ HeardOnIt Cer))
IsCaused k before OpenAsI orders = (before ≡ OpenAsI) ⊎ ((before ≡ Made) × (k ≡ HeardOnIt Cea))
IsCaused k before Made orders =
    (before ≡ Made) ⊎ ((before ≡ Pending) × (k ≡ AcksIt) × (has_order SendsCer orders ≡ true))
IsCaused k before after orders = ⊤

abbrev pub EachHoldIsCaused : Type 0
EachHoldIsCaused = AtEachStep IsCaused
