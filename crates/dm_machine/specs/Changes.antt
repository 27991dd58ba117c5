-- What a step may do to one connection: a finite table, and what it comes to in words.
use Rattle.std.specs.Prelude.{List, [], ◌∷◌, Contains}
use Rattle.dm_machine.specs.declared.inputs.Word.{Word}
use Rattle.dm_machine.specs.declared.inputs.Word.TheVariants.{Unreadable, Cer, CerRefused, Cea, Dwr}
use Rattle.dm_machine.specs.declared.inputs.Word.TheVariants.{DwrBad, Dwa, DwaBad, Dpr, DprBad, Dpa, Other}
use Rattle.dm_machine.specs.Connection.{Hold, NotHeld, Pending, Made, OpenAsI, ClosingAsI, Taken, OpenAsR}
use Rattle.dm_machine.specs.Connection.{ClosingAsR, Concern, NamesAnother, AsksStop, SaysTimeout, SaysTick}
use Rattle.dm_machine.specs.Connection.{AsksSubmit, StartsIt, AcksIt, NacksIt, EndsIt, HeardOnIt}
use Rattle.dm_machine.specs.Connection.{ConnOrder, Connects, SendsCer, SendsCea, SendsRefusal, SendsDwr}
use Rattle.dm_machine.specs.Connection.{SendsDwa, SendsDpr, SendsDpa, SendsSubmit, Closes, AtEachStep}

-- what the connection is then, and what it is ordered
pub record Change : Type 0 where
  pub next : Hold
  pub orders : List ConnOrder

abbrev pub changed_to : Hold → List ConnOrder → Change
changed_to next orders = record { next = next; orders = orders }

abbrev pub just : Hold → List ConnOrder → List Change
just next orders = changed_to next orders ∷ []

abbrev pub unchanged : Hold → List Change
unchanged h = just h []

abbrev pub given_up : List Change
given_up = just NotHeld (Closes ∷ [])

-- the input names another connection: the initiated one may lose an election, the accepted one may be left alone or
-- given up
abbrev pub at_another : Hold → List Change
at_another Made = changed_to Made [] ∷ given_up
at_another Taken = changed_to Taken [] ∷ changed_to OpenAsR (SendsCea ∷ []) ∷ given_up
at_another h = unchanged h

-- what is held outside the open states gets none: there a Stop or Submit is refused
abbrev pub at_stop : Hold → List Change
at_stop OpenAsI = just ClosingAsI (SendsDpr ∷ [])
at_stop OpenAsR = just ClosingAsR (SendsDpr ∷ [])
at_stop NotHeld = unchanged NotHeld
at_stop _ = []

abbrev pub at_submit : Hold → List Change
at_submit OpenAsI = just OpenAsI (SendsSubmit ∷ [])
at_submit OpenAsR = just OpenAsR (SendsSubmit ∷ [])
at_submit NotHeld = unchanged NotHeld
at_submit _ = []

abbrev pub at_timeout : Hold → List Change
at_timeout NotHeld = unchanged NotHeld
at_timeout OpenAsI = unchanged OpenAsI
at_timeout OpenAsR = unchanged OpenAsR
at_timeout _ = given_up

-- by the watchdog's count
abbrev pub at_tick : Hold → List Change
at_tick OpenAsI = changed_to OpenAsI (SendsDwr ∷ []) ∷ changed_to OpenAsI [] ∷ given_up
at_tick OpenAsR = changed_to OpenAsR (SendsDwr ∷ []) ∷ changed_to OpenAsR [] ∷ given_up
at_tick h = unchanged h

-- what is held gets none: outside Closed a Start is refused
abbrev pub at_start : Hold → List Change
at_start NotHeld = just Pending (Connects ∷ [])
at_start _ = []

-- the CER, and where the election is won at once the Close
abbrev pub at_ack : Hold → List Change
at_ack Pending = changed_to Made (SendsCer ∷ []) ∷ changed_to NotHeld (SendsCer ∷ Closes ∷ []) ∷ []
at_ack h = unchanged h

abbrev pub at_nack : Hold → List Change
at_nack Pending = just NotHeld []
at_nack h = unchanged h

abbrev pub at_end : Hold → List Change
at_end NotHeld = unchanged NotHeld
at_end Pending = just NotHeld []
at_end _ = given_up

-- the first message of a new connection, by what the node waits for
abbrev pub at_first_word : Word → List Change
at_first_word Cer = changed_to Taken [] ∷ changed_to OpenAsR (SendsCea ∷ []) ∷ given_up
at_first_word CerRefused = changed_to NotHeld (SendsRefusal ∷ Closes ∷ []) ∷ given_up
at_first_word _ = given_up

abbrev pub at_awaited_word : Word → List Change
at_awaited_word Cea = just OpenAsI []
at_awaited_word _ = given_up

-- a message on an open connection, which stays what it is to the node or becomes one that is closing
abbrev pub at_open_word : Hold → Hold → Word → List Change
at_open_word same closing Other = unchanged same
at_open_word same closing Dwr = just same (SendsDwa ∷ [])
at_open_word same closing Dwa = unchanged same
at_open_word same closing DwaBad = unchanged same
at_open_word same closing DwrBad = just same (SendsRefusal ∷ [])
at_open_word same closing DprBad = just same (SendsRefusal ∷ [])
at_open_word same closing Dpr = just closing (SendsDpa ∷ [])
at_open_word same closing _ = given_up

abbrev pub at_closing_word : Hold → Word → List Change
at_closing_word closing Dpa = given_up
at_closing_word closing Unreadable = given_up
at_closing_word closing Dpr = just closing (SendsDpa ∷ [])
at_closing_word closing _ = unchanged closing

abbrev pub at_word : Hold → Word → List Change
at_word NotHeld w = at_first_word w
at_word Pending w = unchanged Pending
at_word Made w = at_awaited_word w
at_word OpenAsI w = at_open_word OpenAsI ClosingAsI w
at_word ClosingAsI w = at_closing_word ClosingAsI w
at_word Taken w = given_up
at_word OpenAsR w = at_open_word OpenAsR ClosingAsR w
at_word ClosingAsR w = at_closing_word ClosingAsR w

-- the changes that a step may make, by how it concerns the connection and what that is to the node
abbrev pub allowed : Concern → Hold → List Change
allowed NamesAnother h = at_another h
allowed AsksStop h = at_stop h
allowed SaysTimeout h = at_timeout h
allowed SaysTick h = at_tick h
allowed AsksSubmit h = at_submit h
allowed StartsIt h = at_start h
allowed AcksIt h = at_ack h
allowed NacksIt h = at_nack h
allowed EndsIt h = at_end h
allowed (HeardOnIt w) h = at_word h w

-- every step changes every connection in a listed way
abbrev pub EachConnectionChangesAsAllowed : Type 0
EachConnectionChangesAsAllowed = AtEachStep
    (λ k before after orders. Contains (allowed k before) (changed_to after orders))
