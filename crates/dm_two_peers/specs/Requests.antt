-- Peers that match an answer with its request by its number (RFC 6733, 3), at the two exchanges that open and end a
-- connection: a CEA answers its CER, and a DPA its DPR [5.3 and 5.4].
use Rattle.std.specs.Prelude.{◌≡◌, ◌⊎◌, ℕ, Bool, true, false, ◌==◌, if◌then◌else◌, Option, Some, None, List, [], ◌∷◌}
use Rattle.std.specs.Prelude.{IsTrue, map}
use Rattle.std.specs.List.{list_any}
use Rattle.dm_machine.specs.Connection.{Hold, NotHeld, Pending, Made, Taken, hold_of}
use Rattle.dm_two_peers.specs.Machine.{conn, LinkConcern, StartsLink, MakesLink}
use Rattle.dm_two_peers.specs.Peers.{Event, ArrivedEvent, Action, Send, ActsBy, Peers, concern_by, deed_in, closes_at}
use Rattle.dm_two_peers.specs.Delivery.{is_closing_hold, is_unmade, IsCarrier}

-- what a peer waits for: the number of its CER whose CEA it awaits, that of its DPR whose DPA it awaits, and that of
-- the CER whose CEA it owes; which messages those are, by their numbers; and whether a message may be a DPR of any
-- number
pub record Requests (P M : Type 0) : Type 0 where
  pub cea_of : P → Option ℕ
  pub dpa_of : P → Option ℕ
  pub cer_of : P → Option ℕ
  pub is_cer : ℕ → M → Bool
  pub is_cea : ℕ → M → Bool
  pub is_dpr : ℕ → M → Bool
  pub is_dpa : ℕ → M → Bool
  pub asks_end : M → Bool

-- the message that an event brings on a link
abbrev pub heard_on : {M : Type 0} → ℕ → Event M → Option M
heard_on c (ArrivedEvent d x) = if d.0 == c then Some x else None
heard_on c _ = None

-- what is sent on a link
abbrev pub sent_on : {M : Type 0} → ℕ → List (Action M) → List M
sent_on c [] = []
sent_on c (Send d x ∷ actions) = if d.0 == c then x ∷ sent_on c actions else sent_on c actions
sent_on c (_ ∷ actions) = sent_on c actions

-- the node is closing on the connection, and awaits the DPA of a DPR
pub record IsEnding {P M : Type 0} (r : Requests P M) (p : P) (h : Hold) : Type 0 where
  pub closing : is_closing_hold h ≡ true
  pub number : ℕ
  pub awaited : r.dpa_of p ≡ Some number

-- the CEA is awaited as before: nothing is sent, and what came isn't that CEA
pub record StillAwaits {P M : Type 0} (r : Requests P M) (p next : P) (before : Hold) (heard : Option M)
    (sent : List M) : Type 0 where
  pub made : before ≡ Made
  pub number : r.cea_of next ≡ r.cea_of p
  pub silent : sent ≡ []
  pub apart : (x : M) (n : ℕ) → heard ≡ Some x → r.cea_of p ≡ Some n → r.is_cea n x ≡ true → ⊥

-- the CER goes out, and its CEA is awaited
pub record AsksCea {P M : Type 0} (r : Requests P M) (next : P) (sent : List M) : Type 0 where
  pub number : ℕ
  pub cer : M
  pub awaited : r.cea_of next ≡ Some number
  pub sends : sent ≡ cer ∷ []
  pub is : r.is_cer number cer ≡ true

-- a CER waits for its CEA, or that goes out
pub data Owes {P M : Type 0} (r : Requests P M) (next : P) (after : Hold) (sent : List M) (n : ℕ) : Type 0 where
  waits : after ≡ Taken → r.cer_of next ≡ Some n → sent ≡ [] → Owes r next after sent n
  gives : (y : M) → sent ≡ y ∷ [] → r.is_cea n y ≡ true → Owes r next after sent n

-- the DPA is awaited as before, and what came isn't it; or its DPR goes out
pub data AwaitsEnd {P M : Type 0} (r : Requests P M) (p : P) (before : Hold) (heard : Option M) (sent : List M)
    (n : ℕ) : Type 0 where
  still : is_closing_hold before ≡ true → r.dpa_of p ≡ Some n →
      ((x : M) → heard ≡ Some x → r.is_dpa n x ≡ true → ⊥) → AwaitsEnd r p before heard sent n
  asks : list_any (r.is_dpr n) sent ≡ true → AwaitsEnd r p before heard sent n

-- what may be a DPR was heard
pub record HeardEnd {P M : Type 0} (r : Requests P M) (heard : Option M) : Type 0 where
  pub message : M
  pub came : heard ≡ Some message
  pub ends : r.asks_end message ≡ true

-- what an event does to a connection that isn't closed at it, by how it concerns it
pub record MatchesOn {P M : Type 0} (r : Requests P M) (p next : P) (before after : Hold) (k : LinkConcern)
    (heard : Option M) (sent : List M) : Type 0 where
  -- a connection is made by its Ack, and then the CER goes out; else it was so before
  pub asks : before ≡ Pending → k ≡ MakesLink → after ≡ Made → AsksCea r next sent
  pub awaits : (before ≡ Pending → k ≡ MakesLink → ⊥) → after ≡ Made → StillAwaits r p next before heard sent
  -- nothing is made of a new connection on which nothing comes
  pub rests : before ≡ NotHeld → heard ≡ None → (k ≡ StartsLink → ⊥) → (after ≡ NotHeld) × (sent ≡ [])
  -- a CER that comes first waits for its CEA, and so it does until that goes out
  pub takes : before ≡ NotHeld → (x : M) (n : ℕ) → heard ≡ Some x → r.is_cer n x ≡ true → Owes r next after sent n
  pub owes : before ≡ Taken → (n : ℕ) → r.cer_of p ≡ Some n → Owes r next after sent n
  -- a node that awaits a DPA does so from its DPR on, and until it comes
  pub ends : is_closing_hold after ≡ true → (n : ℕ) → r.dpa_of next ≡ Some n → AwaitsEnd r p before heard sent n
  pub stays : is_closing_hold before ≡ true → (n : ℕ) → r.dpa_of p ≡ Some n → (is_closing_hold after ≡ true) ×
      (r.dpa_of next ≡ Some n)
  -- one that closes and awaits none heard a DPR
  pub ended : is_closing_hold after ≡ true → r.dpa_of next ≡ None →
      ((is_closing_hold before ≡ true) × (r.dpa_of p ≡ None)) ⊎ HeardEnd r heard
  -- a DPR that comes is answered, and none is sent but by a node that awaits its DPA then
  pub answers : (x : M) (n : ℕ) → heard ≡ Some x → is_unmade before ≡ false → r.is_dpr n x ≡ true →
      list_any (r.is_dpa n) sent ≡ true
  pub says : list_any r.asks_end sent ≡ true → IsEnding r next after

-- peers that do so at every event, as every list of events leaves them
pub record AnswersMatch {P M : Type 0} (m : Peers P M) (r : Requests P M) (stands : P → Bool) : Type 0 where
  pub matches : (p next : P) (e : Event M) (actions : List (Action M)) (c : ℕ) → IsCarrier m stands p →
      m.reply p e ≡ ActsBy actions next → closes_at c (map deed_in actions) ≡ false →
      MatchesOn r p next (hold_of (m.node_of p) (conn c)) (hold_of (m.node_of next) (conn c)) (concern_by e (conn c))
      (heard_on c e) (sent_on c actions)
  pub keeps : (p next : P) (e : Event M) (actions : List (Action M)) → IsCarrier m stands p →
      m.reply p e ≡ ActsBy actions next → IsTrue (stands next)
  pub resets : (p : P) → IsCarrier m stands p → IsTrue (stands (m.reset p))
