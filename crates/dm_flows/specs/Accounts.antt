-- Where each octet is that came in one direction of a connection.
use Rattle.std.specs.Prelude.{◌≡◌, ◌⊎◌, ℕ, suc, ◌+◌, ◌-◌, ◌^◌, min, cond, Option, None, Some, is_some}
use Rattle.std.specs.Prelude.{List, [], ◌∷◌, ◌++◌, length}
use Rattle.std.specs.List.{concat}
use Rattle.dm_flows.specs.declared.closing.Closing.{Closing}
use Rattle.dm_flows.specs.Flows.{FlowState, new_flow, with_more_passed, known_waiting, begun_by_syn, begun_unseen}
use Rattle.dm_flows.specs.Flows.{FlowTakes, BeginsAnew, HandsMessage, HandsNoMessage}
use Rattle.dm_flows.specs.Windows.{WindowState, slot, arrival_from}

-- of octets, of which the first goes into this slot, how many find theirs filled
abbrev pub known_among : List (Option ℕ) → ℕ → List ℕ → ℕ
known_among held at [] = 0
known_among held at (x ∷ s) = cond (is_some (slot held at)) 1 0 + known_among held (suc at) s

-- of octets that come, how many are repetitions: those before the next number, and those that find theirs there
abbrev pub repeated_at : WindowState → ℕ → List ℕ → ℕ
repeated_at window number s =
    let came = arrival_from window.next number s in
    length s - length came.octets + known_among window.held came.at came.octets

abbrev pub repeated_in : Option WindowState → ℕ → List ℕ → ℕ
repeated_in None number s = 0
repeated_in (Some window) number s = repeated_at window number s

-- all that happened: the direction as it is, how many octets of payloads came, how many of them were repetitions, and
-- the messages that were handed out
pub record Account : Type 0 where
  pub flow : FlowState
  pub came : ℕ
  pub repeated : ℕ
  pub messages : List (List ℕ)

abbrev pub begun_account : ℕ → Account
begun_account max = record { flow = new_flow max; came = 0; repeated = 0; messages = [] }

-- so many octets came, so many of them repetitions, and no message was handed out
pub record Brings (old new : Account) (octets repetitions : ℕ) : Type 0 where
  pub came : new.came ≡ old.came + octets
  pub repeated : new.repeated ≡ old.repeated + repetitions
  pub messages : new.messages ≡ old.messages

-- octets were taken in a stream whose place is known
pub record BringsOctets (old new : Account) : Type 0 where
  pub number : ℕ
  pub octets : List ℕ
  pub goes : FlowTakes old.flow number octets new.flow
  pub brings : Brings old new (length octets) (repeated_in old.flow.window number octets)

-- octets came where it isn't known
pub record BringsFront (old new : Account) : Type 0 where
  pub number : ℕ
  pub octets : List ℕ
  pub begins : BeginsAnew old.flow number octets new.flow
  pub brings : Brings old new (length octets) 0

-- octets came behind the end
pub record BringsLate (old new : Account) : Type 0 where
  pub octets : ℕ
  pub passes : new.flow ≡ with_more_passed old.flow octets
  pub brings : Brings old new octets 0

-- a SYN, a FIN or a RST came
abbrev pub IsControlled : FlowState → FlowState → Type 0
IsControlled old new =
    ((number : ℕ) × (new ≡ begun_by_syn old number))
    ⊎ ((new ≡ begun_unseen old) ⊎ ((closing : Closing) × (new ≡ record old { closing = closing })))

pub record BringsControl (old new : Account) : Type 0 where
  pub controls : IsControlled old.flow new.flow
  pub brings : Brings old new 0 0

-- the next message was asked for, and there was none
pub record FindsNone (old new : Account) : Type 0 where
  pub finds : HandsNoMessage old.flow new.flow
  pub brings : Brings old new 0 0

-- a message was handed out
pub record HandsOut (old new : Account) : Type 0 where
  pub message : List ℕ
  pub hands : HandsMessage old.flow message new.flow
  pub came : new.came ≡ old.came
  pub repeated : new.repeated ≡ old.repeated
  pub messages : new.messages ≡ old.messages ++ message ∷ []

abbrev pub IsNextAccount : Account → Account → Type 0
IsNextAccount old new =
    BringsOctets old new ⊎ (BringsFront old new ⊎ (BringsLate old new ⊎ (BringsControl old new
    ⊎ (FindsNone old new ⊎ HandsOut old new))))

-- one after the other, in whatever order
abbrev pub AccountsFollow : Account → List Account → Account → Type 0
AccountsFollow old [] new = old ≡ new
AccountsFollow old (next ∷ later) new = IsNextAccount old next × AccountsFollow next later new

-- each octet is in a message, in order, waits, is a repetition, or is passed over, of which there were so many
pub record IsAccounted (now : Account) : Type 0 where
  pub lost : ℕ
  pub passed : now.flow.passed ≡ min lost (2 ^ 64 - 1)
  pub came : now.came
      ≡ length (concat now.messages) + length now.flow.ready + known_waiting now.flow.window + now.repeated + lost

abbrev pub EachOctetIsAccounted : Type 0
EachOctetIsAccounted =
    (max : ℕ) (later : List Account) (now : Account) → AccountsFollow (begun_account max) later now → IsAccounted now
