-- What is handed out of a direction is its stream, in order.
use Rattle.std.proofs.Common.{◌≡◌, ◌≤◌, ◌<◌, ◌⊎◌, inl, inr, ℕ, ◌+◌, ◌%◌, ◌^◌, Option, None, Some, List, [], ◌∷◌, ◌++◌, length, refl, sym, ◌∙◌, ap, subst, arith, append_assoc, append-nil, length-append}
use Rattle.std.proofs.lemmas.List.Folds.{concat-append}
use Rattle.std.specs.List.{concat}
use Rattle.dm_flows.specs.Windows.{WindowState, Arrival, slot, sequence_behind, TakesThrough}
use Rattle.dm_flows.specs.Order.{IsFrontOf, IsStreamOf, arrival_at, Passage, begun_passage}
use Rattle.dm_flows.specs.Flows.{FlowState}
use Rattle.dm_flows.specs.FlowOrder.{FlowPassage, ordered_octets, BeginsStream, StreamGoesOn, StreamHandsOut, StreamStays, StreamFollows}
use Rattle.dm_flows.proofs.InOrder.{IsSound, sound_begun, sound_arrives, sound_departs, whole_of, each_found}
use Rattle.dm_flows.proofs.Straight.{through_straight}

-- as it is seen by numbers
abbrev passage_at : ℕ → FlowPassage → WindowState → Passage
passage_at base p window = record {
  number = base + length (ordered_octets p);
  waits = window;
  arrivals = p.arrivals;
  handed = ordered_octets p;
}

pub record IsSoundStream (base : ℕ) (p : FlowPassage) : Type 0 where
  pub window : WindowState
  pub known : p.flow.window ≡ Some window
  pub sound : IsSound base (passage_at base p window)

same_window : (a b : WindowState) (o : Option WindowState) → o ≡ Some a → o ≡ Some b → a ≡ b
same_window a b o e d = cc

-- octets were taken and some handed out
through : (base : ℕ) (old new : Passage) (sequence : ℕ) (octets : List ℕ) → IsSound base old → sequence < 2 ^ 32 →
    TakesThrough old.waits sequence octets old.handed new.waits new.handed →
    new.arrivals ≡ old.arrivals ++ arrival_at old.number sequence octets ∷ [] →
    new.number + length old.handed ≡ old.number + length new.handed → IsSound base new
through base old new sequence octets so fits h arrivals number =
    let mid : Passage = record {
      number = old.number;
      waits = h.mid;
      arrivals = new.arrivals;
      handed = old.handed;
    } in
    let taken = sound_arrives base old mid so (record {
      sequence = sequence;
      octets = octets;
      takes = h.takes;
      fits = fits;
      number = refl;
      arrivals = arrivals;
      handed = refl;
    }) in
    sound_departs base mid new taken (record {
      front = h.hands.0;
      hands = h.hands.1;
      number = behind_front h.hands.0 h.hands.2;
      arrivals = refl;
      handed = h.hands.2;
    })
  where
    behind_front : (front : List ℕ) → new.handed ≡ old.handed ++ front → new.number ≡ old.number + length front
    behind_front front e =
        let size : length new.handed ≡ length old.handed + length front =
        ap length e ∙ length-append old.handed front in
        omega (arith, size, number)

begins : (base : ℕ) (front : List ℕ) (p : FlowPassage) → 2 ^ 32 ≤ base → BeginsStream base front p →
    IsSoundStream base p
begins base front p least b = record {
  window = window;
  known = b.window;
  sound = through base (begun_passage base) (passage_at base p window) (base % 2 ^ 32) front (sound_begun base least)
      (omega arith) (subst (λ l. TakesThrough before (base % 2 ^ 32) front [] window l) (sym ordered) straight) arrivals
      (omega arith);
} where
  before : WindowState
  before = record { next = base % 2 ^ 32; held = [] }

  window : WindowState
  window = record { next = sequence_behind (base % 2 ^ 32) (length front); held = [] }

  ordered : ordered_octets p ≡ front
  ordered = ap (λ m. concat m ++ p.flow.ready) b.messages ∙ b.ready

  straight : TakesThrough before (base % 2 ^ 32) front [] window front
  straight =
      through_straight before window (base % 2 ^ 32) front [] front refl refl (omega arith)
      (record { held = refl; next = refl }) refl

  found : arrival_at base (base % 2 ^ 32) front ≡ record { at = base; octets = front }
  found =
      let at : Arrival → Arrival = λ a. a in
      ap (λ (n : ℕ). at (record { at = n; octets = front })) (each_found base base (omega arith) (omega arith))

  arrivals : p.arrivals ≡ [] ++ arrival_at base (base % 2 ^ 32) front ∷ []
  arrivals = b.arrivals ∙ ap (λ a. a ∷ []) (sym found)

goes_on : (base : ℕ) (old new : FlowPassage) → IsSoundStream base old → StreamGoesOn base old new →
    IsSoundStream base new
goes_on base old new so b =
    let h = b.goes in
    let same : so.window ≡ h.before = same_window so.window h.before old.flow.window so.known h.known in
    let sound : IsSound base (passage_at base old h.before) =
    subst (λ w. IsSound base (passage_at base old w)) same so.sound in
    let messages : concat new.messages ≡ concat old.messages = ap concat b.messages in
    let handed : ordered_octets new ≡ ordered_octets old ++ h.takes.hands.0 =
    ap (λ l. l ++ new.flow.ready) messages ∙ ap (λ l. concat old.messages ++ l) h.takes.hands.2 ∙
    sym (append_assoc (concat old.messages) old.flow.ready h.takes.hands.0) in
    let taken : TakesThrough h.before b.sequence b.octets (ordered_octets old) h.after (ordered_octets new) = record {
      mid = h.takes.mid;
      takes = h.takes.takes;
      hands = (h.takes.hands.0, h.takes.hands.1, handed);
    } in
    record {
      window = h.after;
      known = ap (λ (f : FlowState). f.window) h.others;
      sound = through base (passage_at base old h.before) (passage_at base new h.after) b.sequence b.octets sound b.fits
          taken b.arrivals (omega arith);
    }

-- the stream is as it was
same_stream : (base : ℕ) (old new : FlowPassage) → IsSoundStream base old → new.flow.window ≡ old.flow.window →
    new.arrivals ≡ old.arrivals → ordered_octets new ≡ ordered_octets old → IsSoundStream base new
same_stream base old new so window arrivals handed = record {
  window = so.window;
  known = window ∙ so.known;
  sound = subst (IsSound base) (sym same) so.sound;
} where
  seen : List Arrival → List ℕ → Passage
  seen a l = record { number = base + length l; waits = so.window; arrivals = a; handed = l }

  same : passage_at base new so.window ≡ passage_at base old so.window
  same = rw (arrivals, handed) refl

hands_out : (base : ℕ) (old new : FlowPassage) → IsSoundStream base old → StreamHandsOut old new →
    IsSoundStream base new
hands_out base old new so h =
    let ready : new.flow.ready ≡ h.hands.more = ap (λ (f : FlowState). f.ready) h.hands.rest in
    let messages : concat new.messages ≡ concat old.messages ++ h.message =
    ap concat h.messages ∙ concat-append old.messages (h.message ∷ []) ∙
    ap (λ l. concat old.messages ++ l) (append-nil h.message) in
    same_stream base old new so (ap (λ (f : FlowState). f.window) h.hands.rest) h.arrivals
    (ap (λ l. l ++ new.flow.ready) messages ∙ ap (λ l. (concat old.messages ++ h.message) ++ l) ready ∙
    append_assoc (concat old.messages) h.message h.hands.more ∙
    ap (λ l. concat old.messages ++ l) (sym h.hands.first))

stays : (base : ℕ) (old new : FlowPassage) → IsSoundStream base old → StreamStays old new → IsSoundStream base new
stays base old new so h =
    same_stream base old new so h.window h.arrivals
    (ap (λ m. concat m ++ new.flow.ready) h.messages ∙ ap (λ l. concat old.messages ++ l) h.ready)

step : (base : ℕ) (old new : FlowPassage) → IsSoundStream base old →
    StreamGoesOn base old new ⊎ (StreamHandsOut old new ⊎ StreamStays old new) → IsSoundStream base new
step base old new so (inl h) = goes_on base old new so h
step base old new so (inr (inl h)) = hands_out base old new so h
step base old new so (inr (inr h)) = stays base old new so h

follows : (base : ℕ) (old : FlowPassage) (later : List FlowPassage) (now : FlowPassage) → IsSoundStream base old →
    StreamFollows base old later now → IsSoundStream base now
follows base old [] now so e = subst (IsSoundStream base) e so
follows base old (next ∷ later) now so h = follows base next later now (step base old next so h.0) h.1

pub each_stream_in_order : (base : ℕ) (front : List ℕ) (begun : FlowPassage) (later : List FlowPassage)
    (now : FlowPassage) → 2 ^ 32 ≤ base → BeginsStream base front begun → StreamFollows base begun later now →
    IsFrontOf base now.arrivals (ordered_octets now)
each_stream_in_order base front begun later now least b h =
    (follows base begun later now (begins base front begun least b) h).sound.handed

pub each_stream_whole : (base : ℕ) (front : List ℕ) (begun : FlowPassage) (later : List FlowPassage)
    (now : FlowPassage) (window : WindowState) → 2 ^ 32 ≤ base → BeginsStream base front begun →
    StreamFollows base begun later now → now.flow.window ≡ Some window → slot window.held 0 ≡ None →
    IsStreamOf base now.arrivals (ordered_octets now)
each_stream_whole base front begun later now window least b h known none =
    let so = follows base begun later now (begins base front begun least b) h in
    let same : so.window ≡ window = same_window so.window window now.flow.window so.known known in
    whole_of base (passage_at base now so.window) so.sound (ap (λ (w : WindowState). slot w.held 0) same ∙ none)
