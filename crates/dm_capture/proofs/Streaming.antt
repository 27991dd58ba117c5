-- Runs of items over what a reader gave.
use Rattle.std.proofs.Common.{◌≡◌, ℕ, inl, inr, Bool, true, Option, None, Some, OnSome, Result, Ok, Err, IsErrAnd, List, [], ◌∷◌, ◌++◌, length, refl, sym, ◌∙◌, ap, subst, append_assoc, append-nil}
use Rattle.std.specs.Io.KnownBytes.{Consumes, IsAtEnd}
use Rattle.std.proofs.KnownBytes.{Consumes-nil, Consumes-kept, Consumes-trans}
use Rattle.dm_capture.specs.declared.packet.Packet.{Packet}
use Rattle.dm_capture.specs.declared.fault.CaptureFault.{CaptureFault}
use Rattle.dm_capture.specs.declared.stream.StreamFault.{StreamFault}
use Rattle.dm_capture.specs.declared.stream.StreamFault.TheVariants.{Capture, Unreadable}
use Rattle.dm_capture.specs.Items.{IsPart}
use Rattle.dm_capture.specs.Captures.{Progress, HeldItem, ItemsLead, packets_of, passed, Hands, StopsReading}
use Rattle.dm_capture.specs.Laws.{with_piece}
use Rattle.dm_capture.specs.Streams.{TakesOn, HandsFrom, EndsThere, EndsAs, FeedsPiece, FeedsNone}
use Rattle.dm_capture.proofs.Runs.{leads_join, packets_join}
use Rattle.dm_capture.proofs.Files.{cuts}

fault_kept : (a b : Progress) (items : List HeldItem) → ItemsLead a items b → a.fault ≡ b.fault
fault_kept a b [] e = ap (λ (p : Progress). p.fault) e
fault_kept a b (item ∷ items) h = fault_kept (passed a (length item.octets) item.holds h.1) b items h.3

-- octets were taken from a reader, and items passed that hold no packet
pub record Ongoing (old : Progress) (left : Option (List ℕ)) (now : Progress) (more : Option (List ℕ)) : Type 0 where
  pub taken : List ℕ
  pub items : List HeldItem
  pub given : Consumes left more taken
  pub leads : ItemsLead (with_piece old taken) items now
  pub none : packets_of old.packets items ≡ []
  pub fault : now.fault ≡ None

abbrev at_octets : Progress → List ℕ → Progress
at_octets p octets = record p { octets = octets }

pub ongoing : (old : Progress) (left : Option (List ℕ)) → old.fault ≡ None → Ongoing old left old left
ongoing old left e =
    record {
      taken = [];
      items = [];
      given = Consumes-nil left;
      leads = ap (at_octets old) (append-nil old.octets);
      none = refl;
      fault = e;
    }

-- items more, none of them a packet's
pub ongoing_passed : (old now new : Progress) (left more : Option (List ℕ)) → Ongoing old left now more →
    (Hands now new (Ok None)) → Ongoing old left new more
ongoing_passed old now new left more so (items, leads, none, part) =
    record {
      taken = so.taken;
      items = so.items ++ items;
      given = so.given;
      leads = leads_join (with_piece old so.taken) now new so.items items so.leads leads;
      none = packets_join (with_piece old so.taken) now so.items items so.leads ∙
          ap (λ l. l ++ packets_of now.packets items) so.none ∙ none;
      fault = sym (fault_kept now new items leads) ∙ so.fault;
    }

takes_on : (old now : Progress) (left more : Option (List ℕ)) → Ongoing old left now more → TakesOn old left now more
takes_on old now left more so = (so.taken, so.items, so.given, so.leads, so.none)

-- the next one is handed out, or a fault stands there
pub handed : (old now new : Progress) (left more : Option (List ℕ)) (packet : Packet) → Ongoing old left now more →
    Hands now new (Ok (Some packet)) → HandsFrom old left new more (Ok (Some packet))
handed old now new left more packet so (items, leads, one) = (
  so.taken,
  so.items ++ items,
  so.given,
  leads_join (with_piece old so.taken) now new so.items items so.leads leads,
  packets_join (with_piece old so.taken) now so.items items so.leads ∙
      ap (λ l. l ++ packets_of now.packets items) so.none ∙ one,
)

pub refused : (old now new : Progress) (left more : Option (List ℕ)) (fault : CaptureFault) → Ongoing old left now more →
    Hands now new (Err fault) → HandsFrom old left new more (Err (Capture fault))
refused old now new left more fault so (items, before, leads, none, place, stops) = (
  before,
  (
    so.taken,
    so.items ++ items,
    so.given,
    leads_join (with_piece old so.taken) now before so.items items so.leads leads,
    packets_join (with_piece old so.taken) now so.items items so.leads ∙
        ap (λ l. l ++ packets_of now.packets items) so.none ∙ none,
  ),
  place,
  inl stops,
)

-- a piece more
pub ongoing_fed : (old now new : Progress) (left more rest : Option (List ℕ)) (done : Bool) →
    Ongoing old left now more → FeedsPiece more rest now new done → Ongoing old left new rest
ongoing_fed old now new left more rest done so feeds =
    let piece : List ℕ = feeds.piece in
    let run : ItemsLead (with_piece (with_piece old so.taken) piece) so.items (with_piece now piece) =
    cuts (with_piece old so.taken) now so.items piece so.leads in
    let joined : with_piece (with_piece old so.taken) piece ≡ with_piece old (so.taken ++ piece) =
    ap (at_octets old) (append_assoc old.octets so.taken piece) in
    record {
      taken = so.taken ++ piece;
      items = so.items;
      given = Consumes-trans left more rest so.taken piece so.given feeds.given;
      leads = subst (λ (p : Progress). ItemsLead (with_piece old (so.taken ++ piece)) so.items p) (sym feeds.whole)
          (subst (λ (p : Progress). ItemsLead p so.items (with_piece now piece)) joined run);
      none = so.none;
      fault = ap (λ (p : Progress). p.fault) feeds.whole ∙ so.fault;
    }

known_end : (left more rest : Option (List ℕ)) (taken : List ℕ) → Consumes left more taken →
    OnSome more (IsAtEnd rest) → OnSome left (IsAtEnd rest)
known_end None more rest taken given ends = tt
known_end (Some xs) None rest taken given ends = absurd given
known_end (Some xs) (Some ys) rest taken given ends = ends

-- nothing came at the end
nothing_more : (now new : Progress) (more rest : Option (List ℕ)) → FeedsPiece more rest now new true → new ≡ now
nothing_more now new more rest feeds =
    feeds.whole ∙ ap (λ l. with_piece now l) (feeds.ends refl).0 ∙ ap (at_octets now) (append-nil now.octets)

-- the reader's end
pub ended : (old now new : Progress) (left more rest : Option (List ℕ)) (result : Result (Option Packet) StreamFault) →
    Ongoing old left now more → IsPart now.layout now.octets → FeedsPiece more rest now new true → EndsAs new result →
    HandsFrom old left new rest result
ended old now new left more rest (Ok None) so part feeds ends =
    let end = ongoing_fed old now new left more rest true so feeds in
    (takes_on old new left rest end, known_end left more rest so.taken so.given (feeds.ends refl).1, ends.0, ends.1)
ended old now new left more rest (Ok (Some packet)) so part feeds ends = absurd ends
ended old now new left more rest (Err (Capture fault)) so part feeds ends =
    let end = ongoing_fed old now new left more rest true so feeds in
    let P : Progress → Type 0 = λ p. IsPart p.layout p.octets in
    let there : EndsThere left new rest = record {
      end = known_end left more rest so.taken so.given (feeds.ends refl).1;
      part = subst P (sym (nothing_more now new more rest feeds)) part;
    } in
    (new, takes_on old new left rest end, ends.0, inr (there, ends.1, refl))
ended old now new left more rest (Err Unreadable) so part feeds ends = absurd ends

-- nothing was fed
pub not_fed : (old now new : Progress) (left more rest : Option (List ℕ)) (fault : StreamFault) →
    Ongoing old left now more → FeedsNone more rest now new fault → HandsFrom old left new rest (Err fault)
not_fed old now new left more rest (Capture fault) so none =
    let P : CaptureFault → Type 0 = λ f. (f.offset ≡ now.offset) × StopsReading f.kind f now new in
    let stops : P fault = subst P (sym none.why) (refl, none.same) in (
      now,
      (so.taken, so.items, Consumes-kept left more rest so.taken so.given none.unread, so.leads, so.none),
      stops.0,
      inl stops.1,
    )
not_fed old now new left more rest Unreadable so none =
    let P : Progress → Type 0 = λ p. ItemsLead (with_piece old so.taken) so.items p in (
      so.taken,
      so.items,
      Consumes-kept left more rest so.taken so.given none.unread,
      subst P (sym none.same) so.leads,
      so.none,
    )

pub still : (old now : Progress) (left more : Option (List ℕ)) → Ongoing old left now more →
    HandsFrom old left now more (Err Unreadable)
still old now left more so = takes_on old now left more so

-- a fault that is handed on
pub handed_on : (P : Result (Option Packet) StreamFault → Type 0) (result : Result (Option Packet) StreamFault)
    (fault : StreamFault) → IsErrAnd result (λ f. f ≡ fault) → P (Err fault) → P result
handed_on P (Ok packet) fault never h = absurd never
handed_on P (Err f) fault is h = subst (λ (e : StreamFault). P (Err e)) (sym is) h
