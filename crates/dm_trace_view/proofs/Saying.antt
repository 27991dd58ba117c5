-- What is said of packets in turn and gathered, one part behind the other.
use Rattle.std.proofs.Common.{◌≡◌, inl, inr, ℕ, Option, Result, Ok, Err, IfErr, IsErrAnd, List, [], ◌∷◌, ◌++◌, append_assoc, append-nil, ap, sym, ◌∙◌, refl, subst}
use Rattle.std.specs.Io.KnownBytes.{Appends}
use Rattle.std.specs.Prelude.{⊤}
use Rattle.std.proofs.KnownBytes.{Appends-kept}
use Rattle.dm_capture.specs.declared.fault.CaptureFault.{CaptureFault}
use Rattle.dm_capture.specs.Packets.{Captured}
use Rattle.dm_capture.specs.Captures.{Progress, HeldItem, ItemsLead, packets_of}
use Rattle.dm_capture.specs.Laws.{RunsJoin}
use Rattle.dm_view_lines.specs.declared.put_fault.PutFault.{PutFault}
use Rattle.dm_view_lines.specs.declared.put_fault.PutFault.TheVariants.{Memory, TooLong, Write}
use Rattle.dm_view_lines.specs.Gathering.{GathersNothing, GathersInTurn, GathersAndWrites, GathersAndFails, LeavesNothing, LeavesInTurn}
use Rattle.dm_view_lines.specs.Turns.{Gathers, Leaves, WritesFront, FailsToWrite, IsOfOutput, Settles, text_left}
use Rattle.dm_trace_view.specs.Packets.{SaysPackets, TellsPackets, StopsPackets, EndsAt, TellsHeld, StopsHeld}

pub handed_on : {T : Type 0} (Q : PutFault → Type 0) (r : Result T PutFault) (fault : PutFault)
    → IsErrAnd r (λ f. f ≡ fault) → Q fault → IfErr r Q
handed_on Q (Ok v) fault never so = absurd never
handed_on Q (Err f) fault is so = subst Q (sym is) so

-- no failed write
abbrev pub IsUnwritten : PutFault → Type 0
IsUnwritten Memory = ⊤
IsUnwritten (TooLong k) = ⊤
IsUnwritten (Write error) = ⊥

pub record Gathering : Type 0 where
  pub nothing : GathersNothing
  pub turns : GathersInTurn
  pub writes : GathersAndWrites
  pub fails : GathersAndFails
  pub leaves_nothing : LeavesNothing
  pub leaves : LeavesInTurn

pub gathering : GathersNothing → GathersInTurn → GathersAndWrites → GathersAndFails → LeavesNothing → LeavesInTurn
    → Gathering
gathering nothing turns writes fails leaves_nothing leaves = record {
  nothing = nothing;
  turns = turns;
  writes = writes;
  fails = fails;
  leaves_nothing = leaves_nothing;
  leaves = leaves;
}

module _ {S : Type 0} (style : List ℕ → List ℕ) (Says : S → Captured → S → List ℕ → Type 0) where
  turns-then : (a m b : S) (l more : List Captured) (t u : List ℕ) → SaysPackets style Says a l m t
      → SaysPackets style Says m more b u → SaysPackets style Says a (l ++ more) b (t ++ u)
  turns-then a m b [] more t u h later =
      let From : S → Type 0 = λ s. SaysPackets style Says s more b u in
      rw h.1 (subst From h.0 later)
  turns-then a m b (packet ∷ l) more t u h later =
      let rest = turns-then h.0 m b l more h.2 u h.4 later in
      (h.0, h.1, h.2 ++ u, h.3, rest, ap (λ v. v ++ u) h.5 ∙ append_assoc (style h.1) h.2 u)

  -- a text that was said behind what was cleared
  abbrev pub Made : S → Captured → S → List ℕ → List ℕ → Type 0
  Made a packet b cleared made = (more : List ℕ) × (made ≡ cleared ++ more) × Says a packet b more

  made_is : (a b : S) (packet : Captured) (cleared made octets : List ℕ) → Made a packet b cleared made → cleared ≡ []
      → octets ≡ made → Says a packet b octets
  made_is a b packet cleared made octets so none whole =
      let Text : List ℕ → Type 0 = λ v. Says a packet b v in
      subst Text (sym (whole ∙ so.1 ∙ ap (λ v. v ++ so.0) none)) so.2

  one_turn : (a b : S) (packet : Captured) (octets : List ℕ) → Says a packet b octets
      → SaysPackets style Says a (packet ∷ []) b (style octets ++ [])
  one_turn a b packet octets so = (b, octets, [], so, (refl, refl), refl)

  -- one packet is said
  pub packet_told : (a b : S) (packet : Captured) (cleared made octets : List ℕ) (c d : Option (List ℕ)) (w v : List ℕ)
      → Made a packet b cleared made → cleared ≡ [] → octets ≡ made → Gathers c w d v (style octets)
      → TellsPackets style Says a (packet ∷ []) b c w d v
  packet_told a b packet cleared made octets c d w v so none whole gathers =
      let Text : List ℕ → Type 0 = Gathers c w d v in
      record {
        text = style octets ++ [];
        turns = one_turn a b packet octets (made_is a b packet cleared made octets so none whole);
        gathered = subst Text (sym (append-nil (style octets))) gathers;
      }

  -- it is said, but can't be gathered or written
  pub packet_left : (a b : S) (packet : Captured) (cleared made octets : List ℕ) (fault : PutFault)
      (c d : Option (List ℕ)) (w v : List ℕ) → Made a packet b cleared made → cleared ≡ [] → octets ≡ made
      → IsOfOutput fault → Leaves fault c w d v (text_left fault (style octets))
      → StopsPackets style Says a (packet ∷ []) fault c w d v
  packet_left a b packet cleared made octets Memory c d w v so none whole is leaves = record {
    done = [];
    rest = packet ∷ [];
    parts = refl;
    said = a;
    text = [];
    turns = (refl, refl);
    leaves = leaves;
  }
  packet_left a b packet cleared made octets (TooLong k) c d w v so none whole is leaves = absurd is
  packet_left a b packet cleared made octets (Write e) c d w v so none whole is leaves =
      let Text : List ℕ → Type 0 = λ x. WritesFront c d (w ++ x) in
      record {
        done = packet ∷ [];
        rest = [];
        parts = refl;
        said = b;
        text = style octets ++ [];
        turns = one_turn a b packet octets (made_is a b packet cleared made octets so none whole);
        leaves = subst Text (sym (append-nil (style octets))) leaves;
      }

  -- the packets that were handed out so far are said
  pub record SoHeld (from : Progress) (a : S) (now : Progress) (b : S) (old : Option (List ℕ)) (waits : List ℕ)
      (new : Option (List ℕ)) (left : List ℕ) : Type 0 where
    pub items : List HeldItem
    pub lead : ItemsLead from items now
    pub tells : TellsPackets style Says a (packets_of from.packets items) b old waits new left

  -- where nothing waited
  pub unwaiting : (from new : Progress) (a b : S) (fault : Option CaptureFault) (c d : Option (List ℕ)) (w v : List ℕ)
      → w ≡ [] → TellsHeld style Says from a fault new b c w d v → TellsHeld style Says from a fault new b c [] d v
  unwaiting from new a b fault c d w v none h =
      let Waits : List ℕ → Type 0 = λ x. TellsHeld style Says from a fault new b c x d v in
      subst Waits none h

  pub unwaiting-stops : (from : Progress) (a : S) (fault : PutFault) (c d : Option (List ℕ)) (w v : List ℕ) → w ≡ []
      → StopsHeld style Says from a fault c w d v → StopsHeld style Says from a fault c [] d v
  unwaiting-stops from a fault c d w v none h =
      let Waits : List ℕ → Type 0 = λ x. StopsHeld style Says from a fault c x d v in
      subst Waits none h

  module _ (laws : Gathering) where
    -- nothing is said
    pub stops-none : (a : S) (l : List Captured) (fault : PutFault) (c : Option (List ℕ)) (w : List ℕ)
        → StopsPackets style Says a l fault c w c w
    stops-none a l fault c w = record {
      done = [];
      rest = l;
      parts = refl;
      said = a;
      text = [];
      turns = (refl, refl);
      leaves = laws.leaves_nothing fault c w;
    }

    pub tells-none : (a : S) (c : Option (List ℕ)) (w : List ℕ) → TellsPackets style Says a [] a c w c w
    tells-none a c w = record { text = []; turns = (refl, refl); gathered = laws.nothing c w }

    pub tells-then : (a m b : S) (l more : List Captured) (c d e : Option (List ℕ)) (w v u : List ℕ)
        → TellsPackets style Says a l m c w d v → TellsPackets style Says m more b d v e u
        → TellsPackets style Says a (l ++ more) b c w e u
    tells-then a m b l more c d e w v u h later = record {
      text = h.text ++ later.text;
      turns = turns-then a m b l more h.text later.text h.turns later.turns;
      gathered = laws.turns c d e w v u h.text later.text h.gathered later.gathered;
    }

    pub stops-then : (a m : S) (l more : List Captured) (fault : PutFault) (c d e : Option (List ℕ)) (w v u : List ℕ)
        → TellsPackets style Says a l m c w d v → StopsPackets style Says m more fault d v e u
        → StopsPackets style Says a (l ++ more) fault c w e u
    stops-then a m l more fault c d e w v u h later = record {
      done = l ++ later.done;
      rest = later.rest;
      parts = ap (λ x. l ++ x) later.parts ∙ sym (append_assoc l later.done later.rest);
      said = later.said;
      text = h.text ++ later.text;
      turns = turns-then a m later.said l later.done h.text later.text h.turns later.turns;
      leaves = laws.leaves fault c d e w v u h.text later.text h.gathered later.leaves;
    }

    -- ---- what a capture holds, in turn

    pub so_none : (from : Progress) (a : S) (c : Option (List ℕ)) (w : List ℕ) → SoHeld from a from a c w c w
    so_none from a c w = record { items = []; lead = refl; tells = tells-none a c w }

    pub so_then : RunsJoin → (from now to : Progress) (a m b : S) (more : List HeldItem) (c d e : Option (List ℕ))
        (w v u : List ℕ) → SoHeld from a now m c w d v → ItemsLead now more to
        → TellsPackets style Says m (packets_of now.packets more) b d v e u → SoHeld from a to b c w e u
    so_then joins from now to a m b more c d e w v u so lead later =
        let both = joins from now to so.items more so.lead lead in
        let Packets : List Captured → Type 0 = λ l. TellsPackets style Says a l b c w e u in
        record {
          items = so.items ++ more;
          lead = both.0;
          tells = subst Packets (sym both.1)
              (tells-then a m b (packets_of from.packets so.items) (packets_of now.packets more) c d e w v u so.tells later);
        }

    -- items that hold no packet
    pub so_passed : RunsJoin → (from now to : Progress) (a m : S) (more : List HeldItem) (c d : Option (List ℕ))
        (w v : List ℕ) → SoHeld from a now m c w d v → ItemsLead now more to → packets_of now.packets more ≡ []
        → SoHeld from a to m c w d v
    so_passed joins from now to a m more c d w v so lead none =
        let None_ : List Captured → Type 0 = λ l. TellsPackets style Says m l m d v d v in
        so_then joins from now to a m m more c d d w v v so lead (subst None_ (sym none) (tells-none m d v))

    pub so_ends : (from end new : Progress) (a b : S) (fault : Option CaptureFault) (c d : Option (List ℕ)) (w v : List ℕ)
        → SoHeld from a end b c w d v → EndsAt fault end new → TellsHeld style Says from a fault new b c w d v
    so_ends from end new a b fault c d w v so ends = record {
      items = so.items;
      end = end;
      lead = so.lead;
      tells = so.tells;
      ends = ends;
    }

    pub so_stops : RunsJoin → (from now to : Progress) (a m : S) (more : List HeldItem) (fault : PutFault)
        (c d e : Option (List ℕ)) (w v u : List ℕ) → SoHeld from a now m c w d v → ItemsLead now more to
        → StopsPackets style Says m (packets_of now.packets more) fault d v e u → StopsHeld style Says from a fault c w e u
    so_stops joins from now to a m more fault c d e w v u so lead later =
        let both = joins from now to so.items more so.lead lead in
        let Packets : List Captured → Type 0 = λ l. StopsPackets style Says a l fault c w e u in
        record {
          items = so.items ++ more;
          end = to;
          lead = both.0;
          stops = subst Packets (sym both.1)
              (stops-then a m (packets_of from.packets so.items) (packets_of now.packets more) fault c d e w v u so.tells
              later);
        }

    -- nothing more is said
    pub so_stops_here : RunsJoin → (from now to : Progress) (a m : S) (more : List HeldItem) (fault : PutFault)
        (c d : Option (List ℕ)) (w v : List ℕ) → SoHeld from a now m c w d v → ItemsLead now more to
        → StopsHeld style Says from a fault c w d v
    so_stops_here joins from now to a m more fault c d w v so lead =
        so_stops joins from now to a m more fault c d d w v v so lead
        (stops-none m (packets_of now.packets more) fault d v)

    -- ---- what waits is written

    tells-written : (a b : S) (l : List Captured) (c d e : Option (List ℕ)) (w v : List ℕ)
        → TellsPackets style Says a l b c w d v → Appends d e v → TellsPackets style Says a l b c w e []
    tells-written a b l c d e w v h written = record {
      text = h.text;
      turns = h.turns;
      gathered = laws.writes c d e w v h.text h.gathered written;
    }

    pub held-written : (from new : Progress) (a b : S) (fault : Option CaptureFault) (c d e : Option (List ℕ))
        (w v : List ℕ) → TellsHeld style Says from a fault new b c w d v → Appends d e v
        → TellsHeld style Says from a fault new b c w e []
    held-written from new a b fault c d e w v h written = record {
      items = h.items;
      end = h.end;
      lead = h.lead;
      tells = tells-written a b (packets_of from.packets h.items) c d e w v h.tells written;
      ends = h.ends;
    }

    pub held-unwritten : (from new : Progress) (a b : S) (fault : Option CaptureFault) (put : PutFault)
        (c d e : Option (List ℕ)) (w v : List ℕ) → TellsHeld style Says from a fault new b c w d v → FailsToWrite put d e v
        → StopsHeld style Says from a put c w e []
    held-unwritten from new a b fault Memory c d e w v h failed = absurd failed
    held-unwritten from new a b fault (TooLong k) c d e w v h failed = absurd failed
    held-unwritten from new a b fault (Write error) c d e w v h failed = record {
      items = h.items;
      end = h.end;
      lead = h.lead;
      stops = record {
        done = packets_of from.packets h.items;
        rest = [];
        parts = sym (append-nil (packets_of from.packets h.items));
        said = b;
        text = h.tells.text;
        turns = h.tells.turns;
        leaves = laws.fails c d e w v h.tells.text h.tells.gathered failed;
      };
    }

    stops-by : (from : Progress) (a : S) (fault other : PutFault) (c d e : Option (List ℕ)) (w v u : List ℕ)
        → (h : StopsHeld style Says from a fault c w d v) → Leaves other c w e u h.stops.text
        → StopsHeld style Says from a other c w e u
    stops-by from a fault other c d e w v u h leaves = record {
      items = h.items;
      end = h.end;
      lead = h.lead;
      stops = record {
        done = h.stops.done;
        rest = h.stops.rest;
        parts = h.stops.parts;
        said = h.stops.said;
        text = h.stops.text;
        turns = h.stops.turns;
        leaves = leaves;
      };
    }

    -- what waits is written though the run stops, where it wasn't a write that failed
    pub stops-written : (from : Progress) (a : S) (fault : PutFault) (c d e : Option (List ℕ)) (w v : List ℕ)
        → IsUnwritten fault → StopsHeld style Says from a fault c w d v → Appends d e v
        → StopsHeld style Says from a fault c w e []
    stops-written from a Memory c d e w v is h written =
        stops-by from a Memory Memory c d e w v [] h (laws.writes c d e w v h.stops.text h.stops.leaves written)
    stops-written from a (TooLong k) c d e w v is h written =
        stops-by from a (TooLong k) (TooLong k) c d e w v [] h (laws.writes c d e w v h.stops.text h.stops.leaves written)
    stops-written from a (Write error) c d e w v is h written = absurd is

    pub stops-unwritten : (from : Progress) (a : S) (fault put : PutFault) (c d e : Option (List ℕ)) (w v : List ℕ)
        → IsUnwritten fault → StopsHeld style Says from a fault c w d v → FailsToWrite put d e v
        → StopsHeld style Says from a put c w e []
    stops-unwritten from a fault Memory c d e w v is h failed = absurd failed
    stops-unwritten from a fault (TooLong k) c d e w v is h failed = absurd failed
    stops-unwritten from a Memory (Write error) c d e w v is h failed =
        stops-by from a Memory (Write error) c d e w v [] h (laws.fails c d e w v h.stops.text h.stops.leaves failed)
    stops-unwritten from a (TooLong k) (Write error) c d e w v is h failed =
        stops-by from a (TooLong k) (Write error) c d e w v [] h (laws.fails c d e w v h.stops.text h.stops.leaves failed)
    stops-unwritten from a (Write other) (Write error) c d e w v is h failed = absurd is

    -- what waits is written, unless it was a write that failed
    pub stops-settled : (from : Progress) (a : S) (fault other : PutFault) (c d e : Option (List ℕ)) (w v : List ℕ)
        → StopsHeld style Says from a fault c w d v → Settles (Err fault) (Err other) d e v
        → StopsHeld style Says from a other c w e []
    stops-settled from a Memory other c d e w v h (inl k) =
        let Stops : PutFault → Type 0 = λ f. StopsHeld style Says from a f c w e [] in
        subst Stops (sym k.0) (stops-written from a Memory c d e w v tt h k.1)
    stops-settled from a Memory other c d e w v h (inr k) = stops-unwritten from a Memory other c d e w v tt h k
    stops-settled from a (TooLong n) other c d e w v h (inl k) =
        let Stops : PutFault → Type 0 = λ f. StopsHeld style Says from a f c w e [] in
        subst Stops (sym k.0) (stops-written from a (TooLong n) c d e w v tt h k.1)
    stops-settled from a (TooLong n) other c d e w v h (inr k) =
        stops-unwritten from a (TooLong n) other c d e w v tt h k
    stops-settled from a (Write error) other c d e w v h k =
        let Stops : PutFault → Type 0 = λ f. StopsHeld style Says from a f c w e [] in
        let left = h.stops.leaves in
        subst Stops (sym k.0)
        (stops-by from a (Write error) (Write error) c d e w v [] h
        (left.0, left.1, left.2, Appends-kept c d e left.0 left.3 k.1))
