-- A capture that a reader gives, read by read.
use Rattle.std.proofs.Common.{◌≡◌, inl, inr, ℕ, Bool, true, false, is_some, Option, None, Some, IfSome, OnSome, Result, Ok, Err, IfErr, IsErrAnd, List, [], ◌++◌, append-nil, ap, sym, ◌∙◌, refl, subst}
use Rattle.std.specs.Io.KnownBytes.{Appends, Consumes, IsAtEnd}
use Rattle.std.proofs.KnownBytes.{Consumes-nil, Consumes-kept, Consumes-trans}
use Rattle.dm_capture.specs.declared.fault.CaptureFault.{CaptureFault}
use Rattle.dm_capture.specs.Captures.{Progress, packets_of, new_progress}
use Rattle.dm_capture.specs.Laws.{with_piece, RunsJoin, LaterChangesNothing}
use Rattle.dm_capture.specs.Packets.{Captured}
use Rattle.dm_view_lines.specs.declared.put_fault.PutFault.{PutFault}
use Rattle.dm_view_lines.specs.declared.put_fault.PutFault.TheVariants as put
use Rattle.dm_view_lines.specs.declared.run_fault.RunFault.{RunFault}
use Rattle.dm_view_lines.specs.declared.run_fault.RunFault.TheVariants.{Memory, Read, TooLong, Write}
use Rattle.dm_view_lines.specs.Faults.{run_fault}
use Rattle.dm_view_lines.specs.Turns.{Gathers}
use Rattle.dm_trace_view.specs.Feeds.{ReadsPiece, ReadsNoPiece, FileEnds}
use Rattle.dm_trace_view.specs.Packets.{TellsHeld, StopsHeld}
use Rattle.dm_trace_view.specs.Runs.{IsReadTo, SaysFile, FailsFile, StopsIn, StopsFile}
use Rattle.dm_trace_view.proofs.Saying.{Gathering, SoHeld, so_none, so_then, so_stops, so_stops_here}

-- what is known once the octets of a reader are, of a reader that gave some of them
pub on_given : (given mid : Option (List ℕ)) (octets : List ℕ) (P : Type 0) → Consumes given mid octets → OnSome mid P
    → OnSome given P
on_given None mid octets P read known = tt
on_given (Some xs) None octets P read known = absurd read
on_given (Some xs) (Some ys) octets P read known = known

pub none_there : {T : Type 0} (o : Option T) → is_some o ≡ false → o ≡ None
none_there None none = refl
none_there (Some v) none = absurd (cc)

pub run_on : {T : Type 0} (Q : RunFault → Type 0) (r : Result T RunFault) (fault : RunFault)
    → IsErrAnd r (λ f. f ≡ fault) → Q fault → IfErr r Q
run_on Q (Ok v) fault never so = absurd never
run_on Q (Err f) fault is so = subst Q (sym is) so

-- what was gathered where nothing waits is written
written : (old new : Option (List ℕ)) (text : List ℕ) → Gathers old [] new [] text → Appends old new text
written old new text h =
    let Text : List ℕ → Type 0 = λ v. Appends old new v in
    subst Text (sym (h.1 ∙ append-nil h.0)) h.2

module _ {S : Type 0} (style : List ℕ → List ℕ) (Says : S → Captured → S → List ℕ → Type 0) where
  -- what was read so far is said and written
  pub record SoFile (a : S) (now : Progress) (b : S) (given left old new : Option (List ℕ)) : Type 0 where
    pub taken : List ℕ
    pub read : Consumes given left taken
    pub so : SoHeld style Says (with_piece new_progress taken) a now b old [] new []

  module _ (laws : Gathering) (joins : RunsJoin) (stays : LaterChangesNothing) where
    pub file_start : (a : S) (given c : Option (List ℕ)) → SoFile a new_progress a given given c c
    file_start a given c = record {
      taken = [];
      read = Consumes-nil given;
      so = so_none style Says laws new_progress a c [];
    }

    pub file_held : (a m b : S) (now new : Progress) (given left c d e : Option (List ℕ))
        → SoFile a now m given left c d → TellsHeld style Says now m None new b d [] e []
        → SoFile a new b given left c e
    file_held a m b now new given left c d e file h =
        let begun = with_piece new_progress file.taken in
        let To : Progress → Type 0 = λ p. SoHeld style Says begun a p b c [] e [] in
        record {
          taken = file.taken;
          read = file.read;
          so = subst To (sym h.ends.0)
              (so_then style Says laws joins begun now h.end a m b h.items c d e [] [] [] file.so h.lead h.tells);
        }

    -- a piece more was fed
    pub file_fed : (a b : S) (now new : Progress) (given mid left c d : Option (List ℕ)) (end : Bool)
        → SoFile a now b given mid c d → ReadsPiece now mid new left end → SoFile a new b given left c d
    file_fed a b now new given mid left c d end file h =
        let begun = with_piece new_progress file.taken in
        let more = file.taken ++ h.piece in
        let To : Progress → Type 0 = λ p. SoHeld style Says (with_piece new_progress more) a p b c [] d [] in
        record {
          taken = more;
          read = Consumes-trans given mid left file.taken h.piece file.read h.read;
          so = subst To (sym h.fed) (record {
            items = file.so.items;
            lead = stays begun now file.so.items h.piece file.so.lead;
            tells = file.so.tells;
          });
        }

    -- a fault stands in front
    pub file_fault : (a m b : S) (now new : Progress) (fault : CaptureFault) (given left c d e : Option (List ℕ))
        → SoFile a now m given left c d → TellsHeld style Says now m (Some fault) new b d [] e []
        → IfSome given (λ octets. SaysFile style Says a octets (Some fault) b c e)
    file_fault a m b now new fault None left c d e file h = tt
    file_fault a m b now new fault (Some xs) None c d e file h = absurd file.read
    file_fault a m b now new fault (Some xs) (Some ys) c d e file h =
        let begun = with_piece new_progress file.taken in
        let so = so_then style Says laws joins begun now h.end a m b h.items c d e [] [] [] file.so h.lead h.tells in
        record {
          taken = file.taken;
          rest = ys;
          parts = file.read;
          all = λ is. absurd (cc);
          packets = packets_of 0 so.items;
          read = (so.items, h.end, so.lead, refl, h.ends.0, inl h.ends.1);
          text = so.tells.text;
          turns = so.tells.turns;
          written = written c e so.tells.text so.tells.gathered;
        }

    -- what stands behind the packets that are held: nothing, or a fault
    pub file_on : (a m b : S) (now new : Progress) (fault : Option CaptureFault) (given left c d e : Option (List ℕ))
        → SoFile a now m given left c d → TellsHeld style Says now m fault new b d [] e [] → is_some fault ≡ false
        → SoFile a new b given left c e
    file_on a m b now new None given left c d e file h none = file_held a m b now new given left c d e file h
    file_on a m b now new (Some fault) given left c d e file h none = absurd (cc)

    pub file_ends : (a m b : S) (now new : Progress) (fault : Option CaptureFault) (given left c d e : Option (List ℕ))
        → SoFile a now m given left c d → TellsHeld style Says now m fault new b d [] e [] → is_some fault ≡ true
        → IfSome given (λ octets. SaysFile style Says a octets fault b c e)
    file_ends a m b now new None given left c d e file h some = absurd (cc)
    file_ends a m b now new (Some fault) given left c d e file h some =
        file_fault a m b now new fault given left c d e file h

    -- the reader's end
    pub file_end : (a b : S) (now : Progress) (fault : Option CaptureFault) (given left c d : Option (List ℕ))
        → SoFile a now b given left c d → OnSome given (IsAtEnd left) → FileEnds now fault
        → IfSome given (λ octets. SaysFile style Says a octets fault b c d)
    file_end a b now fault None left c d file end h = tt
    file_end a b now fault (Some xs) None c d file end h = absurd file.read
    file_end a b now fault (Some xs) (Some ys) c d file end h = record {
      taken = file.taken;
      rest = [];
      parts = file.read ∙ ap (λ v. file.taken ++ v) end;
      all = λ is. refl;
      packets = packets_of 0 file.so.items;
      read = by fault h;
      text = file.so.tells.text;
      turns = file.so.tells.turns;
      written = written c d file.so.tells.text file.so.tells.gathered;
    } where
      by : (f : Option CaptureFault) → FileEnds now f → IsReadTo file.taken (packets_of 0 file.so.items) f
      by None k = (file.so.items, now, file.so.lead, k.0, refl)
      by (Some other) k = (file.so.items, now, file.so.lead, refl, k.0, inr k.1)

    -- the reader fails
    pub file_failed : (a b : S) (now : Progress) (given left c d : Option (List ℕ)) → SoFile a now b given left c d
        → FailsFile style Says a given left c d
    file_failed a b now given left c d file = record {
      taken = file.taken;
      read = file.read;
      items = file.so.items;
      end = now;
      lead = file.so.lead;
      said = b;
      text = file.so.tells.text;
      turns = file.so.tells.turns;
      written = written c d file.so.tells.text file.so.tells.gathered;
    }

    stops_by : (a : S) (fault : PutFault) (given left c e : Option (List ℕ))
        → IfSome given (λ octets. StopsIn style Says a fault octets c e)
        → StopsFile style Says a (run_fault fault) given left c e
    stops_by a put.Memory given left c e h = h
    stops_by a (put.TooLong number) given left c e h = h
    stops_by a (put.Write error) given left c e h = h

    -- what is said can't be put
    pub file_stops : (a m : S) (now : Progress) (fault : PutFault) (given left c d e : Option (List ℕ))
        → SoFile a now m given left c d → StopsHeld style Says now m fault d [] e []
        → StopsFile style Says a (run_fault fault) given left c e
    file_stops a m now fault given left c d e file h = stops_by a fault given left c e (by given left file.read) where
      by : (g l : Option (List ℕ)) → Consumes g l file.taken → IfSome g (λ octets. StopsIn style Says a fault octets c e)
      by None l read = tt
      by (Some xs) None read = absurd read
      by (Some xs) (Some ys) read = (
        file.taken,
        ys,
        read,
        so_stops style Says laws joins (with_piece new_progress file.taken) now h.end a m h.items fault c d e [] [] []
            file.so h.lead h.stops,
      )

    -- nothing more could be fed
    pub file_unfed : (a b : S) (now new : Progress) (fault : RunFault) (given mid left c d : Option (List ℕ))
        → SoFile a now b given mid c d → ReadsNoPiece fault now mid new left → StopsFile style Says a fault given left c d
    file_unfed a b now new Memory given mid left c d file h =
        by given left (Consumes-kept given mid left file.taken file.read h.unread) where
          by : (g l : Option (List ℕ)) → Consumes g l file.taken
              → IfSome g (λ octets. StopsIn style Says a put.Memory octets c d)
          by None l read = tt
          by (Some xs) None read = absurd read
          by (Some xs) (Some ys) read = (
            file.taken,
            ys,
            read,
            so_stops_here style Says laws joins (with_piece new_progress file.taken) now now a b [] put.Memory c d [] []
                file.so refl,
          )
    file_unfed a b now new (Read error) given mid left c d file h =
        file_failed a b now given left c d (record {
          taken = file.taken;
          read = Consumes-kept given mid left file.taken file.read h.unread;
          so = file.so;
        })
    file_unfed a b now new (TooLong k) given mid left c d file h = absurd h.why
    file_unfed a b now new (Write error) given mid left c d file h = absurd h.why
