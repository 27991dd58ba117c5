-- What is said of the lines of an input as one stream, line by line.
use Rattle.std.proofs.Common.{◌≡◌, ◌+◌, ◌++◌, ◌∷◌, [], ℕ, List, true, false, Option, Some, None, option_map, is_some, append_assoc, append-nil, ap, sym, ◌∙◌, refl, subst}
use Rattle.dm_framer.specs.declared.fault.FrameFault.{FrameFault}
use Rattle.dm_framer.specs.Laws.{Cuts, FaultStays, WholeFrames}
use Rattle.dm_wire.specs.Codes.{max_message_len}
use Rattle.dm_tables.specs.Definitions.{Definitions}
use Rattle.dm_view_lines.specs.declared.message_reports.Task.{Task}
use Rattle.dm_view_lines.specs.declared.stop.Stop.{Stop}
use Rattle.dm_view_lines.specs.declared.stop.Stop.TheVariants.{Fault, Line}
use Rattle.dm_view_lines.specs.declared.tally.Tally.{Tally}
use Rattle.dm_view_lines.specs.Counts.{tallied, no_lines}
use Rattle.dm_view_lines.specs.Digits.{octets_of_line}
use Rattle.dm_view_lines.specs.Frames.{stream_of, octets_then, bad_line, bad_else, stop_of, SaysFrames}
use Rattle.dm_view_lines.proofs.Pieces.{behind, frames-append}

-- the lines before these, the first of which has number n, are hexadecimal; of their octets this is said, the rest is held
pub record SoFar (task : Task) (d : Definitions) (input left : List (List ℕ)) (n : ℕ) (held old text : List ℕ)
    (tally : Tally) : Type 0 where
  pub octets : List ℕ
  pub joined : stream_of input ≡ octets ++ stream_of left
  pub bad : bad_line 1 input ≡ bad_line n left
  pub so : List ℕ
  pub text_is : text ≡ old ++ so
  pub told : SaysFrames task d 1 octets held None so tally

-- what is said at a line that stands for these octets, and whether the stream stops there
pub record AtLine (task : Task) (d : Definitions) (n : ℕ) (octets : Option (List ℕ)) (held held' text text' : List ℕ)
    (tally tally' : Tally) (fault : Option FrameFault) (stop : Option Stop) : Type 0 where
  pub bad : octets ≡ None → (stop ≡ Some (Line n)) × (tally' ≡ tally) × (text' ≡ text) × (held' ≡ held)
  pub said : (piece : List ℕ) → octets ≡ Some piece → (more : List ℕ) × (told : Tally) × (text' ≡ text ++ more)
      × SaysFrames task d (behind tally) (held ++ piece) held' fault more told × (tally' ≡ tallied tally told)
      × (stop ≡ option_map Fault fault)

-- what is said of a stream, and why it stops
abbrev pub Stopped : Task → Definitions → List (List ℕ) → List ℕ → List ℕ → Tally → Option Stop → Type 0
Stopped task d input old text tally stop =
    (rest more : List ℕ) × (fault : Option FrameFault) × (text ≡ old ++ more)
    × SaysFrames task d 1 (stream_of input) rest fault more tally × (stop ≡ stop_of rest fault (bad_line 1 input))

-- nothing was read
pub so-none : WholeFrames → (task : Task) (d : Definitions) (input left : List (List ℕ)) (held old : List ℕ)
    → input ≡ left → held ≡ [] → SoFar task d input left 1 held old old no_lines
so-none whole task d input left held old same none =
    let Held : List ℕ → Type 0 = λ v. SaysFrames task d 1 [] v None [] no_lines in
    record {
      octets = [];
      joined = ap stream_of same;
      bad = ap (bad_line 1) same;
      so = [];
      text_is = sym (append-nil old);
      told = subst Held (sym none) (record {
        frames = [];
        framed = whole max_message_len [] tt;
        each = (refl, refl);
      });
    }

-- a piece more
joined-next : (task : Task) (d : Definitions) (input left left' : List (List ℕ)) (line : List ℕ) (piece octets : List ℕ)
    → stream_of input ≡ octets ++ stream_of left → left ≡ line ∷ left' → octets_of_line line ≡ Some piece
    → stream_of input ≡ (octets ++ piece) ++ stream_of left'
joined-next task d input left left' line piece octets h at is =
    h ∙ ap (λ l. octets ++ stream_of l) at ∙ ap (λ o. octets ++ octets_then o (stream_of left')) is
    ∙ sym (append_assoc octets piece (stream_of left'))

told-next : Cuts → (task : Task) (d : Definitions) (octets piece held held' : List ℕ) (fault : Option FrameFault)
    (so more : List ℕ) (tally tally' told : Tally) → SaysFrames task d 1 octets held None so tally
    → SaysFrames task d (behind tally) (held ++ piece) held' fault more told → tally' ≡ tallied tally told
    → SaysFrames task d 1 (octets ++ piece) held' fault (so ++ more) tally'
told-next cuts task d octets piece held held' fault so more tally tally' told h k is =
    let Counted : Tally → Type 0 = λ t. SaysFrames task d 1 (octets ++ piece) held' fault (so ++ more) t in
    subst Counted (sym is) (frames-append cuts task d octets piece held held' fault so more tally told h k)

text-next : (old so more text text' : List ℕ) → text ≡ old ++ so → text' ≡ text ++ more → text' ≡ old ++ (so ++ more)
text-next old so more text text' h k = k ∙ ap (λ v. v ++ more) h ∙ append_assoc old so more

-- the stream goes on behind a line
pub so-next : Cuts → (task : Task) (d : Definitions) (input left left' : List (List ℕ)) (line : List ℕ) (n : ℕ)
    (held held' old text text' : List ℕ) (tally tally' : Tally) (fault : Option FrameFault) (stop : Option Stop)
    → left ≡ line ∷ left' → SoFar task d input left n held old text tally
    → AtLine task d n (octets_of_line line) held held' text text' tally tally' fault stop → is_some stop ≡ false
    → SoFar task d input left' (n + 1) held' old text' tally'
so-next cuts task d input left left' line n held held' old text text' tally tally' fault stop at h k going =
    by (octets_of_line line) refl where
      built : (piece : List ℕ) → octets_of_line line ≡ Some piece → (f : Option FrameFault) (more : List ℕ) (told : Tally)
          → text' ≡ text ++ more → SaysFrames task d (behind tally) (held ++ piece) held' f more told
          → tally' ≡ tallied tally told → stop ≡ option_map Fault f → SoFar task d input left' (n + 1) held' old text' tally'
      built piece is (Some f) more told texted said counted stopped = absurd (cc)
      built piece is None more told texted said counted stopped = record {
        octets = h.octets ++ piece;
        joined = joined-next task d input left left' line piece h.octets h.joined at is;
        bad = h.bad ∙ ap (bad_line n) at ∙ ap (λ o. bad_else n o (bad_line (n + 1) left')) is;
        so = h.so ++ more;
        text_is = text-next old h.so more text text' h.text_is texted;
        told = told-next cuts task d h.octets piece held held' None h.so more tally tally' told h.told said counted;
      }

      by : (o : Option (List ℕ)) → octets_of_line line ≡ o → SoFar task d input left' (n + 1) held' old text' tally'
      by None is = absurd (let stopped = (k.bad is).0 in cc)
      by (Some piece) is = let r = k.said piece is in built piece is fault r.0 r.1 r.2 r.3 r.4 r.5

-- it stops at a line
pub so-stop : Cuts → FaultStays → (task : Task) (d : Definitions) (input left left' : List (List ℕ)) (line : List ℕ)
    (n : ℕ) (held held' old text text' : List ℕ) (tally tally' : Tally) (fault : Option FrameFault) (stop : Option Stop)
    → left ≡ line ∷ left' → SoFar task d input left n held old text tally
    → AtLine task d n (octets_of_line line) held held' text text' tally tally' fault stop → is_some stop ≡ true
    → Stopped task d input old text' tally' stop
so-stop cuts stays task d input left left' line n held held' old text text' tally tally' fault stop at h k ended =
    by (octets_of_line line) refl where
      built : (piece : List ℕ) → octets_of_line line ≡ Some piece → (f : Option FrameFault) (more : List ℕ) (told : Tally)
          → text' ≡ text ++ more → SaysFrames task d (behind tally) (held ++ piece) held' f more told
          → tally' ≡ tallied tally told → stop ≡ option_map Fault f → Stopped task d input old text' tally' stop
      built piece is None more told texted said counted stopped = absurd (cc)
      built piece is (Some f) more told texted said counted stopped =
          let later = stream_of left' in
          let all = told-next cuts task d h.octets piece held held' (Some f) h.so more tally tally' told h.told said counted in
          let Whole : List ℕ → Type 0 = λ s. SaysFrames task d 1 s (held' ++ later) (Some f) (h.so ++ more) tally' in (
            held' ++ later,
            h.so ++ more,
            Some f,
            text-next old h.so more text text' h.text_is texted,
            subst Whole (sym (joined-next task d input left left' line piece h.octets h.joined at is)) (record {
              frames = all.frames;
              framed = stays max_message_len (h.octets ++ piece) later all.frames held' f all.framed;
              each = all.each;
            }),
            stopped,
          )

      by : (o : Option (List ℕ)) → octets_of_line line ≡ o → Stopped task d input old text' tally' stop
      by None is =
          let r = k.bad is in
          let whole = h.joined ∙ ap (λ l. h.octets ++ stream_of l) at ∙ ap (λ o. h.octets ++ octets_then o (stream_of left')) is
          ∙ append-nil h.octets in
          let number = h.bad ∙ ap (bad_line n) at ∙ ap (λ o. bad_else n o (bad_line (n + 1) left')) is in
          let Whole : List ℕ → Type 0 = λ s. SaysFrames task d 1 s held None h.so tally' in
          let Counted : Tally → Type 0 = λ t. SaysFrames task d 1 h.octets held None h.so t in (
            held,
            h.so,
            None,
            r.2 ∙ h.text_is,
            subst Whole (sym whole) (subst Counted (sym r.1) h.told),
            r.0 ∙ ap (stop_of held None) (sym number),
          )
      by (Some piece) is = let r = k.said piece is in built piece is fault r.0 r.1 r.2 r.3 r.4 r.5
