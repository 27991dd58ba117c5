-- Something is said of each input.
use Rattle.std.proofs.Common.{◌≡◌, ◌⊎◌, inl, inr, ◌+◌, ◌++◌, ◌∷◌, [], Option, Some, None, Result, Ok, Err, ℕ, List, Bool, false, nat_eq, codes, ap, refl}
use Rattle.std.specs.Result.{result_ok}
use Rattle.std.specs.Str.Lines.{lines}
use Rattle.hex.specs.Hex.{decode_of, IsBytes}
use Rattle.hex.proofs.HexLemmas.{decode_of-ok}
use Rattle.dm_wire.specs.declared.message.Message.{Message}
use Rattle.dm_wire.specs.declared.fault.WireFault.{WireFault}
use Rattle.dm_wire.specs.OneAnswer.{MessageOrFault}
use Rattle.dm_wire.specs.Refusal.{Refuses}
use Rattle.dm_wire.specs.Spelling.{SpellsMessage}
use Rattle.dm_tables.specs.Definitions.{Definitions}
use Rattle.dm_view_lines.specs.declared.message_reports.Task.{Task}
use Rattle.dm_view_lines.specs.declared.tally.Tally.{Tally}
use Rattle.dm_view_lines.specs.Colours.{SaysStyled, styled}
use Rattle.dm_view_lines.specs.Counts.{no_lines, tallied, tally_of}
use Rattle.dm_view_lines.specs.Digits.{line_digits, octets_of_line}
use Rattle.dm_view_lines.specs.Fronts.{by_number}
use Rattle.dm_view_lines.specs.Lines.{SaysLine, SaysLines, counts_line}
use Rattle.dm_view_lines.specs.Said.{message_answer, bad_said, refused_said, SaysOctets}

bytes_of : {E : Type 0} (r : Result (List ℕ) E) (octets : List ℕ) → result_ok r ≡ Some octets → r ≡ Ok octets
bytes_of (Ok bytes) octets is = let same : bytes ≡ octets = cc in ap Ok same
bytes_of (Err e) octets is = absurd (cc)

module _ (message_or_fault : MessageOrFault) where
  some_octets : (task : Task) (d : Definitions) (n : ℕ) (s : List ℕ) → IsBytes s
      → (text : List ℕ) × (good : Bool) × SaysOctets task d n s text good
  some_octets task d n s bytes = by (message_or_fault s bytes) where
    by : ((m : Message) × SpellsMessage m s) ⊎ ((f : WireFault) × Refuses s f)
        → (text : List ℕ) × (good : Bool) × SaysOctets task d n s text good
    by (inl h) = (
      (message_answer task d (by_number n) h.0).0,
      (message_answer task d (by_number n) h.0).1,
      inl (h.0, h.1, refl, refl),
    )
    by (inr h) = (refused_said task d (by_number n) s h.0, false, inr (h.0, h.1, refl, refl))

  some_line : (task : Task) (d : Definitions) (n : ℕ) (line : List ℕ)
      → (text : List ℕ) × (verdict : Option Bool) × SaysLine task d n (octets_of_line line) text verdict
  some_line task d n line = by (octets_of_line line) refl where
    by : (o : Option (List ℕ)) → octets_of_line line ≡ o
        → (text : List ℕ) × (verdict : Option Bool) × SaysLine task d n o text verdict
    by None is = (bad_said task n (codes "no hexadecimal"), Some false, (refl, refl))
    by (Some []) is = ([], None, (refl, refl))
    by (Some (b ∷ s)) is =
        let said = some_octets task d n (b ∷ s)
        (decode_of-ok (line_digits line) (b ∷ s) (bytes_of (decode_of (line_digits line)) (b ∷ s) is)).3 in
        (said.0, Some said.1, (said.1, said.2, refl))

  some_lines : (task : Task) (d : Definitions) (n : ℕ) (l : List (List ℕ))
      → (text : List ℕ) × (tally : Tally) × SaysLines task d n l text tally
  some_lines task d n [] = ([], no_lines, (refl, refl))
  some_lines task d n (line ∷ l) =
      let first = some_line task d n line in
      let later = some_lines task d (n + 1) l in (
        first.0 ++ later.0,
        tallied (tally_of first.1) later.1,
        record {
          first = first.0;
          rest = later.0;
          verdict = first.1;
          others = later.1;
          line = first.2;
          behind = later.2;
          text_is = refl;
          tally_is = refl;
        },
      )

  -- of each input a text is said, and it is good or not
  pub some_styled : (coloured : Bool) (task : Task) (d : Definitions) (input : List ℕ)
      → (text : List ℕ) × (good : Bool) × SaysStyled coloured task d input text good
  some_styled coloured task d input =
      let said = some_lines task d 1 (lines input) in
      let plain = said.0 ++ counts_line task said.1 in (
        styled coloured task plain,
        nat_eq said.1.bad 0,
        (plain, (said.0, said.1, said.2, refl, refl), refl),
      )
