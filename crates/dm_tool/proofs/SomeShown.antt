-- For messages in hexadecimal something is printed.
use Rattle.std.proofs.Common.{◌≡◌, ◌⊎◌, inl, inr, ℕ, Bool, true, false, ◌&&◌, List, [], ◌∷◌, ◌++◌, Option, Some, None}
use Rattle.std.proofs.Common.{MatchOption, Result, Ok, Err, codes, ap, refl}
use Rattle.std.specs.Result.{result_ok}
use Rattle.hex.specs.Hex.{decode_of, IsBytes}
use Rattle.hex.proofs.HexLemmas.{decode_of-ok}
use Rattle.dm_wire.specs.declared.message.Message.{Message}
use Rattle.dm_wire.specs.declared.fault.WireFault.{WireFault}
use Rattle.dm_wire.specs.Spelling.{SpellsMessage}
use Rattle.dm_wire.specs.Refusal.{Refuses}
use Rattle.dm_wire.specs.OneAnswer.{MessageOrFault}
use Rattle.dm_dict_text.specs.declared.fault.DictFault.{DictFault}
use Rattle.dm_tables.specs.Definitions.{Definitions}
use Rattle.dm_dict_text.specs.Outcome.{Defines, IsFirstFault}
use Rattle.dm_dict_text.specs.OneOutcome.{SomeOutcome}
use Rattle.dm_text.specs.Hexadecimal.{without_spaces, line_octets}
use Rattle.dm_text.specs.Lines.{content_lines}
use Rattle.dm_tool.specs.Text.{fault_text}
use Rattle.dm_tool.specs.HexLines.{PrintsMessage, PrintsFault, PrintsNoHex, PrintsLine, PrintsLines, PrintsAll}
use Rattle.dm_tool.specs.Check.{check_answer, dictionary_fault_text}
use Rattle.dm_tool.specs.Divided.{dictionary_part, message_part}
use Rattle.dm_tool.proofs.OneChecked.{Under, Nothing}

bytes_of : {E : Type 0} (r : Result (List ℕ) E) (octets : List ℕ) → result_ok r ≡ Some octets → r ≡ Ok octets
bytes_of (Ok bytes) octets is = let same : bytes ≡ octets = cc in ap Ok same
bytes_of (Err e) octets is = absurd (cc)

module _ (message_or_fault : MessageOrFault) where
  some_octets : (answer : Message → List ℕ × Bool) (octets : List ℕ) → IsBytes octets
      → (text : List ℕ) × (good : Bool) × (PrintsMessage answer octets text good ⊎ PrintsFault octets text good)
  some_octets answer octets bytes = by (message_or_fault octets bytes) where
    by : ((m : Message) × SpellsMessage m octets) ⊎ ((f : WireFault) × Refuses octets f)
        → (text : List ℕ) × (good : Bool) × (PrintsMessage answer octets text good ⊎ PrintsFault octets text good)
    by (inl h) = ((answer h.0).0, (answer h.0).1, inl (h.0, h.1, refl, refl))
    by (inr h) = (fault_text h.0 ++ 10 ∷ [], false, inr (h.0, h.1, refl, refl))

  some_line : (answer : Message → List ℕ × Bool) (line : List ℕ)
      → (text : List ℕ) × (good : Bool) × PrintsLine answer line text good
  some_line answer line = by (line_octets line) refl where
    by : (o : Option (List ℕ)) → line_octets line ≡ o
        → (text : List ℕ) × (good : Bool) ×
        MatchOption o (PrintsNoHex text good)
        (λ octets. PrintsMessage answer octets text good ⊎ PrintsFault octets text good)
    by None is = (codes "fault hex" ++ 10 ∷ [], false, (refl, refl))
    by (Some octets) is =
        some_octets answer octets
        (decode_of-ok (without_spaces line) octets (bytes_of (decode_of (without_spaces line)) octets is)).3

  some_lines : (answer : Message → List ℕ × Bool) (l : List (List ℕ))
      → (text : List ℕ) × (good : Bool) × PrintsLines answer l text good
  some_lines answer [] = ([], true, (refl, refl))
  some_lines answer (line ∷ l) =
      let first = some_line answer line in
      let later = some_lines answer l in (
        first.0 ++ later.0,
        first.1 && later.1,
        record {
          first = first.0;
          rest = later.0;
          fine = first.1;
          others = later.1;
          head = first.2;
          tail = later.2;
          text_is = refl;
          good_is = refl;
        },
      )

  pub some_shown : (answer : Message → List ℕ × Bool) (input : List ℕ)
      → (text : List ℕ) × (good : Bool) × PrintsAll answer input text good
  some_shown answer input = some_lines answer (content_lines input)

  pub some_checked : SomeOutcome → (base : Definitions) (input : List ℕ)
      → (text : List ℕ) × (good : Bool) × (Under base input text good ⊎ Nothing base input text good)
  some_checked outcome base input = by (outcome (dictionary_part input) base) where
    by : ((d : Definitions) × Defines (dictionary_part input) base d) ⊎
        ((f : DictFault) × IsFirstFault (dictionary_part input) base f)
        → (text : List ℕ) × (good : Bool) × (Under base input text good ⊎ Nothing base input text good)
    by (inl h) =
        let shown = some_shown (check_answer h.0) (message_part input) in
        (shown.0, shown.1, inl (h.0, h.1, shown.2))
    by (inr h) = (dictionary_fault_text h.0 ++ 10 ∷ [], false, inr (h.0, h.1, refl, refl))
