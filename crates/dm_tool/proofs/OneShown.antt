-- What is printed for messages in hexadecimal is one text.
use Rattle.std.proofs.Common.{◌≡◌, ◌++◌, ◌∷◌, [], ◌⊎◌, inl, inr, Option, Some, None, MatchOption, ℕ, List, Bool, ap}
use Rattle.std.proofs.Common.{sym, ◌∙◌, refl}
use Rattle.dm_text.specs.Hexadecimal.{line_octets}
use Rattle.dm_text.specs.Lines.{content_lines}
use Rattle.dm_wire.specs.declared.message.Message.{Message}
use Rattle.dm_wire.specs.OneAnswer.{OneMessage, OneRefusal, NoMessageRefused}
use Rattle.dm_tool.specs.Text.{fault_text}
use Rattle.dm_tool.specs.HexLines.{PrintsMessage, PrintsFault, PrintsNoHex, PrintsLine, PrintsLines, PrintsAll}
use Rattle.dm_tool.proofs.Joins.{one_joined}

-- what octets say is one thing
pub record OctetLaws : Type 0 where
  pub one_message : OneMessage
  pub one_refusal : OneRefusal
  pub no_message_refused : NoMessageRefused

module _ (laws : OctetLaws) where
  -- octets that are printed as a message, as a message
  one_message_text : (answer : Message → List ℕ × Bool) (octets text other : List ℕ) (good fine : Bool)
      → PrintsMessage answer octets text good → PrintsMessage answer octets other fine → (text ≡ other) × (good ≡ fine)
  one_message_text answer octets text other good fine h k =
      let same = (laws.one_message h.0 k.0 octets octets [] [] h.1 k.1 refl).0 in
      (h.2 ∙ ap (λ m. (answer m).0) same ∙ sym k.2, h.3 ∙ ap (λ m. (answer m).1) same ∙ sym k.3)

  one_fault_text : (octets text other : List ℕ) (good fine : Bool) → PrintsFault octets text good
      → PrintsFault octets other fine → (text ≡ other) × (good ≡ fine)
  one_fault_text octets text other good fine h k =
      (h.2 ∙ ap (λ f. fault_text f ++ 10 ∷ []) (laws.one_refusal octets h.0 k.0 h.1 k.1) ∙ sym k.2, h.3 ∙ sym k.3)

  one_octets_text : (answer : Message → List ℕ × Bool) (octets text other : List ℕ) (good fine : Bool)
      → PrintsMessage answer octets text good ⊎ PrintsFault octets text good
      → PrintsMessage answer octets other fine ⊎ PrintsFault octets other fine → (text ≡ other) × (good ≡ fine)
  one_octets_text answer octets text other good fine (inl h) (inl k) =
      one_message_text answer octets text other good fine h k
  one_octets_text answer octets text other good fine (inl h) (inr k) =
      absurd (laws.no_message_refused h.0 octets k.0 h.1 k.1)
  one_octets_text answer octets text other good fine (inr h) (inl k) =
      absurd (laws.no_message_refused k.0 octets h.0 k.1 h.1)
  one_octets_text answer octets text other good fine (inr h) (inr k) = one_fault_text octets text other good fine h k

  one_line_text : (answer : Message → List ℕ × Bool) (line text other : List ℕ) (good fine : Bool)
      → PrintsLine answer line text good → PrintsLine answer line other fine → (text ≡ other) × (good ≡ fine)
  one_line_text answer line text other good fine = by (line_octets line) where
    by : (o : Option (List ℕ))
        → MatchOption o (PrintsNoHex text good)
        (λ octets. PrintsMessage answer octets text good ⊎ PrintsFault octets text good)
        → MatchOption o (PrintsNoHex other fine)
        (λ octets. PrintsMessage answer octets other fine ⊎ PrintsFault octets other fine) →
        (text ≡ other) × (good ≡ fine)
    by None h k = (h.0 ∙ sym k.0, h.1 ∙ sym k.1)
    by (Some octets) h k = one_octets_text answer octets text other good fine h k

  one_lines_text : (answer : Message → List ℕ × Bool) (l : List (List ℕ)) (text other : List ℕ) (good fine : Bool)
      → PrintsLines answer l text good → PrintsLines answer l other fine → (text ≡ other) × (good ≡ fine)
  one_lines_text answer [] text other good fine h k = (h.0 ∙ sym k.0, h.1 ∙ sym k.1)
  one_lines_text answer (line ∷ l) text other good fine h k =
      one_joined (PrintsLine answer line) (PrintsLines answer l) (one_line_text answer line)
      (one_lines_text answer l) text other good fine h k

  -- an input has at most one text, and is either good or not
  pub one_text : (answer : Message → List ℕ × Bool) (input text other : List ℕ) (good fine : Bool)
      → PrintsAll answer input text good → PrintsAll answer input other fine → (text ≡ other) × (good ≡ fine)
  one_text answer input = one_lines_text answer (content_lines input)
