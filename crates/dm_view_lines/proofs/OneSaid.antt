-- What is said of lines is one text.
use Rattle.std.proofs.Common.{◌≡◌, ◌+◌, ◌++◌, ◌∷◌, [], inl, inr, Option, Some, None, ℕ, List, Bool, nat_eq, ap, sym, ◌∙◌, refl, map}
use Rattle.std.specs.Str.Lines.{lines}
use Rattle.dm_wire.specs.OneAnswer.{OneMessage, OneRefusal, NoMessageRefused}
use Rattle.dm_tables.specs.Definitions.{Definitions}
use Rattle.dm_view_lines.specs.declared.message_reports.Task.{Task}
use Rattle.dm_view_lines.specs.declared.tally.Tally.{Tally}
use Rattle.dm_view_lines.specs.Colours.{SaysStyled, styled}
use Rattle.dm_view_lines.specs.Counts.{tallied, tally_of}
use Rattle.dm_view_lines.specs.Digits.{octets_of_line}
use Rattle.dm_view_lines.specs.Fronts.{SaidFront, by_number}
use Rattle.dm_view_lines.specs.Lines.{SaysLine, SaysEach, Says, counts_line}
use Rattle.dm_view_lines.specs.Said.{message_answer, refused_said, SaysFronted, SaysOctets}

-- what octets say is one thing
pub record OctetLaws : Type 0 where
  pub one_message : OneMessage
  pub one_refusal : OneRefusal
  pub no_message_refused : NoMessageRefused

module _ (laws : OctetLaws) where
  one_fronted : (task : Task) (d : Definitions) (front : SaidFront) (s text other : List ℕ) (good fine : Bool)
      → SaysFronted task d front s text good → SaysFronted task d front s other fine → (text ≡ other) × (good ≡ fine)
  one_fronted task d front s text other good fine (inl h) (inl k) =
      let same = (laws.one_message h.0 k.0 s s [] [] h.1 k.1 refl).0 in (
        h.2 ∙ ap (λ m. (message_answer task d front m).0) same ∙ sym k.2,
        h.3 ∙ ap (λ m. (message_answer task d front m).1) same ∙ sym k.3,
      )
  one_fronted task d front s text other good fine (inl h) (inr k) = absurd (laws.no_message_refused h.0 s k.0 h.1 k.1)
  one_fronted task d front s text other good fine (inr h) (inl k) = absurd (laws.no_message_refused k.0 s h.0 k.1 h.1)
  one_fronted task d front s text other good fine (inr h) (inr k) = (
    h.2 ∙ ap (refused_said task d front s) (laws.one_refusal s h.0 k.0 h.1 k.1) ∙ sym k.2,
    h.3 ∙ sym k.3,
  )

  one_octets : (task : Task) (d : Definitions) (n : ℕ) (s text other : List ℕ) (good fine : Bool)
      → SaysOctets task d n s text good → SaysOctets task d n s other fine → (text ≡ other) × (good ≡ fine)
  one_octets task d n s text other good fine h k = one_fronted task d (by_number n) s text other good fine h k

  one_line : (task : Task) (d : Definitions) (n : ℕ) (octets : Option (List ℕ)) (text other : List ℕ)
      (v w : Option Bool) → SaysLine task d n octets text v → SaysLine task d n octets other w → (text ≡ other) × (v ≡ w)
  one_line task d n None text other v w h k = (h.0 ∙ sym k.0, h.1 ∙ sym k.1)
  one_line task d n (Some []) text other v w h k = (h.0 ∙ sym k.0, h.1 ∙ sym k.1)
  one_line task d n (Some (b ∷ s)) text other v w h k =
      let same = one_octets task d n (b ∷ s) text other h.0 k.0 h.1 k.1 in
      (same.0, h.2 ∙ ap Some same.1 ∙ sym k.2)

  one_each : (task : Task) (d : Definitions) (n : ℕ) (l : List (Option (List ℕ))) (text other : List ℕ) (t u : Tally)
      → SaysEach task d n l text t → SaysEach task d n l other u → (text ≡ other) × (t ≡ u)
  one_each task d n [] text other t u h k = (h.0 ∙ sym k.0, h.1 ∙ sym k.1)
  one_each task d n (line ∷ l) text other t u h k =
      let head = one_line task d n line h.first k.first h.verdict k.verdict h.line k.line in
      let tail = one_each task d (n + 1) l h.rest k.rest h.others k.others h.behind k.behind in (
        h.text_is ∙ ap (λ v. v ++ h.rest) head.0 ∙ ap (λ v. k.first ++ v) tail.0 ∙ sym k.text_is,
        h.tally_is ∙ ap (λ v. tallied (tally_of v) h.others) head.1 ∙ ap (λ v. tallied (tally_of k.verdict) v) tail.1
            ∙ sym k.tally_is,
      )

  one_said : (task : Task) (d : Definitions) (input text other : List ℕ) (good fine : Bool)
      → Says task d input text good → Says task d input other fine → (text ≡ other) × (good ≡ fine)
  one_said task d input text other good fine h k =
      let same = one_each task d 1 (map octets_of_line (lines input)) h.0 k.0 h.1 k.1 h.2 k.2 in (
        h.3 ∙ ap (λ v. v ++ counts_line task h.1) same.0 ∙ ap (λ v. k.0 ++ counts_line task v) same.1 ∙ sym k.3,
        h.4 ∙ ap (λ v. nat_eq v.bad 0) same.1 ∙ sym k.4,
      )

  -- an input has at most one text, and is either good or not
  pub one_styled : (coloured : Bool) (task : Task) (d : Definitions) (input text other : List ℕ) (good fine : Bool)
      → SaysStyled coloured task d input text good → SaysStyled coloured task d input other fine
      → (text ≡ other) × (good ≡ fine)
  one_styled coloured task d input text other good fine h k =
      let same = one_said task d input h.0 k.0 good fine h.1 k.1 in
      (h.2 ∙ ap (styled coloured task) same.0 ∙ sym k.2, same.1)
