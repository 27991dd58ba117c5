-- Two texts, one behind the other, are one text where each of them is.
use Rattle.std.proofs.Common.{◌≡◌, ◌++◌, ◌&&◌, ℕ, List, Bool, ap, sym, ◌∙◌}
use Rattle.dm_tool.specs.Joined.{Joined}

-- at most one text, and it is either good or not
abbrev pub IsOne : (List ℕ → Bool → Type 0) → Type 0
IsOne Texts =
    (text other : List ℕ) (good fine : Bool) → Texts text good → Texts other fine → (text ≡ other) × (good ≡ fine)

pub one_joined : (Head Tail : List ℕ → Bool → Type 0) → IsOne Head → IsOne Tail → IsOne (Joined Head Tail)
one_joined Head Tail one_head one_tail text other good fine h k =
    let head = one_head h.first k.first h.fine k.fine h.head k.head in
    let tail = one_tail h.rest k.rest h.others k.others h.tail k.tail in (
      h.text_is ∙ ap (λ v. v ++ h.rest) head.0 ∙ ap (λ v. k.first ++ v) tail.0 ∙ sym k.text_is,
      h.good_is ∙ ap (λ v. v && h.others) head.1 ∙ ap (λ v. k.fine && v) tail.1 ∙ sym k.good_is,
    )
