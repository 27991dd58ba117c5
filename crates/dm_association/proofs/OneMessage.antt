-- User messages don't overlap.
use Rattle.std.proofs.Common.{◌≡◌, ◌≤◌, ◌<◌, inl, inr, ℕ, suc, ◌+◌, ◌-◌, true≢false, Option, refl, sym, ◌∙◌, ap, arith}
use Rattle.std.proofs.lemmas.Bool.{cases_lt}
use Rattle.dm_association.specs.declared.marks.ChunkMarks.{ChunkMarks}
use Rattle.dm_association.specs.Fragments.{IsUserMessage}
use Rattle.dm_association.specs.Laws.{OneUserMessage}
use Rattle.dm_association.proofs.MessageRuns.{begins, ends, differ, same}

-- one that has a chunk of another doesn't begin behind that's first
no_later_first : (seen : ℕ → Option ChunkMarks) (k first count begin size : ℕ) → IsUserMessage seen first count →
    k < first + count → IsUserMessage seen begin size → begin ≤ k → first < begin → ⊥
no_later_first seen k first count begin size one behind other low less =
    let said = sym (one.each begin (omega arith) (omega arith)) ∙ other.each begin (omega arith) (omega (arith, other.some)) in
    true≢false (sym (same begin begin refl) ∙ sym (ap begins said) ∙ differ begin first (λ e. omega arith))

-- nor does it end before that's last
no_earlier_last : (seen : ℕ → Option ChunkMarks) (k first count begin size : ℕ) → IsUserMessage seen first count →
    first ≤ k → IsUserMessage seen begin size → k < begin + size → begin ≤ k → begin + size < first + count → ⊥
no_earlier_last seen k first count begin size one low other behind from less =
    let last = begin + size - 1 in
    let next : suc last ≡ begin + size = omega arith in
    let said = sym (one.each last (omega arith) (omega arith)) ∙ other.each last (omega arith) (omega arith) in
    true≢false (sym (same (suc last) (begin + size) next) ∙ sym (ap ends said)
    ∙ differ (suc last) (first + count) (λ e. omega arith))

not_less : (m n : ℕ) → (m < n → ⊥) → n ≤ m
not_less m n h = elim (cases_lt m n) [ inl less ↦ absurd (h less) | inr more ↦ more ]

pub one_user_message : OneUserMessage
one_user_message seen k first count begin size one low behind other from till =
    let a = not_less first begin (no_later_first seen k first count begin size one behind other from) in
    let b = not_less begin first (no_later_first seen k begin size first count other till one low) in
    let c = not_less (begin + size) (first + count)
    (no_earlier_last seen k first count begin size one low other till from) in
    let d = not_less (first + count) (begin + size)
    (no_earlier_last seen k begin size first count other from one behind low) in
    (omega (arith, a, b), omega (arith, a, b, c, d))
