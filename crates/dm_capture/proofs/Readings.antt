-- A capture is read in one way.
use Rattle.std.proofs.Common.{◌≡◌, ℕ, inl, inr, List, [], ◌∷◌, ◌++◌, length, drop, refl, sym, ◌∙◌, ap, subst}
use Rattle.std.proofs.lemmas.List.{drop_at}
use Rattle.dm_capture.specs.declared.front_item.Holds.{Holds}
use Rattle.dm_capture.specs.Items.{IsItem, IsPart, HasFrontFault}
use Rattle.dm_capture.specs.Captures.{Progress, HeldItem, ItemsLead, passed}
use Rattle.dm_capture.specs.Laws.{IsStopped}
use Rattle.dm_capture.proofs.One.{one_item}
use Rattle.dm_capture.proofs.Parts.{item_or_part}
use Rattle.dm_capture.proofs.Faults.{item_or_fault}

-- nothing whole stands where a reading stopped
no_item_left : (begun : Progress) (item : HeldItem) (rest : List ℕ) →
    IsItem begun.layout begun.interfaces item.octets item.holds → begun.octets ≡ item.octets ++ rest → IsStopped begun → ⊥
no_item_left begun item rest is at (inl part) =
    item_or_part begun.layout begun.interfaces item.octets rest item.holds is
    (subst (λ (l : List ℕ). IsPart begun.layout l) at part)
no_item_left begun item rest is at (inr (fault, stands)) =
    item_or_fault begun.layout begun.interfaces item.octets rest item.holds fault is
    (subst (λ (l : List ℕ). HasFrontFault begun.layout begun.interfaces l fault) at stands)

same_rest : (s t x y : List ℕ) → s ≡ t → s ++ x ≡ t ++ y → x ≡ y
same_rest s t x y same e =
    sym (drop_at s x (length s) refl) ∙ ap (λ l. drop (length s) l) e ∙
    drop_at t y (length s) (sym (ap (λ l. length l) same))

abbrev item_of : List ℕ → Holds → HeldItem
item_of octets holds = record { octets = octets; holds = holds }

same_item : (f g : HeldItem) → f.octets ≡ g.octets → f.holds ≡ g.holds → f ≡ g
same_item f g e d = ap (λ l. item_of l f.holds) e ∙ ap (λ h. item_of g.octets h) d

same_passed : (begun : Progress) (f g : HeldItem) (x y : List ℕ) → f ≡ g → x ≡ y →
    passed begun (length f.octets) f.holds x ≡ passed begun (length g.octets) g.holds y
same_passed begun f g x y e d =
    ap (λ i. passed begun (length i.octets) i.holds x) e ∙
    ap (λ l. passed begun (length g.octets) g.holds l) d

pub one_reading : (begun end other : Progress) (items others : List HeldItem) → ItemsLead begun items end →
    ItemsLead begun others other → IsStopped end → IsStopped other →
    (items ≡ others) × (end ≡ other)
one_reading begun end other [] [] h k a b = (refl, sym h ∙ k)
one_reading begun end other [] (g ∷ others) h k a b =
    absurd (no_item_left begun g k.1 k.0 k.2 (subst IsStopped (sym h) a))
one_reading begun end other (f ∷ items) [] h k a b =
    absurd (no_item_left begun f h.1 h.0 h.2 (subst IsStopped (sym k) b))
one_reading begun end other (f ∷ items) (g ∷ others) h k a b =
    let joined : f.octets ++ h.1 ≡ g.octets ++ k.1 = sym h.2 ∙ k.2 in
    let same = one_item begun.layout begun.interfaces f.octets g.octets h.1 k.1 f.holds g.holds h.0 k.0 joined in
    let item : f ≡ g = same_item f g same.0 same.1 in
    let next = same_passed begun f g h.1 k.1 item (same_rest f.octets g.octets h.1 k.1 same.0 joined) in
    let later = one_reading (passed begun (length f.octets) f.holds h.1) end other items others h.3
    (subst (λ (p : Progress). ItemsLead p others other) (sym next) k.3) a b in
    (ap (λ i. i ∷ items) item ∙ ap (λ l. g ∷ l) later.0, later.1)
