-- Octets in order behind those of the framer.
use Rattle.std.proofs.Common.{◌≡◌, ℕ, List, [], ◌∷◌, ◌++◌, refl, ◌∙◌, ap, sym, append_assoc}
use Rattle.dm_flows.specs.Windows.{WindowState, HandsTo, TakesThrough}

hands_behind : (a : List ℕ) (old new : WindowState) (before after : List ℕ) → HandsTo old before new after →
    HandsTo old (a ++ before) new (a ++ after)
hands_behind a old new before after h =
    (h.0, h.1, ap (λ l. a ++ l) h.2 ∙ sym (append_assoc a before h.0))

pub through_behind : (a : List ℕ) (old new : WindowState) (n : ℕ) (s before after : List ℕ) →
    TakesThrough old n s before new after → TakesThrough old n s (a ++ before) new (a ++ after)
through_behind a old new n s before after h = record {
  mid = h.mid;
  takes = h.takes;
  hands = hands_behind a h.mid new before after h.hands;
}

pub none_in_front : (a b : List ℕ) → a ++ b ≡ [] → a ≡ []
none_in_front [] b h = refl
none_in_front (x ∷ a) b h = cc
