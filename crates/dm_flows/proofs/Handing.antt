-- Octets that are handed out one by one.
use Rattle.std.proofs.Common.{ℕ, List, [], refl, sym, append-nil}
use Rattle.dm_flows.specs.Windows.{WindowState, HandsTo}

pub hands_none : (old : WindowState) (before : List ℕ) → HandsTo old before old before
hands_none old before = (
  [],
  record { held = refl; next = refl },
  sym (append-nil before),
)
