-- What is pending on connections, let go one by one.
use Rattle.std.proofs.Common.{◌≡◌, ◌<◌, ◌++◌, ◌∷◌, [], ℕ, ◌+◌, ◌-◌, ◌^◌, min, arith, ap, sym, ◌∙◌}
use Rattle.dm_connections.specs.declared.ends.Ends.{Ends}
use Rattle.dm_connections.specs.Held.{HeldByEnds, all_octets}
use Rattle.dm_trace_view.specs.Traces.{more_of}

module _ {C : Type 0} (pending_in : C → ℕ) where
  last_pending : (held : HeldByEnds C) (gone : Ends × C)
      → all_octets pending_in (held ++ gone ∷ []) ≡ all_octets pending_in held + pending_in gone.1
  last_pending [] gone = omega arith
  last_pending (entry ∷ held) gone = omega (arith, last_pending held gone)

  -- so many more, and then more, up to a bound
  then_more : (n a b cap : ℕ) → min (min (n + b) cap + a) cap ≡ min (n + (a + b)) cap
  then_more n a b cap = omega arith

  -- one is let go and counted
  pub pending_next : (old new : HeldByEnds C) (gone : Ends × C) (n m : ℕ) → old ≡ new ++ gone ∷ []
      → m ≡ more_of n (pending_in gone.1)
      → more_of m (all_octets pending_in new) ≡ more_of n (all_octets pending_in old)
  pending_next old new gone n m last counted =
      ap (λ (k : ℕ). more_of k (all_octets pending_in new)) counted
      ∙ then_more n (all_octets pending_in new) (pending_in gone.1) (2 ^ 64 - 1)
      ∙ ap (more_of n) (sym (ap (λ (l : HeldByEnds C). all_octets pending_in l) last ∙ last_pending new gone))

  -- none is held any more
  pub pending_none : (held : HeldByEnds C) (n : ℕ) → held ≡ [] → n < 2 ^ 64 → n ≡ more_of n (all_octets pending_in held)
  pending_none held n none fits =
      let same : n ≡ min (n + 0) (2 ^ 64 - 1) = omega arith in
      same ∙ ap (λ (l : HeldByEnds C). more_of n (all_octets pending_in l)) (sym none)

-- what was counted fits
pub more_fits : (n m more : ℕ) → n ≡ more_of m more → n < 2 ^ 64
more_fits n m more counted = omega arith
