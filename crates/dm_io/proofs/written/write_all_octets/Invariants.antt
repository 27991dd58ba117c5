use Rattle.std.proofs.Common.{◌≡◌, ◌++◌, ℕ, List}
use Rattle.std.specs.Io.KnownBytes.{Appends}
use Rattle.dm_io.proofs.written.write_all_octets.Given as goal

-- what is written and what is left are the text
abbrev pub invariant-loop : goal.invariant-loop
invariant-loop g l =
    (front : List ℕ) × (l.text ≡ front ++ l.rest) × Appends (g.W.Write.contents l.fn.writer)
    (g.W.Write.contents l.writer) front
