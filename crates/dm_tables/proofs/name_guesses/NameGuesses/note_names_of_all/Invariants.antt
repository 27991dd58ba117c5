use Rattle.std.proofs.Common.{take}
use Rattle.dm_tables.specs.Guesses.{AreGuessed}
use Rattle.dm_tables.proofs.name_guesses.NameGuesses.note_names_of_all.Given as goal

abbrev pub invariant-loop-place : goal.invariant-loop-place
invariant-loop-place l = AreGuessed (take l.place l.avps) l.self.places.items
