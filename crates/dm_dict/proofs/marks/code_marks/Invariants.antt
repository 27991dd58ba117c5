use Rattle.std.proofs.Common.{◌≡◌, length, take}
use Rattle.dm_dict.specs.Marks.{AreMarked}
use Rattle.dm_dict.proofs.marks.code_marks.Given as goal

abbrev pub invariant-loop-place : goal.invariant-loop-place
invariant-loop-place l = (length l.marks ≡ 512) × AreMarked (take l.place l.avps) l.marks
