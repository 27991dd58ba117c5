-- What a read came to.
use Rattle.std.specs.Prelude.{Bool, true, false}
use Rattle.dm_view_lines.specs.declared.buffered_lines.Came.{Came}
use Rattle.dm_view_lines.specs.declared.buffered_lines.Came.TheVariants.{More, End, Enough, Failed}

-- whether more may be said
abbrev pub goes_further : Came → Bool
goes_further More = true
goes_further End = true
goes_further Enough = false
goes_further (Failed error) = true
