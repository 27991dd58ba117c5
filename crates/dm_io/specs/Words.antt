-- The words of a command line that can't be had.
use Rattle.std.specs.Prelude.{Option, None, Some}
use Rattle.dm_io.specs.declared.words.WordsFault.{WordsFault}
use Rattle.dm_io.specs.declared.words.WordsFault.TheVariants.{NotText, NoMemory}

-- what a program comes to without them: one that isn't UTF-8 asks for no run, and for want of memory it comes to this
abbrev pub without_words : {T : Type 0} → T → WordsFault → Option T
without_words want NotText = None
without_words want NoMemory = Some want
