-- The limits of judging (own).
use Rattle.std.specs.Prelude.{ℕ, suc}
-- how many entries of a rule are counted on the stack while its AVPs are judged, and how many further ones in one walk,
-- as the code has it
pub use Rattle.dm_dict.specs.declared.counts.TheConstants.{MANY_ENTRIES as many_entries}
pub use Rattle.dm_dict.specs.declared.counts.TheConstants.{WINDOW as window}
pub use Rattle.dm_dict.specs.declared.counts.TheConstants.{MIDDLE_WINDOW as middle_window}

-- how many groups may stand inside each other
abbrev pub group_limit : ℕ
group_limit = 8

-- the lists of a message that are judged: its own, and those of the groups inside each other
abbrev pub list_limit : ℕ
list_limit = suc group_limit

-- where a counter stops
abbrev pub counter_limit : ℕ
counter_limit = 65535

-- the entries of a rule among which a link is sooner found one by one than by its hash
abbrev pub short_rule : ℕ
short_rule = 16

-- the command of the rule of every answer with the E bit
abbrev pub any_command : ℕ
any_command = 0

-- the slots of the seats of a rule
abbrev pub seat_slots : ℕ
seat_slots = 128

-- the slots by which commands are guessed
abbrev pub head_slots : ℕ
head_slots = 64

-- the marks of the codes of a dictionary
abbrev pub mark_slots : ℕ
mark_slots = 512

-- the last place of a definition that a mark tells
abbrev pub last_marked : ℕ
last_marked = 65534
