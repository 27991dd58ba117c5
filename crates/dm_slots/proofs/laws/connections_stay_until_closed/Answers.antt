-- The law as it is proved of intakes.
use Rattle.dm_slots.proofs.Held.{there_changed, there_with, there_opened, itself_opened, there_raised}
use Rattle.dm_slots.proofs.Staying.{left_unclosed, left_unshut}
use Rattle.dm_slots.proofs.laws.connections_stay_until_closed.Goals as goal

pub returns-clause-opened : goal.returns-clause-opened
returns-clause-opened c = λ max d f. (itself_opened max d f, λ e is. there_opened max d e f is)

pub returns-clause-changed : goal.returns-clause-changed
returns-clause-changed c = λ d change f e is. there_changed d e change f is

pub returns-clause-told : goal.returns-clause-told
returns-clause-told c = λ d i f e is. there_with d e i f is

pub returns-clause-raised : goal.returns-clause-raised
returns-clause-raised c = λ most p f e is. there_raised most e p f is

pub returns-clause-closed : goal.returns-clause-closed
returns-clause-closed c = left_unclosed

pub returns-clause-shut : goal.returns-clause-shut
returns-clause-shut c = left_unshut
