-- What the tables keep to.
use Rattle.dm_dict.proofs.dictionary.Dictionary.soundness.Goals as goal

pub returns-clause-sound : goal.returns-clause-sound
returns-clause-sound c = rw (← c.self.view_is) c.self.invariant.dictionary.tables.sound

pub returns-clause-closed : goal.returns-clause-closed
returns-clause-closed c = rw (← c.self.view_is) c.self.invariant.dictionary.closed
