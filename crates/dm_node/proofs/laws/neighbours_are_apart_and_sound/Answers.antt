-- What is kept beside them.
use Rattle.dm_node.proofs.laws.neighbours_are_apart_and_sound.Goals as goal

pub returns : goal.returns
returns c = record { neighbourhood = c.neighbours_are_apart_and_sound.ensures.apart; kept = c.neighbours_are_apart_and_sound.ensures.kept }
