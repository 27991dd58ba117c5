use Rattle.dm_two_peers.proofs.Counting.{each_piece_counts_proof}
use Rattle.dm_two_peers.proofs.Wholes.{piece_adds_up, loss_adds_up}
use Rattle.dm_two_peers.proofs.laws.cutting_messages_makes_no_difference.Goals as goal

pub returns-clause-pieces : goal.returns-clause-pieces
returns-clause-pieces g c = λ m w d s l x more k low front. piece_adds_up m w d s l x more k low front

pub returns-clause-counts : goal.returns-clause-counts
returns-clause-counts g c = each_piece_counts_proof

pub returns-clause-losses : goal.returns-clause-losses
returns-clause-losses g c = loss_adds_up
