use Rattle.std.proofs.Common.{refl}
use Rattle.dm_octet_peers.specs.Octets.{octet_peers}
use Rattle.dm_octet_peers.specs.Carrying.{is_app, is_waiting_well}
use Rattle.dm_octet_peers.specs.Laws.{fresh_peer}
use Rattle.dm_octet_peers.proofs.laws.each_octet_run_hands_up_only_arrivals.Goals as goal

pub returns : goal.returns
returns k =
    λ a b hs.
    k.each_run_hands_up_only_arrivals.ensures octet_peers is_app is_waiting_well k.octet_peers_move_as_the_machine.ensures
    k.octet_peers_carry_user_messages.ensures (fresh_peer a) (fresh_peer b) refl refl refl refl hs
