use Rattle.dm_octet_peers.proofs.UserMessages.{octets_carry}
use Rattle.dm_octet_peers.proofs.laws.octet_peers_carry_user_messages.Goals as goal

pub returns : goal.returns
returns c =
    octets_carry c.shaped_cores_have_eight_forms.ensures.formed c.few_steps_stand_for_all.ensures
    c.connection_changes_and_orders_are_allowed.ensures
    c.one_open_connection_carries_user_messages.ensures.up c.one_open_connection_carries_user_messages.ensures.each
