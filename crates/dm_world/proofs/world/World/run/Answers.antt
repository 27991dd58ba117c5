use Rattle.std.proofs.Common.{◌++◌, map, take}
use Rattle.dm_octet_peers.specs.Octets.{octet_peers}
use Rattle.dm_world.specs.Happening.{as_happening}
use Rattle.dm_world.specs.Delivering.{new_world}
use Rattle.dm_world.proofs.Pasts.{past_goes_on, past_delivers, past_closed_or_open}
use Rattle.dm_world.proofs.world.World.run.Goals as goal

pub returns-clause-ends : goal.returns-clause-ends
returns-clause-ends c =
    (c.peers_of_sound_worlds_agree.ensures octet_peers c.apply_up_to_fault-ended.new.self
    c.every_world_is_sound_and_paired-2.ensures.sound).ends_are_held

pub returns-clause-held : goal.returns-clause-held
returns-clause-held c =
    (c.peers_of_sound_worlds_agree.ensures octet_peers c.apply_up_to_fault-ended.new.self
    c.every_world_is_sound_and_paired-2.ensures.sound).held_are_links

pub returns-clause-matched : goal.returns-clause-matched
returns-clause-matched c =
    (c.peers_of_sound_worlds_agree.ensures octet_peers c.apply_up_to_fault-ended.new.self
    c.every_world_is_sound_and_paired-2.ensures.sound).open_is_matched

pub returns-clause-joined : goal.returns-clause-joined
returns-clause-joined c quiet =
    c.quiet_octet_peers_are_closed_or_joined.ensures c.apply_up_to_fault-ended.new.self c.every_world_is_sound_and_paired-2.ensures.sound
    c.every_world_is_sound_and_paired-2.ensures.peers quiet

pub returns-clause-can_open : goal.returns-clause-can_open
returns-clause-can_open c =
    c.each_octet_world_can_restart_and_open.ensures c.apply_up_to_fault-ended.new.self c.every_world_is_sound_and_paired-2.ensures.sound
    c.every_world_is_sound_and_paired-2.ensures.peers

pub returns-clause-past : goal.returns-clause-past
returns-clause-past c a b past is =
    past_goes_on (new_world a b) c.args.self.now c.apply_up_to_fault-ended.new.self past
    (take c.apply_up_to_fault-ended.result.0 c.args.list.now) is c.apply_up_to_fault-ended.ensures.ran

pub returns-clause-delivers : goal.returns-clause-delivers
returns-clause-delivers c a b past is =
    let now = take c.apply_up_to_fault-ended.result.0 c.args.list.now in
    past_delivers c.each_octet_run_delivers_in_order.ensures a b (past ++ now) c.apply_up_to_fault-ended.new.self
    (past_goes_on (new_world a b) c.args.self.now c.apply_up_to_fault-ended.new.self past now is
    c.apply_up_to_fault-ended.ensures.ran)

pub returns-clause-closed_or_open : goal.returns-clause-closed_or_open
returns-clause-closed_or_open c a b past is =
    let now = take c.apply_up_to_fault-ended.result.0 c.args.list.now in
    past_closed_or_open c.each_octet_quiet_run_is_closed_or_open.ensures a b (past ++ now)
    c.apply_up_to_fault-ended.new.self
    (past_goes_on (new_world a b) c.args.self.now c.apply_up_to_fault-ended.new.self past now is
    c.apply_up_to_fault-ended.ensures.ran)

pub returns-clause-upward : goal.returns-clause-upward
returns-clause-upward c a b past is =
    c.each_octet_run_hands_up_only_arrivals.ensures a b
    (map as_happening (past ++ take c.apply_up_to_fault-ended.result.0 c.args.list.now))

pub returns-clause-settled : goal.returns-clause-settled
returns-clause-settled c closed clean =
    c.clean_octet_runs_settle_as_elected.ensures c.args.self.now c.every_world_is_sound_and_paired.ensures.sound
    c.every_world_is_sound_and_paired.ensures.peers closed
    (map as_happening (take c.apply_up_to_fault-ended.result.0 c.args.list.now)) clean

pub returns-clause-falls_quiet : goal.returns-clause-falls_quiet
returns-clause-falls_quiet c closed clean =
    c.clean_octet_runs_fall_quiet.ensures c.args.self.now c.every_world_is_sound_and_paired.ensures.sound
    c.every_world_is_sound_and_paired.ensures.peers closed
    (map as_happening (take c.apply_up_to_fault-ended.result.0 c.args.list.now)) clean

pub returns-clause-can_fall_quiet : goal.returns-clause-can_fall_quiet
returns-clause-can_fall_quiet c closed clean =
    c.clean_octet_runs_can_settle_as_elected.ensures c.args.self.now c.every_world_is_sound_and_paired.ensures.sound
    c.every_world_is_sound_and_paired.ensures.peers closed
    (map as_happening (take c.apply_up_to_fault-ended.result.0 c.args.list.now)) clean
