use Rattle.std.proofs.Common.{None, [], ap, ◌∙◌}
use Rattle.std.proofs.lemmas.Result.{err_from_is_err_and}
use Rattle.dm_framer.specs.Stream.{Stream}
use Rattle.dm_world.proofs.Fed.{fed_whole, fed_framed}
use Rattle.dm_world.proofs.direction.frame_rest_in_copy.Goals as goal

pub returns-in_err-message-clause-memory : goal.returns-in_err-message-clause-memory
returns-in_err-message-clause-memory c =
    let x = c.args.message.now in
    let fed = fed_whole c.args.taken x c.args.framer.now c.in_ok-framer.framer c.feed.new.self c.requires.held
    c.in_ok-framer.ensures.copied c.in_ok-feed.ensures.fed in
    let found = c.in_err-message.ensures.frame x [] [] None
    (fed_framed c.frames_in_a_row_stay_themselves.ensures x c.feed.new.self c.requires.frame fed) in
    let p = err_from_is_err_and c.from_residual-in_err-message.result c.from_residual-in_err-message.ensures.1 in
    rw (p.1, p.2) found.0

pub unreachable-requires : goal.unreachable-requires
unreachable-requires c =
    let x = c.args.message.now in
    let fed = fed_whole c.args.taken x c.args.framer.now c.in_ok-framer.framer c.feed.new.self c.requires.held
    c.in_ok-framer.ensures.copied c.in_ok-feed.ensures.fed in
    let found = c.in_ok-message.ensures.frame x [] [] None
    (fed_framed c.frames_in_a_row_stay_themselves.ensures x c.feed.new.self c.requires.frame fed) in
    rw c.in-None.is at found.0

pub returns-clause-message : goal.returns-clause-message
returns-clause-message c =
    let x = c.args.message.now in
    let fed = fed_whole c.args.taken x c.args.framer.now c.in_ok-framer.framer c.feed.new.self c.requires.held
    c.in_ok-framer.ensures.copied c.in_ok-feed.ensures.fed in
    let found = c.in_ok-message.ensures.frame x [] [] None
    (fed_framed c.frames_in_a_row_stay_themselves.ensures x c.feed.new.self c.requires.frame fed) in
    rw c.in-Some.is at found.0

pub returns-clause-framer : goal.returns-clause-framer
returns-clause-framer c =
    let x = c.args.message.now in
    let fed = fed_whole c.args.taken x c.args.framer.now c.in_ok-framer.framer c.feed.new.self c.requires.held
    c.in_ok-framer.ensures.copied c.in_ok-feed.ensures.fed in
    let found = c.in_ok-message.ensures.frame x [] [] None
    (fed_framed c.frames_in_a_row_stay_themselves.ensures x c.feed.new.self c.requires.frame fed) in
    found.1 ∙ ap (λ (o : Stream). record { octets = []; max = o.max; fault = o.fault }) fed
