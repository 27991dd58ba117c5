-- Pieces are fed until a packet is whole, or nothing is left.
use Rattle.std.proofs.Common.{subst}
use Rattle.dm_capture.specs.Streams.{HandsFrom, FeedsPiece}
use Rattle.dm_capture.proofs.Streaming.{ongoing, ongoing_passed, ongoing_fed, handed, refused, ended, not_fed, handed_on, still}
use Rattle.dm_capture.proofs.stream.next_packet_without_kept_fault.Goals as goal

pub piece-init : goal.piece-init
piece-init g c = ongoing _ _ c.requires

pub returns-in-Ok-Some : goal.returns-in-Ok-Some
returns-in-Ok-Some g c =
    let said = rw c.in-Ok-Some.field-0-is at c.in-Ok-Some.ensures.hands in
    handed _ c.piece.capture c.next.new.self _ _ c.in-Ok-Some.packet c.piece.invariant (said c.piece.invariant.fault)

pub returns-in-Err : goal.returns-in-Err
returns-in-Err g c =
    refused _ c.piece.capture c.next.new.self _ _ _ c.piece.invariant (c.in-Err.ensures.hands c.piece.invariant.fault)

pub returns-in_err-is_reader_ended_else_feed : goal.returns-in_err-is_reader_ended_else_feed
returns-in_err-is_reader_ended_else_feed g c =
    let said = rw c.in-Ok-None.field-0-is at c.in-Ok-None.ensures.hands in
    let further = ongoing_passed _ c.piece.capture c.next.new.self _ _ c.piece.invariant
    (said c.piece.invariant.fault) in
    handed_on (HandsFrom _ _ _ _) c.from_residual.result c.in_err-is_reader_ended_else_feed.field-0.0 c.from_residual.ensures.1
    (not_fed _ c.next.new.self c.is_reader_ended_else_feed.new.capture _ _ _ _ further c.in_err-is_reader_ended_else_feed.ensures.none)

pub returns-then-branch : goal.returns-then-branch
returns-then-branch g c =
    let said = rw c.in-Ok-None.field-0-is at c.in-Ok-None.ensures.hands in
    let further = ongoing_passed _ c.piece.capture c.next.new.self _ _ c.piece.invariant
    (said c.piece.invariant.fault) in
    ended _ c.next.new.self c.is_reader_ended_else_feed.new.capture _ _ _ c.none_or_fault_at_end.result further
    ((said c.piece.invariant.fault).3)
    (subst (FeedsPiece _ _ _ _) c.if-branch.true c.in_ok-is_reader_ended_else_feed.ensures.fed) c.none_or_fault_at_end.ensures

pub piece-preserved : goal.piece-preserved
piece-preserved g c =
    let said = rw c.in-Ok-None.field-0-is at c.in-Ok-None.ensures.hands in
    let further = ongoing_passed _ c.piece.capture c.next.new.self _ _ c.piece.invariant
    (said c.piece.invariant.fault) in
    ongoing_fed _ c.next.new.self c.is_reader_ended_else_feed.new.capture _ _ _ _ further c.in_ok-is_reader_ended_else_feed.ensures.fed

pub returns : goal.returns
returns g c = still _ _ _ _ c.piece.invariant
