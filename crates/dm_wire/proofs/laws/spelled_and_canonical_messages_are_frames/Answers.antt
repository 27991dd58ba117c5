-- The laws as they are proved for messages.
use Rattle.dm_wire.proofs.Framing.{spelled_framed, canonical_framed}
use Rattle.dm_wire.proofs.laws.spelled_and_canonical_messages_are_frames.Goals as goal

pub returns-clause-spelled : goal.returns-clause-spelled
returns-clause-spelled c = spelled_framed

pub returns-clause-canonical : goal.returns-clause-canonical
returns-clause-canonical c = canonical_framed
