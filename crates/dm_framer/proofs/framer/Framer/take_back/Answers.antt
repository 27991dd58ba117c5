-- The last octets are those that go.
use Rattle.std.proofs.Common.{ap, None}
use Rattle.std.proofs.lemmas.List.{drop-take}
use Rattle.dm_framer.proofs.framer.Framer.take_back.Goals as goal

pub returns : goal.returns
returns c =
    rw (c.truncate.ensures.items, c.saturating_sub-left.ensures, c.len.ensures, ← c.self.view_is)
    (ap (λ l. record { octets = l; max = c.self.inside.max; fault = None })
    (drop-take c.self.inside.taken _ c.self.inside.buffer.items))
