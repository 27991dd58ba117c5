-- What is too long is spelled by nothing.
use Rattle.std.proofs.Common.{refl}
use Rattle.dm_wire.proofs.Limit.{long_message}
use Rattle.dm_wire.proofs.message.Message.encode.Goals as goal

pub returns-in_default-clause-unspelled : goal.returns-in_default-clause-unspelled
returns-in_default-clause-unspelled c = (λ _. long_message c.args.self.now c.in_default.ensures.none, λ _. refl)
