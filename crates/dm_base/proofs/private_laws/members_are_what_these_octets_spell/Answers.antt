-- The law, at octets.
use Rattle.std.proofs.Math.Facts.{Fits-lt-pow}
use Rattle.dm_base.proofs.private_laws.members_are_what_these_octets_spell.Goals as goal

pub returns : goal.returns
returns c =
    λ l spelled. (c.members_are_what_octets_spell.ensures c.args.octets.now l (λ i. Fits-lt-pow (c.type_inv.octets i))).1 spelled
