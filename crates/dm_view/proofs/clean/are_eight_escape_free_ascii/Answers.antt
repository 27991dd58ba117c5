use Rattle.std.proofs.Common.{arith}
use Rattle.std.proofs.lemmas.Bool.{eqb-true}
use Rattle.dm_view.proofs.CleanOctets.{clean_masks}
use Rattle.dm_view.proofs.clean.are_eight_escape_free_ascii.Goals as goal

pub returns : goal.returns
returns c = λ is.
    clean_masks c.args.least c.args.octets.now c.args.from 8 c.requires.bound (omega arith) c.requires.within
    c.type_inv.octets c.if-others-ne0.false c.if-quotes-ne0.false (eqb-true _ 0 is)
