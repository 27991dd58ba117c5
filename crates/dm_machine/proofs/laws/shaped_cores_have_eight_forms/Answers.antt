use Rattle.dm_machine.proofs.FormLemmas.{form_of, shape_of}
use Rattle.dm_machine.proofs.laws.shaped_cores_have_eight_forms.Goals as goal

pub returns : goal.returns
returns c = record { formed = form_of; shaped = shape_of }
