use Rattle.dm_machine.proofs.CauseLaw.{answers_heard}
use Rattle.dm_machine.proofs.laws.dwas_dpas_and_refusing_answers_have_requests.Goals as goal

pub returns : goal.returns
returns c = answers_heard
