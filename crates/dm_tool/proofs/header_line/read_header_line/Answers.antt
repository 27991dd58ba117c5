use Rattle.std.proofs.Common.{ap, ◌∙◌}
use Rattle.dm_text.specs.Words.{words}
use Rattle.dm_tool.proofs.Options.{none-anyway}
use Rattle.dm_tool.proofs.Places.{third, behind_third}
use Rattle.dm_tool.proofs.header_line.read_header_line.Goals as goal

pub returns-in_err-flags-clause-none : goal.returns-in_err-flags-clause-none
returns-in_err-flags-clause-none c =
    none-anyway c.from_residual-in_err-flags.result (λ h told.
    c.in_err-flags.ensures.none h.request h.proxiable h.error h.retransmit
    (third c.in_ok-command.ensures.told.1 c.in_ok-next.ensures.steps (ap words c.new-words.ensures ∙ told.whole)))

pub returns-in_err-names-clause-none : goal.returns-in_err-names-clause-none
returns-in_err-names-clause-none c =
    none-anyway c.from_residual-in_err-names.result (λ h told.
    c.in_err-names.ensures.none h.application h.hop_id h.end_id (record {
      application_word = told.application;
      hop_id_word = told.hop_id;
      end_id_word = told.end_id;
      whole = behind_third c.in_ok-command.ensures.told.1 c.in_ok-next.ensures.steps
          (ap words c.new-words.ensures ∙ told.whole);
      tells_application = told.tells_application;
      tells_hop_id = told.tells_hop_id;
      tells_end_id = told.tells_end_id;
    }))
