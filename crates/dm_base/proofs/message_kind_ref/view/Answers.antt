-- A message of another command, and a good one.
use Rattle.std.proofs.Common.{sym, ◌∙◌, ap}
use Rattle.dm_dict.specs.Judgement.{shown}
use Rattle.dm_base.proofs.Viewing.{none_of, good_kind, other_kind}
use Rattle.dm_base.proofs.message_kind_ref.view.Goals as goal

pub returns-in_default-clause-found : goal.returns-in_default-clause-found
returns-in_default-clause-found c = λ l spelled.
    other_kind c.args.dictionary.now (record { header = c.args.message.now.header; avps = l })
    (sym c.of.ensures ∙ none_of c.of.result c.in_default.not-Some)

pub returns-in-Good-clause-found : goal.returns-in-Good-clause-found
returns-in-Good-clause-found c = λ l spelled.
    let listed = c.members_are_what_these_octets_spell.ensures l spelled in
    good_kind c.args.dictionary.now
    (record { header = c.args.message.now.header; avps = l }) c.kind_with_borrowed_parts.result c.args.message.now.rest.now
    c.in-Some.command (sym c.of.ensures ∙ c.in-Some.is) (sym (c.judge.ensures.verdict l spelled) ∙ ap shown c.in-Good.is)
    (c.kind_with_borrowed_parts.ensures.told l listed) c.kind_with_borrowed_parts.ensures.lies listed
