use Rattle.std.proofs.Common.{◌≡◌, ◌++◌, ◌∷◌, [], append_assoc}
use Rattle.json.specs.Json.{no_members}
use Rattle.json.specs.Token.{begin_object, end_object}
use Rattle.json.specs.Tree.{members_tokens}
use Rattle.dm_view.specs.JsonCheck.{check_members}
use Rattle.dm_view_lines.proofs.json_reports.put_checked_message_object.Goals as goal

pub returns-clause-said : goal.returns-clause-said
returns-clause-said g c l spelled =
    let members = check_members c.args.dictionary.now (record { header = c.args.message.now.header; avps = l }) no_members in
    let opened : c.begin_object.new.self ≡ c.args.json.now ++ begin_object ∷ [] = c.in_ok-begin_object.ensures in
    let fronted = c.in_ok-put_front_members.ensures members in
    let said : c.put_json_verdict_header_and_faults.new.json ++ end_object ∷ [] ≡ c.put_front_members.new.json ++ members_tokens members
    = c.in_ok-good.ensures.said l spelled no_members in
    let ended : c.end_object.new.self ≡ c.put_json_verdict_header_and_faults.new.json ++ end_object ∷ [] = c.in_ok-end_object.ensures in
    rw (ended, said, fronted, opened) (simp append_assoc)
