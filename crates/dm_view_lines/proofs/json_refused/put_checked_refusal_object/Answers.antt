use Rattle.std.proofs.Common.{◌≡◌, ◌++◌, ◌∷◌, [], append_assoc}
use Rattle.json.specs.Token.{begin_object}
use Rattle.json.specs.Tree.{members_tokens}
use Rattle.dm_view_lines.specs.Json.{error_member, bad_members, checked_before}
use Rattle.dm_view_lines.specs.Reasons.{refusal_sentence}
use Rattle.dm_view_lines.proofs.json_refused.put_checked_refusal_object.Goals as goal

pub returns : goal.returns
returns g c =
    let reason = error_member (refusal_sentence c.args.fault) in
    let members = checked_before c.args.dictionary.now c.args.octets.now c.args.fault reason in
    let opened : c.begin_object.new.self ≡ c.args.json.now ++ begin_object ∷ [] = c.in_ok-begin_object.ensures in
    let fronted = c.in_ok-put_front_members.ensures (bad_members members) in
    let bad : c.put_bad_verdict_if_checked.new.json ++ members_tokens members
    ≡ c.put_front_members.new.json ++ members_tokens (bad_members members)
    = c.in_ok-put_bad_verdict_if_checked.ensures members in
    let before : c.put_header_member_if_bad_avp.new.json ++ members_tokens reason ≡
    c.put_bad_verdict_if_checked.new.json ++ members_tokens members
    = c.in_ok-put_header_member_if_bad_avp.ensures reason in
    let ended : c.put_refusal_and_end_object.new.json ≡ c.put_header_member_if_bad_avp.new.json ++ members_tokens reason
    = c.in_ok-put_refusal_and_end_object.ensures in
    rw (ended, before, bad, fronted, opened) (simp append_assoc)
