use Rattle.std.proofs.Common.{◌≡◌, ◌++◌, ◌∷◌, [], codes, append_assoc}
use Rattle.json.specs.Token.{begin_array, key}
use Rattle.json.specs.Tree.{json_tokens, items_tokens}
use Rattle.dm_view.specs.JsonView.{header_json, avps_items}
use Rattle.dm_view.specs.View.{command_of, groups_shown}
use Rattle.dm_view.proofs.json_message.put_message_members.Goals as goal

pub returns : goal.returns
returns c l spelled more =
    let h = c.args.message.now.header in
    let d = c.args.dictionary.now in
    let named : c.put_key.new.self ≡ c.args.json.now ++ key (codes "header") ∷ [] = c.in_ok-put_key.ensures in
    let header : c.put_header_object.new.json ≡ c.put_key.new.self ++ json_tokens (header_json (command_of d h) h)
    = c.in_ok-put_header_object.ensures in
    let second : c.put_key-2.new.self ≡ c.put_header_object.new.json ++ key (codes "avps") ∷ [] = c.in_ok-put_key-2.ensures in
    let begun : c.begin_array.new.self ≡ c.put_key-2.new.self ++ begin_array ∷ [] = c.in_ok-begin_array.ensures in
    let avps : c.put_avps_and_end_array.new.json ≡ c.begin_array.new.self ++ items_tokens (avps_items groups_shown d.avps l)
    = c.in_ok-put_avps_and_end_array.ensures l (c.spelled_avps_are_members.ensures _ l spelled) in
    rw (avps, begun, second, header, named) (simp append_assoc)
