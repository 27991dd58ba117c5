use Rattle.std.proofs.Common.{◌≡◌, ◌++◌, ◌∷◌, [], ap, ◌∙◌, codes, append_assoc}
use Rattle.std.specs.Fmt.{decimal}
use Rattle.json.specs.Token.{begin_object, key, number}
use Rattle.json.specs.Tree.{json_tokens, members_tokens}
use Rattle.dm_view.specs.JsonView.{command_json, header_words, identifiers, header_json}
use Rattle.dm_view.specs.View.{command_of}
use Rattle.dm_view.proofs.json_header.put_header_object.Goals as goal

pub returns : goal.returns
unfolding header_json
returns c =
    let h = c.args.header.now in
    let begun : c.begin_object.new.self ≡ c.args.json.now ++ begin_object ∷ [] = c.in_ok-begin_object.ensures in
    let named : c.put_key.new.self ≡ c.begin_object.new.self ++ key (codes "command") ∷ [] = c.in_ok-put_key.ensures in
    let name : c.put_command_name_or_null.new.json ≡ c.put_key.new.self
    ++ json_tokens (command_json (command_of c.args.dictionary.now h))
    = c.in_ok-put_command_name_or_null.ensures
    ∙ ap (λ o. c.put_key.new.self ++ json_tokens (command_json o)) c.command-def.ensures.found in
    let code : c.put_number_member.new.self ≡ c.put_command_name_or_null.new.json
    ++ key (codes "code") ∷ number (decimal h.command) ∷ [] = c.in_ok-put_number_member.ensures in
    let flagged : c.put_key-2.new.self ≡ c.put_number_member.new.self ++ key (codes "flags") ∷ [] = c.in_ok-put_key-2.ensures in
    let flags : c.put_flag_words_array.new.json ≡ c.put_key-2.new.self ++ json_tokens (header_words h) =
    c.in_ok-put_flag_words_array.ensures in
    let ended : c.end_header_with_application_and_identifiers.new.json ≡ c.put_flag_words_array.new.json
    ++ members_tokens (identifiers h)
    = c.in_ok-end_header_with_application_and_identifiers.ensures in
    rw (ended, flags, flagged, code, name, named, begun) (simp append_assoc)
