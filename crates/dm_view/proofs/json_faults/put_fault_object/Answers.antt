use Rattle.std.proofs.Common.{◌≡◌, ◌++◌, ◌∷◌, [], ap, ◌∙◌, codes, append_assoc}
use Rattle.std.specs.Prelude.{option_map}
use Rattle.std.specs.Fmt.{decimal}
use Rattle.json.specs.Token.{begin_object, begin_array, key, number, string}
use Rattle.json.specs.Tree.{items_tokens, members_tokens}
use Rattle.dm_dict.specs.Locating.{told_at}
use Rattle.dm_view.specs.Check.{without_data, failed_length}
use Rattle.dm_view.specs.JsonCheck.{path_items, failed_members, fault_json}
use Rattle.dm_view.specs.Results.{result_name}
use Rattle.dm_view.proofs.json_faults.put_fault_object.Goals as goal

pub returns : goal.returns
unfolding fault_json
returns c =
    let avps = c.args.dictionary.now.avps in
    let f = told_at c.args.fault.now in
    let begun : c.begin_object.new.self ≡ c.args.json.now ++ begin_object ∷ [] = c.in_ok-begin_object.ensures in
    let code : c.put_number_member.new.self ≡ c.begin_object.new.self
    ++ key (codes "code") ∷ number (decimal f.fault.code) ∷ []
    = c.in_ok-put_number_member.ensures in
    let name : c.put_text_member.new.self ≡ c.put_number_member.new.self
    ++ key (codes "name") ∷ string (result_name f.fault.code) ∷ []
    = c.in_ok-put_text_member.ensures
    ∙ ap (λ s. c.put_number_member.new.self ++ key (codes "name") ∷ string s ∷ [])
    c.result_name_or_placeholder.ensures in
    let named : c.put_key.new.self ≡ c.put_text_member.new.self ++ key (codes "path") ∷ [] = c.in_ok-put_key.ensures in
    let opened : c.begin_array.new.self ≡ c.put_key.new.self ++ begin_array ∷ [] = c.in_ok-begin_array.ensures in
    let path : c.put_path_and_end_array.new.json ≡ c.begin_array.new.self ++ items_tokens (path_items avps f.path)
    = c.in_ok-put_path_and_end_array.ensures
    ∙ ap (λ p. c.begin_array.new.self ++ items_tokens (path_items avps p)) c.as_slice.ensures in
    let size = failed_length f.fault.failed in
    let failed : c.end_fault_with_failed_avp_if_any.new.json ≡ c.put_path_and_end_array.new.json
    ++ members_tokens (failed_members avps f.fault.code size (option_map without_data f.fault.failed))
    = c.in_ok-end_fault_with_failed_avp_if_any.ensures
    ∙ (λ i. c.put_path_and_end_array.new.json
    ++ members_tokens (failed_members avps f.fault.code (c.failed_avp_data_length-length.ensures i)
    (c.failed_avp_without_data.ensures i))) in
    rw (failed, path, opened, named, name, code, begun) (simp append_assoc)
