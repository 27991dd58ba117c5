use Rattle.std.proofs.Common.{rules, ◌≡◌, ◌++◌, ◌∷◌, [], ap, ◌∙◌, codes, flat_map, append_assoc}
use Rattle.std.specs.Prelude.{option_map}
use Rattle.std.specs.String.{string_bytes}
use Rattle.dm_dict.specs.Locating.{told_at}
use Rattle.dm_view.specs.Check.{step_text, without_data, failed_length, failed_view, fault_line}
use Rattle.dm_view.specs.Results.{result_text}
use Rattle.dm_view.proofs.faults.put_fault_line.Goals as goal

pub returns : goal.returns
unfolding fault_line
returns c =
    let avps = c.args.dictionary.now.avps in
    let f = told_at c.args.fault.now in
    let text = string_bytes c.args.text.now in
    let code : string_bytes c.put_indented_result_code_and_name.new.text
    ≡ text ++ (codes "  " ++ result_text f.fault.code)
    = c.in_ok-put_indented_result_code_and_name.ensures in
    let groups : string_bytes c.put_spaced_steps_and_slashes.new.text
    ≡ string_bytes c.put_indented_result_code_and_name.new.text ++ flat_map (step_text avps) f.path
    = c.in_ok-put_spaced_steps_and_slashes.ensures
    ∙ ap (λ p. string_bytes c.put_indented_result_code_and_name.new.text ++ flat_map (step_text avps) p)
    c.as_slice.ensures in
    let failed : string_bytes c.put_spaced_failed_avp_if_any.new.text ≡ string_bytes c.put_spaced_steps_and_slashes.new.text
    ++ failed_view avps f.fault.code (failed_length f.fault.failed) (option_map without_data f.fault.failed)
    = c.in_ok-put_spaced_failed_avp_if_any.ensures
    ∙ (λ i. string_bytes c.put_spaced_steps_and_slashes.new.text
    ++ failed_view avps f.fault.code (c.failed_avp_data_length-length.ensures i) (c.failed_avp_without_data.ensures i)) in
    let ended : string_bytes c.push_str.new.self
    ≡ string_bytes c.put_spaced_failed_avp_if_any.new.text ++ 10 ∷ [] = search rules in
    rw (ended, failed, groups, code) (simp append_assoc)
