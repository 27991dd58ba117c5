use Rattle.std.proofs.Common.{◌≡◌, ◌++◌, ap, ◌∙◌, append_assoc}
use Rattle.std.specs.String.{string_bytes}
use Rattle.dm_view.specs.View.{command_name, command_of, header_view}
use Rattle.dm_view.proofs.header.put_header_line.Goals as goal

pub returns : goal.returns
unfolding header_view
returns c =
    let h = c.args.header.now in
    let text = string_bytes c.args.text.now in
    let named : string_bytes c.put_command_name_or_placeholder.new.text ≡ text ++ command_name (command_of c.args.dictionary.now h)
    = c.in_ok-put_command_name_or_placeholder.ensures ∙ ap (λ o. text ++ command_name o) c.command.ensures.found in
    rw (
      c.in_ok-push_str.ensures.bytes,
      c.in_ok-put_words_decimal_and_hexadecimal-2.ensures,
      c.in_ok-put_words_decimal_and_hexadecimal.ensures,
      c.in_ok-put_words_and_number-2.ensures,
      c.in_ok-put_spaced_flag_words.ensures,
      c.in_ok-put_words_and_number.ensures,
      named,
    ) (simp append_assoc)
