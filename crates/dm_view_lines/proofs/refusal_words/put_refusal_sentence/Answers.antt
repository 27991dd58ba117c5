use Rattle.std.proofs.Common.{◌≡◌, ◌++◌, codes, append_assoc}
use Rattle.std.specs.String.{string_bytes}
use Rattle.dm_view_lines.proofs.refusal_words.put_refusal_sentence.Goals as goal

pub returns : goal.returns
returns c =
    let begun : string_bytes c.push_str.new.self ≡ string_bytes c.args.text.now ++ codes "no message: " = c.in_ok-push_str.ensures.bytes in
    rw (c.in_ok-put_result_code_and_reason.ensures, begun) (simp append_assoc)
