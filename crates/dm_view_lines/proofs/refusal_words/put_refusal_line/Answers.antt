use Rattle.std.proofs.Common.{◌≡◌, ◌++◌, ◌∷◌, [], append_assoc}
use Rattle.std.specs.String.{string_bytes}
use Rattle.dm_view_lines.proofs.refusal_words.put_refusal_line.Goals as goal

pub returns : goal.returns
returns c =
    let ended : string_bytes c.push_str.new.self ≡ string_bytes c.put_refusal_sentence.new.text ++ 10 ∷ [] =
    c.in_ok-push_str.ensures.bytes in
    rw (ended, c.in_ok-put_refusal_sentence.ensures) (simp append_assoc)
