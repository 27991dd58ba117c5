use Rattle.std.proofs.Common.{◌++◌, ◌∷◌, [], sym, ap, ◌∙◌, append_assoc}
use Rattle.dm_io.proofs.Told.{line_of_words, front_of_line}
use Rattle.dm_io.proofs.written.write_line_unless_empty.Goals as goal

pub returns-in-Ok-clause-front : goal.returns-in-Ok-clause-front
returns-in-Ok-clause-front g c =
    let made = front_of_line _ _ _ _ c.write_text_and_flush-in-Ok.result c.in-Ok.ensures.whole c.write_text_and_flush-in-Ok.ensures.whole
    c.write_text_and_flush-in-Ok.ensures.front in
    let line = line_of_words _ c.if-is_empty.ensures ∙ ap (λ s. s ++ 10 ∷ []) (sym c.as_bytes.ensures.value) in
    (made.0, made.1, line ∙ made.2, made.3)

pub returns-in-Err-clause-front : goal.returns-in-Err-clause-front
returns-in-Err-clause-front g c =
    let made = c.in-Err.ensures.front in
    let line = line_of_words _ c.if-is_empty.ensures ∙ ap (λ s. s ++ 10 ∷ []) (sym c.as_bytes.ensures.value ∙ made.2) in
    (made.0, made.1 ++ 10 ∷ [], line ∙ append_assoc made.0 made.1 (10 ∷ []), made.3)
