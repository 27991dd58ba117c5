use Rattle.std.proofs.Common.{append_assoc}
use Rattle.dm_trace_view.proofs.lost.put_lost_words.Goals as goal

pub returns-in_ok-put_number_and_words-in-LetGo : goal.returns-in_ok-put_number_and_words-in-LetGo
returns-in_ok-put_number_and_words-in-LetGo c =
    rw (c.in-LetGo.is, c.in_ok-put_number_and_words-in-LetGo.ensures, c.in_ok-push_str-in-LetGo.ensures.bytes) (simp append_assoc)

pub returns-in_ok-put_number_and_words-in-Secured : goal.returns-in_ok-put_number_and_words-in-Secured
returns-in_ok-put_number_and_words-in-Secured c =
    rw (c.in-Secured.is, c.in_ok-put_number_and_words-in-Secured.ensures, c.in_ok-push_str-in-Secured.ensures.bytes) (simp append_assoc)
