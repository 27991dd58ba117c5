use Rattle.std.proofs.Common.{◌∙◌, codes, append_assoc}
use Rattle.json.specs.Json.{no_items}
use Rattle.dm_view.specs.JsonWords.{word_item}
use Rattle.dm_view.proofs.json_header.put_flag_words_array.Goals as goal

pub returns : goal.returns
returns c =
    let h = c.args.header.now in
    let retransmitted = word_item h.retransmit (codes "retransmitted") no_items in
    let error = word_item h.error (codes "error") retransmitted in
    let proxiable = word_item h.proxiable (codes "proxiable") error in
    c.in_ok-end_array.ensures ∙ c.in_ok-put_word_if_meant-3.ensures no_items ∙
    c.in_ok-put_word_if_meant-2.ensures retransmitted
    ∙ c.in_ok-put_word_if_meant.ensures error
    ∙ rw (c.in_ok-put_string.ensures, c.request_or_answer_word.ensures, c.in_ok-begin_array.ensures) (simp append_assoc)
