use Rattle.dm_view.proofs.CleanOctets.{clean_is_text, clean_text_view}
use Rattle.dm_view.proofs.data.put_spaced_text_data.Goals as goal

pub put_utf8_between-requires : goal.put_utf8_between-requires
put_utf8_between-requires c = clean_is_text 32 c.args.octets.now (c.are_escape_free_ascii.ensures c.if-are_escape_free_ascii.true)

pub returns-then-are_escape_free_ascii : goal.returns-then-are_escape_free_ascii
returns-then-are_escape_free_ascii c =
    let clean = c.are_escape_free_ascii.ensures c.if-are_escape_free_ascii.true in
    let is = clean_text_view c.args.def.now c.args.octets.now c.requires clean in
    rw is c.put_utf8_between.ensures
