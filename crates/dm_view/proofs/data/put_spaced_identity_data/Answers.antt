use Rattle.std.proofs.Common.{◌∙◌, sym, arith}
use Rattle.std.proofs.lemmas.Bool.{eqb-false}
use Rattle.dm_view.proofs.CleanOctets.{clean_is_text, clean_identity_view}
use Rattle.dm_view.proofs.data.put_spaced_identity_data.Goals as goal

pub put_utf8_between-requires : goal.put_utf8_between-requires
put_utf8_between-requires c = clean_is_text 33 c.args.octets.now (c.are_escape_free_ascii.ensures c.if-are_escape_free_ascii.true)

pub returns-then-are_escape_free_ascii : goal.returns-then-are_escape_free_ascii
returns-then-are_escape_free_ascii c =
    let some = eqb-false _ 0 (sym c.is_empty.ensures ∙ c.if-is_empty.false) in
    let clean = c.are_escape_free_ascii.ensures c.if-are_escape_free_ascii.true in
    let is = clean_identity_view c.args.def.now c.args.octets.now c.requires (omega (arith, some)) clean in
    rw is c.put_utf8_between.ensures
