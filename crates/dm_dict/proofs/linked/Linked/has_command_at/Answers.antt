-- The command that is guessed is the first of its code and bits.
use Rattle.std.proofs.Common.{◌∙◌, length, refl, sym}
use Rattle.std.proofs.lemmas.Option.{slice_get_read}
use Rattle.dm_tables.specs.Tables.{defined}
use Rattle.dm_dict.proofs.Headed.{headed_place}
use Rattle.dm_dict.proofs.linked.Linked.has_command_at.Goals as goal

pub returns : goal.returns
returns c = λ is.
    let commands = c.as_slice-commands.result.now in
    let command = c.index-commands-place.result in
    let at = rw c.as_slice-commands.ensures.value at (slice_get_read commands (length commands) c.args.place command refl
    c.if-place-commands.false c.index-commands-place.is) in
    sym (headed_place (defined c.args.self.now.tables) c.args.code c.args.request c.args.err c.args.place command
    c.requires.dictionary.tables.sound at (sym c.is_command_of_code.ensures ∙ is))
