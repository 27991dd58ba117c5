-- One definition more.
use Rattle.std.proofs.Common.{◌≡◌, arith, slice_set}
use Rattle.std.proofs.lemmas.Grind.{common_steps}
use Rattle.dm_tables.specs.Guesses.{with_guess}
use Rattle.dm_tables.proofs.Guessed.{guessed_step}
use Rattle.dm_tables.proofs.name_guesses.NameGuesses.note_name.Goals as goal

pub returns-then-slot-len-clause-guessed : goal.returns-then-slot-len-clause-guessed
returns-then-slot-len-clause-guessed c = λ avps avp named before.
    let items = c.args.self.now.places.items in
    let noted : slice_set items c.slot_of_name-slot.result c.guess_keeping_first.result ≡
    with_guess items c.args.name.now c.args.place = grind (arith, common_steps) in
    rw noted (guessed_step avps avp items c.args.name.now c.args.place named before)

pub returns-else-slot-len-clause-guessed : goal.returns-else-slot-len-clause-guessed
returns-else-slot-len-clause-guessed c = λ avps avp named before.
    let items = c.args.self.now.places.items in
    let noted : items ≡ with_guess items c.args.name.now c.args.place = grind (arith, common_steps) in
    rw noted (guessed_step avps avp items c.args.name.now c.args.place named before)
