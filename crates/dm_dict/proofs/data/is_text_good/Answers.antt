-- ASCII is text.
use Rattle.std.proofs.Common.{◌≡◌, ◌∙◌, false, nat_lt, length, sym, refl, arith}
use Rattle.std.proofs.lemmas.Bool.Decides.{nat_tests}
use Rattle.dm_dict.proofs.Ascii.{ascii_is_text}
use Rattle.dm_dict.proofs.data.is_text_good.Goals as goal

pub returns-then-are_between : goal.returns-then-are_between
returns-then-are_between c = λ yes.
    let s = c.args.octets.now in
    let some : nat_lt (length s) 0 ≡ false = grind (arith, nat_tests) in
    rw (some, ascii_is_text s (sym c.are_between.ensures ∙ yes)) refl
