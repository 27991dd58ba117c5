use Rattle.std.proofs.Common.{List, ℕ, ap, sym, ◌∙◌, subst, is_some}
use Rattle.dm_tool.specs.Text.{avp_marks}
use Rattle.dm_tool.specs.AvpWords.{TellsCode}
use Rattle.dm_tool.proofs.Options.{none-anyway}
use Rattle.dm_tool.proofs.Places.{first, second_of}
use Rattle.dm_tool.proofs.Slashes.{one_code}
use Rattle.dm_tool.proofs.avp_line.read_avp_words.Goals as goal

pub returns-in_err-mandatory-clause-none : goal.returns-in_err-mandatory-clause-none
returns-in_err-mandatory-clause-none c =
    none-anyway c.from_residual-in_err-mandatory.result (λ a told.
    let Code : List ℕ → Type 0 = λ w. TellsCode a.code a.vendor w in
    let same = one_code a.code c.in_ok-code.code a.vendor c.in_ok-code.vendor c.in_ok-first.first.now
    (subst Code (first told.whole c.in_ok-first.ensures.told) told.tells_code) c.in_ok-code.ensures.told in
    let flags = second_of c.in_ok-first.ensures.told told.whole in
    c.in_err-mandatory.ensures.none a.mandatory a.protected
    (flags ∙ ap (λ v. avp_marks (is_some v) a.mandatory a.protected) same.1 ∙
    ap (λ v. avp_marks v a.mandatory a.protected) (sym c.is_some.ensures)))
