use Rattle.std.proofs.Common.{inr, List, sym, subst}
use Rattle.dm_world.specs.declared.happening.Happening.{Happening}
use Rattle.dm_replay.specs.Scripts.{TellsScript}
use Rattle.dm_replay.specs.LinesSoFar.{line_host}
use Rattle.dm_replay.proofs.script.read_script_by_lines.Goals as goal

pub returns-in_ok-script_of_lines-in-Some : goal.returns-in_ok-script_of_lines-in-Some
returns-in_ok-script_of_lines-in-Some c =
    let lines = c.in-Some.lines in
    let told = rw c.in-Some.is at c.in_ok-lines.ensures.told in
    let Tells : List Happening → Type 0 = λ list. TellsScript (line_host lines.left) (line_host lines.right) list
    c.args.text.now in
    inr (
    record {
      left = line_host lines.left;
      right = line_host lines.right;
      tells = subst Tells (sym c.in_ok-script_of_lines-in-Some.ensures.list) told;
      left_is = c.in_ok-script_of_lines-in-Some.ensures.left;
      right_is = c.in_ok-script_of_lines-in-Some.ensures.right;
    }
    )
