use Rattle.std.proofs.Common.{◌∙◌, sym, nat_eq}
use Rattle.std.specs.Cmp.Lexicographic.{pointwise}
use Rattle.dm_dict_text.proofs.EntryFaults.{any-map}
use Rattle.dm_dict_text.proofs.checks.is_stray.Goals as goal

pub returns-then-not-is_empty : goal.returns-then-not-is_empty
returns-then-not-is_empty c =
    c.contains.ensures ∙ sym (any-map (pointwise nat_eq c.args.name.now) (λ k. k.now) c.args.strays.now.keys)
