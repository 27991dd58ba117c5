-- What the bounds tell.
use Rattle.std.proofs.Common.{◌∙◌, arith}
use Rattle.dm_dict.proofs.Bounded.{kept_within}
use Rattle.dm_dict.proofs.entries.counters_show_no_fault.Goals as goal

pub returns-then-padded_count-counts : goal.returns-then-padded_count-counts
returns-then-padded_count-counts c = λ avps l counted kept.
    kept_within avps c.args.rule.entries.now l c.bounds-bounds.result.now c.args.counts.now
    (c.bounds-bounds.ensures ∙ c.requires.bounds) (omega arith) (c.are_seen_kept_by.ensures kept) counted
