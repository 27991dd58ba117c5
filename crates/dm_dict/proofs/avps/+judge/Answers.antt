-- One AVP after the other.
use Rattle.std.proofs.Common.{◌≡◌, Some, find, sym, ◌∙◌, ap, arith}
use Rattle.dm_tables.specs.Definitions.{is_coded}
use Rattle.dm_wire.specs.Borrowed.{avp_of}
use Rattle.dm_dict.specs.Faults.{group_faults}
use Rattle.dm_dict.specs.Rules.{allows}
use Rattle.dm_dict.proofs.Chains.{looked_up}
use Rattle.dm_dict.proofs.GoodBut.{none_passed, one_passed}
use Rattle.dm_dict.proofs.avps.+judge.Goals as goal

pub judge_avp-judge_group-requires : goal.judge_avp-judge_group-requires
judge_avp-judge_group-requires t c =
    let fit = c.requires.fit in
    let def = c.in-Some.field-0.def.now in
    let code = c.args.avp.code in
    let vendor = c.args.avp.vendor in
    let found : find (is_coded code vendor) c.args.dictionary.now.tables.avps.items ≡ Some
    def = sym (c.in-Some.ensures.def ∙ c.requires.def) in (
      omega arith,
      (
        c.requires.linked,
        (
          fit,
          record {
            apart = fit.apart code vendor def found;
            closed = fit.closed code vendor def found;
            linked = c.in-Some.ensures.links;
          },
        ),
      ),
    )

pub judge_list_from-loop-avp-preserved : goal.judge_list_from-loop-avp-preserved
judge_list_from-loop-avp-preserved t c =
    let avps = c.args.dictionary.now.tables.avps.items in
    let rule = c.args.rule.entries.now in
    let a = avp_of c.in-Some.avp in
    let G = group_faults c.args.groups_allowed avps in
    let allowed = c.has_entry_allowing_avps-allowed.ensures ∙ ap allows c.look_up_avp_by_marks-place.ensures.entry in
    let good = looked_up G _ _ a _ _ allowed c.in-Good.ensures.fault in
    λ all h.
    let (m, listed, before) = c.loop-avp.invariant all h in
    let (k, is, behind) = c.in-Some.ensures.parts m listed in (
      k,
      behind,
      one_passed c.args.groups_allowed avps rule all m k a _ _ _ before is good c.count_avp_at_entry.ensures.size
          c.count_avp_at_entry.ensures.counted c.look_up_avp_by_marks-place.ensures.counts,
    )

pub judge_list_with_stack_counters-judge_list_from-requires : goal.judge_list_with_stack_counters-judge_list_from-requires
judge_list_with_stack_counters-judge_list_from-requires t c = (
  omega arith,
  (
    c.requires.linked,
    (
      c.requires.fit,
      (
        c.requires.rule,
        λ l h. (
          l,
          h,
          none_passed c.args.groups_allowed c.args.dictionary.now.tables.avps.items c.args.rule.entries.now l _
              c.zero_counters-counts.ensures,
        ),
      ),
    ),
  ),
)
