-- A group has the rule of its definition, and its octets are passed one AVP after the other.
use Rattle.std.proofs.Common.{◌≡◌, Some, [], ◌∷◌, find, take, refl, sym, ◌∙◌, ap, arith, eqb-true}
use Rattle.std.proofs.lemmas.List.{take-append-drop, take_rest, nil_from_length}
use Rattle.dm_wire.specs.declared.avp.Avp.{Avp}
use Rattle.dm_wire.specs.Borrowed.{avp_of}
use Rattle.dm_tables.specs.Definitions.{is_coded}
use Rattle.dm_dict.specs.Faults.{group_faults}
use Rattle.dm_dict.specs.Rules.{allows}
use Rattle.dm_dict.proofs.Chains.{looked_up}
use Rattle.dm_dict.proofs.GoodBut.{none_passed, one_passed, all_passed}
use Rattle.dm_dict.proofs.passing.+passing.Goals as goal

pub is_defined_avp_seen_good-returns-else-is_group_seen_good : goal.is_defined_avp_seen_good-returns-else-is_group_seen_good
is_defined_avp_seen_good-returns-else-is_group_seen_good t c =
    let groups = group_faults c.args.groups_allowed c.args.dictionary.now.tables.avps.items in
    c.has_failed_avp_code_at.ensures groups (avp_of c.args.avp) c.requires.def

pub is_defined_avp_seen_good-returns-else-is_enumerated_good : goal.is_defined_avp_seen_good-returns-else-is_enumerated_good
is_defined_avp_seen_good-returns-else-is_enumerated_good t c =
    let groups = group_faults c.args.groups_allowed c.args.dictionary.now.tables.avps.items in
    c.has_failed_avp_code_at-else-is_enumerated_good.ensures groups (avp_of c.args.avp) c.requires.def

pub is_defined_avp_seen_good-returns-else-is_data_good : goal.is_defined_avp_seen_good-returns-else-is_data_good
is_defined_avp_seen_good-returns-else-is_data_good t c =
    let groups = group_faults c.args.groups_allowed c.args.dictionary.now.tables.avps.items in
    c.has_failed_avp_code_at-else-is_data_good.ensures groups (avp_of c.args.avp) c.requires.def

pub is_defined_avp_seen_good-is_group_seen_good-requires : goal.is_defined_avp_seen_good-is_group_seen_good-requires
is_defined_avp_seen_good-is_group_seen_good-requires t c =
    let fit = c.requires.fit in
    let def = c.avp_def_at.result.now in
    let code = c.args.avp.code in
    let vendor = c.args.avp.vendor in
    let found : find (is_coded code vendor) c.args.dictionary.now.tables.avps.items ≡ Some
    def = sym (c.avp_def_at.ensures ∙ c.requires.def) in (
      omega arith,
      (
        c.requires.linked,
        (
          fit,
          record {
            apart = fit.apart code vendor def found;
            closed = fit.closed code vendor def found;
            linked = c.avp_links_at.ensures def c.avp_def_at.ensures;
          },
        ),
      ),
    )

pub pass_avp_parts-returns-clause-passed : goal.pass_avp_parts-returns-clause-passed
pass_avp_parts-returns-clause-passed t c = λ yes l m k before is.
    let avps = c.args.dictionary.now.tables.avps.items in
    let rule = c.args.rule.entries.now in
    let a : Avp = record {
      code = c.args.code;
      vendor = c.args.vendor;
      mandatory = c.args.mandatory;
      protected = c.args.protected;
      bytes = c.args.bytes.now;
    } in
    let allowed = ap allows c.look_up_avp_by_marks-place.ensures.entry in
    let good = looked_up (group_faults c.args.groups_allowed avps) _ _ a _ _ allowed
    (c.is_avp_seen_good.ensures c.if-not-is_avp_seen_good.false) in
    one_passed c.args.groups_allowed avps rule l m k a _ _ _ before is good c.count_avp_at_entry.ensures.size
    c.count_avp_at_entry.ensures.counted
    c.look_up_avp_by_marks-place.ensures.counts

pub pass_spelled_avps_until_no_row-loop-avp-init : goal.pass_spelled_avps_until_no_row-loop-avp-init
pass_spelled_avps_until_no_row-loop-avp-init t c = ((λ m. m, λ m h. h, λ l m good. good), omega arith)

pub pass_spelled_avps_until_no_row-loop-avp-preserved : goal.pass_spelled_avps_until_no_row-loop-avp-preserved
pass_spelled_avps_until_no_row-loop-avp-preserved t c =
    let avps = c.args.dictionary.now.tables.avps.items in
    let rule = c.args.rule.entries.now in
    let s = c.loop-avp.left.now in
    let n = c.in-Some.size in
    let a = avp_of c.in-Some.avp in
    let stands = c.in-Some-allowed_row_for_avp_by_seat.ensures in
    let good = looked_up (group_faults c.args.groups_allowed avps) _ _ a _ _ stands.allowed
    (c.is_defined_avp_seen_good.ensures c.if-not-is_defined_avp_seen_good.false) in
    let ((all, spelled, passed), within) = c.loop-avp.invariant in (
      (
        λ m. all (a ∷ m),
        λ m h. spelled (a ∷ m)
            (take n s, _, rw (take_rest s n) (sym (take-append-drop n s)), c.in-Some.ensures.found, h),
        λ l m before. one_passed c.args.groups_allowed avps rule l (a ∷ m) m a _ _ (Some c.in-Some-allowed_row_for_avp_by_seat.entry)
            (passed l (a ∷ m) before) refl good c.count_avp_at_entry.ensures.size
            c.count_avp_at_entry.ensures.counted stands.counts,
      ),
      omega arith,
    )

pub pass_spelled_avp_without_row-returns-then-pass_unmarked_nonmandatory_avp-clause-passed : goal.pass_spelled_avp_without_row-returns-then-pass_unmarked_nonmandatory_avp-clause-passed
pass_spelled_avp_without_row-returns-then-pass_unmarked_nonmandatory_avp-clause-passed t c =
    let s = c.args.octets.now in
    let n = c.in-Some.size in
    let a = avp_of c.in-Some.avp in (
      λ m. a ∷ m,
      λ m h. (take n s, _, rw (take_rest s n) (sym (take-append-drop n s)), c.in-Some.ensures.found, h),
      λ l m before. c.pass_unmarked_nonmandatory_avp.ensures.passed c.if-pass_unmarked_nonmandatory_avp.true c.args.groups_allowed l
          (a ∷ m) m before refl,
    )

pub pass_spelled_avp_without_row-returns-then-pass_looked_up_avp-clause-passed : goal.pass_spelled_avp_without_row-returns-then-pass_looked_up_avp-clause-passed
pass_spelled_avp_without_row-returns-then-pass_looked_up_avp-clause-passed t c =
    let s = c.args.octets.now in
    let n = c.in-Some.size in
    let a = avp_of c.in-Some.avp in (
      λ m. a ∷ m,
      λ m h. (take n s, _, rw (take_rest s n) (sym (take-append-drop n s)), c.in-Some.ensures.found, h),
      λ l m before. c.pass_looked_up_avp.ensures.passed c.if-pass_looked_up_avp.true l (a ∷ m) m
          (rw (c.pass_unmarked_nonmandatory_avp.ensures.same c.if-pass_unmarked_nonmandatory_avp.false) before) refl,
    )

pub pass_spelled_avps-loop-behind-init : goal.pass_spelled_avps-loop-behind-init
pass_spelled_avps-loop-behind-init t c = (
  λ m. m,
  λ m h. h,
  λ m. none_passed c.args.groups_allowed c.args.dictionary.now.tables.avps.items c.args.rule.entries.now m _ c.requires.zero,
)

pub pass_spelled_avps-loop-behind-preserved : goal.pass_spelled_avps-loop-behind-preserved
pass_spelled_avps-loop-behind-preserved t c =
    let (all, spelled, before) = c.loop-behind.invariant in
    let (rows, behind, passed) = c.in-Some.ensures.passed in
    let (other, rest, more) = c.in-Some-pass_spelled_avp_without_row.ensures.passed in (
      λ m. all (rows (other m)),
      λ m h. spelled (rows (other m)) (behind (other m) (rest m h)),
      λ m. more (all (rows (other m))) m
          (passed (all (rows (other m))) (other m) (before (rows (other m)))),
    )

pub pass_spelled_avps-returns-then-is_empty : goal.pass_spelled_avps-returns-then-is_empty
pass_spelled_avps-returns-then-is_empty t c = λ done.
    let none = nil_from_length c.in-Some.behind.now (eqb-true _ 0 (sym c.is_empty.ensures ∙ c.if-is_empty.true)) in
    let (all, spelled, before) = c.loop-behind.invariant in
    let (rows, behind, passed) = c.in-Some.ensures.passed in
    let l = all (rows []) in
    let (good, counted) = all_passed c.args.groups_allowed _ _ l _ (passed l [] (before (rows []))) in
    (l, spelled (rows []) (behind [] none), good, counted)
