use Rattle.std.proofs.Common.{◌≡◌, ◌<◌, ◌+◌, ◌++◌, ◌∷◌, [], length, length-append, None, Some, find, refl, sym, ap, ◌∙◌, arith}
use Rattle.dm_tables.specs.Definitions.{is_coded}
use Rattle.dm_wire.specs.Borrowed.{avp_of}
use Rattle.dm_dict.specs.Locating.{found}
use Rattle.dm_dict.proofs.Listed.{under_done}
use Rattle.std.specs.Option.{option_copied}
use Rattle.dm_dict.specs.Rules.{allows}
use Rattle.dm_dict.proofs.Paths.{group_listed, located_next}
use Rattle.dm_dict.proofs.avp_faults.+locating.Goals as goal

pub add_avp_faults-add_group_faults-requires : goal.add_avp_faults-add_group_faults-requires
add_avp_faults-add_group_faults-requires t c =
    let fit = c.requires.fit in
    let def = c.in-Some.field-0.def.now in
    let code = c.args.avp.code in
    let vendor = c.args.avp.vendor in
    let found : find (is_coded code vendor) c.args.dictionary.now.tables.avps.items ≡ Some
    def = sym (c.in-Some.ensures.def ∙ c.requires.def) in (
      omega arith,
      (
        c.requires.linked,
        (
          fit,
          (
            record {
              apart = fit.apart code vendor def found;
              closed = fit.closed code vendor def found;
              linked = c.in-Some.ensures.links;
            },
            c.requires.room,
          ),
        ),
      ),
    )

pub add_group_faults-returns-in_default : goal.add_group_faults-returns-in_default
add_group_faults-returns-in_default t c =
    under_done c.add_faults_under_rule.result
    (λ listed. rw c.in_default.is
    (group_listed c.args.groups_allowed (λ e. omega (arith, e, c.if-groups_allowed-eq0.false)) c.args.dictionary.now.tables.avps.items
    c.args.nth c.args.rule.entries.now (avp_of c.args.avp) None None (found None c.args.findings.now)
    (found None c.add_faults_under_rule.new.findings) refl (sym c.spells_avps.ensures ∙ c.if-not-spells_avps.false)
    (λ l is. listed l is)))
    c.add_faults_under_rule.ensures

pub add_group_faults-returns : goal.add_group_faults-returns
add_group_faults-returns t c =
    let outer = c.in-Some.path.now in
    let inner = c.inside-inside.result in
    rw c.in-Some.is
    (group_listed c.args.groups_allowed (λ e. omega (arith, e, c.if-groups_allowed-eq0.false)) c.args.dictionary.now.tables.avps.items
    c.args.nth c.args.rule.entries.now (avp_of c.args.avp) (Some outer) (Some inner) (found (Some outer) c.args.findings.now)
    (found (Some inner) c.add_faults_under_rule-2.new.findings) (ap Some c.inside-inside.ensures.inside)
    (sym c.spells_avps.ensures ∙ c.if-not-spells_avps.false)
    (λ l is. c.in_ok-add_faults_under_rule.ensures l is))

pub add_each_avp_faults-loop-avp-preserved : goal.add_each_avp_faults-loop-avp-preserved
add_each_avp_faults-loop-avp-preserved t c = λ all h.
    let path = option_copied c.args.path in
    let avps = c.args.dictionary.now.tables.avps.items in
    let rule = c.args.rule.entries.now in
    let a = avp_of c.in-Some.avp in
    let (p, m, listed, within, numbered, so_far) = c.loop-avp.invariant all h in
    let (k, is, behind) = c.in-Some.ensures.parts m listed in
    let longer : length (p ++ a ∷ []) ≡ length p + 1 = length-append p (a ∷ []) in
    let less = c.in-Some.ensures.less in
    let size = c.requires.size in
    let fits : length p + 1 < 18446744073709551616 = omega (arith, within, less, size) in (
      p ++ a ∷ [],
      k,
      behind,
      omega (arith, longer, within, less),
      c.in_ok-nth.ensures.counted p fits numbered,
      located_next path c.args.groups_allowed avps rule p m k a c.in_ok-nth.nth c.has_entry_allowing_avps-allowed.result _ _ _ is
          (c.has_entry_allowing_avps-allowed.ensures ∙ ap allows c.look_up_avp_by_marks-place.ensures.entry)
          (c.in_ok-nth.ensures.nth p fits numbered) c.in_ok-add_avp_faults.ensures so_far,
    )

pub add_each_avp_faults-loop-avp-init : goal.add_each_avp_faults-loop-avp-init
add_each_avp_faults-loop-avp-init t c = λ all h. ([], all, h, omega arith, λ a wanted. rw c.requires.none refl, refl)
