-- The tally at the place counts the AVP.
use Rattle.std.proofs.Common.{rules, arith}
use Rattle.std.proofs.lemmas.Bool.{ne_eqb}
use Rattle.std.proofs.lemmas.List.{get_or_default}
use Rattle.dm_wire.specs.Borrowed.{avp_of}
use Rattle.dm_dict.specs.Rules.{is_at}
use Rattle.dm_dict.proofs.Tallied.{none_counts, one_counts}
use Rattle.dm_dict.proofs.tallies.tally_at_entry.Goals as goal

pub returns-then-at-tallies : goal.returns-then-at-tallies
returns-then-at-tallies c = λ avps rule l m at h.
    one_counts avps rule l m (avp_of c.args.avp) c.args.tallies.now c.in-Some.at _ c.count_avp.new.self (omega arith)
    (get_or_default c.args.tallies.now c.in-Some.at _ _ (omega arith))
    c.count_avp.ensures (λ i e below is. rw c.in-Some.is at at i e below is) h

pub returns-else-at-tallies : goal.returns-else-at-tallies
returns-else-at-tallies c = λ avps rule l m at h.
    none_counts avps rule l m (avp_of c.args.avp) c.args.tallies.now (is_at c.args.at)
    (λ i below. let same = h.size in rw c.in-Some.is (ne_eqb c.in-Some.at i (λ is. omega arith))) at h

pub returns-in_default : goal.returns-in_default
returns-in_default c = λ avps rule l m at h.
    none_counts avps rule l m (avp_of c.args.avp) c.args.tallies.now (is_at c.args.at)
    (λ i below. search rules) at h
