-- What stands behind the tags that were passed stands behind those of the whole.
use Rattle.std.proofs.Common.{inl, inr, arith}
use Rattle.dm_flows.proofs.Passing.{behind_tag, type_found, tag_found}
use Rattle.dm_flows.proofs.tags.ethertype_behind_tags.Goals as goal

pub returns-then-kind-2-clause-typed : goal.returns-then-kind-2-clause-typed
returns-then-kind-2-clause-typed c =
    c.tags.invariant.typed 0 c.read_u16-kind.result _
    (type_found c.tags.rest.now c.read_u16-kind.result c.tags-test.true c.read_u16-kind.ensures c.if-kind.true
    c.if-kind-2.true)

pub returns-then-rest-lt4-clause-none : goal.returns-then-rest-lt4-clause-none
returns-then-rest-lt4-clause-none c =
    let tag = tag_found c.tags.rest.now c.read_u16-kind.result c.read_u16-kind.ensures c.else-kind.either in
    c.tags.invariant.ends 0 (inr (c.tags-test.true, c.if-rest-lt4.true, tag))

pub tags-preserved : goal.tags-preserved
tags-preserved c =
    let tag = tag_found c.tags.rest.now c.read_u16-kind.result c.read_u16-kind.ensures c.else-kind.either in
    behind_tag _ c.tags.rest.now c.tags.invariant c.if-rest-lt4.false tag

pub returns-clause-none : goal.returns-clause-none
returns-clause-none c = c.tags.invariant.ends 0 (inl (omega arith))
