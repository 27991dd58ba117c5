-- The sorted ids are the own ones.
use Rattle.std.proofs.Common.{ℕ, List, ◌∙◌, subst}
use Rattle.std.specs.List.Sorted.{IsPermutation}
use Rattle.dm_base.specs.Extra.{specific_ids}
use Rattle.dm_base.proofs.Searching.{same_own}
use Rattle.dm_base.proofs.applications.has_common_or_relay_id.Goals as goal

pub returns : goal.returns
returns c =
    let auth : IsPermutation c.args.node.now.auth c.sorted_ids-auth.result.now =
    subst (λ (l : List ℕ). IsPermutation l c.sorted_ids-auth.result.now) c.as_slice.ensures
    c.sorted_ids-auth.ensures.same in
    let acct : IsPermutation c.args.node.now.acct c.sorted_ids-acct.result.now =
    subst (λ (l : List ℕ). IsPermutation l c.sorted_ids-acct.result.now) c.as_slice-2.ensures
    c.sorted_ids-acct.ensures.same in
    let specific : IsPermutation (specific_ids c.args.node.now) c.sorted_ids-specific.result.now =
    subst (λ (l : List ℕ). IsPermutation l c.sorted_ids-specific.result.now) c.vendor_application_ids.ensures.ids
    c.sorted_ids-specific.ensures.same in
    c.has_own_or_relay_id.ensures ∙ same_own _ _ _ _ _ _ c.args.theirs.now auth acct specific
