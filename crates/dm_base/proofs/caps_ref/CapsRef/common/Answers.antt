-- The sorted ids are the own ones, and the node is no relay.
use Rattle.std.proofs.Common.{◌≡◌, false, ◌||◌, ℕ, List, sym, ◌∙◌, ap, subst}
use Rattle.std.specs.List.{flat_map}
use Rattle.std.specs.List.Sorted.{IsPermutation}
use Rattle.dm_base.specs.Common.{is_relay, meets}
use Rattle.dm_base.specs.Kinds.{application_ids}
use Rattle.dm_base.specs.Extra.{specific_ids}
use Rattle.dm_base.proofs.Searching.{same_own, or_behind}
use Rattle.dm_base.proofs.caps_ref.CapsRef.common.Goals as goal

pub returns : goal.returns
returns c = λ caps shows.
    let n = c.args.node.now in
    let told = flat_map application_ids shows.avps in
    let auth : IsPermutation n.auth c.sorted_ids-auth.result.now =
    subst (λ (s : List ℕ). IsPermutation s c.sorted_ids-auth.result.now) c.as_slice.ensures
    c.sorted_ids-auth.ensures.same in
    let acct : IsPermutation n.acct c.sorted_ids-acct.result.now =
    subst (λ (s : List ℕ). IsPermutation s c.sorted_ids-acct.result.now) c.as_slice-2.ensures
    c.sorted_ids-acct.ensures.same in
    let specific : IsPermutation (specific_ids n) c.sorted_ids-specific.result.now =
    subst (λ (s : List ℕ). IsPermutation s c.sorted_ids-specific.result.now) c.vendor_application_ids.ensures.ids
    c.sorted_ids-specific.ensures.same in
    let relay : is_relay n ≡ false = sym c.is_relay.ensures ∙ c.if-is_relay.false in
    c.some_avp_tells_common_id.ensures shows.avps shows.listed ∙ same_own _ _ _ _ _ _ told auth acct specific
    ∙ or_behind (is_relay n) (meets n told) relay
    ∙ ap (λ (ids : List ℕ). is_relay n || meets n ids) (sym shows.applications)
