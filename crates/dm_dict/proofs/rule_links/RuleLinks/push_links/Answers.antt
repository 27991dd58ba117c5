-- The links that are kept last are shown last.
use Rattle.std.proofs.Common.{◌≡◌, ◌-◌, ◌∙◌, ◌++◌, ◌∷◌, [], ap, arith, get_or, length, length-append, rules}
use Rattle.dm_dict.specs.Links.{no_links}
use Rattle.dm_dict.specs.RuleLinks.{begun_links}
use Rattle.dm_dict.proofs.KeptLinks.{shown_begun, shown_more, shown_push, last_kept, within_begun}
use Rattle.dm_dict.proofs.rule_links.RuleLinks.push_links.Goals as goal

pub returns : goal.returns
returns c =
    let kept = c.self.inside.kept.items in
    let all = begun_links kept in
    let places = c.self.inside.places.items in
    let links = c.args.links in
    let place = c.len.result - 1 in
    let within = c.self.invariant.within in
    let told : c.len.result ≡ length c.push.new.self.items = search rules in
    let items = c.in_ok-push.ensures.items ∙ ap (λ l. l ++ links ∷ []) c.in_ok-keep_empty_links_once.ensures.begun in
    let pushed : c.len.result ≡ length (all ++ links ∷ []) = told ∙ ap length items in
    let size : place ≡ length all = omega (arith, pushed, length-append all (links ∷ [])) in
    let last : get_or (all ++ links ∷ []) place no_links ≡ links = rw size (last_kept all links) in
    rw (c.in_ok-push-2.ensures.items, items, ← c.self.view_is)
    (shown_push (all ++ links ∷ []) places place links last
    ∙ ap (λ x. x ++ links ∷ []) (shown_more all links places (within_begun kept places within) ∙ shown_begun kept places within))
