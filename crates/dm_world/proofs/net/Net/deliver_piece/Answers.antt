use Rattle.std.specs.Prelude.{ℕ, List, IsTrue, Result, Ok, Err, OnErr}
use Rattle.std.proofs.Common.{rules, slice_get, ◌≡◌, ◌<◌, ◌≤◌, ◌⊎◌, sym, ap, subst, ◌∙◌, arith}
use Rattle.dm_two_peers.specs.Happens.{happens, Pieces, take_part, own_view}
use Rattle.dm_two_peers.specs.Links.{Side, Direction, Link, by_side}
use Rattle.dm_two_peers.specs.Worlds.{change_at}
use Rattle.dm_octet_peers.specs.Octets.{octet_peers}
use Rattle.dm_world.specs.declared.direction.Next.TheVariants as next
use Rattle.dm_world.specs.Fed.{octets_to_come}
use Rattle.dm_world.specs.Next.{octets_to_come_to}
use Rattle.dm_world.specs.Happening.{is_fed_at}
use Rattle.dm_world.specs.Seen.{as_side, as_link, as_links}
use Rattle.dm_world.specs.Views.{as_world, Effects}
use Rattle.dm_world.proofs.Changed.{changed, same_links}
use Rattle.dm_world.proofs.Hearing.{link_at, link_found}
use Rattle.dm_world.proofs.Deliveries.{no_message, part_step, last_step}
use Rattle.dm_world.proofs.Wants.{wants_last, wants_part}
use Rattle.dm_world.proofs.net.Net.deliver_piece.Goals as goal

to_come_at : (s : Side) (l : Link (List ℕ)) (d : Direction (List ℕ)) (n : ℕ) → d ≡ (own_view s l).incoming →
    n ≡ octets_to_come d.messages d.taken → n ≡ octets_to_come_to s l
to_come_at s l d n at is = is ∙ ap (λ (e : Direction (List ℕ)). octets_to_come e.messages e.taken) at

pub returns-then-front_octets_left-count-clause-step : goal.returns-then-front_octets_left-count-clause-step
returns-then-front_octets_left-count-clause-step c =
    let s = as_side c.args.side in
    let w = as_world c.args.self.now in
    let next = as_world c.deliver_message_to.new.self in
    let outcome = c.in_ok-deliver_message_to-in-Message.field-0 in
    let there = c.in_ok-index.ensures.there in
    let come : c.front_octets_left.result ≡ octets_to_come_to s (as_link c.index-link.result.now) =
    to_come_at s (as_link c.index-link.result.now) c.direction_to.result.now.direction c.front_octets_left.result
    c.direction_to.ensures
    c.front_octets_left.ensures in
    let above : octets_to_come_to s (as_link c.index-link.result.now) ≤ c.args.count =
    omega (arith, come) in
    subst (λ k. Effects outcome (happens octet_peers w (Pieces k s c.args.count)) w next) there.0
    (last_step s c.in_ok-index.index c.args.count outcome w next (as_link c.index-link.result.now)
    (link_at c.in_ok-index.index c.args.self.now.links.items c.index-link.result.now there.1 c.index-link.ensures)
    (sym c.coming_next_to.ensures ∙ c.in-Message.is) (omega arith) above c.in_ok-deliver_message_to-in-Message.ensures.step)

pub returns-in-Disconnect-clause-step : goal.returns-in-Disconnect-clause-step
returns-in-Disconnect-clause-step c =
    no_message (as_side c.args.side) c.args.conn.0 c.args.count (as_world c.args.self.now)
    (as_link c.index-link.result.now)
    (link_found c.args.conn.0 c.in_ok-index.index c.args.self.now.links.items c.index-link.result.now
    c.in_ok-index.ensures.there c.index-link.ensures) (omega arith)
    (subst (λ n. (n ≡ next.Disconnect) ⊎ (n ≡ next.Nothing)) c.coming_next_to.ensures c.in-Disconnect.is)

pub returns-in_ok-deliver_octets_to-in-Message-clause-step : goal.returns-in_ok-deliver_octets_to-in-Message-clause-step
returns-in_ok-deliver_octets_to-in-Message-clause-step c =
    let s = as_side c.args.side in
    let there = c.in_ok-index.ensures.there in
    let come : c.front_octets_left.result ≡ octets_to_come_to s (as_link c.index-link.result.now) =
    to_come_at s (as_link c.index-link.result.now) c.direction_to.result.now.direction c.front_octets_left.result
    c.direction_to.ensures
    c.front_octets_left.ensures in
    let below : c.args.count < octets_to_come_to s (as_link c.index-link.result.now) =
    omega (arith, come) in
    part_step s c.args.conn.0 c.args.count (as_world c.args.self.now) _ (as_link c.index-link.result.now)
    (link_found c.args.conn.0 c.in_ok-index.index c.args.self.now.links.items c.index-link.result.now there
    c.index-link.ensures)
    (sym c.coming_next_to.ensures ∙ c.in-Message.is) (omega arith) below
    (ap (λ ls. record { a = c.args.self.now.pair.a; b = c.args.self.now.pair.b; links = ls })
    (changed (by_side s (take_part c.args.count)) c.in_ok-index.index c.args.self.now.links.items _
    c.deliver_octets_to.new.self
    c.index_mut.ensures.value there.1 c.in_ok-deliver_octets_to-in-Message.ensures.taken
    ∙ ap (λ k. change_at k (by_side s (take_part c.args.count)) (as_links c.args.self.now.links.items)) there.0))

at_err : {T E P : Type 0} (r : Result T E) → P → OnErr r P
at_err (Ok x) is = tt
at_err (Err e) is = is

pub returns-in_err-deliver_octets_to-in-Message-clause-unchanged : goal.returns-in_err-deliver_octets_to-in-Message-clause-unchanged
returns-in_err-deliver_octets_to-in-Message-clause-unchanged c =
    at_err c.from_residual-in_err-deliver_octets_to-in-Message.result
    (ap (λ ls. record { a = c.args.self.now.pair.a; b = c.args.self.now.pair.b; links = ls })
    (same_links c.in_ok-index.index c.args.self.now.links.items _ c.deliver_octets_to.new.self c.index_mut.ensures.value
    c.in_err-deliver_octets_to-in-Message.ensures.unchanged))

pub returns-in_err-deliver_message_to-in-Message-clause-fault : goal.returns-in_err-deliver_message_to-in-Message-clause-fault
returns-in_err-deliver_message_to-in-Message-clause-fault c =
    let there =
    link_found c.args.conn.0 c.in_ok-index.index c.args.self.now.links.items c.index-link.result.now
    c.in_ok-index.ensures.there c.index-link.ensures in
    let hears = c.in_err-deliver_message_to-in-Message.ensures.heard (as_link c.index-link.result.now)
    (link_at c.in_ok-index.index c.args.self.now.links.items c.index-link.result.now c.in_ok-index.ensures.there.1
    c.index-link.ensures) in
    let want : IsTrue (is_fed_at (as_side c.args.side) c.args.count
    (slice_get (as_links c.args.self.now.links.items) c.args.conn.0)) =
    wants_last (as_side c.args.side) c.args.count (slice_get (as_links c.args.self.now.links.items) c.args.conn.0)
    (as_link c.index-link.result.now) there (sym c.coming_next_to.ensures ∙ c.in-Message.is) (omega arith) hears in
    search rules

pub returns-in_err-deliver_octets_to-in-Message-clause-fault : goal.returns-in_err-deliver_octets_to-in-Message-clause-fault
returns-in_err-deliver_octets_to-in-Message-clause-fault c =
    let there =
    link_found c.args.conn.0 c.in_ok-index.index c.args.self.now.links.items c.index-link.result.now
    c.in_ok-index.ensures.there c.index-link.ensures in
    let come : c.front_octets_left.result ≡ octets_to_come_to (as_side c.args.side) (as_link c.index-link.result.now) =
    to_come_at (as_side c.args.side) (as_link c.index-link.result.now) c.direction_to.result.now.direction
    c.front_octets_left.result c.direction_to.ensures c.front_octets_left.ensures in
    let below : c.args.count < octets_to_come_to (as_side c.args.side) (as_link c.index-link.result.now) =
    omega (arith, come) in
    let want : IsTrue (is_fed_at (as_side c.args.side) c.args.count
    (slice_get (as_links c.args.self.now.links.items) c.args.conn.0)) =
    wants_part (as_side c.args.side) c.args.count (slice_get (as_links c.args.self.now.links.items) c.args.conn.0)
    (as_link c.index-link.result.now) there (sym c.coming_next_to.ensures ∙ c.in-Message.is) (omega arith) below in
    search rules
