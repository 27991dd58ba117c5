-- What is noted changes nothing.
use Rattle.std.proofs.Common.{◌≡◌, true, OnOk, OnErr, subst, ◌∙◌}
use Rattle.dm_slots.specs.Held.{intakes_of}
use Rattle.dm_slots.specs.Intakes.{Intakes, is_there, changed, fed_intake}
use Rattle.dm_slots.proofs.slots.Slots.feed.Goals as goal

pub returns-clause-fed : goal.returns-clause-fed
returns-clause-fed c =
    subst (λ (f : Intakes). OnOk c.feed_found.result
    (intakes_of c.feed_found.new.self ≡ changed c.args.conn.0 (fed_intake c.args.piece.now) f))
    c.look_first_at.ensures.intakes c.feed_found.ensures.fed

pub returns-clause-unchanged : goal.returns-clause-unchanged
returns-clause-unchanged c =
    subst (λ (f : Intakes). OnErr c.feed_found.result (intakes_of c.feed_found.new.self ≡ f)) c.look_first_at.ensures.intakes
    c.feed_found.ensures.unchanged

pub returns-clause-memory : goal.returns-clause-memory
returns-clause-memory c =
    subst (λ (f : Intakes). OnErr c.feed_found.result (is_there c.args.conn.0 f ≡ true)) c.look_first_at.ensures.intakes
    c.feed_found.ensures.memory

pub returns-clause-owners : goal.returns-clause-owners
returns-clause-owners c = c.feed_found.ensures.owners ∙ c.look_first_at.ensures.owners
