-- What is there stays there.
use Rattle.std.proofs.Common.{◌≡◌, ℕ, Result, Ok, Err, IfOk, OnErr, sym, subst, take}
use Rattle.dm_slots.specs.Intakes.{Intakes, fed_intake, changed}
use Rattle.dm_slots.specs.Held.{intakes_of, owners_of}
use Rattle.dm_node.specs.NodeHeld.{AllHeldAreThere, AreRaised}
use Rattle.dm_node.proofs.NodeStaying.{held_changed}
use Rattle.dm_node.proofs.Owning.{owned_same}
use Rattle.dm_node.proofs.Raised.{raised_changed, fed_same}
use Rattle.dm_node.proofs.node.Node.keep_front_or_discard.Goals as goal

some_or_not : {E : Type 0} (r : Result ℕ E) (P : Intakes → Type 0) (x : ℕ → Intakes) (old new : Intakes) →
    IfOk r (λ n. new ≡ x n) → OnErr r (new ≡ old) → ((n : ℕ) → P (x n)) → P old → P new
some_or_not (Ok n) P x old new ok err there before = subst P (sym ok) (there n)
some_or_not (Err e) P x old new ok err there before = subst P (sym err) before

pub invariant_of-self : goal.invariant_of-self
invariant_of-self c =
    let ps = c.args.self.now.neighbours in
    let old = intakes_of c.args.self.now.intakes in
    let fed : ℕ → Intakes = λ n. changed c.args.conn.0 (fed_intake (take n c.args.piece.now)) old in
    record {
      held = some_or_not c.feed_front_or_discard.result (AllHeldAreThere ps) fed old (intakes_of c.feed_front_or_discard.new.self)
          c.feed_front_or_discard.ensures.fed c.feed_front_or_discard.ensures.unchanged
          (λ n. held_changed c.connections_stay_until_closed.ensures.changed ps c.args.conn.0
          (fed_intake (take n c.args.piece.now)) old c.args.self.now.held) c.args.self.now.held;
      raised = some_or_not c.feed_front_or_discard.result (AreRaised c.args.self.now.most ps) fed old
          (intakes_of c.feed_front_or_discard.new.self) c.feed_front_or_discard.ensures.fed
          c.feed_front_or_discard.ensures.unchanged
          (λ n. raised_changed c.args.self.now.most ps c.args.conn.0 (fed_intake (take n c.args.piece.now)) old
          (fed_same (take n c.args.piece.now)) c.args.self.now.raised) c.args.self.now.raised;
      owned = owned_same ps (owners_of c.args.self.now.intakes) (owners_of c.feed_front_or_discard.new.self)
          c.feed_front_or_discard.ensures.owners c.args.self.now.owned;
      met = c.args.self.now.met;
    }
