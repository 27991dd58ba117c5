use Rattle.std.proofs.Common.{◌++◌, [], ℕ, List, Some, None, length, length-append, append_assoc, append-nil, arith, ap, sym, ◌∙◌, refl, subst}
use Rattle.dm_framer.specs.Frames.{HasFault, IsFrame, IsPartial}
use Rattle.dm_view_lines.specs.declared.tally.Tally.{Tally}
use Rattle.dm_view_lines.specs.Counts.{no_lines, tally_of, tallied}
use Rattle.dm_view_lines.proofs.Pieces.{behind, Continues, continues-none, continues-next, continues-end, frames-part, frames-fault}
use Rattle.dm_view_lines.proofs.Steps.{added-assoc, added-none}
use Rattle.dm_view_lines.proofs.frames.take_frames_and_put_reports.Goals as goal

pub loop-message-init : goal.loop-message-init
loop-message-init c = record {
  held = c.requires.held;
  kept = refl;
  so = [];
  told = no_lines;
  text = sym (append-nil _);
  counted = sym (added-none c.args.reading.tally);
  behind = continues-none c.args.task c.args.dictionary.now c.args.framer.now.octets c.args.reading.tally;
}

pub loop-message-smaller : goal.loop-message-smaller
loop-message-smaller c =
    let front = rw c.in-Ok-Some.field-0-is at c.in-Ok-Some.ensures.frame in
    let gone = c.skip.ensures.frame c.in-Ok-Some.message.now front.first.0 front.frame front.first.1 in
    let least = front.frame.least in
    let size = ap length front.first.1 ∙ length-append c.in-Ok-Some.message.now front.first.0 in
    let left = ap (λ f. length f.octets) gone in
    omega (arith, least, size, left)

pub loop-message-preserved : goal.loop-message-preserved
loop-message-preserved c =
    let inv = c.loop-message.invariant in
    let framer = c.loop-message.framer in
    let tally = c.loop-message.tally in
    let message = c.in-Ok-Some.message.now in
    let front = rw c.in-Ok-Some.field-0-is at c.in-Ok-Some.ensures.frame in
    let more = front.first.0 in
    let gone = c.skip.ensures.frame message more front.frame front.first.1 in
    let size = ap length front.first.1 ∙ length-append message more in
    let left = ap (λ f. length f.octets) gone in
    let most = ap (λ f. f.max) inv.kept ∙ c.requires.most in
    let max = ap (λ f. f.max) gone ∙ ap (λ f. f.max) inv.kept in
    let fault = ap (λ f. f.fault) gone ∙ ap (λ f. f.fault) inv.kept in
    let said = c.in_ok-tally-in-Ok-Some.ensures in
    let one = tally_of (Some said.1) in
    let line = said.0 in
    let octets = c.skip.new.self.octets in
    let Left : List ℕ → Type 0 = λ v. Continues c.args.task c.args.dictionary.now c.args.framer.now.octets v
    c.args.reading.tally (tallied tally one) (inv.so ++ line) (tallied inv.told one) in
    let Counted : Tally → Type 0 = λ v. Continues c.args.task c.args.dictionary.now c.args.framer.now.octets octets
    c.args.reading.tally v (inv.so ++ line) (tallied inv.told one) in
    let Frame : ℕ → Type 0 = λ m. IsFrame m message in
    record {
      held = omega (arith, inv.held, size, left);
      kept = λ i. record { octets = octets; max = max i; fault = fault i };
      so = inv.so ++ line;
      told = tallied inv.told one;
      text = said.3 ∙ ap (λ v. v ++ line) inv.text ∙ append_assoc _ inv.so line;
      counted = said.4 ∙ ap (λ v. tallied v one) inv.counted ∙ sym (added-assoc c.args.reading.tally inv.told one);
      behind = subst Counted (sym said.4) (subst Left (sym (ap (λ f. f.octets) gone))
          (continues-next c.args.task c.args.dictionary.now c.args.framer.now.octets framer.octets more message
          c.args.reading.tally tally inv.so said.0 said.1 inv.told front.first.1 (subst Frame most front.frame) said.2
          inv.behind));
    }

pub returns-in-Ok-None-clause-said : goal.returns-in-Ok-None-clause-said
returns-in-Ok-None-clause-said c =
    let inv = c.loop-message.invariant in
    let held = c.loop-message.framer.octets in
    let tally = c.loop-message.tally in
    let most = ap (λ f. f.max) inv.kept ∙ c.requires.most in
    let part = rw c.in-Ok-None.field-0-is at c.in-Ok-None.ensures.part in
    let Part : ℕ → Type 0 = λ m. IsPartial m held in (
      inv.so,
      inv.told,
      inv.text,
      continues-end c.args.task c.args.dictionary.now c.args.framer.now.octets held held inv.so None
          c.args.reading.tally tally inv.told inv.behind
          (frames-part c.args.task c.args.dictionary.now (behind tally) held (subst Part most part)),
      inv.counted,
    )

pub returns-in-Err-clause-said : goal.returns-in-Err-clause-said
returns-in-Err-clause-said c =
    let inv = c.loop-message.invariant in
    let held = c.loop-message.framer.octets in
    let tally = c.loop-message.tally in
    let fault = c.in-Err.fault in
    let most = ap (λ f. f.max) inv.kept ∙ c.requires.most in
    let Has : ℕ → Type 0 = λ m. HasFault m held fault in (
      inv.so,
      inv.told,
      inv.text,
      continues-end c.args.task c.args.dictionary.now c.args.framer.now.octets held held inv.so (Some fault)
          c.args.reading.tally tally inv.told inv.behind
          (frames-fault c.one_front_frame_or_lasting_fault.ensures.either c.args.task c.args.dictionary.now (behind tally) held fault
          (subst Has most c.in-Err.ensures.fault)),
      inv.counted,
    )
