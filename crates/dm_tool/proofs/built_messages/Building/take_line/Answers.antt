use Rattle.std.proofs.Common.{◌≡◌, ◌≢◌, ◌++◌, ◌∷◌, [], List, ℕ, Some, None, false, ap, sym, ◌∙◌, subst}
use Rattle.dm_wire.specs.declared.avp.Avp.{Avp}
use Rattle.dm_wire.specs.declared.message.Header.{Header}
use Rattle.dm_text.specs.Lines.{trimmed, is_skipped}
use Rattle.dm_tool.specs.Messages.{TellsHeader, TellsAvp}
use Rattle.dm_tool.specs.Progress.{BuiltSoFar}
use Rattle.dm_tool.proofs.Buildings.{stands-header}
use Rattle.dm_tool.proofs.Contents.{content-one}
use Rattle.dm_tool.proofs.Options.{ok-then}
use Rattle.dm_tool.proofs.built_messages.Building.take_line.Goals as goal

pub returns-in_ok-push_last_message_and_clear_avps-in-Some-clause-taken : goal.returns-in_ok-push_last_message_and_clear_avps-in-Some-clause-taken
returns-in_ok-push_last_message_and_clear_avps-in-Some-clause-taken c = λ taken lines stands.
    let skipped : is_skipped (trimmed c.args.line.now) ≡ false = ap is_skipped (sym c.trim_spaces-line.ensures)
    ∙ sym c.is_empty_or_comment.ensures ∙ c.if-is_empty_or_comment.false in
    let Line : List ℕ → Type 0 = λ l. TellsHeader c.in-Some.header l in
    let More : List (List ℕ) → Type 0 = λ v. BuiltSoFar (lines ++ v)
    (Some c.in-Some.header) c.push_last_message_and_clear_avps.new.self.avps.items c.push_last_message_and_clear_avps.new.self.text.items
    c.push_last_message_and_clear_avps.new.self.good in
    let built = c.in_ok-push_last_message_and_clear_avps-in-Some.ensures.built in
    subst More (sym (content-one c.args.line.now false skipped))
    (stands-header lines (trimmed c.args.line.now) c.in-Some.header c.args.self.now.last c.args.self.now.avps.items
    c.push_last_message_and_clear_avps.new.self.avps.items c.args.self.now.text.items built.0
    c.push_last_message_and_clear_avps.new.self.text.items
    c.args.self.now.good built.1 c.push_last_message_and_clear_avps.new.self.good
    (subst Line c.trim_spaces-line.ensures c.in-Some.ensures.told) c.in_ok-push_last_message_and_clear_avps-in-Some.ensures.emptied built.2 built.3
    built.4 stands)

pub returns-in-None-clause-taken : goal.returns-in-None-clause-taken
returns-in-None-clause-taken c = ok-then c.take_avp_line.result (λ b more taken lines stands.
    let skipped : is_skipped (trimmed c.args.line.now) ≡ false = ap is_skipped (sym c.trim_spaces-line.ensures)
    ∙ sym c.is_empty_or_comment.ensures ∙ c.if-is_empty_or_comment.false in
    let Lines : List (List ℕ) → Type 0 = λ v. BuiltSoFar
    (lines ++ v) c.take_avp_line.new.self.last c.take_avp_line.new.self.avps.items c.take_avp_line.new.self.text.items
    c.take_avp_line.new.self.good in
    subst Lines (ap (λ l. l ∷ []) c.trim_spaces-line.ensures ∙ sym (content-one c.args.line.now false skipped))
    (more taken lines stands)) c.take_avp_line.ensures.taken

pub returns-in-None-clause-refused : goal.returns-in-None-clause-refused
returns-in-None-clause-refused c = ok-then c.take_avp_line.result (λ b none refused.
    let skipped : is_skipped (trimmed c.args.line.now) ≡ false = ap is_skipped (sym c.trim_spaces-line.ensures)
    ∙ sym c.is_empty_or_comment.ensures ∙ c.if-is_empty_or_comment.false in
    let NoHeader : List ℕ → Type 0 = λ l. (h : Header) → TellsHeader h l → ⊥ in
    let NoAvp : List ℕ → Type 0 = λ l. c.args.self.now.last ≢ None → (a : Avp) → TellsAvp a l → ⊥ in (
      skipped,
      (subst NoHeader c.trim_spaces-line.ensures c.in-None.ensures.none, subst NoAvp c.trim_spaces-line.ensures (none refused)),
    ))
    c.take_avp_line.ensures.refused
