use Rattle.std.proofs.Common.{◌∷◌, ◌++◌, [], inl, inr, ap, ◌∙◌, Err, append_assoc}
use Rattle.hex.specs.Hex.{encode_lower}
use Rattle.dm_tool.proofs.Buildings.{built_octets, built_fault}
use Rattle.dm_tool.proofs.built_messages.push_octets_or_fault_line.Goals as goal

pub returns-in_ok-push-in-Ok-clause-built : goal.returns-in_ok-push-in-Ok-clause-built
returns-in_ok-push-in-Ok-clause-built c =
    built_octets c.args.message.now c.args.text.now.items c.push.new.self.items
    c.in-Ok.octets.items c.as_slice.result.now c.in-Ok.ensures.octets c.in-Ok.ensures.spelled
    c.as_slice.ensures.value
    (c.in_ok-push-in-Ok.ensures.items ∙ ap (λ v. v ++ 10 ∷ []) c.in_ok-push_hexadecimal-in-Ok.ensures
    ∙ append_assoc c.args.text.now.items (encode_lower c.as_slice.result.now) (10 ∷ []))

pub returns-in_ok-push-in-Err-clause-built : goal.returns-in_ok-push-in-Err-clause-built
returns-in_ok-push-in-Err-clause-built c = elim c.in-Err.ensures.fault [
  | inl long ↦ built_fault c.args.message.now c.in-Err.fault c.args.text.now.items
      c.push_message_fault_words.new.text.items c.push-in-Err.new.self.items long
      (c.in-Err.ensures.unspelled.0 (ap Err long))
      c.in_ok-push_message_fault_words-in-Err.ensures.words c.in_ok-push-in-Err.ensures.items
  | inr none ↦ absurd (c.in_ok-push_message_fault_words-in-Err.ensures.known none)
]
