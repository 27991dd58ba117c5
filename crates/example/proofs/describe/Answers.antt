use Rattle.std.proofs.Common.{rules, ◌≡◌, string_bytes}
use Rattle.std.proofs.lemmas.Result.{IfOk-weaker}
use Rattle.example.specs.Answering.{Describes, line_text}
use Rattle.example.proofs.Described.{described}
use Rattle.example.proofs.describe.Goals as goal

pub returns-in-Ok : goal.returns-in-Ok
returns-in-Ok c =
    let avp = c.args.avp.now in
    let definition = c.in-Some.definition.now in
    let name = c.unwrap_or-name.result.now in
    let value = c.in-Ok.value in
    let read = c.read_value.result in
    IfOk-weaker c.line.result (λ s. string_bytes s ≡ line_text name value)
    (λ s. Describes c.args.base.now avp (string_bytes s))
    (
    λ s. described c.args.base.now avp definition _ name value read (search rules) c.in-Ok.is
    (search rules) (search rules)
    )
    c.line.ensures
