use Rattle.std.proofs.Common.{◌≡◌, ◌∙◌, ap, rules}
use Rattle.std.specs.String.{string_bytes}
use Rattle.json.specs.Print.{print}
use Rattle.dm_view.proofs.JsonPrinted.{as_printed}
use Rattle.dm_view.proofs.json_printed.Printed.put_into.Goals as goal

pub returns : goal.returns
returns c =
    let p = c.self.inside in
    let is : c.as_str.result.now ≡ print c.args.self.now =
    c.as_str.ensures.value ∙ as_printed (string_bytes p.text) p.after_value c.self.invariant
    ∙ ap print c.self.view_is in
    rw (← is) (search rules)
