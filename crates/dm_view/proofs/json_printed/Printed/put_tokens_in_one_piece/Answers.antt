use Rattle.std.proofs.Common.{◌≡◌, ◌∙◌, ◌++◌, ◌&&◌, ◌∷◌, [], ap, cond}
use Rattle.std.specs.String.{string_bytes}
use Rattle.dm_view.proofs.JsonPrinted.{more, none, shows_more}
use Rattle.dm_view.proofs.json_printed.Printed.put_tokens_in_one_piece.Goals as goal
use Rattle.dm_view.proofs.json_printed.Printed.put_tokens_in_one_piece.Goals.{In-Ok}

-- the text behind the piece
behind : (c : In-Ok) → string_bytes c.put_piece.new.text ≡ string_bytes c.self.inside.text
    ++ (cond (c.self.inside.after_value && c.args.begun) (44 ∷ []) [] ++ c.args.piece.now)
behind c =
    let piece = c.args.piece.now in
    c.in-Ok.ensures
    ∙ ap (λ b. string_bytes c.self.inside.text ++ (cond b (44 ∷ []) [] ++ piece)) c.wants_comma-comma.ensures

pub invariant_of-self : goal.invariant_of-self
invariant_of-self c =
    let (ts, piece) = c.requires in
    more (string_bytes c.self.inside.text) (string_bytes c.put_piece.new.text) c.args.piece.now
    c.self.inside.after_value c.args.begun c.args.ended ts c.self.invariant piece
    (behind (goal.at.invariant_of-self c).In-Ok)

pub invariant_of-self-in-Err : goal.invariant_of-self-in-Err
invariant_of-self-in-Err c = none (string_bytes c.clear.new.self) c.clear.ensures.bytes

pub returns-in-Ok : goal.returns-in-Ok
returns-in-Ok c ts piece =
    shows_more (string_bytes c.self.inside.text) (string_bytes c.put_piece.new.text) c.args.piece.now
    c.self.inside.after_value c.args.begun c.args.ended ts c.self.invariant piece
    (behind (goal.at.returns-in-Ok c).In-Ok) ∙ ap (λ l. l ++ ts) c.self.view_is
