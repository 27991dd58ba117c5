use Rattle.std.proofs.Common.{◌≡◌, ◌-◌, ◌++◌, ◌∷◌, ◌∙◌, Bool, ap, append_assoc, drop, take, rules, arith, is_some}
use Rattle.std.proofs.Common.{subst, sym}
use Rattle.std.proofs.lemmas.List.{length-drop, take_all}
use Rattle.std.proofs.lemmas.Str.{IsAscii-append, IsUtf8-from_ascii}
use Rattle.std.proofs.lemmas.Str.Ascii.{IsAscii-cons}
use Rattle.std.specs.Fmt.{decimal}
use Rattle.std.specs.Str.{IsAscii}
use Rattle.dm_wire.specs.declared.avp.Avp.{Avp}
use Rattle.dm_wire.specs.Borrowed.{avp_of}
use Rattle.dm_wire.specs.Printed.{avp_front_text, avp_marks, vendor_text}
use Rattle.dm_view.proofs.code_and_flags.put_spaced_code_vendor_and_flags.Goals as goal
use Rattle.dm_view.proofs.code_and_flags.put_spaced_code_vendor_and_flags.Goals.{After-prepend_sign_and_number-start}

-- code, vendor and letters, one behind the other
flat : (a : Avp) → 32 ∷ avp_front_text a
    ≡ 32 ∷ (decimal a.code ++ (vendor_text a.vendor ++ (32 ∷ avp_marks (is_some a.vendor) a.mandatory a.protected)))
unfolding avp_front_text
flat a = simp append_assoc

-- what stands in the room
put : (c : After-prepend_sign_and_number-start) → drop c.prepend_sign_and_number-start.result c.prepend_sign_and_number-start.new.room
    ≡ 32 ∷ avp_front_text (avp_of c.args.avp)
put c =
    let a = avp_of c.args.avp in
    let letters = λ (b : Bool). 32 ∷ avp_marks b a.mandatory a.protected in
    c.prepend_sign_and_number-start.ensures.put ∙ ap (λ l. 32 ∷ (decimal a.code ++ l)) (c.prepend_vendor_if_any-vendor.ensures.put
    ∙ ap (λ l. vendor_text a.vendor ++ l) (c.room_with_flags_at_end-room.ensures.put ∙ ap letters c.is_some.ensures))
    ∙ sym (flat a)

-- it is all that stands there
all : (c : After-prepend_sign_and_number-start) → take (26 - c.prepend_sign_and_number-start.result)
    (drop c.prepend_sign_and_number-start.result c.prepend_sign_and_number-start.new.room) ≡ 32 ∷ avp_front_text (avp_of c.args.avp)
all c =
    let start = c.prepend_sign_and_number-start.result in
    let room = c.prepend_sign_and_number-start.new.room in
    let long = c.prepend_sign_and_number-start.array_long in
    take_all (26 - start) (drop start room) (omega (arith, length-drop start room, long)) ∙ put c

ascii : (c : After-prepend_sign_and_number-start) → IsAscii (32 ∷ avp_front_text (avp_of c.args.avp))
ascii c =
    let a = avp_of c.args.avp in
    let letters = avp_marks (is_some a.vendor) a.mandatory a.protected in
    let marked : IsAscii letters =
    subst (λ b. IsAscii (avp_marks b a.mandatory a.protected)) c.is_some.ensures c.room_with_flags_at_end-room.ensures.ascii in
    subst IsAscii (sym (flat a)) (IsAscii-cons 32 _ (omega arith) (IsAscii-append (decimal a.code)
    (vendor_text a.vendor ++ (32 ∷ letters)) c.prepend_sign_and_number-start.ensures.ascii (IsAscii-append (vendor_text a.vendor)
    (32 ∷ letters) c.prepend_vendor_if_any-vendor.ensures.ascii (IsAscii-cons 32 letters (omega arith) marked))))

pub from_utf8_unchecked-requires : goal.from_utf8_unchecked-requires
from_utf8_unchecked-requires c =
    let d = (goal.at.from_utf8_unchecked-requires c).After-prepend_sign_and_number-start in
    rw (all d) (IsUtf8-from_ascii _ (ascii d))

pub returns : goal.returns
returns c =
    let d = (goal.at.returns c).After-prepend_sign_and_number-start in
    rw (← all d, ← c.from_utf8_unchecked.ensures) (search rules)
