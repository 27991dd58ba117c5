-- Tests of equality, field by field.
use Rattle.std.proofs.Common.{◌≡◌, ◌↔◌, IsTrue, ℕ, Bool, true, false, ◌&&◌, nat_eq, Option, None, Some, List, refl, ap, eqb-true, eq-eqb}
use Rattle.std.proofs.lemmas.Bool.{and_parts}
use Rattle.std.proofs.lemmas.Slice.Eq.{bytes_eq-Decides, slice_eq-Decides}
use Rattle.std.specs.Bool.{beq}
use Rattle.std.specs.Option.{option_eq}
use Rattle.std.specs.Cmp.Lexicographic.{pointwise}
use Rattle.dm_wire.specs.declared.avp.Avp.{Avp}
use Rattle.dm_wire.specs.declared.message.Header.{Header}
use Rattle.dm_wire.specs.declared.message.Message.{Message}
use Rattle.dm_wire.specs.AvpEquality.{avp_eq, header_eq, message_eq}
use Rattle.dm_wire.proofs.Messages.{same_made as same_header, same_message}
use Rattle.dm_wire.proofs.Spellings.{same_made as same_avp}

flag_same : (a b : Bool) → beq a b ≡ true → a ≡ b
flag_same true true e = refl
flag_same true false e = absurd (cc)
flag_same false true e = absurd (cc)
flag_same false false e = refl

flag_itself : (a : Bool) → beq a a ≡ true
flag_itself true = refl
flag_itself false = refl

vendor_same : (v w : Option ℕ) → option_eq nat_eq v w ≡ true → v ≡ w
vendor_same None None e = refl
vendor_same None (Some y) e = absurd (cc)
vendor_same (Some x) None e = absurd (cc)
vendor_same (Some x) (Some y) e = ap Some (eqb-true x y e)

number_itself : (n : ℕ) → nat_eq n n ≡ true
number_itself n = eq-eqb n n refl

vendor_itself : (v : Option ℕ) → option_eq nat_eq v v ≡ true
vendor_itself None = refl
vendor_itself (Some x) = number_itself x

both : (a b : Bool) → a ≡ true → b ≡ true → (a && b) ≡ true
both a b e f = rw (e, f) refl

avp_same : (a b : Avp) → avp_eq a b ≡ true → a ≡ b
avp_same a b e =
    let code = and_parts _ _ e in
    let vendor = and_parts _ _ code.1 in
    let mandatory = and_parts _ _ vendor.1 in
    let protected = and_parts _ _ mandatory.1 in
    same_avp a.code b.code a.vendor b.vendor a.mandatory b.mandatory a.protected b.protected a.bytes b.bytes
    (eqb-true a.code b.code code.0) (vendor_same a.vendor b.vendor vendor.0)
    (flag_same a.mandatory b.mandatory mandatory.0)
    (flag_same a.protected b.protected protected.0) ((bytes_eq-Decides a.bytes b.bytes).0 protected.1)

avp_itself : (a : Avp) → avp_eq a a ≡ true
avp_itself a =
    let bytes = (bytes_eq-Decides a.bytes a.bytes).1 refl in
    both _ _ (number_itself a.code)
    (both _ _ (vendor_itself a.vendor)
    (both _ _ (flag_itself a.mandatory) (both _ _ (flag_itself a.protected) bytes)))

pub avp_decides : (a b : Avp) → IsTrue (avp_eq a b) ↔ (a ≡ b)
avp_decides a b = (avp_same a b, λ e. rw e (avp_itself b))

pub list_decides : (l k : List Avp) → IsTrue (pointwise avp_eq l k) ↔ (l ≡ k)
list_decides l k = slice_eq-Decides avp_decides l k (pointwise avp_eq l k) refl

header_same : (h k : Header) → header_eq h k ≡ true → h ≡ k
header_same h k e =
    let request = and_parts _ _ e in
    let proxiable = and_parts _ _ request.1 in
    let error = and_parts _ _ proxiable.1 in
    let retransmit = and_parts _ _ error.1 in
    let command = and_parts _ _ retransmit.1 in
    let application = and_parts _ _ command.1 in
    let ids = and_parts _ _ application.1 in
    same_header h.request h.proxiable h.error h.retransmit k.request k.proxiable k.error k.retransmit
    h.command h.application h.hop_id h.end_id k.command k.application k.hop_id k.end_id
    (flag_same h.request k.request request.0) (flag_same h.proxiable k.proxiable proxiable.0)
    (flag_same h.error k.error error.0)
    (flag_same h.retransmit k.retransmit retransmit.0) (eqb-true h.command k.command command.0)
    (eqb-true h.application k.application application.0)
    (eqb-true h.hop_id k.hop_id ids.0) (eqb-true h.end_id k.end_id ids.1)

header_itself : (h : Header) → header_eq h h ≡ true
header_itself h =
    both _ _ (flag_itself h.request)
    (both _ _ (flag_itself h.proxiable) (both _ _ (flag_itself h.error) (both _ _ (flag_itself h.retransmit)
    (both _ _ (number_itself h.command)
    (both _ _ (number_itself h.application) (both _ _ (number_itself h.hop_id) (number_itself h.end_id)))))))

message_same : (m k : Message) → message_eq m k ≡ true → m ≡ k
message_same m k e =
    let parts = and_parts _ _ e in
    same_message m k (header_same m.header k.header parts.0) ((list_decides m.avps k.avps).0 parts.1)

message_itself : (m : Message) → message_eq m m ≡ true
message_itself m = both _ _ (header_itself m.header) ((list_decides m.avps m.avps).1 refl)

pub message_decides : (m k : Message) → IsTrue (message_eq m k) ↔ (m ≡ k)
message_decides m k = (message_same m k, λ e. rw e (message_itself k))
