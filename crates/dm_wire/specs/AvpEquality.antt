-- When two AVPs, lists of AVPs or messages are equal: their fields hold the same numbers, flags and octets.
use Rattle.std.specs.Prelude.{◌≡◌, ◌↔◌, IsTrue, Bool, nat_eq, List}
use Rattle.std.specs.Bool.{beq}
use Rattle.std.specs.Ordering.{on, eq_of_both}
use Rattle.std.specs.Option.{option_eq}
use Rattle.std.specs.Cmp.Lexicographic.{pointwise}
use Rattle.dm_wire.specs.declared.avp.Avp.{Avp}
use Rattle.dm_wire.specs.declared.message.Header.{Header}
use Rattle.dm_wire.specs.declared.message.Message.{Message}

abbrev pub avp_eq : Avp → Avp → Bool
avp_eq =
    eq_of_both (on (λ a. a.code) nat_eq)
    (eq_of_both (on (λ a. a.vendor) (option_eq nat_eq))
    (eq_of_both (on (λ a. a.mandatory) beq)
    (eq_of_both (on (λ a. a.protected) beq) (on (λ a. a.bytes) (pointwise nat_eq)))))

abbrev pub header_eq : Header → Header → Bool
header_eq =
    eq_of_both (on (λ h. h.request) beq)
    (eq_of_both (on (λ h. h.proxiable) beq)
    (eq_of_both (on (λ h. h.error) beq)
    (eq_of_both (on (λ h. h.retransmit) beq)
    (eq_of_both (on (λ h. h.command) nat_eq)
    (eq_of_both (on (λ h. h.application) nat_eq)
    (eq_of_both (on (λ h. h.hop_id) nat_eq) (on (λ h. h.end_id) nat_eq)))))))

-- what `==` of messages computes
abbrev pub message_eq : Message → Message → Bool
message_eq = eq_of_both (on (λ m. m.header) header_eq) (on (λ m. m.avps) (pointwise avp_eq))

-- the tests are true just where both sides are equal
abbrev pub EqualAvps : Type 0
EqualAvps = (a b : Avp) → IsTrue (avp_eq a b) ↔ (a ≡ b)

abbrev pub EqualLists : Type 0
EqualLists = (l k : List Avp) → IsTrue (pointwise avp_eq l k) ↔ (l ≡ k)

abbrev pub EqualMessages : Type 0
EqualMessages = (m k : Message) → IsTrue (message_eq m k) ↔ (m ≡ k)
