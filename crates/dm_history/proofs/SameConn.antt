-- Connections of one number are one.
use Rattle.std.proofs.Common.{◌≡◌, ℕ, true, ◌==◌, ap, ◌∙◌, arith}
use Rattle.std.proofs.lemmas.Bool.{eqb-true}
use Rattle.std.proofs.lemmas.Bool.Decides.{nat_tests}
use Rattle.dm_machine.specs.declared.connection.Conn.{Conn}

pub same_conn : (d c : Conn) → (d.0 == c.0) ≡ true → d ≡ c
same_conn d c e = ap (λ n. record { 0 = n }) (eqb-true d.0 c.0 e)

pub same_number : (n : ℕ) → (n == n) ≡ true
same_number n = grind (arith, nat_tests)

pub is_conn : (d c : Conn) → d ≡ c → (d.0 == c.0) ≡ true
is_conn d c same = ap (λ x. x.0 == c.0) same ∙ same_number c.0
