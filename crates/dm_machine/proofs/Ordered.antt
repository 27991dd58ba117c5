-- An order of a connection is a command, and a command to it is an order.
use Rattle.std.proofs.Common.{◌≡◌, inl, inr, Bool, true, false, ◌||◌, ◌==◌, Option, None, Some, List, [], ◌∷◌, ◌++◌, refl, sym, ap, ◌∙◌, arith}
use Rattle.std.proofs.lemmas.Bool.{eqb-true, or_cases, or_right}
use Rattle.std.proofs.lemmas.Bool.Decides.{nat_tests}
use Rattle.dm_machine.specs.declared.connection.Conn.{Conn}
use Rattle.dm_machine.specs.declared.outputs.Command.{Command}
use Rattle.dm_machine.specs.declared.outputs.Command.TheVariants as command
use Rattle.dm_machine.specs.Connection.{ConnOrder, Connects, SendsCer, SendsCea, SendsRefusal, SendsDwr, SendsDwa, SendsDpr, SendsDpa, SendsSubmit, Closes, if_ordered, order_to, with_order, orders_to}
use Rattle.dm_machine.specs.Openings.{is_order, has_order}
use Rattle.dm_machine.specs.Ordered.{StandsAmong, command_by_order, EachOrderIsACommand, EachCommandIsAnOrder}
use Rattle.dm_machine.proofs.ChangeLemmas.{same_order}

further : (y x : Command) (xs : List Command) → StandsAmong xs x → StandsAmong (y ∷ xs) x
further y x xs (earlier, later, e) = (y ∷ earlier, later, ap (λ l. y ∷ l) e)

pub same_conn : (d c : Conn) → (d.0 == c.0) ≡ true → d ≡ c
same_conn d c e = ap (λ n. record { 0 = n }) (eqb-true d.0 c.0 e)

same_code : (o : ConnOrder) → is_order o o ≡ true
same_code o = grind (arith, nat_tests)

ordered_by : (d c : Conn) (make : Conn → Command) (own o : ConnOrder) → make c ≡ command_by_order own c →
    (b : Bool) → (d.0 == c.0) ≡ b → if_ordered b own ≡ Some o → make d ≡ command_by_order o c
ordered_by d c make own o is true same e = ap make (same_conn d c same) ∙ (is ∙ ap (λ x. command_by_order x c) (cc e))
ordered_by d c make own o is false same e = absurd (cc e)

ordered_as : (c : Conn) (a : Command) (o : ConnOrder) → order_to c a ≡ Some o → a ≡ command_by_order o c
ordered_as c (command.Connect d) o e = ordered_by d c command.Connect Connects o refl (d.0 == c.0) refl e
ordered_as c (command.SendCer d) o e = ordered_by d c command.SendCer SendsCer o refl (d.0 == c.0) refl e
ordered_as c (command.SendCea d) o e = ordered_by d c command.SendCea SendsCea o refl (d.0 == c.0) refl e
ordered_as c (command.SendRefusal d) o e = ordered_by d c command.SendRefusal SendsRefusal o refl (d.0 == c.0) refl e
ordered_as c (command.SendDwr d) o e = ordered_by d c command.SendDwr SendsDwr o refl (d.0 == c.0) refl e
ordered_as c (command.SendDwa d) o e = ordered_by d c command.SendDwa SendsDwa o refl (d.0 == c.0) refl e
ordered_as c (command.SendDpr d) o e = ordered_by d c command.SendDpr SendsDpr o refl (d.0 == c.0) refl e
ordered_as c (command.SendDpa d) o e = ordered_by d c command.SendDpa SendsDpa o refl (d.0 == c.0) refl e
ordered_as c (command.SendSubmit d) o e = ordered_by d c command.SendSubmit SendsSubmit o refl (d.0 == c.0) refl e
ordered_as c (command.Close d) o e = ordered_by d c command.Close Closes o refl (d.0 == c.0) refl e
ordered_as c command.Up o e = absurd (cc e)

ordered_first : (want : ConnOrder) (c : Conn) (a : Command) (l : List Command) →
    (has_order want (orders_to c l) ≡ true → StandsAmong l (command_by_order want c)) → (o : Option ConnOrder) →
    order_to c a ≡ o →
    has_order want (with_order o (orders_to c l)) ≡ true → StandsAmong (a ∷ l) (command_by_order want c)
ordered_first want c a l rest None is e = further a (command_by_order want c) l (rest e)
ordered_first want c a l rest (Some o) is e =
    elim (or_cases (is_order want o) (has_order want (orders_to c l)) e) [
      | inl same ↦
          ([], l, ap (λ x. x ∷ l) (ordered_as c a o is ∙ ap (λ x. command_by_order x c) (sym (same_order want o same))))
      | inr r ↦ further a (command_by_order want c) l (rest r)
    ]

pub each_order : EachOrderIsACommand
each_order want c [] e = absurd (cc e)
each_order want c (a ∷ l) e = ordered_first want c a l (each_order want c l) (order_to c a) refl e

has_further : (want : ConnOrder) (o : Option ConnOrder) (rest : List ConnOrder) → has_order want rest ≡ true →
    has_order want (with_order o rest) ≡ true
has_further want None rest e = e
has_further want (Some o) rest e = or_right (is_order want o) (has_order want rest) e

ordered_at : (o : ConnOrder) (c : Conn) (a : Command) (before behind : List Command) → order_to c a ≡ Some o →
    has_order o (orders_to c (before ++ a ∷ behind)) ≡ true
ordered_at o c a [] behind is =
    ap (λ x. has_order o (with_order x (orders_to c behind))) is
    ∙ ap (λ b. b || has_order o (orders_to c behind)) (same_code o)
ordered_at o c a (x ∷ before) behind is =
    has_further o (order_to c x) (orders_to c (before ++ a ∷ behind)) (ordered_at o c a before behind is)

pub each_command : EachCommandIsAnOrder
each_command o c l a (before, behind, e) is =
    ap (λ t. has_order o (orders_to c t)) e ∙ ordered_at o c a before behind is
