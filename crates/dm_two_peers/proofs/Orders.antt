-- What the machine allows is allowed here, and the orders of commands are its actions'.
use Rattle.std.proofs.Common.{◌≡◌, ℕ, ◌==◌, Bool, true, false, ◌&&◌, ◌||◌, List, [], ◌∷◌, map, refl, sym, ap}
use Rattle.std.proofs.Common.{◌∙◌}
use Rattle.std.proofs.lemmas.List.Elements.{All-contains}
use Rattle.std.proofs.lemmas.List.Sums.{AllPass-from_list_all}
use Rattle.std.specs.List.{list_all}
use Rattle.std.specs.Prelude.{Contains}
use Rattle.dm_machine.specs.declared.outputs.Command.TheVariants as command
use Rattle.dm_machine.specs.Connection.{Hold}
use Rattle.dm_machine.specs.Connection.{if_ordered, order_to, with_order, orders_to}
use Rattle.dm_machine.specs.Connection as machine
use Rattle.dm_machine.specs.Changes.{Change, allowed}
use Rattle.dm_two_peers.specs.Machine.{conn, Command}
use Rattle.dm_two_peers.specs.Machine.{tie_as}
use Rattle.dm_machine.specs.Deeds.{Deed, deed_of_command}
use Rattle.dm_two_peers.specs.Peers.{closes_at, sends_at}
use Rattle.dm_two_peers.proofs.Concerns.{concern_as}
use Rattle.dm_two_peers.proofs.Every.{all_true}
use Rattle.dm_two_peers.proofs.StandingSteps.{when, is_when, is_ready, is_allowed}
use Rattle.dm_two_peers.proofs.EveryHold.{every_word, every_hold, at_hold, every_way, at_way}

-- what the machine allows is allowed here
abbrev pub is_close : machine.ConnOrder → Bool
is_close machine.Closes = true
is_close _ = false

abbrev pub is_send : machine.ConnOrder → Bool
is_send machine.Connects = false
is_send machine.Closes = false
is_send _ = true

abbrev pub some_order : (machine.ConnOrder → Bool) → List machine.ConnOrder → Bool
some_order f [] = false
some_order f (o ∷ os) = f o || some_order f os

abbrev is_coarser : machine.Concern → Hold → Change → Bool
is_coarser k h x =
    when (is_ready (concern_as k) (tie_as h))
    (is_allowed (concern_as k) (tie_as h) (tie_as x.next) (some_order is_close x.orders)
    (some_order is_send x.orders))

coarser_checked : every_way (λ k. every_hold (λ h. list_all (is_coarser k h) (allowed k h))) ≡ true
unfolding all_true every_way every_word every_hold
coarser_checked = refl

pub allowed_here : (k : machine.Concern) (h : Hold) (x : Change) → Contains (allowed k h) x →
    is_ready (concern_as k) (tie_as h) ≡ true →
    is_allowed (concern_as k) (tie_as h) (tie_as x.next) (some_order is_close x.orders)
    (some_order is_send x.orders) ≡ true
allowed_here k h x ok ready =
    let at_k = at_way (λ j. every_hold (λ g. list_all (is_coarser j g) (allowed j g))) coarser_checked k in
    let at_h = at_hold (λ g. list_all (is_coarser k g) (allowed k g)) at_k h in
    is_when (is_ready (concern_as k) (tie_as h)) _
    (All-contains (λ y. is_coarser k h y ≡ true) (allowed k h) x
    (AllPass-from_list_all (is_coarser k h) (allowed k h) at_h) ok) ready

-- the orders of commands
with_test : (f : machine.ConnOrder → Bool) (b : Bool) (o : machine.ConnOrder) (more : List machine.ConnOrder) →
    some_order f (with_order (if_ordered b o) more) ≡ ((b && f o) || some_order f more)
with_test f true o more = refl
with_test f false o more = refl

under_and : (b t : Bool) → t ≡ false → (b && t) ≡ false
under_and true t h = h
under_and false t h = refl

without_test : (f : machine.ConnOrder → Bool) (b : Bool) (o : machine.ConnOrder) (more : List machine.ConnOrder) →
    f o ≡ false → some_order f (with_order (if_ordered b o) more) ≡ some_order f more
without_test f b o more h = with_test f b o more ∙ ap (λ (t : Bool). t || some_order f more) (under_and b (f o) h)

and_true : (b t : Bool) → t ≡ true → (b && t) ≡ b
and_true true t h = h
and_true false t h = refl

passing_test : (f : machine.ConnOrder → Bool) (b : Bool) (o : machine.ConnOrder) (more : List machine.ConnOrder) → f o ≡ true →
    some_order f (with_order (if_ordered b o) more) ≡ (b || some_order f more)
passing_test f b o more h = with_test f b o more ∙ ap (λ (t : Bool). t || some_order f more) (and_true b (f o) h)

close_ordered : (c : ℕ) (a : Command) (os : List Deed) (more : List machine.ConnOrder) →
    closes_at c os ≡ some_order is_close more →
    closes_at c (deed_of_command a ∷ os) ≡ some_order is_close (with_order (order_to (conn c) a) more)
close_ordered c (command.Close d) os more h = ap (λ (b : Bool). (d.0 == c) || b) h
    ∙ sym (passing_test is_close (d.0 == c) machine.Closes more refl)
close_ordered c command.Up os more h = h
close_ordered c (command.Connect d) os more h = h
    ∙ sym (without_test is_close (d.0 == c) machine.Connects more refl)
close_ordered c (command.SendCer d) os more h = h
    ∙ sym (without_test is_close (d.0 == c) machine.SendsCer more refl)
close_ordered c (command.SendCea d) os more h = h
    ∙ sym (without_test is_close (d.0 == c) machine.SendsCea more refl)
close_ordered c (command.SendRefusal d) os more h = h
    ∙ sym (without_test is_close (d.0 == c) machine.SendsRefusal more refl)
close_ordered c (command.SendDwr d) os more h = h
    ∙ sym (without_test is_close (d.0 == c) machine.SendsDwr more refl)
close_ordered c (command.SendDwa d) os more h = h
    ∙ sym (without_test is_close (d.0 == c) machine.SendsDwa more refl)
close_ordered c (command.SendDpr d) os more h = h
    ∙ sym (without_test is_close (d.0 == c) machine.SendsDpr more refl)
close_ordered c (command.SendDpa d) os more h = h
    ∙ sym (without_test is_close (d.0 == c) machine.SendsDpa more refl)
close_ordered c (command.SendSubmit d) os more h = h
    ∙ sym (without_test is_close (d.0 == c) machine.SendsSubmit more refl)

send_ordered : (c : ℕ) (a : Command) (os : List Deed) (more : List machine.ConnOrder) →
    sends_at c os ≡ some_order is_send more →
    sends_at c (deed_of_command a ∷ os) ≡ some_order is_send (with_order (order_to (conn c) a) more)
send_ordered c (command.Close d) os more h = h ∙ sym (without_test is_send (d.0 == c) machine.Closes more refl)
send_ordered c (command.Connect d) os more h = h ∙ sym (without_test is_send (d.0 == c) machine.Connects more refl)
send_ordered c command.Up os more h = h
send_ordered c (command.SendCer d) os more h = ap (λ (b : Bool). (d.0 == c) || b) h
    ∙ sym (passing_test is_send (d.0 == c) machine.SendsCer more refl)
send_ordered c (command.SendCea d) os more h = ap (λ (b : Bool). (d.0 == c) || b) h
    ∙ sym (passing_test is_send (d.0 == c) machine.SendsCea more refl)
send_ordered c (command.SendRefusal d) os more h = ap (λ (b : Bool). (d.0 == c) || b) h
    ∙ sym (passing_test is_send (d.0 == c) machine.SendsRefusal more refl)
send_ordered c (command.SendDwr d) os more h = ap (λ (b : Bool). (d.0 == c) || b) h
    ∙ sym (passing_test is_send (d.0 == c) machine.SendsDwr more refl)
send_ordered c (command.SendDwa d) os more h = ap (λ (b : Bool). (d.0 == c) || b) h
    ∙ sym (passing_test is_send (d.0 == c) machine.SendsDwa more refl)
send_ordered c (command.SendDpr d) os more h = ap (λ (b : Bool). (d.0 == c) || b) h
    ∙ sym (passing_test is_send (d.0 == c) machine.SendsDpr more refl)
send_ordered c (command.SendDpa d) os more h = ap (λ (b : Bool). (d.0 == c) || b) h
    ∙ sym (passing_test is_send (d.0 == c) machine.SendsDpa more refl)
send_ordered c (command.SendSubmit d) os more h = ap (λ (b : Bool). (d.0 == c) || b) h
    ∙ sym (passing_test is_send (d.0 == c) machine.SendsSubmit more refl)

pub closes_ordered : (c : ℕ) (commands : List Command) →
    closes_at c (map deed_of_command commands) ≡ some_order is_close (orders_to (conn c) commands)
closes_ordered c [] = refl
closes_ordered c (a ∷ more) = close_ordered c a (map deed_of_command more) (orders_to (conn c) more)
    (closes_ordered c more)

pub sends_ordered : (c : ℕ) (commands : List Command) →
    sends_at c (map deed_of_command commands) ≡ some_order is_send (orders_to (conn c) commands)
sends_ordered c [] = refl
sends_ordered c (a ∷ more) = send_ordered c a (map deed_of_command more) (orders_to (conn c) more)
    (sends_ordered c more)
