-- Changes are told apart by numbers: one that is found in a list is a member of it.
use Rattle.std.proofs.Common.{◌≡◌, ℕ, zero, suc, Bool, true, false, ◌&&◌, ◌||◌, ◌==◌, List, [], ◌∷◌, Contains, refl, sym, subst, ap, ◌∙◌, arith}
use Rattle.std.proofs.lemmas.Bool.{and_parts}
use Rattle.std.proofs.lemmas.Bool.Decides.{nat_tests}
use Rattle.std.proofs.lemmas.List.Elements.{Contains-push, Contains-append_left, Contains-append_right}
use Rattle.dm_machine.specs.Connection.{Hold, NotHeld, Pending, Made, OpenAsI, ClosingAsI, Taken, OpenAsR, ClosingAsR, ConnOrder, Connects, SendsCer, SendsCea, SendsRefusal, SendsDwr, SendsDwa, SendsDpr, SendsDpa, SendsSubmit, Closes}
use Rattle.dm_machine.specs.Changes.{Change, changed_to}
use Rattle.dm_machine.specs.Openings.{hold_code, is_hold, order_code, is_order}

abbrev hold_from : ℕ → Hold
hold_from zero = NotHeld
hold_from (suc zero) = Pending
hold_from (suc (suc zero)) = Made
hold_from (suc (suc (suc zero))) = OpenAsI
hold_from (suc (suc (suc (suc zero)))) = ClosingAsI
hold_from (suc (suc (suc (suc (suc zero))))) = Taken
hold_from (suc (suc (suc (suc (suc (suc zero)))))) = OpenAsR
hold_from _ = ClosingAsR

hold_from-code : (h : Hold) → hold_from (hold_code h) ≡ h
hold_from-code NotHeld = refl
hold_from-code Pending = refl
hold_from-code Made = refl
hold_from-code OpenAsI = refl
hold_from-code ClosingAsI = refl
hold_from-code Taken = refl
hold_from-code OpenAsR = refl
hold_from-code ClosingAsR = refl

abbrev order_from : ℕ → ConnOrder
order_from zero = Connects
order_from (suc zero) = SendsCer
order_from (suc (suc zero)) = SendsCea
order_from (suc (suc (suc zero))) = SendsRefusal
order_from (suc (suc (suc (suc zero)))) = SendsDwr
order_from (suc (suc (suc (suc (suc zero))))) = SendsDwa
order_from (suc (suc (suc (suc (suc (suc zero)))))) = SendsDpr
order_from (suc (suc (suc (suc (suc (suc (suc zero))))))) = SendsDpa
order_from (suc (suc (suc (suc (suc (suc (suc (suc zero)))))))) = SendsSubmit
order_from _ = Closes

order_from-code : (o : ConnOrder) → order_from (order_code o) ≡ o
order_from-code Connects = refl
order_from-code SendsCer = refl
order_from-code SendsCea = refl
order_from-code SendsRefusal = refl
order_from-code SendsDwr = refl
order_from-code SendsDwa = refl
order_from-code SendsDpr = refl
order_from-code SendsDpa = refl
order_from-code SendsSubmit = refl
order_from-code Closes = refl

same_number : (m n : ℕ) → (m == n) ≡ true → m ≡ n
same_number m n e = grind (arith, nat_tests)

pub same_hold : (h k : Hold) → is_hold h k ≡ true → h ≡ k
same_hold h k e = sym (hold_from-code h) ∙ (ap hold_from (same_number (hold_code h) (hold_code k) e) ∙ hold_from-code k)

pub same_order : (o p : ConnOrder) → is_order o p ≡ true → o ≡ p
same_order o p e = sym (order_from-code o) ∙
    (ap order_from (same_number (order_code o) (order_code p) e) ∙ order_from-code p)

abbrev pub are_orders : List ConnOrder → List ConnOrder → Bool
are_orders [] [] = true
are_orders (o ∷ more) (p ∷ rest) = is_order o p && are_orders more rest
are_orders _ _ = false

pub same_orders : (xs ys : List ConnOrder) → are_orders xs ys ≡ true → xs ≡ ys
same_orders [] [] e = refl
same_orders (o ∷ more) (p ∷ rest) e =
    let both = and_parts (is_order o p) (are_orders more rest) e in
    ap (λ (q : ConnOrder). q ∷ more) (same_order o p both.0) ∙
    ap (λ (qs : List ConnOrder). p ∷ qs) (same_orders more rest both.1)
same_orders [] (p ∷ rest) e = absurd cc
same_orders (o ∷ more) [] e = absurd cc

abbrev is_change : Change → Change → Bool
is_change x y = is_hold x.next y.next && are_orders x.orders y.orders

same_change : (x y : Change) → is_change x y ≡ true → x ≡ y
same_change x y e =
    let both = and_parts (is_hold x.next y.next) (are_orders x.orders y.orders) e in
    ap (λ (h : Hold). changed_to h x.orders) (same_hold x.next y.next both.0)
    ∙ ap (λ (orders : List ConnOrder). changed_to y.next orders) (same_orders x.orders y.orders both.1)

abbrev pub lists_change : Change → List Change → Bool
lists_change x [] = false
lists_change x (y ∷ ys) = is_change y x || lists_change x ys

found : (x y : Change) (ys : List Change) (b : Bool) → is_change y x ≡ b → (b || lists_change x ys) ≡ true →
    (lists_change x ys ≡ true → Contains ys x) → Contains (y ∷ ys) x
found x y ys true e h further = subst (λ (z : Change). Contains (y ∷ ys) z) (same_change y x e)
    (Contains-append_left (y ∷ []) ys y (Contains-push [] y))
found x y ys false e h further = Contains-append_right (y ∷ []) ys x (further h)

pub among : (x : Change) (ys : List Change) → lists_change x ys ≡ true → Contains ys x
among x [] h = absurd cc
among x (y ∷ ys) h = found x y ys (is_change y x) refl h (among x ys)
