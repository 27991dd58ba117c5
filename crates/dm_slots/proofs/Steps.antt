-- One step of the code on the connections that are there.
use Rattle.std.proofs.Common.{◌≡◌, ◌≤◌, ◌-◌, ℕ, Bool, true, false, cond, ◌||◌, nat_eq, Option, None, Some, IfSome, List, [], ◌∷◌, length, take, drop, get_or, option_map, refl, sym, ap, ◌∙◌, subst, arith}
use Rattle.std.proofs.lemmas.List.{take_rest}
use Rattle.std.proofs.lemmas.Bool.{eqb-true}
use Rattle.std.proofs.Math.Path.{fun_ext}
use Rattle.dm_machine.specs.declared.connection.Conn.{Conn}
use Rattle.dm_peer.specs.declared.actions.Action.{Action}
use Rattle.dm_peer.specs.declared.actions.Action.TheVariants as action
use Rattle.dm_slots.specs.declared.intake.Front.{Front}
use Rattle.dm_slots.specs.declared.slots.Slot.{Slot}
use Rattle.dm_slots.specs.declared.intake.Front.TheVariants.{Nothing, Message, Fault}
use Rattle.dm_slots.specs.Fronts.{IsFront, IsFrontAt}
use Rattle.dm_slots.specs.Intakes.{Intake, Intakes, IsToldOut, actions_close, is_close_of, left_by, taken_down}
use Rattle.dm_slots.specs.Held.{Owners, disowned_by, closed_by}
use Rattle.dm_slots.specs.Hearing.{IsWholeIn, IsNotWhole, IsWholeAt}

both : {A : Type 0} (a b : Bool) (i : Option A) → cond b None (cond a None i) ≡ cond (a || b) None i
both true true i = refl
both true false i = refl
both false true i = refl
both false false i = refl

-- what a Close and then others close
pub left_close : (d : Conn) (rest : List Action) (f : Intakes) →
    left_by rest (taken_down d.0 f) ≡ left_by (action.Close d ∷ rest) f
left_close d rest f = fun_ext (λ c. both (nat_eq d.0 c) (actions_close rest c) (f c))

-- what came on one connection changes
pub intake_changed : (b : Bool) (s : Slot) (o : Option Slot) →
    option_map (λ (x : Slot). x.intake) (cond b (Some s) o)
    ≡ cond b (Some s.intake) (option_map (λ (x : Slot). x.intake) o)
intake_changed true s o = refl
intake_changed false s o = refl

pub closed_first : (d : Conn) (rest : List Action) (f : Owners) →
    closed_by rest (disowned_by (Some d) f) ≡ closed_by (action.Close d ∷ rest) f
closed_first d rest f = fun_ext (λ c. both (nat_eq d.0 c) (actions_close rest c) (f c))

-- what stands at the front of a connection that is there
pub front_there : (o : Option Intake) (i : Intake) (f : Front) → Some i ≡ o → IsFront i f → IsFrontAt o f
front_there o i f e is = subst (λ v. IsFrontAt v f) e (at f is)
  where
    at : (g : Front) → IsFront i g → IsFrontAt (Some i) g
    at Nothing out = out
    at (Message m) first = (i, first.0, refl, first.1)
    at Fault faulty = (i, refl, faulty)

pub front_none : (o : Option Intake) → None ≡ o → IfSome o IsToldOut
front_none o e = subst (λ v. IfSome v IsToldOut) e tt

-- the whole message with which a piece begins, on a connection that is there
pub whole : (o : Option Intake) (i : Intake) (piece : List ℕ) (size : ℕ) → Some i ≡ o → size ≤ length piece →
    IsWholeIn i piece (take size piece) (drop size piece) → IsWholeAt o piece size
whole o i piece size e within front =
    record { intake = i; there = sym e; within = within; front = front }

pub not_whole : (o : Option Intake) (i : Intake) (piece : List ℕ) → Some i ≡ o → IsNotWhole i piece →
    IfSome o (λ j. IsNotWhole j piece)
not_whole o i piece e none = subst (λ v. IfSome v (λ j. IsNotWhole j piece)) e none

pub nowhere : (o : Option Intake) (piece : List ℕ) → None ≡ o → IfSome o (λ j. IsNotWhole j piece)
nowhere o piece e = subst (λ v. IfSome v (λ j. IsNotWhole j piece)) e tt

-- what one action closes, and then others
pub left_on : (a : Action) (rest : List Action) (f : Intakes) →
    left_by rest (left_by (a ∷ []) f) ≡ left_by (a ∷ rest) f
left_on a rest f = fun_ext (λ c. one (is_close_of c a) (actions_close rest c) (f c))
  where
    one : (a b : Bool) (i : Option Intake) → cond b None (cond (a || false) None i) ≡ cond (a || b) None i
    one true true i = refl
    one true false i = refl
    one false true i = refl
    one false false i = refl

pub closed_on : (a : Action) (rest : List Action) (f : Owners) →
    closed_by rest (closed_by (a ∷ []) f) ≡ closed_by (a ∷ rest) f
closed_on a rest f = fun_ext (λ c. one (is_close_of c a) (actions_close rest c) (f c))
  where
    one : (a b : Bool) (i : Option ℕ) → cond b None (cond (a || false) None i) ≡ cond (a || b) None i
    one true true i = refl
    one true false i = refl
    one false true i = refl
    one false false i = refl

-- the first action, and the others
pub cut_first : (list : List Action) (a : Action) → 1 ≤ length list → a ≡ get_or list 0 a
    → list ≡ a ∷ take (length list - 1) (drop 1 list)
cut_first [] a some is = absurd (omega (arith, some))
cut_first (b ∷ list) a some is = ap (λ v. v ∷ list) (sym is) ∙ ap (λ v. a ∷ v) (sym (take_rest (b ∷ list) 1))

-- a connection that gets what it has
pub kept_at : (c d : ℕ) (i : Intake) (f : Intakes) → Some i ≡ f c → (b : Bool) → nat_eq c d ≡ b
    → cond b (Some i) (f d) ≡ f d
kept_at c d i f there true e = there ∙ ap f (eqb-true c d e)
kept_at c d i f there false e = refl
