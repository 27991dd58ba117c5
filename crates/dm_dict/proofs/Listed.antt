-- Faults that are listed, one after the other.
use Rattle.std.proofs.Common.{◌≡◌, ◌<◌, ◌≤◌, ◌⊎◌, inl, inr, Result, Ok, Err, IfOk, OnOk, OnErr, ℕ, ◌+◌, List, ◌∷◌, ◌++◌, length, get_or, drop, flat_map, Option, Bool, append_assoc, sym, ◌∙◌, refl, arith}
use Rattle.std.proofs.lemmas.List.{drop_all}
use Rattle.std.specs.Result.{result_and}
use Rattle.dm_wire.specs.declared.avp.Avp.{Avp}
use Rattle.dm_tables.specs.declared.rule.Entry.{Entry}
use Rattle.dm_tables.specs.declared.def.AvpDef.{AvpDef}
use Rattle.dm_dict.specs.Faults.{Fault, avp_faults}
use Rattle.dm_dict.proofs.Chains.{element}

-- the next faults are listed behind the others
pub listed_next : (new now fs rest total : List Fault) → new ≡ now ++ fs → now ++ (fs ++ rest) ≡ total
    → new ++ rest ≡ total
listed_next new now fs rest total e h = rw (e, append_assoc now fs rest) h

-- those of the next element
pub listed_element : {A : Type 0} (F : A → List Fault) (xs : List A) (i : ℕ) (new now total : List Fault)
    → i < length xs → now ++ flat_map F (drop i xs) ≡ total → ((x : A) → x ≡ get_or xs i x → new ≡ now ++ F x)
    → new ++ flat_map F (drop (i + 1) xs) ≡ total
listed_element F xs i new now total h e one =
    let (x, at, cut) = element xs i h in
    listed_next new now (F x) (flat_map F (drop (i + 1) xs)) total (one x at) (rw cut at e)

-- those of the next AVP
pub listed_member : (A : Avp → List Fault) (a : Avp) (m k : List Avp) (new now total : List Fault)
    → now ++ flat_map A m ≡ total → m ≡ a ∷ k → new ≡ now ++ A a → new ++ flat_map A k ≡ total
listed_member A a m k new now total e is one = listed_next new now (A a) (flat_map A k) total one (rw is at e)

-- the faults of an AVP, by what was looked up
pub listed_looked_up : (G : List Entry → Avp → List Fault) (b c : Bool) (a : Avp) (f : Option AvpDef)
    (new now : List Fault) → b ≡ c → new ≡ now ++ avp_faults G b a f → new ≡ now ++ avp_faults G c a f
listed_looked_up G b c a f new now eb h = rw (← eb) h

-- behind the last element there is none
pub drop_end : {A : Type 0} (xs : List A) (i j : ℕ) → i ≤ j → (i ≡ length xs) ⊎ (i ≡ j) → drop i xs ≡ drop j xs
drop_end xs i j h (inl e) = rw e (drop_all (length xs) xs (omega arith)) ∙ sym (drop_all j xs (omega arith))
drop_end xs i j h (inr e) = rw e refl

-- what holds at want of memory holds in other words
pub under_err : {A E P Q : Type 0} (r : Result A E) → (P → Q) → OnErr r P → OnErr r Q
under_err (Ok a) f h = tt
under_err (Err e) f h = f h

-- what holds of an answer holds of it in other words
pub under_ok : {A E : Type 0} (r : Result A E) (P Q : A → Type 0) → ((a : A) → P a → Q a) → IfOk r P → IfOk r Q
under_ok (Ok a) P Q f h = f a h
under_ok (Err e) P Q f h = tt

-- what holds once a call is done holds in other words
pub under_done : {A E P Q : Type 0} (r : Result A E) → (P → Q) → OnOk r P → OnOk r Q
under_done (Ok a) f h = f h
under_done (Err e) f h = tt

-- what a call fills is handed on once it is done
pub handed_ok : {T U E : Type 0} (done : Result T E) (u : U) (out : Result U E) (P : U → Type 0)
    → out ≡ result_and done (Ok u) → OnOk done (P u) → IfOk out P
handed_ok (Ok x) u out P e h = rw e h
handed_ok (Err y) u out P e h = rw e tt

pub both_ok : {A E : Type 0} (r : Result A E) (P Q : A → Type 0) → IfOk r P → IfOk r Q → IfOk r (λ a. P a × Q a)
both_ok (Ok a) P Q p q = (p, q)
both_ok (Err e) P Q p q = tt

-- what holds of an answer holds once the call is done
pub once_ok : {A E Q : Type 0} (r : Result A E) (P : A → Type 0) → ((a : A) → P a → Q) → IfOk r P → OnOk r Q
once_ok (Ok a) P f h = f a h
once_ok (Err e) P f h = tt
