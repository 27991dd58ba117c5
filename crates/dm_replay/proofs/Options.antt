-- What holds of the value of an option or a result.
use Rattle.std.proofs.Common.{Option, Some, None, IfNone, Result, Ok, Err, IfOk}

pub none-anyway : {A P : Type 0} (r : Option A) → P → IfNone r P
none-anyway None p = p
none-anyway (Some x) p = tt

pub ok-then : {A E : Type 0} {P Q : A → Type 0} (r : Result A E) → ((x : A) → P x → Q x) → IfOk r P → IfOk r Q
ok-then (Ok x) f h = f x h
ok-then (Err e) f h = tt
