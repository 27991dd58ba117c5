-- What is handed out behind what is done, unless that failed.
use Rattle.std.proofs.Common.{◌≡◌, Result, Ok, Err, IfOk, OnOk, IfErr}
use Rattle.std.specs.Result.{result_and}

pub handed_ok : {T U E : Type 0} (done : Result T E) (u : U) (out : Result U E) (P : U → Type 0)
    → out ≡ result_and done (Ok u) → OnOk done (P u) → IfOk out P
handed_ok (Ok x) u out P e h = rw e h
handed_ok (Err y) u out P e h = rw e tt

pub handed_err : {T U E : Type 0} (done : Result T E) (u : U) (out : Result U E) (Q : E → Type 0)
    → out ≡ result_and done (Ok u) → IfErr done Q → IfErr out Q
handed_err (Ok x) u out Q e h = rw e tt
handed_err (Err y) u out Q e h = rw e h
