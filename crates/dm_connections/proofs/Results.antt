-- What is known of a result, where more follows from it.
use Rattle.std.specs.Prelude.{Result, Ok, Err, OnOk, OnErr}

pub on_ok : {T E : Type 0} (result : Result T E) (A B : Type 0) → OnOk result A → (A → B) → OnOk result B
on_ok (Ok x) A B a f = f a
on_ok (Err e) A B a f = tt

pub on_err : {T E : Type 0} (result : Result T E) (A B : Type 0) → OnErr result A → (A → B) → OnErr result B
on_err (Ok x) A B a f = tt
on_err (Err e) A B a f = f a
