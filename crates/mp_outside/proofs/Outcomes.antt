-- What follows from clauses on a result.
use Rattle.std.proofs.Common.{Result, Ok, Err}
use Rattle.std.specs.Result.{IfOk, OnErr}

-- of its value, from two clauses
pub IfOk-both : {T E : Type 0} (r : Result T E) (P Q R : T → Type 0) → ((x : T) → P x → Q x → R x) → IfOk r P → IfOk r Q
    → IfOk r R
IfOk-both (Ok x) P Q R f p q = f x p q
IfOk-both (Err e) P Q R f p q = tt

-- however it turns out
pub either : {T E Q R : Type 0} (r : Result T E) (P : T → Type 0) → ((x : T) → P x → R) → (Q → R) → IfOk r P → OnErr r Q
    → R
either (Ok x) P f g p q = f x p
either (Err e) P f g p q = g q
