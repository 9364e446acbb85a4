-- The count of faults over one planned call.
use Rattle.std.proofs.Common.{◌≡◌, ℕ, ◌+◌, ◌≤◌, ◌-◌, ◌^◌, min, Bool, true, false, Result, Ok, Err, arith, sym, ap, refl}
use Rattle.std.specs.Prelude.{if◌then◌else◌}
use Rattle.std.specs.Result.{is_err, OnOk, OnErr}
use Rattle.mp_outside.specs.Counts.{Rose}
use Rattle.mp_outside.specs.Planned.{PlanState, is_next_to_fail, after_call}

by_faults : (fails : Bool) (faults : ℕ)
    → min faults (2 ^ 64 - 1) ≤ min (if fails then min (faults + 1) (2 ^ 64 - 1) else faults) (2 ^ 64 - 1)
by_faults true faults = omega arith
by_faults false faults = omega arith

by_cause : (fails : Bool) (faults : ℕ) → fails ≡ true
    → Rose (min faults (2 ^ 64 - 1)) (min (if fails then min (faults + 1) (2 ^ 64 - 1) else faults) (2 ^ 64 - 1))
by_cause true faults e = omega arith
by_cause false faults e = cc

by_calm : (fails : Bool) (faults : ℕ) → fails ≡ false
    → (if fails then min (faults + 1) (2 ^ 64 - 1) else faults) ≡ faults
by_calm true faults e = cc
by_calm false faults e = refl

-- they never fall
pub faults-after_call : (before after : PlanState) → after ≡ after_call before
    → min before.faults (2 ^ 64 - 1) ≤ min after.faults (2 ^ 64 - 1)
faults-after_call before after e = rw e (by_faults (is_next_to_fail before) before.faults)

-- they rise where the call was to fail
pub Rose-after_call : (before after : PlanState) → after ≡ after_call before → is_next_to_fail before ≡ true
    → Rose (min before.faults (2 ^ 64 - 1)) (min after.faults (2 ^ 64 - 1))
Rose-after_call before after e fails = rw e (by_cause (is_next_to_fail before) before.faults fails)

-- they stay where it wasn't to fail
pub calm-after_call : {T E : Type 0} (r : Result T E) (before after : PlanState) → after ≡ after_call before
    → is_err r ≡ is_next_to_fail before → OnOk r (min after.faults (2 ^ 64 - 1) ≡ min before.faults (2 ^ 64 - 1))
calm-after_call (Ok x) before after e fails =
    rw e (ap (λ n. min n (2 ^ 64 - 1)) (by_calm (is_next_to_fail before) before.faults (sym fails)))
calm-after_call (Err d) before after e fails = tt

-- and so where it failed
pub cause-after_call : {T E : Type 0} (r : Result T E) (before after : PlanState) → after ≡ after_call before
    → is_err r ≡ is_next_to_fail before
    → OnErr r (Rose (min before.faults (2 ^ 64 - 1)) (min after.faults (2 ^ 64 - 1)))
cause-after_call (Ok x) before after e fails = tt
cause-after_call (Err d) before after e fails = Rose-after_call before after e (sym fails)
