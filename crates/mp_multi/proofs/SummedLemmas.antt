-- Lists of channels in coarse sums.
use Rattle.std.proofs.Common.{◌≡◌, ℕ, zero, suc, ◌+◌, ◌<◌, List, [], ◌∷◌, ◌++◌, length, get_or, arith, ap, ◌∙◌}
use Rattle.mp_nums.specs.declared.samples.Sample.{Sample}
use Rattle.mp_scans.specs.declared.plans.Plan.{Plan}
use Rattle.mp_skips.specs.declared.sums.Coarse.{Coarse}
use Rattle.mp_skips.specs.declared.sums.Units.{Units}
use Rattle.mp_skips.specs.declared.summed.Summed.{Summed}
use Rattle.mp_multi.specs.Skips.{IsCoarseOf, IsSummedOf}

-- one more behind the others
pub pushed : {X : Type 0} (P : ℕ → X → Type 0) (xs : List X) (x : X)
    → ((c : ℕ) (past : X) → c < length xs → P c (get_or xs c past)) → P (length xs) x → (c : ℕ) (past : X)
    → c < length (xs ++ x ∷ []) → P c (get_or (xs ++ x ∷ []) c past)
pushed P [] x before here zero past lt = here
pushed P [] x before here (suc c) past lt = absurd (omega (arith, lt))
pushed P (y ∷ ys) x before here zero past lt = before zero past (omega arith)
pushed P (y ∷ ys) x before here (suc c) past lt =
    pushed (λ k. P (suc k)) ys x (λ k p l. before (suc k) p (omega (arith, l))) here c past (omega (arith, lt))

-- a channel's sums as rows and as columns
pub coarse_is : (samples : List Sample) (m : ℕ) (units : Units) (summed : Summed) (coarse : Coarse)
    → IsSummedOf samples m units summed → coarse.plan ≡ summed.plan → coarse.rows.units ≡ summed.units
    → IsCoarseOf samples m units coarse
coarse_is samples m units summed coarse is e f = record {
  rows = ap (λ (p : Plan). p.grid.rows.now) e ∙ is.rows;
  columns = ap (λ (p : Plan). p.grid.columns.now) e ∙ is.columns;
  length_is = ap (λ (p : Plan). p.grid.m) e ∙ is.length_is;
  units_are = f ∙ is.units_are;
}

pub more_length : {X : Type 0} (xs : List X) (x : X) → length (xs ++ x ∷ []) ≡ length xs + 1
more_length [] x = omega arith
more_length (y ∷ ys) x = omega (arith, more_length ys x)
