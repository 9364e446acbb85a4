-- Windows that lack no sample.
use Rattle.std.proofs.Common.{◌≡◌, ℕ, zero, suc, ◌+◌, ◌<◌, inl, inr, Bool, true, false, refl, ap, ◌∙◌, arith}
use Rattle.std.specs.Prelude.{◌&&◌, IsSome, is_some}
use Rattle.std.proofs.lemmas.Bool.{cases_eq}
use Rattle.mp_defs.specs.Series.{Series, number_at}
use Rattle.mp_defs.specs.Window.{is_free}
use Rattle.mp_defs.specs.Distance.{distance}
use Rattle.mp_defs.specs.DistanceLaws.{of_free_windows}

both_hold : (x y : Bool) → (x && y) ≡ true → (x ≡ true) × (y ≡ true)
both_hold true y e = (refl, e)
both_hold false y e = absurd (cc)

-- each sample of a free window is there
sample_there : (m : ℕ) (a : Series) (i k : ℕ) → is_free m a i ≡ true → k < m → IsSome (number_at a (i + k))
unfolding is_free
sample_there zero a i k free lt = absurd (omega (arith, lt))
sample_there (suc m) a i k free lt =
    let both = both_hold (is_free m a i) (is_some (number_at a (i + m))) free in
    elim (cases_eq k m) [
      | inl same ↦ ap (λ n. is_some (number_at a (i + n))) same ∙ both.1
      | inr other ↦ sample_there m a i k both.0 (omega (arith, lt, other))
    ]

-- where two windows have a distance, their samples are there
pub row_there : (m : ℕ) (a : Series) (i : ℕ) (b : Series) (j k : ℕ) → IsSome (distance m a i b j) → k < m
    → IsSome (number_at a (i + k))
row_there m a i b j k some lt = sample_there m a i k ((of_free_windows m a i b j).0 some).0 lt

pub column_there : (m : ℕ) (a : Series) (i : ℕ) (b : Series) (j k : ℕ) → IsSome (distance m a i b j) → k < m
    → IsSome (number_at b (j + k))
column_there m a i b j k some lt = sample_there m b j k ((of_free_windows m a i b j).0 some).1 lt
