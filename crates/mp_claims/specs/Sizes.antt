-- Which sizes the parts of a core have.
use Rattle.std.specs.Prelude.{◌≡◌, ℕ, List, length, All}
use Rattle.mp_claims.specs.Cores.{CoreState}

-- there is a partial for each worker, and all parts have the core's size
pub record HaveSize (size : ℕ) (state : CoreState) (total : ℕ) (partials : List ℕ) : Type 0 where
  pub total_size : total ≡ size
  pub partial_sizes : All (λ n. n ≡ size) partials
  pub each_worker : length partials ≡ length state.workers
