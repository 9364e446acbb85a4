-- What holds of ranks, in the subject's own words.
use Rattle.std.specs.Prelude.{◌≡◌, ℕ, ◌<◌, ◌≤◌, ◌⊎◌, ◌↔◌, true, List, [], ◌∷◌, slice_get, Option, Some}
use Rattle.mp_nums.specs.declared.nearest.Near.{Near}
use Rattle.mp_defs.specs.Series.{Series}
use Rattle.mp_defs.specs.Window.{is_allowed}
use Rattle.mp_defs.specs.Profile.{entry}
use Rattle.mp_results.specs.Ranks.{in_order, ranks}
use Rattle.mp_topk.specs.Ranking.{is_rising}

-- the first rank of a window is its entry in the matrix profile
abbrev pub FirstIsEntry : Type 0
FirstIsEntry = (k m : ℕ) (a : Series) (i : ℕ) → 1 ≤ k
    → slice_get (ranks k m a i) 0 ≡ entry (is_allowed m) m a i

-- x is one of a list
unfoldable pub StandsIn : Near → List Near → Type 0
StandsIn x [] = ⊥
StandsIn x (y ∷ ys) = (x ≡ y) ⊎ StandsIn x ys

-- x is one of the candidates below n
pub record IsCandidate (c : ℕ → Option Near) (n : ℕ) (x : Near) : Type 0 where
  pub place : ℕ
  pub below : place < n
  pub chosen : c place ≡ Some x

-- each comes before the next, and what stands there are the candidates, without a repeat
pub record AreInOrder (c : ℕ → Option Near) (n : ℕ) (list : List Near) : Type 0 where
  pub rising : is_rising list ≡ true
  pub candidates : (x : Near) → StandsIn x list ↔ IsCandidate c n x

abbrev pub CandidatesAreInOrder : Type 0
CandidatesAreInOrder = (c : ℕ → Option Near) (n : ℕ) → AreInOrder c n (in_order c n)
