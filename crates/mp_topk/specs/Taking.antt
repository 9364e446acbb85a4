-- What some pairs of windows give ranks.
use Rattle.std.specs.Prelude.{◌≡◌, ℕ, Bool, List, map, take, Option}
use Rattle.std.specs.List.{range_with_len}
use Rattle.mp_nums.specs.declared.nearest.Near.{Near}
use Rattle.mp_defs.specs.Series.{Series}
use Rattle.mp_defs.specs.Distance.{distance}
use Rattle.mp_defs.specs.Least.{candidate}
use Rattle.mp_defs.specs.Profile.{windows_of}
use Rattle.mp_results.specs.Ranks.{in_order}
use Rattle.mp_topk.specs.Ranking.{merged_lists}

-- the windows that may be chosen for window i, by their distance
abbrev pub chosen : (ℕ → ℕ → Bool) → ℕ → Series → ℕ → ℕ → Option Near
chosen may m a i = candidate (may i) (λ j. distance m a i a j)

-- the first k of them, in their order
abbrev pub ranks_among : ℕ → (ℕ → ℕ → Bool) → ℕ → Series → ℕ → List Near
ranks_among k may m a i = take k (in_order (chosen may m a i) (windows_of m a))

-- of each window
abbrev pub lists_among : ℕ → (ℕ → ℕ → Bool) → ℕ → Series → List (List Near)
lists_among k may m a = map (ranks_among k may m a) (range_with_len 0 (windows_of m a))

-- each place has the first k of what it had and of the windows that may be chosen for it
abbrev pub HaveTaken : ℕ → (ℕ → ℕ → Bool) → ℕ → Series → List (List Near) → List (List Near)
    → Type 0
HaveTaken k may m a old new = new ≡ merged_lists k old (lists_among k may m a)
