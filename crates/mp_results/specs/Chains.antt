-- Time series chains: windows one behind the other, each the nearest later one of the one before, which is its nearest
-- earlier one.
use Rattle.std.specs.Prelude.{ℕ, zero, suc, max, Bool, ◌==◌, is_none, List, [], ◌∷◌, length, map, fold, filter}
use Rattle.std.specs.Prelude.{position, Option}
use Rattle.std.specs.List.{range_with_len}
use Rattle.std.specs.Option.{option_map_or}
use Rattle.mp_nums.specs.declared.nearest.Near.{Near}
use Rattle.mp_results.specs.Columns.{named_back}

-- the window that succeeds j: the right index of j, where j is its left index
abbrev pub successor : List (Option Near) → List (Option Near) → ℕ → Option ℕ
successor left right j = named_back right left j

-- the window that j succeeds
abbrev pub predecessor : List (Option Near) → List (Option Near) → ℕ → Option ℕ
predecessor left right j = named_back left right j

-- j, what comes next, and so on, n numbers at most
unfoldable pub links : (ℕ → Option ℕ) → ℕ → ℕ → List ℕ
links next zero j = []
links next (suc n) j = j ∷ option_map_or (links next n) (next j) []

-- the chain from j: j, its successor, the successor of that, and so on to the end
abbrev pub chain_from : List (Option Near) → List (Option Near) → ℕ → List ℕ
chain_from left right j = links (successor left right) (length right) j

-- the windows that succeed none
abbrev pub is_first : List (Option Near) → List (Option Near) → ℕ → Bool
is_first left right j = is_none (predecessor left right j)

-- all chains: those from the windows that succeed none, by rising start
abbrev pub chains_of : List (Option Near) → List (Option Near) → List (List ℕ)
chains_of left right = map (chain_from left right) (filter (is_first left right) (range_with_len 0 (length right)))

abbrev pub greatest_length : List (List ℕ) → ℕ
greatest_length chains = fold max 0 (map length chains)

-- the first of the longest chains
abbrev pub longest_of : List (List ℕ) → Option ℕ
longest_of chains = position (λ chain. length chain == greatest_length chains) chains
