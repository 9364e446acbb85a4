-- What chains are, in the subject's own words.
use Rattle.std.specs.Prelude.{◌≡◌, ℕ, ◌+◌, ◌<◌, ◌==◌, ◌↔◌, List, [], length, slice_index, All, count_by, MatchOption}
use Rattle.std.specs.Prelude.{Option, Some}
use Rattle.std.specs.List.{IsFirstMaxByKey, concat}
use Rattle.mp_nums.specs.declared.nearest.Near.{Near}
use Rattle.mp_results.specs.Columns.{index_at, AreColumns}
use Rattle.mp_results.specs.Chains.{chain_from, chains_of, longest_of}

-- the right index of j is k, and the left index of k is j
pub record Succeeds (left right : List (Option Near)) (j k : ℕ) : Type 0 where
  pub right_is : index_at right j ≡ Some k
  pub left_is : index_at left k ≡ Some j

-- successors one behind the other from j on, and the last has none
pub record IsChainFrom (left right : List (Option Near)) (j : ℕ) (chain : List ℕ) : Type 0 where
  pub some : 0 < length chain
  pub starts : slice_index chain 0 ≡ j
  pub follows : (i : ℕ) → i + 1 < length chain → Succeeds left right (slice_index chain i) (slice_index chain (i + 1))
  pub ends : (i k : ℕ) → i + 1 ≡ length chain → Succeeds left right (slice_index chain i) k → ⊥

-- such is the chain from each window
abbrev pub ChainsFollow : Type 0
ChainsFollow = (left right : List (Option Near)) (j : ℕ) → AreColumns left right → j < length right
    → IsChainFrom left right j (chain_from left right j)

-- no window is succeeded by two, or succeeds two
abbrev pub SuccessorsAreUnique : Type 0
SuccessorsAreUnique = (left right : List (Option Near)) (i j k l : ℕ)
    → Succeeds left right i j → Succeeds left right k l → (i ≡ k) ↔ (j ≡ l)

-- a chain whose first window succeeds none
abbrev pub IsWholeChain : List (Option Near) → List (Option Near) → List ℕ → Type 0
IsWholeChain left right chain = (j : ℕ) × (j < length right) × IsChainFrom left right j chain
    × ((i : ℕ) → Succeeds left right i j → ⊥)

-- none of all chains can be made longer at either end
abbrev pub ChainsAreWhole : Type 0
ChainsAreWhole = (left right : List (Option Near)) → AreColumns left right
    → All (IsWholeChain left right) (chains_of left right)

-- each window stands in exactly one of all chains, once
abbrev pub ChainsPartTheWindows : Type 0
ChainsPartTheWindows = (left right : List (Option Near)) (j : ℕ) → AreColumns left right → j < length right
    → count_by (λ k. k == j) (concat (chains_of left right)) ≡ 1

-- it is the first of greatest length, and there is none only where there is no chain
abbrev pub LongestIsFirst : Type 0
LongestIsFirst = (chains : List (List ℕ))
    → MatchOption (longest_of chains) (chains ≡ []) (IsFirstMaxByKey length chains (length chains))
