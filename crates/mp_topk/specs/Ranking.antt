-- What a part that keeps ranks stands for, and what two of them have together.
use Rattle.std.specs.Prelude.{◌≡◌, ℕ, zero, suc, ◌≤◌, Bool, true, ◌&&◌, if◌then◌else◌, List, [], ◌∷◌, All, length, map}
use Rattle.std.specs.Prelude.{take, replicate, ◌++◌, ◌-◌}
use Rattle.std.specs.Prelude.{Option, Some, None, slice_set, slice_index_or}
use Rattle.std.specs.Simd.Lanes.{zip2}
use Rattle.mp_nums.specs.declared.nearest.Near.{Near}
use Rattle.mp_nums.specs.Listed.{Listed}
use Rattle.mp_nums.specs.Near.{comes_before}
use Rattle.mp_results.specs.Ranks.{put}
use Rattle.mp_partial.specs.Values.{Value}

-- what is seen of ranks: for each place its windows in their order, and how many more places take no memory
pub record Ranked : Type 0 where
  pub lists : List (List Near)
  pub spare : ℕ

-- x comes before the first of a list, where there is one
unfoldable pub precedes : Near → List Near → Bool
precedes x [] = true
precedes x (y ∷ ys) = comes_before x y

-- each comes before the next
unfoldable pub is_rising : List Near → Bool
is_rising [] = true
is_rising (x ∷ xs) = precedes x xs && is_rising xs

-- some put among others, one by one
unfoldable pub put_all : List Near → List Near → List Near
put_all xs [] = xs
put_all xs (y ∷ ys) = put y (put_all xs ys)

-- the windows that stand in slots
unfoldable pub those_in : List (Option Near) → List Near
those_in [] = []
those_in (None ∷ slots) = those_in slots
those_in (Some x ∷ slots) = x ∷ those_in slots

-- windows as slots
abbrev pub slots_of : List Near → List (Option Near)
slots_of list = map Some list

-- so many slots, of which the first ones have these windows
unfoldable pub padded : ℕ → List Near → List (Option Near)
padded zero list = []
padded (suc k) [] = None ∷ padded k []
padded (suc k) (x ∷ xs) = Some x ∷ padded k xs

-- k slots, of which the first ones have windows in their order
pub record AreRanked (k : ℕ) (slots : List (Option Near)) : Type 0 where
  pub padded : slots ≡ padded k (those_in slots)
  pub few : length (those_in slots) ≤ k
  pub rising : is_rising (those_in slots) ≡ true

-- the one that comes later of two that are not the same
abbrev pub later_of : Option Near → Option Near → Option Near
later_of None b = None
later_of (Some a) None = None
later_of (Some a) (Some b) = if comes_before b a then Some a else if comes_before a b then Some b else None

-- at most k windows in their order, as slots
pub record AreRanks (k : ℕ) (slots : List (Option Near)) : Type 0 where
  pub some : slots ≡ slots_of (those_in slots)
  pub few : length (those_in slots) ≤ k
  pub rising : is_rising (those_in slots) ≡ true

-- for each place such ranks
pub record HasRanks (k size : ℕ) (value : Value) : Type 0 where
  pub places : length value ≡ size
  pub ranks : All (AreRanks k) value

-- the first k of those that stand in one or the other
abbrev pub merged_slots : ℕ → List (Option Near) → List (Option Near) → List (Option Near)
merged_slots k a b = slots_of (take k (put_all (those_in a) (those_in b)))

-- the same, place by place
abbrev pub merged_ranks : ℕ → Value → Value → Value
merged_ranks k a b = zip2 (merged_slots k) a b

-- for each place the first k of those that stand in one or the other
abbrev pub merged_lists : ℕ → List (List Near) → List (List Near) → List (List Near)
merged_lists k a b = zip2 (λ xs ys. take k (put_all xs ys)) a b

-- for each place no window
abbrev pub no_ranks : ℕ → Value
no_ranks size = replicate size []

-- the list of each place
abbrev pub lists_of : Value → List (List Near)
lists_of value = map those_in value

-- so many places, of which the first ones have these slots and the others no window
abbrev pub whole : ℕ → ℕ → List (List (Option Near)) → List (List (Option Near))
whole k size places = places ++ replicate (size - length places) (replicate k None)

-- place i has the first k of what it had and of one window more
abbrev pub put_at : ℕ → List (List Near) → ℕ → Near → List (List Near)
put_at k lists i x = slice_set lists i (take k (put x (slice_index_or lists i [])))

-- the items of each list
abbrev pub lists_in : List (Listed Near) → List (List Near)
lists_in lists = map (λ list. list.items) lists
