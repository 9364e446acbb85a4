-- The numbers that passes draw from a desk.
use Rattle.std.specs.Prelude.{◌≡◌, ℕ, ◌+◌, ◌-◌, ◌<◌, ◌≤◌, ◌==◌, nat_le, nat_lt, List, [], ◌∷◌, ◌++◌, length, All}
use Rattle.std.specs.Prelude.{count_by, sum_by, filter, if◌then◌else◌, slice_index}
use Rattle.mp_workers.specs.declared.passes.PassView.{PassView}
use Rattle.atomic_table.specs.Seated.{TableId}
use Rattle.atomic_table.specs.Table.{State, Me, Step}
use lib.ListN.{get_elem?}
use mathlib.Core.Option.{some}
use Rattle.mp_partial.specs.declared.limits.TheConstants.{MAX_PIECES}

-- which desk it is: the table in which its word stands, and how many pieces it gives out
pub record DeskId : Type 0 where
  pub table : TableId
  pub pieces : ℕ

-- a pass: its desk, its weight, and the numbers that it drew, in their order
pub record PassState : Type 0 where
  pub desk : DeskId
  pub weight : ℕ
  pub drawn : List ℕ

-- the weight of a desk's first pass, which all its passes have together
abbrev pub whole : ℕ
whole = 64

-- how often a number stands in the list
abbrev pub times : ℕ → List ℕ → ℕ
times x numbers = count_by (λ number. number == x) numbers

-- how many numbers of the list are no pieces
abbrev pub past : ℕ → List ℕ → ℕ
past pieces numbers = count_by (λ number. nat_le pieces number) numbers

-- the numbers of the list that are pieces
abbrev pub pieces_among : ℕ → List ℕ → List ℕ
pieces_among pieces numbers = filter (λ number. nat_lt number pieces) numbers

-- 1 for a number below another, and else 0
abbrev pub once_below : ℕ → ℕ → ℕ
once_below next x = if nat_lt x next then 1 else 0

-- each number below the next one stands in the list once, and no other number does
abbrev pub HasEachBelow : ℕ → List ℕ → Type 0
HasEachBelow next numbers = (x : ℕ) → times x numbers ≡ once_below next x

-- behind the old numbers there are new ones, which are pieces, and last one that is none
pub record Drew (pieces : ℕ) (old numbers : List ℕ) (last : ℕ) (new : List ℕ) : Type 0 where
  pub drawn : new ≡ old ++ numbers ++ last ∷ []
  pub are_pieces : All (λ number. number < pieces) numbers
  pub no_piece : pieces ≤ last

-- ---- what a desk's word and its passes keep

abbrev pub pass_view : ℕ → ℕ → List ℕ → PassView
pass_view pieces weight drawn = record { pieces = pieces; weight = weight; drawn = drawn }

-- a pass drew no more numbers past the pieces than it weighs, none where it weighs nothing, and else knows the pieces
pub record IsFairView (pieces : ℕ) (view : PassView) : Type 0 where
  pub few_past : past pieces view.drawn ≤ view.weight
  pub spent : view.weight ≡ 0 → view.drawn ≡ []
  pub knows : 0 < view.weight → view.pieces ≡ pieces

-- Together the passes drew each number below the word once and no other, and so many past the pieces as the word is
-- past them. Together they have the whole weight.
pub record IsFair (pieces : ℕ) (desk : State (Unit {0}) PassView) : Type 0 where
  pub one_word : length desk.words ≡ 1
  pub once : (x : ℕ) → sum_by (λ view. times x view.drawn) desk.views ≡ once_below (slice_index desk.words 0) x
  pub weights : sum_by (λ view. view.weight) desk.views ≡ whole
  pub past_pieces : sum_by (λ view. past pieces view.drawn) desk.views ≡ slice_index desk.words 0 - pieces
  pub each : (pass : ℕ) (view : PassView) → get_elem? desk.views pass ≡ some view → IsFairView pieces view

-- ---- what the steps do

-- the number found is one more that the pass drew. It is greater than those before it, and not far past the pieces
pub record Claims (step : Step (Unit {0})) (before : Me (Unit {0}) PassView) (found : ℕ)
    (after : Me (Unit {0}) PassView) : Type 0 where
  pub view : after.0 ≡ pass_view before.0.pieces before.0.weight (before.0.drawn ++ found ∷ [])
  pub slots : after.1 ≡ before.1
  pub greatest : All (λ number. number < found) before.0.drawn
  pub bound : found < before.0.pieces + whole

-- what is left once a pass of weight 1 was cut off, and that pass
abbrev pub cut_left : PassView → PassView
cut_left view = pass_view view.pieces (view.weight - 1) view.drawn

abbrev pub cut_off : PassView → PassView
cut_off view = pass_view view.pieces 1 []

abbrev pub both_views : PassView → PassView → PassView
both_views view other = pass_view view.pieces (view.weight + other.weight) (view.drawn ++ other.drawn)

abbrev pub spent_view : PassView
spent_view = pass_view 0 0 []

-- a desk has one word and no slot, and its rule is of these pieces
pub record IsDesk (table : TableId) (key pieces : ℕ) : Type 0 where
  pub words : table.words ≡ 1
  pub slots : table.slots ≡ 0
  pub key_is : key ≡ pieces
  pub few : pieces ≤ MAX_PIECES
