-- Blocks of windows.
use Rattle.std.specs.Prelude.{◌≡◌, ℕ, ◌+◌, ◌<◌, ◌≤◌, List, [], length, slice_index_or, Option, Some, None}
use Rattle.mp_nums.specs.declared.nearest.Sq.{Sq}
use Rattle.mp_nums.specs.declared.samples.Sample.{Sample}
use Rattle.mp_defs.specs.Window.{windows}
use Rattle.mp_consensus.specs.declared.blocks.Block.{Block}
use Rattle.mp_consensus.specs.declared.candidates.Candidate.{Candidate}
use Rattle.mp_consensus.specs.Searches.{block}

-- how many windows the series at place p has
abbrev pub windows_at : ℕ → List (List Sample) → ℕ → ℕ
windows_at m list p = windows (length (slice_index_or list p [])) m

-- the block has some windows of a series of the list
pub record IsBlockOf (m : ℕ) (list : List (List Sample)) (b : Block) : Type 0 where
  pub place : b.place < length list
  pub some : 1 ≤ b.count
  pub few : b.count ≤ block
  pub within : b.start + b.count ≤ windows_at m list b.place

-- window i of place p is one of a block's
abbrev pub HoldsWindow : Option Block → ℕ → ℕ → Type 0
HoldsWindow found p i = (b : Block) × (found ≡ Some b) × (b.place ≡ p) × (k : ℕ) × (k < b.count) × (i ≡ b.start + k)

-- the candidate is one of a block's windows, with its reach
abbrev pub IsRowOf : Block → List (Option Sq) → Candidate → Type 0
IsRowOf b reaches c = (c.place ≡ b.place) × (k : ℕ) × (k < length reaches) × (c.start ≡ b.start + k)
    × (slice_index_or reaches k None ≡ Some c.radius)
