-- Blocks of rows and columns of several channels, thirty-two diagonals at once.
use Rattle.std.specs.Prelude.{◌≡◌, ℕ, ◌+◌, ◌-◌, ◌*◌, ◌<◌, ◌≤◌, List, [], length, slice_index_or, map, ℤ, Bool}
use Rattle.std.specs.Prelude.{FitsSigned}
use Rattle.std.specs.Prelude.{Option, Some, None}
use Rattle.std.specs.Int.{w32}
use Rattle.mp_nums.specs.declared.nearest.Near.{Near}
use Rattle.mp_nums.specs.declared.samples.Sample.{Sample}
use Rattle.mp_nums.specs.Listed.{Listed}
use Rattle.mp_defs.specs.Series.{Series, series_of}
use Rattle.mp_results.specs.Multi.{channel_at, pair_value}
use Rattle.mp_partial.specs.Values.{Column}
use Rattle.mp_sums.specs.Residues.{item}
use Rattle.mp_scans.specs.Lanes.{IsAbove}
use Rattle.mp_scans.specs.Limiting.{first_row}
use Rattle.mp_scans.specs.Offering.{only, in_block}
use Rattle.mp_scans.specs.Slots.{Covers}
use Rattle.mp_scans.specs.declared.sizes.TheConstants.{ROWS}
use Rattle.mp_multi.specs.Among.{TakesAmong}
use Rattle.mp_multi.specs.Exacts.{AreKept}
use Rattle.mp_multi.specs.Lanes.{IsLane, IsSlotLimit, AreLanesIn, AreChannelResidues, AreLanesOf}
use Rattle.mp_multi.specs.declared.blocks.Block.{Block}
use Rattle.mp_multi.specs.declared.blocks.Known.{Known}
use Rattle.mp_multi.specs.declared.blocks.Pair.{Pair}
use Rattle.mp_multi.specs.declared.blocks.Strip.{Strip}
use Rattle.mp_multi.specs.declared.plans.MultiPlan.{MultiPlan}
use Rattle.mp_multi.specs.declared.running.Running.{Running}
use Rattle.mp_multi.specs.declared.sizes.TheConstants.{WIDE}

-- the channels
abbrev pub channels_of : MultiPlan → List Series
channels_of plan = map series_of plan.channels.list.now

-- ---- what is offered

-- slots that these pairs of windows were offered to
pub record IsScan (m k : ℕ) (channels : List (List Sample)) (pairs : ℕ → ℕ → Bool)
    (old new : Listed (Option Near))
    : Type 0 where
  pub items : TakesAmong pairs m k channels old.items new.items
  pub spare : new.spare ≡ old.spare

abbrev pub AreScannedBy : MultiPlan → (ℕ → ℕ → Bool) → Listed (Option Near) → Listed (Option Near)
    → Type 0
AreScannedBy plan pairs old new = IsScan plan.channels.m plan.channels.k plan.channels.list.now pairs old new

abbrev pub AreScannedIn : Block → (ℕ → ℕ → Bool) → Listed (Option Near) → Listed (Option Near) → Type 0
AreScannedIn block pairs old new = AreScannedBy block.plan pairs old new

-- a pair of a block
abbrev pub in_pair : Block → Pair → ℕ → ℕ → Bool
in_pair block pair = only (block.row + pair.row) (block.column + pair.column)

-- the pairs of a strip's rows from one on and before another
abbrev pub in_strip : Strip → ℕ → ℕ → ℕ → ℕ → Bool
in_strip strip from end =
    in_block (strip.block.column - strip.block.row + strip.offset)
    (strip.block.column - strip.block.row + strip.offset + strip.width) (strip.block.row + from) (strip.block.row + end)

-- ---- residues

-- in channel n the residues of a row and of thirty-two columns, counted from the block's first
abbrev pub IsChannelAt : Block → ℕ → ℕ → ℕ → List ℤ → Type 0
IsChannelAt block n p c residues =
    AreLanesIn block.plan.channels.m block.plan.shift (channel_at (channels_of block.plan) n) (block.row + p)
    (block.column + c) residues

-- the same in each channel
abbrev pub AreResiduesAt : Block → ℕ → ℕ → List (List ℤ) → Type 0
AreResiduesAt block p c residues =
    AreChannelResidues block.plan.channels.m block.plan.shift (channels_of block.plan) (block.row + p)
    (block.column + c) residues

-- a row of a strip and the lanes of its columns
pub record IsRowOf (strip : Strip) (p : ℕ) (lanes : List ℤ) : Type 0 where
  pub place : p < strip.end
  pub of_columns : AreLanesOf strip.block.plan.channels.m strip.block.plan.channels.k strip.block.plan.shift
      (channels_of strip.block.plan) (strip.block.row + p) (strip.block.column + (p + strip.offset)) lanes

-- a row of a strip, a column that it has on one of the strip's diagonals, and their lane
pub record IsPairOf (strip : Strip) (pair : Pair) : Type 0 where
  pub row : pair.row < strip.end
  pub first : pair.row + strip.offset ≤ pair.column
  pub last : pair.column < pair.row + strip.offset + 32
  pub is_column : strip.block.column + pair.column < strip.block.windows
  pub lane : IsLane strip.block.plan.channels.m strip.block.plan.channels.k strip.block.plan.shift
      (channels_of strip.block.plan) (strip.block.row + pair.row) (strip.block.column + pair.column) pair.lane

-- ---- limits

-- what is kept of a block's diagonals
abbrev pub AreKeptIn : Block → List (Option ℕ) → List (List Running) → Type 0
AreKeptIn block rows running =
    AreKept block.plan.channels.m block.plan.channels.list.now (block.column - block.row) rows running

-- of the windows from first on those with a lane above the limit give window i nothing
abbrev pub IsLimitIn : Block → Column → ℕ → ℕ → ℤ → Type 0
IsLimitIn block slots i first limit =
    IsSlotLimit block.plan.channels.m block.plan.channels.k block.plan.shift (channels_of block.plan)
    (slice_index_or slots i None) i first limit

-- the columns of a row begin on the block's first diagonal
pub record AreRowLimits (block : Block) (limits : List ℤ) (slots : Column) : Type 0 where
  pub places : length limits ≡ ROWS
  pub each : (p : ℕ) → p < block.rows → IsLimitIn block slots (block.row + p) (block.column + p) (item limits p)

-- to each column rows from its first on are still offered
pub record AreColumnLimits (block : Block) (first : ℕ → ℕ) (limits : List ℤ) (slots : Column) : Type 0 where
  pub places : length limits ≡ WIDE
  pub fit : (c : ℕ) → c < WIDE → FitsSigned w32 (item limits c)
  pub each : (c : ℕ) → c < WIDE → block.column + c < block.windows
      → IsLimitIn block slots (block.column + c) (block.row + first c) (item limits c)

pub record AreLimits (block : Block) (first : ℕ → ℕ) (known : Known) (slots : Column) : Type 0 where
  pub rows : AreRowLimits block known.rows slots
  pub columns : AreColumnLimits block first known.columns slots

-- the same at a row of a strip: each column has the rows from this on on the strip's diagonals
abbrev pub AreLimitsAt : Strip → ℕ → Known → Column → Type 0
AreLimitsAt strip p known slots = AreLimits strip.block (first_row strip.offset p) known slots

-- limits of columns are numbers of 32 bits, and there is one for each place
pub record AreFit (known : Known) : Type 0 where
  pub row_places : length known.rows ≡ ROWS
  pub column_places : length known.columns ≡ WIDE
  pub columns : (c : ℕ) → c < WIDE → FitsSigned w32 (item known.columns c)

-- windows i and j have a lane that is above both limits
pub record HasLaneAbove (m k shift : ℕ) (channels : List Series) (i j : ℕ) (row column : ℤ) : Type 0 where
  pub lane : ℤ
  pub is : IsLane m k shift channels i j lane
  pub above : IsAbove row column lane

-- in a strip's rows from one on and before another, each lane is above its row's limit and its column's
pub record AreAbove (strip : Strip) (known : Known) (from end : ℕ) : Type 0 where
  pub each : (p t : ℕ) → from ≤ p → p < end → t < 32
      → HasLaneAbove strip.block.plan.channels.m strip.block.plan.channels.k strip.block.plan.shift
      (channels_of strip.block.plan) (strip.block.row + p) (strip.block.column + (p + strip.offset) + t)
      (item known.rows p) (item known.columns (p + strip.offset + t))

-- windows i and j give each other nothing
abbrev pub AreQuiet : Block → Column → ℕ → ℕ → Type 0
AreQuiet block slots i j =
    (v : ℕ) → pair_value block.plan.channels.m block.plan.channels.k (channels_of block.plan) i j ≡ Some v
    → Covers (slice_index_or slots i None) j v × Covers (slice_index_or slots j None) i v

-- ---- strips

-- of so many strips each whose first column is a window has the residues of a row
pub record AreStripsAt (plan : MultiPlan) (windows strips i j : ℕ) (places : List (List (List ℤ))) : Type 0 where
  pub each : (s : ℕ) → s < strips → j + s * 32 < windows
      → AreChannelResidues plan.channels.m plan.shift (channels_of plan) i (j + s * 32) (slice_index_or places s [])
