-- What a session keeps between lines.
use Rattle.std.specs.Prelude.{ℕ, Bool, true, false, List, [], ◌∷◌, length, replicate, slice_get, slice_index_or}
use Rattle.std.specs.Prelude.{Option, Some, None}
use Rattle.std.specs.FinMap.{FinMap}
use Rattle.std.specs.Cmp.Lexicographic.{slice_cmp}
use Rattle.std.specs.Ordering.{nat_cmp}
use Rattle.mp_nums.specs.declared.widths.Width.TheVariants.{Narrow}
use Rattle.mp_defs.specs.Series.{Series}
use Rattle.mp_replies.specs.declared.modes.Mode.{Mode}
use Rattle.mp_replies.specs.declared.modes.ReportForm.TheVariants.{Text}
use Rattle.mp_replies.specs.declared.refs.Ref.{Ref}

-- the files that a session may load, by name
abbrev pub Files : Type 0
Files = FinMap (slice_cmp nat_cmp) (List ℕ)

-- a slot of the session: closed, or channels of equal length, or one channel of which the last samples are kept, or one
-- whose profile is made in parts
pub data Store : Type 0 where
  Closed : Store
  Open : (channels : List Series) → Store
  -- how many samples are kept, and all samples that were ever appended
  Kept : (keep : ℕ) (series : Series) → Store
  -- the samples, and the diagonals that are covered, in the order in which they were
  Lazy : (series : Series) (covered : List ℕ) → Store

pub record State : Type 0 where
  pub window : ℕ
  pub scale : ℕ
  -- how the next line is read and answered
  pub mode : Mode
  -- how many lines were run
  pub lines : ℕ
  -- whether a command was accepted
  pub begun : Bool
  -- the eight slots
  pub stores : List Store

-- the version of the lines of a session that has named none
abbrev pub first_version : ℕ
first_version = 1

-- the version that has kept slots, too
abbrev pub second_version : ℕ
second_version = 2

-- the mode of a session that has named none
abbrev pub first_mode : Mode
first_mode = record { version = first_version; width = Narrow; form = Text }

-- at the start slot 0 has one empty channel, and the others are closed
abbrev pub opening : ℕ → ℕ → State
opening window scale =
    record {
      window = window;
      scale = scale;
      mode = first_mode;
      lines = 0;
      begun = false;
      stores = Open ([] ∷ []) ∷ replicate 7 Closed;
    }

-- ---- what stands in a slot

-- the slot of this number, closed where there is none
abbrev pub store_at : List Store → ℕ → Store
store_at stores slot = elim (slice_get stores slot) as (λ _. Store) [ None ↦ Closed | Some store ↦ store ]

abbrev pub is_closed : Store → Bool
is_closed Closed = true
is_closed (Open channels) = false
is_closed (Kept keep series) = false
is_closed (Lazy series covered) = false

-- how many samples of a slot are kept, none where all are
abbrev pub keep_in : Store → Option ℕ
keep_in Closed = None
keep_in (Open channels) = None
keep_in (Kept keep series) = Some keep
keep_in (Lazy series covered) = None

abbrev pub keep_at : List Store → ℕ → Option ℕ
keep_at stores slot = keep_in (store_at stores slot)

-- whether its profile is made in parts
abbrev pub is_lazy : Store → Bool
is_lazy Closed = false
is_lazy (Open channels) = false
is_lazy (Kept keep series) = false
is_lazy (Lazy series covered) = true

-- the diagonals that are covered, none where its profile isn't made in parts
abbrev pub covered_in : Store → List ℕ
covered_in Closed = []
covered_in (Open channels) = []
covered_in (Kept keep series) = []
covered_in (Lazy series covered) = covered

abbrev pub covered_at : List Store → ℕ → List ℕ
covered_at stores slot = covered_in (store_at stores slot)

abbrev pub channels_in : Store → List Series
channels_in Closed = []
channels_in (Open channels) = channels
channels_in (Kept keep series) = series ∷ []
channels_in (Lazy series covered) = series ∷ []

abbrev pub channels_at : List Store → ℕ → List Series
channels_at stores slot = channels_in (store_at stores slot)

-- how many samples each channel has
abbrev pub samples_in : List Series → ℕ
samples_in [] = 0
samples_in (channel ∷ channels) = length channel

-- ---- one channel

-- the series of a channel, empty where there is none
abbrev pub series_at : List Store → Ref → Series
series_at stores at = slice_index_or (channels_at stores at.slot) at.channel []
