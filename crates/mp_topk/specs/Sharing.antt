-- Ranks that workers share.
use Rattle.std.specs.Prelude.{◌≡◌, ℕ, ◌*◌, ◌/◌, ◌<◌, ◌≤◌, List, [], length, take, slice_index, slice_index_or}
use Rattle.std.specs.Prelude.{slice_set, Option, IfSome, ⊤}
use Rattle.mp_nums.specs.declared.nearest.Near.{Near}
use Rattle.mp_nums.specs.declared.samples.Sample.{Sample}
use Rattle.mp_series.specs.declared.limits.TheConstants.{MAX_SAMPLES}
use Rattle.mp_defs.specs.Series.{series_of}
use Rattle.mp_defs.specs.Window.{windows}
use Rattle.mp_results.specs.Ranks.{put_if_there, ranks_of}
use Rattle.mp_tiles.specs.Compact.{slot_of_word}
use Rattle.mp_tiles.specs.Pieces.{OwnTiling}
use Rattle.mp_topk.specs.Ranking.{merged_lists}
use Rattle.mp_topk.specs.Tiling.{ranks_together, ranks_whole}
use Rattle.mp_topk.specs.declared.ranks.TheConstants.{MAX_RANKS}
use Rattle.mp_topk.specs.declared.entries.RanksView.{RanksView}
use Rattle.atomic_table.specs.Table.{State, Me, Step}

-- a slot leaves the first k as they were
abbrev pub GivesNone : ℕ → List Near → Option Near → Type 0
GivesNone k list slot = take k (put_if_there slot list) ≡ list

-- place i has the first k of what it had and of one slot more
abbrev pub put_slot_at : ℕ → List (List Near) → ℕ → Option Near → List (List Near)
put_slot_at k lists i slot = slice_set lists i (take k (put_if_there slot (slice_index_or lists i [])))

-- the series that ranks are of, and the length of a window
pub record RankSeries : Type 0 where
  pub samples : List Sample
  pub m : ℕ

abbrev pub entries_of : List Sample → ℕ → RankSeries
entries_of samples m = record { samples = samples; m = m }

abbrev pub series_in : OwnTiling → RankSeries
series_in own = entries_of own.samples own.m

-- the number of windows
abbrev pub count_of : RankSeries → ℕ
count_of s = windows (length s.samples) s.m

-- the word that tells no window: 2^64 - 1
abbrev pub no_word : ℕ
no_word = 18446744073709551615

-- the ranks of all windows
abbrev pub whole_of : ℕ → RankSeries → List (List Near)
whole_of k s = ranks_of k s.m (series_of s.samples)

abbrev pub view_of : ℕ → RankSeries → RanksView
view_of k s = record { ranks = k; whole = whole_of k s }

-- each word gives nothing to the place that it belongs to
pub record GiveNone (k : ℕ) (whole : List (List Near)) (words : List ℕ) : Type 0 where
  pub places : length words ≡ length whole * k
  pub each : (n : ℕ) → n < length words
      → GivesNone k (slice_index_or whole (n / k) []) (slot_of_word (slice_index words n))

abbrev pub AreEntriesOf : ℕ → RankSeries → State (Unit {0}) RanksView → Type 0
AreEntriesOf k s entries = GiveNone k (whole_of k s) entries.words

-- the word found gives nothing to its place
abbrev pub Finds : Step (Unit {0}) → Me (Unit {0}) RanksView → ℕ → Me (Unit {0}) RanksView → Type 0
Finds step before found after =
    GivesNone before.0.ranks (slice_index_or before.0.whole (step.word / before.0.ranks) []) (slot_of_word found)

-- a worker that lowers a word asks for nothing
abbrev pub Lowers : Step (Unit {0}) → Me (Unit {0}) RanksView → ℕ → Me (Unit {0}) RanksView → Type 0
Lowers step before found after = ⊤

-- the table has a word for each window and rank
pub record AreEntries (k words : ℕ) (s : RankSeries) : Type 0 where
  pub words_are : words ≡ length (whole_of k s) * k
  pub ranks : k ≤ MAX_RANKS
  pub least : 1 ≤ s.m
  pub few : length s.samples ≤ MAX_SAMPLES

-- nothing stands in some lists that isn't among the whole ones
abbrev pub IsWithin : ℕ → List (List Near) → List (List Near) → Type 0
IsWithin k whole lists = merged_lists k lists whole ≡ whole

-- the new lists have what the old ones had, and nothing that isn't among the whole ones
pub record HasMore (k : ℕ) (whole old new : List (List Near)) : Type 0 where
  pub within : IsWithin k whole new
  pub more : merged_lists k new old ≡ new
  pub places : length new ≡ length old

-- the tiles make the ranks, and the entries are of their series
pub record AreShared (k : ℕ) (own : OwnTiling) (entries : Option RankSeries) : Type 0 where
  pub together : ranks_together k own ≡ ranks_whole k own
  pub of_series : IfSome entries (λ e. e ≡ series_in own)
