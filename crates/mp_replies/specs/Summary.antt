-- The summary of a made series: the window that is nearest to another, the most unusual window, and where its regime
-- changes.
use Rattle.std.specs.Prelude.{ℕ, ◌*◌, List, ◌++◌, length, map, codes, decimal, slice_get, Option, Some, None}
use Rattle.std.specs.List.{range_with_len}
use Rattle.mp_nums.specs.declared.finds.Discord.{Discord}
use Rattle.mp_nums.specs.declared.nearest.Near.{Near}
use Rattle.mp_results.specs.Regimes.{regimes_in}
use Rattle.mp_defs.specs.Profile.{matrix_profile}
use Rattle.mp_defs.specs.Series.{Series, series_of}
use Rattle.mp_defs.specs.Window.{excl}
use Rattle.mp_results.specs.Generator.{sample_of}
use Rattle.mp_results.specs.Best.{best_in, discord_in}
use Rattle.mp_replies.specs.SegmentsCommand.{curve_in, segment_text}
use Rattle.mp_replies.specs.declared.makes.Make.{Make}

-- the samples of places 0 to count - 1
abbrev pub made_series : Make → Series
made_series make = series_of (map (sample_of make.number) (range_with_len 0 make.count))

-- how many window lengths the margins of the curve have, and the zone of a regime
abbrev pub summary_factor : ℕ
summary_factor = 5

-- ---- the text

-- a line of a word, and behind it the distance, the window and its nearest one, or a dash
abbrev pub named_text : List ℕ → Option Discord → List ℕ
named_text word None = word ++ codes " -\n"
named_text word (Some window) =
    word ++ codes " " ++ decimal window.near.dist.0 ++ codes " " ++ decimal window.start ++ codes " "
    ++ decimal window.near.index ++ codes "\n"

-- a place of the curve with its fraction there, or a dash
abbrev pub regime_text : List (ℕ × ℕ) → Option ℕ → List ℕ
regime_text curve None = codes "segment -\n"
regime_text curve (Some place) = codes "segment " ++ segment_text curve place

-- of so many samples, by the profile's entries, the exclusion zone, a regime and the curve that it lies on
abbrev pub summary_text : ℕ → List (Option Near) → ℕ → Option ℕ → List (ℕ × ℕ) → List ℕ
summary_text samples column zone regime curve =
    codes "generated " ++ decimal samples ++ codes " " ++ decimal (length column) ++ codes "\n"
    ++ named_text (codes "best") (best_in column) ++ named_text (codes "discord") (discord_in column zone)
    ++ regime_text curve regime

-- at a window length
abbrev pub summary_of : ℕ → Make → List ℕ
summary_of m make =
    let column = (matrix_profile m (made_series make)).all in
    let curve = curve_in m column summary_factor in
    summary_text make.count column (excl m) (slice_get (regimes_in curve (summary_factor * m) 1) 0) curve
