-- The summary of a made series, by its profile.
use Rattle.std.specs.Prelude.{ℕ, ◌*◌, List, Option, slice_get}
use Rattle.mp_nums.specs.declared.nearest.Near.{Near}
use Rattle.mp_defs.specs.Window.{excl}
use Rattle.mp_results.specs.Regimes.{regimes_in}
use Rattle.mp_replies.specs.SegmentsCommand.{curve_in}
use Rattle.mp_replies.specs.Summary.{summary_factor, summary_text}

-- of so many samples, by the entries of their profile at a window length
abbrev pub summary_by : ℕ → ℕ → List (Option Near) → List ℕ
summary_by m samples column =
    let curve = curve_in m column summary_factor in
    summary_text samples column (excl m) (slice_get (regimes_in curve (summary_factor * m) 1) 0) curve
