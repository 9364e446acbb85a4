-- The best of windows, from the last one on.
use Rattle.std.proofs.Common.{◌≡◌, ℕ, suc, ◌+◌, ◌<◌, List, drop, length, get_or, refl, sym, ap, ◌∙◌, arith}
use Rattle.std.proofs.Common.{drop-cons}
use Rattle.std.proofs.Math.Seq.{drop-length}
use Rattle.std.specs.Prelude.{Option, Some, None, filter_map}
use Rattle.std.specs.List.{cons_option, enumerate_from}
use Rattle.mp_results.specs.Discords.{discord_at}
use Rattle.mp_nums.specs.declared.finds.Discord.{Discord}
use Rattle.mp_nums.specs.declared.nearest.Near.{Near}
use Rattle.mp_picks.specs.Picks.{first_of}
use Rattle.mp_results.specs.Best.{best_cmp}
use Rattle.mp_report.specs.Best.{best_of, best_with}

-- the best of these windows, the first of which starts there
abbrev pub best_from : ℕ → List (Option Near) → Option Discord
best_from start windows = first_of best_cmp (filter_map discord_at (enumerate_from start windows))

best_step : (window : Option Discord) (others : List Discord)
    → first_of best_cmp (cons_option window others) ≡ best_of window (first_of best_cmp others)
unfolding first_of
best_step None others = refl
best_step (Some window) others = refl

-- one more in front
pub best_more : (windows : List (Option Near)) (start : ℕ) (entry : Option Near) → start < length windows
    → entry ≡ get_or windows start None
    → best_with (start, entry) (best_from (suc start) (drop (suc start) windows))
    ≡ best_from start (drop start windows)
best_more windows start entry within e =
    ap (λ (x : Option Near). best_with (start, x) (best_from (suc start) (drop (suc start) windows))) e
    ∙ sym (ap (best_from start) (drop-cons windows start None within)
    ∙ best_step (discord_at (start, get_or windows start None))
    (filter_map discord_at (enumerate_from (start + 1) (drop (suc start) windows)))
    ∙ ap (λ (k : ℕ). best_with (start, get_or windows start None) (best_from k (drop (suc start) windows)))
    (let k : start + 1 ≡ suc start = omega arith in k))

-- of none
pub best_none : (windows : List (Option Near)) → None ≡ best_from (length windows) (drop (length windows) windows)
unfolding first_of
best_none windows = sym (ap (best_from (length windows)) (drop-length windows))
