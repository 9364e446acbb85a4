-- The windows that have an entry, from the last to the first.
use Rattle.std.proofs.Common.{◌≡◌, ℕ, suc, ◌+◌, ◌-◌, ◌*◌, ◌≤◌, List, ◌∷◌, get_or, map, refl, sym, ap, ◌∙◌, arith}
use Rattle.std.specs.Prelude.{Option, Some, None, filter_map}
use Rattle.std.specs.List.{enumerate_from, range_with_len}
use Rattle.mp_nums.specs.declared.finds.Discord.{Discord}
use Rattle.mp_nums.specs.declared.nearest.Near.{Near}
use Rattle.mp_partial.specs.Values.{Column}
use Rattle.mp_picks.specs.Picks.{first_of}
use Rattle.mp_results.specs.Best.{best_cmp}
use Rattle.mp_results.specs.Discords.{discord_at, discord_cmp}
use Rattle.mp_pan.specs.declared.extremes.Extremes.{Extremes}
use Rattle.mp_pan.specs.Extremes.{extremes_of, extremes_with}
use Rattle.mp_pan.specs.Spans.{column_at}

-- of n windows from i on, those that have an entry
abbrev pub entries_from : (ℕ → Option Near) → ℕ → ℕ → List Discord
entries_from f i n = filter_map discord_at (enumerate_from i (map f (range_with_len i n)))

abbrev pub extremes_in : List Discord → Extremes
extremes_in windows = record { best = first_of best_cmp windows; discord = first_of discord_cmp windows }

abbrev pub extremes_from : (ℕ → Option Near) → ℕ → ℕ → Extremes
extremes_from f i n = extremes_in (entries_from f i n)

with_one : (i : ℕ) (slot : Option Near) (later : List (ℕ × Option Near))
    → extremes_in (filter_map discord_at ((i, slot) ∷ later))
    ≡ extremes_with i slot (extremes_in (filter_map discord_at later))
unfolding first_of
with_one i None later = refl
with_one i (Some near) later = refl

with_earlier : (f : ℕ → Option Near) (i n : ℕ)
    → extremes_from f i (suc n) ≡ extremes_with i (f i) (extremes_from f (i + 1) n)
with_earlier f i n = with_one i (f i) (enumerate_from (i + 1) (map f (range_with_len (i + 1) n)))

no_extremes : (f : ℕ → Option Near) (i n : ℕ) → n ≡ 0 → extremes_from f i n ≡ record { best = None; discord = None }
unfolding first_of
no_extremes f i n e = ap (extremes_from f i) e

-- the slots of a length
abbrev pub slots_of : ℕ → Column → ℕ → Option Near
slots_of k slots n = get_or slots (4 * n + k) None

pub none_yet : (w k i : ℕ) (slots : Column) → i ≡ w
    → record { best = None; discord = None } ≡ extremes_from (slots_of k slots) i (w - i)
none_yet w k i slots e = sym (no_extremes (slots_of k slots) i (w - i) (omega (arith, e)))

pub one_earlier : (w k i start : ℕ) (slots : Column) (slot : Option Near) (before after : Extremes) → i ≤ w
    → start + 1 ≡ i → slot ≡ slots_of k slots start → before ≡ extremes_from (slots_of k slots) i (w - i)
    → after ≡ extremes_with start slot before → after ≡ extremes_from (slots_of k slots) start (w - start)
one_earlier w k i start slots slot before after le e is h f =
    let more : suc (w - i) ≡ w - start = omega (arith, le, e) in
    f ∙ ap (λ s. extremes_with start s before) is
    ∙ ap (extremes_with start (slots_of k slots start))
    (h ∙ ap (λ n. extremes_from (slots_of k slots) n (w - i)) (sym e))
    ∙ sym (with_earlier (slots_of k slots) start (w - i)) ∙ ap (extremes_from (slots_of k slots) start) more

pub all_windows : (w k i : ℕ) (slots : Column) (found : Extremes) → i ≡ 0
    → found ≡ extremes_from (slots_of k slots) i (w - i) → found ≡ extremes_of (column_at w k slots)
all_windows w k i slots found e h =
    let all : w - i ≡ w = omega (arith, e) in
    h ∙ ap (λ n. extremes_from (slots_of k slots) n (w - i)) e ∙ ap (extremes_from (slots_of k slots) 0) all
