-- The corrected arc curve: arcs as a share of those that would pass over a place by chance. FLUSS; the ends are own.
use Rattle.std.specs.Prelude.{ℕ, ◌+◌, ◌-◌, ◌*◌, Bool, ◌==◌, ◌||◌, nat_le, nat_lt, if◌then◌else◌, List, map, length}
use Rattle.std.specs.Prelude.{slice_index}
use Rattle.std.specs.List.{range_with_len}
use Rattle.mp_nums.specs.declared.ratios.Ratio.{Ratio}

-- a fraction by its two numbers, as it stands
abbrev pub parts_of : Ratio → ℕ × ℕ
parts_of ratio = (ratio.num, ratio.den)

abbrev pub whole : ℕ × ℕ
whole = (1, 1)

-- place t of w places is too near to an end for its arcs to tell anything
abbrev pub is_end : ℕ → ℕ → ℕ → Bool
is_end w margin t = t == 0 || nat_lt t margin || nat_le w (t + margin)

-- the arcs over t by their ideal number there, a parabola over the w places whose height is half of their number
abbrev pub share : ℕ → ℕ → ℕ → ℕ × ℕ
share arcs w t = (arcs * w, 2 * t * (w - t))

-- one, where it isn't below
abbrev pub capped : ℕ × ℕ → ℕ × ℕ
capped (num, den) = if nat_lt num den then (num, den) else whole

abbrev pub value_at : ℕ → ℕ → ℕ → ℕ → ℕ × ℕ
value_at arcs w margin t = if is_end w margin t then whole else capped (share arcs w t)

-- the value at each place, of windows of m samples, with a margin of so many window lengths
abbrev pub curve_of : List ℕ → ℕ → ℕ → List (ℕ × ℕ)
curve_of arcs m factor =
    map (λ t. value_at (slice_index arcs t) (length arcs) (factor * m) t) (range_with_len 0 (length arcs))
