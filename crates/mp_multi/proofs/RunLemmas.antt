-- Residues of several channels that move on, and rows that are passed over.
use Rattle.std.proofs.Common.{◌≡◌, ℕ, ◌+◌, ◌<◌, ◌≤◌, List, [], length, take, drop, sym, ap, ◌∙◌, arith, subst}
use Rattle.std.proofs.Common.{subst₂}
use Rattle.std.proofs.Common.{below_more, map, to_z, of_z, w32, FitsSigned, ℤ, pos, negsuc, inl, ◌+ℤ◌, ◌-ℤ◌}
use Rattle.std.specs.Prelude.{All, replicate, ◌≤ℤ◌}
use Rattle.std.proofs.lemmas.Int.{SFits-int_wrap, ints}
use Rattle.std.proofs.lemmas.List.{get_or-take, get_or-drop, length-take, length-drop, length-replicate}
use Rattle.std.proofs.lemmas.List.{get_or-replicate, get_or_default}
use Rattle.mp_defs.specs.Series.{Series}
use Rattle.mp_sums.specs.Sums.{square_sum}
use Rattle.mp_sums.specs.Residues.{residue, item, moved, IsChange, AreChanges}
use Rattle.mp_sums.specs.SumLaws.{sum_turned}
use Rattle.mp_sums.specs.ResidueLaws.{residues_move_on}
use Rattle.mp_scans.specs.Lanes.{AreLanes, IsAbove}
use Rattle.mp_scans.specs.declared.sizes.TheConstants.{ROWS}
use Rattle.mp_multi.specs.Blocks.{channels_of, AreResiduesAt, AreAbove, HasLaneAbove}
use Rattle.mp_multi.specs.Lanes.{IsLane, AreChannelResidues, AreFloors}
use Rattle.mp_multi.specs.LaneSums.{AreLeastSums}
use Rattle.mp_multi.proofs.LaneCounts.{handed_item}
use Rattle.mp_multi.proofs.LaneLaws.{lane_passes}
use Rattle.mp_multi.specs.Moving.{IsMoved}
use Rattle.mp_multi.specs.declared.blocks.Block.{Block}
use Rattle.mp_multi.specs.declared.blocks.Known.{Known}
use Rattle.mp_multi.specs.declared.blocks.Strip.{Strip}
use Rattle.mp_multi.specs.declared.moves.Moves.{Moves}
use Rattle.mp_multi.specs.declared.sizes.TheConstants.{WIDE}

-- ---- parts of lists

-- the part of a list that begins at a place
pub part_item : (v : List ℤ) (c n t : ℕ) → t < n → item (take n (drop c v)) t ≡ item v (c + t)
part_item v c n t lt = get_or-take n (drop c v) t (pos 0) lt ∙ get_or-drop c v t (pos 0)

pub part_lanes : (v : List ℤ) (c n : ℕ) → n ≡ 32 → c + 32 ≤ length v
    → ((t : ℕ) → t < 32 → FitsSigned w32 (item v (c + t))) → AreLanes (take n (drop c v))
part_lanes v c n long le fits = record {
  count = omega (arith, length-take n (drop c v), length-drop c v);
  fit = λ t lt. subst (FitsSigned w32) (sym (part_item v c n t (omega (arith, lt, long)))) (fits t lt);
}

pub difference_fits : (m : ℕ) (x : ℕ → ℤ) (start : ℕ) (es ss : List ℤ) → AreChanges m x start es ss → (k : ℕ)
    → k < length es → FitsSigned w32 (item es k)
difference_fits m x start es ss h k lt =
    subst (FitsSigned w32) (sym (h.each k lt).difference_is)
    (SFits-int_wrap w32 (x (start + k + m) -ℤ x (start + k)))

pub sum_fits : (m : ℕ) (x : ℕ → ℤ) (start : ℕ) (es ss : List ℤ) → AreChanges m x start es ss → (k : ℕ)
    → k < length es → FitsSigned w32 (item ss k)
sum_fits m x start es ss h k lt =
    subst (FitsSigned w32) (sym (h.each k lt).sum_is) (SFits-int_wrap w32 (x (start + k + m) +ℤ x (start + k)))

-- ---- residues that move on

-- the residue of the next row and column, by the change of the column first
turned_on : (m : ℕ) (x : ℕ → ℤ) (i i' : ℕ) (y : ℕ → ℤ) (j j' : ℕ) (e s e' s' : ℤ) → i' ≡ i + 1 → j' ≡ j + 1
    → IsChange m x i e s → IsChange m y j e' s'
    → moved (residue (square_sum m x i y j)) e' s' e s ≡ residue (square_sum m x i' y j')
turned_on m x i i' y j j' e s e' s' a b h k =
    ap (λ q. moved (residue q) e' s' e s) (sum_turned m x i y j) ∙ residues_move_on m y j x i e' s' e s k h
    ∙ ap residue (sum_turned m y (j + 1) x (i + 1) ∙ rw (a, b))

-- a lane of the next row
pub next_lane : (m : ℕ) (x : ℕ → ℤ) (row column p c t n : ℕ) (moves : Moves) (old new : ℤ)
    → IsMoved m x row column moves → p < ROWS → c + 32 ≤ WIDE → n ≡ 32 → t < 32
    → old ≡ residue (square_sum m x (row + p) x (column + c + t))
    → new ≡ moved old (item (take n (drop c moves.column_differences)) t) (item (take n (drop c moves.column_sums)) t)
    (item moves.row_differences p) (item moves.row_sums p)
    → new ≡ residue (square_sum m x (row + (p + 1)) x (column + (c + 1) + t))
next_lane m x row column p c t n moves old new h row_lt column_lt long lt is step =
    let es = moves.column_differences in
    let ss = moves.column_sums in
    let e = item moves.row_differences p in
    let s = item moves.row_sums p in
    step
    ∙ rw (is, part_item es c n t (omega (arith, lt, long)), part_item ss c n t (omega (arith, lt, long)))
    (turned_on m x (row + p) (row + (p + 1)) x (column + c + t) (column + (c + 1) + t) e s (item es (c + t))
    (item ss (c + t)) (omega arith) (omega arith) (h.rows.each p (omega (arith, row_lt, h.row_places)))
    (subst (λ j. IsChange m x j (item es (c + t)) (item ss (c + t))) (omega arith)
    (h.columns.each (c + t) (omega (arith, lt, column_lt, h.column_places)))))

-- ---- rows that are passed over

pub above_none : (strip : Strip) (known : Known) (from : ℕ) → AreAbove strip known from from
above_none strip known from = record { each = λ p t le lt. absurd (omega (arith, le, lt)) }

-- with one row more
pub above_more : (strip : Strip) (known : Known) (from q n : ℕ) (v : List ℤ) → n ≡ 32
    → AreAbove strip known from q
    → ((t : ℕ) → t < 32 → IsLane strip.block.plan.channels.m strip.block.plan.channels.k strip.block.plan.shift
    (channels_of strip.block.plan) (strip.block.row + q) (strip.block.column + (q + strip.offset) + t) (item v t))
    → ((t : ℕ) → t < 32
    → IsAbove (item known.rows q) (item (take n (drop (q + strip.offset) known.columns)) t) (item v t))
    → AreAbove strip known from (q + 1)
above_more strip known from q n v long before lanes here = record {
  each = λ p t le lt small.
      below_more (λ p. from ≤ p → HasLaneAbove strip.block.plan.channels.m strip.block.plan.channels.k
      strip.block.plan.shift (channels_of strip.block.plan) (strip.block.row + p)
      (strip.block.column + (p + strip.offset) + t) (item known.rows p) (item known.columns (p + strip.offset + t)))
      q (λ p less least. before.each p t least less small)
      (λ _. record {
        lane = item v t;
        is = lanes t small;
        above = subst (λ z. IsAbove (item known.rows q) z (item v t))
            (part_item known.columns (q + strip.offset) n t (omega (arith, small, long))) (here t small);
      })
      p lt le;
}

-- ---- lanes

-- what stands for moves past the last
abbrev pub no_moves : Moves
no_moves = record { row_differences = []; row_sums = []; column_differences = []; column_sums = [] }

floor_is : (n c : ℕ) → n ≤ 8 → c < n → item (take n (replicate 8 (negsuc 2147483646))) c ≡ negsuc 2147483646
floor_is n c few lt =
    get_or-take n (replicate 8 (negsuc 2147483646)) c (pos 0) lt
    ∙ get_or-replicate 8 c (negsuc 2147483646) (pos 0) (omega (arith, lt, few))

-- no channel has a floor
pub no_floors : (m : ℕ) (channels : List Series) (i j n : ℕ) → n ≡ length channels → n ≤ 8
    → AreFloors m channels i j (take n (replicate 8 (negsuc 2147483646)))
no_floors m channels i j n count few =
    let long : length (take n (replicate 8 (negsuc 2147483646))) ≡ n =
    omega (arith, few, length-take n (replicate 8 (negsuc 2147483646)), length-replicate 8 (negsuc 2147483646)) in
    record {
      count = long ∙ count;
      least = λ c lt. subst (λ z. negsuc 2147483646 ≤ℤ z) (sym (floor_is n c few (omega (arith, lt, long))))
          (omega (arith, ints));
      each = λ c t lt small. inl (floor_is n c few (omega (arith, lt, long)));
    }

pub lane_as : (m k shift : ℕ) (channels : List Series) (i j : ℕ) (old new : ℤ) → old ≡ new
    → IsLane m k shift channels i j old → IsLane m k shift channels i j new
lane_as m k shift channels i j old new e h = subst (IsLane m k shift channels i j) e h

-- each channel has lanes
pub all_lanes : (m shift : ℕ) (channels : List Series) (i j : ℕ) (residues : List (List ℤ))
    → AreChannelResidues m shift channels i j residues → All AreLanes residues
all_lanes m shift channels i j residues h = λ k d lt.
    subst AreLanes (get_or_default residues k [] d lt) (h.each k lt).lanes

pub residues_as : (block : Block) (p c c' : ℕ) (residues : List (List ℤ)) → c ≡ c' → AreResiduesAt block p c residues
    → AreResiduesAt block p c' residues
residues_as block p c c' residues e h = subst (λ n. AreResiduesAt block p n residues) e h

pub lane_at : (m k shift : ℕ) (channels : List Series) (i i' j j' : ℕ) (lane lane' : ℤ) → i' ≡ i → j' ≡ j
    → lane' ≡ lane → IsLane m k shift channels i j lane → IsLane m k shift channels i' j' lane'
lane_at m k shift channels i i' j j' lane lane' e f g h =
    subst₂ (λ r c. IsLane m k shift channels r c lane') (sym e) (sym f)
    (subst (IsLane m k shift channels i j) (sym g) h)

-- the least sums of channels without floors are lanes of their windows
pub least_are_lanes : (m k shift i j t : ℕ) (channels : List Series) (residues : List (List ℤ)) (sums : List ℤ)
    → length residues ≤ 8
    → AreLeastSums k (length residues) residues (take (length residues) (replicate 8 (negsuc 2147483646))) sums
    → AreChannelResidues m shift channels i j residues → t < 32
    → IsLane m k shift channels i (j + t) (item (map (to_z w32) (map (of_z w32) sums)) t)
least_are_lanes m k shift i j t channels residues sums few least h lt =
    let floors : List ℤ = take (length residues) (replicate 8 (negsuc 2147483646)) in
    lane_as m k shift channels i (j + t) (item sums t) (item (map (to_z w32) (map (of_z w32) sums)) t)
    (sym (handed_item sums t least.lanes lt))
    (lane_passes m k shift i j t channels residues floors sums h
    (no_floors m channels i j (length residues) h.count few)
    (subst (λ n. AreLeastSums k n residues floors sums) h.count least) lt)
