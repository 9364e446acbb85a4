-- Rows that are passed over.
use Rattle.std.proofs.Common.{◌≡◌, ℕ, ◌+◌, ◌<◌, ◌≤◌, List, length, take, drop, sym, ap, ◌∙◌, arith, subst, subst₂}
use Rattle.std.proofs.Common.{below_more, map, to_z, of_z, w32, FitsSigned, ℤ, pos, ◌+ℤ◌, ◌-ℤ◌}
use Rattle.std.proofs.lemmas.Int.{SFits-int_wrap}
use Rattle.std.proofs.lemmas.List.{get_or-take, get_or-drop, length-take, length-drop}
use Rattle.mp_sums.specs.Sums.{square_sum}
use Rattle.mp_sums.specs.Residues.{residue, item, moved, IsChange, AreChanges}
use Rattle.mp_sums.specs.SumLaws.{sum_turned}
use Rattle.mp_sums.specs.ResidueLaws.{residues_move_on}
use Rattle.mp_scans.specs.declared.blocks.Block.{Block}
use Rattle.mp_scans.specs.declared.blocks.Strip.{Strip}
use Rattle.mp_scans.specs.Lanes.{AreLanes, IsAbove}
use Rattle.mp_scans.specs.Blocks.{rounded_rows, rounded_columns, residue_in, AreResiduesAt, AreResiduesOf, AreAbove}
use Rattle.mp_scans.proofs.LaneLemmas.{long, passed_item}

pub residue_fits : (block : Block) (k c : ℕ) → FitsSigned w32 (residue_in block k c)
residue_fits block k c =
    SFits-int_wrap w32 (pos (square_sum block.grid.m (rounded_rows block) (block.row + k) (rounded_columns block)
    (block.column + c)) -ℤ pos 2147483647)

pub residue_lanes : (block : Block) (k c : ℕ) (v : List ℤ) → AreResiduesAt block k c v → AreLanes v
residue_lanes block k c v h = record {
  count = h.count;
  fit = λ t lt. subst (FitsSigned w32) (sym (h.each t lt)) (residue_fits block k (c + t));
}

-- the part of a list that begins at a place
pub part_item : (v : List ℤ) (c n t : ℕ) → t < n → item (take n (drop c v)) t ≡ item v (c + t)
part_item v c n t lt = get_or-take n (drop c v) t (pos 0) lt ∙ get_or-drop c v t (pos 0)

pub part_lanes : (v : List ℤ) (c n : ℕ) → n ≡ 32 → c + 32 ≤ length v
    → ((t : ℕ) → t < 32 → FitsSigned w32 (item v (c + t))) → AreLanes (take n (drop c v))
part_lanes v c n long le fits = record {
  count = omega (arith, length-take n (drop c v), length-drop c v);
  fit = λ t lt. subst (FitsSigned w32) (sym (part_item v c n t (omega (arith, lt, long)))) (fits t lt);
}

pub difference_fits : (m : ℕ) (x : ℕ → ℤ) (start : ℕ) (es ss : List ℤ) → AreChanges m x start es ss → (k : ℕ)
    → k < length es → FitsSigned w32 (item es k)
difference_fits m x start es ss h k lt =
    subst (FitsSigned w32) (sym (h.each k lt).difference_is)
    (SFits-int_wrap w32 (x (start + k + m) -ℤ x (start + k)))

pub sum_fits : (m : ℕ) (x : ℕ → ℤ) (start : ℕ) (es ss : List ℤ) → AreChanges m x start es ss → (k : ℕ)
    → k < length es → FitsSigned w32 (item ss k)
sum_fits m x start es ss h k lt =
    subst (FitsSigned w32) (sym (h.each k lt).sum_is) (SFits-int_wrap w32 (x (start + k + m) +ℤ x (start + k)))

pub residues_as : (block : Block) (k k' c c' : ℕ) (v : List ℤ) → k ≡ k' → c ≡ c' → AreResiduesAt block k c v
    → AreResiduesAt block k' c' v
residues_as block k k' c c' v e f h = subst₂ (λ p q. AreResiduesAt block p q v) e f h

-- residues that were handed on
pub passed_residues : (block : Block) (k c : ℕ) (v : List ℤ) → AreResiduesAt block k c v
    → AreResiduesAt block k c (map (to_z w32) (map (of_z w32) v))
passed_residues block k c v h = record {
  count = long v ∙ h.count;
  each = λ t lt.
      passed_item v t (omega (arith, lt, h.count)) ((residue_lanes block k c v h).fit t lt) ∙ h.each t lt;
}

-- the residue of the next row and column, by the change of the column first
turned_on : (m : ℕ) (x : ℕ → ℤ) (i i' : ℕ) (y : ℕ → ℤ) (j j' : ℕ) (e s e' s' : ℤ) → i' ≡ i + 1 → j' ≡ j + 1
    → IsChange m x i e s → IsChange m y j e' s'
    → moved (residue (square_sum m x i y j)) e' s' e s ≡ residue (square_sum m x i' y j')
turned_on m x i i' y j j' e s e' s' a b h k =
    ap (λ q. moved (residue q) e' s' e s) (sum_turned m x i y j) ∙ residues_move_on m y j x i e' s' e s k h
    ∙ ap residue (sum_turned m y (j + 1) x (i + 1) ∙ rw (a, b))

-- the residues of the next row
pub next_residues : (block : Block) (k c n : ℕ) (v new : List ℤ) → k < length block.rows.differences.now
    → c + 32 ≤ length block.columns.differences.now → n ≡ 32 → AreResiduesAt block k c v → AreLanes new
    → ((t : ℕ) → t < 32 → item new t ≡ moved (item v t) (item (take n (drop c block.columns.differences.now)) t)
    (item (take n (drop c block.columns.sums.now)) t) (item block.rows.differences.now k) (item block.rows.sums.now k))
    → AreResiduesAt block (k + 1) (c + 1) new
next_residues block k c n v new row columns long h lanes step = record {
  count = lanes.count;
  each = λ t lt.
      let es = block.columns.differences.now in
      let ss = block.columns.sums.now in
      let e = item block.rows.differences.now k in
      let s = item block.rows.sums.now k in
      step t lt
      ∙ rw (h.each t lt, part_item es c n t (omega (arith, lt, long)), part_item ss c n t (omega (arith, lt, long)))
      (turned_on block.grid.m (rounded_rows block) (block.row + k) (block.row + (k + 1)) (rounded_columns block)
      (block.column + (c + t)) (block.column + (c + 1 + t)) e s (item es (c + t)) (item ss (c + t)) (omega arith)
      (omega arith) (block.row_changes.each k row) (block.column_changes.each (c + t) (omega (arith, lt, columns))));
}

pub above_none : (strip : Strip) (rows columns : List ℤ) (from : ℕ) → AreAbove strip rows columns from from
above_none strip rows columns from = record { each = λ p t le lt. absurd (omega (arith, le, lt)) }

-- with one row more
pub above_more : (strip : Strip) (rows columns : List ℤ) (from q n : ℕ) (v : List ℤ) → n ≡ 32
    → AreAbove strip rows columns from q → AreResiduesOf strip q v
    → ((t : ℕ) → t < 32
    → IsAbove (item rows q) (item (take n (drop (q + strip.offset) columns)) t) (item v t))
    → AreAbove strip rows columns from (q + 1)
above_more strip rows columns from q n v long before h here = record {
  each = λ p t le lt small.
      below_more (λ p. from ≤ p → IsAbove (item rows p) (item columns (p + strip.offset + t))
      (residue_in strip.block p (p + strip.offset + t))) q (λ p less least. before.each p t least less small)
      (λ _. subst₂ (IsAbove (item rows q))
      (part_item columns (q + strip.offset) n t (omega (arith, small, long))) (h.each t small) (here t small))
      p lt le;
}
