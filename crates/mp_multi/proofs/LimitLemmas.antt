-- What the limits of windows tell of their pairs.
use Rattle.std.proofs.Common.{◌≡◌, ◌≢◌, ℕ, ◌+◌, ◌-◌, ◌*◌, ◌<◌, ◌≤◌, ◌⊎◌, inl, inr, List, length, set, Bool}
use Rattle.std.proofs.Common.{sym, arith, rules, subst, subst₂, ◌∙◌, pos, w32, to_z, of_z, FitsSigned}
use Rattle.std.specs.Prelude.{ℤ, negsuc, Option, replicate}
use Rattle.std.proofs.lemmas.Int.{to_z-of_z, ints}
use Rattle.std.proofs.lemmas.List.{length-set, length-replicate, get_or-replicate, get_or-set_same, get_or-set_other}
use Rattle.std.proofs.lemmas.Bool.{cases_eq}
use Rattle.mp_nums.specs.declared.nearest.Near.{Near}
use Rattle.mp_nums.specs.Listed.{Listed}
use Rattle.mp_defs.specs.Series.{Series}
use Rattle.mp_partial.specs.Values.{Column}
use Rattle.mp_partial.specs.PatchingLaws.{either_below}
use Rattle.mp_sums.specs.declared.limits.Limit.{Limit}
use Rattle.mp_sums.specs.declared.limits.Limit.TheVariants.{Every, Within, Below}
use Rattle.mp_sums.specs.Limits.{IsWithin, IsBeyond}
use Rattle.mp_sums.specs.Residues.{item, residue_limit}
use Rattle.mp_scans.specs.Limiting.{first_row, first_on}
use Rattle.mp_scans.specs.Offering.{only}
use Rattle.mp_scans.specs.Slots.{Covers}
use Rattle.mp_scans.specs.declared.sizes.TheConstants.{ROWS}
use Rattle.mp_multi.specs.Blocks.{channels_of, AreScannedIn, in_strip, IsLimitIn, AreRowLimits, AreColumnLimits}
use Rattle.mp_multi.specs.Blocks.{AreLimits, AreLimitsAt}
use Rattle.mp_multi.specs.Blocks.{HasLaneAbove, AreAbove, AreQuiet, AreFit}
use Rattle.mp_multi.specs.Lanes.{IsLane, IsSlotLimit}
use Rattle.mp_multi.specs.declared.blocks.Block.{Block}
use Rattle.mp_multi.specs.declared.blocks.Known.{Known}
use Rattle.mp_multi.specs.declared.blocks.Strip.{Strip}
use Rattle.mp_multi.specs.declared.sizes.TheConstants.{WIDE}
use Rattle.mp_multi.proofs.BlockPairs.{inside, row_is, column_is}
use Rattle.mp_multi.proofs.PairScans.{scan_covers, scan_quiet}
use Rattle.mp_multi.proofs.ScanLemmas.{value_symmetric}

-- what is handed on is the same
pub handed_on : (P : ℤ → Type 0) (r : ℤ) → FitsSigned w32 r → P r → P (to_z w32 (of_z w32 r))
handed_on P r fits h = subst P (sym (to_z-of_z w32 r fits)) h

-- ---- one limit

within_or_beyond : (limit : Limit) (d : ℕ) → IsWithin limit d ⊎ IsBeyond limit d
within_or_beyond Every d = inl tt
within_or_beyond (Within most) d = elim (either_below most.0 d) [ inl lt ↦ inr lt | inr le ↦ inl le ]
within_or_beyond (Below end) d = either_below d end.0

pub limit_holds : (m k shift : ℕ) (channels : List Series) (slot : Option Near) (i first : ℕ) (limit : Limit) (z : ℤ)
    → FitsSigned w32 z → z ≡ residue_limit (k * m) shift limit
    → ((index dist : ℕ) → first ≤ index → IsBeyond limit dist → Covers slot index dist)
    → IsSlotLimit m k shift channels slot i first z
limit_holds m k shift channels slot i first limit z fits e covers = record {
  fits = fits;
  above = λ j v lane le is value lt. elim (within_or_beyond limit v) [
    | inl within ↦ absurd (omega (arith, ints, is.passes limit v value within, e, lt))
    | inr beyond ↦ covers j v le beyond
  ];
}

lane_symmetric : (m k shift : ℕ) (channels : List Series) (i j : ℕ) (lane : ℤ) → IsLane m k shift channels i j lane
    → IsLane m k shift channels j i lane
lane_symmetric m k shift channels i j lane h = record {
  passes = λ limit v value within. h.passes limit v (value_symmetric m k channels i j ∙ value) within;
}

-- whatever is offered, a limit stays one
limit_stays : (block : Block) (pairs : ℕ → ℕ → Bool) (old new : Listed (Option Near)) (i first : ℕ) (z : ℤ)
    → length old.items ≡ block.windows → i < block.windows → AreScannedIn block pairs old new
    → IsLimitIn block old.items i first z → IsLimitIn block new.items i first z
limit_stays block pairs old new i first z long lt scan h = record {
  fits = h.fits;
  above = λ j v lane le is value above.
      scan_covers block.plan.channels.m block.plan.channels.k block.plan.channels.list.now pairs old new i j v
      (long ∙ block.all_windows) (omega (arith, lt, block.all_windows)) scan (h.above j v lane le is value above);
}

-- what is known of the windows from one on is known of later ones
limit_later : (block : Block) (slots : Column) (i first later : ℕ) (z : ℤ) → first ≤ later
    → IsLimitIn block slots i first z → IsLimitIn block slots i later z
limit_later block slots i first later z order h = record {
  fits = h.fits;
  above = λ j v lane le. h.above j v lane (omega (arith, le, order));
}

-- ---- limits of all rows and columns

pub limits_stay : (block : Block) (pairs : ℕ → ℕ → Bool) (old new : Listed (Option Near)) (first : ℕ → ℕ)
    (known : Known) → length old.items ≡ block.windows → AreScannedIn block pairs old new
    → AreLimits block first known old.items → AreLimits block first known new.items
limits_stay block pairs old new first known long scan h = record {
  rows = record {
    places = h.rows.places;
    each = λ p lt. limit_stays block pairs old new (block.row + p) (block.column + p) _ long
        (omega (arith, lt, block.are_rows)) scan (h.rows.each p lt);
  };
  columns = record {
    places = h.columns.places;
    fit = h.columns.fit;
    each = λ c lt within. limit_stays block pairs old new (block.column + c) (block.row + first c) _ long within scan
        (h.columns.each c lt within);
  };
}

pub columns_later : (block : Block) (first later : ℕ → ℕ) (limits : List ℤ) (slots : Column)
    → ((c : ℕ) → first c ≤ later c) → AreColumnLimits block first limits slots
    → AreColumnLimits block later limits slots
columns_later block first later limits slots order h = record {
  places = h.places;
  fit = h.fit;
  each = λ c lt within. limit_later block slots (block.column + c) (block.row + first c) (block.row + later c) _
      (omega (arith, order c)) (h.each c lt within);
}

pub limits_later : (block : Block) (first later : ℕ → ℕ) (known : Known) (slots : Column)
    → ((c : ℕ) → first c ≤ later c) → AreLimits block first known slots → AreLimits block later known slots
limits_later block first later known slots order h = record {
  rows = h.rows;
  columns = columns_later block first later known.columns slots order h.columns;
}

-- ---- the rows that are still offered to a column

pub row_is_first : (offset p c : ℕ) → p + offset ≤ c → c < p + offset + 32 → p ≡ first_row offset p c
row_is_first offset p c le lt = omega (arith, le, lt)

rows_go_on : (offset p next c : ℕ) → p ≤ next → first_row offset p c ≤ first_row offset next c
rows_go_on offset p next c le = omega (arith, le)

-- on one strip of so many that are left, and then on one fewer
pub first_of_strip : (strips c : ℕ) → 1 ≤ strips → first_on (strips * 32) c ≤ first_row ((strips - 1) * 32) 0 c
first_of_strip strips c some = omega (arith, some)

pub first_behind_strip : (strips end c : ℕ) → first_row (strips * 32) end c ≤ first_on (strips * 32) c
first_behind_strip strips end c = omega arith

pub limits_at : (strip : Strip) (p next : ℕ) (known : Known) (slots : Column) → p ≤ next
    → AreLimitsAt strip p known slots → AreLimitsAt strip next known slots
limits_at strip p next known slots le h =
    limits_later strip.block (first_row strip.offset p) (first_row strip.offset next) known slots
    (λ c. rows_go_on strip.offset p next c le) h

pub limits_fit : (block : Block) (first : ℕ → ℕ) (known : Known) (slots : Column)
    → AreLimits block first known slots → AreFit known
limits_fit block first known slots h = record {
  row_places = h.rows.places;
  column_places = h.columns.places;
  columns = h.columns.fit;
}

-- one place has another number
pub set_at : (P : ℕ → ℤ → Type 0) (v : List ℤ) (n : ℕ) (z : ℤ) → n < length v → P n z → (q : ℕ)
    → (q ≢ n → P q (item v q)) → P q (item (set v n z) q)
set_at P v n z lt here q other = elim (cases_eq q n) [
  | inl same ↦ subst (λ r. P r (item (set v n z) r)) (sym same)
      (subst (P n) (sym (get_or-set_same v n z (pos 0) lt)) here)
  | inr ne ↦ subst (P q) (sym (get_or-set_other v n q z (pos 0) ne)) (other ne)
]

pub row_anew : (block : Block) (rows : List ℤ) (slots : Column) (p : ℕ) (z : ℤ) → p < ROWS
    → AreRowLimits block rows slots → IsLimitIn block slots (block.row + p) (block.column + p) z
    → AreRowLimits block (set rows p (to_z w32 (of_z w32 z))) slots
row_anew block rows slots p z lt h here = record {
  places = length-set rows p _ ∙ h.places;
  each = λ q below. set_at (λ r y. IsLimitIn block slots (block.row + r) (block.column + r) y) rows p _
      (omega (arith, lt, h.places))
      (handed_on (IsLimitIn block slots (block.row + p) (block.column + p)) z here.fits here) q (λ _. h.each q below);
}

pub column_anew : (block : Block) (first : ℕ → ℕ) (columns : List ℤ) (slots : Column) (c from : ℕ) (z : ℤ) → c < WIDE
    → from ≡ block.row + first c → AreColumnLimits block first columns slots
    → IsLimitIn block slots (block.column + c) from z
    → AreColumnLimits block first (set columns c (to_z w32 (of_z w32 z))) slots
column_anew block first columns slots c from z lt at h anew =
    let here = subst (λ n. IsLimitIn block slots (block.column + c) n z) at anew in
    record {
      places = length-set columns c _ ∙ h.places;
      fit = λ q below. set_at (λ _ y. FitsSigned w32 y) columns c _ (omega (arith, lt, h.places))
          (handed_on (FitsSigned w32) z here.fits here.fits) q (λ _. h.fit q below);
      each = λ q below within. set_at (λ r y. IsLimitIn block slots (block.column + r) (block.row + first r) y) columns
          c _ (omega (arith, lt, h.places))
          (handed_on (IsLimitIn block slots (block.column + c) (block.row + first c)) z here.fits here) q
          (λ _. h.each q below within);
    }

-- ---- pairs that give nothing

-- whose lane is above both limits
pub quiet_above : (block : Block) (slots : Column) (i j first from : ℕ) (row column : ℤ) → first ≤ j → from ≤ i
    → IsLimitIn block slots i first row → IsLimitIn block slots j from column
    → HasLaneAbove block.plan.channels.m block.plan.channels.k block.plan.shift (channels_of block.plan) i j row column
    → AreQuiet block slots i j
quiet_above block slots i j first from row column le le' h g lane = λ v is.
    let m = block.plan.channels.m in
    let k = block.plan.channels.k in
    let all = channels_of block.plan in (
      h.above j v lane.lane (omega (arith, le)) lane.is is lane.above.0,
      g.above i v lane.lane (omega (arith, le')) (lane_symmetric m k block.plan.shift all i j lane.lane lane.is)
          (value_symmetric m k all j i ∙ is) lane.above.1,
    )

-- pairs of rows that are passed over
pub strip_scanned : (strip : Strip) (known : Known) (into : Listed (Option Near)) (from end : ℕ) → end ≤ strip.end
    → length into.items ≡ strip.block.windows → AreLimitsAt strip from known into.items
    → AreAbove strip known from end → AreScannedIn strip.block (in_strip strip from end) into into
strip_scanned strip known into from end within long h above =
    let b = strip.block in
    scan_quiet b.plan.channels.m b.plan.channels.k b.plan.channels.list.now (in_strip strip from end) into
    (long ∙ b.all_windows)
    (λ i j v lt lt' is found.
    let d : ℕ = b.column - b.row + strip.offset in
    let at = inside d (d + strip.width) (b.row + from) (b.row + end) i j is in
    let p : ℕ = i - b.row in
    let t : ℕ = j - (b.column + (p + strip.offset)) in
    let after : from ≤ p = omega (arith, at.above) in
    let before : p < end = omega (arith, at.above, at.below) in
    let small : t < 32 = omega (arith, at.left, at.right, at.above, b.order, strip.narrow) in
    let row_is : b.row + p ≡ i = omega (arith, at.above) in
    let column_is : b.column + (p + strip.offset) + t ≡ j = omega (arith, at.left, at.above, b.order) in
    let below : p < b.rows = omega (arith, before, within, strip.rows) in
    let place : p + strip.offset + t < WIDE = omega (arith, below, b.few_rows, strip.diagonals, small) in
    let start : ℕ = b.row + first_row strip.offset from (p + strip.offset + t) in
    let column : IsLimitIn b into.items (b.column + (p + strip.offset) + t) start
    (item known.columns (p + strip.offset + t)) =
    subst (λ n. IsLimitIn b into.items n start (item known.columns (p + strip.offset + t))) (omega arith)
    (h.columns.each (p + strip.offset + t) place (omega (arith, column_is, lt', b.all_windows))) in
    (subst₂ (AreQuiet b into.items) row_is column_is
    (quiet_above b into.items (b.row + p) (b.column + (p + strip.offset) + t) (b.column + p) start _ _ (omega arith)
    (omega (arith, after, small)) (h.rows.each p below) column
    (above.each p t after before small))) v found)

-- one pair
pub pair_scanned : (block : Block) (i j : ℕ) (into : Listed (Option Near)) → length into.items ≡ block.windows
    → AreQuiet block into.items i j → AreScannedIn block (only i j) into into
pair_scanned block i j into long quiet =
    scan_quiet block.plan.channels.m block.plan.channels.k block.plan.channels.list.now (only i j) into
    (long ∙ block.all_windows)
    (λ r c v _ _ is found.
    (subst₂ (AreQuiet block into.items) (row_is i j r c is) (column_is i j r c is) quiet) v found)

-- limits that no lane is within
pub never_fit : (kept : List (Option ℕ)) → AreFit (record {
  rows = replicate 1024 (negsuc 2147483647);
  columns = replicate 1568 (negsuc 2147483647);
  kept = kept;
})
never_fit kept = record {
  row_places = length-replicate 1024 (negsuc 2147483647);
  column_places = length-replicate 1568 (negsuc 2147483647);
  columns = λ c lt. subst (FitsSigned w32) (sym (get_or-replicate 1568 c (negsuc 2147483647) (pos 0) lt))
      (search rules);
}
