-- Blocks of pairs that are passed over, and what scans of blocks give together.
use Rattle.std.proofs.Common.{◌≡◌, ℕ, zero, suc, ◌+◌, ◌-◌, ◌*◌, ◌<◌, ◌≤◌, List, length, get_or, map, min}
use Rattle.std.proofs.Common.{max, Bool}
use Rattle.std.proofs.Common.{ap, ◌∙◌, sym, subst, arith, inl, refl}
use Rattle.std.specs.Prelude.{Option, Some, None, IfSome, IfNone, ◌||◌, ◌^◌}
use Rattle.std.specs.Option.{option_map}
use Rattle.mp_nums.specs.declared.nearest.Sq.{Sq}
use Rattle.std.proofs.lemmas.Bool.Decides.{nat_tests}
use Rattle.mp_nums.specs.declared.nearest.Near.{Near}
use Rattle.mp_nums.specs.Listed.{Listed}
use Rattle.mp_defs.specs.Series.{series_of}
use Rattle.mp_results.specs.Multi.{pair_value}
use Rattle.mp_scans.specs.Offering.{only, in_block}
use Rattle.mp_scans.specs.Slots.{Covers}
use Rattle.mp_skips.specs.declared.sums.Units.{Units}
use Rattle.mp_skips.specs.declared.sums.TheConstants.{NO_NEED}
use Rattle.mp_skips.specs.Sums.{number_in}
use Rattle.mp_multi.specs.Blocks.{AreScannedBy}
use Rattle.mp_multi.specs.Skips.{AreFar, IsWindowNeed, IsNeedOfAll, AreGroupNeeds}
use Rattle.mp_multi.specs.Tiling.{window_count}
use Rattle.mp_multi.specs.declared.plans.MultiPlan.{MultiPlan}
use Rattle.mp_multi.proofs.BlockPairs.{inside, no_pairs, rows_next}
use Rattle.mp_multi.proofs.NeedLemmas.{need_more}
use Rattle.mp_multi.proofs.PairScans.{scan_quiet, scan_covers, scan_then, scan_none}
use Rattle.mp_multi.proofs.ScanLemmas.{value_symmetric}

-- slots of the channels' windows
abbrev Slots : Type 0
Slots = Listed (Option Near)

-- there is a slot for each window
abbrev pub HasWindows : MultiPlan → Slots → Type 0
HasWindows plan slots = length slots.items ≡ window_count plan.channels.m plan.channels.list.now

-- ---- needs stay good

module _ (plan : MultiPlan) (units : Units) (pairs : ℕ → ℕ → Bool) (old new : Slots) (long : HasWindows plan old)
    (scan : AreScannedBy plan pairs old new) where
  pub need_stays : (first window need : ℕ) → IsWindowNeed plan units old.items first window need
      → IsWindowNeed plan units new.items first window need
  need_stays first window need h = record {
    nothing = λ other v lt behind value small reach.
        scan_covers plan.channels.m plan.channels.k plan.channels.list.now pairs old new window other v long lt scan
        (h.nothing other v lt behind value small reach);
  }

  pub needs_stay : (first window n need : ℕ) → IsNeedOfAll plan units old.items first window n need
      → IsNeedOfAll plan units new.items first window n need
  needs_stay first window n need h = record { each = λ r lt. need_stays first (window + r) need (h.each r lt) }

  pub group_needs_stay : (first group n : ℕ) (needs : List ℕ) → AreGroupNeeds plan units old.items first group n needs
      → AreGroupNeeds plan units new.items first group n needs
  group_needs_stay first group n needs h = record {
    each = λ g lt. needs_stay first (8 * (group + g)) (8 + 8 * units.eights) (number_in needs g) (h.each g lt);
    small = h.small;
  }

-- needs of windows to which others from one on are offered do where later ones are
pub needs_later : (plan : MultiPlan) (units : Units) (slots : Slots) (first later window n need : ℕ) → first ≤ later
    → IsNeedOfAll plan units slots.items first window n need
    → IsNeedOfAll plan units slots.items later window n need
needs_later plan units slots first later window n need le h = record {
  each = λ r lt. record {
    nothing = λ other v there behind. (h.each r lt).nothing other v there (omega (arith, behind, le));
  };
}

pub group_needs_later : (plan : MultiPlan) (units : Units) (slots : Slots) (first later group n : ℕ) (needs : List ℕ)
    → first ≤ later → AreGroupNeeds plan units slots.items first group n needs
    → AreGroupNeeds plan units slots.items later group n needs
group_needs_later plan units slots first later group n needs le h = record {
  each = λ g lt. needs_later plan units slots first later (8 * (group + g)) (8 + 8 * units.eights) (number_in needs g)
      le
      (h.each g lt);
  small = h.small;
}

-- a greater one does too
pub needs_more : (plan : MultiPlan) (units : Units) (slots : Slots) (first window n need more : ℕ) → need ≤ more
    → IsNeedOfAll plan units slots.items first window n need → IsNeedOfAll plan units slots.items first window n more
needs_more plan units slots first window n need more le h = record {
  each = λ r lt. need_more plan units slots.items first (window + r) need more le (h.each r lt);
}

-- the need of a group of those that are known
pub group_need : (plan : MultiPlan) (units : Units) (slots : Slots) (first base group n : ℕ) (needs : List ℕ)
    (more : ℕ) → AreGroupNeeds plan units slots.items first base n needs → base ≤ group → group < base + n
    → number_in needs (group - base) ≤ more
    → IsNeedOfAll plan units slots.items first (8 * group) (8 + 8 * units.eights) more
group_need plan units slots first base group n needs more h after before le =
    let e : base + (group - base) ≡ group = omega (arith, after) in
    subst (λ g. IsNeedOfAll plan units slots.items first (8 * g) (8 + 8 * units.eights) more) e
    (needs_more plan units slots first (8 * (base + (group - base))) (8 + 8 * units.eights)
    (number_in needs (group - base)) more le (h.each (group - base) (omega (arith, after, before))))

-- ---- pairs that give nothing

module _ (plan : MultiPlan) (units : Units) (into : Slots) (long : HasWindows plan into) where
  -- a pair of a block
  quiet_pair : (first row count place width need i j v : ℕ) → count ≤ 8 * units.eights
      → IsNeedOfAll plan units into.items (row + first) row count need
      → IsNeedOfAll plan units into.items row place (width + 8 * units.eights) need
      → AreFar plan units row place width need → need < NO_NEED
      → i < window_count plan.channels.m plan.channels.list.now
      → j < window_count plan.channels.m plan.channels.list.now → row + first ≤ j
      → place + i ≤ j + row → j + row < place + width + i → row ≤ i → i < row + count
      → pair_value plan.channels.m plan.channels.k (map series_of plan.channels.list.now) i j ≡ Some v
      → Covers (get_or into.items i None) j v × Covers (get_or into.items j None) i v
  quiet_pair first row count place width need i j v few rows columns far some iw jw later after before from above is =
      let value = pair_value plan.channels.m plan.channels.k (map series_of plan.channels.list.now) in
      let r = i - row in
      let u = j + row - i - place in
      let c = j - place in
      let rowed : row + r ≡ i = omega (arith, from) in
      let lane : u < width = omega (arith, before, after, from) in
      let placed : place + u + r ≡ j = omega (arith, after, from) in
      let behind : place + c ≡ j = omega (arith, after, from) in
      let here : value (row + r) (place + u + r) ≡ Some v =
      ap (λ n. value n (place + u + r)) rowed ∙ ap (value i) placed ∙ is in
      let reach = far.each r u v (omega (arith, above, few, from)) lane here in
      let row_need = subst (λ n. IsWindowNeed plan units into.items (row + first) n need) rowed
      (rows.each r (omega (arith, above, from))) in
      let column_need = subst (λ n. IsWindowNeed plan units into.items row n need) behind
      (columns.each c (omega (arith, lane, placed, above, few, from))) in (
        row_need.nothing j v iw later is some reach,
        column_need.nothing i v jw from
            (value_symmetric plan.channels.m plan.channels.k (map series_of plan.channels.list.now) j i ∙ is) some
            reach,
      )

  -- a block that is told to be far apart gives nothing
  pub quiet_block : (first end f e row count place width need : ℕ) → f ≡ max first (place - row)
      → e ≡ min end (place + width - row) → count ≤ 8 * units.eights
      → IsNeedOfAll plan units into.items (row + first) row count need
      → IsNeedOfAll plan units into.items row place (width + 8 * units.eights) need
      → AreFar plan units row place width need → need < NO_NEED
      → AreScannedBy plan (in_block f e row (row + count)) into into
  quiet_block first end f e row count place width need fe ee few rows columns far some =
      scan_quiet plan.channels.m plan.channels.k plan.channels.list.now (in_block f e row (row + count)) into long
      (λ i j v iw jw is value.
      let at = inside f e row (row + count) i j is in
      quiet_pair first row count place width need i j v few rows columns far some iw jw
      (omega (arith, at.left, at.above, fe)) (omega (arith, at.left, at.above, fe))
      (omega (arith, at.right, at.left, at.above, ee)) at.above at.below value)

-- the pairs of a strip's block
abbrev pub block_pairs : ℕ → ℕ → ℕ → ℕ → ℕ → ℕ → ℕ → Bool
block_pairs first end row count g =
    in_block (max first (8 * g - row)) (min end (8 * g + 8 - row)) row (row + count)

-- ---- blocks one behind the other

blocks_next : (first end p q top bottom i j : ℕ) → p ≤ q
    → (in_block first (min end p) top bottom i j || in_block (max first p) (min end q) top bottom i j)
    ≡ in_block first (min end q) top bottom i j
blocks_next first end p q top bottom i j le = grind (arith, nat_tests)

pub groups_next : (first end row bottom group l i j : ℕ)
    → (in_block (max first (8 * group - row)) (min end (8 * (group + l) - row)) row bottom i j
    || in_block (max first (8 * (group + l) - row)) (min end (8 * (group + l) + 8 - row)) row bottom i j)
    ≡ in_block (max first (8 * group - row)) (min end (8 * (group + (l + 1)) - row)) row bottom i j
groups_next first end row bottom group l i j =
    let p = 8 * group - row in
    let q = 8 * (group + l) - row in
    let e : 8 * (group + l) + 8 - row ≡ 8 * (group + (l + 1)) - row = omega arith in
    let f : max first q ≡ max (max first p) q = omega arith in
    ap (λ n. in_block (max first p) (min end q) row bottom i j
    || in_block n (min end (8 * (group + l) + 8 - row)) row bottom i j) f
    ∙ blocks_next (max first p) end q (8 * (group + l) + 8 - row) row bottom i j (omega arith)
    ∙ ap (λ n. in_block (max first p) (min end n) row bottom i j) e

pub strip_next : (first end row bottom group next i j : ℕ) → group ≤ next
    → (in_block first (min end (8 * group - row)) row bottom i j
    || in_block (max first (8 * group - row)) (min end (8 * next - row)) row bottom i j)
    ≡ in_block first (min end (8 * next - row)) row bottom i j
strip_next first end row bottom group next i j le =
    blocks_next first end (8 * group - row) (8 * next - row) row bottom i j (omega (arith, le))

-- all that have columns
pub blocks_cut : (first end row bottom wb next i j : ℕ) → min (row + end) wb ≤ next → j < wb
    → in_block first (min end (next - row)) row bottom i j ≡ in_block first end row bottom i j
blocks_cut first end row bottom wb next i j le lt = grind (arith, nat_tests)

pub same_block : (f f' e e' row bottom i j : ℕ) → f ≡ f' → e ≡ e'
    → in_block f e row bottom i j ≡ in_block f' e' row bottom i j
same_block f f' e e' row bottom i j p q =
    ap (λ n. in_block n e row bottom i j) p ∙ ap (λ n. in_block f' n row bottom i j) q

pub rows_all : (first end top bottom row i j : ℕ) → row ≡ bottom
    → in_block first end top row i j ≡ in_block first end top bottom i j
rows_all first end top bottom row i j e = ap (λ n. in_block first end top n i j) e

-- the rows of a diagonal that have a column
pub diagonal_cut : (k row count less column wb i j : ℕ) → column ≡ row + k → less ≡ min count (wb - column) → j < wb
    → in_block k (k + 1) row (row + less) i j ≡ in_block k (k + 1) row (row + count) i j
diagonal_cut k row count less column wb i j is lt = grind (arith, nat_tests)

-- one pair of a diagonal more
pub pair_next : (k row r column i j : ℕ) → column ≡ row + k
    → (in_block k (k + 1) row (row + r) i j || only (row + r) (column + r) i j)
    ≡ in_block k (k + 1) row (row + (r + 1)) i j
pair_next k row r column i j e = grind (arith, nat_tests)

-- if each of some groups gives nothing, then they all do
pub groups_quiet : (plan : MultiPlan) (into : Slots) → HasWindows plan into → (first end row count group n : ℕ)
    → ((l : ℕ) → l < n → AreScannedBy plan (block_pairs first end row count (group + l)) into into)
    → AreScannedBy plan (in_block (max first (8 * group - row)) (min end (8 * (group + n) - row)) row (row + count))
    into
    into
groups_quiet plan into long first end row count group zero h =
    scan_none plan.channels.m plan.channels.k plan.channels.list.now
    (in_block (max first (8 * group - row)) (min end (8 * (group + 0) - row)) row (row + count)) into long
    (λ i j. no_pairs (max first (8 * group - row)) (min end (8 * (group + 0) - row)) row (row + count) i j
    (inl (omega arith)))
groups_quiet plan into long first end row count group (suc n) h =
    let e : n + 1 ≡ suc n = omega arith in
    subst (λ l. AreScannedBy plan
    (in_block (max first (8 * group - row)) (min end (8 * (group + l) - row)) row (row + count)) into into) e
    (scan_then plan.channels.m plan.channels.k plan.channels.list.now
    (in_block (max first (8 * group - row)) (min end (8 * (group + n) - row)) row (row + count))
    (block_pairs first end row count (group + n))
    (in_block (max first (8 * group - row)) (min end (8 * (group + (n + 1)) - row)) row (row + count)) into into into
    (groups_quiet plan into long first end row count group n (λ l lt. h l (omega (arith, lt)))) (h n (omega arith))
    (λ i j _ _. groups_next first end row (row + count) group n i j))

-- ---- distances that are known

pub told_by : (dist : Option Sq) (x : Option ℕ) → IfSome dist (λ d. x ≡ Some d.0) → IfNone dist (x ≡ None)
    → option_map (λ (s : Sq). s.0) dist ≡ x
told_by None x some none = sym none
told_by (Some s) x some none = sym some

pub small_by : (dist : Option Sq) → IfSome dist (λ d. d.0 < 2 ^ 64) → IfSome dist (λ d. d.0 < 2 ^ 110)
small_by None small = tt
small_by (Some s) small = omega (arith, small)

-- ---- parts of blocks

-- one need for some windows does for those among them
pub needs_within : (plan : MultiPlan) (units : Units) (slots : Slots) (first window n within few need : ℕ)
    → window ≤ within → within + few ≤ window + n → IsNeedOfAll plan units slots.items first window n need
    → IsNeedOfAll plan units slots.items first within few need
needs_within plan units slots first window n within few need after before h = record {
  each = λ r lt.
      let e : window + (within - window + r) ≡ within + r = omega (arith, after) in
      subst (λ w. IsWindowNeed plan units slots.items first w need) e
      (h.each (within - window + r) (omega (arith, after, before, lt)));
}

-- a block whose first column is past the last window has no pairs
pub past_the_last : (plan : MultiPlan) (into : Slots) → HasWindows plan into → (first end row count g : ℕ)
    → window_count plan.channels.m plan.channels.list.now ≤ 8 * g
    → AreScannedBy plan (block_pairs first end row count g) into into
past_the_last plan into long first end row count g le =
    scan_quiet plan.channels.m plan.channels.k plan.channels.list.now (block_pairs first end row count g) into long
    (λ i j v iw jw is value.
    let at = inside (max first (8 * g - row)) (min end (8 * g + 8 - row)) row (row + count) i j is in
    absurd (omega (arith, at.left, at.above, jw, le)))

-- eight groups whose bounds reach the need of the rows and their own
pub eight_quiet : (plan : MultiPlan) (units : Units) (into : Slots) → HasWindows plan into
    → (first end row count group base need : ℕ) (needs bounds : List ℕ) → count ≤ 8 * units.eights
    → IsNeedOfAll plan units into.items (row + first) row count need
    → AreGroupNeeds plan units into.items row base (length needs) needs → base ≤ group
    → group + 8 ≤ base + length needs
    → ((l bound : ℕ) → l < 8 → bound ≤ number_in bounds l → AreFar plan units row (8 * (group + l)) 8 bound)
    → ((l : ℕ) → l < 8 → number_in bounds l < NO_NEED)
    → ((l : ℕ) → l < 8 → need ≤ number_in bounds l)
    → ((l : ℕ) → l < 8 → number_in needs (group - base + l) ≤ number_in bounds l)
    → AreScannedBy plan (in_block (max first (8 * group - row)) (min end (8 * (group + 8) - row)) row (row + count))
    into
    into
eight_quiet plan units into long first end row count group base need needs bounds few rows groups after before far
    small reached own_reached =
    groups_quiet plan into long first end row count group 8
    (λ l lt.
    let own = number_in needs (group - base + l) in
    let both = max need own in
    let at : group + l - base ≡ group - base + l = omega (arith, after) in
    let here : number_in needs (group + l - base) ≡ own = ap (number_in needs) at in
    let le : both ≤ number_in bounds l = omega (arith, reached l lt, own_reached l lt) in
    quiet_block plan units into long first end (max first (8 * (group + l) - row)) (min end (8 * (group + l) + 8 - row))
    row count (8 * (group + l)) 8 both refl refl few
    (needs_more plan units into (row + first) row count need both (omega arith) rows)
    (group_need plan units into row base (group + l) (length needs) needs both groups (omega (arith, after))
    (omega (arith, before, lt)) (omega (arith, here)))
    (far l both lt le) (omega (arith, le, small l lt)))

-- no blocks yet
pub no_blocks : (plan : MultiPlan) (into : Slots) → HasWindows plan into → (first end row count group : ℕ)
    → AreScannedBy plan (in_block (max first (8 * group - row)) (min end (8 * (group + 0) - row)) row (row + count))
    into
    into
no_blocks plan into long first end row count group =
    groups_quiet plan into long first end row count group 0 (λ l lt. absurd (omega (arith, lt)))

-- the rows of a part of a block's rows, which stand so far behind, as its groups do
pub part_pairs : (first end row group at done count whole i j : ℕ) → 8 * at ≡ 8 * group + done → done < whole
    → (in_block (max first (8 * group - row)) (min end (8 * (group + 8) - row)) row (row + min done whole) i j
    || in_block (max first (8 * at - (row + done))) (min end (8 * (at + 8) - (row + done))) (row + done)
    (row + done + count) i j)
    ≡ in_block (max first (8 * group - row)) (min end (8 * (group + 8) - row)) row (row + (done + count)) i j
part_pairs first end row group at done count whole i j e lt =
    let f = max first (8 * group - row) in
    let g = min end (8 * (group + 8) - row) in
    let left : max first (8 * at - (row + done)) ≡ f = omega (arith, e) in
    let right : min end (8 * (at + 8) - (row + done)) ≡ g = omega (arith, e) in
    let below : row + min done whole ≡ row + done = omega (arith, lt) in
    let bottom : row + done + count ≡ row + (done + count) = omega arith in
    ap (λ n. in_block f g row n i j || in_block (max first (8 * at - (row + done)))
    (min end (8 * (at + 8) - (row + done))) (row + done) (row + done + count) i j) below
    ∙ ap (λ s. in_block f g row (row + done) i j || s)
    (same_block (max first (8 * at - (row + done))) f (min end (8 * (at + 8) - (row + done))) g (row + done)
    (row + done + count) i j left right)
    ∙ rows_next f g row (row + done) (row + done + count) i j (omega arith) (omega arith)
    ∙ ap (λ n. in_block f g row n i j) bottom

-- the same by an equal plan
pub as_plan : (plan other : MultiPlan) → other ≡ plan → (pairs : ℕ → ℕ → Bool) (old new : Slots)
    → AreScannedBy plan pairs old new → AreScannedBy other pairs old new
as_plan plan other e pairs old new h = subst (λ (p : MultiPlan). AreScannedBy p pairs old new) (sym e) h
