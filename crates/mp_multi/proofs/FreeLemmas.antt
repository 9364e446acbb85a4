-- Windows that have all samples in too few channels have no value with any other.
use Rattle.std.proofs.Common.{◌≡◌, ℕ, suc, ◌+◌, ◌<◌, ◌≤◌, List, [], length, get_or, map, Bool, true, false}
use Rattle.std.proofs.Common.{refl, sym, ap, subst, ◌∙◌, arith, sum, take}
use Rattle.std.specs.Prelude.{Option, Some, None, IsSome, nat_le, nat_lt, if◌then◌else◌}
use Rattle.std.proofs.lemmas.Bool.Decides.{nat_tests}
use mir.Val.{bool_byte}
use Rattle.mp_nums.specs.declared.samples.Sample.{Sample}
use Rattle.mp_defs.specs.Series.{series_of}
use Rattle.mp_defs.specs.Window.{is_free}
use Rattle.mp_defs.specs.Profile.{windows_of}
use Rattle.mp_defs.specs.DistanceLaws.{of_free_windows}
use Rattle.mp_results.specs.Multi.{distance_in}
use Rattle.mp_results.specs.Rising.{inserted_if_there, rising, sum_of_first}
use Rattle.mp_sums.specs.declared.distances.Grid.{Grid}
use Rattle.mp_sums.specs.Grids.{distance_in as grid_distance}
use Rattle.mp_scans.specs.Free.{AreFree}
use Rattle.mp_scans.specs.Windows.{row_windows}
use Rattle.mp_skips.specs.declared.sums.Coarse.{Coarse}
use Rattle.mp_skips.specs.declared.sums.Units.{Units}
use Rattle.mp_multi.specs.Skips.{IsCoarseOf}
use Rattle.mp_multi.specs.declared.plans.MultiPlan.{MultiPlan}
use Rattle.mp_multi.proofs.BoundLaws.{channel_distance}
use Rattle.mp_multi.proofs.LeastSums.{inserted_count}

-- ---- the mark of a window

marks : (coarse : Coarse) → AreFree coarse.plan.grid.m (series_of coarse.plan.grid.rows.now) 0 coarse.rows.free.now
marks coarse =
    subst (λ m. AreFree m (series_of coarse.plan.grid.rows.now) 0 coarse.rows.free.now) coarse.row_length
    (subst (λ (xs : List Sample). AreFree coarse.rows.m (series_of xs) 0 coarse.rows.free.now) coarse.row_samples
    coarse.rows.lists.marks)

pub places : (coarse : Coarse) → row_windows coarse.plan.grid ≤ length coarse.rows.free.now
places coarse =
    subst (λ m. windows_of m (series_of coarse.plan.grid.rows.now) ≤ length coarse.rows.free.now) coarse.row_length
    (subst (λ (xs : List Sample). windows_of coarse.rows.m (series_of xs) ≤ length coarse.rows.free.now)
    coarse.row_samples coarse.rows.lists.all_windows)

pub marked : (coarse : Coarse) (window : ℕ) → window < row_windows coarse.plan.grid
    → get_or coarse.rows.free.now window false
    ≡ is_free coarse.plan.grid.m (series_of coarse.plan.grid.rows.now) window
marked coarse window lt =
    let e : 0 + window ≡ window = omega arith in
    (marks coarse).each window (omega (arith, lt, places coarse))
    ∙ ap (is_free coarse.plan.grid.m (series_of coarse.plan.grid.rows.now)) e

-- ---- distances in channels

some_is : (x : Option ℕ) (d : ℕ) → x ≡ Some d → IsSome x
some_is None d e = absurd (cc)
some_is (Some y) d e = refl

both_ways : (b : Bool) → b ≡ true → b ≡ false → ⊥
both_ways b e f = cc

not_some : (x : Option ℕ) → ((d : ℕ) → x ≡ Some d → ⊥) → x ≡ None
not_some None h = refl
not_some (Some d) h = absurd (h d refl)

-- a window without a sample has no distance in the channel
no_distance : (grid : Grid) (i j : ℕ) → is_free grid.m (series_of grid.rows.now) i ≡ false → grid_distance grid i j ≡
    None
no_distance grid i j gap = not_some (grid_distance grid i j) (λ d e. both_ways _
    ((of_free_windows grid.m (series_of grid.rows.now) i (series_of grid.columns.now) j).0
    (some_is (grid_distance grid i j) d e)).0 gap)

-- ---- how many channels have one

no_more : (f : ℕ → Option ℕ) (c n : ℕ) → f c ≡ None → length (rising f c) ≤ n → length (rising f (c + 1)) ≤ n
unfolding rising
no_more f c n e le =
    let next : c + 1 ≡ suc c = omega arith in
    omega (arith, le, ap (λ k. length (rising f k)) next, ap (λ x. length (inserted_if_there x (rising f c))) e)

one_more : (f : ℕ → Option ℕ) (c n : ℕ) → length (rising f c) ≤ n → length (rising f (c + 1)) ≤ n + 1
unfolding rising
one_more f c n le =
    let next : c + 1 ≡ suc c = omega arith in
    omega (arith, le, ap (λ k. length (rising f k)) next, put (f c) (rising f c))
  where
    put : (x : Option ℕ) (numbers : List ℕ) → length (inserted_if_there x numbers) ≤ length numbers + 1
    put None numbers = omega arith
    put (Some x) numbers = omega (arith, inserted_count x numbers)

pub none_yet : (f : ℕ → Option ℕ) → length (rising f 0) ≤ 0
unfolding rising
none_yet f = omega arith

-- one channel more
pub count_more : (plan : MultiPlan) (units : Units) (coarse : Coarse) (c i n more : ℕ) (free : Bool)
    → IsCoarseOf (get_or plan.channels.list.now c []) plan.channels.m units coarse
    → free ≡ is_free coarse.plan.grid.m (series_of coarse.plan.grid.rows.now) i
    → (free ≡ true → n + 1 ≤ more) → n ≤ more
    → ((other : ℕ) → length (rising (distance_in plan.channels.m (map series_of plan.channels.list.now) i other) c) ≤ n)
    → (other : ℕ)
    → length (rising (distance_in plan.channels.m (map series_of plan.channels.list.now) i other) (c + 1)) ≤ more
count_more plan units coarse c i n more true is e le le' h other =
    let f = distance_in plan.channels.m (map series_of plan.channels.list.now) i other in
    omega (arith, le refl, one_more f c n (h other))
count_more plan units coarse c i n more false is e le le' h other =
    let f = distance_in plan.channels.m (map series_of plan.channels.list.now) i other in
    omega (
      arith,
      le',
      no_more f c n (sym (channel_distance plan units coarse c i other is)
          ∙ no_distance coarse.plan.grid i other (sym e)) (h other),
    )

-- where too few channels have distances there is no value
too_few : (k : ℕ) (numbers : List ℕ) → length numbers < k → sum_of_first k numbers ≡ None
too_few k numbers lt =
    let less : nat_le k (length numbers) ≡ false = grind (arith, nat_tests) in
    ap (λ (b : Bool). if b then Some (sum (take k numbers)) else None) less

pub no_value : (k count channels number : ℕ) (f : ℕ → Option ℕ) → nat_lt count k ≡ true → channels ≡ number
    → length (rising f channels) ≤ count → sum_of_first k (rising f number) ≡ None
no_value k count channels number f few e le =
    let lt : count < k = grind (arith, nat_tests) in
    too_few k (rising f number) (omega (arith, lt, le, ap (λ n. length (rising f n)) e))

-- the number of a mark
pub byte_few : (b : Bool) → bool_byte b ≤ 1
byte_few true = omega arith
byte_few false = omega arith

pub byte_true : (b : Bool) → b ≡ true → bool_byte b ≡ 1
byte_true true e = refl
byte_true false e = absurd (cc)
