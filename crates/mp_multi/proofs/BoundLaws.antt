-- Why the sum of the least of some bounds bounds the sum of the least distances.
use Rattle.std.proofs.Common.{◌≡◌, ℕ, zero, suc, ◌+◌, ◌*◌, ◌<◌, ◌≤◌, List, [], length, get_or, take, map, set}
use Rattle.std.proofs.Common.{refl, arith, ap, ◌∙◌, sym, subst, sum, true, false, Bool, inl, inr}
use Rattle.std.specs.Prelude.{Option, Some, MatchOption, if◌then◌else◌, nat_le}
use Rattle.std.proofs.Math.Nat.{mul-add, add-mul}
use Rattle.std.proofs.lemmas.Nat.{mul-le}
use Rattle.std.proofs.lemmas.Bool.Decides.{nat_tests}
use Rattle.std.proofs.Math.ListN.{get_or-map}
use Rattle.std.proofs.lemmas.List.{length-map, get_or-set_same, get_or-set_other}
use Rattle.std.proofs.lemmas.Bool.{cases_eq}
use Rattle.mp_nums.specs.declared.samples.Sample.{Sample}
use Rattle.mp_defs.specs.Series.{Series, series_of}
use Rattle.mp_defs.specs.Distance.{distance, plus}
use Rattle.mp_results.specs.Rising.{rising, sum_of_first}
use Rattle.mp_results.specs.Multi.{distance_in}
use Rattle.mp_sums.specs.Grids.{distance_in as grid_distance}
use Rattle.mp_skips.specs.declared.sums.Coarse.{Coarse}
use Rattle.mp_skips.specs.declared.sums.Units.{Units}
use Rattle.mp_skips.specs.Sums.{number_in}
use Rattle.mp_skips.specs.Blocks.{AreApart}
use Rattle.mp_multi.specs.Laws.{sum_chosen, HasFewer, IsLeastSum}
use Rattle.mp_multi.specs.Skips.{IsCoarseOf, AreFar, AreFarIn, ReachesIn, lane_numbers}
use Rattle.mp_multi.specs.declared.plans.MultiPlan.{MultiPlan}
use Rattle.mp_multi.proofs.LeastSums.{plus_some, least_by, sum_is_least}
use Rattle.mp_multi.proofs.BoundLemmas.{rising_length}

-- ---- the sum over a choice

-- a sum is there, and so many times as great it is at most a number
abbrev IsBelow : Option ℕ → ℕ → ℕ → Type 0
IsBelow x g most = (total : ℕ) × (x ≡ Some total) × (total * g ≤ most)

both_below : (a b s u g h v : ℕ) → s * g ≤ h * a → u * g ≤ h * b → a + b ≡ v → (s + u) * g ≤ h * v
both_below a b s u g h v le le' e =
    omega (arith, le, le', add-mul s u g, mul-add h a b, ap (λ n. h * n) e)

one_below : (chosen : ℕ → Bool) (f : ℕ → Option ℕ) (s : ℕ → ℕ) (g h n v : ℕ)
    → ((d : ℕ) → f n ≡ Some d → s n * g ≤ h * d)
    → ((w : ℕ) → sum_chosen chosen f n ≡ Some w → IsBelow (sum_chosen chosen (λ c. Some (s c)) n) g (h * w))
    → (b : Bool) → (if b then plus (sum_chosen chosen f n) (f n) else sum_chosen chosen f n) ≡ Some v
    → IsBelow (if b then plus (sum_chosen chosen (λ c. Some (s c)) n) (Some (s n)) else
    sum_chosen chosen (λ c. Some (s c)) n) g (h * v)
one_below chosen f s g h n v here before true e =
    let parts = plus_some (sum_chosen chosen f n) (f n) v e in
    let rest = before parts.0 parts.2 in (
      rest.0 + s n,
      ap (λ p. plus p (Some (s n))) rest.1,
      both_below parts.0 parts.1 rest.0 (s n) g h v rest.2 (here parts.1 parts.3) parts.4,
    )
one_below chosen f s g h n v here before false e = before v e

chosen_below : (chosen : ℕ → Bool) (f : ℕ → Option ℕ) (s : ℕ → ℕ) (g h n v : ℕ)
    → ((c d : ℕ) → c < n → f c ≡ Some d → s c * g ≤ h * d) → sum_chosen chosen f n ≡ Some v
    → IsBelow (sum_chosen chosen (λ c. Some (s c)) n) g (h * v)
chosen_below chosen f s g h zero v below e = (0, refl, omega arith)
chosen_below chosen f s g h (suc n) v below e =
    one_below chosen f s g h n v (λ d is. below n d (omega arith) is)
    (λ w is. chosen_below chosen f s g h n w (λ c d lt. below c d (omega (arith, lt))) is) (chosen n) e

-- ---- the least sums

times_below : (least total g most : ℕ) → least ≤ total → total * g ≤ most → least * g ≤ most
times_below least total g most le le' = omega (arith, mul-le least g total g le (omega arith), le')

-- where so many times each number of a lane is at most a number of times a channel's distance
pub least_below : (f : ℕ → Option ℕ) (t : ℕ) (sums : List (List ℕ)) (n k g h v : ℕ)
    → ((c d : ℕ) → c < n → f c ≡ Some d → number_in (get_or sums c []) t * g ≤ h * d) → k ≤ n
    → sum_of_first k (rising f n) ≡ Some v
    → sum (take k (rising (lane_numbers sums t) n)) * g ≤ h * v
least_below f t sums n k g h v below le e =
    let own : IsLeastSum f n k v =
    subst (λ o. MatchOption o (HasFewer f n k) (IsLeastSum f n k)) e (sum_is_least f n k) in
    let all : nat_le k (length (rising (lane_numbers sums t) n)) ≡ true =
    (let long = rising_length t sums n in grind (arith, nat_tests)) in
    let lanes : IsLeastSum (lane_numbers sums t) n k (sum (take k (rising (lane_numbers sums t) n))) =
    least_by (lane_numbers sums t) n k true all in
    let choice = own.by_choice in
    let chosen = chosen_below choice.0 f (λ c. number_in (get_or sums c []) t) g h n v below choice.2 in
    times_below (sum (take k (rising (lane_numbers sums t) n))) chosen.0 g (h * v)
    (lanes.none_less choice.0 chosen.0 choice.1 chosen.1) chosen.2

-- ---- one channel

-- the distance of windows of a channel, as windows of the series that its sums are of
pub channel_distance : (plan : MultiPlan) (units : Units) (coarse : Coarse) (c i j : ℕ)
    → IsCoarseOf (get_or plan.channels.list.now c []) plan.channels.m units coarse
    → grid_distance coarse.plan.grid i j
    ≡ distance_in plan.channels.m (map series_of plan.channels.list.now) i j c
channel_distance plan units coarse c i j is =
    let m = plan.channels.m in
    let a = get_or plan.channels.list.now c [] in
    let grid = coarse.plan.grid in
    ap (λ n. distance n (series_of grid.rows.now) i (series_of grid.columns.now) j) is.length_is
    ∙ ap (λ (s : List Sample). distance m (series_of s) i (series_of grid.columns.now) j) is.rows
    ∙ ap (λ (s : List Sample). distance m (series_of a) i (series_of s) j) is.columns
    ∙ ap (λ (s : Series). distance m s i s j) (sym (get_or-map series_of plan.channels.list.now c []))

pub far_in : (plan : MultiPlan) (units : Units) (coarse : Coarse) (c i j n need : ℕ)
    → IsCoarseOf (get_or plan.channels.list.now c []) plan.channels.m units coarse → AreApart coarse i j n need
    → AreFarIn plan units c i j n need
far_in plan units coarse c i j n need is apart = record {
  each = λ r u d few lt there.
      subst (λ (w : Units). ReachesIn w need d) is.units_are
      (apart.each r u d (subst (λ (w : Units). r < 8 * w.eights) (sym is.units_are) few) lt
      (channel_distance plan units coarse c (i + r) (j + u + r) is ∙ there));
}

-- with one channel more
pub far_more : (plan : MultiPlan) (units : Units) (i : ℕ) (j : ℕ → ℕ) (n c : ℕ) (sums : List (List ℕ)) (v : List ℕ)
    → c < length sums
    → ((d t need : ℕ) → d < c → t < 8 → need ≤ number_in (get_or sums d []) t → AreFarIn plan units d i (j t) n need)
    → ((t need : ℕ) → t < 8 → need ≤ number_in v t → AreFarIn plan units c i (j t) n need)
    → (d t need : ℕ) → d < c + 1 → t < 8 → need ≤ number_in (get_or (set sums c v) d []) t
    → AreFarIn plan units d i (j t) n need
far_more plan units i j n c sums v there before here d t need lt small le = elim (cases_eq d c) [
  | inl e ↦
      subst (λ k. AreFarIn plan units k i (j t) n need) (sym e)
      (here t need small
      (subst (λ w. need ≤ number_in w t) (get_or-set_same sums c v [] there)
      (subst (λ k. need ≤ number_in (get_or (set sums c v) k []) t) e le)))
  | inr other ↦
      before d t need (omega (arith, lt, other)) small
      (subst (λ w. need ≤ number_in w t) (get_or-set_other sums c d v [] other) le)
]

-- ---- all channels

-- the sum of the least of what the channels' distances reach is reached by the values
pub far : (plan : MultiPlan) (units : Units) (i j n need t : ℕ) (sums : List (List ℕ))
    → ((c bound : ℕ) → c < length plan.channels.list.now → bound ≤ number_in (get_or sums c []) t
    → AreFarIn plan units c i j n bound)
    → need ≤ sum (take plan.channels.k (rising (lane_numbers sums t) (length plan.channels.list.now)))
    → AreFar plan units i j n need
far plan units i j n need t sums each le = record {
  each = λ r u v few lt value.
      let all = map series_of plan.channels.list.now in
      let count = length plan.channels.list.now in
      let long : length all ≡ count = length-map plan.channels.list.now series_of in
      let grains = units.grain.size * units.grain.size in
      let f = distance_in plan.channels.m all (i + r) (j + u + r) in
      times_below need (sum (take plan.channels.k (rising (lane_numbers sums t) count))) grains (8 * units.eights * v)
      le
      (least_below f t sums count plan.channels.k grains (8 * units.eights) v
      (λ c d small is. (each c (number_in (get_or sums c []) t) small (omega arith)).each r u d few lt is)
      plan.channels.are.present
      (subst (λ w. sum_of_first plan.channels.k (rising f w) ≡ Some v) long value));
}

none_reached : (units : Units) (v : ℕ) → ReachesIn units 0 v
none_reached units v = omega arith

-- a bound of 0 tells nothing
pub far_none : (plan : MultiPlan) (units : Units) (i j n need : ℕ) → need ≤ 0 → AreFar plan units i j n need
far_none plan units i j n need le = record {
  each = λ r u v few lt value. subst (λ b. ReachesIn units b v) (omega (arith, le)) (none_reached units v);
}
