-- Values of pairs that are told by the distances of all channels.
use Rattle.std.proofs.Common.{◌≡◌, ℕ, ◌+◌, ◌-◌, ◌*◌, ◌^◌, ◌<◌, ◌≤◌, List, [], length, map, take, sum, drop}
use Rattle.std.proofs.Common.{ap, ◌∙◌, sym, subst, arith, inl, inr, false}
use Rattle.std.specs.Prelude.{Option, Some, None, IfSome, replicate, slice_index_or}
use Rattle.std.specs.Option.{option_map, is_none}
use Rattle.std.specs.Simd.Lanes.{chunk, put_chunk}
use Rattle.std.proofs.lemmas.Bool.{cases_lt}
use Rattle.std.proofs.lemmas.Bool.Decides.{nat_tests}
use Rattle.std.proofs.lemmas.List.{length-map, get_or-drop, get_or-replicate}
use Rattle.std.proofs.lemmas.List.{get_or-take, length-take, length-drop}
use Rattle.std.proofs.lemmas.Simd.{length-chunk, get_or-chunk, get_or-put_chunk_at, get_or-put_chunk_below}
use Rattle.mp_nums.specs.declared.nearest.Sq.{Sq}
use Rattle.mp_nums.specs.declared.samples.Sample.{Sample}
use Rattle.mp_defs.specs.Series.{series_of}
use Rattle.mp_results.specs.Multi.{distance_in, pair_value}
use Rattle.mp_results.specs.Rising.{rising, sum_of_first}
use Rattle.mp_results.specs.Slide.{square}
use Rattle.mp_skips.specs.Sums.{number_in}
use Rattle.mp_skips.specs.Lanes.{HasLanes}
use Rattle.mp_multi.specs.Skips.{lane_numbers, least_at}
use Rattle.mp_multi.proofs.BoundLemmas.{rising_length}
use Rattle.mp_multi.proofs.LeastPairs.{rising_same}

-- ---- distances

-- how great those of a channel are: some are filled in, the others are 0
pub own_below : (m count n r : ℕ) (own : List ℕ) → m < 2048 → r < n
    → ((k : ℕ) → k < count → number_in own k ≤ m * 2 ^ 48)
    → ((k : ℕ) → count ≤ k → number_in own k ≡ number_in (replicate n 0) k)
    → number_in own r < 576460752303423488
own_below m count n r own few lt filled others =
    let nothing : number_in (replicate n 0) r ≡ 0 = get_or-replicate n r 0 0 lt in
    elim (cases_lt r count) [
      | inl there ↦ omega (arith, few, filled r there)
      | inr behind ↦ omega (arith, others r behind, nothing)
    ]

-- what is known of a channel
pub known_by : (dist : Option Sq) (x : Option ℕ) (n : ℕ) → IfSome dist (λ s. x ≡ Some s.0)
    → ((d : ℕ) → x ≡ Some d → n ≡ d) → is_none dist ≡ false → x ≡ Some n
known_by None x n some told is = absurd (cc)
known_by (Some s) x n some told is = some ∙ ap Some (sym (told s.0 some))

-- ---- the least of them

-- those of eight pairs in vectors are those of lists
pub lanes_same : (k channels place t : ℕ) (numbers dists : List (List ℕ))
    → ((c : ℕ) → c < channels → number_in (slice_index_or numbers c []) t
    ≡ number_in (slice_index_or dists c []) (place + t))
    → least_at k channels numbers t ≡ least_at k channels dists (place + t)
lanes_same k channels place t numbers dists h =
    ap (λ (ns : List ℕ). sum (take k ns))
    (rising_same (lane_numbers numbers t) (lane_numbers dists (place + t)) channels (λ c lt. ap Some (h c lt)))

pub loaded : (xs : List ℕ) (n place t : ℕ) → t < 8 → 8 ≤ n
    → number_in (chunk 0 8 (take n (drop place xs))) t ≡ number_in xs (place + t)
loaded xs n place t lt le =
    get_or-chunk 0 8 (take n (drop place xs)) t 0 lt ∙ get_or-take n (drop place xs) (0 + t) 0 (omega (arith, lt, le))
    ∙ get_or-drop place xs (0 + t) 0 ∙ ap (number_in xs) (omega arith)

pub loaded_eight : (xs : List ℕ) (n place : ℕ) → 8 ≤ n → place + 8 ≤ length xs
    → length (chunk 0 8 (take n (drop place xs))) ≡ 8
loaded_eight xs n place le there =
    length-chunk 0 8 (take n (drop place xs))
    (omega (arith, le, there, length-take n (drop place xs), length-drop place xs))

-- eight more
pub eight_more : (f : ℕ → ℕ) (h r : ℕ) (sums eight : List ℕ) → 8 * h + 8 ≤ length sums
    → HasLanes eight (λ t. f (8 * h + t)) → ((q : ℕ) → q < 8 * h → number_in sums q ≡ f q) → r < 8 * (h + 1)
    → number_in (put_chunk (8 * h) sums eight) r ≡ f r
eight_more f h r sums eight long lanes before lt =
    elim (cases_lt r (8 * h)) [
      | inl there ↦ get_or-put_chunk_below (8 * h) sums eight r 0 there ∙ before r there
      | inr from ↦
          let t = r - 8 * h in
          let place : 8 * h + t ≡ r = omega (arith, from) in
          subst (λ q. number_in (put_chunk (8 * h) sums eight) q ≡ f q) place
          (get_or-put_chunk_at (8 * h) sums eight t 0 (omega (arith, lt, from, lanes.count))
          (omega (arith, long, lanes.count))
          ∙ lanes.each t (omega (arith, lt, from)))
    ]

-- ---- the value

first_there : (k : ℕ) (numbers : List ℕ) → k ≤ length numbers → sum_of_first k numbers ≡ Some (sum (take k numbers))
first_there k numbers le = grind (arith, nat_tests)

pub value_known : (m k count i j r value : ℕ) (channels : List (List Sample)) (dists : List (List ℕ))
    → length channels ≡ count → k ≤ count
    → ((c : ℕ) → c < count → distance_in m (map series_of channels) i j c
    ≡ Some (number_in (slice_index_or dists c []) r))
    → value ≡ least_at k count dists r
    → option_map square (pair_value m k (map series_of channels) i j) ≡ Some (square value)
value_known m k count i j r value channels dists long le h is =
    let list = map series_of channels in
    let numbers = rising (lane_numbers dists r) count in
    let all : length list ≡ count = length-map channels series_of ∙ long in
    let same : rising (distance_in m list i j) (length list) ≡ numbers =
    ap (rising (distance_in m list i j)) all ∙ rising_same (distance_in m list i j) (lane_numbers dists r) count h in
    ap (λ ns. option_map square (sum_of_first k ns)) same
    ∙ ap (option_map square) (first_there k numbers (omega (arith, le, rising_length r dists count)))
    ∙ ap (λ n. Some (square n)) (sym is)
