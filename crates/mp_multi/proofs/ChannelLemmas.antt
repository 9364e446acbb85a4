-- What is kept of two windows in each channel, channel by channel.
use Rattle.std.proofs.Common.{◌≡◌, ℕ, zero, suc, ◌+◌, ◌<◌, ◌≤◌, inl, inr, List, [], length, get_or, set, map}
use Rattle.std.proofs.Common.{refl, sym, ap, ◌∙◌, arith, subst}
use Rattle.std.specs.Prelude.{Option, Some, None, slice_get}
use Rattle.std.specs.Option.{option_map}
use Rattle.std.proofs.Math.ListN.{get_or-map}
use Rattle.std.proofs.lemmas.Bool.{cases_eq}
use Rattle.std.proofs.lemmas.List.{get_or-set_same, get_or-set_other, length-map}
use Rattle.std.proofs.lemmas.Option.{get_or_from_slice_get}
use Rattle.mp_nums.specs.declared.nearest.Sq.{Sq}
use Rattle.mp_nums.specs.declared.samples.Sample.{Sample}
use Rattle.mp_defs.specs.Series.{Series, series_of}
use Rattle.mp_defs.specs.Distance.{distance}
use Rattle.mp_results.specs.Rising.{rising, sum_of_first, inserted_if_there}
use Rattle.mp_results.specs.Multi.{distance_in, pair_value}
use Rattle.mp_results.specs.Slide.{square}
use Rattle.mp_multi.specs.declared.running.Running.{Running}
use Rattle.mp_multi.specs.LeastSums.{distance_at, least_sum_of}
use Rattle.mp_multi.specs.Running.{IsRunning}
use Rattle.mp_multi.proofs.LeastSums.{rising_zero, rising_more}

-- ---- places that are filled one after another

pub set_next : {X : Type 0} (P : ℕ → X → Type 0) (past : X) (v : List X) (n : ℕ) (z : X) → n < length v
    → ((q : ℕ) → q < n → P q (get_or v q past)) → P n z → (q : ℕ) → q < n + 1 → P q (get_or (set v n z) q past)
set_next P past v n z lt before here q below = elim (cases_eq q n) [
  | inl same ↦ subst (λ k. P k (get_or (set v n z) k past)) (sym same)
      (subst (P n) (sym (get_or-set_same v n z past lt)) here)
  | inr other ↦ subst (P q) (sym (get_or-set_other v n q z past other)) (before q (omega (arith, below, other)))
]

pub set_before : {X : Type 0} (P : ℕ → X → Type 0) (past : X) (v : List X) (n : ℕ) (z : X) (q : ℕ) → n < q
    → P q (get_or v q past) → P q (get_or (set v n z) q past)
set_before P past v n z q lt there =
    subst (P q) (sym (get_or-set_other v n q z past (λ same. omega (arith, lt, same)))) there

-- ---- places that are filled from the last on

pub set_last : {X : Type 0} (P : ℕ → X → Type 0) (past : X) (v : List X) (n : ℕ) (z : X) → n < length v
    → ((q : ℕ) → n + 1 ≤ q → P q (get_or v q past)) → P n z → (q : ℕ) → n ≤ q → P q (get_or (set v n z) q past)
set_last P past v n z lt behind here q le = elim (cases_eq q n) [
  | inl same ↦ subst (λ k. P k (get_or (set v n z) k past)) (sym same)
      (subst (P n) (sym (get_or-set_same v n z past lt)) here)
  | inr other ↦ subst (P q) (sym (get_or-set_other v n q z past other)) (behind q (omega (arith, le, other)))
]

pub set_behind : {X : Type 0} (P : ℕ → X → Type 0) (past : X) (v : List X) (n : ℕ) (z : X) (q : ℕ) → q < n
    → P q (get_or v q past) → P q (get_or (set v n z) q past)
set_behind P past v n z q lt there =
    subst (P q) (sym (get_or-set_other v n q z past (λ same. omega (arith, lt, same)))) there

-- ---- channels

-- what is kept of windows i and j of a channel
abbrev pub RunningIn : ℕ → List (List Sample) → ℕ → ℕ → ℕ → Running → Type 0
RunningIn m channels i j c running = IsRunning m (series_of (get_or channels c [])) i j running

pub of_channel : (m : ℕ) (channels : List (List Sample)) (i j c : ℕ) (channel : List Sample) (running : Running)
    → slice_get channels c ≡ Some channel → IsRunning m (series_of channel) i j running
    → RunningIn m channels i j c running
of_channel m channels i j c channel running e h =
    subst (λ samples. IsRunning m (series_of samples) i j running)
    (sym (get_or_from_slice_get channels c channel [] e)) h

pub to_channel : (m : ℕ) (channels : List (List Sample)) (i j c : ℕ) (channel : List Sample) (running : Running)
    → slice_get channels c ≡ Some channel → RunningIn m channels i j c running
    → IsRunning m (series_of channel) i j running
to_channel m channels i j c channel running e h =
    subst (λ samples. IsRunning m (series_of samples) i j running) (get_or_from_slice_get channels c channel [] e) h

-- ---- the value

pub rising_same : (f g : ℕ → Option ℕ) (n : ℕ) → ((c : ℕ) → c < n → f c ≡ g c) → rising f n ≡ rising g n
rising_same f g zero h = rising_zero f ∙ sym (rising_zero g)
rising_same f g (suc n) h =
    let one : n + 1 ≡ suc n = omega arith in
    subst (λ k. rising f k ≡ rising g k) one
    (rising_more f n ∙ ap (λ o. inserted_if_there o (rising f n)) (h n (omega arith))
    ∙ ap (inserted_if_there (g n)) (rising_same f g n (λ c lt. h c (omega (arith, lt))))
    ∙ sym (rising_more g n))

pub number_of_square : (d : Option ℕ) → option_map (λ (s : Sq). s.0) (option_map square d) ≡ d
number_of_square None = refl
number_of_square (Some d) = refl

-- a channel's distance, where what is kept of it tells it
pub told_in : (m : ℕ) (channels : List (List Sample)) (i j c : ℕ) (dist : Option Sq)
    → dist ≡ option_map square (distance m (series_of (get_or channels c [])) i (series_of (get_or channels c [])) j)
    → option_map (λ (s : Sq). s.0) dist ≡ distance_in m (map series_of channels) i j c
told_in m channels i j c dist e =
    ap (option_map (λ (s : Sq). s.0)) e
    ∙ number_of_square (distance m (series_of (get_or channels c [])) i (series_of (get_or channels c [])) j)
    ∙ ap (λ (a : Series). distance m a i a j) (sym (get_or-map series_of channels c []))

pub value_is : (m k : ℕ) (channels : List (List Sample)) (i j : ℕ) (dists : List (Option Sq))
    → length dists ≡ length channels
    → ((c : ℕ) → c < length dists → distance_at dists c ≡ distance_in m (map series_of channels) i j c)
    → least_sum_of dists k ≡ option_map square (pair_value m k (map series_of channels) i j)
value_is m k channels i j dists long each =
    let count : length dists ≡ length (map series_of channels) = long ∙ sym (length-map channels series_of) in
    ap (λ numbers. option_map square (sum_of_first k numbers))
    (rising_same (distance_at dists) (distance_in m (map series_of channels) i j) (length dists) each
    ∙ ap (rising (distance_in m (map series_of channels) i j)) count)
