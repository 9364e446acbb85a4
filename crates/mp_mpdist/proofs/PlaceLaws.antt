-- The laws of MPdist.
use Rattle.std.proofs.Common.{◌≡◌, ℕ, suc, ◌-◌, ◌<◌, ◌≤◌, min, List, [], ◌∷◌, ◌++◌, length, get_or, Option, sym, ◌∙◌}
use Rattle.std.proofs.Common.{arith, ⊎_elim}
use Rattle.std.specs.Prelude.{nat_le, nat_lt, MatchOption}
use Rattle.std.specs.List.{All, Contains}
use Rattle.std.specs.Option.{option_map}
use Rattle.std.proofs.lemmas.Bool.{cases_lt, cases_eq}
use Rattle.std.proofs.lemmas.List.{nil_from_length}
use Rattle.std.proofs.lemmas.Bool.Decides.{nat_tests}
use Rattle.std.proofs.lemmas.List.Elements.{All-nil, All-cons}
use Rattle.std.proofs.lemmas.List.Sums.{count_by-le-length}
use Rattle.mp_nums.specs.declared.nearest.Sq.{Sq}
use Rattle.mp_results.specs.Mpdist.{distances_of, in_rising_order, place_of, at_or_greatest, mpdist_of}
use Rattle.mp_results.specs.Slide.{square}
use Rattle.mp_mpdist.specs.Laws.{IsAtPlace, IsGreatest, MpdistIsAtItsPlace, PlacesHaveOneItem}
use Rattle.mp_mpdist.proofs.Counts.{tally, count_by-cons}
use Rattle.mp_mpdist.proofs.Rising.{less_than, up_to, IsRising-in_rising_order, count_by-in_rising_order}
use Rattle.mp_mpdist.proofs.Rising.{length-in_rising_order, at_place, only_at_place}
use Rattle.mp_mpdist.proofs.Selected.{at_or_greatest-none, at_or_greatest-some}

-- a number is there where fewer are less than it than at most it
Contains-from_counts : (v : ℕ) (ds : List ℕ) → less_than v ds < up_to v ds → Contains ds v
Contains-from_counts v [] fewer = absurd (omega (arith, fewer))
Contains-from_counts v (d ∷ ds) fewer =
    ⊎_elim (λ same. (0, omega arith, same))
    (λ other.
    let as_many : tally (nat_lt d v) ≡ tally (nat_le d v) = grind (arith, nat_tests) in
    let less = count_by-cons (λ e. nat_lt e v) d ds in
    let more = count_by-cons (λ e. nat_le e v) d ds in
    let rest = Contains-from_counts v ds (omega (arith, as_many)) in
    (suc rest.0, omega (arith, rest.1), rest.2))
    (cases_eq d v)

-- all are at most a number where as many are as there are
All-from_count : (v : ℕ) (ds : List ℕ) → length ds ≤ up_to v ds → All (λ d. d ≤ v) ds
All-from_count v [] all = All-nil (λ d. d ≤ v)
All-from_count v (d ∷ ds) all =
    let first = count_by-cons (λ e. nat_le e v) d ds in
    let most = count_by-le-length (λ e. nat_le e v) ds in
    let here : d ≤ v = grind (arith, nat_tests, first, most) in
    let one : tally (nat_le d v) ≤ 1 = grind (arith, nat_tests) in
    All-cons (λ e. e ≤ v) d ds here (All-from_count v ds (omega arith))

-- what stands at a place in rising order
IsAtPlace-in_order : (place : ℕ) (ds : List ℕ) → place < length ds
    → IsAtPlace place ds (get_or (in_rising_order ds) place 0)
IsAtPlace-in_order place ds within =
    let rising = in_rising_order ds in
    let v = get_or rising place 0 in
    let inside : place < length rising = omega (arith, within, length-in_rising_order ds) in
    let counts = at_place rising place (IsRising-in_rising_order ds) inside in
    let less : less_than v ds ≤ place = omega (arith, counts.0, count_by-in_rising_order (λ d. nat_lt d v) ds) in
    let more : place < up_to v ds = omega (arith, counts.1, count_by-in_rising_order (λ d. nat_le d v) ds) in
    record { among = Contains-from_counts v ds (omega arith); at_most = more; less = less }

-- and at the last one
IsGreatest-from_last : (ds : List ℕ) (v : ℕ) → 0 < length ds → IsAtPlace (length ds - 1) ds v → IsGreatest ds v
IsGreatest-from_last ds v some last = record {
  among = last.among;
  at_least = All-from_count v ds (omega (arith, last.at_most));
}

pub one_at_a_place : PlacesHaveOneItem
one_at_a_place place ds a b at_a at_b = sym (there a at_a) ∙ there b at_b
  where
    there : (v : ℕ) → IsAtPlace place ds v → get_or (in_rising_order ds) place 0 ≡ v
    there v at = only_at_place (in_rising_order ds) place v (IsRising-in_rising_order ds)
        (omega (arith, at.less, count_by-in_rising_order (λ d. nat_lt d v) ds))
        (omega (arith, at.at_most, count_by-in_rising_order (λ d. nat_le d v) ds))

abbrev IsItemOrGreatest : ℕ → List ℕ → Option Sq → Type 0
IsItemOrGreatest place ds answer = MatchOption answer (ds ≡ []) (λ v.
    (place < length ds → IsAtPlace place ds v.0) × (length ds ≤ place → IsGreatest ds v.0))

at_its_place : (place : ℕ) (ds : List ℕ)
    → IsItemOrGreatest place ds (option_map square (at_or_greatest place (in_rising_order ds)))
at_its_place place ds = ⊎_elim
    (λ none. let nil : ds ≡ [] = nil_from_length ds (omega (arith, none)) in rw (at_or_greatest-none place ds nil) nil)
    (λ some.
    let rising = in_rising_order ds in
    let long = length-in_rising_order ds in
    rw (at_or_greatest-some place rising (omega arith), long) (
      λ within.
          let here : min place (length ds - 1) ≡ place = omega arith in
          rw here (IsAtPlace-in_order place ds within),
      λ past.
          let here : min place (length ds - 1) ≡ length ds - 1 = omega arith in
          rw here (IsGreatest-from_last ds _ some (IsAtPlace-in_order (length ds - 1) ds (omega arith))),
    ))
    (cases_lt (length ds) 1)

pub mpdist_at_its_place : MpdistIsAtItsPlace
unfolding mpdist_of
mpdist_at_its_place ab ba na nb = at_its_place (place_of na nb (length (ab ++ ba))) (distances_of ab ba)
