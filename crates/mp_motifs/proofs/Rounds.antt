-- A search for motifs is over after as many rounds as there are candidates.
use Rattle.std.proofs.Common.{◌≡◌, ℕ, zero, suc, ◌-◌, ◌<◌, ◌≤◌, Bool, false, cond, List, [], ◌∷◌, length, refl, ap}
use Rattle.std.proofs.Common.{arith}
use Rattle.std.specs.Prelude.{Option, Some, None, Contains, filter, nat_le, nat_lt, not}
use Rattle.std.specs.Int.{abs_diff}
use Rattle.std.specs.List.{list_all}
use Rattle.std.specs.Option.{option_map_or}
use Rattle.std.proofs.lemmas.List.Filters.{length-filter_both}
use Rattle.mp_nums.specs.declared.nearest.Near.{Near}
use Rattle.mp_defs.specs.Profile.{matrix_profile}
use Rattle.mp_defs.specs.Window.{excl}
use Rattle.mp_picks.specs.Picks.{first_of}
use Rattle.mp_picks.specs.PickLaws.{first_is_first, passes_kept}
use Rattle.mp_results.specs.Order.{near_cmp, outside_all}
use Rattle.mp_results.specs.Motifs.{Repeated, matches_of, motifs_among, within_cutoff}
use Rattle.mp_motifs.specs.Laws.{MoreRoundsChangeNothing}
use Rattle.mp_motifs.proofs.MatchLemmas.{near_total}
use Rattle.mp_motifs.proofs.Searching.{BeginsAt, among_none, begins_shut}

-- where one of a list doesn't pass, fewer do
fewer_pass : {X : Type 0} (p : X → Bool) (x : X) (xs : List X) → p x ≡ false → Contains xs x
    → length (filter p xs) < length xs
fewer_pass p x xs fails there =
    let dropped = passes_kept (λ y. not (p y)) x xs (ap not fails) there in
    let both = length-filter_both p (λ y. not (p y)) (λ y. refl) xs in
    let some = dropped.1 in
    omega arith

module _ (matches_at : ℕ → List Near) (zone neighbours : ℕ) (itself : (i : ℕ) → BeginsAt i (matches_at i)) where
  abbrev among : ℕ → ℕ → List Near → List Repeated
  among = motifs_among matches_at zone neighbours

  abbrev left_behind : Near → List Near → List Near
  left_behind first left = outside_all zone (matches_at first.index) left

  -- a candidate that is tried isn't left
  fewer_left : (first : Near) (left : List Near) → first_of near_cmp left ≡ Some first
      → length (left_behind first left) < length left
  fewer_left first left e =
      fewer_pass (λ near. list_all (λ other. nat_lt zone (abs_diff other.index near.index)) (matches_at first.index))
      first left (begins_shut zone first.index (matches_at first.index) (itself first.index))
      (first_is_first near_cmp near_total left first e).0

  -- what one candidate and those that are left behind it give
  abbrev tried : ℕ → ℕ → List Near → Near → List Repeated
  tried rounds count left first =
      let found = matches_at first.index in
      let is_kept = nat_le neighbours (length found - 1) in
      let others = among rounds (cond is_kept count (suc count)) (left_behind first left) in
      cond is_kept (record { start = first.index; matches = found } ∷ others) others

  enough_step : (rounds more count : ℕ) (left : List Near) (r : Option Near) → first_of near_cmp left ≡ r
      → length left ≤ suc rounds
      → ((n : ℕ) (rest : List Near) → length rest ≤ rounds → among more n rest ≡ among rounds n rest)
      → option_map_or (tried more count left) r [] ≡ option_map_or (tried rounds count left) r []
  enough_step rounds more count left None e few ih = refl
  enough_step rounds more count left (Some first) e few ih =
      let found = matches_at first.index in
      let is_kept = nat_le neighbours (length found - 1) in
      let fewer = fewer_left first left e in
      ap (λ others. cond is_kept (record { start = first.index; matches = found } ∷ others) others)
      (ih (cond is_kept count (suc count)) (left_behind first left) (omega arith))

  enough : (rounds more count : ℕ) (left : List Near) → length left ≤ rounds → rounds ≤ more
      → among more count left ≡ among rounds count left
  unfolding motifs_among
  enough zero more count [] few le = among_none matches_at zone neighbours more count
  enough zero more count (near ∷ left) few le = absurd (omega (arith, few))
  enough (suc rounds) zero count left few le = absurd (omega (arith, le))
  enough (suc rounds) (suc more) zero left few le = refl
  enough (suc rounds) (suc more) (suc count) left few le =
      enough_step rounds more count left (first_of near_cmp left) refl few
      (λ n rest few. enough rounds more n rest few (omega (arith, le)))

pub more_rounds : MoreRoundsChangeNothing
more_rounds m a query rounds enough_rounds =
    let candidates = within_cutoff query.cutoff (matrix_profile m a).all in
    enough (matches_of m a query.radius query.max_matches) (excl m) query.neighbours (λ i. refl) (length candidates)
    rounds query.count candidates (omega arith) enough_rounds
