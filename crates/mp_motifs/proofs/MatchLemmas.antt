-- The windows chosen by their distances are the matches.
use Rattle.std.proofs.Common.{◌≡◌, ℕ, ◌+◌, ◌-◌, ◌≤◌, Bool, true, false, cond, List, [], ◌∷◌, ◌++◌, length, map, refl}
use Rattle.std.proofs.Common.{sym, ap, ◌∙◌}
use Rattle.std.proofs.Common.{subst, arith}
use Rattle.std.specs.Prelude.{Option, Some, None, Contains, ◌&&◌, slice_get, filter, filter_map, nat_lt, nat_le}
use Rattle.std.specs.Cmp.{IsTotalOrder, then_total, on_total, nat_cmp_total}
use Rattle.std.specs.Int.{abs_diff}
use Rattle.std.specs.List.{enumerate_from, cons_option, list_all}
use Rattle.std.specs.Option.{option_map, option_to_list}
use Rattle.std.specs.Ordering.{nat_cmp, ordering_then}
use Rattle.std.specs.declared.cmp.Ordering.{Ordering}
use Rattle.std.specs.declared.cmp.Ordering.TheVariants.{Less, Equal, Greater}
use Rattle.std.proofs.lemmas.Bool.{le-leb, leb-true}
use Rattle.std.proofs.lemmas.List.Elements.{All-weaker}
use Rattle.mp_nums.specs.declared.nearest.Near.{Near}
use Rattle.mp_nums.specs.declared.nearest.Sq.{Sq}
use Rattle.mp_picks.specs.Picks.{picks}
use Rattle.mp_picks.specs.Laws.{AreToldApart, IsRetelling}
use Rattle.mp_picks.specs.Candidates.{by_key, place_of, candidate_at, candidates}
use Rattle.mp_picks.specs.CandidateLaws.{second_ties, same_number}
use Rattle.mp_picks.specs.PickLaws.{picks_described}
use Rattle.mp_picks.specs.Retelling.{picks_retold}
use Rattle.mp_results.specs.Order.{near_cmp, index_of, outside_all}
use Rattle.mp_results.specs.Matches.{near_within, within_radius, given, matches}
use Rattle.mp_motifs.specs.Described.{AreMatches}
use Rattle.mp_motifs.specs.Retold.{match_key, near_of}
use Rattle.mp_motifs.proofs.Listed.{ComesFrom, source, listed}

pub near_total : IsTotalOrder near_cmp
near_total = then_total (on_total (λ (near : Near). near.dist.0) nat_cmp_total)
    (on_total (λ (near : Near). near.index) nat_cmp_total)

-- those that pass a test
abbrev kept : {Y : Type 0} → (Y → Bool) → Option Y → Option Y
kept q None = None
kept q (Some y) = cond (q y) (Some y) None

kept_cons : {Y : Type 0} (q : Y → Bool) (o : Option Y) (ys : List Y) → filter q (cons_option o ys) ≡ cons_option
    (kept q o) (filter q ys)
kept_cons q None ys = refl
kept_cons q (Some y) ys = by_test (q y)
  where
    by_test : (b : Bool) → cond b (y ∷ filter q ys) (filter q ys) ≡ cons_option (cond b (Some y) None) (filter q ys)
    by_test true = refl
    by_test false = refl

kept_listed : {X Y : Type 0} (q : Y → Bool) (h : X → Option Y) (xs : List X) → filter q (filter_map h xs) ≡ filter_map
    (λ x. kept q (h x)) xs
kept_listed q h [] = refl
kept_listed q h (x ∷ xs) = kept_cons q (h x) (filter_map h xs) ∙ ap (cons_option (kept q (h x))) (kept_listed q h xs)

module _ (zone radius : ℕ) where
  abbrev is_outside : Option Near → Near → Bool
  is_outside chosen near = list_all (λ other. nat_lt zone (abs_diff other.index near.index)) (option_to_list chosen)

  alone : (i : ℕ) (d : Sq) (b : Bool) → option_map near_of (candidate_at (i, cond b (Some d) None)) ≡ kept
      (is_outside None) (cond b (Some (record { dist = d; index = i })) None)
  alone i d true = refl
  alone i d false = refl

  beside : (near : Near) (i : ℕ) (d : Sq) (b c : Bool) → nat_lt zone (abs_diff near.index i) ≡ c
      → option_map near_of (candidate_at (i, cond (b && c) (Some d) None)) ≡ kept (is_outside (Some near))
      (cond b (Some (record { dist = d; index = i })) None)
  beside near i d false c e = refl
  beside near i d true false e = ap (λ t. cond (t && true) (Some (record { dist = d; index = i })) None) (sym e)
  beside near i d true true e = ap (λ t. cond (t && true) (Some (record { dist = d; index = i })) None) (sym e)

  says : (chosen : Option Near) (i : ℕ) (x : Option Sq)
      → option_map near_of (candidate_at (i, match_key zone radius chosen (i, x))) ≡ kept (is_outside chosen)
      (near_within radius (i, x))
  says None i None = refl
  says None i (Some d) = alone i d (nat_le d.0 radius)
  says (Some near) i None = refl
  says (Some near) i (Some d) = beside near i d (nat_le d.0 radius) (nat_lt zone (abs_diff near.index i)) refl

  -- what is chosen by the order of distances
  module _ (cmp : Sq → Sq → Ordering) (same : (a b : Sq) → cmp a b ≡ nat_cmp a.0 b.0) where
    retelling : IsRetelling cmp near_cmp index_of near_of
    retelling = record {
      order_is = λ a b. ap (λ o. ordering_then o (nat_cmp a.place b.place)) (sym (same a.key b.key));
      place_is = λ a. refl;
    }

    pub chosen_are_matches : (dist keys : List (Option Sq)) (first : Option ℕ) (max room : ℕ)
        → keys ≡ map (match_key zone radius (given dist first)) (enumerate_from 0 dist)
        → room ≡ max - length (option_to_list (given dist first))
        → option_to_list (given dist first) ++ map near_of (picks (by_key cmp) place_of zone room (candidates keys))
        ≡ matches dist zone first radius max
    chosen_are_matches dist keys first max room e f =
        let chosen = given dist first in
        let own = λ (w : ℕ × Option Sq). kept (is_outside chosen) (near_within radius w) in
        let told = (picks_retold cmp near_cmp index_of near_of retelling (match_key zone radius chosen) own
        (says chosen) dist zone room).0 in
        ap (λ ys. option_to_list chosen ++ ys)
        (ap (λ ks. map near_of (picks (by_key cmp) place_of zone room (candidates ks))) e ∙ told
        ∙ ap (picks near_cmp index_of zone room)
        (sym (kept_listed (is_outside chosen) (near_within radius) (enumerate_from 0 dist)))
        ∙ ap (λ n. picks near_cmp index_of zone n
        (outside_all zone (option_to_list chosen) (within_radius radius dist))) f)

pub near_told_apart : (xs : List Near) → AreToldApart near_cmp xs
near_told_apart xs x y h k e =
    let index = same_number x.index y.index (second_ties (nat_cmp x.dist.0 y.dist.0) (nat_cmp x.index y.index) e) in
    let dist = same_number x.dist.0 y.dist.0 (first_ties (nat_cmp x.dist.0 y.dist.0) (nat_cmp x.index y.index) e) in
    λ k. record { dist = record { 0 = dist k }; index = index k }
  where
    first_ties : (a b : Ordering) → ordering_then a b ≡ Equal → a ≡ Equal
    first_ties Less b e = cc
    first_ties Equal b e = refl
    first_ties Greater b e = cc

passing_all : {Y : Type 0} (ys : List Y) → filter (λ y. true) ys ≡ ys
passing_all [] = refl
passing_all (y ∷ ys) = ap (λ zs. y ∷ zs) (passing_all ys)

-- what a window within the radius is
pub within_is : (radius : ℕ) (dist : List (Option Sq)) (near : Near) → Contains (within_radius radius dist) near
    → (slice_get dist near.index ≡ Some (Some near.dist)) × (near.dist.0 ≤ radius)
within_is radius dist near h = by_source (source (near_within radius) 0 dist near h)
  where
    by_test : (k : ℕ) (d : Sq) (b : Bool) → nat_le d.0 radius ≡ b → slice_get dist k ≡ Some (Some d)
        → cond b (Some (record { dist = d; index = 0 + k })) None ≡ Some near
        → (slice_get dist near.index ≡ Some (Some near.dist)) × (near.dist.0 ≤ radius)
    by_test k d false t e f = cc
    by_test k d true t e f =
        let place : 0 + k ≡ k = omega arith in
        let found : Near = record { dist = d; index = 0 + k } in
        let same : found ≡ near = cc in
        subst (λ (w : Near). (slice_get dist w.index ≡ Some (Some w.dist)) × (w.dist.0 ≤ radius)) same
        (ap (slice_get dist) place ∙ e, leb-true d.0 radius t)

    by_source : ComesFrom (near_within radius) 0 dist near → (slice_get dist near.index ≡ Some (Some near.dist))
        × (near.dist.0 ≤ radius)
    by_source (k, None, e, f) = cc
    by_source (k, Some d, e, f) = by_test k d (nat_le d.0 radius) refl e f

within_has : (radius : ℕ) (dist : List (Option Sq)) (start : ℕ) (d : Sq) → slice_get dist start ≡ Some (Some d)
    → d.0 ≤ radius → Contains (within_radius radius dist) (record { dist = d; index = start })
within_has radius dist start d e le =
    let place : 0 + start ≡ start = omega arith in
    listed (near_within radius) 0 dist (record { dist = d; index = start }) (
      start,
      Some d,
      e,
      ap (λ b. cond b (Some (record { dist = d; index = 0 + start })) None) (le-leb d.0 radius le)
          ∙ ap (λ n. Some (record { dist = d; index = n })) place,
    )

pub matches_are_described : (dist : List (Option Sq)) (zone radius max : ℕ)
    → AreMatches dist zone radius max (matches dist zone None radius max)
matches_are_described dist zone radius max =
    let all = within_radius radius dist in
    let list = picks near_cmp index_of zone max all in
    let picked = (picks_described near_cmp index_of zone max all list near_total (near_told_apart all)).1 refl in
    let whole : max - 0 ≡ max = omega arith in
    let described : AreMatches dist zone radius max list = record {
      few = picked.few;
      within = All-weaker (Contains all) (λ near. (slice_get dist near.index ≡ Some (Some near.dist))
          × (near.dist.0 ≤ radius)) (within_is radius dist) list picked.among;
      rising = picked.rising;
      apart = picked.apart;
      others = λ start d e le. picked.others (record { dist = d; index = start }) (within_has radius dist start d e le);
    } in
    subst (AreMatches dist zone radius max) (ap (picks near_cmp index_of zone max) (sym (passing_all all))
    ∙ ap (λ n. picks near_cmp index_of zone n (outside_all zone [] all)) (sym whole)) described
