-- Arcs by their ends.
use Rattle.std.proofs.Common.{◌≡◌, ℕ, ◌+◌, ◌<◌, ◌≤◌, min, max, Bool, false, List}
use Rattle.std.proofs.Common.{length, get_or, set, length-set, Option, None, Some, refl, sym, ap, ◌∙◌, zero-add, arith}
use Rattle.std.proofs.Common.{⊎_elim, subst}
use Rattle.std.proofs.Common.{get_or-set_same, get_or-set_other, ◌≢◌}
use Rattle.std.specs.Prelude.{◌&&◌, nat_le, nat_lt, slice_get}
use Rattle.std.specs.List.{range_with_len}
use Rattle.std.proofs.lemmas.Bool.{cases_eq}
use Rattle.std.proofs.lemmas.List.{length-map, get_or-map}
use Rattle.std.proofs.lemmas.Bool.Decides.{nat_tests}
use Rattle.std.proofs.lemmas.Option.{get_or_from_slice_get, slice_get_within}
use Rattle.mp_results.specs.Arcs.{passes, arc_count, ArcsAreFew}
use Rattle.mp_arcs.specs.Board.{has_end, ends_at, begun_at, ended_at, CountEnds}
use Rattle.mp_arcs.specs.Laws.{ArcsComeAndGo}
use Rattle.mp_arcs.proofs.Counting.{tally, passing, passing-le, passing-set, passing-same, passing-both, passing-none}

-- an arc from before t on into t
abbrev pub crosses : ℕ → ℕ × Option ℕ → Bool
crosses t (i, None) = false
crosses t (i, Some j) = nat_lt (min i j) t && nat_le t (max i j)

abbrev pub crossing : List (Option ℕ) → ℕ → ℕ
crossing indices t = passing (crosses t) 0 indices

one_arc : (t : ℕ) (y : ℕ × Option ℕ)
    → tally (passes t y) + tally (has_end max t y) ≡ tally (crosses t y) + tally (has_end min t y)
one_arc t (i, None) = refl
one_arc t (i, Some j) = grind (arith, nat_tests)

-- at a place, arcs pass or end that come from before or begin there
pub pass_or_end : (indices : List (Option ℕ)) (t : ℕ)
    → arc_count indices t + ended_at indices t ≡ crossing indices t + begun_at indices t
pass_or_end indices t = passing-both (passes t) (has_end max t) (crosses t) (has_end min t) (one_arc t) 0 indices

same_arc : (t : ℕ) (y : ℕ × Option ℕ) → crosses (t + 1) y ≡ passes t y
same_arc t (i, None) = refl
same_arc t (i, Some j) = grind (arith, nat_tests)

-- those from before are those that pass over the place before
pub crossing-next : (indices : List (Option ℕ)) (t : ℕ) → crossing indices (t + 1) ≡ arc_count indices t
crossing-next indices t = passing-same (crosses (t + 1)) (passes t) (same_arc t) 0 indices

none_before : (y : ℕ × Option ℕ) → tally (crosses 0 y) ≡ 0
none_before (i, None) = refl
none_before (i, Some j) = grind (arith, nat_tests)

pub crossing-first : (indices : List (Option ℕ)) → crossing indices 0 ≡ 0
crossing-first indices = passing-none (crosses 0) 0 indices (λ i d inside. none_before (0 + i, get_or indices i d))

pub come_and_go : ArcsComeAndGo
come_and_go = record {
  at_first = λ indices. omega (arith, pass_or_end indices 0, crossing-first indices);
  then_on = λ indices t. omega (arith, pass_or_end indices (t + 1), crossing-next indices t);
}

pub few : ArcsAreFew
few indices k d inside =
    let places = range_with_len 0 (length indices) in
    let within : k < length places = omega (arith, inside, length-map places (arc_count indices)) in
    let there = get_or-map (arc_count indices) places k 0 d within in
    omega (arith, there, passing-le (passes (get_or places k 0)) 0 indices)

-- at a place, no more than there are windows
pub ends_at-le : (which : ℕ → ℕ → ℕ) (indices : List (Option ℕ)) (t : ℕ) → ends_at which indices t ≤ length indices
ends_at-le which indices t = passing-le (has_end which t) 0 indices

-- one window's ends
pub ends_at-set : (which : ℕ → ℕ → ℕ) (t i : ℕ) (xs : List (Option ℕ)) (x old : Option ℕ) → slice_get xs i ≡ Some old
    → ends_at which (set xs i x) t + tally (has_end which t (i, old))
    ≡ ends_at which xs t + tally (has_end which t (i, x))
ends_at-set which t i xs x old is =
    subst
    (λ y. ends_at which (set xs i x) t + tally (has_end which t (i, y))
    ≡ ends_at which xs t + tally (has_end which t (i, x)))
    (get_or_from_slice_get xs i old None is)
    (subst
    (λ k. ends_at which (set xs i x) t + tally (has_end which t (k, get_or xs i None))
    ≡ ends_at which xs t + tally (has_end which t (k, x)))
    (zero-add i)
    (passing-set (has_end which t) 0 i xs x None (slice_get_within xs i old is)))

-- numbers that count ends, one of which is changed to what is right there
pub CountEnds-changed : (which : ℕ → ℕ → ℕ) (xs ys : List (Option ℕ)) (counts : List ℕ) (at n : ℕ)
    → CountEnds which xs counts
    → length ys ≡ length xs → at < length xs → n ≡ ends_at which ys at
    → ((t : ℕ) → t ≢ at → ends_at which ys t ≡ ends_at which xs t) → CountEnds which ys (set counts at n)
CountEnds-changed which xs ys counts at n kept same inside here others = record {
  as_long = length-set counts at n ∙ kept.as_long ∙ sym same;
  each = λ t within. ⊎_elim
      (λ (e : t ≡ at).
      let there : at < length counts = omega (arith, kept.as_long, inside) in
      let at_t : get_or (set counts at n) at 0 ≡ n = get_or-set_same counts at n 0 there in
      ap (λ k. get_or (set counts at n) k 0) e ∙ at_t ∙ here ∙ ap (ends_at which ys) (sym e))
      (λ (ne : t ≢ at).
      get_or-set_other counts at t n 0 ne ∙ kept.each t (omega (arith, within, same)) ∙ sym (others t ne))
      (cases_eq t at);
}
