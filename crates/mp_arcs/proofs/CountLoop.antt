-- Arcs counted from place to place by those that begin and end there.
use Rattle.std.proofs.Common.{◌≡◌, ℕ, ◌+◌, ◌-◌, ◌<◌, ◌≤◌, List, [], ◌∷◌, ◌++◌, length, map, get_or, Option, refl, sym}
use Rattle.std.proofs.Common.{ap, ◌∙◌, arith, zero-add}
use Rattle.std.specs.List.{range_with_len}
use Rattle.std.proofs.lemmas.List.FromFn.{map-range_with_len_more}
use Rattle.mp_series.specs.declared.limits.TheConstants.{MAX_SAMPLES}
use Rattle.mp_results.specs.Arcs.{arc_count}
use Rattle.mp_arcs.specs.Board.{AreEnds}
use Rattle.mp_arcs.proofs.Counting.{passing-le}
use Rattle.mp_arcs.proofs.EndLemmas.{crosses, crossing, pass_or_end, crossing-next, crossing-first}

pub record AreCounted (indices : List (Option ℕ)) (counts : List ℕ) (now place : ℕ) : Type 0 where
  pub now_is : now ≡ crossing indices place
  pub counts_are : counts ≡ map (arc_count indices) (range_with_len 0 place)

pub AreCounted-none : (indices : List (Option ℕ)) → AreCounted indices [] 0 0
AreCounted-none indices = record { now_is = sym (crossing-first indices); counts_are = refl }

module _ (indices : List (Option ℕ)) (begun ended counts : List ℕ) (now place : ℕ) (kept : AreEnds indices begun ended)
    (there : place < length begun) (counted : AreCounted indices counts now place) where
  inside : place < length indices
  inside = omega (arith, there, kept.begun_is.as_long)

  pub now_bound : now ≤ MAX_SAMPLES
  now_bound = omega (arith, counted.now_is, passing-le (crosses place) 0 indices, kept.few)

  pub ended_bound : get_or ended place 0 ≤ now + get_or begun place 0
  ended_bound = omega (
    arith,
    counted.now_is,
    kept.begun_is.each place inside,
    kept.ended_is.each place inside,
    pass_or_end indices place,
  )

  passing_here : now + get_or begun place 0 - get_or ended place 0 ≡ arc_count indices place
  passing_here = omega (
    arith,
    counted.now_is,
    kept.begun_is.each place inside,
    kept.ended_is.each place inside,
    pass_or_end indices place,
  )

  pub AreCounted-next : AreCounted indices (counts ++ (now + get_or begun place 0 - get_or ended place 0) ∷ [])
      (now + get_or begun place 0 - get_or ended place 0) (place + 1)
  AreCounted-next = record {
    now_is = passing_here ∙ sym (crossing-next indices place);
    counts_are = ap (λ n. counts ++ n ∷ []) passing_here
        ∙ ap (λ ns. ns ++ arc_count indices place ∷ []) counted.counts_are
        ∙ sym (map-range_with_len_more (arc_count indices) 0 place place (zero-add place));
  }
