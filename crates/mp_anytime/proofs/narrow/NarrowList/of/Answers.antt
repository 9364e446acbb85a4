use Rattle.std.proofs.Common.{◌≡◌, ℕ, ◌<◌, List, Bool, true, false, get_or, subst, arith, length}
use Rattle.mp_anytime.specs.Rounded.{series_in}
use Rattle.mp_anytime.specs.Narrow.{AreTurns}
use Rattle.mp_anytime.proofs.NarrowLemmas.{unrounded_narrow}
use Rattle.mp_anytime.proofs.narrow.NarrowList.of.Goals as goal

pub invariant_of-result : goal.invariant_of-result
invariant_of-result c =
    let plan = c.args.plan.now in
    let numbers = c.in_ok-numbers.numbers.items in
    record {
      turning = λ turns e. subst (λ (v : List Bool). AreTurns v turns.items) c.as_slice.ensures.value
          (c.in_ok-turns.ensures.turning turns e);
      whole = λ none. subst (λ (v : List Bool). (k : ℕ) → k < length v → get_or v k false ≡ true)
          c.as_slice.ensures.value (c.in_ok-turns.ensures.whole none);
      lists = record {
        exact = c.requires.exact;
        own = c.requires.own;
        marks = c.requires.free;
        narrow = unrounded_narrow plan.rounding.shift (series_in plan) (length plan.grid.rows.now) numbers
            (plan.exact c.requires.exact).unrounded c.requires.near c.in_ok-numbers.ensures.numbers;
        all_numbers = omega (arith, c.in_ok-numbers.ensures.places);
      };
    }
