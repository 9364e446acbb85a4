use Rattle.std.proofs.Common.{◌≡◌, ◌+◌, ◌^◌, ◌<◌, ◌∙◌, ap, arith, length, length-set, rules, w32, to_z}
use Rattle.std.proofs.Common.{FitsSigned, ℤ, ◌+ℤ◌}
use Rattle.std.specs.Int.{int_wrap}
use Rattle.std.proofs.lemmas.Int.{to_z-of_z, wrapping_add_onto}
use Rattle.mp_sums.specs.Residues.{item}
use Rattle.mp_anytime.proofs.Moves.{each_next}
use Rattle.mp_anytime.proofs.rounded.add_up.Goals as goal

pub loop-k-preserved : goal.loop-k-preserved
loop-k-preserved c =
    let before = c.loop-k.invariant in
    let k = c.loop-k.k in
    let steps = c.args.steps.now in
    let residues = c.loop-k.residues in
    let bits = c.loop-k.residue-bits in
    let fits : FitsSigned w32 (item steps k) = search rules in
    let small : bits < 2 ^ 32 = search rules in
    let there : k < length steps = omega (arith, c.loop-k-test.true, c.loop-k.auto.k-end) in
    let lt : k < length residues = omega (arith, there, before.places, c.requires) in
    record {
      places = length-set residues k (to_z w32 bits) ∙ before.places;
      done = λ count r first each.
          let so_far = before.done count r first each in (
            λ next.
                wrapping_add_onto w32 bits (item steps k) small fits
                ∙ ap (λ z. int_wrap w32 (z +ℤ item steps k)) (so_far.0 (omega (arith, next)))
                ∙ each k there next,
            each_next (λ q z. q < count → z ≡ r q) residues k (to_z w32 bits) lt so_far.1 so_far.0,
          );
    }

pub returns-clause-residues : goal.returns-clause-residues
returns-clause-residues c = λ count r first each k lt less.
    (c.loop-k.invariant.done count r (to_z-of_z w32 c.args.first c.ranges.first ∙ first) each).1 k
    (omega (
      arith,
      lt,
      c.loop-k.invariant.places,
      c.requires,
      c.loop-k-test.false,
      c.loop-k.auto.k-end,
    )) less
