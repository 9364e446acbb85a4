use Rattle.std.proofs.Common.{◌∙◌, List, ℤ, ap, arith, length, pos, rules, sym, w32, FitsSigned, to_z, of_z}
use Rattle.std.proofs.lemmas.Int.{to_z-of_z}
use Rattle.std.proofs.lemmas.List.{ext_get_or, length-set}
use Rattle.mp_sums.specs.Residues.{item}
use Rattle.mp_anytime.proofs.SlotLemmas.{copied_numbers}
use Rattle.mp_anytime.proofs.bounds.Bounds.copy_from.Goals as goal

pub loop-place-preserved : goal.loop-place-preserved
loop-place-preserved c =
    let place = c.loop-place.place in
    let bound : ℤ = to_z w32 (of_z w32 c.at.result) in
    let fits : FitsSigned w32 c.at.result = search rules in
    record {
      places = ap length c.set.ensures ∙ length-set c.loop-place.self place bound ∙ c.loop-place.invariant.places;
      done = λ q lt. ap (λ (xs : List ℤ). item xs q) c.set.ensures
          ∙ copied_numbers place c.loop-place.self c.args.other.now bound
          (omega (arith, c.loop-place.invariant.places, c.loop-place-test.true, c.len-place-end.ensures))
          c.loop-place.invariant.done (to_z-of_z w32 c.at.result fits ∙ c.at.ensures) q lt;
    }

pub returns : goal.returns
returns c =
    c.refresh.ensures
    ∙ ext_get_or (pos 0) c.loop-place.self c.args.other.now (c.loop-place.invariant.places ∙ sym c.requires)
    (λ q lt. c.loop-place.invariant.done q
    (omega (arith, lt, c.loop-place.invariant.places, c.len-place-end.ensures, c.loop-place-test.false)))
