use Rattle.std.proofs.Common.{◌∙◌, arith, length-set, pos, rules, w32, FitsSigned}
use Rattle.std.proofs.lemmas.Int.{to_z-of_z}
use Rattle.mp_sums.specs.Residues.{item, moved}
use Rattle.mp_anytime.proofs.Moves.{moved_same, set_next}
use Rattle.mp_anytime.proofs.rounded.fill_steps.Goals as goal

pub loop-k-preserved : goal.loop-k-preserved
loop-k-preserved c =
    let rows = c.args.rows.now in
    let columns = c.args.columns.now in
    let before = c.loop-k.invariant in
    let fits : FitsSigned w32 c.next_residue.result = search rules in
    record {
      places = length-set c.loop-k.steps c.loop-k.k _ ∙ before.places;
      done = set_next c.loop-k.steps c.loop-k.k _
          (λ q. moved (pos 0) (item rows.differences.now q) (item rows.sums.now q) (item columns.differences.now q)
          (item columns.sums.now q)) (omega (arith, before.places, c.loop-k-test.true)) before.done
          (to_z-of_z w32 c.next_residue.result fits ∙ c.next_residue.ensures
          ∙ moved_same (pos 0) _ _ _ _ _ _ _ _ c.at.ensures.difference c.at.ensures.sum
          c.at-in-loop-k.ensures.difference c.at-in-loop-k.ensures.sum);
    }
