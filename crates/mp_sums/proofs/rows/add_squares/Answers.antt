use Rattle.std.proofs.Common.{◌+◌, ◌∙◌, arith, rules, ap, w32, FitsSigned}
use Rattle.std.specs.Int.{int_wrap}
use Rattle.std.proofs.lemmas.Int.{to_z-of_z}
use Rattle.std.proofs.lemmas.List.{length-set}
use Rattle.mp_sums.specs.Sums.{square_sum}
use Rattle.mp_sums.specs.Residues.{residue, item}
use Rattle.mp_sums.proofs.FillLemmas.{set_next}
use Rattle.mp_sums.proofs.RowLemmas.{set_left}
use Rattle.mp_sums.proofs.rows.add_squares.Goals as goal

pub loop-t-preserved : goal.loop-t-preserved
loop-t-preserved c =
    let t = c.loop-t.t in
    let before = c.loop-t.invariant in
    let here = item c.loop-t.residues t in
    let there = item c.args.columns.now t in
    let old : FitsSigned w32 here = search rules in
    let column : FitsSigned w32 there = search rules in
    let new : FitsSigned w32 c.with_square.result = search rules in
    record {
      places = length-set _ _ _ ∙ before.places;
      done = λ m x i y j e h k. set_next c.loop-t.residues t _ (λ q. residue (square_sum (m + 1) x i y (j + q)))
          (omega arith) (before.done m x i y j e h k)
          (to_z-of_z w32 c.with_square.result new
          ∙ c.with_square.ensures m x i y (j + t)
          (to_z-of_z w32 here old ∙ before.left t (omega arith) ∙ k.each t (omega (arith, before.places)))
          e
          (to_z-of_z w32 there column ∙ h.each t (omega (arith, before.places, c.requires))
          ∙ ap (λ p. int_wrap w32 (y p)) (omega arith)));
      left = set_left c.loop-t.residues c.args.residues.now t _ before.left;
    }

pub returns-clause-residues : goal.returns-clause-residues
returns-clause-residues c = λ m x i y j e h k.
    let fits : FitsSigned w32 c.args.row = search rules in
    record {
      each = λ t lt.
          c.loop-t.invariant.done m x i y j (to_z-of_z w32 c.args.row fits ∙ e) h k t (omega (
            arith,
            lt,
            c.loop-t.auto.t-end,
            c.loop-t-test.false,
            c.loop-t.invariant.places,
          ));
    }
