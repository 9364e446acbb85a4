use Rattle.std.proofs.Common.{◌+◌, ◌-◌, ◌∙◌, arith, rules, ap, subst, length, w32, FitsSigned, refl}
use Rattle.std.specs.Int.{int_wrap}
use Rattle.std.proofs.lemmas.Int.{to_z-of_z}
use Rattle.mp_sums.specs.Residues.{item}
use Rattle.mp_sums.specs.Rows.{AreResidues}
use Rattle.mp_sums.proofs.RowLemmas.{part_numbers}
use Rattle.mp_sums.proofs.rows.add_numbers.Goals as goal

pub loop-k-init : goal.loop-k-init
loop-k-init c = record {
  places = refl;
  done = λ m x i y j h k r. subst (λ n. AreResidues n x i y j c.args.residues.now) (omega arith) r;
}

pub loop-k-preserved : goal.loop-k-preserved
loop-k-preserved c =
    let k = c.loop-k.k in
    let before = c.loop-k.invariant in
    let number = item c.args.rows.now k in
    let fits : FitsSigned w32 number = search rules in
    record {
      places = c.add_squares.ensures.places ∙ before.places;
      done = λ m x i y j h g r.
          subst (λ n. AreResidues n x i y j c.add_squares.new.residues) (omega arith)
          (c.add_squares.ensures.residues (m + k) x i y j
          (to_z-of_z w32 number fits ∙ h.each k (omega arith) ∙ ap (λ p. int_wrap w32 (x p)) (omega arith))
          (part_numbers y j m k (k + length c.loop-k.residues - k) c.args.columns.now g
          (omega (arith, before.places, c.requires, c.loop-k-test.true)))
          (before.done m x i y j h g r));
    }

pub returns-clause-residues : goal.returns-clause-residues
returns-clause-residues c = λ m x i y j h g r.
    subst (λ n. AreResidues (m + n) x i y j c.loop-k.residues) (omega arith) (c.loop-k.invariant.done m x i y j h g r)
