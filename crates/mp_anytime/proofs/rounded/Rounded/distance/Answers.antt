use Rattle.std.proofs.Common.{◌≡◌, ◌∙◌, ap, arith, length, rules, subst, w32, FitsSigned}
use Rattle.std.specs.Prelude.{List, Some}
use Rattle.std.proofs.lemmas.Int.{to_z-of_z}
use Rattle.mp_nums.specs.declared.samples.Sample.{Sample}
use Rattle.mp_defs.specs.Distance.{distance}
use Rattle.mp_defs.specs.Series.{series_of}
use Rattle.mp_defs.specs.SeriesLaws.{series_are_of_samples}
use Rattle.mp_defs.specs.Window.{windows}
use Rattle.mp_sums.specs.Residues.{residue}
use Rattle.mp_sums.specs.ResidueLaws.{residues_tell}
use Rattle.mp_anytime.specs.Rounded.{rounded_sum, series_in}
use Rattle.mp_anytime.proofs.rounded.Rounded.distance.Goals as goal

pub returns-then-self-clause-distance : goal.returns-then-self-clause-distance
returns-then-self-clause-distance c = λ d there.
    let own = c.args.self.now in
    let plan = own.plan in
    let m = plan.grid.m in
    let a = series_in plan in
    let row = c.args.row in
    let column = c.args.column in
    let exact = plan.exact c.if-self.true in
    let fits : FitsSigned w32 c.args.residue = search rules in
    let count : length own.free.now ≡ windows (length plan.grid.rows.now) m =
    own.lists.marks.places ∙ series_are_of_samples.windows_are m plan.grid.rows.now in
    let in_own : distance m a row a column ≡ Some d =
    subst (λ (xs : List Sample). distance m a row (series_of xs) column ≡ Some d) own.own there in
    c.sum_of.ensures.sum d
    (exact.few_bits.each row column d (omega (arith, count, c.requires.order, c.requires.column, plan.some_samples))
    (omega (arith, count, c.requires.column, plan.some_samples, ap length own.own)) there)
    (to_z-of_z w32 c.args.residue fits ∙ c.requires.residue
    ∙ ap (λ s. residue (rounded_sum m s a row column)) exact.unrounded
    ∙ residues_tell.unrounded m a row a column d in_own)
