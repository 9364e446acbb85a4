use Rattle.std.proofs.Common.{◌≡◌, ◌+◌, ◌*◌, arith, below_more, ap, sym, ◌∙◌}
use Rattle.std.specs.Prelude.{None, Some, slice_index_or}
use Rattle.mp_defs.specs.Series.{series_of}
use Rattle.mp_defs.specs.Distance.{distance}
use Rattle.mp_defs.specs.DistanceLaws.{symmetric}
use Rattle.mp_scans.specs.Slots.{Covers}
use Rattle.mp_pan.proofs.offers.may_give_any.Goals as goal

pub loop-k-init : goal.loop-k-init
loop-k-init c =
    let a = series_of c.args.lengths.now.samples.now in
    record {
      reached = λ is. sym is ∙ ap (λ n. distance n a c.args.row a c.args.column) (omega arith);
      small = omega (arith, c.requires.small);
      row = λ is k more lt found. absurd (omega (arith, lt));
      column = λ is k more lt found. absurd (omega (arith, lt));
    }

pub loop-k-preserved : goal.loop-k-preserved
loop-k-preserved c =
    let lengths = c.args.lengths.now in
    let a = series_of lengths.samples.now in
    let slots = c.args.slots.now in
    let row = c.args.row in
    let column = c.args.column in
    let inv = c.loop-k.invariant in
    record {
      reached = λ is. c.next_distance-reached.ensures.next (inv.reached is);
      small = c.next_distance-reached.ensures.small;
      row = λ is k more. below_more (λ n. distance (lengths.least + n) a row a column ≡ Some more
          → Covers (slice_index_or slots (4 * row + n) None) column more) c.loop-k.k
          (λ n lt. inv.row is n more lt)
          (λ found. c.may_take.ensures.row c.if-may_take.false more (inv.reached is ∙ found)) k;
      column = λ is k more. below_more (λ n. distance (lengths.least + n) a row a column ≡ Some more
          → Covers (slice_index_or slots (4 * column + n) None) row more) c.loop-k.k
          (λ n lt. inv.column is n more lt)
          (λ found. c.may_take.ensures.column c.if-may_take.false more (inv.reached is ∙ found)) k;
    }

pub returns-clause-row : goal.returns-clause-row
returns-clause-row c _ is k more less found =
    c.loop-k.invariant.row is k more (omega (arith, less, c.loop-k-test.false)) found

pub returns-clause-column : goal.returns-clause-column
returns-clause-column c _ is k more less found =
    let lengths = c.args.lengths.now in
    let a = series_of lengths.samples.now in
    c.loop-k.invariant.column (symmetric lengths.least a c.args.row a c.args.column ∙ is) k more
    (omega (arith, less, c.loop-k-test.false))
    (symmetric (lengths.least + k) a c.args.row a c.args.column ∙ found)
