use Rattle.std.proofs.Common.{◌+◌, sym, subst, arith}
use Rattle.mp_defs.specs.Series.{series_of}
use Rattle.mp_defs.specs.Band.{is_allowed_in}
use Rattle.mp_plain.specs.declared.profiles.Row.{Row}
use Rattle.mp_plain.proofs.Steps.{distance_found, distance_missing}
use Rattle.mp_plain.proofs.Rows.{IsRowBelow, row_begins, row_skips, row_misses, row_takes, row_ends}
use Rattle.mp_plain.proofs.kept.row_of.Goals as goal
use Rattle.mp_plain.proofs.kept.row_of.Goals.{then-is_compared+in-Some, then-is_compared+in_default, else-is_compared}

pub loop-j-init : goal.loop-j-init
loop-j-init c = row_begins _ _ _ _

pub loop-j-preserved : goal.loop-j-preserved
loop-j-preserved c =
    let is_below : Row → Type 0 = λ row. IsRowBelow (is_allowed_in c.args.keep c.args.m) c.args.m
    (series_of c.args.samples.now) c.args.i
    (c.loop-j.j + 1) row in
    let before = c.loop-j.invariant in
    elim c.if-is_compared.branch [
      | then-is_compared+in-Some w ↦ subst is_below (sym w.row-is)
          (row_takes _ _ _ _ _ _ _ _ before (sym w.if-is_compared.ensures)
          (distance_found _ _ w.in-Some.ensures.value) w.offer.ensures.all w.offer.ensures.left
          w.offer.ensures.right)
      | then-is_compared+in_default w ↦ subst is_below (sym w.row-is)
          (row_misses _ _ _ _ _ _ before (distance_missing _ w.in_default.ensures.value))
      | else-is_compared w ↦ subst is_below (sym w.row-is) (row_skips _ _ _ _ _ _ before (sym w.if-is_compared.ensures))
    ]

pub returns : goal.returns
returns c =
    let whole = row_ends _ _ _ _ _ _ c.loop-j.invariant (omega arith) in
    record { all = whole.all; left = whole.left; right = whole.right }
