use Rattle.std.proofs.Common.{◌≡◌, ◌+◌, ◌-◌, ◌∷◌, [], ◌++◌, length, map, get_or, arith, ap, ◌∙◌, sym}
use Rattle.std.specs.Prelude.{None}
use Rattle.mp_nums.specs.Near.{nearer_of}
use Rattle.mp_nums.specs.declared.samples.Sample.{Sample}
use Rattle.mp_defs.specs.Series.{series_of}
use Rattle.mp_defs.specs.Profile.{join_entry}
use Rattle.mp_results.specs.Consensus.{counterpart}
use Rattle.std.proofs.Common.{List}
use Rattle.mp_consensus.proofs.Scanning.{row_entry}
use Rattle.mp_consensus.proofs.centres.counterpart.Goals as goal

pub returns : goal.returns
returns c =
    let list = c.args.list.now in
    let m = c.args.m in
    let p = c.args.place in
    let start = c.args.start in
    let b = c.series.result.now in
    let slots = c.in_ok-push.ensures.ok ∙ ap (λ xs. xs ++ None ∷ []) c.new-slots.ensures.items in
    let here : start + 0 ≡ start = omega arith in
    ap (λ xs. get_or xs 0 None) c.as_slice.ensures
    ∙ c.scan_all.ensures.each 0 (omega (arith, ap length slots))
    ∙ ap (λ x. nearer_of x (join_entry m (series_of c.rows_of.result.now) (series_of b) 0))
    (ap (λ xs. get_or xs 0 None) slots)
    ∙ ap (λ (rows : List Sample). join_entry m (series_of rows) (series_of b) 0) c.rows_of.ensures
    ∙ sym (row_entry m list p c.args.other start (start + 1 + m - 1) 0 b (omega arith) c.if-other-place.false
    c.series.ensures)
    ∙ ap (λ i. counterpart m (map series_of list) p i c.args.other) here
