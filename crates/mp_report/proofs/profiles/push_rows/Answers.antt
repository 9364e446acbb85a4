use Rattle.std.proofs.Common.{◌++◌, ap, ◌∙◌, sym, append_assoc}
use Rattle.std.specs.Prelude.{flat_map}
use Rattle.std.specs.List.{range_with_len}
use Rattle.mp_replies.specs.ProfileCommand.{row_at}
use Rattle.mp_replies.specs.Profiles.{columns_in}
use Rattle.mp_report.proofs.RowLemmas.{rows_more}
use Rattle.mp_report.proofs.profiles.push_rows.Goals as goal

pub loop-start-preserved : goal.loop-start-preserved
loop-start-preserved c =
    let row = row_at (columns_in c.args.profile.now) in
    let before = flat_map row (range_with_len 0 c.loop-start.start) in
    let pushed =
    rw (c.all-all.ensures.column, c.left-left.ensures, c.right-right.ensures) at c.in_ok-push_row.ensures in
    pushed
    ∙ (ap (λ xs. xs ++ row c.loop-start.start) c.loop-start.invariant
    ∙ (append_assoc c.args.text.now.items before (row c.loop-start.start)
    ∙ ap (λ xs. c.args.text.now.items ++ xs) (sym (rows_more row c.loop-start.start))))
