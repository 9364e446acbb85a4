use Rattle.std.proofs.Common.{◌++◌, ap, ◌∙◌, sym, append_assoc}
use Rattle.std.specs.Prelude.{flat_map}
use Rattle.std.specs.List.{range_with_len}
use Rattle.mp_replies.specs.ProfileCommand.{live_row_at}
use Rattle.mp_report.proofs.RowLemmas.{rows_more}
use Rattle.mp_report.proofs.profiles.push_live_rows.Goals as goal

pub loop-place-preserved : goal.loop-place-preserved
loop-place-preserved c =
    let row =
    live_row_at c.args.first (record { all = c.args.all.now; left = c.args.left.now; right = c.args.right.now }) in
    let before = flat_map row (range_with_len 0 c.loop-place.place) in
    c.in_ok-push_row.ensures
    ∙ (ap (λ xs. xs ++ row c.loop-place.place) c.loop-place.invariant
    ∙ (append_assoc c.args.text.now.items before (row c.loop-place.place)
    ∙ ap (λ xs. c.args.text.now.items ++ xs) (sym (rows_more row c.loop-place.place))))
