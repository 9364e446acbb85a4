use Rattle.std.proofs.Common.{rules}
use Rattle.mp_replies.specs.Text.{entry_line}
use Rattle.mp_report.proofs.ListLemmas.{numbered_lines_grow}
use Rattle.mp_report.proofs.slots.push_entries.Goals as goal

pub loop-start-preserved : goal.loop-start-preserved
loop-start-preserved c =
    numbered_lines_grow entry_line c.args.slots.now c.loop-start.start _ _ _ _ (search rules) c.loop-start.invariant
    c.in_ok-push_entry.ensures
