use Rattle.std.proofs.Common.{◌++◌, ap, sym, ◌∙◌}
use Rattle.mp_topk.proofs.Listing.{no_window, one_window}
use Rattle.mp_topk.proofs.lists.push_slot.Goals as goal

pub returns-in_ok-push : goal.returns-in_ok-push
returns-in_ok-push c = c.in_ok-push.ensures.ok
    ∙ ap (λ xs. c.args.list.now.items ++ xs) (sym (one_window c.args.slot _ c.in-Some.is))

pub returns-in_default : goal.returns-in_default
returns-in_default c = no_window c.args.slot c.args.list.now.items c.in_default.is
