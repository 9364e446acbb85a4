use Rattle.std.proofs.Common.{◌≡◌, ◌+◌, ap, ◌∙◌}
use Rattle.mp_series.specs.Samples.{missing_before}
use Rattle.mp_series.proofs.MissingCounts.{free_by_counts}
use Rattle.mp_series.proofs.counted_list.Samples.free.Goals as goal

pub returns : goal.returns
returns c =
    let items = c.args.self.now.items in
    let end : c.missing_before-2.result ≡ missing_before items (c.args.i + c.args.m) =
    c.missing_before-2.ensures.count ∙ ap (λ m. missing_before items (c.args.i + m)) c.from.ensures in
    rw (c.missing_before.ensures.count, end) (free_by_counts items c.args.i c.args.m)
