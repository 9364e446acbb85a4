use Rattle.std.proofs.Common.{◌+◌, ◌-◌, length, arith, ap, subst, ◌∙◌}
use Rattle.mp_defs.specs.Series.{series_of}
use Rattle.mp_defs.specs.Window.{windows}
use Rattle.mp_pan.specs.Extremes.{extremes_of}
use Rattle.mp_pan.specs.Ranges.{HaveTaken, best_at, from_to, unusual_at}
use Rattle.mp_pan.specs.Spans.{column_at}
use Rattle.mp_pan.proofs.Putting.{IsPut, best_is, still_for_lengths, taking_begins, taking_goes_on, unusual_is}
use Rattle.mp_pan.proofs.found.take_each.Goals as goal

pub loop-k-init : goal.loop-k-init
loop-k-init c =
    let first = c.args.lengths.now.least - c.args.lo in
    let a = series_of c.args.lengths.now.samples.now in
    record {
      best = taking_begins (best_at c.args.lo a) first c.args.best.now c.requires.best;
      discord = taking_begins (unusual_at c.args.lo a) first c.args.discord.now c.requires.discord;
      best_places = c.requires.best;
      discord_places = c.requires.discord;
    }

pub loop-k-preserved : goal.loop-k-preserved
loop-k-preserved c =
    let lengths = c.args.lengths.now in
    let first = lengths.least - c.args.lo in
    let a = series_of lengths.samples.now in
    let k = c.loop-k.k in
    let column = column_at (windows (length lengths.samples.now) lengths.least) k c.args.slots.now in
    let found = c.find_extremes-found.result in
    let is = c.find_extremes-found.ensures
    ∙ ap (λ w. extremes_of (column_at w k c.args.slots.now)) c.windows-windows.ensures in
    let entries = c.requires.entries k c.loop-k-test.true in
    let best_put : IsPut (first + k) found.best c.loop-k.best c.put.new.self =
    subst (λ n. IsPut (n + k) found.best c.loop-k.best c.put.new.self) c.from-first.ensures record {
      starts = c.put.ensures.starts;
      nearest = c.put.ensures.nearest;
      starts_spare = c.put.ensures.starts_spare;
      nearest_spare = c.put.ensures.nearest_spare;
    } in
    let discord_put : IsPut (first + k) found.discord c.loop-k.discord c.put-in-loop-k.new.self =
    subst (λ n. IsPut (n + k) found.discord c.loop-k.discord c.put-in-loop-k.new.self) c.from-first.ensures record {
      starts = c.put-in-loop-k.ensures.starts;
      nearest = c.put-in-loop-k.ensures.nearest;
      starts_spare = c.put-in-loop-k.ensures.starts_spare;
      nearest_spare = c.put-in-loop-k.ensures.nearest_spare;
    } in
    let best = taking_goes_on (best_at c.args.lo a) first k found.best c.args.best.now c.loop-k.best c.put.new.self
    c.requires.best (omega (arith, c.requires.least, c.requires.last, c.loop-k-test.true))
    (best_is c.args.lo lengths.least k a column found c.requires.least is entries) c.loop-k.invariant.best best_put in
    let discord = taking_goes_on (unusual_at c.args.lo a) first k found.discord c.args.discord.now c.loop-k.discord
    c.put-in-loop-k.new.self c.requires.discord
    (omega (arith, c.requires.least, c.requires.last, c.loop-k-test.true))
    (unusual_is c.args.lo lengths.least k a column found c.requires.least is entries) c.loop-k.invariant.discord
    discord_put in
    record {
      best = best;
      discord = discord;
      best_places = still_for_lengths (from_to first (first + (k + 1))) (best_at c.args.lo a) c.args.best.now
          c.put.new.self c.requires.best best;
      discord_places = still_for_lengths (from_to first (first + (k + 1))) (unusual_at c.args.lo a)
          c.args.discord.now c.put-in-loop-k.new.self c.requires.discord discord;
    }

pub returns-clause-best : goal.returns-clause-best
returns-clause-best c =
    let first = c.args.lengths.now.least - c.args.lo in
    let a = series_of c.args.lengths.now.samples.now in
    subst (λ n. HaveTaken (from_to first (first + n)) (best_at c.args.lo a) c.args.best.now c.loop-k.best)
    (omega (arith, c.loop-k-test.false, c.loop-k.auto.k-end)) c.loop-k.invariant.best

pub returns-clause-discord : goal.returns-clause-discord
returns-clause-discord c =
    let first = c.args.lengths.now.least - c.args.lo in
    let a = series_of c.args.lengths.now.samples.now in
    subst (λ n. HaveTaken (from_to first (first + n)) (unusual_at c.args.lo a) c.args.discord.now c.loop-k.discord)
    (omega (arith, c.loop-k-test.false, c.loop-k.auto.k-end)) c.loop-k.invariant.discord
