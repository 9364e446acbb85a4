use Rattle.std.proofs.Common.{length, map, sym, ◌∙◌}
use Rattle.std.proofs.lemmas.List.{length-map}
use Rattle.mp_defs.specs.Series.{series_of}
use Rattle.mp_results.specs.Multi.{distance_in}
use Rattle.mp_multi.proofs.FreeLemmas.{no_value}
use Rattle.mp_multi.proofs.bounds.Level.has_no_value.Goals as goal

pub returns : goal.returns
returns c = λ few other.
    let level = c.args.self.now in
    let ch = level.plan.channels in
    no_value ch.k c.count_free.result (length level.coarse.now) (length (map series_of ch.list.now))
    (distance_in ch.m (map series_of ch.list.now) c.args.window other) few
    (level.are.count ∙ sym (length-map ch.list.now series_of)) (c.count_free.ensures.bound other)
