use Rattle.std.proofs.Common.{◌≡◌, List, ◌++◌, ◌∷◌, [], rules, sym, subst}
use Rattle.mp_nums.specs.declared.samples.Sample.{Sample}
use Rattle.mp_defs.specs.Series.{series_of}
use Rattle.mp_defs.specs.Profile.{matrix_profile}
use Rattle.mp_stream.specs.Blocks.{AreKnown}
use Rattle.mp_stream.specs.Streams.{IsKnown}
use Rattle.mp_stream.proofs.Growing.{front_is, known_same}
use Rattle.mp_stream.proofs.streams.Stream.append.Goals as goal

pub returns-clause-known : goal.returns-clause-known
returns-clause-known c = λ known was.
    let stream = c.self.inside in
    let front = stream.samples.items in
    let pushed = c.push.new.self.items in
    let more : pushed ≡ front ++ c.args.sample ∷ [] = search rules in
    let here : AreKnown known (matrix_profile stream.m (series_of front)).all stream.growing.entries.profile.changed =
    subst (IsKnown known) (sym c.self.view_is)
    (known_same known c.args.self.now c.reserve.new.self c.reserve.ensures.items c.reserve.ensures.m
    c.reserve.ensures.changed was) in
    subst (λ (items : List Sample). AreKnown known (matrix_profile stream.m (series_of items)).all
    c.append.new.self.entries.profile.changed) (sym c.append.ensures.read.items)
    (c.append.ensures.known known
    (subst (λ (items : List Sample). AreKnown known (matrix_profile stream.m (series_of items)).all
    stream.growing.entries.profile.changed) (sym (front_is front pushed c.args.sample more)) here))
