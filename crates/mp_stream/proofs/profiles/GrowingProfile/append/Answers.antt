use Rattle.mp_stream.specs.Streams.{without_last}
use Rattle.mp_stream.proofs.Growing.{known_through}
use Rattle.mp_stream.proofs.profiles.GrowingProfile.append.Goals as goal

pub returns-clause-known : goal.returns-clause-known
returns-clause-known c = λ known.
    known_through c.args.m (without_last c.args.samples.now.items) c.args.samples.now.items c.args.self.now
    c.add_last.new.self known c.requires.is_of c.add_last.ensures.is_of c.inner-before.ensures.lesser
    c.inner-after.ensures.lesser c.add_last.ensures.known
