use Rattle.std.proofs.Common.{arith}
use Rattle.std.proofs.lemmas.List.{length-take}
use Rattle.mp_feed.proofs.ReadLemmas.{read_off, past_bit}
use Rattle.mp_feed.proofs.readers.read_piece.Goals as goal

pub returns-clause-told : goal.returns-clause-told
returns-clause-told g c = λ bytes e.
    let read = c.in_ok-given.ensures in
    read_off c.min-count.result c.in_ok-given.given _ c.read.new.buf _ bytes (g.S.Source.left c.read.new.self)
    (omega (arith, c.min-count.ensures))
    (past_bit c.min-count.result c.in_ok-given.given (omega (arith, c.min-count.ensures))
    (omega (
      arith,
      length-take c.min-most.result c.args.buffer.now,
      read.within,
      c.read.auto.buf,
      c.min-most.ensures,
      c.min-count.ensures,
    )))
    read.within (read.first bytes e) (read.rest bytes e)
    (λ none.
    read.end none
    (omega (
      arith,
      length-take c.min-most.result c.args.buffer.now,
      c.read.auto.buf,
      c.min-most.ensures,
      c.requires.room,
    ))
    bytes e)
