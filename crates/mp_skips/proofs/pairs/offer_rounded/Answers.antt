use Rattle.std.proofs.Common.{◌*◌, ◌≤◌, ap, arith}
use Rattle.mp_skips.proofs.LevelLemmas.{sum_is_least}
use Rattle.mp_skips.proofs.PairLemmas.{quiet_rounded}
use Rattle.mp_skips.proofs.pairs.offer_rounded.Goals as goal

pub returns-then-is_beyond-2 : goal.returns-then-is_beyond-2
returns-then-is_beyond-2 g c =
    let coarse = c.args.coarse.now in
    let row = c.args.row in
    let column = c.args.column in
    record {
      scanned = quiet_rounded g.met.O.Offers.limits coarse c.args.into.now row column c.requires.fits c.requires.apart
          c.requires.free
          (λ d is.
          let below : c.from.result * c.square_of.result ≤ d =
          omega (
            arith,
            sum_is_least coarse row column d c.args.sum c.requires.sum is,
            ap (λ n. n * c.square_of.result) c.from.ensures,
            ap (λ n. c.args.sum * n) c.square_of.ensures.square,
          ) in (
            c.row_limit-to_row.ensures column d (omega arith) (c.is_beyond.ensures c.if-is_beyond.true d below),
            c.column_limit-to_column.ensures row d (omega arith)
                (c.is_beyond-then-is_beyond.ensures c.if-is_beyond-2.true d below),
          ));
      exact = c.requires.exact;
    }
