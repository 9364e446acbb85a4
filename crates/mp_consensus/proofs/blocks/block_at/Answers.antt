use Rattle.std.proofs.Common.{◌≡◌, ◌-◌, ◌*◌, ◌/◌, ◌%◌, refl, arith, ap, ◌∙◌}
use Rattle.mp_consensus.specs.Blocks.{windows_at}
use Rattle.mp_consensus.proofs.Scanning.{block_of}
use Rattle.mp_consensus.proofs.blocks.block_at.Goals as goal

pub returns-then-start-count-clause-holds : goal.returns-then-start-count-clause-holds
returns-then-start-count-clause-holds c = λ p i lt window e.
    let piece = c.args.piece in
    let of = block_of _ p i piece lt e in
    let place : piece % c.count.result ≡ p = ap (λ n. piece % n) c.count.ensures ∙ of.1 in
    let start : piece / c.count-2.result * 64 ≡ i / 64 * 64 =
    ap (λ n. n * 64) (ap (λ n. piece / n) c.count-2.ensures ∙ of.0) in
    let count = c.count_windows-count.ensures ∙ ap (windows_at c.args.m c.args.list.now) place in (
      _,
      refl,
      place,
      i - i / 64 * 64,
      omega (arith, window, count, start, of.2, of.3, c.min.ensures),
      omega (arith, start, of.2),
    )
