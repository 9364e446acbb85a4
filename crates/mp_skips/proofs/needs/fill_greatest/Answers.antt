use Rattle.std.proofs.Common.{◌∙◌, arith, refl}
use Rattle.std.proofs.lemmas.List.{length-set}
use Rattle.mp_skips.proofs.NeedLemmas.{greatest_next}
use Rattle.mp_skips.proofs.needs.fill_greatest.Goals as goal

pub loop-t-init : goal.loop-t-init
loop-t-init c = record {
  greatest = record { each = λ g c' lt few. absurd (omega arith) };
  places = refl;
}

pub loop-t-preserved : goal.loop-t-preserved
loop-t-preserved c =
    let before = c.loop-t.invariant in
    record {
      greatest = greatest_next c.args.numbers.now c.args.more c.loop-t.t c.loop-t.needs c.greatest_from.result
          before.greatest c.greatest_from.ensures (omega (arith, before.places));
      places = length-set c.loop-t.needs c.loop-t.t c.greatest_from.result ∙ before.places;
    }
