use Rattle.std.proofs.Common.{◌∙◌, refl, get_or, false, subst, sym, ◌++◌, ◌∷◌, []}
use Rattle.std.specs.Prelude.{◌==◌}
use Rattle.mp_results.specs.Reversal.{reversal}
use Rattle.mp_anytime.specs.Waiting.{AreWaiting}
use Rattle.mp_anytime.proofs.Choosing.{cover_at}
use Rattle.mp_anytime.proofs.waiting.Waiting.cover.Goals as goal

pub returns : goal.returns
returns c = λ m windows covered was.
    let d = c.args.diagonal in
    subst (AreWaiting m windows (covered ++ d ∷ [])) (sym c.mark.ensures)
    (record {
      places = c.put.ensures.places;
      each = λ place lt. c.put.ensures.each place lt
          ∙ cover_at m windows covered d (reversal place) (get_or c.args.self.now place false) (was.each place lt)
          (reversal place == d) refl;
    })
