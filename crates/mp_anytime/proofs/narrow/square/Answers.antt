use Rattle.std.proofs.Common.{◌≡◌, ◌*◌, ◌∙◌, pos, ◌-ℤ◌, ap, subst, sym, w16, FitsSigned}
use Rattle.std.specs.Prelude.{unsigned_abs}
use Rattle.mp_anytime.proofs.NarrowLemmas.{near_difference, square_narrow}
use Rattle.mp_anytime.proofs.narrow.square.Goals as goal

pub returns : goal.returns
returns c = λ a b near x_is y_is.
    let is : c.from-difference.result ≡ a -ℤ b =
    c.from-difference.ensures ∙ near_difference a b c.args.x c.args.y c.ranges.x c.ranges.y near x_is y_is in
    square_narrow c.from-difference.result (subst (FitsSigned w16) (sym is) near)
    ∙ ap (λ z. pos (unsigned_abs z * unsigned_abs z)) is
