use Rattle.std.proofs.Common.{◌<◌, sym, subst}
use Rattle.std.specs.Prelude.{Some}
use Rattle.mp_defs.specs.Series.{Series}
use Rattle.mp_defs.specs.Profile.{windows_of}
use Rattle.mp_tiles.specs.OfferingLaws.{same_series, sided_pair}
use Rattle.mp_tiles.proofs.found.OnBothSidesOffers.offer.Goals as goal

pub returns : goal.returns
returns c m a b fits row column is =
    sided_pair c.args.row c.args.column m a c.args.into.now c.offer.new.self (Some c.args.dist.0) fits.0
    c.requires.may.0
    (subst (λ (x : Series). c.args.column < windows_of m x) (sym fits.1) column)
    (sym (same_series m a b c.args.row c.args.column (Some c.args.dist.0) fits.1 is)) c.offer.ensures.left
    c.offer.ensures.right c.offer.ensures.room
