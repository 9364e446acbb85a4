use Rattle.std.proofs.Common.{◌≡◌, ℕ, ◌<◌, true, false, sym, ap, ◌∙◌, subst, arith}
use Rattle.std.specs.Prelude.{Some, nat_lt, if◌then◌else◌}
use Rattle.std.proofs.lemmas.Bool.Decides.{nat_tests}
use Rattle.mp_nums.specs.declared.nearest.Near.{Near}
use Rattle.mp_defs.specs.Series.{Series}
use Rattle.mp_defs.specs.Distance.{distance}
use Rattle.mp_defs.specs.Profile.{windows_of}
use Rattle.mp_partial.specs.Values.{offered}
use Rattle.mp_tiles.specs.OfferingLaws.{scanned_pair}
use Rattle.mp_tiles.proofs.offers.EachToOtherOffers.offer.Goals as goal

first : (i j : ℕ) → i < j → nat_lt i j ≡ true
first i j lt = grind (arith, nat_tests)

last : (i j : ℕ) → i < j → nat_lt j i ≡ false
last i j lt = grind (arith, nat_tests)

pub returns : goal.returns
returns c m a b fits row column is =
    let i = c.args.row in
    let j = c.args.column in
    let old = c.args.into.now in
    let mid = c.offer.new.self in
    let at_j : Near = record { dist = c.args.dist; index = j } in
    let at_i : Near = record { dist = c.args.dist; index = i } in
    let order : i < j = c.requires.may.0 in
    let within : j < windows_of m a = subst (λ (x : Series). j < windows_of m x) (sym fits.1) column in
    scanned_pair i j m a old c.offer-2.new.self (Some c.args.dist.0) fits.0 order within
    (sym (subst (λ (x : Series). distance m a i x j ≡ Some c.args.dist.0) (sym fits.1) is))
    (c.offer-2.ensures.all ∙ ap (λ x. offered x j at_i) c.offer.ensures.all)
    (c.offer-2.ensures.left ∙ ap (λ t. if t then offered mid.left j at_i else mid.left) (first i j order)
    ∙ ap (λ x. offered x j at_i)
    (c.offer.ensures.left ∙ ap (λ t. if t then offered old.left i at_j else old.left) (last i j order)))
    (c.offer-2.ensures.right ∙ ap (λ t. if t then offered mid.right j at_i else mid.right) (last i j order)
    ∙ c.offer.ensures.right ∙ ap (λ t. if t then offered old.right i at_j else old.right) (first i j order))
    (c.offer-2.ensures.room ∙ c.offer.ensures.room) (c.offer-2.ensures.spare ∙ c.offer.ensures.spare)
