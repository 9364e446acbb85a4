use Rattle.std.proofs.Common.{◌≡◌, ℕ, ◌<◌, true, false, ap, ◌∙◌, arith}
use Rattle.std.specs.Prelude.{nat_lt, if◌then◌else◌}
use Rattle.std.proofs.lemmas.Bool.Decides.{nat_tests}
use Rattle.mp_nums.specs.declared.nearest.Near.{Near}
use Rattle.mp_partial.specs.Values.{offered}
use Rattle.mp_anytime.proofs.pairs.offer_both.Goals as goal

first : (i j : ℕ) → i < j → nat_lt i j ≡ true
first i j lt = grind (arith, nat_tests)

last : (i j : ℕ) → i < j → nat_lt j i ≡ false
last i j lt = grind (arith, nat_tests)

pub returns-clause-all : goal.returns-clause-all
returns-clause-all c =
    let at_i : Near = record { dist = c.args.dist; index = c.args.i } in
    c.offer-2.ensures.all ∙ ap (λ x. offered x c.args.j at_i) c.offer.ensures.all

pub returns-clause-left : goal.returns-clause-left
returns-clause-left c =
    let i = c.args.i in
    let j = c.args.j in
    let old = c.args.into.now in
    let mid = c.offer.new.self in
    let at_j : Near = record { dist = c.args.dist; index = j } in
    let at_i : Near = record { dist = c.args.dist; index = i } in
    c.offer-2.ensures.left ∙ ap (λ t. if t then offered mid.left j at_i else mid.left) (first i j c.requires.order)
    ∙ ap (λ x. offered x j at_i)
    (c.offer.ensures.left ∙ ap (λ t. if t then offered old.left i at_j else old.left) (last i j c.requires.order))

pub returns-clause-right : goal.returns-clause-right
returns-clause-right c =
    let i = c.args.i in
    let j = c.args.j in
    let old = c.args.into.now in
    let mid = c.offer.new.self in
    let at_j : Near = record { dist = c.args.dist; index = j } in
    let at_i : Near = record { dist = c.args.dist; index = i } in
    c.offer-2.ensures.right ∙ ap (λ t. if t then offered mid.right j at_i else mid.right) (last i j c.requires.order)
    ∙ c.offer.ensures.right
    ∙ ap (λ t. if t then offered old.right i at_j else old.right) (first i j c.requires.order)
