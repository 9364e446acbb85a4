use Rattle.std.proofs.Common.{◌+◌, ◌-◌, ◌∙◌, ap, arith}
use Rattle.mp_defs.specs.Series.{series_of}
use Rattle.mp_sums.specs.Sums.{numbers_of}
use Rattle.mp_anytime.proofs.Reading.{lent_one, some_read}
use Rattle.mp_anytime.proofs.moving.move_to.Goals as goal

pub returns-clause-enters : goal.returns-clause-enters
returns-clause-enters c =
    let items = c.args.samples.now.items in
    lent_one items (c.args.i - 1 + c.from.result) c.parts.result.0.now c.index-enters-0.result
    (omega (arith, c.from.ensures, c.requires.within, c.requires.some)) c.parts.ensures.first c.index-enters-0.is
    ∙ ap (λ n. numbers_of (series_of items) (c.args.i - 1 + n)) c.from.ensures

pub returns-clause-leaves : goal.returns-clause-leaves
returns-clause-leaves c =
    lent_one c.args.samples.now.items (c.args.i - 1) c.parts.result.1.now c.index-leaves-0.result
    (omega (arith, c.requires.within, c.requires.some, c.requires.shortest)) c.parts.ensures.second c.index-leaves-0.is

pub returns-clause-read : goal.returns-clause-read
returns-clause-read c = some_read _ _ 2 c.parts.follows.holds-at-none c.parts.ensures.reads_within
