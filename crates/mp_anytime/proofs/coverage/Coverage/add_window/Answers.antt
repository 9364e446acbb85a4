use Rattle.std.proofs.Common.{◌-◌, ◌∙◌, arith, get_or, length, subst, sym}
use Rattle.mp_nums.specs.declared.samples.Sample.TheVariants.{Missing}
use Rattle.mp_anytime.specs.Kept.{IsWaiting, without_last}
use Rattle.mp_anytime.specs.Sums.{HavePlaces}
use Rattle.mp_anytime.proofs.Windows.{front_long, kept_places, last_sample, now_waiting, window_added}
use Rattle.mp_anytime.proofs.coverage.Coverage.add_window.Goals as goal
use Rattle.mp_anytime.proofs.coverage.Coverage.add_window.Goals.{After-grow}

waits : (c : After-grow)
    → IsWaiting c.args.m c.args.samples.now.items c.len-last.result c.grow.new.self
waits c =
    let items = c.args.samples.now.items in
    now_waiting c.args.m items (without_last items) (get_or items (length items - 1) Missing) c.args.self.now
    c.grow.new.self c.len-last.result (last_sample items (omega arith)) (omega (arith, c.requires.shortest))
    c.requires.long c.len-last.ensures.left c.requires.is_of c.grow.ensures.grown c.requires.range

pub grow-requires-clause-places : goal.grow-requires-clause-places
grow-requires-clause-places c =
    let items = c.args.samples.now.items in
    subst (λ n. HavePlaces n c.args.self.now.sums)
    (sym (kept_places c.args.m (without_last items) c.args.self.now.covered.items c.args.self.now.profile
    c.requires.is_of.profile)) c.requires.is_of.listed.places

pub grow-requires-clause-few : goal.grow-requires-clause-few
grow-requires-clause-few c =
    let items = c.args.samples.now.items in
    omega (
      arith,
      c.requires.long,
      c.requires.few,
      c.requires.shortest,
      front_long items,
      kept_places c.args.m (without_last items) c.args.self.now.covered.items c.args.self.now.profile
          c.requires.is_of.profile,
    )

pub extend-requires-clause-waiting : goal.extend-requires-clause-waiting
extend-requires-clause-waiting c = waits (goal.at.extend-requires-clause-waiting c).After-grow

pub returns-clause-is_of : goal.returns-clause-is_of
returns-clause-is_of c =
    let items = c.args.samples.now.items in
    window_added c.entries_grow.ensures c.args.m items (without_last items) (get_or items (length items - 1) Missing)
    c.args.self.now c.grow.new.self c.extend.new.self c.len-last.result (last_sample items (omega arith))
    (omega (arith, c.requires.shortest)) c.requires.long c.len-last.ensures.left c.requires.is_of c.grow.ensures.grown
    (waits (goal.at.returns-clause-is_of c).After-grow) c.extend.ensures.extended c.requires.few

pub returns-clause-covered : goal.returns-clause-covered
returns-clause-covered c = c.extend.ensures.extended.covered ∙ c.grow.ensures.grown.covered
