use Rattle.std.proofs.Common.{◌≡◌, ◌∙◌, ◌-◌, ◌<◌, ◌^◌, true, ap, arith, length, refl, subst}
use Rattle.mp_stream.specs.Blocks.{numbered}
use Rattle.mp_stream.specs.Limits.{limit_by}
use Rattle.mp_stream.specs.Offers.{IsReady}
use Rattle.mp_stream.specs.Rows.{last_place}
use Rattle.mp_stream.proofs.Growing.{is_offered}
use Rattle.mp_stream.proofs.Taken.{best_before}
use Rattle.mp_stream.proofs.profiles.GrowingProfile.append_narrow.Goals as goal

pub count_offered-end-requires : goal.count_offered-end-requires
count_offered-end-requires c = omega (arith, (c.requires.waiting.narrow c.requires.narrow).least)

pub next_narrow_row-best-requires : goal.next_narrow_row-best-requires
next_narrow_row-best-requires c =
    let waiting = c.requires.waiting in
    let before = waiting.narrow c.requires.narrow in
    record {
      before = before;
      close = record { range = c.args.self.now.range; within = waiting.range; fits = waiting.fits c.requires.narrow };
      frees = ap length c.as_slice.ensures ∙ waiting.frees;
      within = omega (arith, c.count_offered-end.ensures.within, c.len.ensures.right, waiting.ready.rights);
      ready = subst (λ t. IsReady (limit_by t) (last_place c.args.m c.args.numbers.now) c.args.self.now.entries)
          c.requires.narrow waiting.ready;
    }

pub offer_best-requires : goal.offer_best-requires
offer_best-requires c =
    let next = c.next_narrow_row-best.ensures in
    let last : last_place c.args.m c.args.numbers.now ≡ c.len.result - 1 =
    omega (arith, c.len.ensures.right, c.requires.waiting.ready.rights) in
    record {
      last = omega (arith, c.len.ensures.right, c.requires.waiting.ready.rights, next.offered.ready.rights);
      number = subst (λ j. numbered c.next_narrow_row-best.new.entries.profile.first j < 2 ^ 64) last
          next.offered.ready.number;
      before = best_before _ _ _ _ _ c.count_offered-end.ensures.within next.best;
    }

pub returns-clause-offered : goal.returns-clause-offered
returns-clause-offered c =
    let waiting = c.requires.waiting in
    let next = c.next_narrow_row-best.ensures in
    let last : c.len.result - 1 ≡ last_place c.args.m c.args.numbers.now =
    omega (arith, c.len.ensures.right, waiting.ready.rights) in
    is_offered true c.args.m c.args.numbers.now (last_place c.args.m c.args.numbers.now) c.args.is_free
    c.count_offered-end.result (c.len.result - 1) c.as_slice.result.now c.next_narrow_row-best.result
    c.next_narrow_row-best.new.entries c.args.self.now _
    c.requires.narrow c.as_slice.ensures last c.count_offered-end.ensures.count next.offered next.best
    c.offer_best.ensures.right c.offer_best.ensures.left c.offer_best.ensures.first refl refl refl refl
    (record { narrow = next.turned.places; wide = waiting.rows.wide }) (λ _. next.turned.row) (λ is. absurd (cc))
