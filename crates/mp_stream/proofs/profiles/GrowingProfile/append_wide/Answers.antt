use Rattle.std.proofs.Common.{◌≡◌, ◌∙◌, ◌-◌, ◌<◌, ◌^◌, ℕ, false, ap, arith, get_or, length, refl, subst, sym}
use Rattle.mp_stream.specs.Blocks.{numbered}
use Rattle.mp_stream.specs.Limits.{coarse_limit, limit_by}
use Rattle.mp_stream.specs.Offers.{IsReady}
use Rattle.mp_stream.specs.Rows.{distance_from, last_place}
use Rattle.mp_stream.proofs.Growing.{is_offered}
use Rattle.mp_stream.proofs.Taken.{best_as, best_before, offered_as}
use Rattle.mp_stream.proofs.profiles.GrowingProfile.append_wide.Goals as goal

pub count_offered-end-requires : goal.count_offered-end-requires
count_offered-end-requires c = omega (arith, (c.requires.waiting.wide c.requires.wide).least)

pub offer_row-best-requires : goal.offer_row-best-requires
offer_row-best-requires c =
    let waiting = c.requires.waiting in
    let places = c.next_wide_row-is_coarse.ensures.places in
    let sums = ap length c.as_slice-sums.ensures in
    let last : last_place c.args.m c.args.numbers.now ≡ length c.as_slice-sums.result.now - 1 =
    omega (arith, sums, places.sums_are) in
    record {
      frees = ap length c.as_slice.ensures ∙ waiting.frees ∙ sym (sums ∙ places.sums_are);
      within = omega (
        arith,
        c.count_offered-end.ensures.within,
        c.len.ensures.right,
        waiting.ready.rights,
        sums,
        places.sums_are,
        (waiting.wide c.requires.wide).long,
      );
      small = λ is i lt. subst (λ list. get_or list i 0 < 2 ^ 79) (sym c.as_slice-sums.ensures)
          (c.next_wide_row-is_coarse.ensures.small is i (omega (arith, lt, sums)));
      ready = subst (λ j. IsReady coarse_limit j c.args.self.now.entries) last
          (subst (λ t. IsReady (limit_by t) (last_place c.args.m c.args.numbers.now) c.args.self.now.entries)
          c.requires.wide waiting.ready);
    }

pub offer_best-requires : goal.offer_best-requires
offer_best-requires c =
    let offer = c.offer_row-best.ensures in
    let last : length c.as_slice-sums.result.now - 1 ≡ c.len.result - 1 =
    omega (
      arith,
      c.len.ensures.right,
      c.requires.waiting.ready.rights,
      ap length c.as_slice-sums.ensures,
      c.next_wide_row-is_coarse.ensures.places.sums_are,
    ) in
    record {
      last = omega (
        arith,
        c.len.ensures.right,
        c.requires.waiting.ready.rights,
        offer.offered.ready.rights,
        ap length c.as_slice-sums.ensures,
        c.next_wide_row-is_coarse.ensures.places.sums_are,
      );
      number = subst (λ j. numbered c.offer_row-best.new.entries.profile.first j < 2 ^ 64) last
          offer.offered.ready.number;
      before = best_before _ _ _ _ _ c.count_offered-end.ensures.within offer.best;
    }

pub returns-clause-offered : goal.returns-clause-offered
returns-clause-offered c =
    let waiting = c.requires.waiting in
    let items = c.args.numbers.now in
    let offer = c.offer_row-best.ensures in
    let row = c.next_wide_row-is_coarse.ensures in
    let last : c.len.result - 1 ≡ last_place c.args.m items =
    omega (arith, c.len.ensures.right, waiting.ready.rights) in
    let sums = ap length c.as_slice-sums.ensures in
    let at : length c.as_slice-sums.result.now - 1 ≡ last_place c.args.m items =
    omega (arith, sums, row.places.sums_are) in
    let same : (i : ℕ) → i < c.count_offered-end.result
    → get_or c.as_slice-sums.result.now i 0 ≡ distance_from c.args.m items (last_place c.args.m items) i =
    λ i lt. ap (λ list. get_or list i 0) c.as_slice-sums.ensures ∙ row.row i (omega (
      arith,
      lt,
      c.count_offered-end.ensures.within,
      last,
      sums,
      row.places.sums_are,
      waiting.ready.rights,
      c.len.ensures.right,
    )) in
    is_offered false c.args.m items (last_place c.args.m items) c.args.is_free c.count_offered-end.result
    (c.len.result - 1) c.as_slice.result.now c.offer_row-best.result c.offer_row-best.new.entries c.args.self.now _
    c.requires.wide c.as_slice.ensures last c.count_offered-end.ensures.count
    (offered_as _ _ _ (distance_from c.args.m items (last_place c.args.m items)) _ _ 0 _ _ _ at same offer.offered)
    (offer.best ∙ best_as _ _ (distance_from c.args.m items (last_place c.args.m items)) _ same)
    c.offer_best.ensures.right c.offer_best.ensures.left c.offer_best.ensures.first refl refl refl refl
    (record { narrow = waiting.rows.narrow; wide = row.places }) (λ is. absurd (cc)) (λ _. row.row)
