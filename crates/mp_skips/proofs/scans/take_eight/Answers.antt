use Rattle.std.proofs.Common.{◌≡◌, ℕ, List, ◌+◌, ◌-◌, ◌*◌, ◌<◌, ◌∙◌, max, min, inl, ap, sym, subst, arith}
use Rattle.mp_skips.specs.declared.sums.TheConstants.{NO_NEED}
use Rattle.mp_skips.specs.Sums.{number_in}
use Rattle.mp_skips.proofs.BlockLemmas.{reached, row_within, column_within}
use Rattle.mp_skips.proofs.PairLemmas.{block_pairs, scanned_next, no_pairs, groups_next, groups_quiet, quiet_block}
use Rattle.mp_skips.proofs.PairLemmas.{strip_row_need, strip_column_need, strip_needs_stay}
use Rattle.mp_skips.proofs.scans.take_eight.Goals as goal

pub eight_sums-requires-clause-row : goal.eight_sums-requires-clause-row
eight_sums-requires-clause-row g c =
    row_within c.args.coarse.now c.args.rows.now.row (omega (arith, c.requires.are_rows, c.requires.some))

pub eight_sums-requires-clause-groups : goal.eight_sums-requires-clause-groups
eight_sums-requires-clause-groups g c = column_within c.args.coarse.now (8 * c.args.group + 56) c.requires.columns

pub are_above-requires-clause-small : goal.are_above-requires-clause-small
are_above-requires-clause-small g c = λ t lt. omega (arith, c.eight_sums.ensures.small t lt)

pub are_above-requires-clause-small_number : goal.are_above-requires-clause-small_number
are_above-requires-clause-small_number g c = omega (arith, c.requires.needs.small_rows)

pub are_above-requires-clause-small_numbers : goal.are_above-requires-clause-small_numbers
are_above-requires-clause-small_numbers g c = λ t lt.
    omega (arith, c.requires.needs.small_columns (c.args.group - c.args.needs.now.base + t))

pub returns-then-are_above : goal.returns-then-are_above
returns-then-are_above g c =
    let coarse = c.args.coarse.now in
    let r = c.args.rows.now in
    let needs = c.args.needs.now in
    let group = c.args.group in
    let sums = c.eight_sums.new.sums in
    record {
      scanned = groups_quiet g.met.O.Offers.laws coarse c.args.into.now c.requires.fits r.first r.end r.row
          r.count group 8
          (λ l lt.
          let own = number_in needs.groups.now (group - needs.base + l) in
          let need = max needs.rows own in
          let at : group + l - needs.base ≡ group - needs.base + l = omega (arith, c.requires.base) in
          let here : number_in needs.groups.now (group + l - needs.base) ≡ own = ap (number_in needs.groups.now) at in
          let rows_less = c.are_above.ensures.number c.if-are_above.true l lt in
          let own_less = c.are_above.ensures.numbers c.if-are_above.true l lt in
          let less : need < number_in sums l = omega (arith, rows_less, own_less) in
          quiet_block g.met.O.Offers.limits coarse c.args.into.now r.first r.end r.row r.count (group + l) need
          c.requires.apart c.requires.count
          (strip_row_need coarse _ _ r.first r.row r.count needs.base needs.rows needs.groups.now need c.requires.needs
          (omega arith))
          (λ q few. strip_column_need coarse _ _ r.first r.row r.count needs.base needs.rows needs.groups.now
          (group + l)
          need q c.requires.needs (omega (arith, c.requires.base)) (omega (arith, c.requires.places, lt))
          (omega (arith, here)) few)
          (reached coarse r.row (group + l) need
          (row_within coarse r.row (omega (arith, c.requires.are_rows, c.requires.some)))
          (column_within coarse (8 * (group + l)) (omega (arith, c.requires.columns, lt)))
          (omega (arith, less, c.eight_sums.ensures.sums.each l lt)))
          (omega (arith, less, c.eight_sums.ensures.small l lt)) c.requires.fits);
    }

pub loop-l-init : goal.loop-l-init
loop-l-init g c =
    let r = c.args.rows.now in
    record {
      fits = c.requires.fits;
      scanned = g.met.O.Offers.laws.none _ _ _ _ _ c.requires.fits
          (λ i j. no_pairs (max r.first (8 * c.args.group - r.row)) (min r.end (8 * (c.args.group + 0) - r.row)) r.row
          (r.row + r.count) i j (inl (omega arith)));
      needs_stay = c.requires.needs;
    }

pub take_block-requires-clause-rows_need : goal.take_block-requires-clause-rows_need
take_block-requires-clause-rows_need g c =
    strip_row_need c.args.coarse.now _ _ _ _ _ _ _ _ _ c.loop-l.invariant.needs_stay
    (omega (arith, c.max-need.ensures))

pub take_block-requires-clause-columns_need : goal.take_block-requires-clause-columns_need
take_block-requires-clause-columns_need g c = λ q few.
    let needs = c.args.needs.now in
    let at : c.args.group + c.loop-l.l - needs.base ≡ c.args.group - needs.base + c.loop-l.l =
    omega (arith, c.requires.base) in
    let here : number_in needs.groups.now (c.args.group + c.loop-l.l - needs.base)
    ≡ number_in needs.groups.now (c.args.group - needs.base + c.loop-l.l) = ap (number_in needs.groups.now) at in
    strip_column_need c.args.coarse.now _ _ _ _ _ needs.base needs.rows needs.groups.now (c.args.group + c.loop-l.l) _ q
    c.loop-l.invariant.needs_stay (omega (arith, c.requires.base))
    (omega (arith, c.requires.places, c.loop-l-test.true)) (omega (arith, here, c.max-need.ensures)) few

pub take_block-requires-clause-sum : goal.take_block-requires-clause-sum
take_block-requires-clause-sum g c =
    ap (λ (v : List ℕ). number_in v c.loop-l.l) c.as_array.ensures
    ∙ c.eight_sums.ensures.sums.each c.loop-l.l c.loop-l-test.true

pub take_block-requires-clause-small : goal.take_block-requires-clause-small
take_block-requires-clause-small g c =
    subst (λ (v : List ℕ). number_in v c.loop-l.l < NO_NEED) (sym c.as_array.ensures)
    (omega (arith, c.eight_sums.ensures.small c.loop-l.l c.loop-l-test.true))

pub loop-l-preserved : goal.loop-l-preserved
loop-l-preserved g c =
    let laws = g.met.O.Offers.laws in
    let coarse = c.args.coarse.now in
    let before = c.loop-l.invariant in
    let next = c.take_block.ensures.scanned in
    let r = c.args.rows.now in
    let group = c.args.group in
    let done = block_pairs r.first r.end r.row r.count (group + c.loop-l.l) in
    record {
      fits = laws.still_fits _ _ _ done _ _ before.fits next;
      scanned = scanned_next laws coarse.plan.grid _ done _ _ _ _ c.requires.fits before.scanned next
          (λ i j _ _. groups_next r.first r.end r.row (r.row + r.count) group c.loop-l.l i j);
      needs_stay = strip_needs_stay g.met.O.Offers.limits coarse done _ _ before.fits next _ _ _ _ _ _
          before.needs_stay;
    }
