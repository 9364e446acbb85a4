use Rattle.std.proofs.Common.{arith, sym, subst}
use Rattle.mp_sums.specs.Residues.{item}
use Rattle.mp_scans.specs.Blocks.{in_pair}
use Rattle.mp_scans.specs.Limiting.{IsRowLimit, IsColumnLimit}
use Rattle.mp_scans.proofs.LimitLemmas.{handed_on, limits_anew, limits_stay, row_is_first}
use Rattle.mp_scans.proofs.pairs.offer_within.Goals as goal

pub next_row_limit-requires-clause-limit : goal.next_row_limit-requires-clause-limit
next_row_limit-requires-clause-limit g c =
    let b = c.args.strip.now.block in
    let p = c.args.pair.row in
    let limits = limits_stay g.met.O.Offers.limits b _ _ _ _ _ _ c.requires.known.places c.offer_pair.ensures.scanned
    c.requires.known.limits in
    let row = limits.of_rows p (omega (arith, c.requires.pair.row, c.args.strip.now.rows)) in
    handed_on (IsRowLimit b (g.O.Offers.keeps_row c.offer_pair.new.into) p p) _ row.fits row

pub next_column_limit-requires-clause-limit : goal.next_column_limit-requires-clause-limit
next_column_limit-requires-clause-limit g c =
    let strip = c.args.strip.now in
    let pair = c.args.pair in
    let is = c.requires.pair in
    let keeps = g.O.Offers.keeps_column c.offer_pair.new.into in
    let limits = limits_stay g.met.O.Offers.limits strip.block _ _ _ _ _ _ c.requires.known.places
    c.offer_pair.ensures.scanned c.requires.known.limits in
    let column = limits.of_columns pair.column (omega (arith, is.row, is.last, strip.columns)) in
    handed_on (IsColumnLimit strip.block keeps pair.row pair.column) _ column.fits
    (subst (λ p. IsColumnLimit strip.block keeps p pair.column (item c.args.known.now.columns pair.column))
    (sym (row_is_first strip.offset pair.row pair.column is.first is.last)) column)

pub returns-then-offer_pair-clause-known : goal.returns-then-offer_pair-clause-known
returns-then-offer_pair-clause-known g c =
    let strip = c.args.strip.now in
    let b = strip.block in
    let pair = c.args.pair in
    let is = c.requires.pair in
    let limits = limits_stay g.met.O.Offers.limits b _ _ _ _ _ _ c.requires.known.places c.offer_pair.ensures.scanned
    c.requires.known.limits in
    record {
      places = g.met.O.Offers.laws.still_fits _ _ _ (in_pair b pair) _ _ c.requires.known.places
          c.offer_pair.ensures.scanned;
      exacts = c.offer_pair.ensures.exacts;
      limits = limits_anew b _ _ _ _ _ pair.row pair.column _ _ (omega (arith, is.row, strip.rows, b.few_rows))
          (omega (arith, is.row, is.last, strip.columns, b.few_columns)) limits c.next_row_limit.ensures
          (subst (λ p. IsColumnLimit b (g.O.Offers.keeps_column c.offer_pair.new.into) p pair.column
          c.next_column_limit.result) (row_is_first strip.offset pair.row pair.column is.first is.last)
          c.next_column_limit.ensures);
    }

pub returns-else-offer_pair-clause-known : goal.returns-else-offer_pair-clause-known
returns-else-offer_pair-clause-known g c = record {
  places = g.met.O.Offers.laws.still_fits _ _ _ (in_pair c.args.strip.now.block c.args.pair) _ _
      c.requires.known.places c.offer_pair.ensures.scanned;
  exacts = c.offer_pair.ensures.exacts;
  limits = limits_stay g.met.O.Offers.limits c.args.strip.now.block _ _ _ _ _ _ c.requires.known.places
      c.offer_pair.ensures.scanned c.requires.known.limits;
}
