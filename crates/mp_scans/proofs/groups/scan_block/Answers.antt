use Rattle.std.proofs.Common.{◌≡◌, ◌+◌, ◌-◌, ◌*◌, inl, inr, min, length, ◌∙◌, ap, arith, refl}
use Rattle.std.proofs.lemmas.Grind.{div_ceil_times}
use Rattle.mp_sums.specs.Sums.{square_sum}
use Rattle.mp_sums.specs.Residues.{residue, item}
use Rattle.mp_scans.specs.Blocks.{rounded_rows, rounded_columns}
use Rattle.mp_scans.specs.Offering.{in_block}
use Rattle.mp_scans.specs.Windows.{column_windows}
use Rattle.mp_scans.proofs.FillLemmas.{this_or_behind}
use Rattle.mp_scans.proofs.LimitLemmas.{known_later, first_of_strip, first_behind_strip}
use Rattle.mp_scans.proofs.StripLemmas.{scanned_next, no_pairs, strip_cut, strips_before, all_strips}
use Rattle.mp_scans.proofs.groups.scan_block.Goals as goal

pub loop-strips-init : goal.loop-strips-init
loop-strips-init g c =
    let b = c.args.block.now in
    let f = b.column - b.row in
    let all = c.div_ceil-strips.ensures in
    record {
      few = omega (arith, all);
      known = known_later b _ _ _ _ (λ q. omega (arith, all)) c.requires.known;
      scanned = g.met.O.Offers.laws.none _ _ _ _ _ c.requires.known.places
          (λ i j. no_pairs (f + min (c.div_ceil-strips.result * 32) b.width) (f + b.width) b.row
          (b.row + length b.rows.differences.now) i j
          (inl (omega (arith, all, (div_ceil_times b.width 32 (omega arith)).0))));
      done = λ s t le lt within. absurd (omega (arith, le, lt, within, c.requires.strips, all));
      left = λ s t _. c.requires.residues.each s t;
      places = refl;
    }

pub scan_strip-requires-clause-residues : goal.scan_strip-requires-clause-residues
scan_strip-requires-clause-residues g c = λ some t lt.
    let b = c.args.block.now in
    let k = c.loop-strips.strips - 1 in
    c.loop-strips.invariant.left k t (omega arith) lt
    (omega (arith, lt, c.loop-strips.invariant.places, c.requires.strips, c.loop-strips-test.true))
    (omega (arith, some, c.min-end.ensures, c.saturating_sub-left.ensures, c.count_columns-columns.ensures))
    ∙ ap (λ i. residue (square_sum b.grid.m (rounded_rows b) i (rounded_columns b) (b.column + k * 32 + t))) (omega
    arith)
    ∙ ap (λ j. residue (square_sum b.grid.m (rounded_rows b) (b.row + 0) (rounded_columns b) j)) (omega arith)

pub scan_strip-requires-clause-known : goal.scan_strip-requires-clause-known
scan_strip-requires-clause-known g c =
    known_later c.args.block.now _ _ _ _
    (λ q. first_of_strip c.loop-strips.strips q (omega (arith, c.loop-strips-test.true))) c.loop-strips.invariant.known

pub loop-strips-preserved : goal.loop-strips-preserved
loop-strips-preserved g c =
    let laws = g.met.O.Offers.laws in
    let b = c.args.block.now in
    let m = b.grid.m in
    let x = rounded_rows b in
    let y = rounded_columns b in
    let n = length b.rows.differences.now in
    let f = b.column - b.row in
    let k = c.loop-strips.strips - 1 in
    let o = k * 32 in
    let w = c.min-width.result in
    let end = c.min-end.result in
    let before = c.loop-strips.invariant in
    let next = c.scan_strip.ensures in
    let cut : end ≡ min n (column_windows b.grid - (b.column + o)) =
    omega (arith, c.min-end.ensures, c.saturating_sub-left.ensures, c.count_columns-columns.ensures) in
    record {
      few = omega (arith, before.few);
      known = known_later b _ _ _ _ (λ q. first_behind_strip k end q) next.known;
      scanned = scanned_next laws b.grid _ (in_block (f + o) (f + o + w) b.row (b.row + n)) _ _ _ _
          c.requires.known.places before.scanned
          (laws.same _ _ _ _ _ _ _ before.known.places next.scanned
          (λ i j _ lt. strip_cut b.row b.column o w n (column_windows b.grid) end i j b.order cut lt))
          (λ i j _ _. strips_before f o w b.width (c.loop-strips.strips * 32) b.row (b.row + n) i j
          (omega (arith, before.few, c.loop-strips-test.true, (div_ceil_times b.width 32 (omega arith)).1))
          (omega (arith, c.min-width.ensures)) (omega (arith, c.loop-strips-test.true)));
      done = λ s t le small within behind. elim (this_or_behind k s le) [
        | inl same ↦
            let here : s * 32 ≡ o = omega (arith, same) in
            let full : end ≡ n = omega (arith, behind, here, cut) in
            ap (λ q. item c.scan_strip.new.residues (q + t)) here
            ∙ next.moved.stored (omega (arith, full, b.some_rows)) t small
            ∙ ap (λ q. residue (square_sum m x (b.row + q) y (b.column + (q + o + t)))) full
            ∙ ap (λ q. residue (square_sum m x (b.row + n) y q)) (omega (arith, here))
        | inr more ↦ next.moved.others (s * 32 + t) (inr (omega (arith, more)))
            ∙ before.done s t (omega (arith, more)) small (omega (arith, within, next.moved.places)) behind
      ];
      left = λ s t lt small within behind.
          next.moved.others (s * 32 + t) (inl (omega (arith, lt, small)))
          ∙ before.left s t (omega (arith, lt)) small (omega (arith, within, next.moved.places)) behind;
      places = next.moved.places ∙ before.places;
    }

pub returns-clause-scanned : goal.returns-clause-scanned
returns-clause-scanned g c =
    let b = c.args.block.now in
    g.met.O.Offers.laws.same _ _ _ _ _ _ _ c.requires.known.places c.loop-strips.invariant.scanned
    (λ i j _ _. all_strips (b.column - b.row) b.width (c.loop-strips.strips * 32) b.row
    (b.row + length b.rows.differences.now) i j (omega (arith, c.loop-strips-test.false)))
