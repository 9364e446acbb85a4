use Rattle.std.proofs.Common.{◌≡◌, ◌+◌, ◌-◌, ◌*◌, ◌<◌, ◌∙◌, inl, min, arith, rules, []}
use Rattle.std.specs.Int.{div_ceil}
use Rattle.std.proofs.lemmas.Grind.{div_ceil_times}
use Rattle.std.proofs.lemmas.List.{length-set}
use Rattle.mp_scans.specs.Limiting.{first_row, first_on}
use Rattle.mp_scans.specs.Offering.{in_block}
use Rattle.mp_multi.specs.Blocks.{channels_of}
use Rattle.mp_multi.specs.Lanes.{AreChannelResidues}
use Rattle.mp_multi.proofs.BlockPairs.{no_pairs, strip_cut, strips_before, all_strips}
use Rattle.mp_multi.proofs.ChannelLemmas.{set_last, set_behind}
use Rattle.mp_multi.proofs.GroupLemmas.{begins, ends}
use Rattle.mp_multi.proofs.LimitLemmas.{limits_fit, limits_later, first_of_strip, first_behind_strip}
use Rattle.mp_multi.proofs.PairScans.{scan_none, scan_then, scan_same}
use Rattle.mp_multi.proofs.groups.scan_block.Goals as goal

pub loop-strips-init : goal.loop-strips-init
loop-strips-init g c =
    let b = c.args.block.now in
    let ch = b.plan.channels in
    let f = b.column - b.row in
    let n = c.div_ceil-strips.result in
    let all : n ≡ div_ceil b.width 32 = omega (arith, c.div_ceil-strips.ensures) in
    record {
      few = omega (arith, all);
      windows = c.requires.windows;
      places = c.requires.places;
      limits = limits_later b (first_on (div_ceil b.width 32 * 32)) (first_on (n * 32)) _ _ (λ q. omega (arith, all))
          c.requires.limits;
      kept = c.requires.kept;
      scanned = scan_none ch.m ch.k ch.list.now
          (in_block (f + min (n * 32) b.width) (f + b.width) b.row (b.row + b.rows)) c.args.into.now
          (c.requires.windows ∙ b.all_windows)
          (λ i j. no_pairs (f + min (n * 32) b.width) (f + b.width) b.row (b.row + b.rows) i j
          (inl (omega (arith, all, (div_ceil_times b.width 32 (omega arith)).0))));
      done = λ q le lt _. absurd (omega (arith, le, lt, all));
      left = λ q lt within. c.requires.residues.each q (omega (arith, lt, all)) within;
    }

pub scan_strip-requires : goal.scan_strip-requires
scan_strip-requires g c =
    let b = c.args.block.now in
    let before = c.loop-strips.invariant in
    let k = c.loop-strips.strips - 1 in (
      search rules,
      (
        search rules,
        (
          before.windows,
          (
            limits_later b (first_on (c.loop-strips.strips * 32)) (first_row (k * 32) 0) _ _
                (λ q. first_of_strip c.loop-strips.strips q (omega (arith, c.loop-strips-test.true))) before.limits,
            (
              before.kept,
              λ some. begins b k _
                  (before.left k (omega (arith, c.loop-strips-test.true))
                  (omega (arith, some, c.min-end.ensures, c.saturating_sub-left.ensures))),
            ),
          ),
        ),
      ),
    )

pub loop-strips-preserved : goal.loop-strips-preserved
loop-strips-preserved g c =
    let b = c.args.block.now in
    let ch = b.plan.channels in
    let f = b.column - b.row in
    let k = c.loop-strips.strips - 1 in
    let o = k * 32 in
    let w = c.min-width.result in
    let end = c.min-end.result in
    let before = c.loop-strips.invariant in
    let next = c.scan_strip.ensures in
    let cut : end ≡ min b.rows (b.windows - (b.column + o)) =
    omega (arith, c.min-end.ensures, c.saturating_sub-left.ensures) in
    let on : k + 1 ≡ c.loop-strips.strips = omega (arith, c.loop-strips-test.true) in
    let some : o < b.width =
    omega (arith, before.few, c.loop-strips-test.true, (div_ceil_times b.width 32 (omega arith)).1) in
    record {
      few = omega (arith, before.few);
      windows = next.windows;
      places = length-set _ _ _ ∙ before.places;
      limits = limits_later b (first_row o end) (first_on o) _ _ (λ q. first_behind_strip k end q) next.limits;
      kept = next.kept;
      scanned = scan_then ch.m ch.k ch.list.now
          (in_block (f + min (c.loop-strips.strips * 32) b.width) (f + b.width) b.row (b.row + b.rows))
          (in_block (f + o) (f + o + w) b.row (b.row + b.rows))
          (in_block (f + min o b.width) (f + b.width) b.row (b.row + b.rows)) _ _ _ before.scanned
          (scan_same ch.m ch.k ch.list.now (in_block (f + o) (f + o + w) (b.row + 0) (b.row + end))
          (in_block (f + o) (f + o + w) b.row (b.row + b.rows)) _ _ next.scanned
          (λ i j _ lt. strip_cut b.row b.column o w b.rows b.windows end i j b.order cut
          (omega (arith, lt, b.all_windows))))
          (λ i j _ _. strips_before f o w b.width (c.loop-strips.strips * 32) b.row (b.row + b.rows) i j some
          (omega (arith, c.min-width.ensures)) (omega (arith, on)));
      done = set_last (λ q v. q < div_ceil b.width 32 → b.column + b.rows + q * 32 < b.windows
          → AreChannelResidues ch.m b.plan.shift (channels_of b.plan) (b.row + b.rows) (b.column + b.rows + q * 32) v)
          [] c.loop-strips.places k c.scan_strip.new.residues
          (omega (arith, before.places, before.few, on, b.few_diagonals))
          (λ q le. before.done q (omega (arith, le, on)))
          (λ _ within. ends b k end _ (omega (arith, cut, within)) (next.residues
          (omega (arith, cut, within, b.some_rows))));
      left = λ q lt within. set_behind (λ r v. b.column + r * 32 < b.windows
          → AreChannelResidues ch.m b.plan.shift (channels_of b.plan) b.row (b.column + r * 32) v) []
          c.loop-strips.places k c.scan_strip.new.residues q lt (before.left q (omega (arith, lt, on))) within;
    }

pub returns : goal.returns
returns g c =
    let b = c.args.block.now in
    let ch = b.plan.channels in
    let f = b.column - b.row in
    let none : c.loop-strips.strips ≡ 0 = omega (arith, c.loop-strips-test.false) in
    record {
      scanned = scan_same ch.m ch.k ch.list.now
          (in_block (f + min (c.loop-strips.strips * 32) b.width) (f + b.width) b.row (b.row + b.rows))
          (in_block f (f + b.width) b.row (b.row + b.rows)) _ _ c.loop-strips.invariant.scanned
          (λ i j _ _. all_strips f b.width (c.loop-strips.strips * 32) b.row (b.row + b.rows) i j
          (omega (arith, none)));
      windows = c.loop-strips.invariant.windows;
      residues = record { each = λ q lt within. c.loop-strips.invariant.done q (omega (arith, none)) lt within };
      kept = c.loop-strips.invariant.kept;
      fit = limits_fit b (first_on (c.loop-strips.strips * 32)) c.loop-strips.known _ c.loop-strips.invariant.limits;
      places = c.loop-strips.invariant.places;
    }
