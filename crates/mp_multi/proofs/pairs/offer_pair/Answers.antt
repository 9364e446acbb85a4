use Rattle.std.proofs.Common.{◌+◌, ◌-◌, ◌∙◌, sym, arith, rules}
use Rattle.mp_scans.specs.Offering.{only}
use Rattle.mp_multi.specs.Blocks.{AreScannedIn}
use Rattle.mp_multi.proofs.ExactLemmas.{kept_anew, kept_behind}
use Rattle.mp_multi.proofs.PairScans.{scan_one, scan_places}
use Rattle.mp_multi.proofs.pairs.offer_pair.Goals as goal

pub value_at-value-requires : goal.value_at-value-requires
value_at-value-requires g c =
    let b = c.args.block.now in
    let t = c.args.c - c.args.p in (
      search rules,
      (
        search rules,
        (
          omega (arith, c.requires.order, b.order),
          (
            omega (arith, c.requires.column, b.all_windows),
            kept_behind b.plan.channels.m b.plan.channels.list.now (b.column - b.row + t)
                (b.column + c.args.c - (b.row + c.args.p)) _ _ (omega (arith, c.requires.order, b.order))
                (c.requires.kept.each t (omega (arith, c.requires.order, c.requires.diagonal))),
          ),
        ),
      ),
    )

pub returns : goal.returns
returns g c =
    let b = c.args.block.now in
    let ch = b.plan.channels in
    let old = c.args.into.now in
    let i = b.row + c.args.p in
    let j = b.column + c.args.c in
    let t = c.args.c - c.args.p in
    let scanned : AreScannedIn b (only i j) old c.offer_both.new.into =
    scan_one ch.m ch.k ch.list.now i j old c.offer_both.new.into c.value_at-value.result
    (c.requires.windows ∙ b.all_windows) (omega (arith, c.requires.row, b.are_rows, b.all_windows))
    (omega (arith, c.requires.column, b.all_windows)) c.value_at-value.ensures.value c.offer_both.ensures.items
    c.offer_both.ensures.spare in
    record {
      scanned = scanned;
      windows = scan_places ch.m ch.k ch.list.now (only i j) old c.offer_both.new.into
          (c.requires.windows ∙ b.all_windows) scanned ∙ sym b.all_windows;
      kept = kept_anew ch.m ch.list.now (b.column - b.row) t _ _ _ _
          (omega (arith, c.requires.order, c.requires.diagonal)) c.requires.kept
          (kept_behind ch.m ch.list.now (j - i) (b.column - b.row + t) _ _ (omega (arith, c.requires.order, b.order))
          c.value_at-value.ensures.kept);
    }
