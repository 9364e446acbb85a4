use Rattle.std.proofs.Common.{◌≡◌, ◌+◌, ◌-◌, ◌∙◌, refl, sym, ap, arith, length, min, subst}
use Rattle.mp_multi.specs.Among.{TakesAmong}
use Rattle.mp_multi.proofs.ScanLemmas.{before_diagonal, diagonal_taken, diagonal_passed, tile_begins, tile_ends}
use Rattle.mp_multi.proofs.ScanLemmas.{places_stay}
use Rattle.mp_multi.proofs.scans.scan_multi.Goals as goal
use Rattle.mp_multi.proofs.scans.scan_multi.Goals.{then-tile-end, else-tile-end}

pub loop-apart-init : goal.loop-apart-init
loop-apart-init g c = record {
  items = tile_begins c.args.m c.args.k c.args.channels.now c.args.tile.now c.args.into.now.items c.requires.places;
  places = refl;
  spare = refl;
}

pub loop-apart-preserved : goal.loop-apart-preserved
loop-apart-preserved g c =
    let channels = c.args.channels.now in
    let tile = c.args.tile.now in
    let old = c.args.into.now.items in
    let apart = c.loop-apart.apart in
    let end = c.min-end.result in
    let next = before_diagonal tile (apart + 1) in
    let is : end ≡ min (tile.last_row + 1) (length old - apart) =
    omega (arith, c.min-end.ensures, ap length c.as_slice.ensures) in
    let here : length c.loop-apart.into.items ≡ length old = c.loop-apart.invariant.places in
    elim c.if-tile-end.branch [
      | then-tile-end w ↦
          let items : TakesAmong next c.args.m c.args.k channels old
          w.scan_diagonal.new.into.items =
          diagonal_taken c.args.m c.args.k channels tile apart end old c.loop-apart.into.items
          w.scan_diagonal.new.into.items c.requires.places (omega arith) is c.loop-apart.invariant.items
          w.scan_diagonal.ensures.items in
          record {
            items = subst (λ into. TakesAmong next c.args.m c.args.k channels old into.items)
                (sym w.into-is) items;
            places = ap (λ into. length into.items) w.into-is
                ∙ places_stay next c.args.m c.args.k channels old
                w.scan_diagonal.new.into.items c.requires.places items;
            spare = ap (λ into. into.spare) w.into-is ∙ w.scan_diagonal.ensures.spare ∙ c.loop-apart.invariant.spare;
          }
      | else-tile-end w ↦
          let items : TakesAmong next c.args.m c.args.k channels old c.loop-apart.into.items =
          diagonal_taken c.args.m c.args.k channels tile apart end old c.loop-apart.into.items
          c.loop-apart.into.items c.requires.places (omega arith) is c.loop-apart.invariant.items
          (diagonal_passed c.args.m c.args.k channels tile.first_row end apart c.loop-apart.into.items
          (here ∙ c.requires.places) (omega arith)) in
          record {
            items = subst (λ into. TakesAmong next c.args.m c.args.k channels old into.items)
                (sym w.into-is) items;
            places = ap (λ into. length into.items) w.into-is ∙ here;
            spare = ap (λ into. into.spare) w.into-is ∙ c.loop-apart.invariant.spare;
          }
    ]

pub returns-clause-items : goal.returns-clause-items
returns-clause-items g c =
    tile_ends c.args.m c.args.k c.args.channels.now c.args.tile.now c.loop-apart.apart c.args.into.now.items
    c.loop-apart.into.items (omega arith) c.loop-apart.invariant.items
