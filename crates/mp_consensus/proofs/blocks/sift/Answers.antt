use Rattle.std.proofs.Common.{◌≡◌, ℕ, ◌+◌, ◌-◌, ◌<◌, length, get_or, map, arith, ap, ◌∙◌, sym, subst}
use Rattle.std.specs.Prelude.{Some, None}
use Rattle.mp_defs.specs.Series.{series_of}
use Rattle.mp_consensus.specs.Bounds.{least_radius}
use Rattle.mp_consensus.specs.Searches.{HaveReached, as_square, renewed}
use Rattle.mp_consensus.proofs.Reaching.{none_reached, none_reached_by}
use Rattle.mp_consensus.proofs.blocks.sift.Goals as goal
use Rattle.mp_consensus.proofs.blocks.sift.Goals.{then-is_some+then-is_shorter+in_ok-compare, else-is_some}

pub returns-clause-reached : goal.returns-clause-reached
returns-clause-reached c =
    let list = c.args.list.now in
    let m = c.args.m in
    let b = c.args.block in
    let least = least_radius m list in
    let places = c.in_ok-reaches.ensures.places in
    let old = c.in_ok-reaches.reaches.items in
    let zero : (i : ℕ) → i < length old → get_or old i None ≡ Some (as_square 0) =
    λ i lt. c.in_ok-reaches.ensures.each i (omega (arith, lt, places)) in
    elim c.if-is_some.branch [
      | then-is_some+then-is_shorter+in_ok-compare w ↦
          subst (HaveReached least m (map series_of list) b.place b.start 0) (sym (ap (λ v. v.items) w.reaches-is))
          (none_reached_by least m list b.place c.shortest_other-other.result b.start (b.start + b.count + m - 1)
          w.rows_of.result.now c.series-series.result.now c.args.end c.in_ok-reaches.reaches.items
          w.renew.new.reaches.items
          c.requires.past w.rows_of.ensures (omega (arith, places, c.requires.conditions.shortest))
          c.shortest_other-other.ensures.other c.shortest_other-other.ensures.apart c.series-series.ensures
          (w.renew.ensures.places ∙ w.compare.ensures.places) zero
          (λ i lt. w.renew.ensures.each i (omega (arith, lt, w.compare.ensures.places))
          ∙ ap renewed (w.in_ok-compare.ensures.each i lt)))
      | else-is_some w ↦
          subst (HaveReached least m (map series_of list) b.place b.start 0) (sym (ap (λ v. v.items) w.reaches-is))
          (none_reached least m (map series_of list) b.place b.start c.in_ok-reaches.reaches.items zero)
    ]
