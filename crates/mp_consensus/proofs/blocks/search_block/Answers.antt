use Rattle.std.proofs.Common.{length, get_or, map, ◌+◌, ◌-◌, arith, ap, ◌∙◌, sym, subst, refl}
use Rattle.std.specs.Prelude.{IfSome}
use Rattle.mp_nums.specs.declared.nearest.Sq.{Sq}
use Rattle.mp_defs.specs.Series.{series_of}
use Rattle.mp_consensus.specs.Bounds.{least_radius}
use Rattle.mp_consensus.specs.Searches.{HaveReached, IsPast}
use Rattle.mp_consensus.proofs.Reaching.{more_reached, itself_reached, none_left, within_all}
use Rattle.mp_consensus.proofs.blocks.search_block.Goals as goal
use Rattle.mp_consensus.proofs.blocks.search_block.Goals.{then-place-block+in_ok-compare, else-place-block}

pub loop-place-init : goal.loop-place-init
loop-place-init c = record {
  bound = c.end-first_end.ensures.bound ∙ c.requires.bound;
  least = c.end-first_end.ensures.least;
  count = c.in_ok-reaches.ensures.count;
  reached = c.in_ok-reaches.ensures.reached;
}

pub sift-requires-clause-past : goal.sift-requires-clause-past
sift-requires-clause-past c =
    subst (λ l. IfSome c.end-first_end.result (λ (e : Sq). IsPast l e.0)) c.requires.least c.end-first_end.ensures.past

pub returns-then-not-is_any_left-clause-reached : goal.returns-then-not-is_any_left-clause-reached
returns-then-not-is_any_left-clause-reached c =
    none_left (least_radius c.args.m c.args.list.now) c.args.m (map series_of c.args.list.now) c.args.block.place
    c.loop-place.place _ c.args.block.start c.loop-place.reaches.items
    (λ k d lt. ap (λ xs. get_or xs k d) (sym c.as_slice.ensures.value)
    ∙ c.if-not-is_any_left.ensures refl k d (omega (arith, lt, ap length c.as_slice.ensures.value)))
    c.loop-place.invariant.reached

pub compare-requires-clause-others : goal.compare-requires-clause-others
compare-requires-clause-others c =
    within_all c.args.list.now _ c.loop-place.place c.series.result.now c.requires.conditions.samples
    (omega (arith, c.loop-place-test.true, c.count-place-end.ensures)) c.series.ensures

pub loop-place-preserved : goal.loop-place-preserved
loop-place-preserved c =
    let list = c.args.list.now in
    let m = c.args.m in
    let b = c.args.block in
    let least = least_radius m list in
    let before = c.loop-place.invariant in
    elim c.if-place-block.branch [
      | then-place-block+in_ok-compare w ↦
          let items = ap (λ v. v.items) w.reaches-is in
          record {
            bound = ap (λ l. l.bound) w.looker-is ∙ w.end-end.ensures.bound ∙ before.bound;
            least = ap (λ l. l.least) w.looker-is ∙ w.end-end.ensures.least ∙ before.least;
            count = ap length items ∙ w.compare.ensures.places ∙ before.count;
            reached = subst
                (HaveReached least m (map series_of list) b.place b.start (c.loop-place.place + 1)) (sym items)
                (more_reached least m list b.place c.loop-place.place b.start (b.start + b.count + m - 1)
                c.rows_of-rows.result.now w.series.result.now w.end-end.result c.loop-place.reaches.items
                w.compare.new.reaches.items
                (subst (λ l. IfSome w.end-end.result (λ (e : Sq). IsPast l e.0)) (before.least ∙ c.requires.least)
                w.end-end.ensures.past)
                c.rows_of-rows.ensures (omega (arith, before.count, c.requires.conditions.shortest))
                (omega (arith, c.loop-place-test.true, c.count-place-end.ensures)) w.if-place-block.true
                w.series.ensures w.compare.ensures.places w.in_ok-compare.ensures.each before.reached);
          }
      | else-place-block w ↦
          let items = ap (λ v. v.items) w.reaches-is in
          record {
            bound = ap (λ l. l.bound) w.looker-is ∙ before.bound;
            least = ap (λ l. l.least) w.looker-is ∙ before.least;
            count = ap length items ∙ before.count;
            reached = subst
                (HaveReached least m (map series_of list) b.place b.start (c.loop-place.place + 1)) (sym items)
                (itself_reached least m (map series_of list) b.place c.loop-place.place b.start
                c.loop-place.reaches.items w.if-place-block.false before.reached);
          }
    ]
