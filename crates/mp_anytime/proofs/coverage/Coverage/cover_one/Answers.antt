use Rattle.std.proofs.Common.{◌≡◌, ◌-◌, ◌∙◌, ◌++◌, ◌∷◌, [], ap, refl, rules, length, subst}
use Rattle.mp_defs.specs.Series.{series_of}
use Rattle.mp_defs.specs.Window.{windows}
use Rattle.mp_anytime.specs.Waiting.{AreWaiting}
use Rattle.mp_anytime.specs.Kept.{IsSumAt, last_place}
use Rattle.mp_anytime.proofs.Windows.{listed_more}
use Rattle.mp_anytime.proofs.coverage.Coverage.cover_one.Goals as goal

pub returns-clause-listed : goal.returns-clause-listed
returns-clause-listed c =
    let m = c.args.m in
    let items = c.args.samples.now.items in
    let last : c.windows-last.result - 1 ≡ last_place m items =
    ap (λ w. w - 1) (c.windows-last.ensures ∙ ap (λ n. windows n m) c.len.ensures.length) in
    let old = c.args.self.now in
    let more : c.push.new.self.items ≡ old.covered.items ++ c.args.diagonal ∷ [] = search rules in
    let kept : AreWaiting m (windows (length items) m) (old.covered.items ++ c.args.diagonal ∷ []) c.cover.new.self =
    c.cover.ensures m (windows (length items) m) old.covered.items c.requires.listed.waiting in
    listed_more m items c.args.diagonal c.sum_of-sum.result old
    (record {
      profile = old.profile;
      covered = c.push.new.self;
      sums = c.set.new.self;
      limits = old.limits;
      are_limits_known = old.are_limits_known;
      range = old.range;
      waiting = c.cover.new.self;
    })
    c.requires.diagonal c.requires.fresh c.requires.range c.requires.listed more c.set.ensures.put refl refl
    (subst (λ j. IsSumAt m (series_of items) (j - c.args.diagonal) j c.sum_of-sum.result) last
    c.sum_of-sum.ensures.sum)
    kept
