use Rattle.std.proofs.Common.{◌≡◌, true, false, refl, sym, ap, ◌∙◌, arith}
use Rattle.mp_feed.specs.Feeding.{Holding, has_lf}
use Rattle.mp_feed.proofs.FeedSteps.{drop-used_of-no_lf}
use Rattle.mp_feed.specs.Reading.{Reading, bit}
use Rattle.mp_feed.proofs.ReadLemmas.{on_err}
use Rattle.mp_feed.proofs.ReadLemmas.{not_both}
use Rattle.mp_feed.specs.ReadingLaws.{gave_none, gave_on}
use Rattle.mp_feed.proofs.ReaderLemmas.{gave_line, gave_part, at_rest}
use Rattle.mp_feed.proofs.readers.LineReader.advance.Goals as goal

pub loop-self-init : goal.loop-self-init
loop-self-init g c = record {
  gave = gave_none c.args.self.now (g.S.Source.left c.args.input.now);
  part = c.requires.part;
  fewer = omega arith;
  given = refl;
  faults = omega arith;
}

pub returns-then-feed_on-clause-next : goal.returns-then-feed_on-clause-next
returns-then-feed_on-clause-next g c =
    let i = c.loop-self.invariant in
    let fed = c.feed_on.ensures in
    let some : has_lf c.loop-self.self.unread ≡ true = sym fed.lf ∙ c.if-feed_on.true in
    record {
      held = ap (λ (h : Holding). h.whole) fed.held ∙ some;
      gave = gave_on i.gave (gave_line _ fed.was_cut some fed.held fed.unread fed.left fed.past);
    }

pub returns-then-self-clause-next : goal.returns-then-self-clause-next
returns-then-self-clause-next g c =
    let i = c.loop-self.invariant in
    let fed = c.feed_on.ensures in
    let none : has_lf c.loop-self.self.unread ≡ false = sym fed.lf ∙ c.if-feed_on.false in
    record {
      gave = gave_on i.gave (gave_part _ fed.was_cut none fed.held fed.unread fed.left fed.past);
      rest = at_rest _ fed.is_cut (fed.unread ∙ drop-used_of-no_lf c.loop-self.self.unread none);
      past = ap (λ (r : Reading). r.past) (sym c.self.view_is) ∙ c.if-self.true;
    }

pub returns-in_err-fill-clause-failed : goal.returns-in_err-fill-clause-failed
returns-in_err-fill-clause-failed g c =
    let i = c.loop-self.invariant in
    let fed = c.feed_on.ensures in
    let none : has_lf c.loop-self.self.unread ≡ false = sym fed.lf ∙ c.if-feed_on.false in
    let failed = c.in_err-fill.ensures.failed in
    on_err c.from_residual.result (record {
      gave =
          rw (failed.0, failed.1) (gave_on i.gave (gave_part _ fed.was_cut none fed.held fed.unread fed.left fed.past));
      rest = rw failed.0 (at_rest _ fed.is_cut (fed.unread ∙ drop-used_of-no_lf c.loop-self.self.unread none));
      within = rw failed.0 (ap (λ (r : Reading). r.past) (sym c.self.view_is) ∙ c.if-self.false);
    })

pub returns-then-not-branch-clause-next : goal.returns-then-not-branch-clause-next
returns-then-not-branch-clause-next g c =
    let i = c.loop-self.invariant in
    let fed = c.feed_on.ensures in
    let none : has_lf c.loop-self.self.unread ≡ false = sym fed.lf ∙ c.if-feed_on.false in
    let filled = c.in_ok-fill.ensures in
    let part =
    gave_on i.gave
    (gave_part (g.S.Source.left c.loop-self.input) fed.was_cut none fed.held fed.unread fed.left fed.past) in
    c.end.ensures.next c.args.self.now (g.S.Source.left c.args.input.now) (g.S.Source.left c.fill.new.input)
    (λ bytes e. let taken = part.source bytes e in (filled.dry c.if-not-branch.true).2 taken.rest taken.later_is)
    (gave_on part filled.gave)

pub loop-self-preserved : goal.loop-self-preserved
loop-self-preserved g c =
    let i = c.loop-self.invariant in
    let fed = c.feed_on.ensures in
    let none : has_lf c.loop-self.self.unread ≡ false = sym fed.lf ∙ c.if-feed_on.false in
    let filled = c.in_ok-fill.ensures in
    let within : c.loop-self.self.past ≡ false =
    sym fed.past ∙ (ap (λ (r : Reading). r.past) (sym c.self.view_is) ∙ c.if-self.false) in
    let part = gave_part (g.S.Source.left c.loop-self.input) fed.was_cut none fed.held fed.unread fed.left fed.past in
    record {
      gave = gave_on (gave_on i.gave part) filled.gave;
      part = λ whole.
          not_both c.fill.new.self.holding.whole whole
          (ap (λ (h : Holding). h.whole) (filled.holding ∙ fed.held) ∙ none);
      fewer = omega (arith, i.fewer, filled.count, fed.left);
      given = omega (arith, i.given, filled.given, fed.left, ap bit within);
      faults = omega (arith, i.faults, filled.faults);
    }
