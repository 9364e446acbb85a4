use Rattle.std.proofs.Common.{◌≡◌, rules, refl, ap, ◌∙◌, arith, subst}
use Rattle.std.specs.Prelude.{Bool, false, IsErrOf, IsTrue, Ok, Option, None, Some}
use Rattle.mp_feed.specs.Reading.{IsNext}
use Rattle.mp_feed.specs.declared.readers.Next.TheVariants.{Line, End}
use Rattle.mp_feed.specs.WritingLaws.{wrote_faults}
use Rattle.mp_session.specs.Running.{course_at, next_by}
use Rattle.mp_session.proofs.RunLemmas.{asked_behind, asks_where, have_asked_none, have_asked_on, have_asked_one}
use Rattle.mp_session.proofs.RunLemmas.{were_run_none}
use Rattle.mp_session.proofs.UnderWay.{under_way_asked, under_way_start, under_way_on, all_to_end, all_to_last}
use Rattle.mp_session.proofs.UnderWay.{all_at_end, into_line}
use Rattle.mp_session.proofs.UnderWay.{some_lines, lines_before_fault, lines_within, to_file}
use Rattle.mp_session.proofs.runs.run_lines.Goals as goal
use Rattle.mp_session.proofs.runs.run_lines.Goals.{then-ran-via-then-ran, then-ran-via-else-ran+then-last}

pub returns-in_err-reader-clause-memory : goal.returns-in_err-reader-clause-memory
returns-in_err-reader-clause-memory g c = λ _.
    let start = course_at c.args.session.now (g.S.Source.left c.args.input.now) c.args.out.now in
    some_lines (under_way_start c.args.limit start) (were_run_none (g.H.Shelf.files c.args.shelf.now) start)

pub loop-reader-init : goal.loop-reader-init
loop-reader-init g c =
    let start = course_at c.args.session.now (g.S.Source.left c.args.input.now) c.args.out.now in
    let fits = g.met.H.Shelf.fetches_fit c.args.shelf.now in
    let begun = under_way_asked c.args.limit start (have_asked_none (g.H.Shelf.fetches c.args.shelf.now) fits) in
    rw c.in_ok-reader.ensures (record {
      run = begun.0;
      part = λ whole. absurd (cc whole);
      count = omega arith;
      given = omega arith;
      left = omega arith;
      source_faults = omega arith;
      sink_faults = omega arith;
      calm = refl;
      files = refl;
      asked = begun.1;
    })

pub returns-in_err-last-clause-read_fault : goal.returns-in_err-last-clause-read_fault
returns-in_err-last-clause-read_fault g c = λ e.
    lines_before_fault c.loop-reader.invariant.run (c.in_err-last.ensures.failed (search rules))

pub returns-in_err-last-clause-input_limit : goal.returns-in_err-last-clause-input_limit
returns-in_err-last-clause-input_limit g c = λ e.
    lines_within c.loop-reader.invariant.run (c.in_err-last.ensures.past (search rules))

-- where no line comes, the end does
no_line : (next : Option Bool) → ((last : Bool) → next ≡ Some last → ⊥) → next_by next ≡ End
no_line None none = refl
no_line (Some last) none = absurd (none last refl)

pub returns-in_default-clause-all : goal.returns-in_default-clause-all
returns-in_default-clause-all g c =
    all_at_end c.loop-reader.invariant.run
    (subst (IsNext c.loop-reader.reader c.next_line.new.reader (g.S.Source.left c.loop-reader.input)
    (g.S.Source.left c.next_line.new.input))
    (no_line c.in_ok-last.field-0 c.in_default.not-Some) c.in_ok-last.ensures.next) c.loop-reader.invariant.asked

pub returns-in_err-ran-clause-memory : goal.returns-in_err-ran-clause-memory
returns-in_err-ran-clause-memory g c = λ e.
    some_lines c.loop-reader.invariant.run
    (rw c.loop-reader.invariant.files at c.in_err-ran.ensures.memory
    (g.S.Source.left c.next_line.new.input) (search rules))

pub returns-in_err-ran-clause-shelf_fault : goal.returns-in_err-ran-clause-shelf_fault
returns-in_err-ran-clause-shelf_fault g c = λ e.
    let i = c.loop-reader.invariant in
    let shelf = c.in_err-ran.ensures.shelf in
    to_file i.run c.next_line.new.reader (g.S.Source.left c.next_line.new.input) c.in-Some.last
    (rw c.in-Some.is at c.in_ok-last.ensures.next) c.line.ensures
    (rw i.files at c.in_err-ran.ensures.shelf_fault (g.S.Source.left c.next_line.new.input) (search rules))
    (λ state h. asks_where _ state c.line.result.now h (λ none. shelf.no_fault none (search rules)))
    (have_asked_on i.run.run.run i.asked (have_asked_one shelf (g.met.H.Shelf.fetches_fit c.loop-reader.shelf)))

pub returns-in_err-ran-clause-shelf : goal.returns-in_err-ran-clause-shelf
returns-in_err-ran-clause-shelf g c =
    asked_behind c.in_err-ran.ensures.shelf c.loop-reader.invariant.files c.loop-reader.invariant.calm
    (λ e. search rules) (λ e. search rules)

pub returns-in_err-ran-clause-write_fault : goal.returns-in_err-ran-clause-write_fault
returns-in_err-ran-clause-write_fault g c = λ e. (
  into_line c.loop-reader.invariant.run c.next_line.new.reader (g.S.Source.left c.next_line.new.input) c.in-Some.last
      (rw c.in-Some.is at c.in_ok-last.ensures.next) c.line.ensures
      (rw c.loop-reader.invariant.files at c.in_err-ran.ensures.begun
      (g.S.Source.left c.next_line.new.input) (search rules)),
  search rules,
)

pub returns-then-ran-clause-all : goal.returns-then-ran-clause-all
returns-then-ran-clause-all g c =
    let left = g.S.Source.left c.next_line.new.input in
    let next = rw c.in-Some.is at c.in_ok-last.ensures.next in
    let run = rw c.loop-reader.invariant.files at c.in_ok-ran.ensures.run left in
    let asked =
    have_asked_on c.loop-reader.invariant.run.run.run c.loop-reader.invariant.asked
    (have_asked_one c.in_ok-ran.ensures.shelf (g.met.H.Shelf.fetches_fit c.loop-reader.shelf)) in
    elim c.then-ran.branch [
      | then-ran-via-then-ran w ↦
          all_to_end c.loop-reader.invariant.run c.next_line.new.reader left c.in-Some.last next c.line.ensures run
          c.in_ok-ran.ensures.ends w.if-ran.true asked
      | then-ran-via-else-ran+then-last w ↦
          all_to_last c.loop-reader.invariant.run c.next_line.new.reader left c.in-Some.last next c.line.ensures
          w.if-last.true run asked
    ]

-- a line that was run didn't fail
no_err : {T E : Type 0} (x : T) (why : E) → IsErrOf {T = T} (Ok x) why → ⊥
no_err x why e = absurd (cc e)

-- after a line was dropped, none is held
not_whole : IsTrue false → ⊥
not_whole whole = absurd (cc whole)

pub loop-reader-preserved : goal.loop-reader-preserved
loop-reader-preserved g c =
    let i = c.loop-reader.invariant in
    let left = g.S.Source.left c.next_line.new.input in
    let read = c.next_line.ensures in
    let line_held =
    subst (λ last.
    IsNext c.loop-reader.reader c.next_line.new.reader (g.S.Source.left c.loop-reader.input) left (Line last))
    c.if-last.false (rw c.in-Some.is at c.in_ok-last.ensures.next) in
    let fewer = c.in_ok-last.ensures.fewer (c.in-Some.is ∙ ap Some c.if-last.false) in
    let ran = c.in_ok-ran.ensures in
    let on =
    under_way_on i.run c.next_line.new.reader left line_held c.line.ensures (rw i.files at ran.run left) ran.ends
    c.if-ran.false
    (have_asked_on i.run.run.run i.asked
    (have_asked_one ran.shelf (g.met.H.Shelf.fetches_fit c.loop-reader.shelf))) in
    rw c.drop_line.ensures (record {
      run = on.0;
      part = λ whole. not_whole whole;
      count = omega (arith, i.count, fewer, (ran.run left).run.count);
      given = omega (arith, i.given, read.given);
      left = omega (arith, i.left, line_held.gave.count);
      source_faults = omega (arith, i.source_faults, read.faults);
      sink_faults = omega (arith, i.sink_faults, wrote_faults (ran.run left).wrote);
      calm = ran.shelf.calm (no_err _ _) ∙ i.calm;
      files = ran.shelf.files ∙ i.files;
      asked = on.1;
    })
