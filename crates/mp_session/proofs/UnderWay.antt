-- A run between two lines.
use Rattle.std.proofs.Common.{◌≡◌, inl, inr, ℕ, ◌+◌, Bool, true, false, ◌||◌, List, [], ◌∷◌, ◌++◌, length, take, refl}
use Rattle.std.proofs.Common.{arith, ap, ◌∙◌, sym, subst, append_assoc, append-nil}
use Rattle.std.specs.Prelude.{Option, Some, if◌then◌else◌}
use Rattle.std.proofs.Math.Bool.{or-false}
use Rattle.std.proofs.Math.Seq.{take-append-add}
use Rattle.mp_bytes.specs.Lines.{ended_lines}
use Rattle.mp_outside.specs.declared.sinks.Sink.{Ghosts}
use Rattle.mp_feed.specs.Feeding.{ended_lines_left}
use Rattle.mp_feed.specs.declared.readers.Next.TheVariants.{Line, End, PastLimit}
use Rattle.mp_feed.specs.Reading.{Reading, at_start, after_line, bit, Gave, IsAtRest, IsDry, IsNext, IsFailed}
use Rattle.mp_feed.specs.ReadingLaws.{IsAll, gave_none, gave_on, dry_on, line_comes, lines_at_end, lines_at_rest}
use Rattle.mp_feed.specs.ReadingLaws.{lines_so_far}
use Rattle.mp_replies.specs.Line.{ends}
use Rattle.mp_replies.specs.Output.{some_ends, state_after, until_end}
use Rattle.mp_replies.specs.State.{Files, State}
use Rattle.mp_replies.specs.Step.{fetches}
use Rattle.mp_session.specs.Sessions.{SessionParts, StandsFor}
use Rattle.mp_session.specs.Running.{Course, HaveAsked, WasBegun, WereRun, course_at}
use Rattle.mp_session.specs.Running.{AreFirst, IsWithin, RanAll, RanEnded, RanInto, RanSome, RanToFile, ends_within}
use Rattle.mp_session.proofs.RunLemmas.{not_both, some_ends-append, some_ends_cut, until_end-append, until_end-one}
use Rattle.mp_session.proofs.RunLemmas.{were_run_none, were_run_on}

-- These lines were run, and none of them ended the run. They are those that the reader gave.
pub record IsUnderWay {Out : Type 0} (sink : Ghosts Out) (told : Option Files) (limit : ℕ) (old now : Course Out)
    (reader : Reading) (refused : Bool) : Type 0 where
  pub lines : List (List ℕ)
  pub run : WereRun sink told lines old now refused
  pub none_ends : some_ends lines ≡ false
  pub gave : Gave lines (at_start limit) reader old.left now.left

-- of the lines that were given one ends the run, so one of those that an LF ends within the limit does
ended_in_front : {given : List (List ℕ)} {limit : ℕ} {reader : Reading} {left later : Option (List ℕ)}
    → (gave : Gave given (at_start limit) reader left later) → some_ends given ≡ true
    → (bytes : List ℕ) → left ≡ Some bytes → ends_within limit bytes ≡ true
ended_in_front {given} {limit} {reader} gave ended bytes e =
    let off = gave.source bytes e in
    let more = take reader.left (off.over ++ off.rest) in
    let front : take limit bytes ≡ gave.got ++ more =
    ap (λ n. take n bytes) (sym gave.count)
    ∙ (ap (take (length gave.got + reader.left)) off.bytes_are
    ∙ take-append-add gave.got (off.over ++ off.rest) reader.left) in
    ap (λ t. some_ends (ended_lines t)) front
    ∙ (sym (some_ends_cut (ended_lines (gave.got ++ more)))
    ∙ (ap some_ends (gave.ended_are more)
    ∙ (some_ends-append given (ended_lines_left reader.holding (reader.unread ++ more)) ∙ rw ended refl)))

module _ {Out : Type 0} {sink : Ghosts Out} {told : Option Files} where
  pub under_way_start : (limit : ℕ) (old : Course Out) → IsUnderWay sink told limit old old (at_start limit) false
  under_way_start limit old = record {
    lines = [];
    run = were_run_none told old;
    none_ends = refl;
    gave = gave_none (at_start limit) old.left;
  }

  pub under_way_asked : {first : ℕ} (limit : ℕ) (old : Course Out) → HaveAsked told [] old.session first first
      → (u : IsUnderWay sink told limit old old (at_start limit) false) × HaveAsked told u.lines old.session first first
  unfolding under_way_start
  under_way_asked limit old asked = (under_way_start limit old, asked)

-- ---- what comes next

module _ {Out : Type 0} {sink : Ghosts Out} {told : Option Files} {limit : ℕ} {old now : Course Out} {reader : Reading}
    {refused : Bool} (u : IsUnderWay sink told limit old now reader refused) where
  first_lines : AreFirst u.lines old
  first_lines = record {
    more = λ bytes e.
        let all = lines_so_far u.gave bytes e in
        (until_end all.0, ap until_end all.1 ∙ until_end-append u.lines all.0 u.none_ends);
  }

  -- more lines were run, or none
  run_on : {more : List (List ℕ)} {also : Bool} {session : SessionParts} {later : Option (List ℕ)} {out : Out}
      → WereRun sink told more (course_at now.session later now.out) (course_at session later out) also
      → WereRun sink told (u.lines ++ more) old (course_at session later out) (refused || also)
  run_on run = were_run_on u.run record { texts = run.texts; run = run.run; wrote = run.wrote }

  run_still : (later : Option (List ℕ)) → WereRun sink told u.lines old (course_at now.session later now.out) refused
  run_still later = record { texts = u.run.texts; run = u.run.run; wrote = u.run.wrote }

  line_ends : (line : List ℕ) (last : Bool) → last ≡ ends line → some_ends (u.lines ++ line ∷ []) ≡ last
  line_ends line last is = some_ends-append u.lines (line ∷ []) ∙ rw (u.none_ends, ← is) (or-false last)

  -- the input was taken to its end, within the limit
  taken_all : {given : List (List ℕ)} {next : Reading} {later : Option (List ℕ)} → Gave given reader next now.left later
      → next.unread ≡ [] → next.past ≡ false → IsDry now.left later
      → (bytes : List ℕ) → old.left ≡ Some bytes → IsAll bytes (u.lines ++ given) limit next later
  taken_all gave none within dry = lines_at_end (gave_on u.gave gave) none within (dry_on u.gave dry)

  pub all_at_end : {next : Reading} {later : Option (List ℕ)} {first last : ℕ} → IsNext reader next now.left later End
      → HaveAsked told u.lines old.session first last
      → (ran : RanAll sink told limit old (course_at now.session later now.out) refused)
      × HaveAsked told ran.lines old.session first last
  all_at_end {later = later} comes asked =
      let all = taken_all comes.gave comes.rest.unread comes.within comes.dry in (
        record {
          lines = u.lines;
          run = run_still later;
          lines_are = λ bytes e.
              ap until_end
              ((all bytes e).lines_are
              ∙ (ap (λ ls. (u.lines ++ []) ++ ls) comes.none_left ∙ append-nil (u.lines ++ [])))
              ∙ (until_end-append u.lines [] u.none_ends ∙ append-nil u.lines);
          read = λ bytes e goes_on. ((all bytes e).read, (all bytes e).within);
          within = λ bytes e. inl (all bytes e).within;
        },
        asked,
      )

  pub some_lines : {also : Bool} {session : SessionParts} {later : Option (List ℕ)} {out : Out}
      → WereRun sink told [] (course_at now.session later now.out) (course_at session later out) also
      → RanSome sink told old (course_at session later out)
  some_lines {also = also} run = record {
    lines = u.lines;
    refused = refused || also;
    run = rw (append-nil u.lines) at (run_on run);
    first = first_lines;
  }

  -- no line more was ended
  none_ended : {overs : ℕ} {next : Reading} {later : Option (List ℕ)} (gave : Gave [] reader next now.left later)
      → IsAtRest next → (gave_on u.gave gave).overs ≡ overs
      → RanEnded sink told overs old (course_at now.session later now.out)
  none_ended {later = later} gave rest overs_are =
      let all = gave_on u.gave gave in
      record {
        some = record { lines = u.lines; refused = refused; run = run_still later; first = first_lines };
        none_ends = u.none_ends;
        taken = all.got;
        source = λ bytes e. rw overs_are at (all.source bytes e);
        lines_are = lines_at_rest all rest ∙ append-nil u.lines;
      }

  pub lines_before_fault : {next : Reading} {later : Option (List ℕ)} → IsFailed reader next now.left later
      → RanEnded sink told 0 old (course_at now.session later now.out)
  lines_before_fault failed =
      let all = gave_on u.gave failed.gave in
      none_ended failed.gave failed.rest (omega (arith, all.overs_are, ap bit failed.within))

  pub lines_within : {next : Reading} {later : Option (List ℕ)} → IsNext reader next now.left later PastLimit
      → (ran : RanEnded sink told 1 old (course_at now.session later now.out)) × (length ran.taken ≡ limit)
  unfolding none_ended
  lines_within comes =
      let all = gave_on u.gave comes.gave in
      let over : all.overs ≡ 1 = omega (arith, all.overs_are, ap bit comes.past) in
      (none_ended comes.gave comes.rest over, omega (arith, all.count, all.full (omega (arith, over))))

  -- a line came that ends the run, and its LF is within the limit, as all is at the end of the input
  end_within : {line : List ℕ} (next : Reading) (later : Option (List ℕ)) (final : Bool)
      → IsNext reader next now.left later (Line final) → line ≡ next.holding.kept → ends line ≡ true
      → (bytes : List ℕ) → old.left ≡ Some bytes → IsWithin limit bytes
  end_within next later true comes line_is ended bytes e =
      inl (taken_all comes.gave comes.rest.unread comes.within comes.dry bytes e).within
  end_within next later false comes line_is ended bytes e =
      inr (ended_in_front (gave_on u.gave comes.gave)
      (some_ends-append u.lines (next.holding.kept ∷ []) ∙ rw (u.none_ends, ← line_is, ended) refl) bytes e)

  -- the last line was run
  pub all_to_last : {also : Bool} {line : List ℕ} {session : SessionParts} {out : Out} {first last : ℕ}
      (next : Reading) (later : Option (List ℕ)) (final : Bool) → IsNext reader next now.left later (Line final)
      → line ≡ next.holding.kept → final ≡ true
      → WereRun sink told (line ∷ []) (course_at now.session later now.out) (course_at session later out) also
      → HaveAsked told (u.lines ++ line ∷ []) old.session first last
      → (ran : RanAll sink told limit old (course_at session later out) (refused || also))
      × HaveAsked told ran.lines old.session first last
  all_to_last {line = line} next later true comes line_is is_final run asked =
      let all = taken_all comes.gave comes.rest.unread comes.within comes.dry in (
        record {
          lines = u.lines ++ line ∷ [];
          run = run_on run;
          lines_are = λ bytes e.
              ap until_end
              ((all bytes e).lines_are
              ∙ (ap (λ ls. (u.lines ++ []) ++ ls) (comes.line_is ∙ ap (λ l. l ∷ []) (sym line_is))
              ∙ ap (λ ls. ls ++ (line ∷ [])) (append-nil u.lines)))
              ∙ (until_end-append u.lines (line ∷ []) u.none_ends ∙ ap (λ ls. u.lines ++ ls) (until_end-one line));
          read = λ bytes e goes_on. ((all bytes e).read, (all bytes e).within);
          within = λ bytes e. inl (all bytes e).within;
        },
        asked,
      )
  all_to_last next later false comes line_is is_final run asked = not_both is_final refl

  -- a line was run that doesn't end the run
  pub under_way_on : {also : Bool} {line : List ℕ} {last : Bool} {session : SessionParts} {out : Out}
      {before after : ℕ} (next : Reading) (later : Option (List ℕ)) → IsNext reader next now.left later (Line false)
      → line ≡ next.holding.kept
      → WereRun sink told (line ∷ []) (course_at now.session later now.out) (course_at session later out) also
      → last ≡ ends line → last ≡ false → HaveAsked told (u.lines ++ line ∷ []) old.session before after
      → (on : IsUnderWay sink told limit old (course_at session later out) (after_line next) (refused || also))
      × HaveAsked told on.lines old.session before after
  under_way_on {line = line} {last = last} next later comes line_is run is goes_on asked = (
    record {
      lines = u.lines ++ line ∷ [];
      run = run_on run;
      none_ends = line_ends line last is ∙ goes_on;
      gave = gave_on u.gave
          (subst (λ l. Gave (l ∷ []) reader (after_line next) now.left later) (sym line_is) comes.gave);
    },
    asked,
  )

-- ---- a line came

module _ {Out : Type 0} {sink : Ghosts Out} {told : Option Files} {limit : ℕ} {old now : Course Out} {reader : Reading}
    {refused : Bool} {line : List ℕ} (u : IsUnderWay sink told limit old now reader refused) (next : Reading)
    (later : Option (List ℕ)) (final : Bool) (comes : IsNext reader next now.left later (Line final))
    (line_is : line ≡ next.holding.kept) where
  -- it ended the run
  pub all_to_end : {also last : Bool} {session : SessionParts} {out : Out} {before after : ℕ}
      → WereRun sink told (line ∷ []) (course_at now.session later now.out) (course_at session later out) also
      → last ≡ ends line → last ≡ true → HaveAsked told (u.lines ++ line ∷ []) old.session before after
      → (ran : RanAll sink told limit old (course_at session later out) (refused || also))
      × HaveAsked told ran.lines old.session before after
  all_to_end {last = last} run is ended asked = (
    record {
      lines = u.lines ++ line ∷ [];
      run = run_on u run;
      lines_are = λ bytes e.
          let comes_next = line_comes next later u.gave final comes bytes e in
          ap until_end (comes_next.1 ∙ ap (λ l. u.lines ++ (l ∷ comes_next.0)) (sym line_is))
          ∙ (until_end-append u.lines (line ∷ comes_next.0) u.none_ends
          ∙ ap (λ b. u.lines ++ (line ∷ (if b then [] else until_end comes_next.0))) (sym is ∙ ended));
      read = λ bytes e goes_on. not_both ended (sym (line_ends u line last is) ∙ goes_on);
      within = end_within u next later final comes line_is (sym is ∙ ended);
    },
    asked,
  )

  -- the lines before it, and it
  with_line : AreFirst (u.lines ++ line ∷ []) old
  with_line = record {
    more = λ bytes e.
        let comes_next = line_comes next later u.gave final comes bytes e in
        let rest = if ends line then [] else until_end comes_next.0 in (
          rest,
          ap until_end (comes_next.1 ∙ ap (λ l. u.lines ++ (l ∷ comes_next.0)) (sym line_is))
              ∙ (until_end-append u.lines (line ∷ comes_next.0) u.none_ends
              ∙ sym (append_assoc u.lines (line ∷ []) rest)),
        );
  }

  -- a front of its report was written
  pub into_line : {session : SessionParts} {out : Out}
      → WasBegun sink told line (course_at now.session later now.out) (course_at session later out)
      → RanInto sink told old (course_at session later out)
  into_line begun = record {
    lines = u.lines;
    line = line;
    refused = refused;
    between = now;
    run = u.run;
    begun = record { text = begun.text; text_is = begun.text_is; front = begun.front };
    first = with_line;
  }

  -- it asks for a file, and none was fetched
  pub to_file : {also : Bool} {session : SessionParts} {out : Out} {first last : ℕ}
      → WereRun sink told [] (course_at now.session later now.out) (course_at session later out) also
      → ((state : State) → StandsFor now.session state → fetches state line ≡ true)
      → HaveAsked told (u.lines ++ line ∷ []) old.session first last
      → (ran : RanToFile sink told old (course_at session later out))
      × HaveAsked told (ran.some.lines ++ ran.line ∷ []) old.session first last
  unfolding some_lines
  to_file run asks asked = (
    record {
      some = some_lines u run;
      line = line;
      next = with_line;
      asks = λ state files h t. asks (state_after state files u.lines) (u.run.run.stands state files h t);
    },
    asked,
  )
