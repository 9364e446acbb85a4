-- Runs of lines, one behind another.
use Rattle.std.proofs.Common.{◌≡◌, ℕ, ◌+◌, ◌-◌, ◌^◌, ◌≤◌, Bool, true, false, ◌||◌, List, [], ◌∷◌, ◌++◌, map, refl}
use Rattle.std.proofs.Common.{arith, ap, ◌∙◌, sym}
use Rattle.std.proofs.Common.{subst, length-append, ⊎_elim}
use Rattle.std.proofs.Math.Bool.{or-false, or-true, or_assoc}
use Rattle.std.specs.Prelude.{is_some, Option}
use Rattle.std.proofs.lemmas.Bool.{or_parts, cases_Bool}
use Rattle.mp_outside.specs.Counts.{Rose, raised}
use Rattle.mp_outside.specs.declared.shelves.Shelf as shelves
use Rattle.mp_outside.specs.declared.sinks.Sink.{Ghosts}
use Rattle.mp_feed.specs.Reading.{bit}
use Rattle.mp_feed.specs.Writing.{none}
use Rattle.mp_feed.specs.WritingLaws.{wrote_on}
use Rattle.mp_bytes.specs.Lines.{cut}
use Rattle.mp_replies.specs.CutLaws.{ends_cut}
use Rattle.mp_replies.specs.State.{Files, State}
use Rattle.mp_replies.specs.Step.{cause, after, fetches}
use Rattle.mp_replies.specs.Output.{reply, replies, state_after, some_refused, some_ends, until_end}
use Rattle.mp_replies.specs.Line.{asked_of, ends}
use Rattle.mp_commands.specs.Preparing.{IsAsked, ToldFor}
use Rattle.mp_session.specs.Sessions.{AsksFile, SessionParts, StandsFor, ToldForAll, fetch_count, some_fetch}
use Rattle.mp_session.specs.Running.{HaveAsked, HaveRun, Course, WereRun, course_at}

pub not_both : {P : Type 0} {b : Bool} → b ≡ true → b ≡ false → P
not_both t f = cc

-- ---- lists of lines

pub state_after-append : (state : State) (files : Files) (ran more : List (List ℕ))
    → state_after state files (ran ++ more) ≡ state_after (state_after state files ran) files more
state_after-append state files [] more = refl
state_after-append state files (line ∷ ran) more = state_after-append (after state line files) files ran more

pub replies-append : (state : State) (files : Files) (ran more : List (List ℕ))
    → replies state files (ran ++ more) ≡ replies state files ran ++ replies (state_after state files ran) files more
replies-append state files [] more = refl
replies-append state files (line ∷ ran) more =
    ap (λ rs. reply state line files ∷ rs) (replies-append (after state line files) files ran more)

pub some_refused-append : (state : State) (files : Files) (ran more : List (List ℕ))
    → some_refused state files (ran ++ more)
    ≡ (some_refused state files ran || some_refused (state_after state files ran) files more)
some_refused-append state files [] more = refl
some_refused-append state files (line ∷ ran) more =
    ap (λ b. is_some (cause state line files) || b) (some_refused-append (after state line files) files ran more)
    ∙ sym (or_assoc (is_some (cause state line files)) (some_refused (after state line files) files ran)
    (some_refused (state_after (after state line files) files ran) files more))

pub some_ends-append : (ran more : List (List ℕ)) → some_ends (ran ++ more) ≡ (some_ends ran || some_ends more)
some_ends-append [] more = refl
some_ends-append (line ∷ ran) more =
    ap (λ b. ends line || b) (some_ends-append ran more) ∙ sym (or_assoc (ends line) (some_ends ran) (some_ends more))

pub some_ends_cut : (ran : List (List ℕ)) → some_ends (map cut ran) ≡ some_ends ran
some_ends_cut [] = refl
some_ends_cut (line ∷ ran) = rw (ends_cut line) (ap (λ b. ends line || b) (some_ends_cut ran))

pub until_end-append : (ran more : List (List ℕ)) → some_ends ran ≡ false
    → until_end (ran ++ more) ≡ ran ++ until_end more
until_end-append [] more goes_on = refl
until_end-append (line ∷ ran) more goes_on =
    let parts = or_parts (ends line) (some_ends ran) goes_on in
    rw parts.0 (ap (λ ls. line ∷ ls) (until_end-append ran more parts.1))

pub until_end-one : (line : List ℕ) → until_end (line ∷ []) ≡ line ∷ []
until_end-one line = ⊎_elim
    (λ (last : ends line ≡ true). rw last refl)
    (λ (goes_on : ends line ≡ false). rw goes_on refl)
    (cases_Bool (ends line))

-- ---- files

pub some_fetch-append : (state : State) (files : Files) (ran more : List (List ℕ))
    → some_fetch state files (ran ++ more)
    ≡ (some_fetch state files ran || some_fetch (state_after state files ran) files more)
some_fetch-append state files [] more = refl
some_fetch-append state files (line ∷ ran) more =
    ap (λ b. fetches state line || b) (some_fetch-append (after state line files) files ran more)
    ∙ sym (or_assoc (fetches state line) (some_fetch (after state line files) files ran)
    (some_fetch (state_after (after state line files) files ran) files more))

pub fetch_count-append : (state : State) (files : Files) (ran more : List (List ℕ))
    → fetch_count state files (ran ++ more)
    ≡ fetch_count state files ran + fetch_count (state_after state files ran) files more
fetch_count-append state files [] more = omega arith
fetch_count-append state files (line ∷ ran) more =
    let rest = fetch_count-append (after state line files) files ran more in
    omega (arith, rest)

-- what is told for all lines is told for the first of them
pub told_first : {told : Option Files} (state : State) (files : Files) (ran more : List (List ℕ))
    → ToldForAll told state files (ran ++ more) → ToldForAll told state files ran
told_first state files ran more t = λ asks. t (some_fetch-append state files ran more ∙ rw asks refl)

-- and for those behind them
pub told_then : {told : Option Files} (state : State) (files : Files) (ran more : List (List ℕ))
    → ToldForAll told state files (ran ++ more) → ToldForAll told (state_after state files ran) files more
told_then state files ran more t = λ asks.
    t (some_fetch-append state files ran more ∙ rw asks (or-true (some_fetch state files ran)))

pub told_line : {told : Option Files} (state : State) (files : Files) (line : List ℕ)
    → ToldForAll told state files (line ∷ []) → ToldFor told state (asked_of state.mode.version line) files
unfolding fetches
told_line state files line t = λ asks. t (rw asks refl)

-- ---- sessions

-- the session stopped at a line, and is as before
have_run_stopped : (told : Option Files) (old new : SessionParts)
    → ((state : State) → StandsFor old state → StandsFor new state)
    → new.lines ≡ old.lines → HaveRun told [] [] old new false
have_run_stopped told old new stop count = record {
  texts_are = λ state files h t. refl;
  stands = λ state files h t. stop state h;
  refused_is = λ state files h t. refl;
  count = omega (arith, count);
}

pub have_run_on : {told : Option Files} {lines more texts others : List (List ℕ)} {old mid new : SessionParts}
    {refused later : Bool}
    → HaveRun told lines texts old mid refused → HaveRun told more others mid new later
    → HaveRun told (lines ++ more) (texts ++ others) old new (refused || later)
have_run_on {told} {lines} {more} {texts} {others} {old} {mid} {new} {refused} {later} one two = record {
  texts_are = λ state files h t.
      let first = told_first state files lines more t in
      let then = told_then state files lines more t in
      rw (
        one.texts_are state files h first,
        two.texts_are (state_after state files lines) files (one.stands state files h first) then,
      )
      (sym (replies-append state files lines more));
  stands = λ state files h t.
      let first = told_first state files lines more t in
      let then = told_then state files lines more t in
      subst (StandsFor new) (sym (state_after-append state files lines more))
      (two.stands (state_after state files lines) files (one.stands state files h first) then);
  refused_is = λ state files h t.
      let first = told_first state files lines more t in
      let then = told_then state files lines more t in
      rw (
        one.refused_is state files h first,
        two.refused_is (state_after state files lines) files (one.stands state files h first) then,
      )
      (sym (some_refused-append state files lines more));
  count = omega (arith, one.count, two.count, length-append lines more);
}

pub have_run_one : (told : Option Files) (line text : List ℕ) (old new : SessionParts) (refused : Bool)
    → ((state : State) (files : Files) → StandsFor old state → ToldForAll told state files (line ∷ [])
    → text ≡ reply state line files)
    → ((state : State) (files : Files) → StandsFor old state → ToldForAll told state files (line ∷ [])
    → StandsFor new (after state line files))
    → ((state : State) (files : Files) → StandsFor old state → ToldForAll told state files (line ∷ [])
    → refused ≡ is_some (cause state line files))
    → new.lines ≡ old.lines + 1 → HaveRun told (line ∷ []) (text ∷ []) old new refused
have_run_one told line text old new refused text_is later is count = record {
  texts_are = λ state files h t. ap (λ (r : List ℕ). r ∷ []) (text_is state files h t);
  stands = later;
  refused_is = λ state files h t. is state files h t ∙ sym (or-false (is_some (cause state line files)));
  count = omega (arith, count);
}

-- a line that can't fail where it asks for no file asks for one, where it failed
pub asks_where : (session : SessionParts) (state : State) (line : List ℕ) → StandsFor session state
    → (AsksFile line session false → ⊥) → fetches state line ≡ true
asks_where session state line h failed =
    ⊎_elim (λ (asks : fetches state line ≡ true). asks)
    (λ (asks : fetches state line ≡ false). absurd (failed (record { state = state; stand = h; is = asks })))
    (cases_Bool (fetches state line))

-- ---- fetches

pub have_asked_none : {told : Option Files} {session : SessionParts} (fetched : ℕ) → fetched ≤ 2 ^ 128 - 1
    → HaveAsked told [] session fetched fetched
have_asked_none fetched fits = record { count = λ state files h t. omega (arith, fits) }

-- by one line, whether it was answered or the run stopped at it
pub have_asked_one : {H : Type 0} {shelf : shelves.Ghosts H} {told : Option Files} {session : SessionParts}
    {line : List ℕ} {failed : Type 0} {old new : H} → IsAsked shelf (AsksFile line session) failed old new
    → shelf.fetches old ≤ 2 ^ 128 - 1
    → HaveAsked told (line ∷ []) session (shelf.fetches old) (shelf.fetches new)
have_asked_one {shelf = shelf} {line = line} {old = old} {new = new} asked fits = record {
  count = λ state files h t. ⊎_elim
      (λ (asks : fetches state line ≡ true).
      asked.fetched (record { state = state; stand = h; is = asks })
      ∙ ap (λ b. raised (bit b + 0) (shelf.fetches old)) (sym asks))
      (λ (asks : fetches state line ≡ false).
      let same = ap shelf.fetches (asked.unfetched (record { state = state; stand = h; is = asks })) in
      let kept : shelf.fetches new ≡ raised 0 (shelf.fetches old) = omega (arith, same, fits) in
      kept ∙ ap (λ b. raised (bit b + 0) (shelf.fetches old)) (sym asks))
      (cases_Bool (fetches state line));
}

-- what is known of a shelf behind lines that left its files and its faults as they were
pub asked_behind : {H : Type 0} {shelf : shelves.Ghosts H} {needs : Bool → Type 0} {failed stopped : Type 0}
    {first old new : H} → IsAsked shelf needs failed old new → shelf.files old ≡ shelf.files first
    → shelf.faults old ≡ shelf.faults first → (stopped → failed) → (failed → stopped)
    → IsAsked shelf (λ file. ⊥) stopped first new
asked_behind {shelf = shelf} {new = new} asked files calm to from = record {
  files = asked.files ∙ files;
  fault = λ stop. subst (λ before. Rose before (shelf.faults new)) calm (asked.fault (to stop));
  calm = λ none. asked.calm (λ failed. none (from failed)) ∙ calm;
  fetched = λ none. absurd none;
  unfetched = λ none. absurd none;
  no_fault = λ none stop. none;
}

pub have_asked_on : {told : Option Files} {lines more texts : List (List ℕ)} {old mid : SessionParts}
    {refused : Bool} {first then last : ℕ}
    → HaveRun told lines texts old mid refused → HaveAsked told lines old first then → HaveAsked told more mid then last
    → HaveAsked told (lines ++ more) old first last
have_asked_on {lines = lines} {more = more} run one two = record {
  count = λ state files h t.
      let first = one.count state files h (told_first state files lines more t) in
      let then = two.count (state_after state files lines) files (run.stands state files h
      (told_first state files lines more t)) (told_then state files lines more t) in
      let all = fetch_count-append state files lines more in
      omega (arith, first, then, all);
}

-- ---- sessions and sinks

module _ {Out : Type 0} {sink : Ghosts Out} where
  pub were_run_stopped : (told : Option Files) (old new : SessionParts) {left : Option (List ℕ)} {out : Out}
      → ((state : State) → StandsFor old state → StandsFor new state) → new.lines ≡ old.lines
      → WereRun sink told [] (course_at old left out) (course_at new left out) false
  were_run_stopped told old new stop count =
      record { texts = []; run = have_run_stopped told old new stop count; wrote = none }

  pub were_run_none : (told : Option Files) (course : Course Out) → WereRun sink told [] course course false
  were_run_none told course = were_run_stopped told course.session course.session (λ state h. h) refl

  pub were_run_on : {told : Option Files} {lines more : List (List ℕ)} {old mid new : Course Out} {refused later : Bool}
      → WereRun sink told lines old mid refused → WereRun sink told more mid new later
      → WereRun sink told (lines ++ more) old new (refused || later)
  were_run_on one two = record {
    texts = one.texts ++ two.texts;
    run = have_run_on one.run two.run;
    wrote = wrote_on one.wrote two.wrote;
  }
