-- From the lines that were run to what is told of them.
use Rattle.std.proofs.Common.{◌≡◌, ◌≢◌, ◌⊎◌, inl, inr, ℕ, ◌+◌, ◌<◌, ◌≤◌, Bool, true, false, List, [], ◌∷◌, ◌++◌}
use Rattle.std.proofs.Common.{length, take, drop, get_or, append_assoc, map, refl, sym, ap, ◌∙◌, subst, arith}
use Rattle.std.proofs.Common.{append-nil, length-append, ⊎_elim}
use Rattle.std.specs.Prelude.{Option, Some, None, option_and_then, codes, Result, Ok, Err, IfOk, IsErrOf}
use Rattle.std.specs.Prelude.{IsTrue}
use Rattle.std.specs.List.{concat, take-map}
use Rattle.std.proofs.lemmas.List.{drop_more, get_or-map, length-map, nil_from_length, take_all, take-append-drop}
use Rattle.std.proofs.lemmas.List.{take-append-le}
use Rattle.std.proofs.Math.Bool.{or-true}
use Rattle.std.proofs.lemmas.Bool.{cases_Bool}
use Rattle.std.proofs.lemmas.List.Folds.{concat-append}
use Rattle.std.proofs.Math.Seq.{get_or-append_seam, take-append_seam}
use Rattle.mp_outside.specs.declared.sinks.Sink.{Ghosts}
use Rattle.mp_bytes.specs.Lines.{cut, lines, ended_lines}
use Rattle.mp_feed.specs.Feeding.{nothing, lines_left}
use Rattle.mp_feed.specs.Reading.{bit}
use Rattle.mp_feed.specs.Writing.{TellsPrefix}
use Rattle.mp_feed.specs.WritingLaws.{front_told, wrote_flushed, wrote_nothing, wrote_told}
use Rattle.mp_replies.specs.CutLaws.{after_cut, cause_cut, ends_cut, fetches_cut, reply_cut}
use Rattle.mp_replies.specs.State.{Files, State}
use Rattle.mp_replies.specs.Line.{ends}
use Rattle.mp_replies.specs.Step.{after, fetches}
use Rattle.mp_replies.specs.Output.{lines_run, output, output_by, replies, reports, session_output, some_ends}
use Rattle.mp_replies.specs.Output.{some_refused, state_after, until_end, usage}
use Rattle.mp_replies.specs.Summary.{summary_of}
use Rattle.mp_replies.specs.Words.{Job, Setup, job, job_with, session_job}
use Rattle.mp_replies.specs.declared.makes.Make.{Make}
use Rattle.mp_session.specs.declared.halts.Halt.{Halt}
use Rattle.mp_session.specs.declared.halts.Halt.TheVariants as halts
use Rattle.mp_session.specs.declared.top.Status.{Status}
use Rattle.mp_session.specs.declared.top.Status.TheVariants as statuses
use Rattle.mp_session.specs.Sessions.{StandsFor, ToldForAll, fetch_count, some_fetch}
use Rattle.mp_session.specs.Statuses.{is_whole, ran, status_by}
use Rattle.mp_session.specs.Running.{AreFirst, Course, IsPast, IsWithin, RanAll, RanEnded, RanInto, RanSome, RanToFile}
use Rattle.mp_session.specs.Running.{HaveAsked, WereRun}
use Rattle.mp_session.specs.Calls.{AsksSession, AsksSummary, Call, HasRoom, Outside, ToldForRun, ToldTaken, ToldToFile}
use Rattle.mp_session.specs.Serving.{EndsByCause, IsServed, ReadsInput, RefusesWords, WritesOutput, WritesSummary}
use Rattle.mp_outside.specs.Counts.{Rose, raised}
use Rattle.mp_session.proofs.RunLemmas.{fetch_count-append, not_both, replies-append, some_ends_cut, some_fetch-append}
use Rattle.mp_session.proofs.RunLemmas.{told_first}
use Rattle.mp_session.proofs.RunLemmas.{told_then}

-- all of the text is a front of it
pub whole_text : (now : Option (List ℕ)) (before text : List ℕ) → now ≡ Some (before ++ text)
    → TellsPrefix now before text
whole_text now before text told =
    (length text, omega arith, told ∙ ap (λ t. Some (before ++ t)) (sym (take_all (length text) text (omega arith))))

-- ---- lines that are cut

replies_cut : (state : State) (files : Files) (ran : List (List ℕ))
    → replies state files (map cut ran) ≡ replies state files ran
replies_cut state files [] = refl
replies_cut state files (line ∷ ran) =
    rw (reply_cut state files line, after_cut state files line, replies_cut (after state line files) files ran) refl

state_after_cut : (state : State) (files : Files) (ran : List (List ℕ))
    → state_after state files (map cut ran) ≡ state_after state files ran
state_after_cut state files [] = refl
state_after_cut state files (line ∷ ran) =
    ap (λ s. state_after s files (map cut ran)) (after_cut state files line)
    ∙ state_after_cut (after state line files) files ran

some_refused_cut : (state : State) (files : Files) (ran : List (List ℕ))
    → some_refused state files (map cut ran) ≡ some_refused state files ran
some_refused_cut state files [] = refl
some_refused_cut state files (line ∷ ran) =
    rw (cause_cut state files line, after_cut state files line, some_refused_cut (after state line files) files ran)
    refl

some_fetch_cut : (state : State) (files : Files) (ran : List (List ℕ))
    → some_fetch state files (map cut ran) ≡ some_fetch state files ran
some_fetch_cut state files [] = refl
some_fetch_cut state files (line ∷ ran) =
    rw (fetches_cut state line, after_cut state files line, some_fetch_cut (after state line files) files ran) refl

fetch_count_cut : (state : State) (files : Files) (ran : List (List ℕ))
    → fetch_count state files (map cut ran) ≡ fetch_count state files ran
fetch_count_cut state files [] = refl
fetch_count_cut state files (line ∷ ran) =
    rw (fetches_cut state line, after_cut state files line, fetch_count_cut (after state line files) files ran) refl

until_end_cut : (ran : List (List ℕ)) → until_end (map cut ran) ≡ map cut (until_end ran)
until_end_cut [] = refl
until_end_cut (line ∷ ran) = rw (ends_cut line) (⊎_elim
    (λ (last : ends line ≡ true). rw last refl)
    (λ (goes_on : ends line ≡ false). rw goes_on (ap (λ ls. cut line ∷ ls) (until_end_cut ran)))
    (cases_Bool (ends line)))

-- the lines that are run of an input
run_of : (bytes : List ℕ) → until_end (lines_left nothing bytes) ≡ map cut (lines_run bytes)
run_of bytes = until_end_cut (lines bytes)

-- where one of the first lines asks for a file, one of all lines does
fetched_in : {Out : Type 0} {ran : List (List ℕ)} {old : Course Out} → AreFirst ran old
    → (state : State) (files : Files) (bytes : List ℕ)
    → old.left ≡ Some bytes → some_fetch state files ran ≡ true → some_fetch state files (lines_run bytes) ≡ true
fetched_in {ran = ran} first state files bytes e asks =
    let more = first.more bytes e in
    sym (some_fetch_cut state files (lines_run bytes))
    ∙ (ap (some_fetch state files) (sym (run_of bytes) ∙ more.1)
    ∙ (some_fetch-append state files ran more.0 ∙ rw asks refl))

-- ---- what was written is a front of the output

front_within : (now : Option (List ℕ)) (before front others text : List ℕ) → text ≡ front ++ others
    → TellsPrefix now before front → TellsPrefix now before text
front_within now before front others text whole told = (
  told.0,
  omega (arith, ap length whole, length-append front others, told.1),
  told.2
      ∙ ap (λ t. Some (before ++ t)) (sym (take-append-le told.0 front others told.1) ∙ ap (take told.0) (sym whole)),
)

-- a run begins at this state, on a source and a shelf that tell these bytes and files
pub record Begins {Out : Type 0} (shelf : Option Files) (old : Course Out) (state : State) (files : Files)
    (bytes : List ℕ) : Type 0 where
  pub stands : StandsFor old.session state
  pub told : ToldForRun shelf state files bytes
  pub source : old.left ≡ Some bytes

-- and on a sink that tells what was written before and has room for the output
pub record Tells {Out : Type 0} (sink : Ghosts Out) (shelf : Option Files) (old : Course Out) (state : State)
    (files : Files) (bytes before : List ℕ) : Type 0 where
  pub begins : Begins shelf old state files bytes
  pub written : sink.written old.out ≡ Some before
  pub fits : length before + length (session_output state files bytes) ≤ sink.room old.out

module _ {Out : Type 0} {shelf : Option Files} {old : Course Out} {state : State} {files : Files} {bytes : List ℕ}
    (b : Begins shelf old state files bytes) where
  -- the files are told for the first lines
  told_in : {ran : List (List ℕ)} → AreFirst ran old → ToldForAll shelf state files ran
  told_in first = λ asks. b.told (fetched_in first state files bytes b.source asks)

  -- the output is what the first lines report, and others
  first_texts : {ran texts : List (List ℕ)} → AreFirst ran old → texts ≡ replies state files ran
      → (others : List ℕ) × (session_output state files bytes ≡ concat texts ++ others)
  first_texts {ran = ran} first texts_are =
      let more = first.more bytes b.source in
      let rest = replies (state_after state files ran) files more.0 in (
        concat rest,
        ap concat (sym (replies_cut state files (lines_run bytes)))
            ∙ (ap (λ ls. concat (replies state files ls)) (sym (run_of bytes) ∙ more.1)
            ∙ (ap concat (replies-append state files ran more.0)
            ∙ (concat-append (replies state files ran) rest
            ∙ ap (λ ts. concat ts ++ concat rest) (sym texts_are)))),
      )

-- ---- what was run

module _ {Out : Type 0} {sink : Ghosts Out} {shelf : Option Files} {old new : Course Out} where
  pub all_some : {limit : ℕ} {refused : Bool} → RanAll sink shelf limit old new refused → RanSome sink shelf old new
  all_some {refused = refused} ran = record {
    lines = ran.lines;
    refused = refused;
    run = ran.run;
    first = record { more = λ bytes e. ([], ran.lines_are bytes e ∙ sym (append-nil ran.lines)) };
  }

  -- however a run ended: some lines, and a front of the report of one more where a write failed
  pub ran_in : {limit : ℕ} (r : Result Bool Halt) (status : Status) → status ≡ status_by r
      → IfOk r (RanAll sink shelf limit old new) → (IsErrOf r halts.ReadFault → RanEnded sink shelf 0 old new)
      → (IsErrOf r halts.InputLimit → (ran : RanEnded sink shelf 1 old new) × (length ran.taken ≡ limit))
      → (IsErrOf r halts.Memory → RanSome sink shelf old new)
      → (IsErrOf r halts.WriteFault → RanInto sink shelf old new)
      → (IsErrOf r halts.ShelfFault → RanToFile sink shelf old new)
      → RanSome sink shelf old new ⊎ (status ≡ statuses.WriteFault) × RanInto sink shelf old new
  ran_in (Ok refused) status is all read past memory into file = inl (all_some all)
  ran_in (Err halts.ReadFault) status is all read past memory into file = inl (read refl).some
  ran_in (Err halts.InputLimit) status is all read past memory into file = inl (past refl).0.some
  ran_in (Err halts.Memory) status is all read past memory into file = inl (memory refl)
  ran_in (Err halts.WriteFault) status is all read past memory into file = inr (is, into refl)
  ran_in (Err halts.ShelfFault) status is all read past memory into file = inl (file refl).some

  pub all_read : {limit : ℕ} {refused : Bool} → RanAll sink shelf limit old new refused
      → (bytes : List ℕ) → old.left ≡ Some bytes → some_ends (lines_run bytes) ≡ false
      → (new.left ≡ Some []) × (length bytes ≤ limit)
  all_read ran bytes e none =
      ran.read bytes e
      (ap some_ends (sym (ran.lines_are bytes e) ∙ run_of bytes) ∙ (some_ends_cut (lines_run bytes) ∙ none))

  pub some_flushed : RanSome sink shelf old new → (sink.flushed new.out ≡ true) ⊎ (new.out ≡ old.out)
  some_flushed ran = wrote_flushed ran.run.wrote

  -- a byte past the limit was taken, so there was one, and no line within it ended the run
  taken_is : {limit : ℕ} (ended : (ran : RanEnded sink shelf 1 old new) × (length ran.taken ≡ limit))
      → (bytes : List ℕ) → old.left ≡ Some bytes → take limit bytes ≡ ended.0.taken
  taken_is ended bytes e =
      let off = ended.0.source bytes e in
      ap (λ n. take n bytes) (sym ended.1)
      ∙ (ap (take (length ended.0.taken)) off.bytes_are ∙ take-append_seam ended.0.taken (off.over ++ off.rest))

  pub past_limit : {limit : ℕ} (ended : (ran : RanEnded sink shelf 1 old new) × (length ran.taken ≡ limit))
      → (bytes : List ℕ) → old.left ≡ Some bytes → IsPast limit bytes
  past_limit ended bytes e =
      let ran = ended.0 in
      let off = ran.source bytes e in
      let long = ap length off.bytes_are in
      record {
        longer = omega (arith, ended.1, off.over_count, simp length-append at long);
        none_ends =
            ap (λ t. some_ends (ended_lines t)) (taken_is ended bytes e)
            ∙ (sym (some_ends_cut (ended_lines ran.taken)) ∙ (ap some_ends ran.lines_are ∙ ran.none_ends));
      }

  -- the run stopped where a file was asked for, so one was
  pub stopped_at_file : RanToFile sink shelf old new → (state : State) (files : Files) (bytes : List ℕ)
      → StandsFor old.session state → old.left ≡ Some bytes → some_fetch state files (lines_run bytes) ≡ false → ⊥
  stopped_at_file ran state files bytes h e none =
      let asks = ran.asks state files h
      (λ asks. not_both (fetched_in ran.some.first state files bytes e asks) none) in
      let fetched : some_fetch state files (ran.some.lines ++ ran.line ∷ []) ≡ true =
      some_fetch-append state files ran.some.lines (ran.line ∷ [])
      ∙ rw asks (or-true (some_fetch state files ran.some.lines)) in
      not_both (fetched_in ran.next state files bytes e fetched) none

module _ {Out : Type 0} {sink : Ghosts Out} {shelf : Option Files} {old new : Course Out} {state : State}
    {files : Files} {bytes : List ℕ} (b : Begins shelf old state files bytes) where
  some_texts : {ran : List (List ℕ)} {refused : Bool} (run : WereRun sink shelf ran old new refused) → AreFirst ran old
      → (others : List ℕ) × (session_output state files bytes ≡ concat run.texts ++ others)
  some_texts run first = first_texts b first (run.run.texts_are state files b.stands (told_in b first))

  into_texts : (ran : RanInto sink shelf old new)
      → (others : List ℕ)
      × (session_output state files bytes ≡ (concat ran.run.texts ++ ran.begun.text) ++ others)
  into_texts ran =
      let all = told_in b ran.first in
      let first = told_first state files ran.lines (ran.line ∷ []) all in
      let then = told_then state files ran.lines (ran.line ∷ []) all in
      let others = first_texts b ran.first
      (ap (λ ts. ts ++ (ran.begun.text ∷ [])) (ran.run.run.texts_are state files b.stands first)
      ∙ (ap (λ ts. replies state files ran.lines ++ ts)
      (ran.begun.text_is (state_after state files ran.lines) files (ran.run.run.stands state files b.stands first) then)
      ∙ sym (replies-append state files ran.lines (ran.line ∷ [])))) in (
        others.0,
        others.1
            ∙ ap (λ t. t ++ others.0)
            (concat-append ran.run.texts (ran.begun.text ∷ [])
            ∙ ap (λ t. concat ran.run.texts ++ t) (append-nil ran.begun.text)),
      )

  pub all_refused : {limit : ℕ} {refused : Bool} → RanAll sink shelf limit old new refused
      → refused ≡ some_refused state files (lines_run bytes)
  unfolding all_some
  all_refused ran =
      ran.run.run.refused_is state files b.stands (told_in b (all_some ran).first)
      ∙ (ap (some_refused state files) (sym (ran.lines_are bytes b.source) ∙ run_of bytes)
      ∙ some_refused_cut state files (lines_run bytes))

  pub all_asked : {limit : ℕ} {refused : Bool} {first last : ℕ} (ran : RanAll sink shelf limit old new refused)
      → HaveAsked shelf ran.lines old.session first last
      → last ≡ raised (fetch_count state files (lines_run bytes)) first
  unfolding all_some
  all_asked {first = first} ran asked =
      asked.count state files b.stands (told_in b (all_some ran).first)
      ∙ ap (λ n. raised n first)
      (ap (fetch_count state files) (sym (ran.lines_are bytes b.source) ∙ run_of bytes)
      ∙ fetch_count_cut state files (lines_run bytes))

  -- a sink that nothing was to be written to
  pub some_quiet : RanSome sink shelf old new → session_output state files bytes ≡ [] → new.out ≡ old.out
  some_quiet ran none =
      let others = some_texts ran.run ran.first in
      wrote_nothing ran.run.wrote
      (nil_from_length (concat ran.run.texts)
      (omega (arith, ap length others.1, length-append (concat ran.run.texts) others.0, ap length none)))

  pub into_quiet : RanInto sink shelf old new → session_output state files bytes ≡ [] → new.out ≡ old.out
  into_quiet ran none =
      let others = into_texts ran in
      let long = ap length (sym others.1 ∙ none) in
      absurd (omega (arith, ran.begun.front.some, simp length-append at long))

-- ---- what is told of it

module _ {Out : Type 0} {sink : Ghosts Out} {shelf : Option Files} {old new : Course Out} {state : State}
    {files : Files} {bytes before : List ℕ} (k : Tells sink shelf old state files bytes before) where
  told_front : {ran : List (List ℕ)} {refused : Bool} (run : WereRun sink shelf ran old new refused) → AreFirst ran old
      → sink.written new.out ≡ Some (before ++ concat run.texts)
  told_front run first =
      let others = some_texts k.begins run first in
      wrote_told run.wrote before k.written
      (omega (arith, ap length others.1, length-append (concat run.texts) others.0, k.fits))

  pub some_front : RanSome sink shelf old new
      → TellsPrefix (sink.written new.out) before (session_output state files bytes)
  some_front ran =
      let others = some_texts k.begins ran.run ran.first in
      front_within (sink.written new.out) before (concat ran.run.texts) others.0 (session_output state files bytes)
      others.1
      (whole_text (sink.written new.out) before (concat ran.run.texts) (told_front ran.run ran.first))

  pub into_front : RanInto sink shelf old new
      → TellsPrefix (sink.written new.out) before (session_output state files bytes)
  into_front ran =
      let others = into_texts k.begins ran in
      let front = concat ran.run.texts ++ ran.begun.text in
      front_within (sink.written new.out) before front others.0 (session_output state files bytes) others.1
      (front_told ran.run.wrote ran.begun.front before k.written
      (omega (arith, ap length others.1, length-append front others.0, k.fits)))

  -- of lines that are whole lines of the input
  told_lines : (ran : RanSome sink shelf old new) (whole : List (List ℕ)) → map cut whole ≡ ran.lines
      → sink.written new.out ≡ Some (before ++ reports state files whole)
  told_lines ran whole is =
      told_front ran.run ran.first
      ∙ ap (λ ts. Some (before ++ concat ts))
      (ran.run.run.texts_are state files k.begins.stands (told_in k.begins ran.first)
      ∙ (ap (replies state files) (sym is) ∙ replies_cut state files whole))

  pub all_told : {limit : ℕ} {refused : Bool} → RanAll sink shelf limit old new refused
      → sink.written new.out ≡ Some (before ++ session_output state files bytes)
  unfolding all_some
  all_told ran =
      told_lines (all_some ran) (lines_run bytes) (sym (run_of bytes) ∙ ran.lines_are bytes k.begins.source)

  pub some_whole : RanSome sink shelf old new
      → (count : ℕ) × (sink.written new.out ≡ Some (before ++ reports state files (take count (lines_run bytes))))
  some_whole ran =
      let count = length ran.lines in
      let more = ran.first.more bytes k.begins.source in (
        count,
        told_lines ran (take count (lines_run bytes))
            (sym (take-map cut count (lines_run bytes))
            ∙ (ap (take count) (sym (run_of bytes) ∙ more.1) ∙ take-append_seam ran.lines more.0)),
      )

  -- the lines before the one that asks for a file, in whole lines of the input
  pub told_to_file : {Sh : Type 0} {call : Call Sh Out} (ran : RanToFile sink shelf old new)
      → HaveAsked shelf (ran.some.lines ++ ran.line ∷ []) old.session call.old.fetched call.new.fetched
      → call.new.written ≡ sink.written new.out → ToldToFile call state files bytes before
  told_to_file ran asked written =
      let all = lines_run bytes in
      let count = length ran.some.lines in
      let more = ran.next.more bytes k.begins.source in
      let split : map cut all ≡ ran.some.lines ++ ran.line ∷ more.0 =
      sym (run_of bytes) ∙ (more.1 ∙ append_assoc ran.some.lines (ran.line ∷ []) more.0) in
      let within : count < length all =
      omega (arith, sym (length-map all cut), ap length split, length-append ran.some.lines (ran.line ∷ more.0)) in
      let front : map cut (take count all) ≡ ran.some.lines =
      sym (take-map cut count all) ∙ (ap (take count) split ∙ take-append_seam ran.some.lines (ran.line ∷ more.0)) in
      let wants = ran.asks state files k.begins.stands (told_in k.begins ran.some.first) in
      let here : cut (get_or all count []) ≡ ran.line =
      sym (get_or-map cut all count [] [] within)
      ∙ (ap (λ ls. get_or ls count []) split ∙ get_or-append_seam ran.some.lines ran.line more.0 []) in
      record {
        ran = take count all;
        line = get_or all count [];
        others = drop (count + 1) all;
        lines_are = sym (take-append-drop count all) ∙ ap (λ ls. take count all ++ ls) (drop_more all count [] within);
        asks = ap (λ s. fetches s (get_or all count [])) (sym (state_after_cut state files (take count all)))
            ∙ (sym (fetches_cut (state_after state files (map cut (take count all))) (get_or all count []))
            ∙ (ap (fetches (state_after state files (map cut (take count all)))) here
            ∙ (ap (λ ls. fetches (state_after state files ls) ran.line) front
            ∙ wants)));
        count =
            let before = ap (fetch_count state files) front in
            let same = fetch_count_cut state files (take count all) in
            let both = fetch_count-append state files ran.some.lines (ran.line ∷ []) in
            let one = ap bit wants in
            let is = asked.count state files k.begins.stands (told_in k.begins ran.next) in
            omega (arith, before, same, both, one, is);
        told = written ∙ told_lines ran.some (take count all) front;
      }

  ended_told : {overs : ℕ} (ran : RanEnded sink shelf overs old new)
      → sink.written new.out ≡ Some (before ++ reports state files (ended_lines ran.taken))
  ended_told ran = told_lines ran.some (ended_lines ran.taken) ran.lines_are

  pub told_taken : RanEnded sink shelf 0 old new → ToldTaken state files bytes new.left before (sink.written new.out)
  told_taken ran =
      let off = ran.source bytes k.begins.source in
      let none : off.over ≡ [] = nil_from_length off.over off.over_count in
      record {
        taken = ran.taken;
        rest = off.rest;
        bytes_are = off.bytes_are ∙ ap (λ over. ran.taken ++ (over ++ off.rest)) none;
        left_is = off.later_is;
        told = ended_told ran;
      }

  pub told_within : {limit : ℕ} → (ran : RanEnded sink shelf 1 old new) × (length ran.taken ≡ limit)
      → sink.written new.out ≡ Some (before ++ reports state files (ended_lines (take limit bytes)))
  told_within ended =
      ended_told ended.0
      ∙ ap (λ t. Some (before ++ reports state files (ended_lines t))) (sym (taken_is ended bytes k.begins.source))

-- ---- by the words

pub output_is : (words : List (List ℕ)) (asked : Option Job) (files : Files) (bytes : List ℕ) → asked ≡ job words
    → output_by asked files bytes ≡ output words files bytes
unfolding output
output_is words asked files bytes e = ap (λ j. output_by j files bytes) e

begun_long : (rest : List ℕ) → 0 < length (codes "generated " ++ rest)
begun_long rest = omega (arith, length-append (codes "generated ") rest)

summary_long : (m : ℕ) (make : Make) → 0 < length (summary_of m make)
summary_long m make = begun_long _

pub summary_is_some : (m : ℕ) (make : Make) → summary_of m make ≢ []
summary_is_some m make none =
    let long : 0 < length (summary_of m make) = summary_long m make in omega (arith, long, ap length none)

pub usage_is_some : usage ≢ []
usage_is_some none = omega (arith, ap length none)

pub same_setup : (words : List (List ℕ)) (one other : Setup) → Some (session_job one) ≡ job words
    → job words ≡ Some (session_job other) → one ≡ other
same_setup words one other e is =
    let both : Some (session_job one) ≡ Some (session_job other) = e ∙ is in
    let jobs : session_job one ≡ session_job other = cc in ap (λ (j : Job). j.setup) jobs

-- words that ask for a session ask for no summary
pub not_both_jobs : (words : List (List ℕ)) (one other : Setup) (make : Make) {P : Type 0}
    → job words ≡ Some (session_job one) → job words ≡ Some (job_with other (Some make)) → P
not_both_jobs words one other make e is =
    let both : Some (session_job one) ≡ Some (job_with other (Some make)) = sym e ∙ is in
    let makes : None ≡ Some make = ap (λ (o : Option Job). option_and_then (λ (j : Job). j.make) o) both in
    absurd (cc makes)

pub same_summary : (words : List (List ℕ)) (one other : Setup) (make made : Make)
    → Some (job_with one (Some make)) ≡ job words → job words ≡ Some (job_with other (Some made))
    → summary_of one.window make ≡ summary_of other.window made
same_summary words one other make made e is =
    let both : Some (job_with one (Some make)) ≡ Some (job_with other (Some made)) = e ∙ is in
    let jobs : job_with one (Some make) ≡ job_with other (Some made) = cc in
    ap (λ (j : Job). elim j.make as (λ _. List ℕ) [ None ↦ [] | Some m ↦ summary_of j.setup.window m ]) jobs

-- ---- by the status

pub on_whole : {P : Bool → Type 0} {Q : Type 0} (r : Result Bool Halt) (status : Status) → status ≡ status_by r
    → IsTrue (is_whole status) → IfOk r P → ((x : Bool) → status ≡ ran x → P x → Q) → Q
on_whole (Ok refused) status is whole all then = then refused is all
on_whole (Err halts.Memory) status is whole all then = let whole = rw is at whole in cc
on_whole other status is whole all then = let whole = rw is at whole in cc

-- where a run can't come to its end, it ends early
pub when_early : {P : Bool → Type 0} (r : Result Bool Halt) (status : Status) → status ≡ status_by r → IfOk r P
    → ((x : Bool) → P x → ⊥)
    → (status ≡ statuses.InputLimit) ⊎ ((status ≡ statuses.ReadFault)
    ⊎ ((status ≡ statuses.WriteFault) ⊎ (status ≡ statuses.Memory)))
when_early (Ok refused) status is all none = absurd (none refused all)
when_early (Err halts.Memory) status is all none = inr (inr (inr is))
when_early other status is all none = grind arith

-- why a run ended early, read off its status
module _ (r : Result Bool Halt) (status : Status) (is : status ≡ status_by r) where
  pub on_read_fault : status ≡ statuses.ReadFault → IsErrOf r halts.ReadFault ⊎ IsErrOf r halts.ShelfFault
  on_read_fault fault = grind arith

  pub on_input_limit : status ≡ statuses.InputLimit → IsErrOf r halts.InputLimit
  on_input_limit past = grind arith

  pub on_memory : status ≡ statuses.Memory → IsErrOf r halts.Memory
  on_memory want = grind arith

  pub on_write_fault : status ≡ statuses.WriteFault → IsErrOf r halts.WriteFault
  on_write_fault fault = grind arith

  -- a session doesn't end so
  pub on_words : status ≢ statuses.Words
  on_words words = grind arith

  -- where a fetch failed, the status says that a read did
  pub on_shelf_fault : IsErrOf r halts.ShelfFault → status ≡ statuses.ReadFault
  on_shelf_fault stopped = grind arith

  -- where nothing fails, and the limit isn't met, a run comes to its end
  pub when_calm : ¬ IsErrOf r halts.ReadFault → ¬ IsErrOf r halts.ShelfFault → ¬ IsErrOf r halts.WriteFault
      → ¬ IsErrOf r halts.InputLimit → IsTrue (is_whole status) ⊎ (status ≡ statuses.Memory)
  when_calm a b c d = grind arith

pub not_past : {limit : ℕ} (bytes : List ℕ) → IsWithin limit bytes → IsPast limit bytes → ⊥
not_past bytes within past = grind arith

-- how words outside the grammar end a call, and how a summary does
pub refusal_ends : (status : Status) → (status ≡ statuses.Words) ⊎ (status ≡ statuses.WriteFault)
    → (status ≢ statuses.ReadFault) × (status ≢ statuses.InputLimit) × ¬ IsTrue (is_whole status)
refusal_ends status ended = ((λ is. grind arith), (λ is. grind arith), (λ whole. grind arith))

pub summary_ends : (status : Status)
    → (status ≡ statuses.Done) ⊎ ((status ≡ statuses.WriteFault) ⊎ (status ≡ statuses.Memory))
    → (status ≢ statuses.ReadFault) × (status ≢ statuses.InputLimit) × (status ≢ statuses.Words)
    × (IsTrue (is_whole status) → status ≡ statuses.Done)
summary_ends status ended =
    ((λ is. grind arith), (λ is. grind arith), (λ is. grind arith), (λ whole. grind arith))

-- of two ends of which one is a failed write, the other, where no write failed
pub or_fault : {A : Type 0} {status : Status} → A ⊎ (status ≡ statuses.WriteFault)
    → ¬ (status ≡ statuses.WriteFault) → A
or_fault ended fine = ⊎_elim (λ e. e) (λ e. absurd (fine e)) ended

-- no job stands for such words
pub no_job : (words : List (List ℕ)) (asked : Job) → job words ≡ None → job words ≡ Some asked → ⊥
no_job words asked none is = cc

-- ---- what isn't said of a call

pub no_summary : {Sh Out : Type 0} (call : Call Sh Out)
    → ((setup : Setup) (make : Make) → ¬ AsksSummary call setup make) → WritesSummary call
no_summary call none = record {
  status = λ setup make asks. absurd (none setup make asks);
  written = λ setup make before asks room is. absurd (none setup make asks);
  flushed = λ setup make asks is. absurd (none setup make asks);
  unfinished = λ setup make before asks room is. absurd (none setup make asks);
  front = λ setup make before asks room. absurd (none setup make asks);
  memory = λ setup make asks is. absurd (none setup make asks);
  unread = λ setup make asks. absurd (none setup make asks);
  unfetched = λ setup make asks. absurd (none setup make asks);
}

pub no_refusal : {Sh Out : Type 0} (call : Call Sh Out) → ¬ (job call.words ≡ None) → call.status ≢ statuses.Words
    → RefusesWords call
no_refusal call some other = record {
  words = λ is. absurd (other is);
  outside = λ none. absurd (some none);
  written = λ before room is. absurd (other is);
  front = λ before room none. absurd (some none);
  unfinished = λ before room none is. absurd (some none);
  flushed = λ is. absurd (other is);
  unread = λ none. absurd (some none);
  unfetched = λ none. absurd (some none);
}

-- no session was run to its end, and nothing was read
pub unread : {Sh Out : Type 0} (call : Call Sh Out)
    → ((setup : Setup) → AsksSession call setup → ¬ IsTrue (is_whole call.status))
    → call.status ≢ statuses.InputLimit → call.new.given ≡ call.old.given → ReadsInput call
unread call none within given = record {
  refused = λ setup files bytes asks input whole. absurd (none setup asks whole);
  read = λ setup bytes asks e goes_on whole. absurd (none setup asks whole);
  within = λ setup bytes asks e goes_on whole. absurd (none setup asks whole);
  end_within = λ setup bytes asks e whole. absurd (none setup asks whole);
  fetched = λ setup files bytes asks input whole. absurd (none setup asks whole);
  past = λ bytes e is. absurd (within is);
  over = λ is. absurd (within is);
  given = omega (arith, given);
}

-- nor did one begin but for want of memory
pub not_begun : {Sh Out : Type 0} (call : Call Sh Out)
    → ((setup : Setup) → AsksSession call setup → call.status ≡ statuses.Memory) → call.status ≢ statuses.ReadFault
    → (call.status ≡ statuses.WriteFault → Rose call.old.write_faults call.new.write_faults)
    → call.new.files ≡ call.old.files → call.new.fetch_faults ≡ call.old.fetch_faults → EndsByCause call
not_begun call memory read wrote files calm = record {
  read_fault = λ is. absurd (read is);
  write_fault = wrote;
  limited = λ setup bytes asks e past. inr (inr (inr (memory setup asks)));
  complete = λ setup bytes asks calm e within. inr (memory setup asks);
  complete_given = λ setup asks calm within. inr (memory setup asks);
  files = files;
  calm = λ is. calm;
  fileless = λ setup files bytes asks e goes_on. calm;
}

-- the words ask for no session, and this text is what they have written
pub writes_text : {Sh Out : Type 0} (call : Call Sh Out) (text : List ℕ)
    → ((setup : Setup) → ¬ AsksSession call setup)
    → ((files : Files) (bytes : List ℕ) → text ≡ output call.words files bytes) → text ≢ []
    → ((before : List ℕ) → HasRoom call before text → IsTrue (is_whole call.status)
    → call.new.written ≡ Some (before ++ text))
    → ((before : List ℕ) → HasRoom call before text → TellsPrefix call.new.written before text)
    → (call.status ≢ statuses.WriteFault → (call.new.flushed ≡ true) ⊎ (call.new.sink ≡ call.old.sink))
    → (call.new.sink ≡ call.old.sink → call.new.flushed ≡ call.old.flushed) → WritesOutput call
writes_text call text none same some whole front flushed kept = record {
  whole = λ files bytes before input.
      subst (λ t. HasRoom call before t → IsTrue (is_whole call.status) → call.new.written ≡ Some (before ++ t))
      (same files bytes) (whole before);
  front = λ files bytes before input.
      subst (λ t. HasRoom call before t → TellsPrefix call.new.written before t) (same files bytes) (front before);
  read_fault = λ setup files bytes before told is. absurd (none setup told.setup_is);
  input_limit = λ setup files bytes before told is. absurd (none setup told.setup_is);
  memory = λ setup files bytes before told is. absurd (none setup told.setup_is);
  quiet = λ files bytes input nothing. absurd (some (same files bytes ∙ nothing));
  flushed_or_untouched = flushed;
  flushed = λ was fine. ⊎_elim (λ e. e) (λ touched. kept touched ∙ was) (flushed fine);
}

-- a sink that was flushed is flushed, where it is so or nothing was done with it
pub by_touch : {Out : Type 0} (sink : Ghosts Out) {old new : Out} → sink.flushed old ≡ true
    → (sink.flushed new ≡ true) ⊎ (new ≡ old) → sink.flushed new ≡ true
by_touch sink was touched = ⊎_elim (λ e. e) (λ same. ap sink.flushed same ∙ was) touched

-- ---- nothing was done

pub nothing_written : (now : Option (List ℕ)) (before text : List ℕ) → now ≡ Some before → TellsPrefix now before text
nothing_written now before text told = (0, omega arith, told ∙ ap Some (sym (append-nil before)))

-- want of memory before anything was done, for words of the grammar
pub nothing_done : {Sh Out : Type 0} (words : List (List ℕ)) (limit : ℕ) (outside : Outside Sh Out)
    → ¬ (job words ≡ None)
    → IsServed (record { words = words; limit = limit; old = outside; new = outside; status = statuses.Memory })
nothing_done words limit outside some = record {
  writes = record {
    whole = λ files bytes before input room whole. cc;
    front = λ files bytes before input room.
        nothing_written outside.written before (output words files bytes) room.tells;
    read_fault = λ setup files bytes before told is. cc;
    input_limit = λ setup files bytes before told is. cc;
    memory = λ setup files bytes before told is. (0, told.room.tells ∙ ap Some (sym (append-nil before)));
    quiet = λ files bytes input nothing. refl;
    flushed_or_untouched = λ fine. inr refl;
    flushed = λ was fine. was;
  };
  reads = unread _ (λ setup asks whole. cc) (λ is. cc) refl;
  refuses = no_refusal _ some (λ is. cc);
  summary = record {
    status = λ setup make is. inr (inr refl);
    written = λ setup make before is room done. cc;
    flushed = λ setup make is done. cc;
    unfinished = λ setup make before is room fault. cc;
    front = λ setup make before is room.
        nothing_written outside.written before (summary_of setup.window make) room.tells;
    memory = λ setup make is e. refl;
    unread = λ setup make is. (refl, refl, refl);
    unfetched = λ setup make is. refl;
  };
  ends = not_begun _ (λ setup asks. refl) (λ is. cc) (λ is. cc) refl refl;
}
