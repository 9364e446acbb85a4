use Rattle.std.proofs.Common.{⊎_elim, ◌⊎◌, true, ℕ, List, ◌++◌, ap, refl, ◌∙◌, ◌≡◌, ◌≢◌, sym, inl, inr, subst, arith}
use Rattle.std.specs.Prelude.{Some}
use Rattle.std.proofs.lemmas.Result.{IfOk-weaker}
use Rattle.mp_feed.specs.Writing.{TellsPrefix}
use Rattle.mp_replies.specs.Output.{output}
use Rattle.mp_replies.specs.State.{Files, opening}
use Rattle.mp_replies.specs.Words.{Setup, session_job}
use Rattle.mp_session.specs.declared.top.Status.TheVariants as statuses
use Rattle.mp_session.specs.Calls.{HasRoom, TellsInput, outside_at}
use Rattle.mp_session.specs.Running.{course_at}
use Rattle.mp_session.specs.Statuses.{ran as ran_by}
use Rattle.mp_session.proofs.ServeLemmas.{Begins, Tells, all_asked, all_read, all_refused, all_told, by_touch}
use Rattle.mp_session.proofs.ServeLemmas.{into_front}
use Rattle.mp_session.proofs.ServeLemmas.{into_quiet, no_job, no_refusal, no_summary, not_both_jobs, not_past}
use Rattle.mp_session.proofs.ServeLemmas.{nothing_done, on_input_limit, on_memory, on_read_fault, on_shelf_fault}
use Rattle.mp_session.proofs.ServeLemmas.{on_whole, on_words, on_write_fault, output_is, past_limit, ran_in}
use Rattle.mp_session.proofs.ServeLemmas.{same_setup, some_flushed, some_front, some_quiet, some_whole, stopped_at_file}
use Rattle.mp_session.proofs.ServeLemmas.{told_taken, told_to_file, told_within, when_calm, when_early}
use Rattle.mp_session.proofs.top.run_session.Goals as goal

pub returns-in_default : goal.returns-in_default
returns-in_default g c = λ words asked.
    nothing_done words c.args.limit
    (outside_at g.H.Shelf g.S.Source g.K.Sink c.args.shelf.now c.args.input.now c.args.out.now)
    (λ none. no_job words (session_job c.args.settings) none asked)

pub returns : goal.returns
returns g c = λ words asked.
    let settings = c.args.settings in
    let state = opening settings.window settings.scale in
    let start = course_at c.in-Ok.session (g.S.Source.left c.args.input.now) c.args.out.now in
    let lines = c.run_lines-outcome.ensures in
    let out = c.run_lines-outcome.new.out in
    let r = c.run_lines-outcome.result in
    let status = c.status_of.result in
    let by = c.status_of.ensures in
    let ran = ran_in r status by (IfOk-weaker r _ _ (λ refused all. all.0) lines.all) lines.read_fault
    lines.input_limit lines.memory
    (λ e. (lines.write_fault e).0) (λ e. (lines.shelf_fault e).0) in
    let is_output = λ (files : Files) (bytes : List ℕ).
    output_is words (Some (session_job settings)) files bytes (sym asked) in
    let same = λ (setup : Setup). same_setup words settings setup (sym asked) in
    let begins : (files : Files) (bytes : List ℕ) → TellsInput _ files bytes
    → Begins (g.H.Shelf.files c.args.shelf.now) start state files bytes =
    λ files bytes input. record {
      stands = c.in-Ok.ensures.opening;
      told = input.shelf settings asked;
      source = input.source;
    } in
    let tells : (files : Files) (bytes before : List ℕ) → TellsInput _ files bytes
    → HasRoom _ before (output words files bytes)
    → Tells g.K.Sink (g.H.Shelf.files c.args.shelf.now) start state files bytes before =
    λ files bytes before input room. record {
      begins = begins files bytes input;
      written = room.tells;
      fits = rw (is_output files bytes) room.fits;
    } in
    let flushed : status ≢ statuses.WriteFault → (g.K.Sink.flushed out ≡ true) ⊎ (out ≡ c.args.out.now) =
    λ fine. ⊎_elim (λ some. some_flushed some) (λ into. absurd (fine into.0)) ran in
    record {
      writes = record {
        whole = λ files bytes before input room whole.
            on_whole r status by whole lines.all (λ _ is all. all_told (tells files bytes before input room) all.0)
            ∙ ap (λ t. Some (before ++ t)) (is_output files bytes);
        front = λ files bytes before input room.
            let k = tells files bytes before input room in
            subst (λ (t : List ℕ). TellsPrefix (g.K.Sink.written out) before t) (is_output files bytes)
            (⊎_elim (λ some. some_front k some) (λ into. into_front k into.1) ran);
        read_fault = λ setup files bytes before told is.
            rw (← same setup told.setup_is)
            (let k = tells files bytes before told.input told.room in
            ⊎_elim (λ e. inl (lines.source.fault e, told_taken k (lines.read_fault e)))
            (λ e.
            let stopped = lines.shelf_fault e in
            inr (lines.shelf.fault e, told_to_file k stopped.0 stopped.1 refl)) (on_read_fault r status by is));
        input_limit = λ setup files bytes before told is.
            rw (← same setup told.setup_is)
            (told_within (tells files bytes before told.input told.room)
            (lines.input_limit (on_input_limit r status by is)));
        memory = λ setup files bytes before told is.
            rw (← same setup told.setup_is)
            (some_whole (tells files bytes before told.input told.room) (lines.memory (on_memory r status by is)));
        quiet = λ files bytes input nothing.
            let b = begins files bytes input in
            let none = is_output files bytes ∙ nothing in
            ⊎_elim (λ some. some_quiet b some none) (λ into. into_quiet b into.1 none) ran;
        flushed_or_untouched = flushed;
        flushed = λ was fine. by_touch g.K.Sink was (flushed fine);
      };
      reads = record {
        refused = λ setup files bytes asks input whole.
            rw (← same setup asks)
            (on_whole r status by whole lines.all
            (λ refused is all. is ∙ ap ran_by (all_refused (begins files bytes input) all.0)));
        read = λ setup bytes asks e goes_on whole.
            on_whole r status by whole lines.all (λ _ is all. (all_read all.0 bytes e goes_on).0);
        within = λ setup bytes asks e goes_on whole.
            on_whole r status by whole lines.all (λ _ is all. (all_read all.0 bytes e goes_on).1);
        end_within = λ setup bytes asks e whole.
            on_whole r status by whole lines.all (λ _ is all. all.0.within bytes e);
        fetched = λ setup files bytes asks input whole.
            rw (← same setup asks)
            (on_whole r status by whole lines.all
            (λ _ is all. all_asked (begins files bytes input) all.0 all.1));
        past = λ bytes e is. past_limit (lines.input_limit (on_input_limit r status by is)) bytes e;
        over = λ is. lines.source.over (on_input_limit r status by is);
        given = lines.source.given;
      };
      refuses = no_refusal _ (λ none. no_job words (session_job settings) none asked) (on_words r status by);
      summary = no_summary _ (λ setup make asks. not_both_jobs words settings setup make asked asks);
      ends = record {
        read_fault = λ is.
            ⊎_elim (λ e. inl (lines.source.fault e)) (λ e. inr (lines.shelf.fault e)) (on_read_fault r status by is);
        write_fault = λ is. (lines.write_fault (on_write_fault r status by is)).1;
        limited = λ setup bytes asks e past.
            when_early r status by lines.all (λ _ all. not_past bytes (all.0.within bytes e) past);
        complete = λ setup bytes asks calm e within.
            when_calm r status by (λ f. calm.reads (lines.source.fault f)) (λ f. calm.fetches (lines.shelf.fault f))
            (λ f. calm.writes (lines.write_fault f).1)
            (λ f. not_past bytes within (past_limit (lines.input_limit f) bytes e));
        complete_given = λ setup asks calm within.
            when_calm r status by (λ f. calm.reads (lines.source.fault f)) (λ f. calm.fetches (lines.shelf.fault f))
            (λ f. calm.writes (lines.write_fault f).1) (λ f. omega (arith, lines.source.over f, within));
        files = lines.shelf.files;
        calm = λ is. lines.shelf.calm (λ f. is (on_shelf_fault r status by f));
        fileless = λ setup files bytes asks e goes_on.
            lines.shelf.calm (λ f.
            stopped_at_file (lines.shelf_fault f).0 state files bytes c.in-Ok.ensures.opening e
            (rw (← same setup asks) at goes_on));
      };
    }
