use Rattle.std.proofs.Common.{⊎_elim, ℕ, ◌+◌, ◌≤◌, List, ◌++◌, length, map, refl, ap, ◌∙◌, ◌≡◌, sym, inl, inr}
use Rattle.std.proofs.Common.{true, subst}
use Rattle.std.specs.Prelude.{None, Option, Some, string_bytes}
use Rattle.mp_feed.specs.Writing.{TellsPrefix}
use Rattle.mp_replies.specs.Output.{usage}
use Rattle.mp_replies.specs.Summary.{summary_of}
use Rattle.mp_replies.specs.Words.{Setup, job, job_with, session_job}
use Rattle.mp_replies.specs.declared.makes.Make.{Make}
use Rattle.mp_session.specs.Calls.{outside_at}
use Rattle.mp_session.specs.declared.top.Status.TheVariants as statuses
use Rattle.mp_session.proofs.ServeLemmas.{no_job, no_refusal, no_summary, not_begun, not_both_jobs, nothing_done}
use Rattle.mp_session.proofs.ServeLemmas.{or_fault, output_is, refusal_ends, same_summary, summary_ends}
use Rattle.mp_session.proofs.ServeLemmas.{summary_is_some, unread, usage_is_some, writes_text}
use Rattle.mp_session.proofs.top.serve_within.Goals as goal

pub returns-in-Err-Words : goal.returns-in-Err-Words
returns-in-Err-Words g c =
    let words = map string_bytes c.args.words.now in
    let wrote = c.refuse_words.ensures in
    let ends = refusal_ends c.refuse_words.result wrote.status in
    let none : job words ≡ None = c.in-Err-Words.ensures.outside.0 (cc c.in-Err-Words.field-0-is) in
    let no_session = λ (setup : Setup). no_job words (session_job setup) none in
    record {
      writes =
          writes_text _ usage no_session (λ files bytes. output_is words None files bytes (sym none)) usage_is_some
          (λ before room whole. absurd (ends.2 whole)) (λ before room. wrote.front before room.tells room.fits)
          (λ fine. inl (wrote.flushed (or_fault wrote.status fine))) (λ same. ap g.K.Sink.flushed same);
      reads = unread _ (λ setup asks whole. no_session setup asks) ends.1 refl;
      refuses = record {
        words = λ is. none;
        outside = λ e. wrote.status;
        written = λ before room. wrote.usage before room.tells room.fits;
        front = λ before room e. wrote.front before room.tells room.fits;
        unfinished = λ before room e. wrote.unfinished before room.tells room.fits;
        flushed = wrote.flushed;
        unread = λ e. (refl, refl, refl);
        unfetched = λ e. refl;
      };
      summary = no_summary _ (λ setup make. no_job words (job_with setup (Some make)) none);
      ends = not_begun _ (λ setup asks. absurd (no_session setup asks)) ends.0 wrote.write_fault refl refl;
    }

pub returns-in-Err-Memory : goal.returns-in-Err-Memory
returns-in-Err-Memory g c =
    nothing_done (map string_bytes c.args.words.now) c.args.limit
    (outside_at g.H.Shelf g.S.Source g.K.Sink c.args.shelf.now c.args.input.now c.args.out.now)
    (λ none. cc (c.in-Err-Memory.field-0-is, c.in-Err-Memory.ensures.outside.1 none))

pub returns-in-Some : goal.returns-in-Some
returns-in-Some g c =
    let words = map string_bytes c.args.words.now in
    let settings = c.in-Ok.job.settings in
    let make = c.in-Some.make in
    let text = summary_of settings.window make in
    let asked : Some (job_with settings (Some make)) ≡ job words =
    sym (c.in-Ok.ensures.job ∙ ap (λ (m : Option Make). Some (job_with settings m)) c.in-Some.is) in
    let wrote = c.write_summary.ensures in
    let out = c.write_summary.new.out in
    let status = c.write_summary.result in
    let ends = summary_ends status wrote.status in
    let no_session = λ (setup : Setup) (is : job words ≡ Some (session_job setup)).
    not_both_jobs words setup settings make is (sym asked) in
    let same = λ (setup : Setup) (other : Make). same_summary words settings setup make other asked in
    record {
      writes =
          writes_text _ text no_session
          (λ files bytes. output_is words (Some (job_with settings (Some make))) files bytes asked)
          (summary_is_some settings.window make)
          (λ before room whole. wrote.written before room.tells room.fits (ends.3 whole))
          (λ before room. wrote.front before room.tells room.fits)
          (λ fine. ⊎_elim (λ done. inl (wrote.flushed done))
          (λ others. ⊎_elim (λ fault. absurd (fine fault)) (λ memory. inr (wrote.memory memory)) others) wrote.status)
          (λ same. ap g.K.Sink.flushed same);
      reads = unread _ (λ setup asks whole. no_session setup asks) ends.1 refl;
      refuses = no_refusal _ (λ none. no_job words (job_with settings (Some make)) none (sym asked)) ends.2;
      summary = record {
        status = λ setup other is. wrote.status;
        written = λ setup other before is room.
            subst (λ (t : List ℕ). length before + length t ≤ g.K.Sink.room c.args.out.now → status ≡ statuses.Done
            → g.K.Sink.written out ≡ Some (before ++ t)) (same setup other is)
            (wrote.written before room.tells) room.fits;
        flushed = λ setup other is. wrote.flushed;
        unfinished = λ setup other before is room.
            subst (λ (t : List ℕ). length before + length t ≤ g.K.Sink.room c.args.out.now
            → status ≡ statuses.WriteFault
            → ¬ ((g.K.Sink.written out ≡ Some (before ++ t)) × (g.K.Sink.flushed out ≡ true))) (same setup other is)
            (wrote.unfinished before room.tells) room.fits;
        front = λ setup other before is room.
            subst (λ (t : List ℕ). length before + length t ≤ g.K.Sink.room c.args.out.now
            → TellsPrefix (g.K.Sink.written out) before t) (same setup other is)
            (wrote.front before room.tells) room.fits;
        memory = λ setup other is. wrote.memory;
        unread = λ setup other is. (refl, refl, refl);
        unfetched = λ setup other is. refl;
      };
      ends = not_begun _ (λ setup asks. absurd (no_session setup asks)) ends.0 wrote.write_fault refl refl;
    }

pub returns-in-None : goal.returns-in-None
returns-in-None g c =
    c.run_session.ensures (map string_bytes c.args.words.now)
    (c.in-Ok.ensures.job ∙ ap (λ (m : Option Make). Some (job_with c.in-Ok.job.settings m)) c.in-None.is)
