-- Two channels that are compared, whatever they are compared by.
use Rattle.std.proofs.Common.{◌≡◌, ◌∙◌, ℕ, List, length, false, refl, ap, sym}
use Rattle.std.specs.Prelude.{Option, None}
use Rattle.std.proofs.lemmas.List.{length-map}
use Rattle.mp_nums.specs.declared.nearest.Near.{Near}
use Rattle.mp_nums.specs.declared.nearest.Sq.{Sq}
use Rattle.mp_nums.specs.declared.samples.Sample.{Sample}
use Rattle.mp_defs.specs.Profile.{ab_join}
use Rattle.mp_defs.specs.Series.{Series, reading_of, series_of}
use Rattle.mp_results.specs.Mpdist.{mpdist_of}
use Rattle.mp_replies.specs.declared.refs.Ref.{Ref}
use Rattle.mp_replies.specs.Command as asked
use Rattle.mp_replies.specs.Command.{MpdistReport}
use Rattle.mp_replies.specs.Conditions.{first_cause}
use Rattle.mp_replies.specs.JoinCommand.{join_conditions}
use Rattle.mp_replies.specs.Line.{Asks, is_end}
use Rattle.mp_replies.specs.MpdistCommand.{mpdist_between}
use Rattle.mp_replies.specs.State.{Files, State, series_at}
use Rattle.mp_requests.specs.declared.answers.Answer.TheVariants.{Accepted}
use Rattle.mp_requests.specs.declared.reports.Report as reports
use Rattle.mp_requests.specs.declared.requests.Comparison.{Comparison}
use Rattle.mp_requests.specs.declared.requests.Comparison.TheVariants.{Join, Mpdist}
use Rattle.mp_requests.specs.Requests.{compared_by, compared_in, report_in, mode_asked}
use Rattle.mp_requests.specs.Answering.{IsAnswer}
use Rattle.mp_requests.specs.AnswerLaws.{answer_accepted}

pub compared_told : (by : Comparison) (state : State) (files : Files) (a b : Ref) (report : reports.Report)
    → first_cause (join_conditions state.stores a b) ≡ None
    → report_in state report ≡ compared_in by state.window (series_at state.stores a) (series_at state.stores b)
    → IsAnswer state files (Asks (compared_by by a b)) (Accepted report)
compared_told Join state files a b report none is =
    answer_accepted state files (asked.Join a b) report none refl is
compared_told Mpdist state files a b report none is =
    answer_accepted state files (asked.Mpdist a b) report none refl is

pub compared_goes_on : (by : Comparison) (a b : Ref) → false ≡ is_end (Asks (compared_by by a b))
compared_goes_on Join a b = refl
compared_goes_on Mpdist a b = refl

pub compared_in_mode : (by : Comparison) (a b : Ref) → mode_asked (Asks (compared_by by a b)) ≡ None
compared_in_mode Join a b = refl
compared_in_mode Mpdist a b = refl

-- MPdist of two series, by the joins in both directions
pub mpdist_told : (m : ℕ) (xs ys : List Sample) (a b : Series) (there back : List (Option Near)) (dist : Option Sq)
    → series_of xs ≡ a → series_of ys ≡ b → there ≡ ab_join m (series_of xs) (series_of ys)
    → back ≡ ab_join m (series_of ys) (series_of xs) → dist ≡ mpdist_of there back (length xs) (length ys)
    → MpdistReport dist ≡ compared_in Mpdist m a b
mpdist_told m xs ys a b there back dist first second there_is back_is is =
    let long : length xs ≡ length (series_of xs) = sym (length-map xs reading_of) in
    let also : length ys ≡ length (series_of ys) = sym (length-map ys reading_of) in
    ap MpdistReport
    (is
    ∙ (ap (λ l. mpdist_of l back (length xs) (length ys)) there_is
    ∙ (ap (λ l. mpdist_of (ab_join m (series_of xs) (series_of ys)) l (length xs) (length ys)) back_is
    ∙ (ap (λ n. mpdist_of (ab_join m (series_of xs) (series_of ys)) (ab_join m (series_of ys) (series_of xs)) n
    (length ys)) long
    ∙ (ap (mpdist_of (ab_join m (series_of xs) (series_of ys)) (ab_join m (series_of ys) (series_of xs))
    (length (series_of xs))) also
    ∙ (ap (λ (s : Series). mpdist_between m s (series_of ys)) first
    ∙ ap (mpdist_between m a) second))))))
