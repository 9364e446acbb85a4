-- What a load of a series prepares whose profile is made in parts.
use Rattle.std.proofs.Common.{◌≡◌, ℕ, ◌<◌, ◌≤◌, Bool, List, [], ◌∷◌, length, map, refl, ap, ◌∙◌, sym, arith}
use Rattle.std.proofs.Common.{slice_index_or}
use Rattle.std.specs.Prelude.{All, Some, None, Option, Ok, is_none, slice_get}
use Rattle.std.proofs.lemmas.List.{length-map}
use Rattle.std.proofs.lemmas.List.Elements.{All-head}
use Rattle.mp_nums.specs.declared.samples.Sample.{Sample}
use Rattle.mp_defs.specs.Limits.{max_samples}
use Rattle.mp_defs.specs.Series.{Series, reading_of, series_of}
use Rattle.mp_replies.specs.declared.causes.Cause.{Cause}
use Rattle.mp_replies.specs.Change as change
use Rattle.mp_replies.specs.Command as asked
use Rattle.mp_replies.specs.Command.{LazyReport}
use Rattle.mp_replies.specs.Conditions.{first_cause}
use Rattle.mp_replies.specs.LazyCommand.{lazy_conditions, lazy_series}
use Rattle.mp_replies.specs.Limits.{max_file}
use Rattle.mp_replies.specs.Line.{Asks}
use Rattle.mp_replies.specs.LoadCommand.{channels_of, file_conditions, file_in, series_in, table_in}
use Rattle.mp_replies.specs.State.{Files, State, Lazy, samples_in}
use Rattle.mp_stores.specs.Stores.{Stored}
use Rattle.mp_requests.specs.declared.answers.Answer.TheVariants.{Accepted, Refused}
use Rattle.mp_requests.specs.declared.context.Context.{Context}
use Rattle.mp_requests.specs.declared.reports.Report.TheVariants as report
use Rattle.mp_commands.specs.declared.prepared.Change.TheVariants.{Keep}
use Rattle.mp_commands.specs.declared.prepared.Prepared.{Prepared}
use Rattle.mp_commands.specs.declared.requests.LazyLoad.{LazyLoad}
use Rattle.mp_commands.specs.Commands.{asks_lazy}
use Rattle.mp_commands.specs.Preparing.{IsPrepared, NeedsFile, changed_by}
use Rattle.mp_commands.proofs.LoadLemmas.{first_before, first_behind, good_file}
use Rattle.mp_commands.proofs.OpenLemmas.{channels_put}
use Rattle.mp_commands.proofs.StepLemmas.{prepared_accepted, prepared_refused}

-- ---- refusals

pub lazy_refused : (state : State) (files : Files) (slot : ℕ) (file : List ℕ) (column : ℕ) (header : Bool)
    (cause : Cause) (prepared : Prepared)
    → first_cause (lazy_conditions slot) ≡ Some cause → prepared.answer ≡ Refused cause → prepared.change ≡ Keep
    → IsPrepared state files (Asks (asked.LoadLazy slot file column header)) prepared
lazy_refused state files slot file column header cause prepared h answer kept =
    prepared_refused state files (asked.LoadLazy slot file column header) cause prepared
    (first_before (lazy_conditions slot)
    (file_conditions state.mode.width state.scale (column ∷ []) header (file_in files file)) cause h)
    answer kept

-- a refusal by the file
pub lazy_file_refused : (state : State) (files : Files) (slot : ℕ) (file : List ℕ) (column : ℕ) (header : Bool)
    (cause : Cause) (prepared : Prepared)
    → first_cause (lazy_conditions slot) ≡ None
    → first_cause (file_conditions state.mode.width state.scale (column ∷ []) header (file_in files file))
    ≡ Some cause
    → prepared.answer ≡ Refused cause → prepared.change ≡ Keep
    → IsPrepared state files (Asks (asked.LoadLazy slot file column header)) prepared
lazy_file_refused state files slot file column header cause prepared none some answer kept =
    prepared_refused state files (asked.LoadLazy slot file column header) cause prepared
    (first_behind (lazy_conditions slot)
    (file_conditions state.mode.width state.scale (column ∷ []) header (file_in files file)) none ∙ some)
    answer kept

-- whether it needs its file: where nothing refuses it without that
pub lazy_needs : (context : Context) (load : LazyLoad) (held : Stored) (why : Option Cause)
    → first_cause (lazy_conditions load.slot) ≡ why
    → (file : Bool) → NeedsFile context (asks_lazy load) held file → file ≡ is_none why
lazy_needs context load held why cause file needs = sym needs.is ∙ ap is_none cause

-- ---- the series

first_series : (bundle : List (List Sample)) (first : List Sample) → slice_get bundle 0 ≡ Some first
    → slice_index_or (map series_of bundle) 0 [] ≡ series_of first
first_series [] first h = absurd (cc h)
first_series (samples ∷ bundle) first h = let same : samples ≡ first = cc in ap series_of same

-- it is no longer than the table
pub few_in_first : (bundle : List (List Sample)) (first : List Sample) (count : ℕ)
    → All (λ samples. length samples ≡ count) bundle → count ≤ max_samples → slice_get bundle 0 ≡ Some first
    → length first ≤ max_samples
few_in_first [] first count all few h = absurd (cc h)
few_in_first (samples ∷ bundle) first count all few h =
    let same : samples ≡ first = cc in
    let long : length samples ≡ count = All-head (λ (s : List Sample). length s ≡ count) samples bundle all in
    omega (arith, few, long, ap length same)

pub lazily_loaded : (state : State) (files : Files) (slot : ℕ) (file : List ℕ) (column : ℕ) (header : Bool)
    (bytes : List ℕ) (bundle : List (List Sample)) (first items : List Sample) (samples : ℕ) (prepared : Prepared)
    → first_cause (lazy_conditions slot) ≡ None → slot < length state.stores
    → file_in files file ≡ Some bytes → length bytes ≤ max_file
    → table_in state.mode.width state.scale (column ∷ []) header bytes ≡ Ok (map series_of bundle)
    → slice_get bundle 0 ≡ Some first → items ≡ first → samples ≡ length items
    → prepared.answer ≡ Accepted (report.Lazy samples)
    → changed_by prepared.change ≡ change.PutLazy slot (series_of items)
    → IsPrepared state files (Asks (asked.LoadLazy slot file column header)) prepared
lazily_loaded state files slot file column header bytes bundle first items samples prepared none there found small
    table first_is copied count answer put =
    let width = state.mode.width in
    let scale = state.scale in
    let channels : channels_of width scale (column ∷ []) header (file_in files file) ≡ map series_of bundle =
    ap (channels_of width scale (column ∷ []) header) found ∙ ap series_in table in
    let series : lazy_series width scale column header (file_in files file) ≡ series_of items =
    ap (λ (ss : List Series). slice_index_or ss 0 []) channels
    ∙ (first_series bundle first first_is ∙ ap series_of (sym copied)) in
    let long : length (lazy_series width scale column header (file_in files file)) ≡ samples =
    ap length series ∙ (length-map items reading_of ∙ sym count) in
    prepared_accepted state files (asked.LoadLazy slot file column header) (report.Lazy samples) prepared
    (first_behind (lazy_conditions slot)
    (file_conditions width scale (column ∷ []) header (file_in files file)) none
    ∙ (ap (λ found. first_cause (file_conditions width scale (column ∷ []) header found)) found
    ∙ good_file width scale (column ∷ []) header bytes (map series_of bundle) small table))
    refl answer
    (ap LazyReport
    (sym (ap samples_in
    (channels_put state.stores slot (Lazy (lazy_series width scale column header (file_in files file)) []) there)
    ∙ long)))
    (put ∙ ap (change.PutLazy slot) (sym series))
