-- What a load prepares.
use Rattle.std.proofs.Common.{◌≡◌, ℕ, zero, suc, ◌+◌, ◌<◌, ◌≤◌, ◌==◌, Bool, true, false, List, [], ◌∷◌, ◌++◌, length}
use Rattle.std.proofs.Common.{map, refl, ap, ◌∙◌, sym, arith, subst, nat_le, nat_lt, slice_index_or}
use Rattle.std.specs.Prelude.{All, Some, None, Result, Ok, Err, not, if◌then◌else◌, slice_get}
use Rattle.std.specs.List.{range_with_len}
use Rattle.std.proofs.lemmas.Bool.Decides.{nat_tests}
use Rattle.std.proofs.lemmas.List.{length-map}
use Rattle.std.proofs.lemmas.List.Elements.{All-head}
use Rattle.std.proofs.lemmas.List.FromFn.{length-map-range_with_len}
use Rattle.std.proofs.lemmas.List.Splits.{length-slice_split}
use Rattle.mp_nums.specs.declared.widths.Width.{Width}
use Rattle.mp_bytes.specs.Values.{is_comma, values_in}
use Rattle.mp_defs.specs.Limits.{max_samples}
use Rattle.mp_defs.specs.Series.{Series, reading_of, series_of}
use Rattle.mp_nums.specs.declared.samples.Sample.{Sample}
use Rattle.mp_text.specs.Rows.{Row, columns_of, onto}
use Rattle.mp_text.specs.Table.{Reader, Fault, TooManyRows, Fields, row_of, rows_of, table_of}
use Rattle.mp_replies.specs.declared.causes.Cause.{Cause}
use Rattle.mp_replies.specs.declared.causes.Cause.TheVariants as cause
use Rattle.mp_replies.specs.Command.{LoadReport}
use Rattle.mp_replies.specs.Change as change
use Rattle.mp_replies.specs.Command as asked
use Rattle.mp_replies.specs.Conditions.{Condition, first_cause, kept_slot, lazy_slot, when}
use Rattle.mp_replies.specs.LimitLaws.{all_long}
use Rattle.mp_replies.specs.Limits.{max_channels, max_file}
use Rattle.mp_replies.specs.Line.{Asks}
use Rattle.mp_replies.specs.LoadCommand.{channels_of, file_conditions, file_in, load_conditions, series_in, table_in}
use Rattle.mp_replies.specs.Numbers.{all_some, column, columns}
use Rattle.mp_replies.specs.State.{Files, State, Store, Open, channels_at, samples_in}
use Rattle.mp_stores.specs.Stores.{HaveWindow, count_of, items_in}
use Rattle.mp_stream.specs.Streams.{Streamed}
use Rattle.mp_requests.specs.declared.answers.Answer.TheVariants.{Accepted, Refused}
use Rattle.mp_requests.specs.declared.reports.Report.TheVariants as report
use Rattle.mp_commands.specs.declared.prepared.Change.TheVariants.{Keep}
use Rattle.mp_commands.specs.declared.prepared.Prepared.{Prepared}
use Rattle.mp_commands.specs.Preparing.{CanPut, IsPrepared, changed_by}
use Rattle.mp_commands.proofs.AppendLemmas.{even_columns, joined_by, same_lengths}
use Rattle.mp_commands.proofs.OpenLemmas.{channels_put, open_within}
use Rattle.mp_commands.proofs.StepLemmas.{prepared_accepted, prepared_refused}

-- ---- conditions behind others

none_by : (holds : Bool) (word : Cause) (others more : List Condition)
    → (if holds then Some word else first_cause others) ≡ None
    → (first_cause others ≡ None → first_cause (others ++ more) ≡ first_cause more)
    → (if holds then Some word else first_cause (others ++ more)) ≡ first_cause more
none_by true word others more h rest = absurd (cc h)
none_by false word others more h rest = rest h

pub first_behind : (conditions more : List Condition) → first_cause conditions ≡ None
    → first_cause (conditions ++ more) ≡ first_cause more
first_behind [] more h = refl
first_behind (condition ∷ others) more h =
    none_by condition.holds condition.word others more h (first_behind others more)

some_by : (holds : Bool) (word cause : Cause) (others more : List Condition)
    → (if holds then Some word else first_cause others) ≡ Some cause
    → (first_cause others ≡ Some cause → first_cause (others ++ more) ≡ Some cause)
    → (if holds then Some word else first_cause (others ++ more)) ≡ Some cause
some_by true word cause others more h rest = h
some_by false word cause others more h rest = rest h

pub first_before : (conditions more : List Condition) (cause : Cause) → first_cause conditions ≡ Some cause
    → first_cause (conditions ++ more) ≡ Some cause
first_before [] more cause h = absurd (cc h)
first_before (condition ∷ others) more cause h =
    some_by condition.holds condition.word cause others more h (first_before others more cause)

-- a slot that may be loaded is there
load_within : (stores : List Store) (slot : ℕ) (cols : List ℕ) → first_cause (load_conditions stores slot cols) ≡ None
    → slot < length stores
load_within stores slot cols h =
    open_within stores slot
    (first_cause
    (kept_slot stores slot ∷ lazy_slot stores slot
    ∷ when (not (length cols == length (channels_at stores slot))) cause.Channel ∷ [])) h

-- ---- refusals

pub load_refused : (state : State) (files : Files) (slot : ℕ) (file cols : List ℕ) (header : Bool) (cause : Cause)
    (prepared : Prepared)
    → first_cause (load_conditions state.stores slot cols) ≡ Some cause → prepared.answer ≡ Refused cause
    → prepared.change ≡ Keep
    → IsPrepared state files (Asks (asked.Load slot file cols header)) prepared
load_refused state files slot file cols header cause prepared h answer kept =
    prepared_refused state files (asked.Load slot file cols header) cause prepared
    (first_before (load_conditions state.stores slot cols)
    (file_conditions state.mode.width state.scale cols header (file_in files file)) cause h)
    answer kept

-- a refusal by the file
pub file_refused : (state : State) (files : Files) (slot : ℕ) (file cols : List ℕ) (header : Bool) (cause : Cause)
    (prepared : Prepared)
    → first_cause (load_conditions state.stores slot cols) ≡ None
    → first_cause (file_conditions state.mode.width state.scale cols header (file_in files file)) ≡ Some cause
    → prepared.answer ≡ Refused cause → prepared.change ≡ Keep
    → IsPrepared state files (Asks (asked.Load slot file cols header)) prepared
file_refused state files slot file cols header cause prepared none some answer kept =
    prepared_refused state files (asked.Load slot file cols header) cause prepared
    (first_behind (load_conditions state.stores slot cols)
    (file_conditions state.mode.width state.scale cols header (file_in files file)) none ∙ some)
    answer kept

pub good_file : (width : Width) (scale : ℕ) (cols : List ℕ) (header : Bool) (bytes : List ℕ) (series : List Series)
    → length bytes ≤ max_file
    → table_in width scale cols header bytes ≡ Ok series → first_cause (file_conditions width scale cols header (Some bytes)) ≡ None
good_file width scale cols header bytes series small is =
    let fits : nat_lt max_file (length bytes) ≡ false = grind (arith, nat_tests) in
    rw (fits, is) refl

-- ---- the shape of a table

columns_by : (field cols : List ℕ) (few : Bool) → nat_le (length (values_in field)) max_channels ≡ few
    → (if few then all_some (map column (values_in field)) else None) ≡ Some cols
    → (length cols ≡ length (values_in field)) × (length (values_in field) ≤ 8)
columns_by field cols true is h = (
  all_long (map column (values_in field)) cols h ∙ length-map (values_in field) column,
  grind (arith, nat_tests),
)
columns_by field cols false is h = absurd (cc h)

-- a list of columns has 1 to 8 of them
pub some_columns : (field cols : List ℕ) → columns field ≡ Some cols → 1 ≤ length cols
some_columns field cols h =
    let by = columns_by field cols (nat_le (length (values_in field)) max_channels) refl h in
    omega (arith, by.0, length-slice_split is_comma field)

pub few_columns : (field cols : List ℕ) → columns field ≡ Some cols → length cols ≤ 8
few_columns field cols h =
    let by = columns_by field cols (nat_le (length (values_in field)) max_channels) refl h in
    omega (arith, by.0, by.1)

rows_few_by : (reader : Reader) (number : ℕ) (cols : List ℕ) (fields : Fields) (recs : List Fields) (rows : List Row)
    (over : Bool)
    → number == max_samples + 1 ≡ over
    → number ≤ max_samples + 1
    → (if over then Err TooManyRows else onto (row_of reader number fields cols)
    (rows_of reader cols (number + 1) recs))
    ≡ Ok rows
    → ((rest : List Row) → number + 1 ≤ max_samples + 1 → rows_of reader cols (number + 1) recs ≡ Ok rest
    → number + 1 + length rest ≤ max_samples + 1)
    → number + length rows ≤ max_samples + 1
rows_few_by reader number cols fields recs rows true is low h more = absurd (cc h)
rows_few_by reader number cols fields recs rows false is low h more =
    let joined = joined_by (row_of reader number fields cols) (rows_of reader cols (number + 1) recs) rows h in
    let below : number + 1 ≤ max_samples + 1 = grind (arith, nat_tests) in
    let rest = more joined.rest below joined.rest_are in
    omega (arith, ap length joined.whole, rest)

rows_few : (reader : Reader) (number : ℕ) (cols : List ℕ) (recs : List Fields) (rows : List Row)
    → number ≤ max_samples + 1
    → rows_of reader cols number recs ≡ Ok rows → number + length rows ≤ max_samples + 1
rows_few reader number cols [] [] low h = omega (arith, low)
rows_few reader number cols [] (row ∷ rows) low h = absurd (cc h)
rows_few reader number cols (fields ∷ recs) rows low h =
    rows_few_by reader number cols fields recs rows (number == max_samples + 1) refl low h
    (λ rest below is. rows_few reader (number + 1) cols recs rest below is)

-- the columns of at most 262,144 rows
pub record IsTable (cols : List ℕ) (series : List Series) : Type 0 where
  pub rows : List Row
  pub few : length rows ≤ max_samples
  pub series_are : series ≡ columns_of (length cols) rows

table_by : (reader : Reader) (cols : List ℕ) (recs : List Fields) (series : List Series)
    (read : Result (List Row) Fault)
    → rows_of reader cols 1 recs ≡ read
    → table_of reader cols recs ≡ Ok series → IsTable cols series
table_by reader cols recs series (Ok rows) is h =
    let whole : Ok (columns_of (length cols) rows) ≡ Ok series = rw is at h in
    record { rows = rows; few = omega (arith, rows_few reader 1 cols recs rows (omega arith) is); series_are = cc }
table_by reader cols recs series (Err fault) is h = let none : Err fault ≡ Ok series = rw is at h in absurd (cc none)

pub table_is : (reader : Reader) (cols : List ℕ) (recs : List Fields) (series : List Series)
    → table_of reader cols recs ≡ Ok series → IsTable cols series
table_is reader cols recs series h = table_by reader cols recs series (rows_of reader cols 1 recs) refl h

pub even_table : (cols : List ℕ) (bundle : List (List Sample)) (t : IsTable cols (map series_of bundle))
    → All (λ samples. length samples ≡ length t.rows) bundle
even_table cols bundle t =
    same_lengths bundle (columns_of (length cols) t.rows) (length t.rows) t.series_are
    (even_columns t.rows (range_with_len 0 (length cols)))

pub table_long : (cols : List ℕ) (bundle : List (List Sample)) → IsTable cols (map series_of bundle)
    → length bundle ≡ length cols
table_long cols bundle t =
    sym (length-map bundle series_of)
    ∙ (ap length t.series_are
    ∙ length-map-range_with_len (λ k. map (λ (row : Row). slice_index_or row k None) t.rows) 0 (length cols))

count_first : (bundle : List (List Sample)) (count : ℕ) → 1 ≤ length bundle
    → All (λ samples. length samples ≡ count) bundle → count_of bundle ≡ count
count_first [] count some all = absurd (omega (arith, some))
count_first (samples ∷ bundle) count some all = All-head (λ (s : List Sample). length s ≡ count) samples bundle all

-- ---- what is put

pub can_put_table : (m slot : ℕ) (cols : List ℕ) (bundle : List (List Sample)) (channels : List Streamed)
    → slot < 8
    → 1 ≤ length cols → length cols ≤ 8
    → IsTable cols (map series_of bundle) → items_in channels ≡ bundle → HaveWindow m channels
    → CanPut m slot channels
can_put_table m slot cols bundle channels within some few t items window =
    let long = table_long cols bundle t in
    let count : length channels ≡ length bundle =
    sym (length-map channels (λ channel. channel.items)) ∙ ap length items in
    let even = even_table cols bundle t in
    record {
      within = within;
      are = record {
        some = omega (arith, some, long, count);
        alike = rw items (record {
          few = omega (arith, few, long);
          same =
              subst (λ (n : ℕ). All (λ samples. length samples ≡ n) bundle)
              (sym (count_first bundle (length t.rows) (omega (arith, some, long)) even)) even;
        });
        window = window;
      };
    }

pub samples_first : (bundle : List (List Sample)) (first : List Sample) → slice_get bundle 0 ≡ Some first
    → samples_in (map series_of bundle) ≡ length first
samples_first [] first h = absurd (cc h)
samples_first (samples ∷ bundle) first h =
    let same : samples ≡ first = cc in length-map samples reading_of ∙ ap length same

pub loaded : (state : State) (files : Files) (slot : ℕ) (file cols : List ℕ) (header : Bool) (bytes : List ℕ)
    (bundle : List (List Sample)) (first : List Sample) (samples : ℕ) (prepared : Prepared)
    → first_cause (load_conditions state.stores slot cols) ≡ None
    → file_in files file ≡ Some bytes → length bytes ≤ max_file
    → table_in state.mode.width state.scale cols header bytes ≡ Ok (map series_of bundle) → slice_get bundle 0 ≡ Some first
    → samples ≡ length first
    → prepared.answer ≡ Accepted (report.Load samples)
    → changed_by prepared.change ≡ change.PutChannels slot (map series_of bundle)
    → IsPrepared state files (Asks (asked.Load slot file cols header)) prepared
loaded state files slot file cols header bytes bundle first samples prepared none found small table first_is
    count answer put =
    let channels : channels_of state.mode.width state.scale cols header (file_in files file) ≡ map series_of bundle =
    ap (channels_of state.mode.width state.scale cols header) found ∙ ap series_in table in
    let behind : samples_in (channels_of state.mode.width state.scale cols header (file_in files file)) ≡ samples =
    ap samples_in channels ∙ (samples_first bundle first first_is ∙ sym count) in
    prepared_accepted state files (asked.Load slot file cols header) (report.Load samples) prepared
    (first_behind (load_conditions state.stores slot cols)
    (file_conditions state.mode.width state.scale cols header (file_in files file)) none
    ∙ (ap (λ found. first_cause (file_conditions state.mode.width state.scale cols header found)) found
    ∙ good_file state.mode.width state.scale cols header bytes (map series_of bundle) small table))
    refl answer
    (ap LoadReport
    (sym (ap samples_in
    (channels_put state.stores slot (Open (channels_of state.mode.width state.scale cols header (file_in files file)))
    (load_within state.stores slot cols none))
    ∙ behind)))
    (put ∙ ap (change.PutChannels slot) (sym channels))

pub got : (lists : List (List Sample)) (k : ℕ) (samples : List Sample) → slice_get lists k ≡ Some samples
    → slice_index_or lists k [] ≡ samples
got [] k samples h = absurd (cc h)
got (first ∷ lists) zero samples h = cc
got (first ∷ lists) (suc k) samples h = got lists k samples h
