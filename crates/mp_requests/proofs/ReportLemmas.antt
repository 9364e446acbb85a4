-- A command that is reported; the channels of a slot, named one by one, and what copies of channels stand for.
use Rattle.std.proofs.Common.{◌≡◌, ℕ, ◌<◌, ◌≤◌, ◌∙◌, List, [], ◌∷◌, length, map, refl, ap, sym, subst, arith}
use Rattle.std.proofs.Common.{true, false, Ok}
use Rattle.std.specs.Prelude.{All, None, Some, slice_get, slice_index_or, take, drop, ◌&&◌, nat_le}
use Rattle.std.specs.List.{range_with_len}
use Rattle.std.proofs.lemmas.Bool.Decides.{nat_tests}
use Rattle.std.proofs.lemmas.List.{length-map, take-map, drop-map}
use Rattle.std.proofs.lemmas.List.Elements.{All-nil, All-cons, All-head, All-tail, All-map}
use Rattle.std.proofs.lemmas.List.FromFn.{fill_by_all, get_or-range_with_len, length-range_with_len}
use Rattle.std.proofs.lemmas.Simd.{map-map}
use Rattle.mp_nums.specs.declared.samples.Sample.{Sample}
use Rattle.mp_defs.specs.Series.{Series, reading_of, series_of}
use Rattle.mp_multi.specs.Conditions.{HaveOneLength}
use Rattle.mp_replies.specs.declared.refs.Ref.{Ref}
use Rattle.mp_replies.specs.Command.{Command}
use Rattle.mp_replies.specs.Conditions.{first_cause}
use Rattle.mp_replies.specs.ConsensusCommand.{consensus_fits}
use Rattle.mp_replies.specs.LimitLaws.{all_long}
use Rattle.mp_replies.specs.Limits.{min_refs, slot_count}
use Rattle.mp_replies.specs.Line.{Asks, is_end}
use Rattle.mp_replies.specs.Numbers.{ref, refs}
use Rattle.mp_replies.specs.State.{Files, Store, series_at}
use Rattle.mp_replies.specs.Step.{IsAccepted, after_by, change_by, conditions, is_last, report_by}
use Rattle.mp_stores.specs.Stores.{Held, Closed, Open, Kept, Lazy, AreChannels, IsChannel, StandFor, Stored}
use Rattle.mp_stores.specs.Stores.{channel_count, channel_series, count_of, items_in, nothing, series_in, streams_at}
use Rattle.mp_stores.specs.Stores.{streams_in}
use Rattle.mp_stores.specs.StoreLaws.{series_in_channel, series_stands}
use Rattle.mp_stream.specs.Streams.{Streamed}
use Rattle.mp_requests.specs.declared.answers.Answer.TheVariants as answers
use Rattle.mp_requests.specs.declared.context.Context.{Context}
use Rattle.mp_requests.specs.declared.reports.Report as reports
use Rattle.mp_requests.specs.AnswerLaws.{answer_accepted}
use Rattle.mp_requests.specs.Answering.{state_over}
use Rattle.mp_requests.specs.Reports.{IsReported}
use Rattle.mp_requests.specs.Requests.{NamesChannels, refs_of, report_in, mode_asked, mode_named}

-- ---- reports

-- a command that nothing refuses, whatever stores the slots stand for
pub reported : {E : Type 0} (context : Context) (command : Command) (held : Stored) (report : reports.Report)
    → NamesChannels held (answers.Accepted report) → false ≡ is_end (Asks command) → is_last command ≡ false
    → mode_named (answers.Accepted report) ≡ mode_asked (Asks command)
    → ((stores : List Store) (files : Files) → StandFor held stores
    → first_cause (conditions (state_over context held stores) files command) ≡ None)
    → ((stores : List Store) (files : Files) → StandFor held stores → (let state = state_over context held stores in
    report_in state report
    ≡ report_by state (after_by state (IsAccepted command (change_by state files command))) command))
    → IsReported {E = E} context (Asks command) held (Ok (answers.Accepted report))
reported context command held report names ends last mode fine is = record {
  told = record {
    ok = λ stores files stand.
        answer_accepted (state_over context held stores) files command report (fine stores files stand) last
        (is stores files stand);
    names = names;
    ends = ends;
    mode = mode;
  };
  memory = λ stores stand. tt;
}

-- ---- copies

-- as many as what they are copied from
pub copies_long : (bundle : List (List Sample)) (list : List Series) → map series_of bundle ≡ list
    → length bundle ≡ length list
copies_long bundle list same = sym (length-map bundle series_of) ∙ ap length same

-- the only one
pub only_series : (bundle : List (List Sample)) (samples : List Sample) (series : Series)
    → slice_get bundle 0 ≡ Some samples → map series_of bundle ≡ series ∷ [] → series_of samples ≡ series
only_series [] samples series got one = absurd (cc got)
only_series (first ∷ others) samples series got one =
    let same : first ≡ samples = cc in
    let here : series_of first ≡ series = cc in
    ap series_of (sym same) ∙ here

-- the first copy is that of the first channel
pub first_copy : (list : List (List Sample)) (copy : List Sample) (s : Series) (others : List Series)
    → map series_of list ≡ s ∷ others → slice_get list 0 ≡ Some copy → series_of copy ≡ s
first_copy [] copy s others h got = absurd (cc h)
first_copy (samples ∷ list) copy s others h got =
    let same : copy ≡ samples = cc in
    let here : series_of samples ≡ s = cc in
    ap series_of same ∙ here

-- and the second that of the second
pub second_copy : (list : List (List Sample)) (copy : List Sample) (s t : Series) (others : List Series)
    → map series_of list ≡ s ∷ t ∷ others → slice_get list 1 ≡ Some copy → series_of copy ≡ t
second_copy [] copy s t others h got = absurd (cc h)
second_copy (samples ∷ list) copy s t others h got =
    let rest : map series_of list ≡ t ∷ others = cc in first_copy list copy t others rest got

-- a part of the samples has that part of their series
pub part_of_series : (start m : ℕ) (samples : List Sample)
    → series_of (take m (drop start samples)) ≡ take m (drop start (series_of samples))
part_of_series start m samples =
    sym (take-map reading_of m (drop start samples))
    ∙ ap (take m) (sym (drop-map reading_of start samples))

-- copies of some channels are their series in the stores
pub series_of_refs : (held : Stored) (stores : List Store) (list : List Ref) → StandFor held stores
    → All (IsChannel held) list → map (channel_series held) list ≡ map (series_at stores) list
series_of_refs held stores [] stand there = refl
series_of_refs held stores (at ∷ list) stand there =
    ap (λ (s : Series). s ∷ map (channel_series held) list)
    (sym (series_stands held stores at stand (All-head (IsChannel held) at list there)))
    ∙ ap (λ (ss : List Series). series_at stores at ∷ ss)
    (series_of_refs held stores list stand (All-tail (IsChannel held) at list there))

-- ---- all channels of a slot

named_channels : (held : Stored) (slot : ℕ)
    → map (channel_series held) (refs_of held slot) ≡ series_in (streams_at held slot)
named_channels held slot =
    let channels = streams_at held slot in
    let count = length channels in
    map-map (channel_series held) (λ (k : ℕ). record { slot = slot; channel = k }) (range_with_len 0 count)
    ∙ sym (fill_by_all (λ (k : ℕ). series_of (slice_index_or channels k nothing).items) (series_in channels) count []
    (length-map channels (λ (c : Streamed). series_of c.items)) (λ k below. series_in_channel channels k))

pub each_channel : (held : Stored) (slot : ℕ) → slot < slot_count → All (IsChannel held) (refs_of held slot)
each_channel held slot within =
    let count = length (streams_at held slot) in
    All-map (IsChannel held) (λ (k : ℕ). record { slot = slot; channel = k }) (range_with_len 0 count)
    (λ k d below.
    let there : k < count = omega (arith, below, length-range_with_len 0 count) in
    record {
      slot = within;
      channel = omega (arith, there, get_or-range_with_len 0 count k d there);
    })

-- where a slot is open, its channels are all that it has
pub some_counted : (held : Held) → 0 < length (streams_in held) → channel_count held ≡ length (streams_in held)
some_counted Closed some = refl
some_counted (Open channels) some = refl
some_counted (Kept kept) some = absurd (omega (arith, some))
some_counted (Lazy part) some = absurd (omega (arith, some))

-- ---- their lengths

same_lengths : (n : ℕ) (xs ys : List (List Sample)) → map series_of xs ≡ map series_of ys
    → All (λ samples. length samples ≡ n) ys → All (λ samples. length samples ≡ n) xs
same_lengths n [] ys same all = All-nil (λ (samples : List Sample). length samples ≡ n)
same_lengths n (x ∷ xs) [] same all = absurd (cc same)
same_lengths n (x ∷ xs) (y ∷ ys) same all =
    let P = λ (samples : List Sample). length samples ≡ n in
    let here : series_of x ≡ series_of y = cc in
    let later : map series_of xs ≡ map series_of ys = cc in
    let long : length x ≡ length y = sym (length-map x reading_of) ∙ (ap length here ∙ length-map y reading_of) in
    All-cons P x xs (long ∙ All-head P y ys all) (same_lengths n xs ys later (All-tail P y ys all))

one_length : (n : ℕ) (xs : List (List Sample)) → All (λ samples. length samples ≡ n) xs → HaveOneLength xs
one_length n [] all = All-nil (λ (samples : List Sample). length samples ≡ 0)
one_length n (x ∷ xs) all =
    let here = All-head (λ (samples : List Sample). length samples ≡ n) x xs all in
    subst (λ (k : ℕ). All (λ samples. length samples ≡ k) (x ∷ xs)) (sym here) all

-- copies of all channels of a slot
pub have_one_length : (channels : List Streamed) (bundle : List (List Sample)) → AreChannels channels
    → map series_of bundle ≡ series_in channels → HaveOneLength bundle
have_one_length channels bundle alike same =
    let items = items_in channels in
    one_length (count_of items) bundle
    (same_lengths (count_of items) bundle items
    (same ∙ sym (map-map series_of (λ (c : Streamed). c.items) channels)) alike.same)

pub copied_channels : (held : Stored) (slot : ℕ) (named read : List Ref) (bundle : List (List Sample))
    → read ≡ named → named ≡ refs_of held slot → map series_of bundle ≡ map (channel_series held) read
    → map series_of bundle ≡ series_in (streams_at held slot)
copied_channels held slot named read bundle lent all copied =
    copied ∙ (ap (map (channel_series held)) (lent ∙ all) ∙ named_channels held slot)

-- there are as many
pub copied_long : (channels : List Streamed) (bundle : List (List Sample)) → map series_of bundle ≡ series_in channels
    → length bundle ≡ length channels
copied_long channels bundle same =
    copies_long bundle (series_in channels) same ∙ length-map channels (λ (c : Streamed). series_of c.items)

-- ---- refs of a line

two_fit : (n : ℕ) → (nat_le 2 n && nat_le n 64) ≡ true → 2 ≤ n
two_fit n h = grind (arith, nat_tests)

-- copies of the channels that a line names are at least two
pub copies_of_named : (fields : List (List ℕ)) (named : List Ref) (series : Ref → Series)
    (bundle : List (List Sample)) → consensus_fits fields ≡ true → refs fields ≡ Some named
    → map series_of bundle ≡ map series named → min_refs ≤ length bundle
copies_of_named fields named series bundle fits read copied =
    let two = two_fit (length fields) fits in
    let all = all_long (map ref fields) named read ∙ length-map fields ref in
    omega (arith, two, all, copies_long bundle (map series named) copied, length-map named series)
