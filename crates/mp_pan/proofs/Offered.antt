-- One length more at which a pair is offered.
use Rattle.std.proofs.Common.{◌≡◌, ℕ, ◌+◌, ◌*◌, ◌<◌, refl, sym, ap, subst, ◌∙◌, add-one, arith}
use Rattle.std.specs.Prelude.{Option, Some, None, if◌then◌else◌}
use Rattle.mp_defs.specs.Series.{Series, series_of}
use Rattle.mp_defs.specs.Window.{is_allowed}
use Rattle.mp_defs.specs.Distance.{distance}
use Rattle.mp_defs.specs.Profile.{windows_of}
use Rattle.mp_partial.specs.Values.{Column}
use Rattle.mp_scans.specs.Offering.{only}
use Rattle.mp_tiles.specs.Scanning.{taken}
use Rattle.mp_tiles.specs.TakenLaws.{taken_nothing}
use Rattle.mp_pan.specs.declared.offers.AtLengths.{AtLengths}
use Rattle.mp_pan.specs.SpanLaws.{pair_taken_at, same_series}
use Rattle.mp_pan.specs.Spans.{AreTakenAt, FitsLengths, all_put, distance_apart, pair_put}

pub none_put : (k i j : ℕ) (slots : Column) → slots ≡ pair_put k i j None slots
none_put k i j slots =
    sym (taken_nothing (taken slots (4 * i + k) None) (4 * j + k) ∙ taken_nothing slots (4 * i + k))

pub no_length_put : (m : ℕ) (a : Series) (i j : ℕ) (slots : Column) → slots ≡ all_put 0 m a i j slots
unfolding all_put
no_length_put m a i j slots = refl

all_more : (k m : ℕ) (a : Series) (i j : ℕ) (slots : Column)
    → all_put (k + 1) m a i j slots ≡ pair_put k i j (distance_apart (m + k) a i j) (all_put k m a i j slots)
unfolding all_put
all_more k m a i j slots = rw add-one refl

pub one_length_more : (k m : ℕ) (a : Series) (i j : ℕ) (first before after : Column) (reached apart : Option ℕ)
    → reached ≡ distance (m + k) a i a j → apart ≡ (if is_allowed (m + k) i j then reached else None)
    → before ≡ all_put k m a i j first → after ≡ pair_put k i j apart before
    → after ≡ all_put (k + 1) m a i j first
one_length_more k m a i j first before after reached apart r e h f =
    f ∙ ap (λ d. pair_put k i j d before) (e ∙ ap (λ d. if is_allowed (m + k) i j then d else None) r)
    ∙ ap (pair_put k i j (distance_apart (m + k) a i j)) h ∙ sym (all_more k m a i j first)

-- the windows of a pair that a scan offers
pub pair_scanned : (m : ℕ) (a b : Series) (into : AtLengths) (row column d : ℕ) (new : Column)
    → FitsLengths m a b into → row < column → column < windows_of m b → distance m a row b column ≡ Some d
    → (distance into.lengths.least (series_of into.lengths.samples.now) row (series_of into.lengths.samples.now) column
    ≡ Some d
    → new ≡ all_put into.lengths.count into.lengths.least (series_of into.lengths.samples.now) row column
    into.slots.now)
    → AreTakenAt into.lengths.count m a (only row column) into.slots.now new
pair_scanned m a b into row column d new fits order lt is h =
    let count = into.lengths.count in
    let slots = into.slots.now in
    let s = series_of into.lengths.samples.now in
    let same : windows_of m b ≡ windows_of m a = ap (windows_of m) (sym fits.same) in
    let at_m = subst (λ n. distance n s row s column ≡ Some d → new ≡ all_put count n s row column slots) fits.least h in
    let in_a = subst (λ (x : Series). distance m x row x column ≡ Some d → new ≡ all_put count m x row column slots)
    (sym fits.series) at_m in
    let put = in_a (same_series m a b row column (Some d) fits.same is) in
    subst (AreTakenAt count m a (only row column) slots) (sym put)
    (pair_taken_at count row column m a slots (omega (arith, into.lengths.long, fits.least))
    (omega (arith, into.lengths.few)) order (omega (arith, lt, same)) fits.places)
