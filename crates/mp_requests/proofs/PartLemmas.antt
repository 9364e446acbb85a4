-- Lazy slots: what is reported of them, by what stands there in the stores that the slots stand for.
use Rattle.std.proofs.Common.{◌≡◌, ◌∙◌, ℕ, List, [], length, ap, sym}
use Rattle.std.specs.Prelude.{slice_index_or}
use Rattle.std.proofs.lemmas.List.{length-map}
use Rattle.mp_defs.specs.Profile.{Columns}
use Rattle.mp_defs.specs.Series.{reading_of, series_of}
use Rattle.mp_defs.specs.Window.{windows}
use Rattle.mp_partial.specs.Profiled.{Profiled}
use Rattle.mp_results.specs.Covering.{Covering, uncovered}
use Rattle.mp_results.specs.LazyProfile.{lazy_profile}
use Rattle.mp_replies.specs.Command.{Report, PartialReport}
use Rattle.mp_replies.specs.PartialCommand.{partial_report}
use Rattle.mp_replies.specs.Profiles.{columns_in}
use Rattle.mp_replies.specs.State.{State, Store, channels_in, covered_in, samples_in}
use Rattle.mp_stores.specs.StoreLaws.{part_stands}
use Rattle.mp_stores.specs.Stores.{Lazy, Stored, slot_at}
use Rattle.mp_requests.specs.Requests.{AreSlotsOf, part_report}
use Rattle.mp_requests.proofs.KeptLemmas.{columns_same}

-- what is reported of a store at a window length
abbrev reported_of : ℕ → Store → Report
reported_of m store =
    PartialReport (lazy_profile m (covered_in store) (slice_index_or (channels_in store) 0 []))
    (length (uncovered m (windows (samples_in (channels_in store)) m) (covered_in store)))

-- the report of what stands in a lazy slot
pub part_report_is : (state : State) (held : Stored) (slot : ℕ) (part : Covering) → AreSlotsOf state held
    → part.m ≡ held.m → slot_at held slot ≡ Lazy part → part_report part ≡ partial_report state slot
part_report_is state held slot part slots window is =
    let m : part.m ≡ state.window = window ∙ slots.window_is in
    let long : length part.items ≡ length (series_of part.items) = sym (length-map part.items reading_of) in
    ap (λ (n : ℕ).
    PartialReport (lazy_profile part.m part.covered (series_of part.items))
    (length (uncovered part.m (windows n part.m) part.covered))) long
    ∙ (ap (λ (n : ℕ).
    PartialReport (lazy_profile n part.covered (series_of part.items))
    (length (uncovered n (windows (length (series_of part.items)) n) part.covered))) m
    ∙ ap (reported_of state.window) (sym (part_stands held state.stores slot part slots.stand is)))

-- what is written of columns and a count that are lent
pub part_lent : (profile : Profiled) (left : ℕ) (part : Covering)
    → profile.all ≡ (lazy_profile part.m part.covered (series_of part.items)).all
    → profile.left ≡ (lazy_profile part.m part.covered (series_of part.items)).left
    → profile.right ≡ (lazy_profile part.m part.covered (series_of part.items)).right
    → left ≡ length (uncovered part.m (windows (length part.items) part.m) part.covered)
    → PartialReport (columns_in profile) left ≡ part_report part
part_lent profile left part all left_is right count =
    ap (λ (columns : Columns). PartialReport columns left)
    (columns_same (columns_in profile) (lazy_profile part.m part.covered (series_of part.items)) all left_is right)
    ∙ ap (PartialReport (lazy_profile part.m part.covered (series_of part.items))) count
