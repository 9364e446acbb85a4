-- What an advance prepares.
use Rattle.std.proofs.Common.{◌≡◌, ℕ, zero, suc, ◌+◌, ◌-◌, ◌<◌, ◌≤◌, List, [], ◌∷◌, length, refl, ap, ◌∙◌, sym, arith}
use Rattle.std.specs.Prelude.{min, take, None, slice_set}
use Rattle.std.proofs.lemmas.List.{length-append, length-map, length-take}
use Rattle.mp_defs.specs.Series.{Series, series_of, reading_of}
use Rattle.mp_defs.specs.Window.{windows}
use Rattle.mp_results.specs.Covering.{Covering, advanced, uncovered}
use Rattle.mp_results.specs.Reversal.{numbers}
use Rattle.mp_anytime.specs.Laws.{CoversTheNext}
use Rattle.mp_replies.specs.AdvanceCommand.{advance_conditions}
use Rattle.mp_replies.specs.Change as change
use Rattle.mp_replies.specs.Change.{covered_further}
use Rattle.mp_replies.specs.Command as asked
use Rattle.mp_replies.specs.Command.{Report, AdvanceReport}
use Rattle.mp_replies.specs.Conditions.{first_cause}
use Rattle.mp_replies.specs.Line.{Asks}
use Rattle.mp_replies.specs.State.{Files, State, Store, Lazy, channels_in, covered_in, samples_in, store_at}
use Rattle.mp_requests.specs.declared.answers.Answer.TheVariants.{Accepted}
use Rattle.mp_requests.specs.declared.reports.Report.TheVariants as report
use Rattle.mp_commands.specs.declared.prepared.Prepared.{Prepared}
use Rattle.mp_commands.specs.Preparing.{IsPrepared, changed_by}
use Rattle.mp_commands.proofs.OpenLemmas.{open_within}
use Rattle.mp_commands.proofs.StepLemmas.{prepared_accepted}

-- ---- how many are covered, and how many are left

pub covered_more : (m w k : ℕ) (covered : List ℕ)
    → length (advanced m w k covered) ≡ length covered + min k (length (uncovered m w covered))
covered_more m w k covered =
    length-append covered (take k (uncovered m w covered))
    ∙ ap (λ (n : ℕ). length covered + n) (length-take k (uncovered m w covered))

-- one advance behind another is one by so many together
in_two_steps : CoversTheNext → (m w j k : ℕ) (covered : List ℕ) → w ≤ numbers
    → advanced m w (j + k) covered ≡ advanced m w j (advanced m w k covered)
in_two_steps next m w zero k covered few =
    let none : 0 + k ≡ k = omega arith in
    ap (λ (n : ℕ). advanced m w n covered) none ∙ sym (next.none m w (advanced m w k covered))
in_two_steps next m w (suc j) k covered few =
    let more : suc j + k ≡ j + k + 1 = omega arith in
    let last : j + 1 ≡ suc j = omega arith in
    ap (λ (n : ℕ). advanced m w n covered) more
    ∙ (next.one_more m w (j + k) covered few
    ∙ (ap (advanced m w 1) (in_two_steps next m w j k covered few)
    ∙ (sym (next.one_more m w j (advanced m w k covered) few)
    ∙ ap (λ (n : ℕ). advanced m w n (advanced m w k covered)) last)))

counted : (all left covered now k : ℕ) → now ≡ covered + min k all
    → covered + min (all + left + k) all ≡ now + min (all + left) left → left ≡ all - min k all
counted all left covered now k is both = omega (arith, is, both)

-- what is left is what was left before but those that it covers
pub left_behind : CoversTheNext → (m w k : ℕ) (covered : List ℕ) → w ≤ numbers
    → length (uncovered m w (advanced m w k covered))
    ≡ length (uncovered m w covered) - min k (length (uncovered m w covered))
left_behind next m w k covered few =
    let now = advanced m w k covered in
    let all = length (uncovered m w covered) in
    let left = length (uncovered m w now) in
    let both : length covered + min (all + left + k) all ≡ length now + min (all + left) left =
    sym (covered_more m w (all + left + k) covered)
    ∙ (ap length (in_two_steps next m w (all + left) k covered few) ∙ covered_more m w (all + left) now) in
    counted all left (length covered) (length now) k (covered_more m w k covered) both

-- the same by the series of samples, at the window length of the slots
pub done_for : (part : Covering) (m count done : ℕ) → part.m ≡ m
    → length (advanced part.m (windows (length part.items) part.m) count part.covered) ≡ length part.covered + done
    → length (advanced m (windows (length (series_of part.items)) m) count part.covered) ≡ length part.covered + done
done_for part m count done window is =
    let long : length (series_of part.items) ≡ length part.items = length-map part.items reading_of in
    ap (λ (n : ℕ). length (advanced m (windows n m) count part.covered)) long
    ∙ (ap (λ (k : ℕ). length (advanced k (windows (length part.items) k) count part.covered)) (sym window) ∙ is)

pub left_for : (part : Covering) (m count left : ℕ) → part.m ≡ m
    → left
    ≡ length
    (uncovered part.m (windows (length part.items) part.m)
    (advanced part.m (windows (length part.items) part.m) count part.covered))
    → left
    ≡ length
    (uncovered m (windows (length (series_of part.items)) m)
    (advanced m (windows (length (series_of part.items)) m) count part.covered))
left_for part m count left window is =
    let long : length part.items ≡ length (series_of part.items) = sym (length-map part.items reading_of) in
    is
    ∙ (ap (λ (k : ℕ).
    length
    (uncovered k (windows (length part.items) k)
    (advanced k (windows (length part.items) k) count part.covered))) window
    ∙ ap (λ (n : ℕ). length (uncovered m (windows n m) (advanced m (windows n m) count part.covered))) long)

-- ---- what is prepared

store_put : (stores : List Store) (slot : ℕ) (put : Store) → slot < length stores
    → store_at (slice_set stores slot put) slot ≡ put
store_put [] slot put h = absurd (omega (arith, h))
store_put (store ∷ stores) zero put h = refl
store_put (store ∷ stores) (suc slot) put h = store_put stores slot put (omega (arith, h))

-- the report of what stands behind it and of what stood before
abbrev reported_of : ℕ → Store → Store → Report
reported_of m behind before =
    AdvanceReport (length (covered_in behind) - length (covered_in before))
    (length (uncovered m (windows (samples_in (channels_in behind)) m) (covered_in behind)))

pub advanced_is : (state : State) (files : Files) (slot count done left : ℕ) (series : Series) (covered : List ℕ)
    (prepared : Prepared) → first_cause (advance_conditions state.stores slot) ≡ None
    → store_at state.stores slot ≡ Lazy series covered
    → length (advanced state.window (windows (length series) state.window) count covered) ≡ length covered + done
    → left
    ≡ length
    (uncovered state.window (windows (length series) state.window)
    (advanced state.window (windows (length series) state.window) count covered))
    → prepared.answer ≡ Accepted (report.Advance done left)
    → changed_by prepared.change ≡ change.CoverNext slot count
    → IsPrepared state files (Asks (asked.Advance slot count)) prepared
advanced_is state files slot count done left series covered prepared fine here done_is left_is answer put =
    let m = state.window in
    let now = advanced m (windows (length series) m) count covered in
    let behind : store_at (slice_set state.stores slot (covered_further m count (store_at state.stores slot))) slot
    ≡ Lazy series now =
    store_put state.stores slot (covered_further m count (store_at state.stores slot))
    (open_within state.stores slot _ fine)
    ∙ ap (covered_further m count) here in
    let steps : length now - length covered ≡ done = omega (arith, done_is) in
    prepared_accepted state files (asked.Advance slot count) (report.Advance done left) prepared fine refl answer
    (sym (ap (λ (s : Store). reported_of m s (store_at state.stores slot)) behind
    ∙ (ap (reported_of m (Lazy series now)) here
    ∙ (ap (λ (n : ℕ). AdvanceReport n (length (uncovered m (windows (length series) m) now))) steps
    ∙ ap (AdvanceReport done) (sym left_is)))))
    put
