-- What an open prepares.
use Rattle.std.proofs.Common.{◌≡◌, ℕ, ◌<◌, List, [], ◌∷◌, length, replicate, refl, ap, sym, arith, zero, suc}
use Rattle.std.proofs.Common.{Bool, true, false}
use Rattle.std.specs.Prelude.{Option, None, Some, slice_set, if◌then◌else◌}
use Rattle.mp_replies.specs.declared.causes.Cause.{Cause}
use Rattle.mp_replies.specs.declared.causes.Cause.TheVariants.{Slot}
use Rattle.mp_replies.specs.Command.{KeepReport, OpenReport}
use Rattle.mp_replies.specs.Change as change
use Rattle.mp_replies.specs.Command as asked
use Rattle.mp_replies.specs.Conditions.{first_cause}
use Rattle.mp_replies.specs.KeepCommand.{keep_conditions}
use Rattle.mp_replies.specs.Line.{Asks}
use Rattle.mp_replies.specs.OpenCommand.{open_conditions}
use Rattle.mp_replies.specs.State.{Files, State, Store, Open, Kept, channels_at, channels_in, is_closed, samples_in}
use Rattle.mp_replies.specs.State.{store_at}
use Rattle.mp_requests.specs.declared.answers.Answer.TheVariants.{Accepted}
use Rattle.mp_requests.specs.declared.reports.Report.TheVariants as report
use Rattle.mp_commands.specs.declared.prepared.Prepared.{Prepared}
use Rattle.mp_commands.specs.Preparing.{IsPrepared, changed_by}
use Rattle.mp_commands.proofs.StepLemmas.{prepared_accepted}

pub channels_put : (stores : List Store) (slot : ℕ) (put : Store) → slot < length stores
    → channels_at (slice_set stores slot put) slot ≡ channels_in put
channels_put [] slot put h = absurd (omega (arith, h))
channels_put (store ∷ stores) zero put h = refl
channels_put (store ∷ stores) (suc slot) put h = channels_put stores slot put (omega (arith, h))

not_closed : (closed : Bool) (others : Option Cause) → (if closed then Some Slot else others) ≡ None → closed ≡ false
not_closed true others h = absurd (cc h)
not_closed false others h = refl

there_by : (stores : List Store) (slot : ℕ) → is_closed (store_at stores slot) ≡ false → slot < length stores
there_by [] slot h = absurd (cc h)
there_by (store ∷ stores) zero h = omega arith
there_by (store ∷ stores) (suc slot) h = let rest = there_by stores slot h in omega (arith, rest)

-- a slot that isn't refused is there
pub open_within : (stores : List Store) (slot : ℕ) (others : Option Cause)
    → (if is_closed (store_at stores slot) then Some Slot else others) ≡ None → slot < length stores
open_within stores slot others h =
    there_by stores slot (not_closed (is_closed (store_at stores slot)) others h)

no_samples : (count : ℕ) → samples_in (replicate count []) ≡ 0
no_samples zero = refl
no_samples (suc count) = refl

-- nor has a slot that a store without a sample is put into
none_put : (stores : List Store) (slot : ℕ) (put : Store) → samples_in (channels_in put) ≡ 0
    → samples_in (channels_at (slice_set stores slot put) slot) ≡ 0
none_put [] slot put none = refl
none_put (store ∷ stores) zero put none = none
none_put (store ∷ stores) (suc slot) put none = none_put stores slot put none

pub opened : (state : State) (files : Files) (slot count : ℕ) (prepared : Prepared)
    → first_cause (open_conditions slot count) ≡ None → prepared.answer ≡ Accepted (report.Open 0)
    → changed_by prepared.change ≡ change.PutChannels slot (replicate count [])
    → IsPrepared state files (Asks (asked.OpenAnew slot count)) prepared
opened state files slot count prepared none answer put =
    prepared_accepted state files (asked.OpenAnew slot count) (report.Open 0) prepared none refl answer
    (ap OpenReport (sym (none_put state.stores slot (Open (replicate count [])) (no_samples count)))) put

pub kept_anew : (state : State) (files : Files) (slot keep : ℕ) (prepared : Prepared)
    → first_cause (keep_conditions state.window slot keep) ≡ None → prepared.answer ≡ Accepted (report.Keep 0)
    → changed_by prepared.change ≡ change.PutKept slot keep
    → IsPrepared state files (Asks (asked.KeepLast slot keep)) prepared
kept_anew state files slot keep prepared none answer put =
    prepared_accepted state files (asked.KeepLast slot keep) (report.Keep 0) prepared none refl answer
    (ap KeepReport (sym (none_put state.stores slot (Kept keep []) refl))) put
