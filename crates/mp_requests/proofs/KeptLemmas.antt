-- Kept slots: what stands there in the stores that the slots stand for, and what is reported of it.
use Rattle.std.proofs.Common.{◌≡◌, ◌∙◌, ℕ, ◌+◌, ◌-◌, ◌<◌, List, [], ◌∷◌, length, ap, sym}
use Rattle.std.proofs.Common.{arith}
use Rattle.std.specs.Prelude.{Option, Some, None, slice_index_or}
use Rattle.std.proofs.lemmas.List.{length-map}
use Rattle.mp_nums.specs.declared.nearest.Near.{Near}
use Rattle.mp_nums.specs.declared.samples.Sample.{Sample}
use Rattle.mp_defs.specs.ColumnLaws.{columns_have_places}
use Rattle.mp_defs.specs.Profile.{Columns, entry, left_entry, matrix_profile, right_entry}
use Rattle.mp_defs.specs.Series.{Series, reading_of, series_of}
use Rattle.mp_partial.specs.Profiled.{Profiled}
use Rattle.mp_defs.specs.Band.{is_allowed_in}
use Rattle.mp_replies.specs.Band.{live_profile}
use Rattle.mp_replies.specs.Command.{EntryReport, LiveProfileReport, ProfileReport}
use Rattle.mp_replies.specs.EntryCommand.{entry_in, entry_of, entry_report, live_entry}
use Rattle.mp_replies.specs.ProfileCommand.{profile_of, profile_report}
use Rattle.mp_replies.specs.Profiles.{columns_in}
use Rattle.mp_replies.specs.State.{State, Store, channels_in, keep_at, series_at}
use Rattle.mp_replies.specs.declared.refs.Ref.{Ref}
use Rattle.mp_stores.specs.StoreLaws.{keep_stands, kept_stands, open_counted}
use Rattle.mp_stores.specs.Stores.{Kept, IsChannel, StandFor, Stored, channel_count, channel_series, keep_of}
use Rattle.mp_stores.specs.Stores.{slot_at}
use Rattle.mp_defs.specs.Band.{first_kept, live_column, live_windows}
use Rattle.mp_stream.specs.Kept.{Keeping, StandsFor}
use Rattle.mp_requests.specs.Requests.{AreSlotsOf, IsLive, IsNamed, columns_kept, entry_kept}
use Rattle.mp_requests.proofs.ColumnLemmas.{profile_stands}

-- ---- an open slot

-- where all samples are kept, and the profile is made at once, a channel that is named is there
pub open_channel : (held : Stored) (at : Ref) → keep_of (slot_at held at.slot) ≡ None → IsNamed held at
    → IsChannel held at
open_channel held at all named =
    let count = open_counted (slot_at held at.slot) all named.whole in
    record { slot = named.slot; channel = omega (arith, named.channel, count) }

pub open_stands : (held : Stored) (stores : List Store) (at : Ref) → keep_of (slot_at held at.slot) ≡ None
    → StandFor held stores → keep_at stores at.slot ≡ None
open_stands held stores at all stand = keep_stands held stores at.slot stand ∙ all

-- the profile of its series
pub open_columns : (state : State) (held : Stored) (at : Ref) (profile : Profiled) → AreSlotsOf state held
    → keep_of (slot_at held at.slot) ≡ None → IsNamed held at
    → columns_in profile ≡ matrix_profile held.m (channel_series held at)
    → columns_in profile ≡ matrix_profile state.window (series_at state.stores at)
open_columns state held at profile slots all named is =
    profile_stands held state.stores at profile slots.stand (open_channel held at all named) is
    ∙ ap (λ (n : ℕ). matrix_profile n (series_at state.stores at)) slots.window_is

pub open_profile_is : (state : State) (held : Stored) (at : Ref) (profile : Profiled)
    → AreSlotsOf state held → keep_of (slot_at held at.slot) ≡ None → IsNamed held at
    → columns_in profile ≡ matrix_profile held.m (channel_series held at)
    → ProfileReport (columns_in profile) ≡ profile_report state at
open_profile_is state held at profile slots all named is =
    ap ProfileReport (open_columns state held at profile slots all named is)
    ∙ ap (λ (o : Option ℕ). profile_of o state.window (series_at state.stores at))
    (sym (open_stands held state.stores at all slots.stand))

pub open_entry_is : (state : State) (held : Stored) (at : Ref) (start : ℕ) (profile : Profiled)
    → AreSlotsOf state held → keep_of (slot_at held at.slot) ≡ None → IsNamed held at
    → columns_in profile ≡ matrix_profile held.m (channel_series held at)
    → entry_in (columns_in profile) start ≡ entry_report state at start
open_entry_is state held at start profile slots all named is =
    ap (λ (cs : Columns). entry_in cs start) (open_columns state held at profile slots all named is)
    ∙ ap (λ (o : Option ℕ). entry_of o state.window (series_at state.stores at) start)
    (sym (open_stands held state.stores at all slots.stand))

-- ---- a kept slot

-- the stores have the series of some samples, of which this is what is kept
pub record IsKeptAs (kept : Keeping) (stores : List Store) (at : Ref) : Type 0 where
  pub samples : List Sample
  pub stands : StandsFor samples kept
  pub keep_is : keep_at stores at.slot ≡ Some kept.keep
  pub series_is : series_at stores at ≡ series_of samples

pub kept_as : (held : Stored) (stores : List Store) (at : Ref) (kept : Keeping) → StandFor held stores
    → slot_at held at.slot ≡ Kept kept → IsNamed held at → IsKeptAs kept stores at
kept_as held stores at kept stand is named =
    let all = kept_stands held stores at.slot kept stand is in
    let one : channel_count (slot_at held at.slot) ≡ 1 = ap channel_count is in
    let first : at.channel ≡ 0 = omega (arith, named.channel, one) in
    record {
      samples = all.samples;
      stands = all.stands;
      keep_is = keep_stands held stores at.slot stand ∙ ap keep_of is;
      series_is =
          ap (λ (s : Store). slice_index_or (channels_in s) at.channel []) all.store_is
          ∙ ap (λ (k : ℕ). slice_index_or (series_of all.samples ∷ []) k []) first;
    }

-- the samples are as many as were appended
pub appended : (samples : List Sample) (kept : Keeping) → StandsFor samples kept
    → length (series_of samples) ≡ kept.count
appended samples kept stands = length-map samples reading_of ∙ stands.count

-- ---- the profile of the live windows

abbrev pub columns : (all left right : List (Option Near)) → Columns
columns all left right = record { all = all; left = left; right = right }

pub columns_same : (a b : Columns) → a.all ≡ b.all → a.left ≡ b.left → a.right ≡ b.right → a ≡ b
columns_same a b all left right =
    ap (λ (c : List (Option Near)). columns c a.left a.right) all
    ∙ (ap (λ (c : List (Option Near)). columns b.all c a.right) left
    ∙ ap (λ (c : List (Option Near)). columns b.all b.left c) right)

pub live_columns : (samples : List Sample) (kept : Keeping) → StandsFor samples kept
    → columns_kept kept ≡ live_profile kept.keep kept.m (series_of samples)
live_columns samples kept stands =
    let a = series_of samples in
    let may = is_allowed_in kept.keep kept.m in
    let long : kept.count ≡ length a = sym (appended samples kept stands) in
    columns_same (columns_kept kept) (live_profile kept.keep kept.m a)
    (stands.all ∙ ap (live_column (entry may kept.m a) kept.keep kept.m) long)
    (stands.left ∙ ap (live_column (left_entry may kept.m a) kept.keep kept.m) long)
    (stands.right ∙ ap (live_column (right_entry may kept.m a) kept.keep kept.m) long)

-- what is reported of columns that are copied
pub copied_is : (first : ℕ) (kept : Keeping) (all left right : List (Option Near))
    → first ≡ first_kept kept.keep kept.count → all ≡ kept.all → left ≡ kept.left → right ≡ kept.right
    → LiveProfileReport first (columns all left right)
    ≡ LiveProfileReport (first_kept kept.keep kept.count) (columns_kept kept)
copied_is first kept all left right start all_is left_is right_is =
    ap (λ (n : ℕ). LiveProfileReport n (columns all left right)) start
    ∙ ap (LiveProfileReport (first_kept kept.keep kept.count))
    (columns_same (columns all left right) (columns_kept kept) all_is left_is right_is)

pub live_profile_is : (state : State) (held : Stored) (at : Ref) (kept : Keeping) → AreSlotsOf state held
    → kept.m ≡ held.m → IsKeptAs kept state.stores at
    → LiveProfileReport (first_kept kept.keep kept.count) (columns_kept kept) ≡ profile_report state at
live_profile_is state held at kept slots window is =
    let a = series_of is.samples in
    let m : kept.m ≡ state.window = window ∙ slots.window_is in
    let live : LiveProfileReport (first_kept kept.keep kept.count) (columns_kept kept)
    ≡ profile_of (Some kept.keep) kept.m a =
    ap (λ (n : ℕ). LiveProfileReport (first_kept kept.keep n) (columns_kept kept))
    (sym (appended is.samples kept is.stands))
    ∙ ap (LiveProfileReport (first_kept kept.keep (length a))) (live_columns is.samples kept is.stands) in
    live
    ∙ (ap (λ (n : ℕ). profile_of (Some kept.keep) n a) m
    ∙ (ap (λ (s : Series). profile_of (Some kept.keep) state.window s) (sym is.series_is)
    ∙ ap (λ (o : Option ℕ). profile_of o state.window (series_at state.stores at)) (sym is.keep_is)))

-- ---- the entry of a live window

-- what stands in a column at a live window
live_slot : (f : ℕ → Option Near) (column : List (Option Near)) (kept : Keeping) (start : ℕ)
    → column ≡ live_column f kept.keep kept.m kept.count → IsLive kept start
    → slice_index_or column (start - first_kept kept.keep kept.count) None ≡ f start
live_slot f column kept start is live =
    let first = first_kept kept.keep kept.count in
    let place = start - first in
    let within : place < live_windows kept.keep kept.m kept.count = omega (arith, live.first, live.last) in
    let here : first + place ≡ start = omega (arith, live.first) in
    ap (λ (c : List (Option Near)). slice_index_or c place None) is
    ∙ (columns_have_places.at_place (λ k. f (first + k)) (live_windows kept.keep kept.m kept.count) place within
    ∙ ap f here)

live_entry_is_kept : (samples : List Sample) (kept : Keeping) (start : ℕ) → StandsFor samples kept
    → IsLive kept start
    → entry_kept kept start ≡ live_entry kept.keep kept.m (series_of samples) start
live_entry_is_kept samples kept start stands live =
    let a = series_of samples in
    let may = is_allowed_in kept.keep kept.m in
    let all = live_slot (entry may kept.m a) kept.all kept start stands.all live in
    let left = live_slot (left_entry may kept.m a) kept.left kept start stands.left live in
    let right = live_slot (right_entry may kept.m a) kept.right kept start stands.right live in
    let place = start - first_kept kept.keep kept.count in
    ap (λ (o : Option Near). EntryReport start o (slice_index_or kept.left place None)
    (slice_index_or kept.right place None)) all
    ∙ (ap (λ (o : Option Near). EntryReport start (entry may kept.m a start) o
    (slice_index_or kept.right place None)) left
    ∙ ap (EntryReport start (entry may kept.m a start) (left_entry may kept.m a start)) right)

pub live_entry_is : (state : State) (held : Stored) (at : Ref) (start : ℕ) (kept : Keeping)
    → AreSlotsOf state held → kept.m ≡ held.m → IsLive kept start → IsKeptAs kept state.stores at
    → entry_kept kept start ≡ entry_report state at start
live_entry_is state held at start kept slots window live is =
    let a = series_of is.samples in
    let m : kept.m ≡ state.window = window ∙ slots.window_is in
    live_entry_is_kept is.samples kept start is.stands live
    ∙ (ap (λ (n : ℕ). entry_of (Some kept.keep) n a start) m
    ∙ (ap (λ (s : Series). entry_of (Some kept.keep) state.window s start) (sym is.series_is)
    ∙ ap (λ (o : Option ℕ). entry_of o state.window (series_at state.stores at) start) (sym is.keep_is)))

-- what is reported of slots that are lent
pub lent_is : (start : ℕ) (kept : Keeping) (all left right : Option Near)
    → all ≡ slice_index_or kept.all (start - first_kept kept.keep kept.count) None
    → left ≡ slice_index_or kept.left (start - first_kept kept.keep kept.count) None
    → right ≡ slice_index_or kept.right (start - first_kept kept.keep kept.count) None
    → EntryReport start all left right ≡ entry_kept kept start
lent_is start kept all left right all_is left_is right_is =
    let place = start - first_kept kept.keep kept.count in
    ap (λ (o : Option Near). EntryReport start o left right) all_is
    ∙ (ap (λ (o : Option Near). EntryReport start (slice_index_or kept.all place None) o right) left_is
    ∙ ap (EntryReport start (slice_index_or kept.all place None) (slice_index_or kept.left place None)) right_is)
