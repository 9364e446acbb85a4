-- Unusual windows among the live windows of a kept slot, by their true starts.
use Rattle.std.proofs.Common.{◌≡◌, ◌∙◌, ℕ, ◌+◌, ◌-◌, ◌^◌, ◌<◌, ◌≤◌, List, [], ◌∷◌, ◌++◌, length, map, take, drop}
use Rattle.std.proofs.Common.{get_or, set}
use Rattle.std.proofs.Common.{suc, ap, sym, subst, arith, add-one, drop-cons, Fits, w64}
use Rattle.std.specs.Prelude.{All, Option, Some}
use Rattle.std.proofs.lemmas.List.{drop-set-lt, map-append, take_more, take_more_set}
use Rattle.mp_nums.specs.declared.finds.Discord.{Discord}
use Rattle.mp_nums.specs.declared.nearest.Near.{Near}
use Rattle.mp_defs.specs.Profile.{Columns}
use Rattle.mp_defs.specs.Series.{Series, series_of}
use Rattle.mp_defs.specs.Window.{excl}
use Rattle.mp_replies.specs.Band.{live_profile}
use Rattle.mp_replies.specs.Command.{DiscordsReport}
use Rattle.mp_replies.specs.DiscordsCommand.{discords_of, started_at}
use Rattle.mp_replies.specs.State.{Store, keep_at, series_at}
use Rattle.mp_replies.specs.declared.refs.Ref.{Ref}
use Rattle.mp_results.specs.Discords.{discords}
use Rattle.mp_stores.specs.Stores.{Stored}
use Rattle.mp_defs.specs.Band.{first_kept}
use Rattle.mp_stream.specs.Kept.{Keeping}
use Rattle.mp_requests.proofs.KeptLemmas.{IsKeptAs, appended, live_columns}

-- ---- starts that are raised one by one

abbrev at_start : ℕ → Near → Discord
at_start start near = record { start = start; near = near }

-- so many of them were raised, and the others are as before
pub record AreMoved (first : ℕ) (old now : List Discord) (count : ℕ) : Type 0 where
  pub before : take count now ≡ map (started_at first) (take count old)
  pub behind : drop count now ≡ drop count old

-- one that wasn't raised is as before, and so are those behind it
record IsAsBefore (old now : List Discord) (i : ℕ) (d : Discord) : Type 0 where
  here : get_or now i d ≡ get_or old i d
  later : drop (suc i) now ≡ drop (suc i) old

as_before : (old now : List Discord) (i : ℕ) (d : Discord) → i < length now → i < length old
    → drop i now ≡ drop i old → IsAsBefore old now i d
as_before old now i d there within same =
    let whole : get_or now i d ∷ drop (suc i) now ≡ get_or old i d ∷ drop (suc i) old =
    sym (drop-cons now i d there) ∙ (same ∙ drop-cons old i d within) in
    record { here = cc; later = cc }

one_moved : (first i : ℕ) (old now : List Discord) (d : Discord) → i < length now → length now ≡ length old
    → AreMoved first old now i → AreMoved first old (set now i (started_at first (get_or now i d))) (i + 1)
one_moved first i old now d there long moved =
    let within : i < length old = omega (arith, there, long) in
    let same = as_before old now i d there within moved.behind in
    let raised = started_at first (get_or now i d) in
    let more : map (started_at first) (take (i + 1) old)
    ≡ map (started_at first) (take i old) ++ started_at first (get_or old i d) ∷ [] =
    ap (map (started_at first)) (take_more old i d within)
    ∙ map-append (started_at first) (take i old) (get_or old i d ∷ []) in
    let later : drop (i + 1) now ≡ drop (i + 1) old = rw add-one same.later in
    record {
      before =
          take_more_set now i raised there
          ∙ (ap (λ (ds : List Discord). ds ++ raised ∷ []) moved.before
          ∙ (ap (λ (discord : Discord). map (started_at first) (take i old) ++ started_at first discord ∷ []) same.here
          ∙ sym more));
      behind = drop-set-lt (i + 1) now i raised (omega arith) ∙ later;
    }

-- the same, with the sum as it is made
abbrev moved_by : ℕ → Discord → Discord
moved_by first discord = record { start = discord.start + first; near = discord.near }

pub one_raised : (first i : ℕ) (old now : List Discord) (d : Discord) → i < length now → length now ≡ length old
    → AreMoved first old now i → AreMoved first old (set now i (moved_by first (get_or now i d))) (i + 1)
one_raised first i old now d there long moved =
    let discord = get_or now i d in
    let start : first + discord.start ≡ discord.start + first = omega arith in
    let same : started_at first discord ≡ moved_by first discord =
    ap (λ (n : ℕ). at_start n discord.near) start in
    subst (λ (raised : Discord). AreMoved first old (set now i raised) (i + 1)) same
    (one_moved first i old now d there long moved)

-- the start of one that wasn't raised yet may be
may_move : (first i : ℕ) (old now : List Discord) (d : Discord) → i < length now → length now ≡ length old
    → AreMoved first old now i → All (λ discord. first + discord.start ≤ 2 ^ 64 - 1) old
    → first + (get_or now i d).start ≤ 2 ^ 64 - 1
may_move first i old now d there long moved all =
    let within : i < length old = omega (arith, there, long) in
    let same = as_before old now i d there within moved.behind in
    omega (arith, ap (λ (discord : Discord). discord.start) same.here, all i d within)

pub raised_fits : (first i : ℕ) (old now : List Discord) (d : Discord) → i < length now → length now ≡ length old
    → AreMoved first old now i → All (λ discord. first + discord.start ≤ 2 ^ 64 - 1) old
    → Fits w64 ((get_or now i d).start + first)
raised_fits first i old now d there long moved all =
    omega (arith, may_move first i old now d there long moved all)

-- ---- what is told of them

pub live_discords_told : (held : Stored) (stores : List Store) (at : Ref) (kept : Keeping) (zone most : ℕ)
    (found : List Discord) → kept.m ≡ held.m → IsKeptAs kept stores at → zone ≡ excl held.m
    → found ≡ map (started_at (first_kept kept.keep kept.count)) (discords kept.all zone most)
    → DiscordsReport found ≡ discords_of (keep_at stores at.slot) held.m (series_at stores at) most
live_discords_told held stores at kept zone most found window is zone_is found_is =
    let a = series_of is.samples in
    let here : zone ≡ excl kept.m = zone_is ∙ ap excl (sym window) in
    let told : DiscordsReport found ≡ discords_of (Some kept.keep) kept.m a most =
    ap DiscordsReport
    (found_is
    ∙ (ap (λ (z : ℕ). map (started_at (first_kept kept.keep kept.count)) (discords kept.all z most)) here
    ∙ (ap (λ (cs : Columns). map (started_at (first_kept kept.keep kept.count)) (discords cs.all (excl kept.m) most))
    (live_columns is.samples kept is.stands)
    ∙ ap (λ (n : ℕ). map (started_at (first_kept kept.keep n))
    (discords (live_profile kept.keep kept.m a).all (excl kept.m) most))
    (sym (appended is.samples kept is.stands))))) in
    told
    ∙ (ap (λ (n : ℕ). discords_of (Some kept.keep) n a most) window
    ∙ (ap (λ (s : Series). discords_of (Some kept.keep) held.m s most) (sym is.series_is)
    ∙ ap (λ (o : Option ℕ). discords_of o held.m (series_at stores at) most) (sym is.keep_is)))
