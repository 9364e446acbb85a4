-- Appends that come one behind another.
use Rattle.std.proofs.Common.{◌≡◌, ℕ, ◌+◌, ◌<◌, ◌≤◌, Bool, true, false, not, List, [], ◌∷◌, ◌++◌, length, refl, ap, ◌∙◌}
use Rattle.std.proofs.Common.{sym, subst, arith, append-nil, length-append, nat_lt}
use Rattle.std.specs.Prelude.{Option, Some, None, is_some, is_none, unwrap_or, Result, Ok, Err, flat_map, slice_set}
use Rattle.std.proofs.lemmas.List.{set-set}
use Rattle.std.proofs.lemmas.Bool.{or_parts}
use Rattle.std.proofs.lemmas.Bool.Decides.{nat_tests}
use Rattle.mp_nums.specs.declared.widths.Width.{Width}
use Rattle.mp_defs.specs.Series.{Series}
use Rattle.mp_text.specs.Rows.{Row, columns_of, onto}
use Rattle.mp_replies.specs.declared.causes.Cause.{Cause}
use Rattle.mp_replies.specs.declared.causes.Cause.TheVariants.{Slot, Sample, Full}
use Rattle.mp_replies.specs.declared.modes.Mode.{Mode}
use Rattle.mp_replies.specs.State.{Files, Store, State, store_at, is_closed, keep_in, keep_at, channels_in, channels_at}
use Rattle.mp_replies.specs.State.{samples_in}
use Rattle.mp_replies.specs.Change.{Change, grown}
use Rattle.mp_replies.specs.Command.{Append}
use Rattle.mp_replies.specs.Conditions.{first_cause, when}
use Rattle.mp_replies.specs.AppendCommand.{item_of, items_of, read_items, rows_in, bad_in, append_conditions}
use Rattle.mp_replies.specs.AppendCommand.{append_change, most_samples}
use Rattle.mp_replies.specs.Line.{Asked, Asks, asked_of}
use Rattle.mp_replies.specs.Step.{verdict, verdict_by, verdict_of, cause, cause_in, after, after_by}
use Rattle.mp_replies.specs.Output.{some_refused, state_after}
use Rattle.mp_replies.specs.Laws.{AppendEach, AppendsAddUp}
use Rattle.mp_replies.proofs.BadItems.{item_good}
use Rattle.mp_replies.proofs.Channels.{with_rows, length-with_rows, with_rows-append, samples_in-with_rows}
use Rattle.mp_replies.proofs.Channels.{open_with_channels, store_at-set, store_with, store_with-is, store_with-append}
use Rattle.mp_replies.proofs.Channels.{channels-store_with, keep-store_with}

-- ---- samples of items one behind the other

record AreJoined (one : Result Row ℕ) (others : Result (List Row) ℕ) (rows : List Row) : Type 0 where
  first : Row
  rest : List Row
  first_is : one ≡ Ok first
  rest_are : others ≡ Ok rest
  whole : rows ≡ first ∷ rest

joined_by : (one : Result Row ℕ) (others : Result (List Row) ℕ) (rows : List Row) → onto one others ≡ Ok rows
    → AreJoined one others rows
joined_by (Err bad) others rows h = absurd (cc h)
joined_by (Ok row) (Err bad) rows h = absurd (cc h)
joined_by (Ok row) (Ok more) rows h =
    let same : row ∷ more ≡ rows = cc in
    record { first = row; rest = more; first_is = refl; rest_are = refl; whole = sym same }

-- where all are good their numbers don't matter
any_number : (width : Width) (scale n a b : ℕ) (items : List (List ℕ)) (rows : List Row) → items_of width scale n a items ≡ Ok rows
    → items_of width scale n b items ≡ Ok rows
any_number width scale n a b [] rows h = h
any_number width scale n a b (item ∷ items) rows h =
    let joined = joined_by (item_of width scale n a item) (items_of width scale n (a + 1) items) rows h in
    rw (
      item_good width scale n a b item joined.first joined.first_is,
      any_number width scale n (a + 1) (b + 1) items joined.rest joined.rest_are,
    )
    (ap Ok (sym joined.whole))

-- and more may come behind
items_of-append : (width : Width) (scale n at : ℕ) (items more : List (List ℕ)) (rows others : List Row)
    → items_of width scale n at items ≡ Ok rows → items_of width scale n 1 more ≡ Ok others
    → items_of width scale n at (items ++ more) ≡ Ok (rows ++ others)
items_of-append width scale n at [] more rows others one two =
    let none : [] ≡ rows = cc in
    any_number width scale n 1 at more others two ∙ ap (λ (s : List Row). Ok (s ++ others)) none
items_of-append width scale n at (item ∷ items) more rows others one two =
    let joined = joined_by (item_of width scale n at item) (items_of width scale n (at + 1) items) rows one in
    rw (joined.first_is, items_of-append width scale n (at + 1) items more joined.rest others joined.rest_are two)
    (ap (λ (s : List Row). Ok (s ++ others)) (sym joined.whole))

length-items : (width : Width) (scale n at : ℕ) (items : List (List ℕ)) (rows : List Row) → items_of width scale n at items ≡ Ok rows
    → length rows ≡ length items
length-items width scale n at [] rows h = let none : [] ≡ rows = cc in ap length (sym none)
length-items width scale n at (item ∷ items) rows h =
    let joined = joined_by (item_of width scale n at item) (items_of width scale n (at + 1) items) rows h in
    let rest = length-items width scale n (at + 1) items joined.rest joined.rest_are in
    omega (arith, ap length joined.whole, rest)

-- ---- one line

-- the stores with these rows behind the samples of a slot's channels
abbrev stores_with : List Store → ℕ → List Row → List Store
stores_with stores slot rows = slice_set stores slot (store_with (store_at stores slot) rows)

-- the most samples of the slot's channels
abbrev most_at : State → ℕ → ℕ
most_at state slot = most_samples (keep_at state.stores slot)

-- these rows stand behind the samples of the slot's channels, where there was room for them, and nothing else changes
record Appended (state later : State) (slot : ℕ) (rows : List Row) : Type 0 where
  room : samples_in (channels_at state.stores slot) + length rows ≤ most_at state slot
  store : store_at later.stores slot ≡ store_with (store_at state.stores slot) rows
  channels : channels_at later.stores slot ≡ with_rows (channels_at state.stores slot) rows
  stores_are : later.stores ≡ stores_with state.stores slot rows
  window_is : later.window ≡ state.window
  scale_is : later.scale ≡ state.scale
  mode_is : later.mode ≡ state.mode
  begun_is : later.begun ≡ true

-- the slot has a channel
abbrev HasChannel : State → ℕ → Type 0
HasChannel state slot = 0 < length (channels_at state.stores slot)

record Passed (state : State) (slot : ℕ) (items : List (List ℕ)) : Type 0 where
  rows : List Row
  rows_are : read_items state.mode.width state.scale (length (channels_at state.stores slot)) items ≡ Ok rows
  room : samples_in (channels_at state.stores slot) + length items ≤ most_at state slot

passed_by : (state : State) (slot : ℕ) (items : List (List ℕ)) (closed over : Bool) (read : Result (List Row) ℕ)
    → read_items state.mode.width state.scale (length (channels_at state.stores slot)) items ≡ read
    → nat_lt (most_at state slot) (samples_in (channels_at state.stores slot) + length items) ≡ over
    → first_cause (when closed Slot ∷ when (not (is_none (bad_in read))) (Sample (unwrap_or (bad_in read) 0))
    ∷ when over Full ∷ [])
    ≡ None
    → Passed state slot items
passed_by state slot items true over read is test h = absurd (cc h)
passed_by state slot items false over (Err bad) is test h = absurd (cc h)
passed_by state slot items false true (Ok rows) is test h = absurd (cc h)
passed_by state slot items false false (Ok rows) is test h =
    record { rows = rows; rows_are = is; room = grind (arith, nat_tests) }

passed : (state : State) (slot : ℕ) (items : List (List ℕ))
    → first_cause (append_conditions state.mode.width state.scale state.stores slot items) ≡ None → Passed state slot items
passed state slot items h =
    passed_by state slot items (is_closed (store_at state.stores slot))
    (nat_lt (most_at state slot) (samples_in (channels_at state.stores slot) + length items))
    (read_items state.mode.width state.scale (length (channels_at state.stores slot)) items) refl refl h

unrefused : (o : Option Cause) (change : Change) (items : List (List ℕ)) (slot : ℕ)
    → cause_in (verdict_by (Append slot items) o change) ≡ None → o ≡ None
unrefused None change items slot h = refl
unrefused (Some why) change items slot h = absurd (cc h)

-- the slot behind the change
changed_store : (stores : List Store) (slot : ℕ) (rows : List Row) → 0 < length (channels_at stores slot)
    → store_at (stores_with stores slot rows) slot ≡ store_with (store_at stores slot) rows
changed_store stores slot rows some =
    store_at-set stores slot (store_with (store_at stores slot) rows)
    (open_with_channels (store_at stores slot) some)

appended_by : (state : State) (slot : ℕ) (items : List (List ℕ)) (o : Option Cause) (p : Passed state slot items)
    → HasChannel state slot → o ≡ None
    → Appended state
    (after_by state (verdict_by (Append slot items) o (append_change state.mode.width state.scale state.stores slot items)))
    slot p.rows
appended_by state slot items (Some why) p some is = absurd (cc is)
appended_by state slot items None p some is =
    let n = length (channels_at state.stores slot) in
    let store = store_at state.stores slot in
    let added = columns_of n (rows_in (read_items state.mode.width state.scale n items)) in
    let long = length-items state.mode.width state.scale n 1 items p.rows p.rows_are in
    let grown_is : grown store added ≡ store_with store p.rows =
    ap (λ (r : Result (List Row) ℕ). grown store (columns_of n (rows_in r))) p.rows_are
    ∙ sym (store_with-is store p.rows) in
    let stores_are : slice_set state.stores slot (grown store added) ≡ stores_with state.stores slot p.rows =
    ap (λ (s : Store). slice_set state.stores slot s) grown_is in
    let store_is : store_at (slice_set state.stores slot (grown store added)) slot ≡ store_with store p.rows =
    ap (λ (ss : List Store). store_at ss slot) stores_are ∙ changed_store state.stores slot p.rows some in
    record {
      room = omega (arith, p.room, long);
      store = store_is;
      channels = ap channels_in store_is ∙ channels-store_with store p.rows;
      stores_are = stores_are;
      window_is = refl;
      scale_is = refl;
      mode_is = refl;
      begun_is = refl;
    }

one_of : (state : State) (files : Files) (slot : ℕ) (items : List (List ℕ)) → HasChannel state slot
    → cause_in (verdict_of state files (Asks (Append slot items))) ≡ None
    → (p : Passed state slot items)
    × Appended state (after_by state (verdict_of state files (Asks (Append slot items)))) slot p.rows
one_of state files slot items some none =
    let o = first_cause (append_conditions state.mode.width state.scale state.stores slot items) in
    let accepted = unrefused o (append_change state.mode.width state.scale state.stores slot items) items slot none in
    let p = passed state slot items accepted in
    (p, appended_by state slot items o p some accepted)

one_line : (state : State) (files : Files) (line : List ℕ) (slot : ℕ) (items : List (List ℕ)) → HasChannel state slot
    → asked_of state.mode.version line ≡ Asks (Append slot items) → cause state line files ≡ None
    → (p : Passed state slot items) × Appended state (after state line files) slot p.rows
unfolding cause after verdict
one_line state files line slot items some asks none =
    let P : Asked → Type 0 = λ a. cause_in (verdict_of state files a) ≡ None
    → (p : Passed state slot items) × Appended state (after_by state (verdict_of state files a)) slot p.rows in
    subst P (sym asks) (one_of state files slot items some) none

-- ---- several lines

not_some : (o : Option Cause) → is_some o ≡ false → o ≡ None
not_some None h = refl
not_some (Some why) h = absurd (cc h)

all_items : List (List (List ℕ)) → List (List ℕ)
all_items groups = flat_map (λ items. items) groups

still_has : (state later : State) (slot : ℕ) (rows : List Row) → HasChannel state slot → Appended state later slot rows
    → HasChannel later slot
still_has state later slot rows some a =
    let same : length (channels_at later.stores slot) ≡ length (channels_at state.stores slot) =
    ap length a.channels ∙ length-with_rows (channels_at state.stores slot) rows in
    omega (arith, some, same)

record AllAppended (state later : State) (slot : ℕ) (items : List (List ℕ)) : Type 0 where
  rows : List Row
  rows_are : read_items state.mode.width state.scale (length (channels_at state.stores slot)) items ≡ Ok rows
  appended : Appended state later slot rows

both : (state middle later : State) (slot : ℕ) (items more : List (List ℕ)) → HasChannel state slot
    → (p : Passed state slot items) → Appended state middle slot p.rows → AllAppended middle later slot more
    → AllAppended state later slot (items ++ more)
both state middle later slot items more some p one two =
    let channels = channels_at state.stores slot in
    let n = length channels in
    let same : length (channels_at middle.stores slot) ≡ n =
    ap length one.channels ∙ length-with_rows channels p.rows in
    let others : read_items state.mode.width state.scale n more ≡ Ok two.rows =
    ap (λ (s : ℕ). read_items state.mode.width s n more) (sym one.scale_is)
    ∙ ap (λ (mode : Mode). read_items mode.width middle.scale n more) (sym one.mode_is)
    ∙ (ap (λ (c : ℕ). read_items middle.mode.width middle.scale c more) (sym same) ∙ two.rows_are) in
    let joined : with_rows (channels_at middle.stores slot) two.rows ≡ with_rows channels (p.rows ++ two.rows) =
    ap (λ (cs : List Series). with_rows cs two.rows) one.channels ∙ with_rows-append channels p.rows two.rows in
    let held : samples_in (channels_at middle.stores slot) ≡ samples_in channels + length p.rows =
    ap samples_in one.channels ∙ samples_in-with_rows channels p.rows some in
    let store = store_at state.stores slot in
    let twice : store_with (store_at middle.stores slot) two.rows ≡ store_with store (p.rows ++ two.rows) =
    ap (λ (s : Store). store_with s two.rows) one.store ∙ store_with-append store p.rows two.rows in
    let most : most_at middle slot ≡ most_at state slot =
    ap (λ (s : Store). most_samples (keep_in s)) one.store ∙ ap most_samples (keep-store_with store p.rows) in
    record {
      rows = p.rows ++ two.rows;
      rows_are = items_of-append state.mode.width state.scale n 1 items more p.rows two.rows p.rows_are others;
      appended = record {
        room = omega (arith, two.appended.room, held, most, length-append p.rows two.rows);
        store = two.appended.store ∙ twice;
        channels = two.appended.channels ∙ joined;
        stores_are =
            two.appended.stores_are
            ∙ (ap (λ (stores : List Store).
            slice_set stores slot (store_with (store_at middle.stores slot) two.rows))
            one.stores_are
            ∙ (set-set state.stores slot (store_with store p.rows)
            (store_with (store_at middle.stores slot) two.rows)
            ∙ ap (λ (s : Store). slice_set state.stores slot s) twice));
        window_is = two.appended.window_is ∙ one.window_is;
        scale_is = two.appended.scale_is ∙ one.scale_is;
        mode_is = two.appended.mode_is ∙ one.mode_is;
        begun_is = two.appended.begun_is;
      };
    }

several : (state : State) (files : Files) (slot : ℕ) (first : List ℕ) (lines : List (List ℕ))
    (groups : List (List (List ℕ))) → HasChannel state slot
    → AppendEach state.mode.version slot (first ∷ lines) groups → some_refused state files (first ∷ lines) ≡ false
    → AllAppended state (state_after state files (first ∷ lines)) slot (all_items groups)
unfolding all_items
several state files slot first lines [] some each good = absurd each
several state files slot first [] (items ∷ []) some each good =
    let parts = or_parts (is_some (cause state first files)) false good in
    let one = one_line state files first slot items some each.0 (not_some (cause state first files) parts.0) in
    record {
      rows = one.0.rows;
      rows_are =
          ap (read_items state.mode.width state.scale (length (channels_at state.stores slot))) (append-nil items) ∙ one.0.rows_are;
      appended = one.1;
    }
several state files slot first [] (items ∷ next ∷ groups) some each good = absurd each.1
several state files slot first (line ∷ lines) (items ∷ groups) some each good =
    let later = after state first files in
    let parts = or_parts (is_some (cause state first files)) (some_refused later files (line ∷ lines)) good in
    let one = one_line state files first slot items some each.0 (not_some (cause state first files) parts.0) in
    let others =
    subst (λ (mode : Mode). AppendEach mode.version slot (line ∷ lines) groups) (sym one.1.mode_is) each.1 in
    let rest =
    several later files slot line lines groups (still_has state later slot one.0.rows some one.1) others parts.1 in
    both state later (state_after later files (line ∷ lines)) slot items (all_items groups) some one.0 one.1 rest

-- ---- one append of all items

none_holds : (state : State) (slot : ℕ) (items : List (List ℕ)) (rows : List Row) → HasChannel state slot
    → read_items state.mode.width state.scale (length (channels_at state.stores slot)) items ≡ Ok rows
    → samples_in (channels_at state.stores slot) + length items ≤ most_at state slot
    → first_cause (append_conditions state.mode.width state.scale state.stores slot items) ≡ None
none_holds state slot items rows some spelled room =
    let few : nat_lt (most_at state slot) (samples_in (channels_at state.stores slot) + length items) ≡ false =
    grind (arith, nat_tests) in
    rw (open_with_channels (store_at state.stores slot) some, spelled, few) refl

whole_of : (state : State) (files : Files) (slot : ℕ) (items : List (List ℕ)) (rows : List Row) → HasChannel state slot
    → read_items state.mode.width state.scale (length (channels_at state.stores slot)) items ≡ Ok rows
    → samples_in (channels_at state.stores slot) + length items ≤ most_at state slot
    → cause_in (verdict_of state files (Asks (Append slot items))) ≡ None
whole_of state files slot items rows some spelled room = rw (none_holds state slot items rows some spelled room) refl

whole_line : (state : State) (files : Files) (whole : List ℕ) (slot : ℕ) (items : List (List ℕ)) (rows : List Row)
    → HasChannel state slot
    → asked_of state.mode.version whole ≡ Asks (Append slot items)
    → read_items state.mode.width state.scale (length (channels_at state.stores slot)) items ≡ Ok rows
    → samples_in (channels_at state.stores slot) + length items ≤ most_at state slot → cause state whole files ≡ None
unfolding cause verdict
whole_line state files whole slot items rows some asks spelled room =
    ap (λ (a : Asked). cause_in (verdict_of state files a)) asks
    ∙ whole_of state files slot items rows some spelled room

same_rows : (a b : List Row) (r : Result (List Row) ℕ) → r ≡ Ok a → r ≡ Ok b → a ≡ b
same_rows a b r one two = cc

pub appends : AppendsAddUp
unfolding all_items
appends state files slot first lines groups whole some each asks good =
    let all = several state files slot first lines groups some each good in
    let items = all_items groups in
    let n = length (channels_at state.stores slot) in
    let long = length-items state.mode.width state.scale n 1 items all.rows all.rows_are in
    let none =
    whole_line state files whole slot items all.rows some asks all.rows_are
    (omega (arith, long, all.appended.room)) in
    let one = one_line state files whole slot items some asks none in
    let same = same_rows all.rows one.0.rows (read_items state.mode.width state.scale n items) all.rows_are one.0.rows_are in (
      none,
      record {
        window_is = all.appended.window_is ∙ sym one.1.window_is;
        scale_is = all.appended.scale_is ∙ sym one.1.scale_is;
        mode_is = all.appended.mode_is ∙ sym one.1.mode_is;
        begun_is = all.appended.begun_is ∙ sym one.1.begun_is;
        stores_are = all.appended.stores_are ∙ (ap (stores_with state.stores slot) same ∙ sym one.1.stores_are);
      },
    )
