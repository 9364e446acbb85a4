-- What a line asks for lies within its limits.
use Rattle.std.specs.Prelude.{◌≡◌, ℕ, ◌+◌, ◌≤◌, ◌&&◌, ◌||◌, All, Bool, true, false, nat_le, nat_lt, ◌==◌, List, [], ◌∷◌}
use Rattle.std.specs.Prelude.{length}
use Rattle.std.specs.Prelude.{map, slice_index, codes, if◌then◌else◌, Option, Some, None, ok_or, Result, Ok, Err}
use Rattle.std.specs.Prelude.{option_and_then, not}
use Rattle.std.specs.Option.{option_zip}
use Rattle.std.proofs.Common.{zero, suc, refl, ap, subst, arith}
use Rattle.std.proofs.lemmas.Bool.Decides.{nat_tests}
use Rattle.std.proofs.lemmas.List.{length-map}
use Rattle.mp_bytes.specs.Bytes.{number_sign, same_text}
use Rattle.mp_bytes.specs.Digits.{are_digits, number_of, value_of}
use Rattle.mp_bytes.specs.Fields.{fields}
use Rattle.mp_bytes.specs.Lines.{max_line}
use Rattle.mp_bytes.specs.Values.{values_in}
use Rattle.mp_defs.specs.Limits.{max_samples, min_window}
use Rattle.mp_replies.specs.declared.causes.Cause.{Cause}
use Rattle.mp_replies.specs.declared.causes.Cause.TheVariants as cause
use Rattle.mp_replies.specs.declared.refs.Ref.{Ref}
use Rattle.mp_replies.specs.Command.{Command, Session, Advance, Pan, End}
use Rattle.mp_replies.specs.ConsensusCommand.{consensus_fits, consensus_shape}
use Rattle.mp_replies.specs.Limits.{max_channels, max_column, max_count, max_digits, max_factor, max_motifs, max_ranks}
use Rattle.mp_replies.specs.Limits.{max_refs, max_square, min_refs}
use Rattle.mp_replies.specs.LazyCommand.{lazy_by, lazy_shape}
use Rattle.mp_replies.specs.LoadCommand.{header_of, load_shape}
use Rattle.mp_replies.specs.Line.{Nothing, Asks, Faulty, asked_in, asked_of, asks, command_in}
use Rattle.mp_replies.specs.Commands.{Form, forms, made, row, since}
use Rattle.mp_replies.specs.KeepCommand.{keep_by, keep_shape}
use Rattle.mp_replies.specs.MatchCommand.{match_shape}
use Rattle.mp_replies.specs.MotifsCommand.{motif_query, motifs_shape}
use Rattle.mp_replies.specs.Numbers.{all_some, column, columns, count, factor, few, kept, neighbours, number}
use Rattle.mp_replies.specs.Numbers.{onto_some, rank_count}
use Rattle.mp_replies.specs.Numbers.{positive, ref, refs}
use Rattle.mp_replies.specs.Numbers.{squared}
use Rattle.mp_replies.specs.NearestCommand.{nearest_shape}
use Rattle.mp_replies.specs.PanCommand.{are_lengths, lengths, lengths_by, pan_shape}
use Rattle.mp_replies.specs.SegmentsCommand.{segments_shape}
use Rattle.mp_replies.specs.SessionCommand.{is_named, mode_of, session_of, session_with, words_of}
use Rattle.mp_replies.specs.State.{first_version, second_version}
use Rattle.mp_replies.specs.Shapes.{Shape, by_shape, last, no_field, ref_and_count, slot_and_count, ◌&◌}
use Rattle.mp_replies.specs.Laws.{AreColumns, AreLengths, IsCount, IsMotifQuery, IsWithin, LimitsAreKept}

-- ---- numbers

positive_by : (n m : ℕ) (b : Bool) → nat_le 1 n ≡ b → (if b then Some n else None) ≡ Some m → (1 ≤ m) × (n ≡ m)
positive_by n m true is h =
    let same : n ≡ m = cc in
    (subst (λ k. 1 ≤ k) same (grind (arith, nat_tests)), same)
positive_by n m false is h = absurd (cc h)

positive_some : (read : Option ℕ) (n : ℕ) → positive read ≡ Some n → (1 ≤ n) × (read ≡ Some n)
positive_some None n h = absurd (cc h)
positive_some (Some m) n h = let found = positive_by m n (nat_le 1 m) refl h in (found.0, ap Some found.1)

most_by : (most value n : ℕ) (short digits few : Bool) → nat_le value most ≡ few
    → (if short && (digits && few) then Some value else None) ≡ Some n → n ≤ most
most_by most value n true true true is h =
    let same : value ≡ n = cc in subst (λ k. k ≤ most) same (grind (arith, nat_tests))
most_by most value n true true false is h = absurd (cc h)
most_by most value n true false few is h = absurd (cc h)
most_by most value n false digits few is h = absurd (cc h)

at_most : (digits most : ℕ) (text : List ℕ) (n : ℕ) → number_of digits most text ≡ Some n → n ≤ most
at_most digits most text n h =
    most_by most (value_of text) n (nat_le (length text) digits) (are_digits text) (nat_le (value_of text) most) refl h

-- ---- what is read

-- what a reader finds has a property
abbrev Gives : {A B : Type 0} → (A → Option B) → (B → Type 0) → Type 0
Gives {A} {B} read P = (from : A) (found : B) → read from ≡ Some found → P found

counts : Gives count (IsCount max_count)
counts text n h =
    let found = positive_some (number_of max_digits max_count text) n h in
    (found.0, at_most max_digits max_count text n found.1)

fews : Gives few (IsCount max_motifs)
fews text n h =
    let found = positive_some (number_of max_digits max_motifs text) n h in
    (found.0, at_most max_digits max_motifs text n found.1)

rank_counts : Gives rank_count (IsCount max_ranks)
rank_counts text n h =
    let found = positive_some (number_of max_digits max_ranks text) n h in
    (found.0, at_most max_digits max_ranks text n found.1)

kept_by : (n m : ℕ) (b : Bool) → nat_le min_window n ≡ b → (if b then Some n else None) ≡ Some m
    → (min_window ≤ m) × (n ≡ m)
kept_by n m true is h =
    let same : n ≡ m = cc in
    (subst (λ k. min_window ≤ k) same (grind (arith, nat_tests)), same)
kept_by n m false is h = absurd (cc h)

kept_some : (read : Option ℕ) (n : ℕ)
    → option_and_then (λ (k : ℕ). if nat_le min_window k then Some k else None) read ≡ Some n
    → (min_window ≤ n) × (read ≡ Some n)
kept_some None n h = absurd (cc h)
kept_some (Some m) n h = let found = kept_by m n (nat_le min_window m) refl h in (found.0, ap Some found.1)

-- how many samples are kept
keeps : Gives kept (λ n. (min_window ≤ n) × (n ≤ max_samples))
keeps text n h =
    let found = kept_some (number_of max_digits max_samples text) n h in
    (found.0, at_most max_digits max_samples text n found.1)

squares : Gives squared (λ n. n ≤ max_square)
squares = at_most max_digits max_square

last_gives : {A : Type 0} (read : List ℕ → Option A) (P : A → Type 0) → Gives read P → Gives (last read) P
last_gives read P h (field ∷ []) found e = h field found e
last_gives read P h others found e = absurd (cc e)

zip_gives : {A B : Type 0} (P : A → Type 0) (Q : B → Type 0) (first : Option A) (rest : Option B)
    → ((a : A) → first ≡ Some a → P a) → ((b : B) → rest ≡ Some b → Q b)
    → (found : A × B) → option_zip first rest ≡ Some found → P found.0 × Q found.1
zip_gives P Q None rest one others found e = absurd (cc e)
zip_gives P Q (Some a) None one others found e = absurd (cc e)
zip_gives {A} {B} P Q (Some a) (Some b) one others found e =
    let pair : A × B = (a, b) in
    let same : pair ≡ found = cc in
    subst (λ (p : A × B). P p.0 × Q p.1) same (one a refl, others b refl)

and_gives : {A B : Type 0} (first : List ℕ → Option A) (rest : List (List ℕ) → Option B)
    (P : A → Type 0) (Q : B → Type 0)
    → Gives first P → Gives rest Q → Gives (first & rest) (λ (found : A × B). P found.0 × Q found.1)
and_gives first rest P Q one others [] found e = absurd (cc e)
and_gives first rest P Q one others (field ∷ fields) found e =
    zip_gives P Q (first field) (rest fields) (one field) (others fields) found e

-- a field with no limit stands before the others
behind : {A B : Type 0} (first : List ℕ → Option A) (rest : List (List ℕ) → Option B) (Q : B → Type 0) → Gives rest Q
    → Gives (first & rest) (λ (found : A × B). Q found.1)
behind first rest Q others fields found e =
    (and_gives first rest (λ _. Unit {0}) Q (λ text a is. tt) others fields found e).1

-- ---- what limited fields give

keep_gives : Gives keep_shape.read (λ found. (min_window ≤ found.1) × (found.1 ≤ max_samples))
keep_gives =
    behind number (last kept) (λ n. (min_window ≤ n) × (n ≤ max_samples))
    (last_gives kept (λ n. (min_window ≤ n) × (n ≤ max_samples)) keeps)

nearest_gives : Gives nearest_shape.read (λ found. IsCount max_ranks found.1)
nearest_gives =
    behind ref (last rank_count) (IsCount max_ranks) (last_gives rank_count (IsCount max_ranks) rank_counts)

lengths_by_test : (lo hi : ℕ) (there : Bool) (found : ℕ × ℕ) → are_lengths lo hi ≡ there
    → (if there then Some (lo, hi) else None) ≡ Some found → AreLengths found.0 found.1
lengths_by_test lo hi true found is e =
    let pair : ℕ × ℕ = (lo, hi) in
    let same : pair ≡ found = cc in
    let least : nat_le min_window lo ≡ true = grind (arith, nat_tests) in
    subst (λ (p : ℕ × ℕ). AreLengths p.0 p.1) same (record {
      least = grind (arith, nat_tests);
      ordered = grind (arith, nat_tests);
      greatest = grind (arith, nat_tests);
      few = grind (arith, nat_tests);
    })
lengths_by_test lo hi false found is e = absurd (cc e)

lengths_some : (read : Option (ℕ × ℕ)) (found : ℕ × ℕ) → option_and_then lengths_by read ≡ Some found
    → AreLengths found.0 found.1
lengths_some None found e = absurd (cc e)
lengths_some (Some (lo, hi)) found e = lengths_by_test lo hi (are_lengths lo hi) found refl e

pan_gives : Gives pan_shape.read (λ found. AreLengths found.1.0 found.1.1)
pan_gives =
    behind ref lengths (λ found. AreLengths found.0 found.1)
    (λ fields found e. lengths_some ((number & last number) fields) found e)

match_gives : Gives match_shape.read (λ found. (found.1.1.1.0 ≤ max_square) × IsCount max_count found.1.1.1.1)
match_gives =
    behind ref (ref & number & squared & last count)
    (λ found. (found.1.1.0 ≤ max_square) × IsCount max_count found.1.1.1)
    (behind ref (number & squared & last count) (λ found. (found.1.0 ≤ max_square) × IsCount max_count found.1.1)
    (behind number (squared & last count) (λ found. (found.0 ≤ max_square) × IsCount max_count found.1)
    (and_gives squared (last count) (λ n. n ≤ max_square) (IsCount max_count) squares
    (last_gives count (IsCount max_count) counts))))

motifs_gives :
    Gives motifs_shape.read
    (λ found.
    IsMotifQuery (motif_query found.1.0 found.1.1.0 found.1.1.1.0 found.1.1.1.1.0 found.1.1.1.1.1))
motifs_gives =
    behind ref (few & squared & squared & neighbours & last few)
    (λ found. IsMotifQuery (motif_query found.0 found.1.0 found.1.1.0 found.1.1.1.0 found.1.1.1.1))
    (and_gives few (squared & squared & neighbours & last few) (IsCount max_motifs)
    (λ found.
    (found.0 ≤ max_square)
    × ((found.1.0 ≤ max_square)
    × ((found.1.1.0 ≤ max_count)
    × IsCount max_motifs found.1.1.1)))
    fews
    (and_gives squared (squared & neighbours & last few) (λ n. n ≤ max_square)
    (λ found. (found.0 ≤ max_square) × ((found.1.0 ≤ max_count) × IsCount max_motifs found.1.1)) squares
    (and_gives squared (neighbours & last few) (λ n. n ≤ max_square)
    (λ found. (found.0 ≤ max_count) × IsCount max_motifs found.1) squares
    (and_gives neighbours (last few) (λ n. n ≤ max_count) (IsCount max_motifs) (at_most max_digits max_count)
    (last_gives few (IsCount max_motifs) fews)))))

discords_gives : Gives ref_and_count.read (λ found. IsCount max_count found.1)
discords_gives = behind ref (last count) (IsCount max_count) (last_gives count (IsCount max_count) counts)

segments_gives : Gives segments_shape.read (λ found. IsCount max_count found.1.0 × (found.1.1 ≤ max_factor))
segments_gives =
    behind ref (count & last factor) (λ found. IsCount max_count found.0 × (found.1 ≤ max_factor))
    (and_gives count (last factor) (IsCount max_count) (λ n. n ≤ max_factor) counts
    (last_gives factor (λ n. n ≤ max_factor) (at_most max_digits max_factor)))

-- ---- lists

-- as long as what was read
onto_long : {A : Type 0} (x : A) (others : Option (List A)) (ys : List A) (many : ℕ)
    → onto_some (Some x) others ≡ Some ys
    → ((more : List A) → others ≡ Some more → length more ≡ many) → length ys ≡ many + 1
onto_long x None ys many h rest = absurd (cc h)
onto_long x (Some more) ys many h rest =
    let whole : x ∷ more ≡ ys = cc in
    omega (arith, ap length whole, rest more refl)

pub all_long : {A : Type 0} (xs : List (Option A)) (ys : List A) → all_some xs ≡ Some ys → length ys ≡ length xs
all_long [] [] h = refl
all_long [] (y ∷ ys) h = absurd (cc h)
all_long (None ∷ xs) ys h = absurd (cc h)
all_long (Some x ∷ xs) ys h =
    let long = onto_long x (all_some xs) ys (length xs) h (λ more is. all_long xs more is) in
    omega (arith, long)

-- ---- a list of columns

first_holds : (P : ℕ → Type 0) (x : ℕ) (xs : List ℕ) → P x → All P xs → All P (x ∷ xs)
first_holds P x xs first others zero d within = first
first_holds P x xs first others (suc k) d within = others k d (omega (arith, within))

onto_all : (P : ℕ → Type 0) (read : Option ℕ) (others : Option (List ℕ)) (ys : List ℕ)
    → onto_some read others ≡ Some ys → ((n : ℕ) → read ≡ Some n → P n)
    → ((more : List ℕ) → others ≡ Some more → All P more) → All P ys
onto_all P None others ys h one rest = absurd (cc h)
onto_all P (Some x) None ys h one rest = absurd (cc h)
onto_all P (Some x) (Some more) ys h one rest =
    let whole : x ∷ more ≡ ys = cc in
    subst (All P) whole (first_holds P x more (one x refl) (rest more refl))

no_column : (ys : List ℕ) → Some [] ≡ Some ys → All (λ column. column ≤ max_column) ys
no_column [] h k d within = absurd (omega (arith, within))
no_column (y ∷ ys) h k d within = absurd (cc h)

all_columns : (texts : List (List ℕ)) (ys : List ℕ) → all_some (map column texts) ≡ Some ys
    → All (λ column. column ≤ max_column) ys
all_columns [] ys h = no_column ys h
all_columns (text ∷ texts) ys h =
    onto_all (λ column. column ≤ max_column) (column text) (all_some (map column texts)) ys h
    (at_most max_digits max_column text) (λ more is. all_columns texts more is)

columns_by : (texts : List (List ℕ)) (ys : List ℕ) (few : Bool) → nat_le (length texts) max_channels ≡ few
    → (if few then all_some (map column texts) else None) ≡ Some ys → AreColumns ys
columns_by texts ys true is h =
    let long = all_long (map column texts) ys h in
    let short : length texts ≤ max_channels = grind (arith, nat_tests) in
    (omega (arith, long, length-map texts column, short), all_columns texts ys h)
columns_by texts ys false is h = absurd (cc h)

columns_give : Gives columns AreColumns
columns_give field ys h =
    columns_by (values_in field) ys (nat_le (length (values_in field)) max_channels) refl h

load_gives : Gives load_shape.read (λ found. AreColumns found.1.1.0)
load_gives =
    behind number (Some & columns & header_of) (λ found. AreColumns found.1.0)
    (behind Some (columns & header_of) (λ found. AreColumns found.0)
    (λ fields found e.
    (and_gives columns header_of AreColumns (λ _. Unit {0}) columns_give (λ text a is. tt) fields found e).0))

lazy_gives : Gives lazy_shape.read (λ found. found.1.1.0 ≤ max_column)
lazy_gives =
    behind number (Some & column & header_of) (λ found. found.1.0 ≤ max_column)
    (behind Some (column & header_of) (λ found. found.0 ≤ max_column)
    (λ fields found e.
    (and_gives column header_of (λ n. n ≤ max_column) (λ _. Unit {0}) (at_most max_digits max_column)
    (λ text a is. tt) fields found e).0))

advance_gives : Gives slot_and_count.read (λ found. IsCount max_count found.1)
advance_gives = behind number (last count) (IsCount max_count) (last_gives count (IsCount max_count) counts)

-- ---- the forms

pub record KeepsLimits (form : Form) : Type 0 where
  pub within : (fields : List (List ℕ)) (command : Command) → form.read fields ≡ Ok command → IsWithin command

shaped : {A : Type 0} (fits : Bool) (read : Option A) (found : A)
    → (if fits then ok_or read cause.Number else Err cause.Fields) ≡ Ok found → (fits ≡ true) × (read ≡ Some found)
shaped true None found e = absurd (cc e)
shaped true (Some a) found e = let same : a ≡ found = cc in (refl, ap Some same)
shaped false read found e = absurd (cc e)

made_within : {A : Type 0} (make : A → Command) (said : Result A Cause) → ((a : A) → said ≡ Ok a → IsWithin (make a))
    → (command : Command) → made make said ≡ Ok command → IsWithin command
made_within make (Err why) h command e = absurd (cc e)
made_within make (Ok a) h command e = let same : make a ≡ command = cc in subst IsWithin same (h a refl)

row_within : {A : Type 0} (word : List ℕ) (shape : Shape A) (make : A → Command)
    → ((fields : List (List ℕ)) (found : A) → shape.fits fields ≡ true → shape.read fields ≡ Some found
    → IsWithin (make found))
    → KeepsLimits (row word shape make)
row_within word shape make h = record {
  within = λ fields.
      made_within make (by_shape shape fields)
      (λ found is.
      let parts = shaped (shape.fits fields) (shape.read fields) found is in
      h fields found parts.0 parts.1);
}

-- a command that has no limits
free : {A : Type 0} (word : List ℕ) (shape : Shape A) (make : A → Command) → ((found : A) → IsWithin (make found))
    → KeepsLimits (row word shape make)
free word shape make h = row_within word shape make (λ fields found fits is. h found)

-- ---- a list of refs

fits_by : (n : ℕ) (some few : Bool) → nat_le min_refs n ≡ some → nat_le n max_refs ≡ few → (some && few) ≡ true
    → (min_refs ≤ n) × (n ≤ max_refs)
fits_by n true true some few h = (grind (arith, nat_tests), grind (arith, nat_tests))
fits_by n true false some few h = absurd (cc h)
fits_by n false few' some few h = absurd (cc h)

refs_within : (fields : List (List ℕ)) (list : List Ref) → consensus_fits fields ≡ true → refs fields ≡ Some list
    → (min_refs ≤ length list) × (length list ≤ max_refs)
refs_within fields list fits is =
    let within =
    fits_by (length fields) (nat_le min_refs (length fields)) (nat_le (length fields) max_refs) refl refl fits in
    let long = all_long (map ref fields) list is in (
      omega (arith, long, length-map fields ref, within.0),
      omega (arith, long, length-map fields ref, within.1),
    )

-- ---- the mode of a session

named_by : (version : ℕ) (plain : Bool)
    → (version == second_version || (version == first_version && plain)) ≡ true
    → (first_version ≤ version) × (version ≤ second_version)
named_by version true h = (grind (arith, nat_tests), grind (arith, nat_tests))
named_by version false h = (grind (arith, nat_tests), grind (arith, nat_tests))

named : (version : ℕ) (wide json there : Bool) (command : Command) → is_named version wide json ≡ there
    → (if there then Ok (Session (mode_of version wide json)) else Err cause.Version) ≡ Ok command
    → IsWithin command
named version wide json true command is e =
    let same : Session (mode_of version wide json) ≡ command = cc in
    subst IsWithin same (named_by version (not (wide || json)) is)
named version wide json false command is e = absurd (cc e)

numbered : (read : Option (ℕ × (Bool × Bool))) (command : Command) → session_with read ≡ Ok command
    → IsWithin command
numbered None command e = absurd (cc e)
numbered (Some (version, (wide, json))) command e =
    named version wide json (is_named version wide json) command refl e

session_within : (fields : List (List ℕ)) (command : Command) → session_of fields ≡ Ok command → IsWithin command
session_within [] command e = absurd (cc e)
session_within (field ∷ words) command e = numbered (option_zip (number field) (words_of words)) command e

-- ---- the table

abbrev AllKeep : List Form → Type 0
AllKeep [] = Unit {0}
AllKeep (form ∷ more) = KeepsLimits form × AllKeep more

-- a pair, of which the second part may be one, too
infixr 50 ◌and◌
abbrev ◌and◌ : {A B : Type 0} → A → B → A × B
◌and◌ a b = (a, b)

unless_early : (there : Bool) (read : Result Command Cause) (command : Command)
    → (read ≡ Ok command → IsWithin command) → (if there then read else Err cause.Unknown) ≡ Ok command
    → IsWithin command
unless_early true read command h e = h e
unless_early false read command h e = absurd (cc e)

since_within : (first version : ℕ) (form : Form) → KeepsLimits form → KeepsLimits (since first version form)
since_within first version form h = record {
  within = λ fields command.
      unless_early (nat_le first version) (form.read fields) command (h.within fields command);
}

keep_within : (found : ℕ × ℕ) → (min_window ≤ found.1) × (found.1 ≤ max_samples)
    → IsWithin (keep_by found)
keep_within (slot, keep) h = h

lazy_within : (found : ℕ × (List ℕ × (ℕ × Bool))) → found.1.1.0 ≤ max_column → IsWithin (lazy_by found)
lazy_within (slot, (file, (column, header))) h = h

advance_within : (found : ℕ × ℕ) → IsCount max_count found.1
    → IsWithin ((λ (p : ℕ × ℕ). Advance p.0 p.1) found)
advance_within (slot, most) h = h

pan_within : (found : Ref × (ℕ × ℕ)) → AreLengths found.1.0 found.1.1
    → IsWithin ((λ (p : Ref × (ℕ × ℕ)). Pan p.0 p.1.0 p.1.1) found)
pan_within (at, (lo, hi)) h = h

forms_within : (version : ℕ) → AllKeep (forms version)
forms_within version =
    record { within = session_within }
    and free (codes "open") _ _ (λ _. tt)
    and since_within second_version version (row (codes "keep") keep_shape keep_by)
    (row_within (codes "keep") keep_shape _ (λ fields found fits is. keep_within found (keep_gives fields found is)))
    and row_within (codes "load") load_shape _ (λ fields found fits is. load_gives fields found is)
    and row_within (codes "lazy") lazy_shape _ (λ fields found fits is. lazy_within found (lazy_gives fields found is))
    and free (codes "append") _ _ (λ _. tt)
    and row_within (codes "advance") slot_and_count _
    (λ fields found fits is. advance_within found (advance_gives fields found is))
    and free (codes "partial") _ _ (λ _. tt)
    and free (codes "window") _ _ (λ _. tt)
    and free (codes "profile") _ _ (λ _. tt)
    and free (codes "entry") _ _ (λ _. tt)
    and free (codes "join") _ _ (λ _. tt)
    and free (codes "multi") _ _ (λ _. tt)
    and row_within (codes "nearest") nearest_shape _ (λ fields found fits is. nearest_gives fields found is)
    and row_within (codes "pan") pan_shape _ (λ fields found fits is. pan_within found (pan_gives fields found is))
    and row_within (codes "match") match_shape _ (λ fields found fits is. match_gives fields found is)
    and row_within (codes "motifs") motifs_shape _ (λ fields found fits is. motifs_gives fields found is)
    and row_within (codes "discords") ref_and_count _ (λ fields found fits is. discords_gives fields found is)
    and free (codes "chain") _ _ (λ _. tt)
    and free (codes "chains") _ _ (λ _. tt)
    and row_within (codes "segments") segments_shape _ (λ fields found fits is. segments_gives fields found is)
    and free (codes "mpdist") _ _ (λ _. tt)
    and row_within (codes "consensus") consensus_shape _ refs_within
    and free (codes "end") no_field (λ _. End) (λ _. tt)
    and tt

-- ---- a line

worded : (same : Bool) (form : Form) (more : List Form) (word : List ℕ) (others : List (List ℕ)) (command : Command)
    → KeepsLimits form → (command_in more word others ≡ Ok command → IsWithin command)
    → (if same then form.read others else command_in more word others) ≡ Ok command → IsWithin command
worded true form more word others command h rest e = h.within others command e
worded false form more word others command h rest e = rest e

in_forms : (some : List Form) (word : List ℕ) (others : List (List ℕ)) (command : Command) → AllKeep some
    → command_in some word others ≡ Ok command → IsWithin command
in_forms [] word others command h e = absurd (cc e)
in_forms (form ∷ more) word others command h e =
    worded (same_text word form.word) form more word others command h.0
    (in_forms more word others command h.1) e

asked_by_result : (read : Result Command Cause) (command : Command) → asks read ≡ Asks command → read ≡ Ok command
asked_by_result (Ok c) command e = let same : c ≡ command = cc in ap Ok same
asked_by_result (Err why) command e = absurd (cc e)

unless_comment : (comment : Bool) (read : Result Command Cause) (command : Command)
    → (if comment then Nothing else asks read) ≡ Asks command → read ≡ Ok command
unless_comment true read command e = absurd (cc e)
unless_comment false read command e = asked_by_result read command e

asked_within : (version : ℕ) (all : List (List ℕ)) (command : Command) → asked_in version all ≡ Asks command
    → IsWithin command
asked_within version [] command e = absurd (cc e)
asked_within version (word ∷ others) command e =
    in_forms (forms version) word others command (forms_within version)
    (unless_comment (slice_index word 0 == number_sign) (command_in (forms version) word others) command e)

unless_long : (long : Bool) (version : ℕ) (all : List (List ℕ)) (command : Command)
    → (if long then Faulty cause.Long else asked_in version all) ≡ Asks command → IsWithin command
unless_long true version all command e = absurd (cc e)
unless_long false version all command e = asked_within version all command e

pub limits_kept : LimitsAreKept
unfolding asked_of
limits_kept version line command e = unless_long (nat_lt max_line (length line)) version (fields line) command e
