-- What clap makes of words of the grammar.
use Rattle.std.proofs.Common.{◌≡◌, ℕ, suc, ◌+◌, Bool, true, false, cond, List, [], ◌∷◌, ◌++◌, drop, length, map}
use Rattle.std.proofs.Common.{take}
use Rattle.std.proofs.Common.{refl, sym, ap, ap₂, ◌∙◌, subst, append-nil, append_assoc, arith, codes, eqb-true}
use Rattle.std.specs.Prelude.{◌&&◌, ◌||◌, not, ◌==◌, find, fold, nat_le, Option, Some, None, option_map}
use Rattle.std.specs.Prelude.{option_and_then}
use Rattle.std.specs.Prelude.{if◌then◌else◌, slice_get}
use Rattle.std.specs.Char.{is_ascii_digit}
use Rattle.std.specs.List.{after_first, before_first, list_all, list_any, position_or_len}
use Rattle.std.specs.Str.{bytes_eq}
use Rattle.std.proofs.lemmas.Bool.{false≢true}
use Rattle.std.proofs.lemmas.Slice.Eq.{bytes_eq-Decides}
use Rattle.clap.proofs.OnLiterals.{clap_on_literals}
use Rattle.clap.proofs.WalkLemmas.{first_value-rows}
use Rattle.clap.specs.Lexer.{long_of, short_of}
use Rattle.clap.specs.Matches.{found_of}
use Rattle.clap.specs.Simple.{App, HasMatchesOf, built, filled, is_simple, matches_of, names_of, with_index}
use Rattle.clap.specs.Walk.{Held, Names, Row, Rule, Walk, arg_by_id, arg_by_long, at_row, finished, first_of, has_row}
use Rattle.clap.specs.Walk.{more_values, nothing_held, option}
use Rattle.clap.specs.Walk.{reacted, rows_of, settled, settled_rows, used, walk_from, walked, with_default}
use Rattle.clap.specs.Walk.{with_values}
use Rattle.clap.specs.Walk.{used_by_id, walk}
use Rattle.clap.specs.declared.builder.value_parser.Reading.TheVariants.{AsWritten}
use Rattle.clap.specs.declared.parser.matches.ArgMatches.{ArgMatches}
use Rattle.clap.specs.declared.parser.matches.ValueSource.TheVariants.{CommandLine}
use Rattle.mp_bytes.specs.Bytes.{same_text}
use Rattle.mp_bytes.specs.Digits.{are_digits, value_of}
use Rattle.mp_replies.specs.Limits.{max_number, max_word_digits}
use Rattle.mp_replies.specs.Numbers.{onto_some}
use Rattle.mp_replies.specs.Words.{Given, are_options, given, given_in, given_of, has_equals, is_equals, is_named}
use Rattle.mp_replies.specs.Words.{is_option}
use Rattle.mp_replies.specs.Words.{number_for, word_number}
use Rattle.mp_words.specs.Numbers.{numbers_in}
use Rattle.mp_words.specs.Options.{number_found, numbers_found, option_rule, words_app}
use Rattle.mp_words.proofs.GivenLemmas.{same_text_sym}

abbrev Text : Type 0
Text = List ℕ

-- ---- the command as it is built

abbrev rule : Text → Rule
rule id = with_index 1 (filled (option_rule id))

abbrev rules : List Rule
rules = rule (codes "window") ∷ rule (codes "scale") ∷ rule (codes "tile") ∷ rule (codes "workers")
    ∷ rule (codes "generate") ∷ rule (codes "count") ∷ []

rules_are : (built words_app).top.rules ≡ rules
unfolding clap_on_literals
rules_are = refl

no_names : names_of (built words_app) ≡ []
unfolding clap_on_literals
no_names = refl

pub words_are_simple : is_simple words_app ≡ true
unfolding clap_on_literals
words_are_simple = refl

-- ---- names

record IsKnown (name : Text) : Type 0 where
  id : Text
  first : ℕ
  rest : Text
  name_is : name ≡ 45 ∷ 45 ∷ id
  id_is : id ≡ first ∷ rest
  by_long : arg_by_long rules id ≡ Some (rule id)
  by_id : arg_by_id rules id ≡ Some (rule id)
  alone : long_of name ≡ Some (id, None)
  no_dashes : bytes_eq name (45 ∷ 45 ∷ []) ≡ false
  itself : bytes_eq id id ≡ true

either : (P : Type 0) (a b : Bool) → (a ≡ true → P) → (b ≡ true → P) → (a || b) ≡ true → P
either P true b f g e = f refl
either P false b f g e = g e

is_text : (a b : Text) → same_text a b ≡ true → a ≡ b
is_text a b e = (bytes_eq-Decides a b).0 e

known_window : IsKnown (codes "--window")
unfolding clap_on_literals
known_window = record {
  id = codes "window";
  first = 119;
  rest = codes "indow";
  name_is = refl;
  id_is = refl;
  by_long = refl;
  by_id = refl;
  alone = refl;
  no_dashes = refl;
  itself = refl;
}

known_scale : IsKnown (codes "--scale")
unfolding clap_on_literals
known_scale = record {
  id = codes "scale";
  first = 115;
  rest = codes "cale";
  name_is = refl;
  id_is = refl;
  by_long = refl;
  by_id = refl;
  alone = refl;
  no_dashes = refl;
  itself = refl;
}

known_tile : IsKnown (codes "--tile")
unfolding clap_on_literals
known_tile = record {
  id = codes "tile";
  first = 116;
  rest = codes "ile";
  name_is = refl;
  id_is = refl;
  by_long = refl;
  by_id = refl;
  alone = refl;
  no_dashes = refl;
  itself = refl;
}

known_workers : IsKnown (codes "--workers")
unfolding clap_on_literals
known_workers = record {
  id = codes "workers";
  first = 119;
  rest = codes "orkers";
  name_is = refl;
  id_is = refl;
  by_long = refl;
  by_id = refl;
  alone = refl;
  no_dashes = refl;
  itself = refl;
}

known_generate : IsKnown (codes "--generate")
unfolding clap_on_literals
known_generate = record {
  id = codes "generate";
  first = 103;
  rest = codes "enerate";
  name_is = refl;
  id_is = refl;
  by_long = refl;
  by_id = refl;
  alone = refl;
  no_dashes = refl;
  itself = refl;
}

known_count : IsKnown (codes "--count")
unfolding clap_on_literals
known_count = record {
  id = codes "count";
  first = 99;
  rest = codes "ount";
  name_is = refl;
  id_is = refl;
  by_long = refl;
  by_id = refl;
  alone = refl;
  no_dashes = refl;
  itself = refl;
}

known : (name : Text) → is_option name ≡ true → IsKnown name
known name =
    let P = IsKnown name in
    either P _ _ (λ e. subst IsKnown (sym (is_text name (codes "--window") e)) known_window)
    (either P _ _ (λ e. subst IsKnown (sym (is_text name (codes "--scale") e)) known_scale)
    (either P _ _ (λ e. subst IsKnown (sym (is_text name (codes "--tile") e)) known_tile)
    (either P _ _ (λ e. subst IsKnown (sym (is_text name (codes "--workers") e)) known_workers)
    (either P _ _ (λ e. subst IsKnown (sym (is_text name (codes "--generate") e)) known_generate)
    (either P _ _ (λ e. subst IsKnown (sym (is_text name (codes "--count") e)) known_count)
    (λ e. absurd (false≢true e)))))))

-- ---- rows

abbrev row : Text → Text → Row
row id value = record { id = id; values = value ∷ []; count = None; source = Some CommandLine; reading = AsWritten }

absent_step : (id : Text) (change : Row → List Row) (missing : List Row) (b : Bool) (r : Row) (rows : List Row)
    → (b || has_row id rows) ≡ false → (has_row id rows ≡ false → at_row id change missing rows ≡ rows ++ missing)
    → (if b then change r ++ rows else r ∷ at_row id change missing rows) ≡ r ∷ (rows ++ missing)
absent_step id change missing true r rows h later = absurd (false≢true (sym h))
absent_step id change missing false r rows h later = ap (λ (rs : List Row). r ∷ rs) (later h)

at_absent : (id : Text) (change : Row → List Row) (missing rows : List Row) → has_row id rows ≡ false
    → at_row id change missing rows ≡ rows ++ missing
at_absent id change missing [] h = refl
at_absent id change missing (r ∷ rows) h =
    absent_step id change missing (bytes_eq r.id id) r rows h (at_absent id change missing rows)

used_fresh : (id value : Text) (rows : List Row) → has_row id rows ≡ false
    → used (rule id) (value ∷ []) rows ≡ rows ++ row id value ∷ []
used_fresh id value rows h =
    ap (with_values id AsWritten CommandLine (value ∷ [])) (at_absent id (λ _. []) [] rows h ∙ append-nil rows)
    ∙ at_absent id (more_values CommandLine (value ∷ [])) (row id value ∷ []) rows h

-- ---- the walk

walk_attached : (h : Held) (word id value : Text) → bytes_eq word (45 ∷ 45 ∷ []) ≡ false
    → long_of word ≡ Some (id, Some value) → arg_by_long rules id ≡ Some (rule id)
    → walked rules [] (walk_from h) word ≡ walk_from (reacted rules (rule id) (value ∷ []) h)
unfolding walked
walk_attached h word id value dashes long found = rw (dashes, long, found) refl

abbrev waiting_at : Text → Held → Held
waiting_at id h = record (settled rules h) { pending = Some (id, []) }

walk_named : (h : Held) (word id : Text) → bytes_eq word (45 ∷ 45 ∷ []) ≡ false
    → long_of word ≡ Some (id, None) → arg_by_long rules id ≡ Some (rule id)
    → walked rules [] (walk_from h) word ≡ record (walk_from (waiting_at id h)) { waiting = option id }
unfolding walked
walk_named h word id dashes long found = rw (dashes, long, found) refl

walk_value : (h : Held) (id value : Text) → bytes_eq value (45 ∷ 45 ∷ []) ≡ false → long_of value ≡ None
    → short_of value ≡ None → arg_by_id rules id ≡ Some (rule id) → bytes_eq id id ≡ true
    → walked rules [] (record (walk_from (waiting_at id h)) { waiting = option id }) value
    ≡ walk_from (record (settled rules h) { pending = Some (id, value ∷ []) })
unfolding walked
walk_value h id value dashes long short found itself = rw (dashes, long, short, found, itself) refl

-- ---- a word with a value of its own

peel_by : (sign : Bool) (b : ℕ) (text : Text) (x : ℕ) (rest : Text)
    → take (cond (not sign) (1 + position_or_len is_equals text) 0) (b ∷ text) ≡ x ∷ rest
    → (b ≡ x) × (before_first is_equals text ≡ rest)
    × (drop (cond (not sign) (1 + position_or_len is_equals text) 0 + 1) (b ∷ text) ≡ after_first is_equals text)
    × ((sign || has_equals text) ≡ has_equals text)
peel_by true b text x rest h = cc
peel_by false b text x rest h =
    let k = position_or_len is_equals text in
    let one : 1 + k ≡ suc k = omega arith in
    let two : 1 + k + 1 ≡ suc (k + 1) = omega arith in
    let front : b ∷ take k text ≡ x ∷ rest = ap (λ n. take n (b ∷ text)) (sym one) ∙ h in
    (cc, cc, ap (λ n. drop n (b ∷ text)) two, refl)

record Peeled (text : Text) (x : ℕ) (rest : Text) : Type 0 where
  behind : Text
  text_is : text ≡ x ∷ behind
  before_is : before_first is_equals behind ≡ rest
  after_is : after_first is_equals text ≡ after_first is_equals behind
  signs_are : has_equals text ≡ has_equals behind

peel : (text : Text) (x : ℕ) (rest : Text) → before_first is_equals text ≡ x ∷ rest → Peeled text x rest
peel [] x rest h = cc
peel (b ∷ text) x rest h =
    let p = peel_by (is_equals b) b text x rest h in
    record { behind = text; text_is = ap (λ c. c ∷ text) p.0; before_is = p.1; after_is = p.2; signs_are = p.3 }

-- such a word as clap sees it
attached_word : (word id : Text) (first : ℕ) (rest : Text) → id ≡ first ∷ rest
    → before_first is_equals word ≡ 45 ∷ 45 ∷ id → has_equals word ≡ true
    → (long_of word ≡ Some (id, Some (after_first is_equals word))) × (bytes_eq word (45 ∷ 45 ∷ []) ≡ false)
attached_word word id first rest id_is before sign =
    let one = peel word 45 (45 ∷ id) before in
    let two = peel one.behind 45 id one.before_is in
    let three = peel two.behind first rest (two.before_is ∙ id_is) in
    let word_is : word ≡ 45 ∷ 45 ∷ first ∷ three.behind =
    one.text_is ∙ ap (λ (t : Text). 45 ∷ t) (two.text_is ∙ ap (λ (t : Text). 45 ∷ t) three.text_is) in
    let name : before_first is_equals (first ∷ three.behind) ≡ id =
    ap (before_first is_equals) (sym three.text_is) ∙ two.before_is in
    let signed : has_equals (first ∷ three.behind) ≡ true =
    ap has_equals (sym three.text_is) ∙ sym two.signs_are ∙ sym one.signs_are ∙ sign in
    let value : after_first is_equals (first ∷ three.behind) ≡ after_first is_equals word =
    ap (after_first is_equals) (sym three.text_is) ∙ sym two.after_is ∙ sym one.after_is in (
      ap long_of word_is
          ∙ ap (λ (v : Option Text). Some (before_first is_equals (first ∷ three.behind), v))
          (ap (λ b. if b then Some (after_first is_equals (first ∷ three.behind)) else None) signed ∙ ap Some value)
          ∙ ap (λ (t : Text). Some (t, Some (after_first is_equals word))) name,
      ap (λ (t : Text). bytes_eq t (45 ∷ 45 ∷ [])) word_is,
    )

-- ---- a value

digits_by : (short are small : Bool) (k n : ℕ)
    → (if short && (are && small) then Some k else None) ≡ Some n → are ≡ true
digits_by false are small k n e = cc
digits_by true false small k n e = cc
digits_by true true small k n e = refl

and_left : (a b : Bool) → (a && b) ≡ true → a ≡ true
and_left true b e = refl
and_left false b e = e

and_right : (a b : Bool) → (a && b) ≡ true → b ≡ true
and_right true b e = e
and_right false b e = absurd (false≢true e)

dash_by : (b : ℕ) (dash : Bool) → (b == 45) ≡ dash → is_ascii_digit b ≡ true → (b == 45) ≡ false
dash_by b true e digit =
    absurd (false≢true (sym (ap is_ascii_digit (eqb-true b 45 e)) ∙ digit))
dash_by b false e digit = e

record IsPlain (value : Text) : Type 0 where
  long : long_of value ≡ None
  short : short_of value ≡ None
  dashes : bytes_eq value (45 ∷ 45 ∷ []) ≡ false

plain_value : (value : Text) (n : ℕ) → word_number value ≡ Some n → IsPlain value
plain_value [] n e = cc
plain_value (b ∷ value) n e =
    let digits =
    digits_by (nat_le (length (b ∷ value)) max_word_digits) (are_digits (b ∷ value))
    (nat_le (value_of (b ∷ value)) max_number) (value_of (b ∷ value)) n e in
    let none = dash_by b (b == 45) refl (and_left (is_ascii_digit b) (list_all is_ascii_digit value) digits) in
    record { long = rw none refl; short = rw none refl; dashes = rw none refl }

-- ---- all words

-- the name and the value of each option
abbrev Uses : Type 0
Uses = List (Text × Text)

abbrev Match : Uses → List Given → Type 0
Match [] [] = Unit {0}
Match [] (o ∷ options) = ⊥
Match (u ∷ uses) [] = ⊥
Match (u ∷ uses) (o ∷ options) = (o.name ≡ u.0) × (word_number u.1 ≡ Some o.number) × Match uses options

abbrev rows_behind : Uses → List Row → List Row
rows_behind [] rows = rows
rows_behind (u ∷ uses) rows = rows_behind uses (used (rule (drop 2 u.0)) (u.1 ∷ []) rows)

-- the rows that are held, once what waits has its value
abbrev rows_held : Held → List Row
rows_held h = settled_rows rules h.pending h.rows

record Walked (words : List Text) (options : List Given) (h : Held) : Type 0 where
  uses : Uses
  later : Held
  walk_is : fold (walked rules []) (walk_from h) words ≡ walk_from later
  rows_are : rows_held later ≡ rows_behind uses (rows_held h)
  same : Match uses options

abbrev Walks : List Text → Type 0
Walks words = (options : List Given) (h : Held) → given words ≡ Some options → are_options options ≡ true
    → Walked words options h

record Onto (o : Option Given) (more : Option (List Given)) (options : List Given) : Type 0 where
  first : Given
  others : List Given
  first_is : o ≡ Some first
  others_are : more ≡ Some others
  options_are : first ∷ others ≡ options

onto : (o : Option Given) (more : Option (List Given)) (options : List Given) → onto_some o more ≡ Some options
    → Onto o more options
onto None more options e = cc
onto (Some g) None options e = cc
onto (Some g) (Some gs) options e =
    record { first = g; others = gs; first_is = refl; others_are = refl; options_are = cc }

value_by : (name : Text) (n : Option ℕ) (g : Given)
    → option_map (λ (k : ℕ). record { name = name; number = k }) n ≡ Some g → (g.name ≡ name) × (n ≡ Some g.number)
value_by name None g e = cc
value_by name (Some n) g e =
    let same : record { name = name; number = n } ≡ g = cc in
    (ap (λ (x : Given). x.name) (sym same), ap (λ (x : Given). Some x.number) same)

attached_step : (word : Text) (words : List Text) → Walks words → (options : List Given) (h : Held)
    → has_equals word ≡ true → onto_some (given_in word) (given words) ≡ Some options → are_options options ≡ true
    → Walked (word ∷ words) options h
attached_step word words behind options h sign e known_all =
    let value = after_first is_equals word in
    let s = onto (given_in word) (given words) options e in
    let all : are_options (s.first ∷ s.others) ≡ true = ap are_options s.options_are ∙ known_all in
    let v = value_by (before_first is_equals word) (word_number value) s.first s.first_is in
    let name = known s.first.name (and_left (is_option s.first.name) _ all) in
    let seen = attached_word word name.id name.first name.rest name.id_is (sym v.0 ∙ name.name_is) sign in
    let next = reacted rules (rule name.id) (value ∷ []) h in
    let rest = behind s.others next s.others_are (and_right _ _ (and_right _ _ all)) in
    subst (λ (os : List Given). Walked (word ∷ words) os h) s.options_are record {
      uses = (s.first.name, value) ∷ rest.uses;
      later = rest.later;
      walk_is = ap (λ (w : Walk). fold (walked rules []) w words)
          (walk_attached h word name.id value seen.1 seen.0 name.by_long) ∙ rest.walk_is;
      rows_are = rest.rows_are
          ∙ ap (λ (id : Text). rows_behind rest.uses (used (rule id) (value ∷ []) (rows_held h)))
          (ap (drop 2) (sym name.name_is));
      same = (refl, v.1, rest.same);
    }

named_step : (word value : Text) (words : List Text) → Walks words → (options : List Given) (h : Held)
    → onto_some (given_of word value) (given words) ≡ Some options → are_options options ≡ true
    → Walked (word ∷ value ∷ words) options h
named_step word value words behind options h e known_all =
    let s = onto (given_of word value) (given words) options e in
    let all : are_options (s.first ∷ s.others) ≡ true = ap are_options s.options_are ∙ known_all in
    let v = value_by word (word_number value) s.first s.first_is in
    let name = known s.first.name (and_left (is_option s.first.name) _ all) in
    let dashes = ap (λ (t : Text). bytes_eq t (45 ∷ 45 ∷ [])) (sym v.0) ∙ name.no_dashes in
    let long = ap long_of (sym v.0) ∙ name.alone in
    let plain = plain_value value s.first.number v.1 in
    let next = record (settled rules h) { pending = Some (name.id, value ∷ []) } in
    let rest = behind s.others next s.others_are (and_right _ _ (and_right _ _ all)) in
    subst (λ (os : List Given). Walked (word ∷ value ∷ words) os h) s.options_are record {
      uses = (s.first.name, value) ∷ rest.uses;
      later = rest.later;
      walk_is = ap (λ (w : Walk). fold (walked rules []) (walked rules [] w value) words)
          (walk_named h word name.id dashes long name.by_long)
          ∙ ap (λ (w : Walk). fold (walked rules []) w words)
          (walk_value h name.id value plain.dashes plain.long plain.short name.by_id name.itself)
          ∙ rest.walk_is;
      rows_are = rest.rows_are
          ∙ ap (λ (a : Option Rule). rows_behind rest.uses (used_by_id a (value ∷ []) (rows_held h))) name.by_id
          ∙ ap (λ (id : Text). rows_behind rest.uses (used (rule id) (value ∷ []) (rows_held h)))
          (ap (drop 2) (sym name.name_is));
      same = (refl, v.1, rest.same);
    }

no_words : Walks []
no_words [] h e known_all = record { uses = []; later = h; walk_is = refl; rows_are = refl; same = tt }
no_words (o ∷ options) h e known_all = cc

one_word : (word : Text) (b : Bool) → has_equals word ≡ b → (options : List Given) (h : Held)
    → (if b then onto_some (given_in word) (Some []) else None) ≡ Some options → are_options options ≡ true
    → Walked (word ∷ []) options h
one_word word true sign options h e known_all = attached_step word [] no_words options h sign e known_all
one_word word false sign options h e known_all = cc

more_words : (word next : Text) (words : List Text) → Walks (next ∷ words) → Walks words → (b : Bool)
    → has_equals word ≡ b → (options : List Given) (h : Held)
    → (if b then onto_some (given_in word) (given (next ∷ words)) else onto_some (given_of word next) (given words))
    ≡ Some options → are_options options ≡ true → Walked (word ∷ next ∷ words) options h
more_words word next words one two true sign options h e known_all =
    attached_step word (next ∷ words) one options h sign e known_all
more_words word next words one two false sign options h e known_all =
    named_step word next words two options h e known_all

walks : (words : List Text) → Walks words
walks [] = no_words
walks (word ∷ []) = one_word word (has_equals word) refl
walks (word ∷ next ∷ words) = more_words word next words (walks (next ∷ words)) (walks words) (has_equals word) refl

-- ---- the rows of all options

abbrev row_for : Text × Text → Row
row_for u = row (drop 2 u.0) u.1

-- options differ where what stands behind their dashes does
same_ids : (a b : Text) → is_option a ≡ true → is_option b ≡ true → bytes_eq (drop 2 a) (drop 2 b) ≡ same_text a b
same_ids a b e f =
    let one = known a e in
    let two = known b f in
    ap (λ (t : Text). bytes_eq (drop 2 t) (drop 2 b)) one.name_is
    ∙ ap (λ (t : Text). bytes_eq one.id (drop 2 t)) two.name_is
    ∙ sym (ap (λ (t : Text). same_text a t) two.name_is ∙ ap (λ (t : Text). same_text t (45 ∷ 45 ∷ two.id)) one.name_is)

row_more : (id other value : Text) (rows : List Row)
    → has_row id (rows ++ row other value ∷ []) ≡ (has_row id rows || bytes_eq other id)
row_more id other value [] = or_none (bytes_eq other id)
  where
    or_none : (b : Bool) → (b || false) ≡ b
    or_none true = refl
    or_none false = refl
row_more id other value (r ∷ rows) =
    ap (λ b. bytes_eq r.id id || b) (row_more id other value rows)
    ∙ or_assoc (bytes_eq r.id id) (has_row id rows) (bytes_eq other id)
  where
    or_assoc : (a b c : Bool) → (a || (b || c)) ≡ ((a || b) || c)
    or_assoc true b c = refl
    or_assoc false b c = refl

-- no row stands for an option of these
abbrev AreFresh : List Row → List Given → Type 0
AreFresh rows [] = Unit {0}
AreFresh rows (o ∷ options) = (has_row (drop 2 o.name) rows ≡ false) × AreFresh rows options

or_false : (a b : Bool) → a ≡ false → b ≡ false → (a || b) ≡ false
or_false a b e f = ap (λ x. x || b) e ∙ f

or_left : (a b : Bool) → (a || b) ≡ false → a ≡ false
or_left true b e = e
or_left false b e = refl

or_right : (a b : Bool) → (a || b) ≡ false → b ≡ false
or_right true b e = absurd (false≢true (sym e))
or_right false b e = e

not_true : (b : Bool) → not b ≡ true → b ≡ false
not_true true e = absurd (false≢true e)
not_true false e = refl

still_fresh : (name value : Text) (rows : List Row) (options : List Given) → is_option name ≡ true
    → are_options options ≡ true → list_any (is_named name) options ≡ false → AreFresh rows options
    → AreFresh (rows ++ row (drop 2 name) value ∷ []) options
still_fresh name value rows [] e all apart fresh = tt
still_fresh name value rows (o ∷ options) e all apart fresh = (
  row_more (drop 2 o.name) (drop 2 name) value rows
      ∙ or_false (has_row (drop 2 o.name) rows) (bytes_eq (drop 2 name) (drop 2 o.name)) fresh.0
      (same_ids name o.name e (and_left (is_option o.name) _ all)
      ∙ or_left (is_named name o) (list_any (is_named name) options) apart),
  still_fresh name value rows options e (and_right _ _ (and_right _ _ all))
      (or_right (is_named name o) (list_any (is_named name) options) apart) fresh.1,
)

rows_of_uses : (uses : Uses) (options : List Given) (rows : List Row) → Match uses options → are_options options ≡ true
    → AreFresh rows options → rows_behind uses rows ≡ rows ++ map row_for uses
rows_of_uses [] [] rows same all fresh = sym (append-nil rows)
rows_of_uses [] (o ∷ options) rows same all fresh = absurd same
rows_of_uses (u ∷ uses) [] rows same all fresh = absurd same
rows_of_uses (u ∷ uses) (o ∷ options) rows same all fresh =
    let named : is_option u.0 ≡ true = ap is_option (sym same.0) ∙ and_left (is_option o.name) _ all in
    let free : has_row (drop 2 u.0) rows ≡ false = ap (λ (t : Text). has_row (drop 2 t) rows) (sym same.0) ∙ fresh.0 in
    let apart : list_any (is_named u.0) options ≡ false =
    ap (λ (t : Text). list_any (is_named t) options) (sym same.0)
    ∙ not_true (list_any (is_named o.name) options) (and_left _ _ (and_right _ _ all)) in
    let known_others = and_right _ _ (and_right _ _ all) in
    ap (rows_behind uses) (used_fresh (drop 2 u.0) u.1 rows free)
    ∙ rows_of_uses uses options (rows ++ row_for u ∷ []) same.2 known_others
    (still_fresh u.0 u.1 rows options named known_others apart fresh.1)
    ∙ append_assoc rows (row_for u ∷ []) (map row_for uses)

none_before : (options : List Given) → AreFresh [] options
none_before [] = tt
none_before (o ∷ options) = (refl, none_before options)

-- ---- what is found

abbrev number_in : Text → List Row → Option ℕ
number_in id rows = option_and_then word_number (first_of id rows)

found_step : (b : Bool) (u : Text × Text) (o : Given) (f : Option Row) (g : Option Given)
    → word_number u.1 ≡ Some o.number
    → option_and_then word_number (option_and_then (λ (r : Row). slice_get r.values 0) f)
    ≡ option_map (λ (x : Given). x.number) g
    → option_and_then word_number (option_and_then (λ (r : Row). slice_get r.values 0) (cond b (Some (row_for u)) f))
    ≡ option_map (λ (x : Given). x.number) (cond b (Some o) g)
found_step true u o f g e later = e
found_step false u o f g e later = later

found_number : (name : Text) → is_option name ≡ true → (uses : Uses) (options : List Given) → Match uses options
    → are_options options ≡ true → number_in (drop 2 name) (map row_for uses) ≡ number_for name options
found_number name e [] [] same all = refl
found_number name e [] (o ∷ options) same all = absurd same
found_number name e (u ∷ uses) [] same all = absurd same
found_number name e (u ∷ uses) (o ∷ options) same all =
    let named : is_option u.0 ≡ true = ap is_option (sym same.0) ∙ and_left (is_option o.name) _ all in
    let test : bytes_eq (drop 2 u.0) (drop 2 name) ≡ is_named name o =
    same_ids u.0 name named e ∙ same_text_sym u.0 name ∙ ap (same_text name) (sym same.0) in
    ap (λ b. option_and_then word_number (option_and_then (λ (r : Row). slice_get r.values 0)
    (cond b (Some (row_for u)) (find (λ (r : Row). bytes_eq r.id (drop 2 name)) (map row_for uses))))) test
    ∙ found_step (is_named name o) u o (find (λ (r : Row). bytes_eq r.id (drop 2 name)) (map row_for uses))
    (find (is_named name) options) same.1
    (found_number name e uses options same.2 (and_right _ _ (and_right _ _ all)))

both_same : {X : Type 0} (b : Bool) (x : X) → (if b then x else x) ≡ x
both_same true x = refl
both_same false x = refl

no_defaults : (ids : List Text) (rows : List Row) → fold with_default rows (map rule ids) ≡ rows
no_defaults [] rows = refl
no_defaults (id ∷ ids) rows =
    ap (λ (rs : List Row). fold with_default rs (map rule ids)) (both_same (has_row id rows) rows)
    ∙ no_defaults ids rows

abbrev ids : List Text
ids = codes "window" ∷ codes "scale" ∷ codes "tile" ∷ codes "workers" ∷ codes "generate" ∷ codes "count" ∷ []

matches_are : (words : List Text) (options : List Given) (w : Walked words options nothing_held)
    → are_options options ≡ true → matches_of words_app words ≡ map row_for w.uses
matches_are words options w all =
    ap₂ (λ (c : List Rule) (names : Names). finished c (walk c names nothing_held words).held) rules_are no_names
    ∙ ap (λ (end : Walk). finished rules end.held) w.walk_is
    ∙ no_defaults ids (rows_held w.later) ∙ w.rows_are
    ∙ rows_of_uses w.uses options [] w.same all (none_before options)

-- the numbers of words that are options, from the matches on them
pub found_numbers : (matches : ArgMatches) (app : App) (words : List Text) (options : List Given) → app ≡ words_app
    → HasMatchesOf app words matches → given words ≡ Some options → are_options options ≡ true
    → numbers_found (found_of matches) ≡ numbers_in options
found_numbers matches app words options app_is found e all =
    let w = walks words options nothing_held e all in
    let rows : rows_of (found_of matches) ≡ map row_for w.uses =
    (found (ap is_simple app_is ∙ words_are_simple)).0 ∙ ap (λ (a : App). matches_of a words) app_is
    ∙ matches_are words options w all in
    let number : (name : Text) → is_option name ≡ true
    → number_found (found_of matches) (drop 2 name) ≡ number_for name options =
    λ name known. ap (option_and_then word_number) (first_value-rows (found_of matches) (drop 2 name))
    ∙ ap (number_in (drop 2 name)) rows ∙ found_number name known w.uses options w.same all in
    λ i. record {
      window = number (codes "--window") refl i;
      scale = number (codes "--scale") refl i;
      tile = number (codes "--tile") refl i;
      workers = number (codes "--workers") refl i;
      generate = number (codes "--generate") refl i;
      count = number (codes "--count") refl i;
    }
