-- What each call on a feed does to the lines that are still to come.
use Rattle.std.proofs.Common.{◌≡◌, ◌≢◌, ℕ, zero, suc, ◌+◌, ◌-◌, ◌<◌, ◌≤◌, min, true, false, Option, Some, None, List}
use Rattle.std.proofs.Common.{[], ◌∷◌, ◌++◌, length, take, drop, map, get_or, eqb, All, if◌then◌else◌, not, refl, sym}
use Rattle.std.proofs.Common.{ap, ◌∙◌, arith, append_assoc, ⊎_elim, le_refl}
use Rattle.std.specs.Option.{unwrap_or, is_some}
use Rattle.std.specs.List.{position_or_len, before_first}
use Rattle.std.proofs.lemmas.Bool.{ne_eqb, eqb-true, eqb-false, or_parts, false_from_ne_true, true_from_ne_false}
use Rattle.std.proofs.lemmas.Bool.{cases_Bool}
use Rattle.std.proofs.lemmas.List.{append-nil, take-take, take_all, take_min, drop_all, length-take, get_or-take}
use Rattle.std.proofs.Math.Seq.{take-append-add}
use Rattle.std.proofs.lemmas.List.Elements.{All-nil, All-head, All-tail, All-append, All-take}
use Rattle.std.proofs.lemmas.List.Sums.{position_or_len_is, fails_before_first, passes_at_first, split_at_first}
use Rattle.memchr.specs.Find.{IsFirstByte, is_byte}
use Rattle.mp_bytes.specs.Bytes.{is_empty, onto_first}
use Rattle.mp_bytes.specs.Lines.{lines, onto_ended, ended_lines}
use Rattle.mp_feed.specs.Feeding.{Holding, nothing, IsCutLine, is_lf, has_lf, used_of, fed, ended, lines_left}
use Rattle.mp_feed.specs.Feeding.{ended_lines_left}
use Rattle.mp_bytes.specs.Lines.{cut}

-- no byte is an LF
abbrev HasNoLf : List ℕ → Type 0
HasNoLf bytes = All (λ b. b ≢ 10) bytes

-- ---- lines that begin with bytes without an LF

-- bytes in front of the first of these lines, which begins where there is none
abbrev bytes_onto_first : List (List ℕ) → List ℕ → List (List ℕ)
bytes_onto_first (line ∷ rest) bytes = (bytes ++ line) ∷ rest
bytes_onto_first [] [] = []
bytes_onto_first [] (b ∷ bs) = (b ∷ bs) ∷ []

-- bytes in front of the first of these lines, where there is one
abbrev bytes_onto_ended : List (List ℕ) → List ℕ → List (List ℕ)
bytes_onto_ended (line ∷ rest) bytes = (bytes ++ line) ∷ rest
bytes_onto_ended [] bytes = []

onto_first-bytes : (b : ℕ) (rest : List (List ℕ)) (bytes : List ℕ)
    → onto_first b (bytes_onto_first rest bytes) ≡ bytes_onto_first rest (b ∷ bytes)
onto_first-bytes b (line ∷ rest) bytes = refl
onto_first-bytes b [] [] = refl
onto_first-bytes b [] (c ∷ cs) = refl

onto_ended-bytes : (b : ℕ) (rest : List (List ℕ)) (bytes : List ℕ)
    → onto_ended b (bytes_onto_ended rest bytes) ≡ bytes_onto_ended rest (b ∷ bytes)
onto_ended-bytes b (line ∷ rest) bytes = refl
onto_ended-bytes b [] bytes = refl

bytes_onto_first-nil : (rest : List (List ℕ)) → rest ≡ bytes_onto_first rest []
bytes_onto_first-nil (line ∷ rest) = refl
bytes_onto_first-nil [] = refl

bytes_onto_ended-nil : (rest : List (List ℕ)) → rest ≡ bytes_onto_ended rest []
bytes_onto_ended-nil (line ∷ rest) = refl
bytes_onto_ended-nil [] = refl

lines-append : (bytes rest : List ℕ) → HasNoLf bytes → lines (bytes ++ rest) ≡ bytes_onto_first (lines rest) bytes
lines-append [] rest no_lf = bytes_onto_first-nil (lines rest)
lines-append (b ∷ bs) rest no_lf =
    let other : eqb b 10 ≡ false = ne_eqb b 10 (All-head (λ c. c ≢ 10) b bs no_lf) in
    rw (other, lines-append bs rest (All-tail (λ c. c ≢ 10) b bs no_lf)) (onto_first-bytes b (lines rest) bs)

ended_lines-append : (bytes rest : List ℕ) → HasNoLf bytes
    → ended_lines (bytes ++ rest) ≡ bytes_onto_ended (ended_lines rest) bytes
ended_lines-append [] rest no_lf = bytes_onto_ended-nil (ended_lines rest)
ended_lines-append (b ∷ bs) rest no_lf =
    let other : eqb b 10 ≡ false = ne_eqb b 10 (All-head (λ c. c ≢ 10) b bs no_lf) in
    rw (other, ended_lines-append bs rest (All-tail (λ c. c ≢ 10) b bs no_lf))
    (onto_ended-bytes b (ended_lines rest) bs)

-- ---- what is cut once may be cut before

take-take-append : (n : ℕ) (xs ys : List ℕ) → take n (take n xs ++ ys) ≡ take n (xs ++ ys)
take-take-append zero xs ys = refl
take-take-append (suc n) [] ys = refl
take-take-append (suc n) (x ∷ xs) ys = ap (λ l. x ∷ l) (take-take-append n xs ys)

map-take-first : (n : ℕ) (rest : List (List ℕ)) (bytes : List ℕ)
    → map (take (suc n)) (bytes_onto_first rest (take (suc n) bytes)) ≡ map (take (suc n)) (bytes_onto_first rest bytes)
map-take-first n (line ∷ rest) bytes = ap (λ l. l ∷ map (take (suc n)) rest) (take-take-append (suc n) bytes line)
map-take-first n [] [] = refl
map-take-first n [] (b ∷ bs) = ap (λ l. (b ∷ l) ∷ []) (take-take n n bs (le_refl n))

map-take-ended : (n : ℕ) (rest : List (List ℕ)) (bytes : List ℕ)
    → map (take n) (bytes_onto_ended rest (take n bytes)) ≡ map (take n) (bytes_onto_ended rest bytes)
map-take-ended n (line ∷ rest) bytes = ap (λ l. l ∷ map (take n) rest) (take-take-append n bytes line)
map-take-ended n [] bytes = refl

HasNoLf-cut : (bytes : List ℕ) → HasNoLf bytes → HasNoLf (cut bytes)
HasNoLf-cut bytes no_lf = All-take (λ b. b ≢ 10) 1048577 bytes no_lf

cut_ahead : (bytes rest : List ℕ) → HasNoLf bytes
    → map cut (lines (cut bytes ++ rest)) ≡ map cut (lines (bytes ++ rest))
cut_ahead bytes rest no_lf =
    ap (map cut) (lines-append (cut bytes) rest (HasNoLf-cut bytes no_lf))
    ∙ map-take-first 1048576 (lines rest) bytes
    ∙ sym (ap (map cut) (lines-append bytes rest no_lf))

cut_ahead_ended : (bytes rest : List ℕ) → HasNoLf bytes
    → map cut (ended_lines (cut bytes ++ rest)) ≡ map cut (ended_lines (bytes ++ rest))
cut_ahead_ended bytes rest no_lf =
    ap (map cut) (ended_lines-append (cut bytes) rest (HasNoLf-cut bytes no_lf))
    ∙ map-take-ended 1048577 (ended_lines rest) bytes
    ∙ sym (ap (map cut) (ended_lines-append bytes rest no_lf))

-- ---- the first LF of a piece

pub position_or_len-no_lf : (piece : List ℕ) → has_lf piece ≡ false → position_or_len is_lf piece ≡ length piece
position_or_len-no_lf [] none = refl
position_or_len-no_lf (b ∷ bs) none =
    let parts = or_parts (is_lf b) (has_lf bs) none in
    let later = position_or_len-no_lf bs parts.1 in
    let here : eqb b 10 ≡ false = parts.0 in
    rw (here, later) (omega arith)

pub position_or_len-lf : (piece : List ℕ) → has_lf piece ≡ true → position_or_len is_lf piece < length piece
position_or_len-lf [] some = cc
position_or_len-lf (b ∷ bs) some = ⊎_elim
    (λ here. rw here (omega arith))
    (λ other.
    let later : has_lf bs ≡ true = rw other at some in
    rw other (omega (arith, position_or_len-lf bs later)))
    (cases_Bool (eqb b 10))

pub used_of-lf : (piece : List ℕ) → has_lf piece ≡ true → used_of piece ≡ position_or_len is_lf piece + 1
used_of-lf piece some = rw some refl

pub used_of-no_lf : (piece : List ℕ) → has_lf piece ≡ false → used_of piece ≡ length piece
used_of-no_lf piece none = rw none refl

pub drop-used_of-no_lf : (piece : List ℕ) → has_lf piece ≡ false → drop (used_of piece) piece ≡ []
drop-used_of-no_lf piece none = drop_all (used_of piece) piece (omega (arith, used_of-no_lf piece none))

-- the bytes before the first LF have none
HasNoLf-before_first : (piece : List ℕ) → HasNoLf (before_first is_lf piece)
HasNoLf-before_first piece = λ k d l.
    let n = position_or_len is_lf piece in
    let below : k < n = omega (arith, length-take n piece) in
    let same : get_or (take n piece) k d ≡ get_or piece k d = get_or-take n piece k d below in
    rw same (eqb-false (get_or piece k d) 10 (fails_before_first is_lf piece k d below))

-- a piece with an LF is what stands before it, the LF, and what is left
split_at_lf : (piece : List ℕ) → has_lf piece ≡ true
    → piece ≡ before_first is_lf piece ++ (10 ∷ drop (used_of piece) piece)
split_at_lf piece some =
    let inside = position_or_len-lf piece some in
    let at = position_or_len is_lf piece in
    let is : get_or piece at 0 ≡ 10 = eqb-true (get_or piece at 0) 10 (passes_at_first is_lf piece 0 inside) in
    split_at_first is_lf piece 0 inside
    ∙ ap (λ b. before_first is_lf piece ++ (b ∷ drop (at + 1) piece)) is
    ∙ ap (λ n. before_first is_lf piece ++ (10 ∷ drop n piece)) (sym (used_of-lf piece some))

-- what a search for the first LF finds
pub unwrap_or-first_lf : (piece : List ℕ) (found : Option ℕ) → IsFirstByte (is_byte 10) piece found
    → unwrap_or found (length piece) ≡ position_or_len is_lf piece
unwrap_or-first_lf piece None none =
    sym (position_or_len_is is_lf piece (length piece) 0 (le_refl (length piece))
    (λ k l. false_from_ne_true _ (none k (omega arith) l)) (λ l. absurd (omega arith)))
unwrap_or-first_lf piece (Some at) first =
    sym (position_or_len_is is_lf piece at 0 (omega (arith, first.0.high))
    (λ k l. false_from_ne_true _ (first.0.before k (omega arith) l)) (λ l. first.1))

pub is_some-first_lf : (piece : List ℕ) (found : Option ℕ) → IsFirstByte (is_byte 10) piece found
    → is_some found ≡ has_lf piece
is_some-first_lf piece None none =
    let all : length piece ≡ position_or_len is_lf piece = unwrap_or-first_lf piece None none in
    sym (false_from_ne_true (has_lf piece) (λ some. omega (arith, position_or_len-lf piece some)))
is_some-first_lf piece (Some at) first =
    let inside : at < length piece = first.0.high in
    let is : at ≡ position_or_len is_lf piece = unwrap_or-first_lf piece (Some at) first in
    sym (true_from_ne_false (has_lf piece) (λ none. omega (arith, position_or_len-no_lf piece none)))

-- ---- the bytes that are kept

pub kept_fits : (n : ℕ) (kept bytes : List ℕ) → length kept ≤ n
    → kept ++ take (min (length bytes) (n - length kept)) bytes ≡ take n (kept ++ bytes)
kept_fits n kept bytes short =
    let room = n - length kept in
    let same : min (length bytes) room ≡ min room (length bytes) = omega arith in
    let all : length kept + room ≡ n = omega arith in
    ap (λ k. kept ++ take k bytes) same
    ∙ ap (λ more. kept ++ more) (take_min room bytes)
    ∙ sym (take-append-add kept bytes room)
    ∙ ap (λ k. take k (kept ++ bytes)) all

-- ---- the steps

pub IsCutLine-nothing : IsCutLine nothing.kept
IsCutLine-nothing = record { no_lf = All-nil (λ b. b ≢ 10); short = omega arith }

HasNoLf-line : (kept piece : List ℕ) → IsCutLine kept → HasNoLf (kept ++ before_first is_lf piece)
HasNoLf-line kept piece part =
    All-append (λ b. b ≢ 10) kept (before_first is_lf piece) part.no_lf (HasNoLf-before_first piece)

-- what is held stays cut and has no LF, however much is fed
pub IsCutLine-fed : (kept piece : List ℕ) → IsCutLine kept → IsCutLine (cut (kept ++ before_first is_lf piece))
IsCutLine-fed kept piece part =
    let line = kept ++ before_first is_lf piece in
    record { no_lf = HasNoLf-cut line (HasNoLf-line kept piece part); short = omega (arith, length-take 1048577 line) }

before_first-no_lf : (piece : List ℕ) → has_lf piece ≡ false → before_first is_lf piece ≡ piece
before_first-no_lf piece none = take_all _ piece (omega (arith, position_or_len-no_lf piece none))

-- a piece without an LF leaves the lines to come as they were
pub lines_left-fed : (holding : Holding) (piece rest : List ℕ) → IsCutLine holding.kept → has_lf piece ≡ false
    → lines_left (fed holding piece) rest ≡ lines_left holding (piece ++ rest)
lines_left-fed holding piece rest part none =
    cut_ahead (holding.kept ++ before_first is_lf piece) rest (HasNoLf-line holding.kept piece part)
    ∙ ap (λ bytes. map cut (lines (holding.kept ++ bytes ++ rest))) (before_first-no_lf piece none)
    ∙ ap (λ bytes. map cut (lines bytes)) (append_assoc holding.kept piece rest)

pub ended_lines_left-fed : (holding : Holding) (piece rest : List ℕ) → IsCutLine holding.kept → has_lf piece ≡ false
    → ended_lines_left (fed holding piece) rest ≡ ended_lines_left holding (piece ++ rest)
ended_lines_left-fed holding piece rest part none =
    cut_ahead_ended (holding.kept ++ before_first is_lf piece) rest (HasNoLf-line holding.kept piece part)
    ∙ ap (λ bytes. map cut (ended_lines (holding.kept ++ bytes ++ rest))) (before_first-no_lf piece none)
    ∙ ap (λ bytes. map cut (ended_lines bytes)) (append_assoc holding.kept piece rest)

-- a piece with an LF ends the first of the lines to come
lines_at_lf : (holding : Holding) (piece rest : List ℕ) → has_lf piece ≡ true
    → holding.kept ++ (piece ++ rest)
    ≡ (holding.kept ++ before_first is_lf piece) ++ (10 ∷ (drop (used_of piece) piece ++ rest))
lines_at_lf holding piece rest some =
    let before = before_first is_lf piece in
    let left = drop (used_of piece) piece in
    ap (λ bytes. holding.kept ++ (bytes ++ rest)) (split_at_lf piece some)
    ∙ ap (λ bytes. holding.kept ++ bytes) (append_assoc before (10 ∷ left) rest)
    ∙ sym (append_assoc holding.kept before (10 ∷ (left ++ rest)))

pub lines_left-fed_lf : (holding : Holding) (piece rest : List ℕ) → IsCutLine holding.kept → has_lf piece ≡ true
    → lines_left holding (piece ++ rest)
    ≡ (fed holding piece).kept ∷ lines_left nothing (drop (used_of piece) piece ++ rest)
lines_left-fed_lf holding piece rest part some =
    let line = holding.kept ++ before_first is_lf piece in
    let left = drop (used_of piece) piece ++ rest in
    ap (λ bytes. map cut (lines bytes)) (lines_at_lf holding piece rest some)
    ∙ ap (map cut) (lines-append line (10 ∷ left) (HasNoLf-line holding.kept piece part))
    ∙ ap (λ bytes. cut bytes ∷ map cut (lines left)) (append-nil line)

pub ended_lines_left-fed_lf : (holding : Holding) (piece rest : List ℕ) → IsCutLine holding.kept → has_lf piece ≡ true
    → ended_lines_left holding (piece ++ rest)
    ≡ (fed holding piece).kept ∷ ended_lines_left nothing (drop (used_of piece) piece ++ rest)
ended_lines_left-fed_lf holding piece rest part some =
    let line = holding.kept ++ before_first is_lf piece in
    let left = drop (used_of piece) piece ++ rest in
    ap (λ bytes. map cut (ended_lines bytes)) (lines_at_lf holding piece rest some)
    ∙ ap (map cut) (ended_lines-append line (10 ∷ left) (HasNoLf-line holding.kept piece part))
    ∙ ap (λ bytes. cut bytes ∷ map cut (ended_lines left)) (append-nil line)

-- at the end what is held without an LF is the last line, where it isn't empty
at_end : (kept : List ℕ) → IsCutLine kept
    → map cut (lines (kept ++ [])) ≡ (if not (is_empty kept) then kept ∷ [] else [])
at_end [] part = refl
at_end (b ∷ bs) part =
    let kept = b ∷ bs in
    ap (map cut) (lines-append kept [] part.no_lf) ∙ ap (λ line. line ∷ []) (take_all 1048577 kept part.short)

pub lines_left-end : (holding : Holding) → IsCutLine holding.kept
    → lines_left holding [] ≡ (if (ended holding).whole then holding.kept ∷ [] else [])
lines_left-end holding part = at_end holding.kept part

-- no LF ends what is held
pub ended_lines_left-end : (holding : Holding) → IsCutLine holding.kept → ended_lines_left holding [] ≡ []
ended_lines_left-end holding part = ap (map cut) (ended_lines-append holding.kept [] part.no_lf)
