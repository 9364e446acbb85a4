-- What a reader gave, one moment after another, and what that comes to.
use Rattle.std.specs.Prelude.{◌≡◌, ℕ, zero, suc, ◌+◌, ◌<◌, ◌≤◌, Bool, true, false, List, [], ◌∷◌, ◌++◌, length, Option}
use Rattle.std.specs.Prelude.{Some}
use Rattle.std.proofs.Common.{refl, sym, ap, ◌∙◌, arith, append_assoc, append-nil, length-append}
use Rattle.std.proofs.lemmas.List.{nil_from_length}
use Rattle.std.proofs.lemmas.Option.{same_Some}
use Rattle.mp_feed.specs.Feeding.{nothing, lines_left, ended_lines_left}
use Rattle.mp_feed.specs.declared.readers.Next.TheVariants.{Line}
use Rattle.mp_feed.specs.Reading.{Reading, at_start, bit, IsTakenOff, Gave, IsAtRest, IsDry, IsNext}

pub gave_none : (reading : Reading) (left : Option (List ℕ)) → Gave [] reading reading left left
gave_none reading left = record {
  got = [];
  overs = 0;
  lines_are = λ rest. refl;
  ended_are = λ rest. refl;
  count = omega arith;
  overs_are = omega arith;
  full = λ over. absurd (omega (arith, over));
  source = λ bytes e. record { over = []; rest = bytes; over_count = refl; later_is = e; bytes_are = refl };
}

-- where something was taken past the limit, no more was taken within it
shuffled : (over more later rest : List ℕ) → (0 < length over → more ≡ [])
    → over ++ (more ++ (later ++ rest)) ≡ more ++ ((over ++ later) ++ rest)
shuffled [] more later rest none = refl
shuffled (b ∷ over) more later rest none =
    let e : more ≡ [] = none (omega arith) in
    rw e (sym (append_assoc (b ∷ over) later rest))

full_on : (a b m g n : ℕ) → (0 < a → m ≡ 0) → (0 < b → n ≡ 0) → g + n ≡ m → 0 < a + b → n ≡ 0
full_on zero b m g n one two count over = two (omega arith)
full_on (suc a) b m g n one two count over = omega (arith, one (omega arith))

taken_on : {got more : List ℕ} {overs later_overs : ℕ} {bytes : List ℕ} {mid_left later : Option (List ℕ)}
    → (first : IsTakenOff got overs bytes mid_left) → (0 < overs → more ≡ [])
    → IsTakenOff more later_overs first.rest later → IsTakenOff (got ++ more) (overs + later_overs) bytes later
taken_on {got} {more} first none second =
    let no_more : 0 < length first.over → more ≡ [] = λ some. none (omega (arith, first.over_count, some)) in
    record {
      over = first.over ++ second.over;
      rest = second.rest;
      over_count = omega (arith, first.over_count, second.over_count, length-append first.over second.over);
      later_is = second.later_is;
      bytes_are =
          first.bytes_are
          ∙ (ap (λ t. got ++ (first.over ++ t)) second.bytes_are
          ∙ (ap (λ t. got ++ t) (shuffled first.over more second.over second.rest no_more)
          ∙ sym (append_assoc got more ((first.over ++ second.over) ++ second.rest))));
    }

-- some lines, and then some more
pub gave_on : {given more : List (List ℕ)} {old mid new : Reading} {left mid_left later : Option (List ℕ)}
    → Gave given old mid left mid_left → Gave more mid new mid_left later → Gave (given ++ more) old new left later
gave_on {given} {more} {old} {mid} {new} {left} {mid_left} {later} one two = record {
  got = one.got ++ two.got;
  overs = one.overs + two.overs;
  lines_are = λ rest.
      ap (λ t. lines_left old.holding (old.unread ++ t)) (append_assoc one.got two.got rest)
      ∙ (one.lines_are (two.got ++ rest)
      ∙ (ap (λ ls. given ++ ls) (two.lines_are rest)
      ∙ sym (append_assoc given more (lines_left new.holding (new.unread ++ rest)))));
  ended_are = λ rest.
      ap (λ t. ended_lines_left old.holding (old.unread ++ t)) (append_assoc one.got two.got rest)
      ∙ (one.ended_are (two.got ++ rest)
      ∙ (ap (λ ls. given ++ ls) (two.ended_are rest)
      ∙ sym (append_assoc given more (ended_lines_left new.holding (new.unread ++ rest)))));
  count = omega (arith, one.count, two.count, length-append one.got two.got);
  overs_are = omega (arith, one.overs_are, two.overs_are);
  full = full_on one.overs two.overs mid.left (length two.got) new.left one.full two.full two.count;
  source = λ bytes e.
      let first = one.source bytes e in
      let none : 0 < one.overs → two.got ≡ [] =
      λ some. nil_from_length two.got (omega (arith, one.full some, two.count)) in
      taken_on first none (two.source first.rest first.later_is);
}

-- a source that came to its end later
pub dry_on : {given : List (List ℕ)} {old new : Reading} {left mid_left later : Option (List ℕ)}
    → Gave given old new left mid_left → IsDry mid_left later → IsDry left later
dry_on gave dry bytes e = dry (gave.source bytes e).rest (gave.source bytes e).later_is

-- ---- from the start on

-- the lines of the whole input are those that were given and those still to come
pub lines_so_far : {given : List (List ℕ)} {limit : ℕ} {reader : Reading} {left later : Option (List ℕ)}
    → Gave given (at_start limit) reader left later → (bytes : List ℕ) → left ≡ Some bytes
    → (more : List (List ℕ)) × (lines_left nothing bytes ≡ given ++ more)
lines_so_far {reader = reader} gave bytes e =
    let taken = gave.source bytes e in (
      lines_left reader.holding (reader.unread ++ (taken.over ++ taken.rest)),
      ap (lines_left nothing) taken.bytes_are ∙ gave.lines_are (taken.over ++ taken.rest),
    )

-- of the bytes that were taken within the limit the lines that an LF ends were given
pub lines_at_rest : {given : List (List ℕ)} {limit : ℕ} {reader : Reading} {left later : Option (List ℕ)}
    → (gave : Gave given (at_start limit) reader left later) → IsAtRest reader
    → ended_lines_left nothing gave.got ≡ given
lines_at_rest {given} {reader = reader} gave rest =
    ap (ended_lines_left nothing) (sym (append-nil gave.got))
    ∙ (gave.ended_are []
    ∙ (ap (λ ls. given ++ ls)
    (ap (ended_lines_left reader.holding) (append-nil reader.unread ∙ rest.unread) ∙ rest.none_ended)
    ∙ append-nil given))

-- all of the input was taken, within the limit
pub record IsAll (bytes : List ℕ) (given : List (List ℕ)) (limit : ℕ) (reader : Reading) (later : Option (List ℕ))
    : Type 0 where
  pub lines_are : lines_left nothing bytes ≡ given ++ lines_left reader.holding []
  pub read : later ≡ Some []
  pub within : length bytes ≤ limit

pub lines_at_end : {given : List (List ℕ)} {limit : ℕ} {reader : Reading} {left later : Option (List ℕ)}
    → Gave given (at_start limit) reader left later → reader.unread ≡ [] → reader.past ≡ false → IsDry left later
    → (bytes : List ℕ) → left ≡ Some bytes → IsAll bytes given limit reader later
lines_at_end {given} {limit} {reader} gave none within dry bytes e =
    let taken = gave.source bytes e in
    let rest : taken.rest ≡ [] = same_Some taken.rest [] (sym taken.later_is ∙ dry bytes e) in
    let over : taken.over ≡ [] =
    nil_from_length taken.over (omega (arith, taken.over_count, gave.overs_are, ap bit within)) in
    let nothing_more : reader.unread ++ (taken.over ++ taken.rest) ≡ [] = rw (none, over, rest) refl in
    record {
      lines_are =
          ap (lines_left nothing) taken.bytes_are ∙ gave.lines_are (taken.over ++ taken.rest)
          ∙ ap (λ t. given ++ lines_left reader.holding t) nothing_more;
      read = dry bytes e;
      within = omega (
        arith,
        gave.count,
        ap length taken.bytes_are,
        ap length over,
        ap length rest,
        length-append gave.got (taken.over ++ taken.rest),
        length-append taken.over taken.rest,
      );
    }

-- behind these lines this line comes
pub line_comes : {given : List (List ℕ)} {limit : ℕ} {reader : Reading} {left mid_left : Option (List ℕ)}
    (new : Reading) (later : Option (List ℕ)) → Gave given (at_start limit) reader left mid_left
    → (last : Bool) → IsNext reader new mid_left later (Line last)
    → (bytes : List ℕ) → left ≡ Some bytes
    → (more : List (List ℕ)) × (lines_left nothing bytes ≡ given ++ (new.holding.kept ∷ more))
line_comes {given} new later gave false next bytes e =
    let all = lines_so_far (gave_on gave next.gave) bytes e in
    (all.0, all.1 ∙ append_assoc given (new.holding.kept ∷ []) all.0)
line_comes {given} new later gave true next bytes e =
    let end = lines_at_end (gave_on gave next.gave) next.rest.unread next.within (dry_on gave next.dry) bytes e in (
      [],
      end.lines_are
          ∙ (ap (λ ls. (given ++ []) ++ ls) next.line_is ∙ ap (λ ls. ls ++ (new.holding.kept ∷ [])) (append-nil given)),
    )
