-- What a reader gave, one moment after another.
use Rattle.std.proofs.Common.{◌≡◌, ℕ, ◌+◌, ◌<◌, Bool, true, false, List, [], ◌∷◌, length, take, drop, refl, arith, ap}
use Rattle.std.proofs.Common.{◌∙◌, sym, subst}
use Rattle.std.specs.Prelude.{Option, Some}
use Rattle.std.specs.Prelude.{if◌then◌else◌}
use Rattle.mp_feed.specs.Feeding.{Holding, IsCutLine, has_lf, used_of, fed, ended, lines_left}
use Rattle.mp_feed.proofs.FeedSteps.{lines_left-fed, lines_left-fed_lf, ended_lines_left-fed, ended_lines_left-fed_lf}
use Rattle.mp_feed.proofs.FeedSteps.{drop-used_of-no_lf, lines_left-end, ended_lines_left-end}
use Rattle.mp_feed.specs.declared.readers.Next.TheVariants.{Line, End}
use Rattle.mp_feed.specs.declared.readers.Piece.{Piece}
use Rattle.mp_feed.specs.Reading.{Reading, after_line, before_end, bit, IsReadOf, Gave, IsAtRest, IsDry, IsNext}

-- what is at hand has an LF
pub gave_line : {old new : Reading} (left : Option (List ℕ)) → IsCutLine old.holding.kept
    → has_lf old.unread ≡ true → new.holding ≡ fed old.holding old.unread
    → new.unread ≡ drop (used_of old.unread) old.unread → new.left ≡ old.left → new.past ≡ old.past
    → Gave (new.holding.kept ∷ []) old (after_line new) left left
gave_line {old} {new} left part some held unread left_is past_is = record {
  got = [];
  overs = 0;
  lines_are = λ rest. rw (held, unread) (lines_left-fed_lf old.holding old.unread rest part some);
  ended_are = λ rest. rw (held, unread) (ended_lines_left-fed_lf old.holding old.unread rest part some);
  count = omega (arith, left_is);
  overs_are = omega (arith, ap bit past_is);
  full = λ over. absurd (omega (arith, over));
  source = λ bytes e. record { over = []; rest = bytes; over_count = refl; later_is = e; bytes_are = refl };
}

-- it has none
pub gave_part : {old new : Reading} (left : Option (List ℕ)) → IsCutLine old.holding.kept
    → has_lf old.unread ≡ false → new.holding ≡ fed old.holding old.unread
    → new.unread ≡ drop (used_of old.unread) old.unread → new.left ≡ old.left → new.past ≡ old.past
    → Gave [] old new left left
gave_part {old} {new} left part none held unread left_is past_is = record {
  got = [];
  overs = 0;
  lines_are = λ rest.
      rw (held, unread, drop-used_of-no_lf old.unread none)
      (sym (lines_left-fed old.holding old.unread rest part none));
  ended_are = λ rest.
      rw (held, unread, drop-used_of-no_lf old.unread none)
      (sym (ended_lines_left-fed old.holding old.unread rest part none));
  count = omega (arith, left_is);
  overs_are = omega (arith, ap bit past_is);
  full = λ over. absurd (omega (arith, over));
  source = λ bytes e. record { over = []; rest = bytes; over_count = refl; later_is = e; bytes_are = refl };
}

-- bytes were read
pub gave_read : (old new : Reading) (left later : Option (List ℕ)) (buffer : List ℕ) (piece : Piece)
    → old.unread ≡ [] → old.past ≡ false → new.holding ≡ old.holding → new.unread ≡ take piece.count buffer
    → length (take piece.count buffer) ≡ piece.count → new.left + piece.count ≡ old.left → new.past ≡ piece.past_limit
    → (0 < bit piece.past_limit → new.left ≡ 0)
    → ((bytes : List ℕ) → left ≡ Some bytes → IsReadOf bytes buffer later piece) → Gave [] old new left later
gave_read old new left later buffer piece none within holding unread count left_is past full reads = record {
  got = take piece.count buffer;
  overs = bit piece.past_limit;
  lines_are = λ rest. rw (none, holding, unread) refl;
  ended_are = λ rest. rw (none, holding, unread) refl;
  count = omega (arith, count, left_is);
  overs_are = omega (arith, ap bit within, ap bit past);
  full = full;
  source = λ bytes e. (reads bytes e).off;
}

-- ---- the end of the source

-- what is held without an LF, with no byte at hand
pub at_rest : (reading : Reading) → IsCutLine reading.holding.kept → reading.unread ≡ [] → IsAtRest reading
at_rest reading part none = record { unread = none; none_ended = ended_lines_left-end reading.holding part }

same_holding : (a b : Holding) → a.kept ≡ b.kept → a.whole ≡ b.whole → a ≡ b
same_holding a b k w =
    ap (λ kept. record { kept = kept; whole = a.whole }) k ∙ ap (λ whole. record { kept = b.kept; whole = whole }) w

same_reading : (reading : Reading) (holding : Holding) (unread : List ℕ) (left : ℕ) (past : Bool)
    → holding ≡ reading.holding → unread ≡ reading.unread → left ≡ reading.left → past ≡ reading.past
    → record { holding = holding; unread = unread; left = left; past = past } ≡ reading
same_reading reading holding unread left past h u l p = rw (h, u, l, p) refl

-- it is the last line
pub next_is_last : (first old new : Reading) (left later : Option (List ℕ))
    → new.holding ≡ ended old.holding → new.unread ≡ old.unread → new.left ≡ old.left → new.past ≡ old.past
    → new.holding.whole ≡ true → IsCutLine old.holding.kept → old.holding.whole ≡ false → old.unread ≡ []
    → old.past ≡ false → IsDry left later → Gave [] first old left later → IsNext first new left later (Line true)
next_is_last first old new left later held unread left_is past_is whole part unended none within dry gave =
    let kept : new.holding.kept ≡ old.holding.kept = ap (λ (h : Holding). h.kept) held in
    let same : before_end new ≡ old =
    same_reading old (record { kept = new.holding.kept; whole = false }) new.unread new.left new.past
    (same_holding (record { kept = new.holding.kept; whole = false }) old.holding kept (sym unended)) unread
    left_is past_is in
    record {
      held = whole;
      gave = subst (λ (r : Reading). Gave [] first r left later) (sym same) gave;
      rest = subst IsAtRest (sym same) (at_rest old part none);
      line_is = subst (λ (r : Reading). lines_left r.holding [] ≡ new.holding.kept ∷ []) (sym same)
          (lines_left-end old.holding part ∙ (ap (λ b. if b then old.holding.kept ∷ [] else [])
          (ap (λ (h : Holding). h.whole) (sym held) ∙ whole) ∙ ap (λ k. k ∷ []) (sym kept)));
      within = past_is ∙ within;
      dry = dry;
    }

-- there is no more
pub next_is_end : (first old new : Reading) (left later : Option (List ℕ))
    → new.holding ≡ ended old.holding → new.unread ≡ old.unread → new.left ≡ old.left → new.past ≡ old.past
    → new.holding.whole ≡ false → IsCutLine old.holding.kept → old.holding.whole ≡ false → old.unread ≡ []
    → old.past ≡ false → IsDry left later → Gave [] first old left later → IsNext first new left later End
next_is_end first old new left later held unread left_is past_is whole part unended none within dry gave =
    let kept : new.holding.kept ≡ old.holding.kept = ap (λ (h : Holding). h.kept) held in
    let still : new.holding ≡ old.holding = same_holding new.holding old.holding kept (whole ∙ sym unended) in
    let same : new ≡ old = same_reading old new.holding new.unread new.left new.past still unread left_is past_is in
    record {
      gave = subst (λ (r : Reading). Gave [] first r left later) (sym same) gave;
      rest = subst IsAtRest (sym same) (at_rest old part none);
      none_left = subst (λ (r : Reading). lines_left r.holding [] ≡ []) (sym same)
          (lines_left-end old.holding part
          ∙ ap (λ b. if b then old.holding.kept ∷ [] else []) (ap (λ (h : Holding). h.whole) (sym held) ∙ whole));
      within = past_is ∙ within;
      dry = dry;
    }
