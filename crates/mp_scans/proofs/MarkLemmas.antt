-- Windows of which no sample is missing.
use Rattle.std.proofs.Common.{◌≡◌, ℕ, zero, suc, ◌+◌, ◌-◌, ◌<◌, ◌≤◌, inl, inr, Bool, true, false, refl, sym, ap, ◌∙◌}
use Rattle.std.proofs.Common.{List, arith, subst}
use Rattle.std.specs.Prelude.{◌&&◌, is_some, nat_le}
use Rattle.std.proofs.lemmas.Bool.Decides.{nat_tests}
use Rattle.mp_nums.specs.declared.samples.Sample.{Sample}
use Rattle.mp_nums.specs.declared.samples.Sample.TheVariants.{Missing}
use Rattle.std.specs.Prelude.{slice_index_or}
use Rattle.mp_defs.specs.Series.{Series, reading_of, series_of, number_at}
use Rattle.mp_defs.specs.SeriesLaws.{series_are_of_samples}
use Rattle.mp_defs.specs.Window.{is_free}
use Rattle.mp_scans.specs.Free.{IsClear}
use Rattle.mp_scans.proofs.FillLemmas.{last_or_before}

pub both_hold : (x y : Bool) → (x && y) ≡ true → (x ≡ true) × (y ≡ true)
both_hold true y e = (refl, e)
both_hold false y e = absurd (cc)

pub both_true : (x y : Bool) → x ≡ true → y ≡ true → (x && y) ≡ true
both_true true y e f = f
both_true false y e f = e

right_false : (x y : Bool) → y ≡ false → (x && y) ≡ false
right_false true y e = e
right_false false y e = refl

left_false : (x y : Bool) → x ≡ false → (x && y) ≡ false
left_false true y e = absurd (cc)
left_false false y e = refl

all_free : (m : ℕ) (a : Series) (i : ℕ) → ((t : ℕ) → i ≤ t → t < i + m → is_some (number_at a t) ≡ true)
    → is_free m a i ≡ true
unfolding is_free
all_free zero a i h = refl
all_free (suc m) a i h =
    both_true (is_free m a i) (is_some (number_at a (i + m))) (all_free m a i (λ t le lt. h t le (omega (arith, lt))))
    (h (i + m) (omega arith) (omega arith))

not_free : (m : ℕ) (a : Series) (i t : ℕ) → i ≤ t → t < i + m → is_some (number_at a t) ≡ false → is_free m a i ≡ false
unfolding is_free
not_free zero a i t le lt e = absurd (omega (arith, le, lt))
not_free (suc m) a i t le lt e = elim (last_or_before t (i + m) (omega (arith, lt))) [
  | inl same ↦ right_false (is_free m a i) (is_some (number_at a (i + m)))
      (subst (λ p. is_some (number_at a p) ≡ false) same e)
  | inr less ↦ left_false (is_free m a i) (is_some (number_at a (i + m))) (not_free m a i t le less e)
]

le_of : (a b : ℕ) → nat_le a b ≡ true → a ≤ b
le_of a b e = grind (arith, nat_tests)

gt_of : (a b : ℕ) → nat_le a b ≡ false → b < a
gt_of a b e = grind (arith, nat_tests)

told : (b : Bool) (m : ℕ) (a : Series) (from clear s end : ℕ) → nat_le clear s ≡ b → IsClear a from clear end
    → end ≡ s + m → from ≤ s → is_free m a s ≡ b
told true m a from clear s end e h same le =
    let before = le_of clear s e in
    all_free m a s (λ t ge lt. h.present t (omega (arith, ge, before)) (omega (arith, lt, same)))
told false m a from clear s end e h same le =
    let behind = gt_of clear s e in
    not_free m a s (clear - 1) (omega (arith, behind)) (omega (arith, behind, h.within, same))
    (h.missing (clear - 1) (omega (arith, behind, le)) (omega (arith, behind)))

pub mark_is : (m : ℕ) (a : Series) (from clear s end : ℕ) → IsClear a from clear end → end ≡ s + m → from ≤ s
    → nat_le clear s ≡ is_free m a s
mark_is m a from clear s end h same le = sym (told (nat_le clear s) m a from clear s end refl h same le)

pub no_samples : (a : Series) (from : ℕ) → IsClear a from from from
no_samples a from = record {
  after = omega arith;
  within = omega arith;
  present = λ t le lt. absurd (omega (arith, le, lt));
  missing = λ t le e. absurd (omega (arith, le, e));
}

pub clear_at : (a : Series) (from clear e e' : ℕ) → e ≡ e' → IsClear a from clear e → IsClear a from clear e'
clear_at a from clear e e' same h = subst (IsClear a from clear) same h

pub clear_on : (a : Series) (from clear place : ℕ) → IsClear a from clear place → is_some (number_at a place) ≡ true
    → IsClear a from clear (place + 1)
clear_on a from clear place h there = record {
  after = h.after;
  within = omega (arith, h.within);
  present = λ t le lt. elim (last_or_before t place lt) [
    | inl same ↦ subst (λ p. is_some (number_at a p) ≡ true) (sym same) there
    | inr less ↦ h.present t le less
  ];
  missing = h.missing;
}

pub clear_anew : (a : Series) (from place : ℕ) → from ≤ place → is_some (number_at a place) ≡ false
    → IsClear a from (place + 1) (place + 1)
clear_anew a from place le gone = record {
  after = omega (arith, le);
  within = omega arith;
  present = λ t ge lt. absurd (omega (arith, ge, lt));
  missing = λ t ge e. subst (λ p. is_some (number_at a p) ≡ false) (omega (arith, e)) gone;
}

-- where no sample is missing, no window lacks one
pub all_are_free : (m : ℕ) (a : Series) (start end k : ℕ) → IsClear a start start end → start + k + m ≤ end
    → true ≡ is_free m a (start + k)
all_are_free m a start end k h le =
    sym (all_free m a (start + k) (λ t ge lt. h.present t (omega (arith, ge)) (omega (arith, lt, le))))

pub there_at : (samples : List Sample) (place : ℕ) (sample : Sample) (b : Bool)
    → sample ≡ slice_index_or samples place Missing → b ≡ is_some (reading_of sample)
    → b ≡ is_some (number_at (series_of samples) place)
there_at samples place sample b same e =
    e ∙ ap (λ s. is_some (reading_of s)) same ∙ ap is_some (sym (series_are_of_samples.numbers samples place))
