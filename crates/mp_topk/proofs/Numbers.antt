-- Slots that are compared by their numbers, and what is put among them where there may be none.
use Rattle.std.proofs.Common.{◌≡◌, ℕ, ◌-◌, ◌<◌, ◌≤◌, List, [], length, get_or, map, take, refl, sym, ap, subst, ◌∙◌}
use Rattle.std.proofs.Common.{arith, Bool, set, true, false}
use Rattle.std.specs.Prelude.{Option, Some, None, if◌then◌else◌}
use Rattle.std.proofs.lemmas.List.{length-take}
use Rattle.mp_nums.specs.declared.nearest.Near.{Near}
use Rattle.mp_nums.specs.Near.{comes_before, nearer_of}
use Rattle.mp_results.specs.Ranks.{put_if_there}
use Rattle.mp_tiles.specs.Compact.{slot_before}
use Rattle.mp_topk.specs.Ranking.{AreRanked, is_rising, later_of, padded, put_at, those_in}
use Rattle.mp_topk.specs.RankLaws.{put_rises, take_few, take_rises}
use Rattle.mp_topk.specs.LastLaws.{last_covers_of}
use Rattle.mp_topk.specs.TakingLaws.{GivesNothing}
use Rattle.mp_topk.proofs.Places.{is_put_at, place_list}
use Rattle.mp_topk.proofs.Through.{all_passed, is_put, none_passes, padded_ranked, passed, those_padded, through}

not_both : (t : Bool) → t ≡ true → t ≡ false → ⊥
not_both t e f = cc

-- ---- which of two comes later

pub later_first : (a b : Option Near) → slot_before b a ≡ true → a ≡ later_of a b
later_first None b e = refl
later_first (Some x) None e = absurd (cc)
later_first (Some x) (Some y) e =
    sym (ap (λ t. if t then Some x else if comes_before x y then Some y else None) e)

pub later_second : (a b : Option Near) → slot_before b a ≡ false → slot_before a b ≡ true → b ≡ later_of a b
later_second None b e f = absurd (cc)
later_second (Some x) None e f = refl
later_second (Some x) (Some y) e f =
    sym (ap (λ t. if t then Some x else if comes_before x y then Some y else None) e
    ∙ ap (λ t. if t then Some y else None) f)

pub later_none : (a b : Option Near) → slot_before b a ≡ false → slot_before a b ≡ false → None ≡ later_of a b
later_none None b e f = refl
later_none (Some x) None e f = refl
later_none (Some x) (Some y) e f =
    sym (ap (λ t. if t then Some x else if comes_before x y then Some y else None) e
    ∙ ap (λ t. if t then Some y else None) f)

-- ---- what is put where there may be none

-- what doesn't come before the last of the slots gives them nothing
pub nothing_given : (k : ℕ) (slots : List (Option Near)) (found : Option Near) → (k ≡ 0 → ⊥) → AreRanked k slots
    → nearer_of (get_or slots (k - 1) None) found ≡ get_or slots (k - 1) None
    → take k (put_if_there found (those_in slots)) ≡ those_in slots
nothing_given k slots None some ranked e = take_few k (those_in slots) ranked.few
nothing_given k slots (Some x) some ranked e = last_covers_of k x.index x.dist.0 slots some ranked e

put_slot_rises : (found : Option Near) (xs : List Near) → is_rising xs ≡ true
    → is_rising (put_if_there found xs) ≡ true
put_slot_rises None xs h = h
put_slot_rises (Some x) xs h = put_rises x xs h

-- what stands in the slots of a place behind the last one
slots_are : (place k : ℕ) (found c : Option Near) (old slots : List (Option Near)) → AreRanked k old
    → length slots ≤ place → passed place c slots ≡ through found old
    → slots ≡ padded k (take k (put_if_there found (those_in old)))
slots_are place k (Some x) c old slots ranked le e = is_put place k x c old slots ranked le e
slots_are place k None c old slots ranked le e = sym (all_passed place c slots le) ∙ e ∙ none_passes old
    ∙ ranked.padded ∙ ap (padded k) (sym (take_few k (those_in old) ranked.few))

few_are : (k : ℕ) (found : Option Near) (xs : List Near) → length (take k (put_if_there found xs)) ≤ k
few_are k found xs = omega (arith, length-take k (put_if_there found xs))

pub those_are : (place k : ℕ) (found c : Option Near) (old slots : List (Option Near)) → AreRanked k old
    → length slots ≤ place → passed place c slots ≡ through found old
    → those_in slots ≡ take k (put_if_there found (those_in old))
those_are place k found c old slots ranked le e =
    ap those_in (slots_are place k found c old slots ranked le e)
    ∙ those_padded k (take k (put_if_there found (those_in old))) (few_are k found (those_in old))

pub still_ranked : (place k : ℕ) (found c : Option Near) (old slots : List (Option Near)) → AreRanked k old
    → length slots ≤ place → passed place c slots ≡ through found old → AreRanked k slots
still_ranked place k found c old slots ranked le e =
    subst (AreRanked k) (sym (slots_are place k found c old slots ranked le e))
    (padded_ranked k (take k (put_if_there found (those_in old))) (few_are k found (those_in old))
    (take_rises k (put_if_there found (those_in old)) (put_slot_rises found (those_in old) ranked.rising)))

-- ---- places

-- the window that is put at a place
pub put_there : (k i : ℕ) (x : Near) (found : Option Near) (places : List (List (Option Near)))
    (slots : List (Option Near)) → i < length places → found ≡ Some x
    → those_in slots ≡ take k (put_if_there found (those_in (get_or places i [])))
    → map those_in (set places i slots) ≡ put_at k (map those_in places) i x
put_there k i x found places slots lt e f = is_put_at k i x places slots lt
    (f ∙ ap (λ s. take k (put_if_there s (those_in (get_or places i [])))) e)

-- a window that gives the slots of a place nothing
pub nothing_there : (k i : ℕ) (x : Near) (found : Option Near) (places : List (List (Option Near)))
    → i < length places → found ≡ Some x
    → take k (put_if_there found (those_in (get_or places i []))) ≡ those_in (get_or places i [])
    → GivesNothing k (get_or (map those_in places) i []) x
nothing_there k i x found places lt e f = subst (λ list. GivesNothing k list x) (place_list i places lt)
    (ap (λ s. take k (put_if_there s (those_in (get_or places i [])))) (sym e) ∙ f)
