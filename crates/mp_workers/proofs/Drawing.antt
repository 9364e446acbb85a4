-- What the steps of passes keep.
use Rattle.std.proofs.Common.{◌≡◌, ℕ, zero, suc, ◌+◌, ◌-◌, ◌%◌, ◌^◌, ◌<◌, ◌≤◌, List, [], ◌∷◌, ◌++◌, length, refl}
use Rattle.std.proofs.Common.{get_or, inl, inr, arith, ap, ◌∙◌, sym, subst, get_or-set_same}
use Rattle.std.specs.Prelude.{nat_le, ◌==◌, if◌then◌else◌, slice_index, sum_by, All}
use Rattle.std.proofs.Math.ListN.{set, length-set}
use Rattle.std.proofs.lemmas.Bool.Decides.{nat_tests}
use Rattle.std.proofs.lemmas.List.Sums.{sum_by-cons, sum_by-append, sum_by_push, sum_by-set, get_or-le-sum_by}
use Rattle.atomic_table.specs.Table.{State, Me, Splits, Joins, Allows, step, keeps}
use Rattle.atomic_table.proofs.Lists.{at_set, at_snoc, set_else}
use lib.ListN.{get_elem?}
use mathlib.Core.Option.{some, none, some-injective, some-ne-none}
use Rattle.mp_partial.specs.declared.limits.TheConstants.{MAX_PIECES}
use Rattle.mp_workers.specs.declared.passes.PassView.{PassView}
use Rattle.mp_workers.specs.Desks.{IsFair, IsFairView, Claims, times, past, once_below, pass_view, whole}
use Rattle.mp_workers.specs.Desks.{both_views, cut_left, cut_off, spent_view, HasEachBelow}

-- ---- sums along the views

view_at : (views : List PassView) (pass : ℕ) (view : PassView) → get_elem? views pass ≡ some view
    → (pass < length views) × (get_or views pass view ≡ view)
view_at [] pass view e = absurd (some-ne-none view (sym e))
view_at (x ∷ xs) zero view e = (omega arith, some-injective x view e)
view_at (x ∷ xs) (suc pass) view e = let rest = view_at xs pass view e in (omega (arith, rest.0), rest.1)

-- where one view changes
sum_changed : (f : PassView → ℕ) (views : List PassView) (pass : ℕ) (old new : PassView)
    → get_elem? views pass ≡ some old → sum_by f (set views pass new) + f old ≡ sum_by f views + f new
sum_changed f views pass old new e =
    let there = view_at views pass old e in
    ap (λ view. sum_by f (set views pass new) + f view) (sym there.1) ∙ sum_by-set f views pass new old there.0

-- what one view has is no more than what all have
one_within : (f : PassView → ℕ) (views : List PassView) (pass : ℕ) (view : PassView)
    → get_elem? views pass ≡ some view → f view ≤ sum_by f views
one_within f views pass view e =
    let there = view_at views pass view e in
    subst (λ v. f v ≤ sum_by f views) there.1 (get_or-le-sum_by f views pass view there.0)

-- sums keep an order that each view keeps
sum_within : (f g : PassView → ℕ) (views : List PassView)
    → ((pass : ℕ) (view : PassView) → get_elem? views pass ≡ some view → f view ≤ g view)
    → sum_by f views ≤ sum_by g views
sum_within f g [] each = omega arith
sum_within f g (x ∷ xs) each =
    let first : f x ≤ g x = each zero x refl in
    let rest : sum_by f xs ≤ sum_by g xs = sum_within f g xs (λ pass view e. each (suc pass) view e) in
    omega (arith, sum_by-cons f x xs, sum_by-cons g x xs)

-- strictly where one view keeps it strictly
sum_below : (f g : PassView → ℕ) (views : List PassView) (pass : ℕ) (view : PassView)
    → ((pass : ℕ) (view : PassView) → get_elem? views pass ≡ some view → f view ≤ g view)
    → get_elem? views pass ≡ some view → f view < g view → sum_by f views < sum_by g views
sum_below f g [] pass view each e lt = absurd (some-ne-none view (sym e))
sum_below f g (x ∷ xs) zero view each e lt =
    let first : f x < g x = subst (λ v. f v < g v) (sym (some-injective x view e)) lt in
    let rest : sum_by f xs ≤ sum_by g xs = sum_within f g xs (λ pass view e. each (suc pass) view e) in
    omega (arith, sum_by-cons f x xs, sum_by-cons g x xs)
sum_below f g (x ∷ xs) (suc pass) view each e lt =
    let first : f x ≤ g x = each zero x refl in
    let rest : sum_by f xs < sum_by g xs =
    sum_below f g xs pass view (λ pass view e. each (suc pass) view e) e lt in
    omega (arith, sum_by-cons f x xs, sum_by-cons g x xs)

-- a sum of zeros
sum_of_none : (f : PassView → ℕ) (views : List PassView)
    → ((pass : ℕ) (view : PassView) → get_elem? views pass ≡ some view → f view ≡ 0) → sum_by f views ≡ 0
sum_of_none f [] each = refl
sum_of_none f (x ∷ xs) each =
    let first : f x ≡ 0 = each zero x refl in
    let rest : sum_by f xs ≡ 0 = sum_of_none f xs (λ pass view e. each (suc pass) view e) in
    omega (arith, sum_by-cons f x xs)

-- one view is cut in two
sum_cut : (f : PassView → ℕ) (views : List PassView) (pass : ℕ) (view left right : PassView)
    → get_elem? views pass ≡ some view → f left + f right ≡ f view
    → sum_by f (set views pass left ++ right ∷ []) ≡ sum_by f views
sum_cut f views pass view left right e is =
    omega (arith, sum_by_push f (set views pass left) right, sum_changed f views pass view left e)

-- two views become one, and one that is spent
sum_joined : (f : PassView → ℕ) (views : List PassView) (pass other : ℕ) (view second both spent : PassView)
    → get_elem? views pass ≡ some view → get_elem? (set views pass both) other ≡ some second
    → f both + f spent ≡ f view + f second → sum_by f (set (set views pass both) other spent) ≡ sum_by f views
sum_joined f views pass other view second both spent e d is =
    omega (arith, sum_changed f (set views pass both) other second spent d, sum_changed f views pass view both e)

-- ---- one more number

one_more : (x number : ℕ) (numbers : List ℕ)
    → times x (numbers ++ number ∷ []) ≡ times x numbers + (if number == x then 1 else 0)
one_more x number numbers = sum_by_push (λ k. if k == x then 1 else 0) numbers number

one_more_past : (pieces number : ℕ) (numbers : List ℕ)
    → past pieces (numbers ++ number ∷ []) ≡ past pieces numbers + (if nat_le pieces number then 1 else 0)
one_more_past pieces number numbers = sum_by_push (λ k. if nat_le pieces k then 1 else 0) numbers number

one_more_below : (x next : ℕ) → once_below (next + 1) x ≡ once_below next x + (if next == x then 1 else 0)
one_more_below x next = grind (arith, nat_tests)

one_further : (pieces next : ℕ) → next + 1 - pieces ≡ next - pieces + (if nat_le pieces next then 1 else 0)
one_further pieces next = grind (arith, nat_tests)

at_most_one_more : (pieces next : ℕ) → (if nat_le pieces next then 1 else 0) ≤ 1
at_most_one_more pieces next = grind (arith, nat_tests)

-- ---- what the rule says of the word

-- it is not far past the pieces
word_bound : (pieces : ℕ) (s : State (Unit {0}) PassView) → IsFair pieces s → slice_index s.words 0 ≤ pieces + 64
word_bound pieces s fair =
    let each = sum_within (λ v. past pieces v.drawn) (λ v. v.weight) s.views (λ p v e. (fair.each p v e).few_past) in
    omega (arith, each, fair.weights, fair.past_pieces)

-- and less far where a pass may draw one more
word_below : (pieces : ℕ) (s : State (Unit {0}) PassView) (pass : ℕ) (view : PassView) → IsFair pieces s
    → get_elem? s.views pass ≡ some view → past pieces view.drawn < view.weight → slice_index s.words 0 < pieces + 64
word_below pieces s pass view fair e room =
    let less = sum_below (λ v. past pieces v.drawn) (λ v. v.weight) s.views pass view
    (λ p v d. (fair.each p v d).few_past) e room in
    omega (arith, less, fair.weights, fair.past_pieces)

-- a number that stands in a list is counted
counted : (numbers : List ℕ) (k d : ℕ) → k < length numbers → 1 ≤ times (get_or numbers k d) numbers
counted numbers k d lt =
    let x : ℕ = get_or numbers k d in
    let same : (if x == x then 1 else 0) ≡ 1 = grind (arith, nat_tests) in
    subst (λ n. n ≤ times x numbers) same (get_or-le-sum_by (λ number. if number == x then 1 else 0) numbers k d lt)

below_where_counted : (next x : ℕ) → 1 ≤ once_below next x → x < next
below_where_counted next x le = grind (arith, nat_tests)

-- every number that a pass drew is below the word
drawn_below : (pieces : ℕ) (s : State (Unit {0}) PassView) (pass : ℕ) (view : PassView) → IsFair pieces s
    → get_elem? s.views pass ≡ some view → All (λ number. number < slice_index s.words 0) view.drawn
drawn_below pieces s pass view fair e = λ k d lt.
    let x : ℕ = get_or view.drawn k d in
    below_where_counted (slice_index s.words 0) x
    (omega (arith, counted view.drawn k d lt, one_within (λ v. times x v.drawn) s.views pass view e, fair.once x))

-- ---- drawing a number

fair_claimed : (pieces : ℕ) (s : State (Unit {0}) PassView) (pass : ℕ) (view : PassView) → pieces ≤ MAX_PIECES
    → IsFair pieces s → get_elem? s.views pass ≡ some view → past pieces view.drawn < view.weight
    → IsFair pieces record {
      words = set s.words 0 ((slice_index s.words 0 + 1) % 2 ^ 64);
      homes = s.homes;
      views = set s.views pass (pass_view view.pieces view.weight (view.drawn ++ slice_index s.words 0 ∷ []));
    }
fair_claimed pieces s pass view few fair e room =
    let next : ℕ = slice_index s.words 0 in
    let new = pass_view view.pieces view.weight (view.drawn ++ slice_index s.words 0 ∷ []) in
    let bound = word_bound pieces s fair in
    let no_wrap : (slice_index s.words 0 + 1) % 2 ^ 64 ≡ slice_index s.words 0 + 1 = omega arith in
    let some_word : 0 < length s.words = omega (arith, fair.one_word) in
    let word : slice_index (set s.words 0 ((slice_index s.words 0 + 1) % 2 ^ 64)) 0 ≡ slice_index s.words 0 + 1 =
    rw get_or-set_same no_wrap in
    let more_past = one_more_past pieces next view.drawn in
    let old = fair.each pass view e in
    record {
      one_word = length-set s.words 0 ((slice_index s.words 0 + 1) % 2 ^ 64) ∙ fair.one_word;
      once = λ x. rw word (omega (
        arith,
        sum_changed (λ v. times x v.drawn) s.views pass view new e,
        one_more x next view.drawn,
        one_more_below x next,
        fair.once x,
      ));
      weights = omega (arith, sum_changed (λ v. v.weight) s.views pass view new e, fair.weights);
      past_pieces = rw word (omega (
        arith,
        sum_changed (λ v. past pieces v.drawn) s.views pass view new e,
        more_past,
        one_further pieces next,
        fair.past_pieces,
      ));
      each = λ other v d. elim (at_set s.views pass other new v d) [
        | inl same ↦ subst (IsFairView pieces) same.1 (record {
          few_past = omega (arith, more_past, at_most_one_more pieces next, room);
          spent = λ none. absurd (omega (arith, none, room));
          knows = old.knows;
        })
        | inr apart ↦ fair.each other v apart.1
      ];
    }

pub allows_claim : (pieces slots pass : ℕ) (me : Me (Unit {0}) PassView) → pieces ≤ MAX_PIECES
    → past pieces me.0.drawn < me.0.weight
    → Allows (IsFair pieces) slots pass me 0 (λ n. (n + 1) % 2 ^ 64) (Claims (step slots 0 1 0 none) me)
allows_claim pieces slots pass me few room s fair homes e fits =
    let known : me.0.pieces ≡ pieces = (fair.each pass me.0 e).knows (omega (arith, room)) in (
      pass_view me.0.pieces me.0.weight (me.0.drawn ++ slice_index s.words 0 ∷ []),
      keeps,
      tt,
      fair_claimed pieces s pass me.0 few fair e room,
      record {
        view = refl;
        slots = refl;
        greatest = drawn_below pieces s pass me.0 fair e;
        bound = omega (arith, known, word_below pieces s pass me.0 fair e room);
      },
    )

-- ---- cutting off a pass, and putting two together

pub splits : (pieces pass : ℕ) (view : PassView) → view.drawn ≡ [] → 2 ≤ view.weight
    → Splits (IsFair pieces) pass view (cut_left view) (cut_off view)
splits pieces pass view unused heavy s fair e =
    let cut = λ (f : PassView → ℕ). sum_cut f s.views pass view (cut_left view) (cut_off view) e in
    let old = fair.each pass view e in
    let known : view.pieces ≡ pieces = old.knows (omega (arith, heavy)) in
    record {
      one_word = fair.one_word;
      once = λ x. cut (λ v. times x v.drawn) (omega arith) ∙ fair.once x;
      weights = cut (λ v. v.weight) (omega (arith, heavy)) ∙ fair.weights;
      past_pieces = cut (λ v. past pieces v.drawn) (omega arith) ∙ fair.past_pieces;
      each = λ other v d. elim (at_snoc (set s.views pass (cut_left view)) (cut_off view) v other d) [
        | inl there ↦ elim (at_set s.views pass other (cut_left view) v there) [
          | inl same ↦ subst (IsFairView pieces) same.1 (record {
            few_past = rw unused (omega arith);
            spent = λ none. unused;
            knows = λ some. known;
          })
          | inr apart ↦ fair.each other v apart.1
        ]
        | inr new ↦ subst (IsFairView pieces) new (record {
          few_past = omega arith;
          spent = λ none. refl;
          knows = λ some. known;
        })
      ];
    }

pub joins : (pieces pass other : ℕ) (view second : PassView) → 0 < view.weight
    → Joins (IsFair pieces) pass view other second (both_views view second) spent_view
joins pieces pass other view second heavy s fair e ne d =
    let both = both_views view second in
    let joined = λ (f : PassView → ℕ). sum_joined f s.views pass other view second both spent_view e d in
    let there : get_elem? s.views other ≡ some second = sym (set_else s.views pass other both ne) ∙ d in
    let first_is = fair.each pass view e in
    let second_is = fair.each other second there in
    let past_both = sum_by-append (λ k. if nat_le pieces k then 1 else 0) view.drawn second.drawn in
    record {
      one_word = fair.one_word;
      once = λ x. joined (λ v. times x v.drawn)
          (omega (arith, sum_by-append (λ k. if k == x then 1 else 0) view.drawn second.drawn)) ∙ fair.once x;
      weights = joined (λ v. v.weight) (omega arith) ∙ fair.weights;
      past_pieces = joined (λ v. past pieces v.drawn) (omega (arith, past_both)) ∙ fair.past_pieces;
      each = λ pass' v at. elim (at_set (set s.views pass both) other pass' spent_view v at) [
        | inl same ↦ subst (IsFairView pieces) same.1 (record {
          few_past = omega arith;
          spent = λ none. refl;
          knows = λ some. absurd (omega (arith, some));
        })
        | inr apart ↦ elim (at_set s.views pass pass' both v apart.1) [
          | inl same ↦ subst (IsFairView pieces) same.1 (record {
            few_past = omega (arith, past_both, first_is.few_past, second_is.few_past);
            spent = λ none. absurd (omega (arith, none, heavy));
            knows = λ some. first_is.knows heavy;
          })
          | inr rest ↦ fair.each pass' v rest.1
        ]
      ];
    }

-- ---- closing

word_is : (words : List ℕ) (n : ℕ) → get_elem? words 0 ≡ some n → slice_index words 0 ≡ n
word_is [] n e = absurd (some-ne-none n (sym e))
word_is (x ∷ xs) n e = some-injective x n e

-- a pass with the whole weight drew all that was drawn
pub whole_drew_all : (pieces : ℕ) (s : State (Unit {0}) PassView) (pass : ℕ) (view : PassView) → IsFair pieces s
    → get_elem? s.views pass ≡ some view → view.weight ≡ whole → (next : ℕ) → get_elem? s.words 0 ≡ some next
    → HasEachBelow next view.drawn
whole_drew_all pieces s pass view fair e full next word x =
    let rest = set s.views pass spent_view in
    let no_weight : sum_by (λ v. v.weight) rest ≡ 0 =
    omega (arith, sum_changed (λ v. v.weight) s.views pass view spent_view e, fair.weights, full) in
    let none_drawn : sum_by (λ v. times x v.drawn) rest ≡ 0 = sum_of_none (λ v. times x v.drawn) rest
    (λ p v d. ap (times x) (elim (at_set s.views pass p spent_view v d) [
      | inl same ↦ ap (λ u. u.drawn) (sym same.1)
      | inr apart ↦ (fair.each p v apart.1).spent
          (omega (arith, one_within (λ v. v.weight) rest p v d, no_weight))
    ])) in
    rw (← word_is s.words next word)
    (omega (arith, sum_changed (λ v. times x v.drawn) s.views pass view spent_view e, fair.once x, none_drawn))
