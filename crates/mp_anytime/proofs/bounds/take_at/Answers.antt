use Rattle.std.proofs.Common.{◌≡◌, ℕ, ◌<◌, ◌≤◌, ◌∙◌, ap, sym, subst, rules, w32, FitsSigned, get_or}
use Rattle.std.proofs.Common.{to_z, ℤ, Bool, true, false, arith}
use Rattle.std.specs.Prelude.{◌⊎◌, ◌<ℤ◌, ◌≤ℤ◌}
use Rattle.std.proofs.lemmas.Int.{ints, to_z-of_z}
use Rattle.mp_sums.specs.Residues.{item}
use Rattle.mp_anytime.specs.Told.{IsTold, slot_by}
use Rattle.mp_anytime.proofs.Told.{before_is_lower, kept_told, lower_put, nearer_told, put_told, told_put}
use Rattle.mp_anytime.proofs.bounds.take_at.Goals.{then-comes, else-comes, then-comes-2, else-comes-2}
use Rattle.mp_anytime.proofs.bounds.take_at.Goals as goal

both_ways : (t : Bool) → t ≡ true → t ≡ false → ⊥
both_ways true p q = absurd (cc)
both_ways false p q = absurd (cc)

by_numbers : (a a' b b' : ℤ) (s t : ℕ) → a ≡ a' → b ≡ b' → (a <ℤ b) ⊎ ((a ≡ b) × (s < t))
    → (a' <ℤ b') ⊎ ((a' ≡ b') × (s < t))
by_numbers a a' b b' s t e f h =
    subst (λ x. (x <ℤ b') ⊎ ((x ≡ b') × (s < t))) e (subst (λ y. (a <ℤ y) ⊎ ((a ≡ y) × (s < t))) f h)

by_numbers_too : (a a' b b' : ℤ) (s t : ℕ) → a ≡ a' → b ≡ b' → (a <ℤ b) ⊎ ((a ≡ b) × (s ≤ t))
    → (a' <ℤ b') ⊎ ((a' ≡ b') × (s ≤ t))
by_numbers_too a a' b b' s t e f h =
    subst (λ x. (x <ℤ b') ⊎ ((x ≡ b') × (s ≤ t))) e (subst (λ y. (a <ℤ y) ⊎ ((a ≡ y) × (s ≤ t))) f h)

pub returns-clause-slots : goal.returns-clause-slots
returns-clause-slots c =
    let windows = c.args.windows.now in
    let starts = c.args.starts.now in
    let place = c.args.place in
    let residue = c.args.residue in
    let start = c.args.start in
    let there = item windows place in
    let known = get_or starts place 0 in
    let fits : FitsSigned w32 residue = search rules in
    let there_fits : FitsSigned w32 there = search rules in
    let same = to_z-of_z w32 residue fits in
    let there_same = to_z-of_z w32 there there_fits in
    elim c.if-comes.branch [
      | then-comes w ↦ elim c.if-comes-2.branch [
        | then-comes-2 v ↦
            put_told windows starts place (to_z w32 c.if-comes.windows-bits) c.if-comes-2.starts (slot_by residue start)
            c.requires.same c.requires.window
            (nearer_told there residue known start (c.requires.told.each place c.requires.window) c.requires.residue
            (by_numbers _ residue _ there start known same there_same
            (c.comes_before-comes.ensures.before w.if-comes.true))
            ∙ ap (λ z. slot_by z start) (sym same ∙ sym w.windows-is)
            ∙ ap (slot_by (to_z w32 c.if-comes.windows-bits)) (sym v.starts-is))
        | else-comes-2 v ↦ absurd (both_ways c.comes_before-comes.result w.if-comes.true v.if-comes-2.false)
      ]
      | else-comes w ↦ elim c.if-comes-2.branch [
        | then-comes-2 v ↦ absurd (both_ways c.comes_before-comes.result v.if-comes-2.true w.if-comes.false)
        | else-comes-2 v ↦
            put_told windows starts place (to_z w32 c.if-comes.windows-bits) c.if-comes-2.starts (slot_by residue start)
            c.requires.same c.requires.window
            (kept_told there residue known start (c.requires.told.each place c.requires.window) c.requires.residue
            (by_numbers_too _ there _ residue known start there_same same
            (c.comes_before-comes.ensures.behind w.if-comes.false))
            ∙ ap (λ z. slot_by z known) (sym there_same ∙ sym w.windows-is)
            ∙ ap (slot_by (to_z w32 c.if-comes.windows-bits)) (sym v.starts-is))
      ]
    ]

no_greater : (x y : ℤ) → x ≡ y → x ≤ℤ y
no_greater x y e = omega (arith, ints, e)

pub returns-clause-lower : goal.returns-clause-lower
returns-clause-lower c =
    let windows = c.args.windows.now in
    let place = c.args.place in
    let residue = c.args.residue in
    let there = item windows place in
    let known = get_or c.args.starts.now place 0 in
    let fits : FitsSigned w32 residue = search rules in
    let there_fits : FitsSigned w32 there = search rules in
    let same = to_z-of_z w32 residue fits in
    let there_same = to_z-of_z w32 there there_fits in
    lower_put windows place (to_z w32 c.if-comes.windows-bits) c.requires.window (elim c.if-comes.branch [
      | then-comes w ↦
          subst (λ z. z ≤ℤ there) (sym (w.windows-is ∙ same))
          (before_is_lower there residue known c.args.start
          (by_numbers _ residue _ there c.args.start known same there_same
          (c.comes_before-comes.ensures.before w.if-comes.true)))
      | else-comes w ↦ no_greater (to_z w32 c.if-comes.windows-bits) there (w.windows-is ∙ there_same)
    ])

pub returns-clause-told : goal.returns-clause-told
returns-clause-told c =
    let windows = c.args.windows.now in
    let place = c.args.place in
    let residue = c.args.residue in
    let there = item windows place in
    let fits : FitsSigned w32 residue = search rules in
    let there_fits : FitsSigned w32 there = search rules in
    told_put windows place (to_z w32 c.if-comes.windows-bits) c.requires.told c.requires.window
    (elim c.if-comes.branch [
      | then-comes w ↦ subst IsTold (sym (w.windows-is ∙ to_z-of_z w32 residue fits)) c.requires.residue
      | else-comes w ↦
          subst IsTold (sym (w.windows-is ∙ to_z-of_z w32 there there_fits))
          (c.requires.told.each place c.requires.window)
    ])
