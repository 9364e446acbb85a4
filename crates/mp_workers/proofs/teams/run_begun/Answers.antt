use Rattle.std.proofs.Common.{◌≡◌, length, refl, sym, ap, subst, ◌∙◌, arith}
use Rattle.std.specs.Prelude.{All, replicate}
use Rattle.std.proofs.lemmas.List.Elements.{All-push, All-weaker}
use Rattle.std.proofs.lemmas.Result.{IfOk-weaker}
use Rattle.mp_partial.specs.Values.{merged_below}
use Rattle.mp_workers.specs.Begins.{AreAhead}
use Rattle.mp_workers.proofs.Beginning.{taken_out, units_ahead}
use Rattle.mp_workers.proofs.PartLaws.{all_alike, as_many}
use Rattle.mp_workers.proofs.Teaming.{all_is_value, written_back}
use Rattle.mp_workers.proofs.teams.run_begun.Goals as goal

pub begin_all-requires-clause-kept : goal.begin_all-requires-clause-kept
begin_all-requires-clause-kept g c _ _ =
    -- what is known of a part and of a kernel holds in every thread, this one among them
    let part_laws = g.met.P.Part g.world.𝓛 g.world.𝓜 g.world.𝓡 ((λ s x. x), (λ x. x), (λ x. x), λ x. x) in
    let kernel_laws = g.met.K.Kernel g.world.𝓛 g.world.𝓜 g.world.𝓡 ((λ s x. x), (λ x. x), (λ x. x), λ x. x) in
    let part = g.P.Part in
    let kernel = g.K.Kernel in
    let size = g.B.Begin.size_of c.args.ahead.now in
    let whole = g.B.Begin.whole c.args.ahead.now in
    let same = c.requires.same_size in
    let n = c.with_work.result in
    let is : part.is_value size whole =
    subst (λ k. part.is_value k whole) (sym same)
    (subst (part.is_value (kernel.size_of c.args.kernel.now)) (sym c.requires.whole)
    (all_is_value part.is_value part.unit_of part.merged part_laws.laws (kernel.size_of c.args.kernel.now)
    (kernel.value_of c.args.kernel.now) (kernel.pieces_of c.args.kernel.now)
    (λ k lt. kernel_laws.has_values c.args.kernel.now k lt))) in
    subst (AreAhead part.size_of part.is_value part.value part.merged size whole) (sym c.as_mut_slice.ensures.value)
    (units_ahead part.size_of part.is_value part.value part.merged size whole part.unit_of part_laws.laws
    c.in_ok-parts.parts.items is
    (all_alike part.size_of part.value size (part.unit_of size) c.in_ok-parts.parts.items n n
    (c.in_ok-parts.ensures.sizes ∙ ap (replicate n) (c.size.ensures ∙ sym same))
    (c.in_ok-parts.ensures.values ∙ ap (λ k. replicate n (part.unit_of k)) (c.size.ensures ∙ sym same))))

pub hand_on-requires-clause-sizes : goal.hand_on-requires-clause-sizes
hand_on-requires-clause-sizes g c _ _ =
    let part = g.P.Part in
    let units = c.in_ok-parts in
    let begun = c.begin_all.new.parts in
    let count : length begun ≡ length units.parts.items =
    c.begin_all.auto.parts ∙ ap length c.as_mut_slice.ensures.value in
    (taken_out part.size_of part.is_value part.value part.merged (g.B.Begin.size_of c.args.ahead.now)
    (g.B.Begin.whole c.args.ahead.now) begun _ _ _ units.parts.items c.with_work.result c.size.result
    c.begin_all.ensures count units.ensures.sizes c.with_work.ensures.some
    (written_back begun units.parts.items units.parts.len (omega (arith, count, units.parts.ok)))
    c.swap_remove-found.ensures.value c.swap_remove-found.ensures.items).1

pub run_from-requires-clause-workers : goal.run_from-requires-clause-workers
run_from-requires-clause-workers g c _ _ =
    let units = c.in_ok-parts in
    omega (
      arith,
      c.in_ok-push.ensures.len,
      c.hand_on.ensures.count,
      c.swap_remove-found.ensures.len,
      as_many g.P.Part.size_of c.size.result units.parts.items c.with_work.result units.ensures.sizes,
      c.with_work.ensures.within,
      c.requires.workers,
    )

pub run_from-requires-clause-alike : goal.run_from-requires-clause-alike
run_from-requires-clause-alike g c _ _ =
    let part = g.P.Part in
    let size = g.K.Kernel.size_of c.args.kernel.now in
    let units = c.in_ok-parts in
    let begun = c.begin_all.new.parts in
    let found = c.swap_remove-found.result in
    let start = part.value found in
    let count : length begun ≡ length units.parts.items =
    c.begin_all.auto.parts ∙ ap length c.as_mut_slice.ensures.value in
    let first = (taken_out part.size_of part.is_value part.value part.merged (g.B.Begin.size_of c.args.ahead.now)
    (g.B.Begin.whole c.args.ahead.now) begun _ _ _ units.parts.items c.with_work.result c.size.result
    c.begin_all.ensures count units.ensures.sizes c.with_work.ensures.some
    (written_back begun units.parts.items units.parts.len (omega (arith, count, units.parts.ok)))
    c.swap_remove-found.ensures.value c.swap_remove-found.ensures.items).0 in
    let same = c.requires.same_size in
    let size_is : part.size_of found ≡ size = first.size_is ∙ same in (
      start,
      subst (λ n. part.is_value n start) same first.is_value,
      subst (All (λ p. (part.size_of p ≡ size) × (part.value p ≡ start))) (sym c.in_ok-push.ensures.items)
          (All-push (λ p. (part.size_of p ≡ size) × (part.value p ≡ start)) c.hand_on.new.parts.items found
          (All-weaker (λ p. (part.size_of p ≡ part.size_of found) × (part.value p ≡ start))
          (λ p. (part.size_of p ≡ size) × (part.value p ≡ start)) (λ p alike. (alike.0 ∙ size_is, alike.1))
          c.hand_on.new.parts.items c.hand_on.ensures.alike) (size_is, refl)),
    )

pub returns-clause-value : goal.returns-clause-value
returns-clause-value g c =
    let part = g.P.Part in
    let kernel = g.K.Kernel in
    let size = kernel.size_of c.args.kernel.now in
    let whole = g.B.Begin.whole c.args.ahead.now in
    let units = c.in_ok-parts in
    let begun = c.begin_all.new.parts in
    let found = c.swap_remove-found.result in
    let start = part.value found in
    let count : length begun ≡ length units.parts.items =
    c.begin_all.auto.parts ∙ ap length c.as_mut_slice.ensures.value in
    let first = (taken_out part.size_of part.is_value part.value part.merged (g.B.Begin.size_of c.args.ahead.now) whole
    begun _ _ _ units.parts.items c.with_work.result c.size.result
    c.begin_all.ensures count units.ensures.sizes c.with_work.ensures.some
    (written_back begun units.parts.items units.parts.len (omega (arith, count, units.parts.ok)))
    c.swap_remove-found.ensures.value c.swap_remove-found.ensures.items).0 in
    let same = c.requires.same_size in
    let size_is : part.size_of found ≡ size = first.size_is ∙ same in
    IfOk-weaker c.run_from.result _ _
    (λ out value. value start (subst (λ n. part.is_value n start) same first.is_value)
    (subst (All (λ p. (part.size_of p ≡ size) × (part.value p ≡ start))) (sym c.in_ok-push.ensures.items)
    (All-push (λ p. (part.size_of p ≡ size) × (part.value p ≡ start)) c.hand_on.new.parts.items found
    (All-weaker (λ p. (part.size_of p ≡ part.size_of found) × (part.value p ≡ start))
    (λ p. (part.size_of p ≡ size) × (part.value p ≡ start)) (λ p alike. (alike.0 ∙ size_is, alike.1))
    c.hand_on.new.parts.items c.hand_on.ensures.alike) (size_is, refl)))
    ∙ ap (λ n. part.merged start (merged_below part.merged (part.unit_of size) (kernel.value_of c.args.kernel.now) n))
    c.pieces-pieces.ensures
    ∙ ap (part.merged start) (sym c.requires.whole)
    ∙ first.within)
    c.run_from.ensures.value
