use Rattle.std.proofs.Common.{◌≡◌, refl, sym, ap, subst, ◌∙◌, arith}
use Rattle.std.specs.Prelude.{All, replicate}
use Rattle.std.proofs.lemmas.List.Elements.{All-push, All-weaker}
use Rattle.std.proofs.lemmas.Result.{IfOk-weaker}
use Rattle.mp_partial.specs.Values.{merged_below}
use Rattle.mp_workers.proofs.PartLaws.{all_alike}
use Rattle.mp_workers.proofs.Teaming.{all_is_value}
use Rattle.mp_workers.proofs.teams.run_one_after_another.Goals as goal

pub run_from-requires-clause-alike : goal.run_from-requires-clause-alike
run_from-requires-clause-alike g c _ _ =
    -- what is known of a part holds in every thread, this one among them
    let part_laws = g.met.P.Part g.world.𝓛 g.world.𝓜 g.world.𝓡 ((λ s x. x), (λ x. x), (λ x. x), λ x. x) in
    let part = g.P.Part in
    let size = g.A.Kernel.size_of c.args.first.now in (
      part.unit_of size,
      part_laws.laws.unit_is_value size,
      all_alike part.size_of part.value size (part.unit_of size) c.in_ok-parts.parts.items _ _
          (c.in_ok-parts.ensures.sizes ∙ ap (replicate c.with_work.result) c.size.ensures)
          (c.in_ok-parts.ensures.values ∙ ap (λ n. replicate c.with_work.result (part.unit_of n)) c.size.ensures),
    )

pub hand_on-requires-clause-is_value : goal.hand_on-requires-clause-is_value
hand_on-requires-clause-is_value g c _ _ =
    subst (λ n. g.P.Part.is_value n (g.P.Part.value c.in_ok-found.found)) (sym c.in_ok-found.ensures.size)
    c.in_ok-found.ensures.is_value

pub returns-clause-value : goal.returns-clause-value
returns-clause-value g c =
    let part_laws = g.met.P.Part g.world.𝓛 g.world.𝓜 g.world.𝓡 ((λ s x. x), (λ x. x), (λ x. x), λ x. x) in
    let kernel_laws = g.met.A.Kernel g.world.𝓛 g.world.𝓜 g.world.𝓡 ((λ s x. x), (λ x. x), (λ x. x), λ x. x) in
    let part = g.P.Part in
    let first = g.A.Kernel in
    let second = g.K.Kernel in
    let size = first.size_of c.args.first.now in
    let next_size = second.size_of c.args.second.now in
    let same = c.requires.same_size in
    let found = c.in_ok-found.found in
    let start = part.value found in
    let ahead : start ≡ merged_below part.merged (part.unit_of size) (first.value_of c.args.first.now)
    (first.pieces_of c.args.first.now) =
    c.in_ok-found.ensures.value (part.unit_of size) (part_laws.laws.unit_is_value size)
    (all_alike part.size_of part.value size (part.unit_of size) c.in_ok-parts.parts.items _ _
    (c.in_ok-parts.ensures.sizes ∙ ap (replicate c.with_work.result) c.size.ensures)
    (c.in_ok-parts.ensures.values ∙ ap (λ n. replicate c.with_work.result (part.unit_of n)) c.size.ensures))
    ∙ part_laws.laws.unit_first size _
    (all_is_value part.is_value part.unit_of part.merged part_laws.laws size (first.value_of c.args.first.now)
    c.pieces-ahead.result
    (λ k lt. kernel_laws.has_values c.args.first.now k (omega (arith, lt, c.pieces-ahead.ensures))))
    ∙ ap (merged_below part.merged (part.unit_of size) (first.value_of c.args.first.now)) c.pieces-ahead.ensures in
    let size_is = c.in_ok-found.ensures.size ∙ same in
    IfOk-weaker c.run_from-2.result _ _
    (λ out value. value start (subst (λ n. part.is_value n start) same c.in_ok-found.ensures.is_value)
    (subst (All (λ p. (part.size_of p ≡ next_size) × (part.value p ≡ start))) (sym c.in_ok-push.ensures.items)
    (All-push (λ p. (part.size_of p ≡ next_size) × (part.value p ≡ start)) c.hand_on.new.parts.items found
    (All-weaker (λ p. (part.size_of p ≡ part.size_of found) × (part.value p ≡ start))
    (λ p. (part.size_of p ≡ next_size) × (part.value p ≡ start)) (λ p alike. (alike.0 ∙ size_is, alike.1))
    c.hand_on.new.parts.items c.hand_on.ensures.alike) (size_is, refl)))
    ∙ ap (λ v. part.merged v (merged_below part.merged (part.unit_of next_size) (second.value_of c.args.second.now)
    c.pieces-pieces.result)) ahead
    ∙ ap (λ n. part.merged (merged_below part.merged (part.unit_of size) (first.value_of c.args.first.now)
    (first.pieces_of c.args.first.now)) (merged_below part.merged (part.unit_of n) (second.value_of c.args.second.now)
    c.pieces-pieces.result)) (sym same)
    ∙ ap (λ n. part.merged (merged_below part.merged (part.unit_of size) (first.value_of c.args.first.now)
    (first.pieces_of c.args.first.now)) (merged_below part.merged (part.unit_of size)
    (second.value_of c.args.second.now)
    n)) c.pieces-pieces.ensures)
    c.run_from-2.ensures.value
