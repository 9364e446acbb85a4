use Rattle.std.proofs.Common.{rules, ◌≡◌, ◌<◌, ◌∙◌, ◌∷◌, List, ap, arith, length, sym, subst, take}
use Rattle.std.proofs.lemmas.List.{take_more_set}
use Rattle.mp_bytes.specs.Fields.{fields_in}
use Rattle.mp_replies.specs.declared.refs.Ref.{Ref}
use Rattle.mp_replies.specs.Numbers.{ref, refs}
use Rattle.mp_lines.proofs.ReadLemmas.{AreCounted, front_more, in_front}
use Rattle.mp_lines.proofs.RefLemmas.{counted_fits}
use Rattle.mp_lines.proofs.ref_lists.Refs.gather.Goals as goal

pub loop-text-preserved : goal.loop-text-preserved
loop-text-preserved c =
    let all = fields_in c.args.self.field.now in
    let text = c.in-Some.text.now in
    let left = fields_in c.next.new.self.text.now in
    let count = c.loop-text.count in
    let room = c.loop-text.room in
    let steps : fields_in c.loop-text.text-iterator.text.now ≡ text ∷ left = c.in-Some.ensures.steps in
    let counted : AreCounted all (text ∷ left) count =
    subst (λ fields. AreCounted all fields count) steps c.loop-text.invariant.counted in
    let below : count < length room =
    omega (arith, counted_fits all text left count c.args.self.counted counted, c.loop-text.auto.room, c.requires) in
    record {
      counted = search rules;
      gathered =
          front_more ref (refs all) (take count room) text left c.unwrap.result
          (sym c.read_ref.ensures ∙ c.unwrap.ensures)
          (c.loop-text.invariant.gathered ∙ ap (λ fields. in_front (take count room) (refs fields)) steps)
          ∙ ap (λ (first : List Ref). in_front first (refs left))
          (sym (take_more_set room count c.unwrap.result below));
    }
