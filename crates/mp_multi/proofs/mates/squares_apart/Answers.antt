use Rattle.std.proofs.Common.{◌≡◌, ◌∙◌, List, arith, drop, length, length-drop, rules, sym}
use Rattle.std.specs.Simd.Lanes.{chunk, zip2}
use Rattle.std.proofs.lemmas.Simd.{length-chunk, length-zip2}
use Rattle.mp_multi.proofs.mates.squares_apart.Goals as goal

both_long : {A B C : Type 0} → (f : A → B → C) (xs : List A) (ys : List B) → length xs ≡ 8 → length ys ≡ 8
    → length (zip2 f xs ys) ≡ 8
both_long f xs ys long other = length-zip2 f xs ys (long ∙ sym other) ∙ long

pub returns : goal.returns
returns c =
    let others : length (chunk 0 8 (drop c.args.place c.args.others.now)) ≡ 8 =
    length-chunk 0 8 (drop c.args.place c.args.others.now)
    (omega (arith, c.requires, length-drop c.args.place c.args.others.now)) in
    search (rules, both_long)
