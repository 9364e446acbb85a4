use Rattle.std.proofs.Common.{◌≡◌, ◌∙◌, ap, arith, get_or, length, sym, true, false}
use Rattle.std.proofs.lemmas.List.{get_or-replicate, length-replicate}
use Rattle.std.specs.Prelude.{replicate, Bool}
use Rattle.mp_defs.specs.Series.{series_of}
use Rattle.mp_defs.specs.SeriesLaws.{series_are_of_samples}
use Rattle.mp_defs.specs.Window.{is_free, windows}
use Rattle.mp_defs.specs.Profile.{windows_of}
use Rattle.mp_anytime.proofs.Free.{all_free}
use Rattle.mp_anytime.proofs.diagonals.free_windows.Goals as goal

pub returns-then-free : goal.returns-then-free
returns-then-free c =
    let items = c.args.samples.now.items in
    let m = c.args.m in
    let free = c.in_ok-vec.field-0.items in
    let count = c.windows-count.result in
    let all : free ≡ replicate count true = c.in_ok-vec.ensures.items_if_clones_equal (λ y e. e) in
    let places : length free ≡ count = ap length all ∙ length-replicate {A = Bool} count true in
    let here : windows_of m (series_of items) ≡ windows (length items) m = series_are_of_samples.windows_are m items in
    let windows_there : count ≡ windows (length items) m =
    omega (arith, c.windows-count.ensures, c.len.ensures.length) in
    all_free (length items) m (series_of items) free
    (ap (λ n. is_free n (series_of items) 0) (sym c.len-2.ensures.length) ∙ sym c.free.ensures ∙ c.if-free.true)
    (places ∙ windows_there ∙ sym here) (λ i lt. omega (arith, lt, here))
    (λ i lt. ap (λ v. get_or v i false) all ∙ get_or-replicate count i true false (omega (arith, lt, places)))
