-- What holds of a sink behind several reports.
use Rattle.std.specs.Prelude.{◌≡◌, ◌⊎◌, ℕ, ◌+◌, ◌≤◌, true, List, [], ◌∷◌, ◌++◌, length, take, Some}
use Rattle.std.specs.List.{concat}
use Rattle.std.proofs.Common.{refl, sym, ap, ◌∙◌, inl, inr, arith, append_assoc, append-nil, length-append}
use Rattle.std.proofs.Math.Seq.{take-append-add}
use Rattle.std.proofs.lemmas.List.{nil_from_length}
use Rattle.mp_outside.specs.declared.sinks.Sink.{Ghosts}
use Rattle.mp_feed.specs.Writing.{TellsPrefix, WroteReport, Wrote, none, report, WroteFront}

nil_front : (front rest : List ℕ) → front ++ rest ≡ [] → front ≡ []
nil_front front rest empty = nil_from_length front (omega (arith, length-append front rest, ap length empty))

nil_rest : (front rest : List ℕ) → front ++ rest ≡ [] → rest ≡ []
nil_rest front rest empty = nil_from_length rest (omega (arith, length-append front rest, ap length empty))

-- flushed or as it was, and later flushed or as it was then
flushed_still : {Out : Type 0} (sink : Ghosts Out) {first then_out now : Out}
    → (sink.flushed then_out ≡ true) ⊎ (then_out ≡ first)
    → (sink.flushed now ≡ true) ⊎ (now ≡ then_out) → (sink.flushed now ≡ true) ⊎ (now ≡ first)
flushed_still sink earlier (inl is) = inl is
flushed_still sink (inl was) (inr same) = inl (ap sink.flushed same ∙ was)
flushed_still sink (inr was) (inr same) = inr (same ∙ was)

module _ {Out : Type 0} {sink : Ghosts Out} where
  pub wrote_on : {texts more : List (List ℕ)} {before then_out now : Out}
      → Wrote sink texts before then_out → Wrote sink more then_out now → Wrote sink (texts ++ more) before now
  wrote_on none later = later
  wrote_on (report one others) later = report one (wrote_on others later)

  pub wrote_one : {text : List ℕ} {before now : Out}
      → WroteReport sink text before now → Wrote sink (text ∷ []) before now
  wrote_one one = report one none

  pub wrote_room : {texts : List (List ℕ)} {before now : Out}
      → Wrote sink texts before now → sink.room now ≡ sink.room before
  wrote_room none = refl
  wrote_room (report one others) = wrote_room others ∙ one.room_is

  pub wrote_faults : {texts : List (List ℕ)} {before now : Out}
      → Wrote sink texts before now → sink.faults before ≤ sink.faults now
  wrote_faults none = omega arith
  wrote_faults (report one others) = omega (arith, one.faults_rise, wrote_faults others)

  -- the reports are told one behind the other
  pub wrote_told : {texts : List (List ℕ)} {before now : Out} → Wrote sink texts before now
      → (first : List ℕ) → sink.written before ≡ Some first → length first + length (concat texts) ≤ sink.room before
      → sink.written now ≡ Some (first ++ concat texts)
  wrote_told none first told fits = told ∙ ap Some (sym (append-nil first))
  wrote_told {before = before} (report {text = text} {texts = texts} one others) first told fits =
      let both = length-append text (concat texts) in
      wrote_told others (first ++ text) (one.told first told (omega (arith, both, fits)))
      (omega (arith, both, fits, length-append first text, one.room_is))
      ∙ ap Some (append_assoc first text (concat texts))

  -- reports without a byte leave the sink alone
  pub wrote_nothing : {texts : List (List ℕ)} {before now : Out}
      → Wrote sink texts before now → concat texts ≡ [] → now ≡ before
  wrote_nothing none empty = refl
  wrote_nothing (report {text = text} {texts = texts} one others) empty =
      wrote_nothing others (nil_rest text (concat texts) empty) ∙ one.untouched (nil_front text (concat texts) empty)

  flushed_by : {text : List ℕ} {before now : Out}
      → WroteReport sink text before now → (sink.flushed now ≡ true) ⊎ (now ≡ before)
  flushed_by {text = []} one = inr (one.untouched refl)
  flushed_by {text = b ∷ bs} one = inl (one.flushed (omega arith))

  -- the sink is flushed, or nothing was done with it
  pub wrote_flushed : {texts : List (List ℕ)} {before now : Out} → Wrote sink texts before now
      → (sink.flushed now ≡ true) ⊎ (now ≡ before)
  wrote_flushed none = inr refl
  wrote_flushed (report one others) = flushed_still sink (flushed_by one) (wrote_flushed others)

  -- a front of one more report is told behind them
  pub front_told : {texts : List (List ℕ)} {text : List ℕ} {before then_out now : Out}
      → Wrote sink texts before then_out → WroteFront sink text then_out now
      → (first : List ℕ) → sink.written before ≡ Some first
      → length first + length (concat texts ++ text) ≤ sink.room before
      → TellsPrefix (sink.written now) first (concat texts ++ text)
  front_told {texts = texts} {text = text} {now = now} whole front first told fits =
      let so_far = concat texts in
      let both = length-append so_far text in
      let behind : TellsPrefix (sink.written now) (first ++ so_far) text =
      front.told (first ++ so_far) (wrote_told whole first told (omega (arith, both, fits)))
      (omega (arith, both, fits, length-append first so_far, wrote_room whole)) in (
        length so_far + behind.0,
        omega (arith, both, behind.1),
        behind.2 ∙ ap Some (append_assoc first so_far (take behind.0 text)
            ∙ ap (λ t. first ++ t) (sym (take-append-add so_far text behind.0))),
      )
