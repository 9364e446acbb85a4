-- Samples that are appended one by one where the last ones are kept, and what stands at the windows that are.
use Rattle.std.proofs.Common.{◌≡◌, ℕ, ◌+◌, ◌*◌, ◌<◌, ◌≤◌, List, [], ◌∷◌, ◌++◌, length, get_or, take, refl, ap, ◌∙◌}
use Rattle.std.proofs.Common.{◌-◌, sym, arith, subst, append_assoc, ⊎_elim}
use Rattle.std.specs.Prelude.{Option, None, Result, Ok, Err, IsOk}
use Rattle.std.proofs.Math.Nat.{add-mul}
use Rattle.std.proofs.lemmas.Bool.{cases_lt}
use Rattle.std.proofs.lemmas.List.{append-nil, ext_get_or, get_or_append_left, length-append, length-take-le}
use Rattle.std.proofs.Math.Seq.{get_or-append_seam}
use Rattle.mp_nums.specs.declared.nearest.Near.{Near}
use Rattle.mp_nums.specs.declared.samples.Sample.{Sample}
use Rattle.mp_defs.specs.ColumnLaws.{columns_have_places}
use Rattle.mp_defs.specs.Limits.{max_appended}
use Rattle.mp_defs.specs.Band.{first_kept, live_windows}
use Rattle.mp_stream.specs.Kept.{Keeping, StandsFor, column_of}
use Rattle.mp_stream.specs.declared.kept.Column.{Column as Asked}
use Rattle.mp_stream.specs.declared.kept.Column.TheVariants.{All, Left, Right}
use Rattle.mp_stream.specs.declared.kept.KeptRefusal.{KeptRefusal}
use Rattle.mp_stream.specs.declared.kept.KeptRefusal.TheVariants.{Full}
use Rattle.mp_stores.specs.Channels.{KeptHasGrown}
use Rattle.mp_stores.specs.Stores.{IsOfSamples, Kept}

-- ---- samples are appended

pub none_appended : (kept : Keeping) → KeptHasGrown [] kept kept
none_appended kept = record {
  stands = λ before is. subst (λ (samples : List Sample). StandsFor samples kept) (sym (append-nil before)) is;
  keep_is = refl;
  window_is = refl;
  rise = omega arith;
  most_reads = omega arith;
}

pub reads_more : (n l more before reads now : ℕ) → l ≡ n + 1 → reads ≤ before + n * more → now ≤ reads + more
    → now ≤ before + l * more
reads_more n l more before reads now one was is =
    let split = ap (λ (k : ℕ). k * more) one ∙ add-mul n 1 more in omega (arith, split, was, is)

pub one_appended : (samples : List Sample) (sample : Sample) (old now new : Keeping) → KeptHasGrown samples old now
    → ((before : List Sample) → StandsFor before now → StandsFor (before ++ sample ∷ []) new)
    → new.keep ≡ now.keep → new.m ≡ now.m → now.reads ≤ new.reads → new.reads ≤ now.reads + 4 * (new.keep + new.m)
    → KeptHasGrown (samples ++ sample ∷ []) old new
one_appended samples sample old now new grown stands keep window rise most =
    let same_keep = keep ∙ grown.keep_is in
    let same_window = window ∙ grown.window_is in
    record {
      stands = λ before is.
          subst (λ (all : List Sample). StandsFor all new) (append_assoc before samples (sample ∷ []))
          (stands (before ++ samples) (grown.stands before is));
      keep_is = same_keep;
      window_is = same_window;
      rise = omega (arith, grown.rise, rise);
      most_reads =
          reads_more (length samples) (length (samples ++ sample ∷ [])) (4 * (old.keep + old.m)) old.reads now.reads
          new.reads (length-append samples (sample ∷ [])) grown.most_reads
          (omega (arith, most, same_keep, same_window));
    }

-- as long as not all are appended that may be, the next one may
pub not_full : (samples : List Sample) (i : ℕ) (old now : Keeping) → IsOfSamples (Kept old)
    → KeptHasGrown (take i samples) old now → i < length samples → old.count + length samples ≤ max_appended
    → now.count ≡ max_appended → ⊥
not_full samples i old now of grown inside room full =
    let before = of.1.count in
    let stands = (grown.stands of.0 of.1).count in
    let more = length-append of.0 (take i samples) in
    let so_many = length-take-le i samples (omega (arith, inside)) in
    omega (arith, before, stands, more, so_many, inside, room, full)

pub ok_unless_full : {T : Type 0} (result : Result T KeptRefusal) → (result ≡ Err Full → ⊥) → IsOk result
ok_unless_full (Ok x) fits = refl
ok_unless_full (Err Full) fits = absurd (fits refl)

-- ---- the windows that are kept

-- what stands at the first ones is known
pub record AreSlots (column : Asked) (kept : Keeping) (slots : List (Option Near)) : Type 0 where
  pub each : (k : ℕ) → k < length slots → get_or slots k None ≡ get_or (column_of column kept) k None

pub no_slots : (column : Asked) (kept : Keeping) → AreSlots column kept []
no_slots column kept = record { each = λ k inside. absurd (omega (arith, inside)) }

pub one_slot : (column : Asked) (kept : Keeping) (slots : List (Option Near)) (slot : Option Near) (i : ℕ)
    → AreSlots column kept slots → first_kept kept.keep kept.count + length slots ≡ i
    → slot ≡ get_or (column_of column kept) (i - first_kept kept.keep kept.count) None
    → AreSlots column kept (slots ++ slot ∷ [])
one_slot column kept slots slot i are here is = record {
  each = λ k inside. ⊎_elim
      (λ (before : k < length slots). get_or_append_left slots (slot ∷ []) None k before ∙ are.each k before)
      (λ (last : length slots ≤ k).
      let same : k ≡ length slots = omega (arith, inside, last, length-append slots (slot ∷ [])) in
      let place : i - first_kept kept.keep kept.count ≡ k = omega (arith, here, same) in
      ap (λ (n : ℕ). get_or (slots ++ slot ∷ []) n None) same
      ∙ (get_or-append_seam slots slot [] None
      ∙ (is ∙ ap (λ (n : ℕ). get_or (column_of column kept) n None) place)))
      (cases_lt k (length slots));
}

column_long : (column : Asked) (samples : List Sample) (kept : Keeping) → StandsFor samples kept
    → length (column_of column kept) ≡ live_windows kept.keep kept.m kept.count
column_long All samples kept stands = ap length stands.all ∙ columns_have_places.count _ _
column_long Left samples kept stands = ap length stands.left ∙ columns_have_places.count _ _
column_long Right samples kept stands = ap length stands.right ∙ columns_have_places.count _ _

pub all_slots : (column : Asked) (samples : List Sample) (kept : Keeping) (slots : List (Option Near))
    → StandsFor samples kept → length slots ≡ live_windows kept.keep kept.m kept.count → AreSlots column kept slots
    → slots ≡ column_of column kept
all_slots column samples kept slots stands long are =
    ext_get_or None slots (column_of column kept) (long ∙ sym (column_long column samples kept stands)) are.each
