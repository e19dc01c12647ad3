-- Words that stay.
use Rattle.std.proofs.Common.{◌≡◌, ◌<◌, ◌+◌, ◌==◌, ℕ, zero, suc, Bool, true, false, List, [], ◌∷◌, length, Option, None, Some, refl, ap, ◌∙◌, arith}
use Rattle.std.proofs.lemmas.Bool.{ltb-true}
use Rattle.tta_flight.specs.Rings.{no_ring}
use Rattle.std.specs.Prelude.{is_some, nat_lt, option_map, slice_index_or, if◌then◌else◌}
use Rattle.std.specs.Option.{option_or}
use Rattle.std.specs.List.{find}
use Rattle.tta_sim.specs.Cited.{Result', Ring, Rings, shown_in, due_in, is_among, due_at, word_due}
use Rattle.tta_sim.specs.declared.lines.Write.{Write}
use Rattle.tta_sim.specs.Results.{Results, shown_by}
use Rattle.tta_sim.specs.Known.{Grows, KeepsWords}
use Rattle.tta_sim.specs.InPlace.{AreWritten}
use Rattle.tta_sim.proofs.Beginning.{AreBegun}

-- what was there, or what stands before it
some_or : {A : Type 0} (a b : Option A) → is_some b ≡ true → is_some (option_or a b) ≡ true
some_or None b some = some
some_or (Some x) b some = refl

-- a word that is set
pub set_grows : (old new : List (Option ℕ)) (number word : ℕ)
    → ((k : ℕ) → slice_index_or new k None ≡ (if k == number then Some word else slice_index_or old k None))
    → Grows (λ k. slice_index_or old k None) (λ k. slice_index_or new k None)
set_grows old new number word is k some = ap is_some (is k) ∙ by (k == number) where
  by : (b : Bool) → is_some (if b then Some word else slice_index_or old k None) ≡ true
  by true = refl
  by false = some

-- words that are written
pub written_grows : (old new : List (Option ℕ)) (writes : List Write) → AreWritten old writes new → Grows (λ k. slice_index_or old k None) (λ k. slice_index_or new k None)
written_grows old new writes are k some =
    ap is_some (are k) ∙ some_or (option_map (λ w. w.word) (find (λ w. w.place == k) writes)) (slice_index_or old k None) some

-- a unit that shows a word is there
shown_there : (rings : List Ring) (unit : ℕ) → is_some (slice_index_or rings unit no_ring).shown ≡ true → unit < length rings
shown_there [] unit some = cc
shown_there (q ∷ rings) zero some = omega arith
shown_there (q ∷ rings) (suc unit) some = let rest = shown_there rings unit some in omega (arith, rest)

-- results that have begun
pub begun_grows : (now : ℕ) (r : Results) (new : List Result') (rings : Rings) → AreBegun now r new rings
    → Grows (shown_by r) (λ unit. shown_in rings (r.base + unit))
begun_grows now r new rings are unit some = elim (nat_lt unit r.units) as (λ b. nat_lt unit r.units ≡ b → is_some (shown_in rings (r.base + unit)) ≡ true) [
  | true ↦ λ less.
      ap is_some (are.shown unit (ltb-true unit r.units less))
      ∙ some_or (word_due (due_at unit (now + 1) new)) (option_or (due_in r.rings (r.base + unit) 1) (shown_in r.rings (r.base + unit)))
      (some_or (due_in r.rings (r.base + unit) 1) (shown_in r.rings (r.base + unit)) some)
  | false ↦ λ past.
      ap is_some (are.beside.shown (r.base + unit) (shown_there r.rings.rings (r.base + unit) some) (not_among r.base r.units unit past)) ∙ some
] refl where
  not_among : (base units unit : ℕ) → nat_lt unit units ≡ false → is_among base units (base + unit) ≡ false
  not_among base units unit past = grind (arith, past)

-- nothing has changed
pub words_same : (places : List (Option ℕ)) (r : Results) → KeepsWords places places r r
words_same places r = record { places = λ k some. some; ports = λ unit some. some }
