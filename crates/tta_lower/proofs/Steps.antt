-- A step of a program keeps the program's rules.
use Rattle.std.proofs.Common.{◌≡◌, ◌≢◌, ℕ, Option, Some, None, true, refl, sym, ap, ◌∙◌, arith, slice_get}
use Rattle.tta_lower.specs.Cited.{Step, Proc, Program, IsProgram, is_step, IsProc, step_at}
use Rattle.tta_lower.specs.Liveness.{Reached, Touches, Homes, IsHomes}
use Rattle.tta_lower.specs.Layout.{var_slot, place, place_by}
use Rattle.std.specs.Option.{option_map_or}
use Rattle.tta_list.proofs.Lists.{list_all_one, all_one}
use Rattle.tta_lir.specs.declared.code.Place.TheVariants as places

-- the procedure of a step, and the rules that the step keeps
pub record StepOf (p : Program) (owner : ℕ) (st : Step) : Type 0 where
  pub proc : Proc
  pub is : slice_get p.procs owner ≡ Some proc
  pub rules : is_step p proc st ≡ true

-- a step that is there
pub step_of : (p : Program) → IsProgram p → (owner at : ℕ) (st : Step) → step_at p owner at ≡ Some st → StepOf p owner st
step_of p sound owner at st there = by (slice_get p.procs owner) refl there where
  by : (q : Option Proc) → slice_get p.procs owner ≡ q → option_map_or (λ q. slice_get q.steps at) q None ≡ Some st → StepOf p owner st
  by None is here = cc
  by (Some q) is here = record {
    proc = q;
    is = is;
    rules = list_all_one (is_step p q) q.steps at st (all_one (IsProc p) p.procs owner q sound.procs is).steps here;
  }

-- ---- places

module _ (p : Program) (home : Homes) (homes : IsHomes p home) where
  -- two variables that a reached step touches are kept in different places
  pub places-apart : (owner at x y : ℕ) → Reached p owner at → Touches p owner at x → Touches p owner at y → x ≢ y
      → place p home owner x ≢ place p home owner y
  places-apart owner at x y reached tx ty ne = by (home owner x) refl (home owner y) refl where
    by : (a : Option ℕ) → home owner x ≡ a → (b : Option ℕ) → home owner y ≡ b → place_by p home owner x a ≢ place_by p home owner y b
    by (Some j) hx (Some k) hy e =
        let same : j ≡ k = cc in
        ne (homes.apart owner at x y j reached tx ty hx (hy ∙ ap Some (sym same)))
    by (Some j) hx None hy e = cc
    by None hx (Some k) hy e = cc
    by None hx None hy e =
        let same : var_slot p owner x ≡ var_slot p owner y = slot_of e in
        ne (omega (arith, same)) where
          slot_of : {a b : ℕ} → places.Frame a ≡ places.Frame b → a ≡ b
          slot_of e = cc
