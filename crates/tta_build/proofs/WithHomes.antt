-- The placements of a program with given homes of its variables.
use Rattle.std.proofs.Common.{◌≡◌, ℕ, List, Result, Ok, Err, length, sym, subst}
use Rattle.std.specs.Prelude.{IfOk}
use Rattle.std.specs.declared.alloc.AllocError.{AllocError}
use Rattle.tta_build.specs.Cited.{Units, Machine, Choice, Program, Homes, SlotsAsScanned, Placed}
use Rattle.tta_build.specs.declared.register.RegisterOrder.{RegisterOrder}
use Rattle.tta_build.specs.RegisterOrder.{AreGivenBy, AreHomesBy}
use Rattle.tta_build.specs.Compiled.{AreChosenBy}
use Rattle.tta_build.specs.Parts.{AreChosenWith}

-- homes for as many home registers as are chosen
pub homes_by_len : (sharing : RegisterOrder) (p : Program) (c : Choice) (n : ℕ) → n ≡ length c.homes → (r : Result Homes AllocError)
    → IfOk r (λ h. AreGivenBy sharing p n h) → IfOk r (λ h. SlotsAsScanned p n h) → IfOk r (λ h. AreHomesBy sharing p c h)
homes_by_len sharing p c n same (Ok h) given allotted = record {
  given = subst (λ (k : ℕ). AreGivenBy sharing p k h) same given;
  allotted = subst (λ (k : ℕ). SlotsAsScanned p k h) same allotted;
}
homes_by_len sharing p c n same (Err e) given allotted = tt

module _ (u : Units) (m : Machine) (c : Choice) (p : Program) where
  -- placements that are chosen with homes that are given in a way
  pub chosen_by : (sharing : RegisterOrder) (kept : Homes) (ps : List Placed) → AreHomesBy sharing p c kept → AreChosenWith kept u m c p ps → AreChosenBy sharing u m c p ps
  chosen_by sharing kept ps by is = record {
    lists = is.lists;
    selected = record { of = is.selected.of; given = subst (AreGivenBy sharing p (length c.homes)) (sym is.selected.homes) by.given };
    chosen = is.chosen;
  }
