-- From the first abstract state to the verdict.
use Rattle.std.proofs.Common.{◌≡◌, ℕ, ◌+◌, ◌*◌, List, [], ◌∷◌, length, map, Option, Some, None, refl, ap, sym, subst, ◌∙◌, arith, inl, inr}
use Rattle.std.specs.Prelude.{replicate}
use Rattle.tta_check.specs.Cited.{Machine, Code}
use Rattle.tta_check.specs.declared.state.AbstractState.{AbstractState}
use Rattle.tta_check.specs.declared.entries.EntryTable.{EntryTable}
use Rattle.tta_check.specs.declared.location.Location.{Location}
use Rattle.tta_check.specs.declared.verdict.Verdict.{Verdict}
use Rattle.tta_check.specs.declared.verdict.Verdict.TheVariants.{Safe, Unsafe}
use Rattle.tta_check.specs.declared.visit.Successor.{Successor}
use Rattle.tta_check.specs.Verdict.{IsSafe, IsUnsafe, IsVerdict}
use Rattle.tta_check.specs.Statement.{Checks}
use Rattle.tta_check.specs.States.{idle, covers, tells}
use Rattle.tta_check.specs.Joins.{unwritten_at, IsFirst}
use Rattle.tta_check.specs.Tables.{Puts, PutTo, PutEnds}
use Rattle.tta_check.proofs.Law.{safe_never_faults}
use Rattle.tta_check.proofs.Beginning.{first_admitted, first_told}
use Rattle.tta_check.proofs.Proper.{AreProper, first_proper}
use Rattle.tta_check.proofs.Witnessed.{first_witnessed}
use Rattle.tta_check.proofs.Visiting.{IsEntry}
use Rattle.tta_check.proofs.Sound.{put_ends}
use Rattle.tta_check.proofs.Solving.{IsGiven, Solving, replicate_count, solving_first, empty_sound}

-- where walks begin, with this abstract state
abbrev pub first_at : AbstractState → Successor
first_at state = record { point = record { address = 0; under = None }; state = state }

places_unwritten : (locations : List Location) → map (λ k. k.at) (map unwritten_at locations) ≡ locations
places_unwritten [] = refl
places_unwritten (s ∷ locations) = ap (λ xs. s ∷ xs) (places_unwritten locations)

first_entry : (m : Machine) (code : Code) (locations : List Location) (n : ℕ) (state : AbstractState) → n ≡ length m.units → IsFirst locations n state → IsEntry m code locations (first_at state)
first_entry m code locations n state units first = record {
  witnessed = first_witnessed (covers state) (tells state) m code (first_admitted state locations n first) (first_told state locations n first);
  places = ap (map (λ k. k.at)) first.cells ∙ places_unwritten locations;
  units = ap length first.ports ∙ replicate_count n idle ∙ units;
  proper = subst AreProper (sym first.cells) (first_proper locations);
}

-- the first abstract state, and a table without entries
pub record IsStart (m : Machine) (code : Code) (locations : List Location) (delay len units : ℕ) (state : AbstractState) (t : EntryTable) : Type 0 where
  pub given : IsGiven m code locations
  pub delay_is : delay ≡ m.control.delay
  pub len_is : len ≡ length code.words
  pub units_is : units ≡ length m.units
  pub first : IsFirst locations units state
  pub entries : t.entries.items ≡ replicate (len * (delay + 1)) None
  pub worklist : t.worklist.items ≡ []

module _ (m : Machine) (code : Code) (locations : List Location) (delay len units : ℕ) (state : AbstractState) (old : EntryTable) (s : IsStart m code locations delay len units state old) where
  start_entries : old.entries.items ≡ replicate (length code.words * (m.control.delay + 1)) None
  start_entries = s.entries ∙ ap (λ n. replicate (n * (delay + 1)) None) s.len_is ∙ ap (λ n. replicate (length code.words * (n + 1)) None) s.delay_is

  pub start_goes : (new : EntryTable) (v : Option Verdict) → PutTo delay len (first_at state) old new v → v ≡ None → Solving m code locations new
  start_goes new v put is =
      solving_first m code locations s.given (first_at state) old new start_entries s.worklist refl (first_entry m code locations units state s.units_is s.first) (first_admitted state locations units s.first)
      (subst (λ d. Puts d (first_at state) old new) s.delay_is (subst (PutTo delay len (first_at state) old new) is put))

  pub start_ends : (new : EntryTable) (v : Option Verdict) (w : Verdict) → PutTo delay len (first_at state) old new v → v ≡ Some w → IsVerdict m code w
  start_ends new v w put is =
      put_ends m code locations (first_at state) old w (empty_sound m code locations s.given old start_entries s.worklist)
      (record { entry = first_entry m code locations units state s.units_is s.first; came = tt })
      (subst (λ n. PutEnds m.control.delay n (first_at state) old w) s.len_is (subst (λ d. PutEnds d len (first_at state) old w) s.delay_is (subst (PutTo delay len (first_at state) old new) is put)))

-- a verdict by walks, with what it says of runs
pub checks : (m : Machine) (code : Code) (v : Verdict) → IsVerdict m code v → Checks m code v
checks m code Safe h = record { is = h; exact = λ s. refl; runs = λ e. safe_never_faults m code h }
checks m code (Unsafe number address) h = record { is = h; exact = λ s. absurd (none s h); runs = λ e. absurd cc } where
  none : IsSafe m code → IsUnsafe m code number address → ⊥
  none s (inl c) = s.no_code number address c
  none s (inr d) = s.no_two address d.1

pub nothing : {A : Type 0} (xs : List A) → length xs ≡ 0 → xs ≡ []
nothing [] e = refl
nothing (x ∷ xs) e = absurd (omega arith)
