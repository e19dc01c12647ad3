-- Frames that are laid one after the other, and blocks that are made of parts.
use Rattle.std.specs.Prelude.{◌≡◌, ◌≢◌, ◌≤◌, ◌<◌, ◌+◌, ◌==◌, ◌-◌, ◌&&◌, ◌++◌, ◌∷◌, [], ℕ, Bool, false, List, Some, slice_get, filter, length, slice_index}
use Rattle.std.specs.Option.{option_map_or}
use Rattle.std.specs.List.{list_any}
use Rattle.tta_lower.specs.Liveness.{Homes, Block}
use Rattle.tta_lower.specs.Lower.{numbers, Part, Entry, Steps, Returned}
use Rattle.tta_lower.specs.Cited.{Step, step_at, RBlock, Proc, Program}
use Rattle.tta_program.specs.declared.step.Step.TheVariants.{Invoke}
use Rattle.tta_lir.specs.declared.code.Place.TheVariants.{Frame}
use Rattle.tta_lir.specs.declared.code.RSrc.TheVariants as rsrc
use Rattle.tta_lir.specs.declared.code.RStep.TheVariants as rstep
use Rattle.tta_lir.specs.declared.code.Exit.TheVariants as exit
use Rattle.tta_lower.specs.Layout.{vars_of, base, own, value_slot, place, code_from, exit_for, keeps_ra, sets_from}

-- the frames of the first procedures are laid, and the next slot is free
pub record AreLaid (p : Program) (firsts : List ℕ) (next count : ℕ) : Type 0 where
  pub size : length firsts ≡ count
  pub free : next ≡ base p count
  pub are : (o : ℕ) → o < count → slice_index firsts o ≡ base p o + own p o

-- whether a home register is that of a variable that passes a test
abbrev pub is_kept_by : Homes → (owner : ℕ) → (test : ℕ → Bool) → ℕ → ℕ → Bool
is_kept_by home owner test k x = test x && option_map_or (λ h. h == k) (home owner x) false

-- whether a home register is that of one of so many variables that passes a test
abbrev pub kept_one : Homes → (vars owner : ℕ) → (test : ℕ → Bool) → ℕ → Bool
kept_one home vars owner test k = list_any (is_kept_by home owner test k) (numbers 0 vars)

-- the home registers of the variables that pass a test, rising
abbrev pub kept_by : Homes → (vars homes owner : ℕ) → (test : ℕ → Bool) → List ℕ
kept_by home vars homes owner test = filter (kept_one home vars owner test) (numbers 0 homes)

-- the home registers that keep their words after a last step; none does after a call
abbrev pub stays_after : Homes → (vars homes owner : ℕ) → (test : ℕ → Bool) → Step → List ℕ
stays_after home vars homes owner test (Invoke d callee args) = []
stays_after home vars homes owner test step = kept_by home vars homes owner test

-- the block of a part, with the numbers of blocks as they are held, and a test for the variables that are live where the
-- part ends
abbrev pub block_by : (p : Program) → Homes → (number : ℕ → ℕ → ℕ) → (entry : ℕ → ℕ) → (homes : ℕ) → (test : ℕ → Bool) → Part → RBlock
block_by p home number entry homes test (Entry owner) = record {
  steps = keeps_ra p home owner ++ sets_from p home test owner 0 (vars_of p owner);
  exit = exit.Next;
  live_out = kept_by home (vars_of p owner) homes owner test;
}
block_by p home number entry homes test (Steps b) = record {
  steps = code_from p home b.owner b.first (b.last + 1 - b.first);
  exit = option_map_or (exit_for p home number entry b.owner) (step_at p b.owner b.last) exit.Halt;
  live_out = option_map_or (stays_after home (vars_of p b.owner) homes b.owner test) (step_at p b.owner b.last) [];
}
block_by p home number entry homes test (Returned b d callee) = record {
  steps = rstep.Copy (place p home b.owner d) (rsrc.At (Frame (value_slot p callee))) ∷ [];
  exit = exit.Next;
  live_out = kept_by home (vars_of p b.owner) homes b.owner test;
}

-- the variables that are live where a part ends
abbrev pub test_of : (live_first : (owner x : ℕ) → Bool) (live_after : (owner at x : ℕ) → Bool) → Part → ℕ → Bool
test_of live_first live_after (Entry owner) = live_first owner
test_of live_first live_after (Steps b) = live_after b.owner b.last
test_of live_first live_after (Returned b d callee) = live_after b.owner b.last

-- the steps of a block are there
pub record IsSpan (p : Program) (b : Block) : Type 0 where
  pub owner : b.owner < length p.procs
  pub ordered : b.first ≤ b.last
  pub within : (q : Proc) → slice_get p.procs b.owner ≡ Some q → b.last < length q.steps

-- the procedures, steps and variables that a return names are there, and the callee is not main
pub record IsBack (p : Program) (b : Block) (d callee : ℕ) : Type 0 where
  pub owner : b.owner < length p.procs
  pub called : callee < length p.procs
  pub other : callee ≢ p.main
  pub within : d < vars_of p b.owner

-- what a part names is there
abbrev pub IsPart : Program → Part → Type 0
IsPart p (Entry owner) = owner < length p.procs
IsPart p (Steps b) = IsSpan p b
IsPart p (Returned b d callee) = IsBack p b d callee

-- what some parts name is there
abbrev pub AreParts : Program → List Part → Type 0
AreParts p parts = (k : ℕ) (x : Part) → slice_get parts k ≡ Some x → IsPart p x
