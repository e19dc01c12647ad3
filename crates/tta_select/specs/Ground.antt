-- What selection relies on of a machine and a choice.
use Rattle.std.specs.Prelude.{◌≡◌, ℕ, ◌<◌, ◌==◌, true, false, length, Some}
use Rattle.tta_select.specs.Cited.{Op, Machine, KeptReg, same_place, width_of, op_at, fits_kind, Choice}
use Rattle.tta_arch.specs.Effects.{Place}
use Rattle.tta_select.specs.Select.{call_of, home_pair}

-- the place of a home register
abbrev pub home_place : Machine → Choice → ℕ → Place
home_place m c k = KeptReg (home_pair m c k).0 (home_pair m c k).1

-- The hub and the home registers keep whole words, the guard register one bit; home registers differ from each other and
-- from the hub's first two.
pub record IsGround (m : Machine) (c : Choice) : Type 0 where
  pub hub : (width_of m c.hub == 1) ≡ false
  pub guard : (width_of m c.guard_file == 1) ≡ true
  pub homes : (k : ℕ) → k < length c.homes → (width_of m (home_pair m c k).0 == 1) ≡ false
  pub apart : (j k : ℕ) → j < length c.homes → k < length c.homes → (j == k) ≡ false → same_place (home_place m c j) (home_place m c k) ≡ false
  pub free : (i k : ℕ) → i < 2 → k < length c.homes → same_place (KeptReg c.hub i) (home_place m c k) ≡ false

-- An operation is offered by a usable unit: the unit has it at the place that is chosen for it.
pub record IsServed (m : Machine) (c : Choice) (op : Op) : Type 0 where
  pub there : op_at m (call_of m c op).unit (call_of m c op).op ≡ Some (record (call_of m c op).does { op = op })
  pub fits : fits_kind (record (call_of m c op).does { op = op }) ≡ true
