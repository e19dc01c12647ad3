-- What a choice reaches: the hub all that can be asked for, and all that can be read the hub.
use Rattle.std.specs.Prelude.{◌≡◌, ℕ, ◌<◌, ◌^◌, ◌⊎◌, ◌==◌, Bool, true, false, length, Some, None, is_some}
use Rattle.tta_select.specs.Cited.{Op, Stf, GuardRef, Machine, has_result, Choice, offered, Port, joined, is_passing}
use Rattle.tta_arch.specs.declared.ends.Source.TheVariants as source
use Rattle.tta_arch.specs.declared.ends.Dest.TheVariants as dest
use Rattle.tta_select.specs.Select.{call_of, operand_at, trigger_at, shown_at, hub_at, from_hub, home_at, from_home, guard_at, long_for}

-- a guard on the compiler's register
abbrev pub guard_by : Choice → (inverted : Bool) → GuardRef
guard_by c inverted = record { file = c.guard_file; index = c.guard_index; inverted = inverted }

pub record HasJoins (m : Machine) (c : Choice) : Type 0 where
  pub operand : (op : Op) → is_some (offered m c.usable op) ≡ true → ((call_of m c op).does.arity == 2) ≡ true → joined m (from_hub m c 0) (operand_at (call_of m c op)) None ≡ true
  pub trigger : (op : Op) → is_some (offered m c.usable op) ≡ true → joined m (from_hub m c 0) (trigger_at (call_of m c op)) None ≡ true
  pub shown : (op : Op) → is_some (offered m c.usable op) ≡ true → has_result op ≡ true → joined m (shown_at (call_of m c op)) (hub_at m c 0) None ≡ true
  pub to_home : (k : ℕ) → k < length c.homes → joined m (from_hub m c 0) (home_at m c k) None ≡ true
  pub of_home : (k : ℕ) → k < length c.homes → joined m (from_home m c k) (hub_at m c 0) None ≡ true
  pub plain_home : (k : ℕ) → k < length c.homes → is_passing (Some c.hub) (from_home m c k) ≡ false
  pub guard : joined m (from_hub m c 0) (guard_at m c) None ≡ true
  pub jump : joined m (from_hub m c 0) dest.Jump None ≡ true
  pub call : joined m (from_hub m c 0) dest.Call None ≡ true
  pub halt : joined m (from_hub m c 0) dest.Halt None ≡ true
  pub jump_if : (i : Bool) → joined m (from_hub m c 0) dest.Jump (Some (guard_by c i)) ≡ true
  pub hub_if : (i : Bool) → joined m (from_hub m c 0) (hub_at m c 1) (Some (guard_by c i)) ≡ true
  pub to_one : joined m (from_hub m c 0) (hub_at m c 1) None ≡ true
  pub back : joined m (Port source.Ra) (hub_at m c 0) None ≡ true
  pub one_home : (k : ℕ) → k < length c.homes → joined m (from_hub m c 1) (home_at m c k) None ≡ true
  pub home_one : (k : ℕ) → k < length c.homes → joined m (from_home m c k) (hub_at m c 1) None ≡ true
  pub one_store : joined m (from_hub m c 1) (trigger_at (call_of m c Stf)) None ≡ true
  pub words : (word : ℕ) → word < 2 ^ 32 → (joined m (Port (source.Value word)) (hub_at m c 0) None ≡ true) ⊎ (is_some (long_for m c (hub_at m c 0) None) ≡ true)
