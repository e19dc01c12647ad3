-- What the chosen units offer is what the usable units offer.
use Rattle.std.proofs.Common.{◌≡◌, ℕ, ◌+◌, Bool, true, false, List, [], ◌∷◌, Option, Some, None, refl, sym, ◌∙◌, ap}
use Rattle.std.specs.Prelude.{if◌then◌else◌, is_some, option_map, slice_index}
use Rattle.std.specs.Option.{option_map_or}
use Rattle.tta_build.specs.Cited.{Units, Op, Machine, first_some, has_bit, Choice, IsChoice, call_if, call_in, offered, offered_by, is_usable_at, Step, Proc, Program, is_offered, need_of, is_served, first_failing, unoffered_in, first_unoffered}
use Rattle.tta_arch.specs.declared.parts.Unit.{Unit as OpUnit}
use Rattle.tta_connect.specs.Coverage.{first_by}
use Rattle.tta_build.specs.Statement.{has_offer, is_supplied, unsupplied_in, unsupplied}

-- units that are alike offer alike
calls_alike : (a b : ℕ → Bool) → ((unit : ℕ) → a unit ≡ b unit) → (op : Op) (unit : ℕ) (v : OpUnit) → call_in a op unit v ≡ call_in b op unit v
calls_alike a b same op unit v = ap (λ (t : Bool). if t then first_by (call_if op unit) 0 v.ops else None) (same unit)

offers_alike : (a b : ℕ → Bool) → ((unit : ℕ) → a unit ≡ b unit) → (op : Op) (k : ℕ) (units : List OpUnit)
    → first_by (call_in a op) k units ≡ first_by (call_in b op) k units
offers_alike a b same op k [] = refl
offers_alike a b same op k (v ∷ vs) = rw (calls_alike a b same op k v, offers_alike a b same op (k + 1) vs) refl

-- what the chosen units offer, the usable ones offer
offer_same : (m : Machine) (c : Choice) → IsChoice m c → (op : Op) → is_some (offered m c.usable op) ≡ has_offer m op
offer_same m c choice op =
    ap is_some (offers_alike (has_bit c.usable) (is_usable_at m c.hub) choice.usable op 0 m.units)
    ∙ sym (ap (λ (o : Option ℕ). option_map_or (λ hub. is_some (offered_by m (is_usable_at m hub) op)) o false) choice.hub)

need_same : (m : Machine) (c : Choice) → IsChoice m c → (need : Option Op) → is_offered m c need ≡ option_map_or (has_offer m) need true
need_same m c choice None = refl
need_same m c choice (Some op) = offer_same m c choice op

-- ---- the first step that is not served

module _ (u : Units) (m : Machine) (c : Choice) (choice : IsChoice m c) where
  step_same : (step : Step) → is_served u m c step ≡ is_supplied u m step
  step_same step = need_same m c choice (need_of u step)

  failing_same : (k : ℕ) (steps : List Step) → first_failing (is_served u m c) k steps ≡ first_failing (is_supplied u m) k steps
  failing_same k [] = refl
  failing_same k (s ∷ steps) = rw (step_same s, failing_same (k + 1) steps) refl

  proc_same : (q : Proc) → unoffered_in u m c q ≡ unsupplied_in u m q
  proc_same q = ap (option_map (slice_index q.lines)) (failing_same 0 q.steps)

  procs_same : (qs : List Proc) → first_some (unoffered_in u m c) qs ≡ first_some (unsupplied_in u m) qs
  procs_same [] = refl
  procs_same (q ∷ qs) = rw (proc_same q, procs_same qs) refl

  pub first_same : (p : Program) → first_unoffered u m c p ≡ unsupplied u m p
  first_same p = procs_same p.procs
