-- The depths of a machine's signals: each is that of its expression.
use Rattle.std.proofs.Common.{◌≡◌, ℕ, zero, suc, ◌<◌, List, refl, ap, ◌∙◌, arith}
use Rattle.std.specs.Prelude.{slice_index}
use Rattle.tta_cost.specs.Cited.{Machine, Place, Field, rank, made_of, signal_width, store_width, Cost, at, beside, free, Pc, Whole, HasHalted, Underway, Goal, Ends, Keeps, IsDue, Due, HasBegun, Raw, IsInside, Port, IsOffered, Offer, IsReady, IsReset, Fetched, Word, Acts, Starts, Trigger, Operand, Controls, GoalNow, EndsNow, Lands, Asks, Gives, Goes, NextPc, Puts, PutWord, Watches, Boxes, GuardOf, IsShort, SourceOf, TemplateOf}
use Rattle.tta_hardware.specs.Signals.{Signal as Named}
use Rattle.tta_hardware.proofs.Ordered.{reads_lower}
use Rattle.tta_measure.specs.Cost.{plus}
use Rattle.tta_measure.proofs.Alike.{cost_alike}
use Rattle.tta_cost.specs.Depths.{depth_within, depth_of, cost_of}

-- nothing beside nothing is nothing
pub nothing_more : beside free free ≡ free
unfolding beside plus
nothing_more = refl

-- there are eight ranks
ranked : (n : Named) → rank n < 8
ranked Pc = omega arith
ranked Whole = omega arith
ranked HasHalted = omega arith
ranked (Underway delay) = omega arith
ranked Goal = omega arith
ranked Ends = omega arith
ranked (Keeps p) = omega arith
ranked (IsDue unit delay) = omega arith
ranked (Due unit delay) = omega arith
ranked (HasBegun unit op) = omega arith
ranked (Raw unit op) = omega arith
ranked (IsInside unit op) = omega arith
ranked IsOffered = omega arith
ranked Offer = omega arith
ranked IsReady = omega arith
ranked IsReset = omega arith
ranked (Port unit) = omega arith
ranked (Fetched f) = omega arith
ranked (Word bus) = omega arith
ranked (Acts bus) = omega arith
ranked (Starts unit op) = omega arith
ranked (Trigger unit) = omega arith
ranked (Operand unit) = omega arith
ranked Controls = omega arith
ranked GoalNow = omega arith
ranked EndsNow = omega arith
ranked Lands = omega arith
ranked Asks = omega arith
ranked Gives = omega arith
ranked Goes = omega arith
ranked NextPc = omega arith
ranked Puts = omega arith
ranked PutWord = omega arith
ranked (Watches w) = omega arith
ranked (Boxes b) = omega arith

module _ (t : List ℕ) (m : Machine) where
  -- a rank more changes nothing below it
  settles : (k : ℕ) (n : Named) → rank n < k → depth_within t m k n ≡ depth_within t m (suc k) n
  settles zero n less = absurd (omega (arith, less))
  settles (suc k) n less =
      ap (λ (c : Cost). c.depth)
      (cost_alike (signal_width m) (store_width m) (slice_index t) rank (depth_within t m k) (depth_within t m (suc k)) (rank n)
      (λ x under. settles k x (omega (arith, less, under))) (made_of m n) (reads_lower m n))

  -- the depth of a signal is that of its expression
  pub depth_is : (n : Named) → depth_of t m n ≡ (cost_of t m (made_of m n)).depth
  unfolding depth_of
  depth_is n = settles 8 n (ranked n)

  -- a signal where it is read
  pub line_is : (n : Named) → at (depth_of t m n) ≡ at (cost_of t m (made_of m n)).depth
  line_is n = ap at (depth_is n)

  -- ---- signals that are there when the clock comes

  at_once : (n : Named) → (cost_of t m (made_of m n)).depth ≡ 0 → at (depth_of t m n) ≡ free
  unfolding at
  at_once n is = ap at (depth_is n ∙ is)

  pub whole : at (depth_of t m Whole) ≡ free
  whole = at_once Whole refl

  pub pc : at (depth_of t m Pc) ≡ free
  pc = at_once Pc refl

  pub halted : at (depth_of t m HasHalted) ≡ free
  halted = at_once HasHalted refl

  pub underway : (delay : ℕ) → at (depth_of t m (Underway delay)) ≡ free
  underway delay = at_once (Underway delay) refl

  pub goal : at (depth_of t m Goal) ≡ free
  goal = at_once Goal refl

  pub ends : at (depth_of t m Ends) ≡ free
  ends = at_once Ends refl

  pub keeps : (p : Place) → at (depth_of t m (Keeps p)) ≡ free
  keeps p = at_once (Keeps p) refl

  pub is_due : (unit delay : ℕ) → at (depth_of t m (IsDue unit delay)) ≡ free
  is_due unit delay = at_once (IsDue unit delay) refl

  pub due : (unit delay : ℕ) → at (depth_of t m (Due unit delay)) ≡ free
  due unit delay = at_once (Due unit delay) refl

  pub begun : (unit op : ℕ) → at (depth_of t m (HasBegun unit op)) ≡ free
  begun unit op = at_once (HasBegun unit op) refl

  pub raw : (unit op : ℕ) → at (depth_of t m (Raw unit op)) ≡ free
  raw unit op = at_once (Raw unit op) refl

  pub inside : (unit op : ℕ) → at (depth_of t m (IsInside unit op)) ≡ free
  inside unit op = at_once (IsInside unit op) refl

  pub offered : at (depth_of t m IsOffered) ≡ free
  offered = at_once IsOffered refl

  pub offer : at (depth_of t m Offer) ≡ free
  offer = at_once Offer refl

  pub ready : at (depth_of t m IsReady) ≡ free
  ready = at_once IsReady refl

  pub reset : at (depth_of t m IsReset) ≡ free
  reset = at_once IsReset refl

  -- ---- fields that are parts of the instruction's word

  part_of_word : (f : Field) → cost_of t m (made_of m (Fetched f)) ≡ at (depth_of t m Whole) → at (depth_of t m (Fetched f)) ≡ free
  part_of_word f is = at_once (Fetched f) (ap (λ (c : Cost). c.depth) (is ∙ whole))

  pub guard : (bus : ℕ) → at (depth_of t m (Fetched (GuardOf bus))) ≡ free
  guard bus = part_of_word (GuardOf bus) refl

  pub tag : (bus : ℕ) → at (depth_of t m (Fetched (IsShort bus))) ≡ free
  tag bus = part_of_word (IsShort bus) refl

  pub source : (bus : ℕ) → at (depth_of t m (Fetched (SourceOf bus))) ≡ free
  source bus = part_of_word (SourceOf bus) refl

  pub template : at (depth_of t m (Fetched TemplateOf)) ≡ free
  template = part_of_word TemplateOf refl

-- what is there when the clock comes
pub ruleset known = (whole, pc, halted, underway, goal, ends, keeps, is_due, due, begun, raw, inside, offered, offer, ready, reset, guard, tag, source, template)
