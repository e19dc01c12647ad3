-- What one move does, and what the moves of one cycle do.
use Rattle.std.proofs.Common.{◌≡◌, ℕ, ◌<◌, Bool, true, false, List, [], ◌∷◌, Option, Some, None, refl, arith}
use Rattle.std.specs.Prelude.{slice_index, option_and_then, ◌==◌, ◌&&◌, if◌then◌else◌}
use Rattle.std.specs.Option.{option_map_or}
use Rattle.std.proofs.lemmas.Bool.Decides.{nat_tests}
use Rattle.tta_sched_laws.specs.Cited.{UnitOp, Machine, Kind, Jumps, Calls, Halts, Target, Reg, Imm, Operand, Trigger, Control, Effect, Place, KeptReg, KeptImm, KeptOperand, KeptRa, KeptPort, Written, moved, Brought, write_of, Start, start_of, has_result, result_word, op_at, control_of, or_else, Units, Held, read_held, exit_after, Spot, At, same_spot, Touch}
use Rattle.tta_arch.specs.Effects.{same_place, kept as lookup, first_some as pick}
use Rattle.tta_sched_laws.proofs.Total.{do_move, total, writes_by, is_control}
use Rattle.tta_moves.proofs.Places.{either}

-- ---- places

abbrev pub word_at : Place → Place × ℕ → Option ℕ
word_at x w = if same_place w.0 x then Some w.1 else None

pub lookup_pick : (ws : Written) (x : Place) → lookup ws x ≡ pick (word_at x) ws
lookup_pick [] x = refl
lookup_pick (w ∷ ws) x = on (same_place w.0 x) (lookup_pick ws x) where
  on : (b : Bool) → lookup ws x ≡ pick (word_at x) ws → (if b then Some w.1 else lookup ws x) ≡ or_else (if b then Some w.1 else None) (pick (word_at x) ws)
  on true ih = refl
  on false ih = ih

-- what a move that takes this word writes into a place
abbrev pub into : Machine → ℕ → Place → Target → Option ℕ → Option ℕ
into m back x d o = option_and_then (λ b. option_and_then (word_at x) (write_of m back b)) (option_map_or (λ word. Some (d, word)) o None)

-- when a move touches a place
abbrev pub touch_at : Spot → Touch → Option ℕ
touch_at x o = if same_spot o.0 x then Some o.1 else None

-- when a move touches a spot
abbrev pub offset_of : Spot → List Touch → Option ℕ
offset_of x ts = pick (touch_at x) ts

abbrev pub offset : Place → List Touch → Option ℕ
offset x ts = offset_of (At x) ts

-- the moves that this is proved for
pub data IsPlain (m : Machine) : Target → Type 0 where
  to_register : (file index : ℕ) → IsPlain m (Reg file index)
  to_imm : (unit index : ℕ) → IsPlain m (Imm unit index)
  to_operand : (unit : ℕ) → IsPlain m (Operand unit)
  to_trigger : (unit k : ℕ) (o : UnitOp) → op_at m unit k ≡ Some o → (has_result o.op ≡ true → 0 < o.latency) → IsPlain m (Trigger unit k)
  to_jump : IsPlain m (Control Jumps)
  to_call : IsPlain m (Control Calls)
  to_halt : IsPlain m (Control Halts)

-- the places that hold what was written last
abbrev pub is_kept : Place → Bool
is_kept (KeptReg file index) = true
is_kept (KeptImm unit index) = true
is_kept (KeptOperand unit) = true
is_kept KeptRa = true
is_kept p = false

pub into_none : (m : Machine) (back : ℕ) (x : Place) (d : Target) → into m back x d None ≡ None
into_none m back x d = refl

-- a place that a move does not write
pub into_other : (m : Machine) (back : ℕ) (x : Place) (v : Effect) (o : Option ℕ) → IsPlain m v.target → offset x (writes_by m v) ≡ None → into m back x v.target o ≡ None
into_other m back x v None p e = refl
into_other m back x v (Some w) p e = on v.target p e where
  on : (d : Target) → IsPlain m d → offset x (writes_by m (record v { target = d })) ≡ None → into m back x d (Some w) ≡ None
  on _ (to_register f i) e = grind (arith, nat_tests)
  on _ (to_operand u) e = grind (arith, nat_tests)
  on _ (to_imm u imm) e = grind (arith, nat_tests)
  on _ to_jump e = refl
  on _ to_call e = grind (arith, nat_tests)
  on _ to_halt e = refl
  on _ (to_trigger u k o at lat) e = refl

pub or_if : {A : Type 0} (b : Bool) (w : A) (o : Option A) → (if b then Some w else o) ≡ or_else (if b then Some w else None) o
or_if true w o = refl
or_if false w o = refl

pub port_not_kept : (unit : ℕ) (x : Place) → is_kept x ≡ true → same_place (KeptPort unit) x ≡ false
port_not_kept unit (KeptReg f i) e = refl
port_not_kept unit (KeptImm f i) e = refl
port_not_kept unit (KeptOperand u) e = refl
port_not_kept unit KeptRa e = refl
port_not_kept unit (KeptPort u) e = cc

-- a word that a move brings
abbrev pub bringing : Target → Option ℕ → Option Brought
bringing d o = option_map_or (λ word. Some (d, word)) o None

pub kept_arrives : (u : Units) (m : Machine) (back : ℕ) (h : Held) (x : Place) (d : Target) (o : Option ℕ) → IsPlain m d → is_kept x ≡ true
    → lookup (total u m back h (bringing d o)).written x ≡ or_else (into m back x d o) (lookup h.written x)
kept_arrives u m back h x d None p kept = refl
kept_arrives u m back h x _ (Some w) (to_register f i) kept = or_if (same_place (KeptReg f i) x) _ (lookup h.written x)
kept_arrives u m back h x _ (Some w) (to_operand unit) kept = or_if (same_place (KeptOperand unit) x) _ (lookup h.written x)
kept_arrives u m back h x _ (Some w) (to_imm unit imm) kept = or_if (same_place (KeptImm unit imm) x) _ (lookup h.written x)
kept_arrives u m back h x _ (Some w) to_jump kept = refl
kept_arrives u m back h x _ (Some w) to_call kept = or_if (same_place KeptRa x) _ (lookup h.written x)
kept_arrives u m back h x _ (Some w) to_halt kept = refl
kept_arrives u m back h x _ (Some w) (to_trigger unit k o at lat) kept = rw at (either (has_result o.op) (λ t. rw (t, port_not_kept unit x kept) refl) (λ t. rw t refl))

-- a kept place after a move
pub kept_after : (u : Units) (m : Machine) (back : ℕ) (h : Held) (v : Effect) (x : Place) → IsPlain m v.target → is_kept x ≡ true
    → lookup (do_move u m back h v).written x ≡ or_else (into m back x v.target (moved (read_held h.written) v)) (lookup h.written x)
unfolding do_move
kept_after u m back h v x p kept = kept_arrives u m back h x v.target (moved (read_held h.written) v) p kept

-- the operation that a move of a word starts
abbrev pub starting : Machine → Written → Target → Option ℕ → Option Start
starting m written d o = option_and_then (start_of m written) (bringing d o)

-- the word that a move brings to a unit's port, at once
abbrev pub shown_of : Units → (memory frame : List ℕ) (input : ℕ) → ℕ → Option Start → Option ℕ
shown_of u memory frame input unit o =
    option_and_then (λ t. if has_result t.does.op && t.unit == unit then Some (result_word u memory frame input t t.does.op) else None) o

pub port_arrives : (u : Units) (m : Machine) (back : ℕ) (h : Held) (unit : ℕ) (d : Target) (o : Option ℕ) → IsPlain m d
    → lookup (total u m back h (bringing d o)).written (KeptPort unit) ≡ or_else (shown_of u h.memory h.frame (slice_index h.rest 0) unit (starting m h.written d o)) (lookup h.written (KeptPort unit))
port_arrives u m back h unit d None p = refl
port_arrives u m back h unit _ (Some w) (to_register f i) = refl
port_arrives u m back h unit _ (Some w) (to_operand un) = refl
port_arrives u m back h unit _ (Some w) (to_imm un imm) = refl
port_arrives u m back h unit _ (Some w) to_jump = refl
port_arrives u m back h unit _ (Some w) to_call = refl
port_arrives u m back h unit _ (Some w) to_halt = refl
port_arrives u m back h unit _ (Some w) (to_trigger un k o at lat) = rw at (either (has_result o.op) (λ t. rw t (or_if (un == unit) _ (lookup h.written (KeptPort unit)))) (λ t. rw t refl))

-- a result port after a move
pub port_after : (u : Units) (m : Machine) (back : ℕ) (h : Held) (v : Effect) (unit : ℕ) → IsPlain m v.target
    → lookup (do_move u m back h v).written (KeptPort unit) ≡ or_else (shown_of u h.memory h.frame (slice_index h.rest 0) unit (starting m h.written v.target (moved (read_held h.written) v))) (lookup h.written (KeptPort unit))
unfolding do_move
port_after u m back h v unit p = port_arrives u m back h unit v.target (moved (read_held h.written) v) p

-- a unit whose port a move does not write
pub shown_other : (u : Units) (m : Machine) (memory frame : List ℕ) (input : ℕ) (written : Written) (unit : ℕ) (v : Effect) (o : Option ℕ) → IsPlain m v.target → offset (KeptPort unit) (writes_by m v) ≡ None
    → shown_of u memory frame input unit (starting m written v.target o) ≡ None
shown_other u m memory frame input written unit v None p e = refl
shown_other u m memory frame input written unit v (Some w) p e = on v.target p e where
  on : (d : Target) → IsPlain m d → offset (KeptPort unit) (writes_by m (record v { target = d })) ≡ None → shown_of u memory frame input unit (starting m written d (Some w)) ≡ None
  on _ (to_register f i) e = refl
  on _ (to_operand un) e = refl
  on _ (to_imm un imm) e = refl
  on _ to_jump e = refl
  on _ to_call e = refl
  on _ to_halt e = refl
  on _ (to_trigger un k o at lat) e = let e' = rw at at e in rw at (either (has_result o.op) (λ t. rw t (grind (arith, nat_tests, rw t at e'))) (λ t. rw t refl))

-- ---- control

abbrev pub control_in : Target → Option ℕ → Option (Kind × ℕ)
control_in d o = option_and_then control_of (bringing d o)

pub control_other : (m : Machine) (d : Target) (o : Option ℕ) → IsPlain m d → is_control d ≡ false → control_in d o ≡ None
control_other m d None p e = refl
control_other m _ (Some w) (to_register f i) e = refl
control_other m _ (Some w) (to_operand un) e = refl
control_other m _ (Some w) (to_imm un imm) e = refl
control_other m _ (Some w) (to_trigger un k o at lat) e = refl
control_other m _ (Some w) to_jump e = absurd cc
control_other m _ (Some w) to_call e = absurd cc
control_other m _ (Some w) to_halt e = absurd cc

pub exit_arrives : (u : Units) (m : Machine) (back : ℕ) (h : Held) (d : Target) (o : Option ℕ) → IsPlain m d → (total u m back h (bringing d o)).exit ≡ exit_after h.exit (control_in d o)
exit_arrives u m back h d None p = refl
exit_arrives u m back h _ (Some w) (to_register f i) = refl
exit_arrives u m back h _ (Some w) (to_operand un) = refl
exit_arrives u m back h _ (Some w) (to_imm un imm) = refl
exit_arrives u m back h _ (Some w) (to_trigger un k o at lat) = refl
exit_arrives u m back h _ (Some w) to_jump = refl
exit_arrives u m back h _ (Some w) to_call = refl
exit_arrives u m back h _ (Some w) to_halt = refl

pub exit_then : (u : Units) (m : Machine) (back : ℕ) (h : Held) (v : Effect) → IsPlain m v.target → (do_move u m back h v).exit ≡ exit_after h.exit (control_in v.target (moved (read_held h.written) v))
unfolding do_move
exit_then u m back h v p = exit_arrives u m back h v.target (moved (read_held h.written) v) p

-- only a call writes the address to come back to
pub into_back : (m : Machine) (a b : ℕ) (x : Place) (d : Target) (o : Option ℕ) → IsPlain m d → (d ≡ (Control Calls) → a ≡ b) → into m a x d o ≡ into m b x d o
into_back m a b x d None p h = refl
into_back m a b x _ (Some w) (to_register f i) h = refl
into_back m a b x _ (Some w) (to_operand un) h = refl
into_back m a b x _ (Some w) (to_imm un imm) h = refl
into_back m a b x _ (Some w) (to_trigger un k o at lat) h = refl
into_back m a b x _ (Some w) to_jump h = refl
into_back m a b x _ (Some w) to_call h = rw (h refl) refl
into_back m a b x _ (Some w) to_halt h = refl
