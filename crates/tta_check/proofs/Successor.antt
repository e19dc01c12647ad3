-- What a state of the machine and a walk keep after a cycle.
use Rattle.std.proofs.Common.{◌≡◌, ℕ, ◌+◌, Bool, true, false, List, [], ◌∷◌, ◌++◌, map, Option, Some, None, refl, ap, ◌∙◌}
use Rattle.std.specs.Prelude.{◌==◌, ◌%◌, ◌&&◌, ◌||◌, is_none, slice_index, if◌then◌else◌}
use Rattle.std.specs.Option.{option_map, option_map_or}
use Rattle.std.specs.List.{list_any, filter_map, cons_option}
use Rattle.tta_check.specs.Cited.{Units, Machine, Kind, Jumps, Calls, Halts, Target, Trigger, Control, Effect, Place, KeptReg, KeptImm, KeptOperand, KeptRa, Written, kept, width_of, write_of, has_result, result_word, control_of, first_some, or_else, State, result_of}
use Rattle.tta_arch.specs.Effects.{Reg, Imm, Operand, same_place, Start}
use Rattle.tta_check.specs.Walks.{Choice, Word, Walk, Due, held_at, known, acts, holds, holds_at, due_of, controls, control_to, takes_address, goes_unknown}
use Rattle.tta_check.proofs.Shapes.{bring_with, Bare, bare}
use Rattle.tta_check.proofs.Alike.{due_in}
use Rattle.tta_check.proofs.Landing.{told}

-- ---- places

-- a place keeps a word in both, and the same one where it is known
pub record Kept (ws : Written) (hs : List (Place × Word)) (p : Place) : Type 0 where
  pub set : is_none (kept ws p) ≡ is_none (held_at hs p)
  pub word : (x : ℕ) → held_at hs p ≡ Some (Some x) → kept ws p ≡ Some x

put_alike : (q : Place) (x : ℕ) (o : Word) (ws : Written) (hs : List (Place × Word)) (p : Place) → ((y : ℕ) → o ≡ Some y → x ≡ y)
    → Kept ws hs p → Kept ((q, x) ∷ ws) ((q, o) ∷ hs) p
put_alike q x o ws hs p is k = let r = on (same_place q p) in record { set = r.0; word = r.1 } where
  on : (b : Bool) → (is_none (if b then Some x else kept ws p) ≡ is_none (if b then Some o else held_at hs p))
      × ((y : ℕ) → (if b then Some o else held_at hs p) ≡ Some (Some y) → (if b then Some x else kept ws p) ≡ Some y)
  on true = (refl, λ y e. ap Some (is y cc))
  on false = (k.set, k.word)

pub writes_kept : (m : Machine) (choice : Choice) (w : Walk) (back : ℕ) → back ≡ w.address + 1 + m.control.delay
    → (v : Effect → ℕ) → ((e : Effect) (y : ℕ) → known w e.src ≡ Some y → v e ≡ y)
    → (ws : Written) (hs : List (Place × Word)) (p : Place) → Kept ws hs p → (es : List Effect)
    → Kept (filter_map (write_of m back) (filter_map (bring_with (acts choice w) v) es) ++ ws) (filter_map (holds m choice w) es ++ hs) p
writes_kept m choice w back is v words ws hs p k [] = k
writes_kept m choice w back is v words ws hs p k (e ∷ es) = on (acts choice w e) (writes_kept m choice w back is v words ws hs p k es) where
  rest : Written
  rest = filter_map (write_of m back) (filter_map (bring_with (acts choice w) v) es) ++ ws

  values : List (Place × Word)
  values = filter_map (holds m choice w) es ++ hs

  wide : (b : Bool) (y : ℕ) → (if b then None else known w e.src) ≡ Some y → (if b then v e % 2 else v e) ≡ y
  wide true y h = absurd cc
  wide false y h = words e y h

  by : (t : Target) → Kept rest values p
      → Kept (cons_option (write_of m back (t, v e)) (filter_map (write_of m back) (filter_map (bring_with (acts choice w) v) es)) ++ ws)
      (cons_option (holds_at m w e.src t) (filter_map (holds m choice w) es) ++ hs) p
  by (Reg file index) = put_alike (KeptReg file index) _ _ rest values p (wide (width_of m file == 1))
  by (Imm unit index) = put_alike (KeptImm unit index) _ _ rest values p (words e)
  by (Operand unit) = put_alike (KeptOperand unit) _ _ rest values p (λ y h. absurd cc)
  by (Trigger unit op) = λ k. k
  by (Control Jumps) = λ k. k
  by (Control Calls) = put_alike KeptRa back _ rest values p (λ y h. let g : w.address + 1 + m.control.delay ≡ y = cc in is ∙ g)
  by (Control Halts) = λ k. k

  on : (b : Bool) → Kept rest values p
      → Kept (filter_map (write_of m back) (cons_option (if b then Some (e.target, v e) else None) (filter_map (bring_with (acts choice w) v) es)) ++ ws)
      (cons_option (if b then holds_at m w e.src e.target else None) (filter_map (holds m choice w) es) ++ hs) p
  on true = by e.target
  on false = λ k. k

-- ---- results

-- when the result of an operation that starts in this cycle is due
abbrev pub due_bare : ℕ → Bare → Option Due
due_bare now x = if has_result x.1.op then Some (record { unit = x.0; time = now + x.1.latency }) else None

pub dues_started : (u : Units) (s : State) (ts : List Start) → map due_in (filter_map (result_of u s) ts) ≡ filter_map (due_bare s.cycle) (map bare ts)
dues_started u s [] = refl
dues_started u s (t ∷ ts) = on (has_result t.does.op) (dues_started u s ts) where
  value : ℕ
  value = result_word u s.memory s.frame (slice_index s.rest 0) t t.does.op

  on : (b : Bool) → map due_in (filter_map (result_of u s) ts) ≡ filter_map (due_bare s.cycle) (map bare ts)
      → map due_in (cons_option (if b then Some (record { unit = t.unit; due = s.cycle + t.does.latency; value = value }) else None) (filter_map (result_of u s) ts))
      ≡ cons_option (if b then Some (record { unit = t.unit; time = s.cycle + t.does.latency }) else None) (filter_map (due_bare s.cycle) (map bare ts))
  on true more = ap (λ ds. record { unit = t.unit; time = s.cycle + t.does.latency } ∷ ds) more
  on false more = more

pub dues_walked : (w : Walk) (ts : List Start) → filter_map (due_of w) ts ≡ filter_map (due_bare w.cycle) (map bare ts)
dues_walked w [] = refl
dues_walked w (t ∷ ts) = ap (λ ds. cons_option (due_of w t) ds) (dues_walked w ts)

-- ---- control

abbrev as_told : Kind → ℕ → Option (Kind × ℕ)
as_told k x = Some (k, x)

pub controls_told : (choice : Choice) (w : Walk) (v : Effect → ℕ) → ((e : Effect) (y : ℕ) → known w e.src ≡ Some y → v e ≡ y)
    → (es : List Effect) → list_any (goes_unknown choice w) es ≡ false
    → option_map told (first_some control_of (filter_map (bring_with (acts choice w) v) es)) ≡ option_map told (first_some (controls choice w) es)
controls_told choice w v words [] none = refl
controls_told choice w v words (e ∷ es) none = on (acts choice w e) none (controls_told choice w v words es) where
  More : Type 0
  More = list_any (goes_unknown choice w) es ≡ false → option_map told (first_some control_of (filter_map (bring_with (acts choice w) v) es)) ≡ option_map told (first_some (controls choice w) es)

  word : (o : Word) → known w e.src ≡ o → (b : Bool) → (is_none o || b) ≡ false → v e ≡ option_map_or (λ x. x) o 0
  word None is b h = absurd cc
  word (Some y) is b h = words e y is

  by : (t : Target) → (((takes_address t && true) && is_none (known w e.src)) || list_any (goes_unknown choice w) es) ≡ false → More
      → option_map told (or_else (control_of (t, v e)) (first_some control_of (filter_map (bring_with (acts choice w) v) es)))
      ≡ option_map told (or_else (control_to (known w e.src) t) (first_some (controls choice w) es))
  by (Reg file index) h more = more h
  by (Imm unit index) h more = more h
  by (Operand unit) h more = more h
  by (Trigger unit op) h more = more h
  by (Control Jumps) h more = ap (λ (x : ℕ). as_told Jumps x) (word (known w e.src) refl _ h)
  by (Control Calls) h more = ap (λ (x : ℕ). as_told Calls x) (word (known w e.src) refl _ h)
  by (Control Halts) h more = refl

  no : (t : Target) (b : Bool) → (((takes_address t && false) && is_none (known w e.src)) || b) ≡ false → b ≡ false
  no (Reg file index) b h = h
  no (Imm unit index) b h = h
  no (Operand unit) b h = h
  no (Trigger unit op) b h = h
  no (Control Jumps) b h = h
  no (Control Calls) b h = h
  no (Control Halts) b h = h

  on : (b : Bool) → (((takes_address e.target && b) && is_none (known w e.src)) || list_any (goes_unknown choice w) es) ≡ false → More
      → option_map told (first_some control_of (cons_option (if b then Some (e.target, v e) else None) (filter_map (bring_with (acts choice w) v) es)))
      ≡ option_map told (or_else (if b then control_to (known w e.src) e.target else None) (first_some (controls choice w) es))
  on true h more = by e.target h more
  on false h more = more (no e.target _ h)
