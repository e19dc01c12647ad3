-- What one effect reads and writes.
use Rattle.std.proofs.Common.{◌≡◌, ℕ, Bool, true, false, [], ◌∷◌, ◌++◌, Option, Some, None, refl, sym, ap, ◌∙◌}
use Rattle.std.specs.Prelude.{if◌then◌else◌, ◌==◌, ◌&&◌, ◌||◌, is_none, option_and_then}
use Rattle.std.specs.Option.{option_map_or, option_to_list}
use Rattle.tta_moves.specs.Cited.{Units, GuardRef, UnitOp, Machine, Target, Reg, Imm, Operand, Trigger, Control, Jumps, Calls, Halts, Effect, Place, KeptOperand, KeptPort, same_place, Written, kept, Reads, guard_word, passes, is_active, moved, Brought, bring, op_at, has_result, Start, start_of, operand_of, write_of, has_unset, has_unset_guard, lacks_operand}
use Rattle.tta_moves.specs.Touches.{guard_place, place_written, is_at}
use Rattle.tta_moves.specs.Meaning.{Waits, is_waiting, Held, read_held, result_at_once, acts, waits_for, arrives, does, lacks}
use Rattle.tta_moves.proofs.Places.{kept_elsewhere}

-- ---- what is read

-- two lists of writes are the same to an effect
pub record SameReads (e : Effect) (vs ws : Written) : Type 0 where
  pub guard : (g : GuardRef) → e.guard ≡ Some g → kept vs (guard_place g) ≡ kept ws (guard_place g)
  pub source : read_held vs e.src ≡ read_held ws e.src
  pub operand : (unit : ℕ) → kept vs (KeptOperand unit) ≡ kept ws (KeptOperand unit)

pub active_by : (o : Option GuardRef) (vs ws : Written) → ((g : GuardRef) → o ≡ Some g → kept vs (guard_place g) ≡ kept ws (guard_place g))
    → option_map_or (λ g. option_map_or (passes g) (guard_word (read_held vs) g) false) o true ≡ option_map_or (λ g. option_map_or (passes g) (guard_word (read_held ws) g) false) o true
active_by None vs ws h = refl
active_by (Some g) vs ws h = ap (λ q. option_map_or (passes g) q false) (h g refl)

pub unset_by : (o : Option GuardRef) (vs ws : Written) → ((g : GuardRef) → o ≡ Some g → kept vs (guard_place g) ≡ kept ws (guard_place g))
    → option_map_or (λ g. is_none (guard_word (read_held vs) g)) o false ≡ option_map_or (λ g. is_none (guard_word (read_held ws) g)) o false
unset_by None vs ws h = refl
unset_by (Some g) vs ws h = ap (λ q. is_none q) (h g refl)

pub same_active : (e : Effect) (vs ws : Written) → SameReads e vs ws → is_active (read_held vs) e ≡ is_active (read_held ws) e
same_active e vs ws same = active_by e.guard vs ws same.guard

pub same_bring : (e : Effect) (vs ws : Written) → SameReads e vs ws → bring (read_held vs) e ≡ bring (read_held ws) e
same_bring e vs ws same =
    ap (λ (a : Bool). option_map_or (λ word. Some (e.target, word)) (if a then read_held vs e.src else None) None) (same_active e vs ws same)
    ∙ ap (λ (q : Option ℕ). option_map_or (λ word. Some (e.target, word)) (if is_active (read_held ws) e then q else None) None) same.source

-- an operation that starts, by what is written
abbrev pub starting : Written → ℕ → ℕ → UnitOp → Option Start
starting vs unit word o = Some (record { unit = unit; does = o; operand = operand_of vs unit o; word = word })

pub same_start : (m : Machine) (vs ws : Written) (b : Brought) → ((unit : ℕ) → kept vs (KeptOperand unit) ≡ kept ws (KeptOperand unit)) → start_of m vs b ≡ start_of m ws b
same_start m vs ws b same = on b.0 where
  by : (unit : ℕ) (o : Option UnitOp) → option_map_or (λ o. starting vs unit b.1 o) o None ≡ option_map_or (λ o. starting ws unit b.1 o) o None
  by unit None = refl
  by unit (Some o) = ap (λ (q : Option ℕ). Some (record { unit = unit; does = o; operand = (if o.arity == 2 then q else Some 0); word = b.1 })) (same unit)

  on : (t : Target) → start_of m vs (t, b.1) ≡ start_of m ws (t, b.1)
  on (Reg f i) = refl
  on (Imm f i) = refl
  on (Operand unit) = refl
  on (Trigger unit op) = by unit (op_at m unit op)
  on (Control kind) = refl

pub same_lacks : (m : Machine) (h : Held) (e : Effect) (ws : Written) → SameReads e ws h.written → lacks m (record h { written = ws }) e ≡ lacks m h e
unfolding lacks
same_lacks m h e ws same =
    ap (λ (a : Bool). a || has_unset (read_held ws) (λ s. true) e || option_map_or (λ b. option_map_or lacks_operand (start_of m ws b) false) (bring (read_held ws) e) false) (unset_by e.guard ws h.written same.guard)
    ∙ ap (λ (a : Bool). has_unset_guard (read_held h.written) e || (a && true && is_none (read_held ws e.src)) || option_map_or (λ b. option_map_or lacks_operand (start_of m ws b) false) (bring (read_held ws) e) false) (same_active e ws h.written same)
    ∙ ap (λ (q : Option ℕ). has_unset_guard (read_held h.written) e || (is_active (read_held h.written) e && true && is_none q) || option_map_or (λ b. option_map_or lacks_operand (start_of m ws b) false) (bring (read_held ws) e) false) same.source
    ∙ ap (λ (o : Option Brought). has_unset_guard (read_held h.written) e || has_unset (read_held h.written) (λ s. true) e || option_map_or (λ b. option_map_or lacks_operand (start_of m ws b) false) o false) (same_bring e ws h.written same)
    ∙ ap (λ (x : Bool). has_unset_guard (read_held h.written) e || has_unset (read_held h.written) (λ s. true) e || x) (operand_by (bring (read_held h.written) e)) where
      operand_by : (o : Option Brought) → option_map_or (λ b. option_map_or lacks_operand (start_of m ws b) false) o false ≡ option_map_or (λ b. option_map_or lacks_operand (start_of m h.written b) false) o false
      operand_by None = refl
      operand_by (Some b) = ap (λ (t : Option Start). option_map_or lacks_operand t false) (same_start m ws h.written b same.operand)

-- ---- what is written

-- the word that is written where a word is brought, with the place
abbrev pub write_at_once : Units → Machine → (back : ℕ) → Held → Brought → Option (Place × ℕ)
write_at_once u m back h b =
    if waits_for h (option_to_list (start_of m h.written b)) then None
    else option_map_or (λ w. Some w) (write_of m back b) (option_and_then (result_at_once u h) (start_of m h.written b))

-- the word that an effect writes, with the place
abbrev pub step_write : Units → Machine → (back : ℕ) → Held → Effect → Option (Place × ℕ)
step_write u m back h e = if is_waiting h.exit then None else option_and_then (write_at_once u m back h) (bring (read_held h.written) e)

acts_same : (u : Units) (m : Machine) (back : ℕ) (h : Held) (ws : Written) (b : Brought)
    → acts u m back (record h { written = ws }) b (option_to_list (start_of m h.written b))
    ≡ record (acts u m back h b (option_to_list (start_of m h.written b))) { written = option_to_list (option_map_or (λ w. Some w) (write_of m back b) (option_and_then (result_at_once u h) (start_of m h.written b))) ++ ws }
acts_same u m back h ws (Reg f i, w) = refl
acts_same u m back h ws (Imm f i, w) = refl
acts_same u m back h ws (Operand unit, w) = refl
acts_same u m back h ws (Control Jumps, w) = refl
acts_same u m back h ws (Control Calls, w) = refl
acts_same u m back h ws (Control Halts, w) = refl
acts_same u m back h ws (Trigger unit op, w) = on (op_at m unit op) where
  by : (o : UnitOp) (t : Bool) → has_result o.op ≡ t → let s : Start = record { unit = unit; does = o; operand = operand_of h.written unit o; word = w } in
      acts u m back (record h { written = ws }) (Trigger unit op, w) (s ∷ []) ≡ record (acts u m back h (Trigger unit op, w) (s ∷ [])) { written = option_to_list (result_at_once u h s) ++ ws }
  by o true e = rw e refl
  by o false e = rw e refl

  on : (o : Option UnitOp) → let s : Option Start = option_map_or (λ o. starting h.written unit w o) o None in
      acts u m back (record h { written = ws }) (Trigger unit op, w) (option_to_list s)
      ≡ record (acts u m back h (Trigger unit op, w) (option_to_list s)) { written = option_to_list (option_and_then (result_at_once u h) s) ++ ws }
  on None = refl
  on (Some o) = by o (has_result o.op) refl

arrives_same : (u : Units) (m : Machine) (back : ℕ) (h : Held) (ws : Written) (o : Option Brought) → ((unit : ℕ) → kept ws (KeptOperand unit) ≡ kept h.written (KeptOperand unit))
    → arrives u m back (record h { written = ws }) o ≡ record (arrives u m back h o) { written = option_to_list (option_and_then (write_at_once u m back h) o) ++ ws }
arrives_same u m back h ws None same = refl
arrives_same u m back h ws (Some b) same =
    ap (λ (t : Option Start). if waits_for h (option_to_list t) then record h { written = ws; exit = Waits } else acts u m back (record h { written = ws }) b (option_to_list t)) (same_start m ws h.written b same)
    ∙ on (waits_for h (option_to_list (start_of m h.written b))) refl where
      on : (c : Bool) → waits_for h (option_to_list (start_of m h.written b)) ≡ c
          → (if c then record h { written = ws; exit = Waits } else acts u m back (record h { written = ws }) b (option_to_list (start_of m h.written b)))
          ≡ record (if c then record h { exit = Waits } else acts u m back h b (option_to_list (start_of m h.written b))) {
            written = option_to_list (if c then None else option_map_or (λ w. Some w) (write_of m back b) (option_and_then (result_at_once u h) (start_of m h.written b))) ++ ws;
          }
      on true e = refl
      on false e = acts_same u m back h ws b

-- an effect from a state with other writes that are the same to it: the same word is written on top, and all else is equal
pub does_same : (u : Units) (m : Machine) (back : ℕ) (h : Held) (e : Effect) (ws : Written) → SameReads e ws h.written
    → does u m back (record h { written = ws }) e ≡ record (does u m back h e) { written = option_to_list (step_write u m back h e) ++ ws }
unfolding does
does_same u m back h e ws same = on (is_waiting h.exit) where
  on : (c : Bool) → (if c then record h { written = ws } else arrives u m back (record h { written = ws }) (bring (read_held ws) e))
      ≡ record (if c then h else arrives u m back h (bring (read_held h.written) e)) {
        written = option_to_list (if c then None else option_and_then (write_at_once u m back h) (bring (read_held h.written) e)) ++ ws;
      }
  on true = refl
  on false =
      ap (λ (o : Option Brought). arrives u m back (record h { written = ws }) o) (same_bring e ws h.written same)
      ∙ arrives_same u m back h ws (bring (read_held h.written) e) same.operand

pub does_written : (u : Units) (m : Machine) (back : ℕ) (h : Held) (e : Effect) → (does u m back h e).written ≡ option_to_list (step_write u m back h e) ++ h.written
does_written u m back h e =
    ap (λ (k : Held). k.written) (does_same u m back h e h.written (record { guard = λ g is. refl; source = refl; operand = λ unit. refl }))

-- ---- where it is written

brought_target : (e : Effect) (reads : Reads) (b : Brought) → bring reads e ≡ Some b → b.0 ≡ e.target
brought_target e reads b h = on (moved reads e) h where
  on : (o : Option ℕ) → option_map_or (λ word. Some (e.target, word)) o None ≡ Some b → b.0 ≡ e.target
  on None h = absurd cc
  on (Some w) h = let same : (e.target, w) ≡ b = cc in ap (λ (c : Brought). c.0) (sym same)

at_once_place : (u : Units) (m : Machine) (back : ℕ) (h : Held) (b : Brought) (w : Place × ℕ) → write_at_once u m back h b ≡ Some w → place_written m b.0 ≡ Some w.0
at_once_place u m back h b w e = waited (waits_for h (option_to_list (start_of m h.written b))) e where
  fst : {q : Place} {n : ℕ} → ◌≡◌ {A = Option (Place × ℕ)} (Some (q, n)) (Some w) → Some q ≡ Some w.0
  fst {q} {n} e = let same : ◌≡◌ {A = Place × ℕ} (q, n) w = cc in ap (λ (c : Place × ℕ). Some c.0) same

  op_by : (unit word : ℕ) (o : UnitOp) (r : Bool) → has_result o.op ≡ r
      → result_at_once u h (record { unit = unit; does = o; operand = operand_of h.written unit o; word = word }) ≡ Some w
      → (if has_result o.op then Some (KeptPort unit) else None) ≡ Some w.0
  op_by unit word o true r e = rw r (fst (rw r at e))
  op_by unit word o false r e = let none = rw r at e in absurd cc

  ops : (unit word : ℕ) (o : Option UnitOp)
      → option_and_then (result_at_once u h) (option_map_or (λ o. starting h.written unit word o) o None) ≡ Some w
      → option_map_or (λ o. if has_result o.op then Some (KeptPort unit) else None) o None ≡ Some w.0
  ops unit word None e = absurd cc
  ops unit word (Some o) e = op_by unit word o (has_result o.op) refl e

  on : (t : Target) (word : ℕ) → option_map_or (λ w. Some w) (write_of m back (t, word)) (option_and_then (result_at_once u h) (start_of m h.written (t, word))) ≡ Some w → place_written m t ≡ Some w.0
  on (Reg f i) word e = fst e
  on (Imm f i) word e = fst e
  on (Operand unit) word e = fst e
  on (Trigger unit op) word e = ops unit word (op_at m unit op) e
  on (Control Jumps) word e = absurd cc
  on (Control Calls) word e = fst e
  on (Control Halts) word e = absurd cc

  waited : (c : Bool) → (if c then None else option_map_or (λ w. Some w) (write_of m back b) (option_and_then (result_at_once u h) (start_of m h.written b))) ≡ Some w → place_written m b.0 ≡ Some w.0
  waited true e = absurd cc
  waited false e = on b.0 b.1 e

pub step_place : (u : Units) (m : Machine) (back : ℕ) (h : Held) (e : Effect) (w : Place × ℕ) → step_write u m back h e ≡ Some w → place_written m e.target ≡ Some w.0
step_place u m back h e w is = waited (is_waiting h.exit) is where
  on : (o : Option Brought) → bring (read_held h.written) e ≡ o → option_and_then (write_at_once u m back h) o ≡ Some w → place_written m e.target ≡ Some w.0
  on None r i = absurd cc
  on (Some b) r i = ap (λ (t : Target). place_written m t) (sym (brought_target e (read_held h.written) b r)) ∙ at_once_place u m back h b w i

  waited : (c : Bool) → (if c then None else option_and_then (write_at_once u m back h) (bring (read_held h.written) e)) ≡ Some w → place_written m e.target ≡ Some w.0
  waited true i = absurd cc
  waited false i = on (bring (read_held h.written) e) refl i

-- a place that an effect may not write keeps its word
pub kept_other : (u : Units) (m : Machine) (back : ℕ) (h : Held) (e : Effect) (p : Place) → is_at p (place_written m e.target) ≡ false → kept (does u m back h e).written p ≡ kept h.written p
kept_other u m back h e p away =
    ap (λ (ws : Written). kept ws p) (does_written u m back h e) ∙ on (step_write u m back h e) (λ w is. step_place u m back h e w is) where
      on : (o : Option (Place × ℕ)) → ((w : Place × ℕ) → o ≡ Some w → place_written m e.target ≡ Some w.0) → kept (option_to_list o ++ h.written) p ≡ kept h.written p
      on None at = refl
      on (Some w) at =
          let here : place_written m e.target ≡ Some w.0 = at w refl in
          let other : same_place w.0 p ≡ false = rw here at away in
          kept_elsewhere w h.written p other
