-- What the moves of a cycle write and start.
use Rattle.std.proofs.Common.{◌≡◌, ℕ, ◌+◌, ◌<◌, Bool, true, false, List, [], ◌∷◌, ◌++◌, Option, Some, None, refl, sym, ap, ◌∙◌, arith}
use Rattle.std.specs.Prelude.{slice_index, option_and_then, ◌==◌, is_none, if◌then◌else◌}
use Rattle.std.specs.Option.{option_map_or}
use Rattle.std.specs.List.{filter_map}
use Rattle.std.proofs.lemmas.Bool.Decides.{nat_tests}
use Rattle.std.proofs.lemmas.Option.{same_Some}
use Rattle.tta_sched_laws.specs.Cited.{UnitOp, Machine, Target, Trigger, Effect, Place, KeptReg, KeptImm, KeptOperand, KeptRa, KeptPort, Written, Reads, moved, bring, write_of, Start, start_of, operand_of, has_result, result_word, lacks_operand, or_else, Units, State, Result', result_of, At, Started}
use Rattle.tta_arch.specs.Effects.{same_place, kept as lookup, first_some as pick}
use Rattle.tta_sched_laws.proofs.Total.{writes_by}
use Rattle.tta_sched_laws.proofs.Pick.{pick_same, and_then_assoc, pick-append, pick-filter_map}
use Rattle.tta_sched_laws.proofs.Ports.{due_then}
use Rattle.tta_sched_laws.proofs.Steps.{word_at, lookup_pick, into, offset, IsPlain, to_register, to_imm, to_operand, to_trigger, to_jump, to_call, to_halt, is_kept, port_not_kept, starting, shown_of}
use Rattle.tta_moves.proofs.Places.{either}

-- ---- the moves of one cycle

-- what the places hold after the moves of a cycle
pub kept_cycle : (m : Machine) (back : ℕ) (reads : Reads) (x : Place) (vs : List Effect) (rest : Written)
    → lookup (filter_map (write_of m back) (filter_map (bring reads) vs) ++ rest) x ≡ or_else (pick (λ (v : Effect). into m back x v.target (moved reads v)) vs) (lookup rest x)
kept_cycle m back reads x vs rest =
    lookup_pick _ x ∙ pick-append (word_at x) (filter_map (write_of m back) (filter_map (bring reads) vs)) rest
    ∙ ap (λ o. or_else o (pick (word_at x) rest)) (pick-filter_map (word_at x) (write_of m back) (filter_map (bring reads) vs) ∙ pick-filter_map _ (bring reads) vs)
    ∙ ap (or_else _) (sym (lookup_pick rest x))

-- the result that a move starts, if it is due at this moment
abbrev pub coming_of : Units → State → (unit at : ℕ) → Option Start → Option Result'
coming_of u s unit at o = option_and_then (λ t. option_and_then (due_then unit at) (result_of u s t)) o

-- what is due at a moment after the moves of a cycle
pub due_cycle : (u : Units) (m : Machine) (s : State) (reads : Reads) (written : Written) (unit at : ℕ) (vs : List Effect) (old : List Result')
    → pick (due_then unit at) (filter_map (result_of u s) (filter_map (start_of m written) (filter_map (bring reads) vs)) ++ old)
    ≡ or_else (pick (λ (v : Effect). coming_of u s unit at (starting m written v.target (moved reads v))) vs) (pick (due_then unit at) old)
due_cycle u m s reads written unit at vs old =
    let starts = filter_map (start_of m written) (filter_map (bring reads) vs) in
    let comes = λ (t : Start). option_and_then (due_then unit at) (result_of u s t) in
    pick-append (due_then unit at) (filter_map (result_of u s) starts) old
    ∙ ap (λ o. or_else o (pick (due_then unit at) old))
    (pick-filter_map (due_then unit at) (result_of u s) starts
    ∙ pick-filter_map comes (start_of m written) (filter_map (bring reads) vs)
    ∙ pick-filter_map (λ b. option_and_then comes (start_of m written b)) (bring reads) vs
    ∙ pick_same _ _ vs (λ v. sym (and_then_assoc comes (start_of m written) (bring reads v))))

-- a kept place shows one cycle after a move into it
pub kept_offset : (m : Machine) (x : Place) (v : Effect) (a : ℕ) → IsPlain m v.target → is_kept x ≡ true → offset x (writes_by m v) ≡ Some a → a ≡ 1
kept_offset m x v a p kept e = on v.target p e where
  one : (b : Bool) → or_else (if b then Some 1 else None) None ≡ Some a → a ≡ 1
  one true q = cc
  one false q = cc

  on : (d : Target) → IsPlain m d → offset x (writes_by m (record v { target = d })) ≡ Some a → a ≡ 1
  on _ (to_register f i) e = one (same_place (KeptReg f i) x) e
  on _ (to_operand unit) e = one (same_place (KeptOperand unit) x) e
  on _ (to_imm unit imm) e = one (same_place (KeptImm unit imm) x) e
  on _ to_jump e = absurd cc
  on _ to_call e = one (same_place KeptRa x) e
  on _ to_halt e = absurd cc
  on _ (to_trigger unit k o at lat) e =
      let g = rw at at e in
      either (has_result o.op)
      (λ t. let g' : offset x ((Started unit, 1) ∷ (At (KeptPort unit), o.latency) ∷ []) ≡ Some a = rw t at g in one (false) (rw (port_not_kept unit x kept) at g'))
      (λ t. one (false) (rw t at g))

-- whatever the list has in a place, the machine has there
abbrev pub Covers : Option ℕ → Option ℕ → Type 0
Covers held value = (w : ℕ) → value ≡ Some w → held ≡ Some w

pub covers_or : (o held value : Option ℕ) → Covers held value → Covers (or_else o held) (or_else o value)
covers_or None held value c w e = c w e
covers_or (Some v) held value c w e = e

-- what is set is the same
pub covers_set : (held value : Option ℕ) → Covers held value → is_none value ≡ false → held ≡ value
covers_set held None c e = cc
covers_set held (Some w) c e = c w refl

-- what a trigger starts, by its operand
pub starting_same : (m : Machine) (w w' : Written) (v : Effect) (o : Option ℕ) → IsPlain m v.target
    → ((unit k : ℕ) → v.target ≡ Trigger unit k → Covers (lookup w (KeptOperand unit)) (lookup w' (KeptOperand unit)))
    → option_map_or lacks_operand (starting m w' v.target o) false ≡ false → starting m w v.target o ≡ starting m w' v.target o
starting_same m w w' v None p h l = refl
starting_same m w w' v (Some word) p h l = on v.target p h l where
  on : (d : Target) → IsPlain m d → ((unit k : ℕ) → d ≡ Trigger unit k → Covers (lookup w (KeptOperand unit)) (lookup w' (KeptOperand unit)))
      → option_map_or lacks_operand (starting m w' d (Some word)) false ≡ false → starting m w d (Some word) ≡ starting m w' d (Some word)
  on _ (to_register f i) h l = refl
  on _ (to_operand unit) h l = refl
  on _ (to_imm unit imm) h l = refl
  on _ to_jump h l = refl
  on _ to_call h l = refl
  on _ to_halt h l = refl
  on _ (to_trigger unit k o at lat) h l =
      let c = h unit k refl in
      let l' : is_none (operand_of w' unit o) ≡ false = rw at at l in
      let same : operand_of w unit o ≡ operand_of w' unit o =
      either (o.arity == 2) (λ t. rw t (covers_set (lookup w (KeptOperand unit)) (lookup w' (KeptOperand unit)) c (rw t at l'))) (λ t. rw t refl) in
      rw (at, same) refl

-- a result of a unit that is due at a moment
abbrev pub as_due : (unit at : ℕ) → Option ℕ → Option Result'
as_due unit at o = option_map_or (λ w. Some (record { unit = unit; due = at; value = w })) o None

pub due_case : (un unit lat cycle begin c d word : ℕ) → cycle ≡ begin + c
    → due_then unit (begin + d) (record { unit = un; due = cycle + lat; value = word })
    ≡ (if option_map_or (λ a. c + a == d) (or_else (if un == unit then Some lat else None) None) false then as_due unit (begin + d) (if un == unit then Some word else None) else None)
due_case un unit lat cycle begin c d word e =
    either (un == unit)
    (λ t.
    let same : un ≡ unit = grind (arith, nat_tests) in
    let g : (cycle + lat == begin + d) ≡ (c + lat == d) = grind (arith, nat_tests) in
    rw (t, g) (either (c + lat == d)
    (λ t'. let r : cycle + lat ≡ begin + d = grind (arith, nat_tests) in rw (t', same, r) refl)
    (λ t'. rw t' refl)))
    (λ t. rw t refl)

pub if_none : {A : Type 0} (b : Bool) (o : Option A) → o ≡ None → (if b then o else None) ≡ None
if_none true o e = e
if_none false o e = refl

-- what a move brings to a port at a moment is its result
pub coming_is : (u : Units) (m : Machine) (s : State) (begin c d unit : ℕ) (memory frame : List ℕ) (input : ℕ) (written : Written) (v : Effect) (o : Option ℕ) → IsPlain m v.target → s.cycle ≡ begin + c
    → ((t : Start) → starting m written v.target o ≡ Some t → result_word u s.memory s.frame (slice_index s.rest 0) t t.does.op ≡ result_word u memory frame input t t.does.op)
    → coming_of u s unit (begin + d) (starting m written v.target o)
    ≡ (if option_map_or (λ a. c + a == d) (offset (KeptPort unit) (writes_by m v)) false then as_due unit (begin + d) (shown_of u memory frame input unit (starting m written v.target o)) else None)
coming_is u m s begin c d unit memory frame input written v None p e same = sym (if_none _ None refl)
coming_is u m s begin c d unit memory frame input written v (Some w) p e same = on v.target p same where
  on : (t : Target) → IsPlain m t → ((q : Start) → starting m written t (Some w) ≡ Some q → result_word u s.memory s.frame (slice_index s.rest 0) q q.does.op ≡ result_word u memory frame input q q.does.op) → coming_of u s unit (begin + d) (starting m written t (Some w))
      ≡ (if option_map_or (λ a. c + a == d) (offset (KeptPort unit) (writes_by m (record v { target = t }))) false then as_due unit (begin + d) (shown_of u memory frame input unit (starting m written t (Some w))) else None)
  on _ (to_register f i) same = refl
  on _ (to_operand un) same = refl
  on _ (to_imm un imm) same = refl
  on _ to_jump same = refl
  on _ to_call same = refl
  on _ to_halt same = refl
  on _ (to_trigger un k o at lat) same =
      let start : Start = record { unit = un; does = o; operand = operand_of written un o; word = w } in
      let value : result_word u s.memory s.frame (slice_index s.rest 0) start o.op ≡ result_word u memory frame input start o.op = same start (rw at refl) in
      rw at (either (has_result o.op) (λ t. rw (t, value) (due_case un unit o.latency s.cycle begin c d (result_word u memory frame input start o.op) e)) (λ t. rw t refl))

pub due_of : (u : Units) (s : State) (t : Start) (r : Result') → has_result t.does.op ≡ true → result_of u s t ≡ Some r → r.due ≡ s.cycle + t.does.latency
due_of u s t r has e = sym (ap (λ (q : Result'). q.due) (same_Some _ r (rw has at e)))

-- what starts now is due later
pub starts_later : (u : Units) (m : Machine) (s : State) (written : Written) (v : Effect) (o : Option ℕ) (t : Start) (r : Result') → IsPlain m v.target → starting m written v.target o ≡ Some t → result_of u s t ≡ Some r → s.cycle < r.due
starts_later u m s written v None t r p e g = absurd cc
starts_later u m s written v (Some w) t r p e g = on v.target p e where
  on : (d : Target) → IsPlain m d → starting m written d (Some w) ≡ Some t → s.cycle < r.due
  on _ (to_register f i) e = cc
  on _ (to_operand un) e = cc
  on _ (to_imm un imm) e = cc
  on _ to_jump e = cc
  on _ to_call e = cc
  on _ to_halt e = cc
  on _ (to_trigger un k o at lat) e =
      let same : o ≡ t.does = ap (λ (q : Start). q.does) (same_Some _ t (rw at at e)) in
      either (has_result t.does.op)
      (λ has.
      let late = due_of u s t r has g in
      let l : o.latency ≡ t.does.latency = ap (λ (q : UnitOp). q.latency) same in
      let pos = lat (rw same has) in
      omega arith)
      (λ has. let g' : None ≡ Some r = rw has at g in absurd cc)

-- what starts writes its unit's port
pub starts_writes : (m : Machine) (written : Written) (v : Effect) (o : Option ℕ) (t : Start) → IsPlain m v.target → starting m written v.target o ≡ Some t → has_result t.does.op ≡ true
    → (offset (KeptPort t.unit) (writes_by m v) ≡ Some t.does.latency) × (0 < t.does.latency)
starts_writes m written v None t p e has = absurd cc
starts_writes m written v (Some w) t p e has = on v.target p e where
  on : (d : Target) → IsPlain m d → starting m written d (Some w) ≡ Some t → (offset (KeptPort t.unit) (writes_by m (record v { target = d })) ≡ Some t.does.latency) × (0 < t.does.latency)
  on _ (to_register f i) e = absurd cc
  on _ (to_operand un) e = absurd cc
  on _ (to_imm un imm) e = absurd cc
  on _ to_jump e = absurd cc
  on _ to_call e = absurd cc
  on _ to_halt e = absurd cc
  on _ (to_trigger un k o at lat) e =
      let whole = same_Some _ t (rw at at e) in
      let same : o ≡ t.does = ap (λ (q : Start). q.does) whole in
      let unit : un ≡ t.unit = ap (λ (q : Start). q.unit) whole in
      let l : o.latency ≡ t.does.latency = ap (λ (q : UnitOp). q.latency) same in
      let self : un == un ≡ true = grind (arith, nat_tests) in
      let has' : has_result o.op ≡ true = rw same has in
      let pos = lat has' in
      (rw (at, has', ← l, ← unit, self) refl, omega arith)

-- no write shows in its own cycle
pub write_later : (m : Machine) (x : Place) (v : Effect) (a : ℕ) → IsPlain m v.target → offset x (writes_by m v) ≡ Some a → 0 < a
write_later m x v a p e = on v.target p e where
  step : (b : Bool) (k : ℕ) (rest : Option ℕ) → 0 < k → (rest ≡ Some a → 0 < a) → or_else (if b then Some k else None) rest ≡ Some a → 0 < a
  step true k rest lt h q = let g : k ≡ a = same_Some k a q in omega arith
  step false k rest lt h q = h q

  on : (d : Target) → IsPlain m d → offset x (writes_by m (record v { target = d })) ≡ Some a → 0 < a
  on _ (to_register f i) e = step (same_place (KeptReg f i) x) 1 None (omega arith) (λ q. absurd cc) e
  on _ (to_operand unit) e = step (same_place (KeptOperand unit) x) 1 None (omega arith) (λ q. absurd cc) e
  on _ (to_imm unit imm) e = step (same_place (KeptImm unit imm) x) 1 None (omega arith) (λ q. absurd cc) e
  on _ to_jump e = absurd cc
  on _ to_call e = step (same_place KeptRa x) 1 None (omega arith) (λ q. absurd cc) e
  on _ to_halt e = absurd cc
  on _ (to_trigger unit k o at lat) e =
      let g = rw at at e in
      either (has_result o.op)
      (λ t. step (false) 1 _ (omega arith) (step (same_place (KeptPort unit) x) o.latency None (lat t) (λ q. absurd cc)) (rw t at g))
      (λ t. step (false) 1 None (omega arith) (λ q. absurd cc) (rw t at g))
