-- What a circuit that leaves operations to modules has, and what keeps results in it reads.
use Rattle.std.proofs.Common.{◌≡◌, ℕ, ◌+◌, ◌<◌, ◌==◌, Bool, true, false, ◌&&◌, ◌||◌, nat_lt, List, [], ◌∷◌, length, map, Some, refl, ap, ◌∙◌, arith}
use Rattle.std.specs.Prelude.{if◌then◌else◌, is_some}
use Rattle.std.specs.Option.{option_map_or}
use Rattle.std.specs.List.{list_any, AllByRecursion}
use Rattle.std.proofs.lemmas.Bool.{false≢true, and_parts, and_from, or_left, or_right, ltb-true, lt-ltb}
use Rattle.tta_arch.specs.Effects.{has_result}
use Rattle.tta_image.proofs.Places.{any_left, any_right}
use Rattle.tta_boxed.specs.Cited.{Machine, UnitOp, KeptPort, op_at, Circuit, Register, Const, Signal, Select, Store, Starts, Keeps, Due, HasBegun, Shows, IsFrom, Boxes, Expression, longest, begins, made, coming, is_coming, fresh, loads, timed, result_of, ops_of, never, nothing, first_of, same_signal}
use Rattle.tta_circuit.specs.Closed.{reads_only, has_signal}
use Rattle.tta_circuit.specs.Meaning.{is_input}
use Rattle.tta_circuit.specs.Order.{reads_below}
use Rattle.tta_circuit.proofs.Closed.{reads_wider, reads_one}
use Rattle.tta_hardware.specs.Signals.{Signal as Named, Port, Raw, IsInside}
use Rattle.tta_hardware.specs.Wires.{read_word, is_load}
use Rattle.tta_hardware.specs.Registers.{register}
use Rattle.tta_hardware.proofs.Bringing.{within_list}
use Rattle.tta_hardware.proofs.WiresFit.{all_map}
use Rattle.tta_hardware.proofs.RegistersFit.{weaker}
use Rattle.tta_hardware.proofs.There.{is_there, is_load_at}
use Rattle.tta_hardware.proofs.OnlyThere.{kept_in, ops_there, result_ok, begins_ok, made_ok, is_coming_ok, coming_ok}
use Rattle.tta_trap.proofs.Meets.{first_reads, select_reads}
use Rattle.tta_boxed.specs.Boxed.{is_left, left_ops, kept_result, kept_made, is_picked, was_from, from_next, shown, coming_next, boxed_register, box_registers, boxed}
use Rattle.tta_boxed.proofs.Early.{is_slow}
use Rattle.tta_boxed.proofs.Wholes.{IsWhole}
use Rattle.tta_boxed.proofs.Registers.{same_name, left_there, from_in}
use Rattle.tta_boxed.proofs.Inputs.{is_shown, input_more}
use Rattle.tta_boxed.proofs.Sound.{IsSound}
use Rattle.tta_boxed.proofs.Ports.{left_parts}

-- one of three that is in one of three others
one_of : (a b c a' c' : Bool) → (a ≡ true → a' ≡ true) → (c ≡ true → c' ≡ true) → (a || (b || c)) ≡ true → (a' || (b || c')) ≡ true
one_of true b c a' c' first last is = or_left a' (b || c') (first refl)
one_of false true c a' c' first last is = or_right a' true refl
one_of false false c a' c' first last is = or_right a' c' (last is)

module _ (m : Machine) (leaves : ℕ → Bool) (d : Circuit Named Store) (w : IsWhole m d) (s : IsSound m d) where
  abbrev pub has : Named → Bool
  has n = has_signal same_signal (boxed m leaves d) n

  abbrev pub had : Named → Bool
  had n = has_signal same_signal d n

  abbrev pub gap : Named → ℕ
  gap n = if has n then 0 else 1

  abbrev pub ok : Expression → Bool
  ok e = reads_below gap 1 e

  changed : (n : Named) (rs : List (Register Named Store)) → list_any (λ r. same_signal r.name n) rs ≡ true
      → list_any (λ r. same_signal r.name n) (map (boxed_register m leaves) rs) ≡ true
  changed n [] any = any
  changed n (r ∷ rs) any =
      ap (λ (k : Named). same_signal k n || list_any (λ r. same_signal r.name n) (map (boxed_register m leaves) rs)) (same_name m leaves r)
      ∙ by (same_signal r.name n) any (changed n rs)
    where
      by : (b : Bool) → (b || list_any (λ r. same_signal r.name n) rs) ≡ true
          → (list_any (λ r. same_signal r.name n) rs ≡ true
          → list_any (λ r. same_signal r.name n) (map (boxed_register m leaves) rs) ≡ true)
          → (b || list_any (λ r. same_signal r.name n) (map (boxed_register m leaves) rs)) ≡ true
      by true any rest = refl
      by false any rest = rest any

  -- it has what it had
  pub has_more : (n : Named) → had n ≡ true → has n ≡ true
  has_more n is =
      one_of (is_input same_signal d.inputs n) (list_any (λ w. same_signal w.name n) d.wires)
      (list_any (λ r. same_signal r.name n) d.registers) (is_input same_signal (boxed m leaves d).inputs n)
      (list_any (λ r. same_signal r.name n) (boxed m leaves d).registers) (input_more m leaves d w n)
      (λ any. any_left (λ r. same_signal r.name n) (map (boxed_register m leaves) d.registers) (box_registers m leaves)
      (changed n d.registers any)) is

  pub sig : (n : Named) → is_there m n ≡ true → ok (Signal n) ≡ true
  sig n is = reads_one has n (has_more n (s.has n is))

  -- what reads only what a machine's circuit has
  there : (e : Expression) → reads_only (is_there m) e ≡ true → ok e ≡ true
  there e is = reads_wider (is_there m) has (λ n here. has_more n (s.has n here)) e is

  from_ok : (unit op : ℕ) (o : UnitOp) → op_at m unit op ≡ Some o → is_left m leaves o ≡ true → (delay : ℕ) → 0 < delay → delay < o.latency
      → ok (Signal (Boxes (IsFrom unit op delay))) ≡ true
  from_ok unit op o at left delay some less =
      reads_one has (Boxes (IsFrom unit op delay))
      (or_right (is_input same_signal (boxed m leaves d).inputs (Boxes (IsFrom unit op delay))) _
      (or_right (list_any (λ w. same_signal w.name (Boxes (IsFrom unit op delay))) d.wires) _
      (any_right (λ r. same_signal r.name (Boxes (IsFrom unit op delay))) (map (boxed_register m leaves) d.registers)
      (box_registers m leaves) (from_in m leaves unit op o at left delay some less))))

  shown_ok : (unit op : ℕ) (o : UnitOp) → op_at m unit op ≡ Some o → is_left m leaves o ≡ true → ok (Signal (Boxes (Shows unit op))) ≡ true
  shown_ok unit op o at left = reads_one has (Boxes (Shows unit op)) (or_left _ _ (is_shown m leaves d w unit op o at left))

  -- ---- what is due

  timed_there : (unit latency : ℕ) → AllByRecursion (λ (x : ℕ × UnitOp). (op_at m unit x.0 ≡ Some x.1)
      × ((has_result x.1.op && x.1.latency == latency) ≡ true)) (timed m unit latency)
  timed_there unit latency =
      kept_in (λ (x : ℕ × UnitOp). op_at m unit x.0 ≡ Some x.1) (λ x. has_result x.1.op && x.1.latency == latency) (ops_of m unit)
      (ops_there m unit)

  over_timed : (unit latency : ℕ) (e : ℕ × UnitOp → Expression) (other : Expression) → ((o : ℕ × UnitOp) → ok (e o) ≡ true)
      → ok other ≡ true → ok (first_of (map (λ o. (Signal (Starts unit o.0), e o)) (timed m unit latency)) other) ≡ true
  over_timed unit latency e other each rest =
      first_reads gap 1 (map (λ o. (Signal (Starts unit o.0), e o)) (timed m unit latency)) other
      (all_map (λ (c : Expression × Expression). (ok c.0 ≡ true) × (ok c.1 ≡ true)) (λ (o : ℕ × UnitOp). (Signal (Starts unit o.0), e o))
      (timed m unit latency)
      (weaker (λ (x : ℕ × UnitOp). (op_at m unit x.0 ≡ Some x.1) × ((has_result x.1.op && x.1.latency == latency) ≡ true))
      (λ o. (ok (Signal (Starts unit o.0)) ≡ true) × (ok (e o) ≡ true)) (timed m unit latency)
      (λ o at. (sig (Starts unit o.0) (ap is_some at.0), each o)) (timed_there unit latency))) rest

  over_loads : (unit latency : ℕ) (e : ℕ × UnitOp → Expression) (other : Expression)
      → ((o : ℕ × UnitOp) → is_load_at m unit o.0 ≡ true → ok (e o) ≡ true) → ok other ≡ true
      → ok (first_of (map (λ o. (Signal (HasBegun unit o.0), e o)) (loads m unit latency)) other) ≡ true
  over_loads unit latency e other each rest =
      first_reads gap 1 (map (λ o. (Signal (HasBegun unit o.0), e o)) (loads m unit latency)) other
      (all_map (λ (c : Expression × Expression). (ok c.0 ≡ true) × (ok c.1 ≡ true)) (λ (o : ℕ × UnitOp). (Signal (HasBegun unit o.0), e o))
      (loads m unit latency)
      (weaker (λ (o : ℕ × UnitOp). (op_at m unit o.0 ≡ Some o.1) × ((is_load o.1.op && o.1.latency == latency) ≡ true))
      (λ o. (ok (Signal (HasBegun unit o.0)) ≡ true) × (ok (e o) ≡ true)) (loads m unit latency)
      (λ o p.
      let it : is_load_at m unit o.0 ≡ true = ap (λ o. option_map_or (λ o. is_load o.op) o false) p.0
      ∙ (and_parts (is_load o.1.op) (o.1.latency == latency) p.1).0 in (sig (HasBegun unit o.0) it, each o it))
      (kept_in (λ (o : ℕ × UnitOp). op_at m unit o.0 ≡ Some o.1) (λ o. is_load o.1.op && o.1.latency == latency) (ops_of m unit)
      (ops_there m unit)))) rest

  kept_ok : (unit latency : ℕ) → nat_lt unit (length m.units) ≡ true → ok (kept_made m leaves unit latency) ≡ true
  kept_ok unit latency less =
      over_timed unit latency (λ o. kept_result m leaves unit o.1) nothing (λ o. by o.1 (is_left m leaves o.1)) refl where
        by : (o : UnitOp) (b : Bool) → ok (if b then nothing else result_of m unit o) ≡ true
        by o true = refl
        by o false = there (result_of m unit o) (result_ok m unit o less)

  came_ok : (unit : ℕ) → nat_lt unit (length m.units) ≡ true → ok (coming_next m leaves unit) ≡ true
  came_ok unit less = by (nat_lt 1 (longest m unit)) refl where
    by : (b : Bool) → nat_lt 1 (longest m unit) ≡ b
        → ok (if b then fresh m unit 2 (first_of (shown m leaves unit) (Signal (Due unit 1))) else nothing) ≡ true
    by true soon =
        over_loads unit 2 (λ o. read_word unit o.0) (first_of (shown m leaves unit) (Signal (Due unit 1)))
        (λ o is. select_reads gap 1 (Signal (IsInside unit o.0)) (Signal (Raw unit o.0)) nothing (sig (IsInside unit o.0) is)
        (sig (Raw unit o.0) is) refl)
        (first_reads gap 1 (shown m leaves unit) (Signal (Due unit 1))
        (all_map (λ (c : Expression × Expression). (ok c.0 ≡ true) × (ok c.1 ≡ true))
        (λ (o : ℕ × UnitOp). (Signal (Boxes (IsFrom unit o.0 1)), Signal (Boxes (Shows unit o.0)))) (left_ops m leaves unit)
        (weaker (λ (o : ℕ × UnitOp). (op_at m unit o.0 ≡ Some o.1) × (is_left m leaves o.1 ≡ true))
        (λ o. (ok (Signal (Boxes (IsFrom unit o.0 1))) ≡ true) × (ok (Signal (Boxes (Shows unit o.0))) ≡ true)) (left_ops m leaves unit)
        (λ o p. (
          from_ok unit o.0 o.1 p.0 p.1 1 (omega arith) (left_parts m leaves o.1 p.1).1.1,
          shown_ok unit o.0 o.1 p.0 p.1,
        )) (left_there m leaves unit)))
        (sig (Due unit 1) (and_from (nat_lt unit (length m.units)) (nat_lt 0 1 && nat_lt 1 (longest m unit)) less soon)))
    by false soon = refl

  pub slow_ok : (n : Named) → is_slow n ≡ true → is_there m n ≡ true → ok (boxed_register m leaves (register m n)).next ≡ true
  slow_ok (Keeps (KeptPort unit)) slow is =
      let less = lt-ltb unit (length m.units) (within_list m.units unit is) in
      select_reads gap 1 (begins m unit 1) (made m unit 1) (Select (is_coming m unit 1) (coming_next m leaves unit) (Signal (Port unit)))
      (there (begins m unit 1) (begins_ok m unit 1)) (there (made m unit 1) (made_ok m unit 1 less))
      (select_reads gap 1 (is_coming m unit 1) (coming_next m leaves unit) (Signal (Port unit))
      (there (is_coming m unit 1) (is_coming_ok m unit 1 less (omega arith))) (came_ok unit less) (sig (Port unit) less))
  slow_ok (Due unit delay) slow is =
      let less = (and_parts (nat_lt unit (length m.units)) (nat_lt 0 delay && nat_lt delay (longest m unit)) is).0 in
      select_reads gap 1 (begins m unit (delay + 1)) (kept_made m leaves unit (delay + 1)) (coming m unit (delay + 1))
      (there (begins m unit (delay + 1)) (begins_ok m unit (delay + 1))) (kept_ok unit (delay + 1) less)
      (there (coming m unit (delay + 1)) (coming_ok m unit (delay + 1) less (omega arith)))
  slow_ok n slow is = absurd (false≢true slow)

  -- ---- whose results are due

  was_ok : (unit op : ℕ) (o : UnitOp) → op_at m unit op ≡ Some o → is_left m leaves o ≡ true → (delay : ℕ) → 0 < delay → delay < o.latency
      → ok (was_from m leaves unit op delay) ≡ true
  was_ok unit op o at left delay some less =
      over_loads unit (delay + 1) (λ o. never) (Signal (Boxes (IsFrom unit op delay))) (λ o is. refl)
      (from_ok unit op o at left delay some less)

  pub from_next_ok : (unit op : ℕ) (o : UnitOp) → op_at m unit op ≡ Some o → is_left m leaves o ≡ true → (delay : ℕ)
      → ok (from_next m leaves unit op o.latency delay) ≡ true
  from_next_ok unit op o at left delay =
      select_reads gap 1 (begins m unit (delay + 1)) (if o.latency == delay + 1 then is_picked m leaves unit op o.latency else never)
      (if nat_lt (delay + 1) o.latency then was_from m leaves unit op (delay + 1) else never)
      (there (begins m unit (delay + 1)) (begins_ok m unit (delay + 1))) (picked (o.latency == delay + 1))
      (was (nat_lt (delay + 1) o.latency) refl)
    where
      picked : (b : Bool) → ok (if b then is_picked m leaves unit op o.latency else never) ≡ true
      picked true = over_timed unit o.latency (λ x. Const 1 (if x.0 == op then 1 else 0)) never (λ x. refl) refl
      picked false = refl

      was : (b : Bool) → nat_lt (delay + 1) o.latency ≡ b → ok (if b then was_from m leaves unit op (delay + 1) else never) ≡ true
      was true less = was_ok unit op o at left (delay + 1) (omega arith) (ltb-true (delay + 1) o.latency less)
      was false less = refl
