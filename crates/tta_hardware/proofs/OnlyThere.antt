-- Expressions of a machine that read only signals that are there.
use Rattle.std.proofs.Common.{◌≡◌, ℕ, ◌+◌, ◌<◌, ◌==◌, Bool, true, false, ◌&&◌, List, [], ◌∷◌, ◌++◌, length, map, filter, slice_get, Option, Some, None, refl, ap, ◌∙◌, arith}
use Rattle.std.specs.Prelude.{is_some, if◌then◌else◌, nat_lt, option_and_then}
use Rattle.std.specs.Option.{option_map_or}
use Rattle.std.specs.List.{enumerate_from, AllByRecursion}
use Rattle.std.proofs.lemmas.Bool.{and_parts, and_from, lt-ltb, false≢true}
use Rattle.tta_hardware.specs.Cited.{Op, Ldw, Stw, Ldf, Stf, Out, Take, Set, UnitOp, Dest, Machine, is_dest_on, numbers, dest_width, op_at, has_result, Const, Signal, Select, Equal, reads_below}
use Rattle.tta_arch.specs.declared.parts.Unit.{Unit as OpUnit}
use Rattle.tta_circuit.proofs.Closed.{reads_one}
use Rattle.tta_hardware.specs.Signals.{DestOf, Signal as Named, Expression, IsDue, Due, HasBegun, Raw, IsInside, Fetched, Word, Acts, Starts, Trigger, Operand}
use Rattle.tta_hardware.specs.Chains.{any_of, first_of, pick_from}
use Rattle.tta_hardware.specs.Wires.{never, nothing, fresh, hits, buses_to, reached, arrivals, ops_of, all_ops, some_start, word_of_start, is_load, loads, read_word, result_of, timed, begins, made, longest, is_coming, coming}
use Rattle.tta_hardware.proofs.Bits.{dest_some}
use Rattle.tta_hardware.proofs.Bringing.{within_list}
use Rattle.tta_hardware.proofs.WiresFit.{kept_filter, all_map}
use Rattle.tta_hardware.proofs.RegistersFit.{weaker}
use Rattle.tta_hardware.proofs.PlainWires.{below_all, all_pieces}
use Rattle.tta_hardware.proofs.There.{is_load_at, is_there, enumerated_at}

-- what passes a test and held before
pub kept_in : {A : Type 0} (Q : A → Type 0) (p : A → Bool) (xs : List A) → AllByRecursion Q xs
    → AllByRecursion (λ x. Q x × (p x ≡ true)) (filter p xs)
kept_in Q p [] all = tt
kept_in Q p (x ∷ xs) all = by (p x) refl (kept_in Q p xs all.1) where
  by : (b : Bool) → p x ≡ b → AllByRecursion (λ x. Q x × (p x ≡ true)) (filter p xs)
      → AllByRecursion (λ x. Q x × (p x ≡ true)) (if b then x ∷ filter p xs else filter p xs)
  by true is rest = ((all.0, is), rest)
  by false is rest = rest

module _ (m : Machine) where
  -- whether an expression reads only what is there
  abbrev pub ok : Expression → Bool
  ok e = reads_below (λ n. if is_there m n then 0 else 1) 1 e

  pub sig : (n : Named) → is_there m n ≡ true → ok (Signal n) ≡ true
  sig n is = reads_one (is_there m) n is

  pub any_ok : {A : Type 0} (f : A → Expression) (xs : List A) → AllByRecursion (λ x. ok (f x) ≡ true) xs → ok (any_of (map f xs)) ≡ true
  any_ok f [] all = refl
  any_ok f (x ∷ xs) all = and_from (ok (f x)) (ok (any_of (map f xs))) all.0 (any_ok f xs all.1)

  pub three : (a b c : Expression) → ok a ≡ true → ok b ≡ true → ok c ≡ true → ok (Select a b c) ≡ true
  three a b c p q r = and_from (ok a) (ok b && ok c) p (and_from (ok b) (ok c) q r)

  pub first_ok : {A : Type 0} (f e : A → Expression) (xs : List A) (other : Expression)
      → AllByRecursion (λ x. (ok (f x) ≡ true) × (ok (e x) ≡ true)) xs → ok other ≡ true
      → ok (first_of (map (λ x. (f x, e x)) xs) other) ≡ true
  first_ok f e [] other all rest = rest
  first_ok f e (x ∷ xs) other all rest =
      three (f x) (e x) (first_of (map (λ x. (f x, e x)) xs) other) all.0.0 all.0.1 (first_ok f e xs other all.1 rest)

  pub both_ok : (xs ys : List (Expression × Expression)) (other : Expression)
      → AllByRecursion (λ c. (ok c.0 ≡ true) × (ok c.1 ≡ true)) xs → ok (first_of ys other) ≡ true → ok (first_of (xs ++ ys) other) ≡ true
  both_ok [] ys other all rest = rest
  both_ok (x ∷ xs) ys other all rest = three x.0 x.1 (first_of (xs ++ ys) other) all.0.0 all.0.1 (both_ok xs ys other all.1 rest)

  pub pick_ok : {A : Type 0} (width j : ℕ) (code : Expression) (f : A → Expression) (xs : List A) (other : Expression) → ok code ≡ true
      → AllByRecursion (λ x. ok (f x) ≡ true) xs → ok other ≡ true → ok (pick_from width code j (map f xs) other) ≡ true
  pick_ok width j code f [] other coded all rest = rest
  pick_ok width j code f (x ∷ xs) other coded all rest =
      three (Equal code (Const width j)) (f x) (pick_from width code (j + 1) (map f xs) other) (and_from (ok code) true coded refl) all.0
      (pick_ok width (j + 1) code f xs other coded all.1 rest)

  -- ---- what arrives

  pub hit_ok : (dst : Dest) (bus : ℕ) → bus < length m.buses → is_dest_on m bus dst ≡ true → ok (hits m dst bus) ≡ true
  hit_ok dst bus less on =
      let there = lt-ltb bus (length m.buses) less in
      and_from (ok (Signal (Acts bus))) (ok (Signal (Fetched (DestOf bus))) && true) (sig (Acts bus) there)
      (and_from (ok (Signal (Fetched (DestOf bus)))) true
      (sig (Fetched (DestOf bus)) (and_from (nat_lt bus (length m.buses)) (nat_lt 0 (dest_width m bus)) there
      (lt-ltb 0 (dest_width m bus) (dest_some m bus dst on)))) refl)

  buses : (dst : Dest) → AllByRecursion (λ bus. (bus < length m.buses) × (is_dest_on m bus dst ≡ true)) (buses_to m dst)
  buses dst =
      kept_in (λ bus. bus < length m.buses) (λ bus. is_dest_on m bus dst) (numbers (length m.buses))
      (below_all (length m.buses) 0 (length m.buses) (omega arith))

  pub reached_ok : (dst : Dest) → ok (reached m dst) ≡ true
  reached_ok dst =
      any_ok (hits m dst) (buses_to m dst)
      (weaker (λ bus. (bus < length m.buses) × (is_dest_on m bus dst ≡ true)) (λ bus. ok (hits m dst bus) ≡ true) (buses_to m dst)
      (λ bus p. hit_ok dst bus p.0 p.1) (buses dst))

  pub arriving : (dst : Dest) (f : ℕ → Expression) → ((bus : ℕ) → bus < length m.buses → ok (f bus) ≡ true)
      → AllByRecursion (λ bus. (ok (hits m dst bus) ≡ true) × (ok (f bus) ≡ true)) (buses_to m dst)
  arriving dst f each =
      weaker (λ bus. (bus < length m.buses) × (is_dest_on m bus dst ≡ true)) (λ bus. (ok (hits m dst bus) ≡ true) × (ok (f bus) ≡ true))
      (buses_to m dst) (λ bus p. (hit_ok dst bus p.0 p.1, each bus p.0)) (buses dst)

  pub word_ok : (bus : ℕ) → bus < length m.buses → ok (Signal (Word bus)) ≡ true
  word_ok bus less = sig (Word bus) (lt-ltb bus (length m.buses) less)

  pub arrivals_ok : (dst : Dest) → AllByRecursion (λ c. (ok c.0 ≡ true) × (ok c.1 ≡ true)) (arrivals m dst)
  arrivals_ok dst =
      all_map (λ (c : Expression × Expression). (ok c.0 ≡ true) × (ok c.1 ≡ true)) (λ bus. (hits m dst bus, Signal (Word bus)))
      (buses_to m dst) (arriving dst (λ bus. Signal (Word bus)) word_ok)

  -- ---- what starts

  pub unit_of : (unit op : ℕ) → is_some (op_at m unit op) ≡ true → nat_lt unit (length m.units) ≡ true
  unit_of unit op is = by (slice_get m.units unit) refl is where
    by : (o : Option OpUnit) → slice_get m.units unit ≡ o → is_some (option_and_then (λ x. slice_get x.ops op) o) ≡ true
        → nat_lt unit (length m.units) ≡ true
    by None at is = absurd (false≢true is)
    by (Some x) at is = lt-ltb unit (length m.units) (within_list m.units unit (ap is_some at))

  pub ops_there : (unit : ℕ) → AllByRecursion (λ o. op_at m unit o.0 ≡ Some o.1) (ops_of m unit)
  ops_there unit = by (slice_get m.units unit) refl where
    by : (o : Option OpUnit) → slice_get m.units unit ≡ o
        → AllByRecursion (λ x. op_at m unit x.0 ≡ Some x.1) (option_map_or (λ u. enumerate_from 0 u.ops) o [])
    by None at = tt
    by (Some x) at =
        enumerated_at (op_at m unit) 0 x.ops
        (λ k. let e : 0 + k ≡ k = omega arith in ap (op_at m unit) e ∙ ap (λ o. option_and_then (λ x. slice_get x.ops k) o) at)

  pub starts_of : (test : Op → Bool) → AllByRecursion (λ (o : ℕ × ℕ). is_some (op_at m o.0 o.1) ≡ true) (all_ops m test)
  starts_of test =
      all_pieces (λ (x : ℕ × OpUnit). slice_get m.units x.0 ≡ Some x.1) (λ (o : ℕ × ℕ). is_some (op_at m o.0 o.1) ≡ true)
      (λ x. map (λ o. (x.0, o.0)) (filter (λ o. test o.1.op) (enumerate_from 0 x.1.ops))) (enumerate_from 0 m.units)
      (enumerated_at (slice_get m.units) 0 m.units (λ k. let e : 0 + k ≡ k = omega arith in ap (slice_get m.units) e))
      (λ x at. all_map (λ (o : ℕ × ℕ). is_some (op_at m o.0 o.1) ≡ true) (λ o. (x.0, o.0))
      (filter (λ o. test o.1.op) (enumerate_from 0 x.1.ops))
      (kept_filter (λ (o : ℕ × UnitOp). is_some (op_at m x.0 o.0) ≡ true) (λ o. test o.1.op) (enumerate_from 0 x.1.ops)
      (weaker (λ (o : ℕ × UnitOp). op_at m x.0 o.0 ≡ Some o.1) (λ o. is_some (op_at m x.0 o.0) ≡ true) (enumerate_from 0 x.1.ops)
      (λ o is. ap is_some is)
      (enumerated_at (op_at m x.0) 0 x.1.ops
      (λ k. let e : 0 + k ≡ k = omega arith in ap (op_at m x.0) e ∙ ap (λ o. option_and_then (λ x. slice_get x.ops k) o) at)))))

  pub some_ok : (test : Op → Bool) → ok (some_start m test) ≡ true
  some_ok test =
      any_ok (λ (o : ℕ × ℕ). Signal (Starts o.0 o.1)) (all_ops m test)
      (weaker (λ (o : ℕ × ℕ). is_some (op_at m o.0 o.1) ≡ true) (λ o. ok (Signal (Starts o.0 o.1)) ≡ true) (all_ops m test)
      (λ o is. sig (Starts o.0 o.1) is) (starts_of test))

  pub of_start : (test : Op → Bool) (f : ℕ → Named) → ((unit : ℕ) → nat_lt unit (length m.units) ≡ true → is_there m (f unit) ≡ true)
      → ok (word_of_start m test (λ unit. Signal (f unit))) ≡ true
  of_start test f there =
      first_ok (λ (o : ℕ × ℕ). Signal (Starts o.0 o.1)) (λ o. Signal (f o.0)) (all_ops m test) nothing
      (weaker (λ (o : ℕ × ℕ). is_some (op_at m o.0 o.1) ≡ true)
      (λ o. (ok (Signal (Starts o.0 o.1)) ≡ true) × (ok (Signal (f o.0)) ≡ true)) (all_ops m test)
      (λ o is. (sig (Starts o.0 o.1) is, sig (f o.0) (there o.0 (unit_of o.0 o.1 is)))) (starts_of test)) refl

  -- ---- loads and results

  pub load_of : (unit op : ℕ) → is_load_at m unit op ≡ true → is_some (op_at m unit op) ≡ true
  load_of unit op is = by (op_at m unit op) is where
    by : (o : Option UnitOp) → option_map_or (λ o. is_load o.op) o false ≡ true → is_some o ≡ true
    by None is = absurd (false≢true is)
    by (Some o) is = refl

  pub fresh_ok : (unit latency : ℕ) (e : Expression) → ok e ≡ true → ok (fresh m unit latency e) ≡ true
  fresh_ok unit latency e rest =
      first_ok (λ (o : ℕ × UnitOp). Signal (HasBegun unit o.0)) (λ o. read_word unit o.0) (loads m unit latency) e
      (weaker (λ (o : ℕ × UnitOp). (op_at m unit o.0 ≡ Some o.1) × ((is_load o.1.op && o.1.latency == latency) ≡ true))
      (λ o. (ok (Signal (HasBegun unit o.0)) ≡ true) × (ok (read_word unit o.0) ≡ true)) (loads m unit latency)
      (λ o p.
      let it : is_load_at m unit o.0 ≡ true = ap (λ o. option_map_or (λ o. is_load o.op) o false) p.0
      ∙ (and_parts (is_load o.1.op) (o.1.latency == latency) p.1).0 in (
        sig (HasBegun unit o.0) it,
        three (Signal (IsInside unit o.0)) (Signal (Raw unit o.0)) nothing (sig (IsInside unit o.0) it)
            (sig (Raw unit o.0) it) refl,
      ))
      (kept_in (λ (o : ℕ × UnitOp). op_at m unit o.0 ≡ Some o.1) (λ o. is_load o.1.op && o.1.latency == latency) (ops_of m unit)
      (ops_there unit))) rest

  pub result_ok : (unit : ℕ) (o : UnitOp) → nat_lt unit (length m.units) ≡ true → ok (result_of m unit o) ≡ true
  result_ok unit o less = by o.op where
    operand : (b : Bool) → ok (if b then Signal (Operand unit) else nothing) ≡ true
    operand true = sig (Operand unit) less
    operand false = refl

    by : (p : Op) → ok (result_of m unit (record o { op = p })) ≡ true
    by Ldw = refl
    by Stw = refl
    by Ldf = refl
    by Stf = refl
    by Out = refl
    by Take = refl
    by (Set id) =
        and_from (ok (if o.arity == 2 then Signal (Operand unit) else nothing)) (ok (Signal (Trigger unit))) (operand (o.arity == 2))
        (sig (Trigger unit) less)

  timed_there : (unit latency : ℕ) → AllByRecursion (λ (o : ℕ × UnitOp). op_at m unit o.0 ≡ Some o.1) (timed m unit latency)
  timed_there unit latency =
      kept_filter (λ (o : ℕ × UnitOp). op_at m unit o.0 ≡ Some o.1) (λ o. has_result o.1.op && o.1.latency == latency) (ops_of m unit)
      (ops_there unit)

  pub begins_ok : (unit latency : ℕ) → ok (begins m unit latency) ≡ true
  begins_ok unit latency =
      any_ok (λ (o : ℕ × UnitOp). Signal (Starts unit o.0)) (timed m unit latency)
      (weaker (λ (o : ℕ × UnitOp). op_at m unit o.0 ≡ Some o.1) (λ o. ok (Signal (Starts unit o.0)) ≡ true) (timed m unit latency)
      (λ o at. sig (Starts unit o.0) (ap is_some at)) (timed_there unit latency))

  pub made_ok : (unit latency : ℕ) → nat_lt unit (length m.units) ≡ true → ok (made m unit latency) ≡ true
  made_ok unit latency less =
      first_ok (λ (o : ℕ × UnitOp). Signal (Starts unit o.0)) (λ o. result_of m unit o.1) (timed m unit latency) nothing
      (weaker (λ (o : ℕ × UnitOp). op_at m unit o.0 ≡ Some o.1)
      (λ o. (ok (Signal (Starts unit o.0)) ≡ true) × (ok (result_of m unit o.1) ≡ true)) (timed m unit latency)
      (λ o at. (sig (Starts unit o.0) (ap is_some at), result_ok unit o.1 less)) (timed_there unit latency)) refl

  pub is_coming_ok : (unit delay : ℕ) → nat_lt unit (length m.units) ≡ true → 0 < delay → ok (is_coming m unit delay) ≡ true
  is_coming_ok unit delay less some = by (nat_lt delay (longest m unit)) refl where
    by : (b : Bool) → nat_lt delay (longest m unit) ≡ b → ok (if b then Signal (IsDue unit delay) else never) ≡ true
    by true soon =
        sig (IsDue unit delay) (and_from (nat_lt unit (length m.units)) (nat_lt 0 delay && nat_lt delay (longest m unit)) less
        (and_from (nat_lt 0 delay) (nat_lt delay (longest m unit)) (lt-ltb 0 delay some) soon))
    by false late = refl

  pub coming_ok : (unit delay : ℕ) → nat_lt unit (length m.units) ≡ true → 0 < delay → ok (coming m unit delay) ≡ true
  coming_ok unit delay less some = by (nat_lt delay (longest m unit)) refl where
    by : (b : Bool) → nat_lt delay (longest m unit) ≡ b → ok (if b then fresh m unit (delay + 1) (Signal (Due unit delay)) else nothing)
        ≡ true
    by true soon =
        fresh_ok unit (delay + 1) (Signal (Due unit delay))
        (sig (Due unit delay) (and_from (nat_lt unit (length m.units)) (nat_lt 0 delay && nat_lt delay (longest m unit)) less
        (and_from (nat_lt 0 delay) (nat_lt delay (longest m unit)) (lt-ltb 0 delay some) soon)))
    by false late = refl
