-- Widths of expressions of a circuit that leaves operations to modules.
use Rattle.std.proofs.Common.{◌≡◌, ℕ, ◌+◌, ◌^◌, ◌<◌, ◌==◌, Bool, true, false, ◌&&◌, nat_lt, List, [], ◌∷◌, map, refl, sym, ◌∙◌, arith}
use Rattle.std.specs.Prelude.{if◌then◌else◌}
use Rattle.std.proofs.lemmas.Bool.{and_from, eq-eqb, lt-ltb}
use Rattle.std.proofs.lemmas.Nat.{pow_pos}
use Rattle.tta_arch.specs.declared.parts.Op.TheVariants.{Ldw, Stw, Ldf, Stf, Out, Take}
use Rattle.tta_circuit.specs.Plain.{IsWritten, is_plain}
use Rattle.tta_circuit.specs.Widths.{width_of, is_sized}
use Rattle.tta_boxed.specs.Cited.{Machine, UnitOp, Op, Set, Const, Signal, Select, Either, IsReset, Operand, Trigger, Starts, Goes, IsDue, Due, HasBegun, Shows, IsFrom, Boxes, Expression, begins, made, coming, is_coming, fresh, loads, timed, result_of, longest, store_width, never, nothing, first_of}
use Rattle.tta_circuit.specs.Circuit.{Apply}
use Rattle.tta_hardware.specs.Signals.{Signal as Named, Port, Raw, IsInside, Offer}
use Rattle.tta_hardware.specs.Chains.{any_of}
use Rattle.tta_hardware.specs.Wires.{read_word}
use Rattle.tta_boxed.specs.Boxed.{is_left, left_ops, kept_result, kept_made, is_picked, was_from, from_next, shown, coming_next}
use Rattle.tta_boxed.specs.Sized.{boxed_signal_width}

module _ (m : Machine) where
  abbrev wide : Named → ℕ
  wide = boxed_signal_width m

  -- an expression of so many bits
  abbrev pub Fits : Expression → ℕ → Type 0
  Fits e k = IsWritten (boxed_signal_width m) (store_width m) e k

  pub signal : (n : Named) → nat_lt 0 (boxed_signal_width m n) ≡ true → Fits (Signal n) (boxed_signal_width m n)
  signal n some = record { plain = some; sized = refl; wide = refl }

  pub const : (k x : ℕ) → nat_lt 0 k ≡ true → x < 2 ^ k → Fits (Const k x) k
  const k x some few = record { plain = some; sized = lt-ltb x (2 ^ k) few; wide = refl }

  is_one : (e : Expression) (k : ℕ) → Fits e k → (width_of wide (store_width m) e == k) ≡ true
  is_one e k f = eq-eqb (width_of wide (store_width m) e) k f.wide

  alike : (a b : Expression) (k : ℕ) → Fits a k → Fits b k → (width_of wide (store_width m) a == width_of wide (store_width m) b) ≡ true
  alike a b k f g = eq-eqb (width_of wide (store_width m) a) (width_of wide (store_width m) b) (f.wide ∙ sym g.wide)

  pub select : (k : ℕ) (t a b : Expression) → Fits t 1 → Fits a k → Fits b k → Fits (Select t a b) k
  select k t a b f g h = record {
    plain = and_from (is_plain wide (store_width m) t) (is_plain wide (store_width m) a && is_plain wide (store_width m) b) f.plain
        (and_from (is_plain wide (store_width m) a) (is_plain wide (store_width m) b) g.plain h.plain);
    sized = and_from (width_of wide (store_width m) t == 1 && width_of wide (store_width m) a == width_of wide (store_width m) b)
        (is_sized wide (store_width m) t && (is_sized wide (store_width m) a && is_sized wide (store_width m) b))
        (and_from (width_of wide (store_width m) t == 1) (width_of wide (store_width m) a == width_of wide (store_width m) b) (is_one t 1 f)
        (alike a b k g h))
        (and_from (is_sized wide (store_width m) t) (is_sized wide (store_width m) a && is_sized wide (store_width m) b) f.sized
        (and_from (is_sized wide (store_width m) a) (is_sized wide (store_width m) b) g.sized h.sized));
    wide = g.wide;
  }

  pub either : (a b : Expression) → Fits a 1 → Fits b 1 → Fits (Either a b) 1
  either a b f g = record {
    plain = and_from (is_plain wide (store_width m) a) (is_plain wide (store_width m) b) f.plain g.plain;
    sized = and_from (width_of wide (store_width m) a == 1 && width_of wide (store_width m) b == 1)
        (is_sized wide (store_width m) a && is_sized wide (store_width m) b)
        (and_from (width_of wide (store_width m) a == 1) (width_of wide (store_width m) b == 1) (is_one a 1 f) (is_one b 1 g))
        (and_from (is_sized wide (store_width m) a) (is_sized wide (store_width m) b) f.sized g.sized);
    wide = refl;
  }

  apply : (op : ℕ) (a b : Expression) → Fits a 32 → Fits b 32 → Fits (Apply op a b) 32
  apply op a b f g = record {
    plain = and_from (is_plain wide (store_width m) a) (is_plain wide (store_width m) b) f.plain g.plain;
    sized = and_from (width_of wide (store_width m) a == 32 && width_of wide (store_width m) b == 32)
        (is_sized wide (store_width m) a && is_sized wide (store_width m) b)
        (and_from (width_of wide (store_width m) a == 32) (width_of wide (store_width m) b == 32) (is_one a 32 f) (is_one b 32 g))
        (and_from (is_sized wide (store_width m) a) (is_sized wide (store_width m) b) f.sized g.sized);
    wide = refl;
  }

  any_fits : {A : Type 0} (f : A → Expression) (xs : List A) → ((x : A) → Fits (f x) 1) → Fits (any_of (map f xs)) 1
  any_fits f [] each = const 1 0 refl (omega arith)
  any_fits f (x ∷ xs) each = either (f x) (any_of (map f xs)) (each x) (any_fits f xs each)

  first_fits : {A : Type 0} (k : ℕ) (f e : A → Expression) (xs : List A) (other : Expression) → ((x : A) → Fits (f x) 1)
      → ((x : A) → Fits (e x) k) → Fits other k → Fits (first_of (map (λ x. (f x, e x)) xs) other) k
  first_fits k f e [] other tests words rest = rest
  first_fits k f e (x ∷ xs) other tests words rest =
      select k (f x) (e x) (first_of (map (λ x. (f x, e x)) xs) other) (tests x) (words x) (first_fits k f e xs other tests words rest)

  -- ---- what is due

  none : Fits nothing 32
  none = const 32 0 refl (pow_pos 32)

  not : Fits never 1
  not = const 1 0 refl (omega arith)

  starts : (unit op : ℕ) → Fits (Signal (Starts unit op)) 1
  starts unit op = signal (Starts unit op) refl

  fresh_fits : (unit latency : ℕ) (e : Expression) → Fits e 32 → Fits (fresh m unit latency e) 32
  fresh_fits unit latency e rest =
      first_fits 32 (λ (o : ℕ × UnitOp). Signal (HasBegun unit o.0)) (λ o. read_word unit o.0) (loads m unit latency) e
      (λ o. signal (HasBegun unit o.0) refl)
      (λ o. select 32 (Signal (IsInside unit o.0)) (Signal (Raw unit o.0)) nothing (signal (IsInside unit o.0) refl)
      (signal (Raw unit o.0) refl) none) rest

  result_fits : (unit : ℕ) (o : UnitOp) → Fits (result_of m unit o) 32
  result_fits unit o = by o.op where
    operand : (b : Bool) → Fits (if b then Signal (Operand unit) else nothing) 32
    operand true = signal (Operand unit) refl
    operand false = none

    by : (p : Op) → Fits (result_of m unit (record o { op = p })) 32
    by Ldw = none
    by Stw = none
    by Ldf = none
    by Stf = none
    by Out = none
    by Take = signal Offer refl
    by (Set id) =
        apply id.0 (if o.arity == 2 then Signal (Operand unit) else nothing) (Signal (Trigger unit)) (operand (o.arity == 2))
        (signal (Trigger unit) refl)

  begins_fits : (unit latency : ℕ) → Fits (begins m unit latency) 1
  begins_fits unit latency = any_fits (λ (o : ℕ × UnitOp). Signal (Starts unit o.0)) (timed m unit latency) (λ o. starts unit o.0)

  over_timed : (k unit latency : ℕ) (e : ℕ × UnitOp → Expression) (other : Expression) → ((o : ℕ × UnitOp) → Fits (e o) k)
      → Fits other k → Fits (first_of (map (λ o. (Signal (Starts unit o.0), e o)) (timed m unit latency)) other) k
  over_timed k unit latency e other each rest =
      first_fits k (λ (o : ℕ × UnitOp). Signal (Starts unit o.0)) e (timed m unit latency) other (λ o. starts unit o.0) each rest

  is_coming_fits : (unit delay : ℕ) → Fits (is_coming m unit delay) 1
  is_coming_fits unit delay = by (nat_lt delay (longest m unit)) where
    by : (b : Bool) → Fits (if b then Signal (IsDue unit delay) else never) 1
    by true = signal (IsDue unit delay) refl
    by false = not

  coming_fits : (unit delay : ℕ) → Fits (coming m unit delay) 32
  coming_fits unit delay = by (nat_lt delay (longest m unit)) where
    by : (b : Bool) → Fits (if b then fresh m unit (delay + 1) (Signal (Due unit delay)) else nothing) 32
    by true = fresh_fits unit (delay + 1) (Signal (Due unit delay)) (signal (Due unit delay) refl)
    by false = none

  module _ (leaves : ℕ → Bool) where
    coming_next_fits : (unit : ℕ) → Fits (coming_next m leaves unit) 32
    coming_next_fits unit = by (nat_lt 1 (longest m unit)) where
      by : (b : Bool) → Fits (if b then fresh m unit 2 (first_of (shown m leaves unit) (Signal (Due unit 1))) else nothing) 32
      by true =
          fresh_fits unit 2 (first_of (shown m leaves unit) (Signal (Due unit 1)))
          (first_fits 32 (λ (o : ℕ × UnitOp). Signal (Boxes (IsFrom unit o.0 1))) (λ o. Signal (Boxes (Shows unit o.0)))
          (left_ops m leaves unit) (Signal (Due unit 1)) (λ o. signal (Boxes (IsFrom unit o.0 1)) refl)
          (λ o. signal (Boxes (Shows unit o.0)) refl) (signal (Due unit 1) refl))
      by false = none

    -- what a result port becomes, and a result that is due
    pub port_fits : (unit : ℕ)
        → Fits (Select (begins m unit 1) (made m unit 1) (Select (is_coming m unit 1) (coming_next m leaves unit) (Signal (Port unit)))) 32
    port_fits unit =
        select 32 (begins m unit 1) (made m unit 1) (Select (is_coming m unit 1) (coming_next m leaves unit) (Signal (Port unit)))
        (begins_fits unit 1) (over_timed 32 unit 1 (λ o. result_of m unit o.1) nothing (λ o. result_fits unit o.1) none)
        (select 32 (is_coming m unit 1) (coming_next m leaves unit) (Signal (Port unit)) (is_coming_fits unit 1) (coming_next_fits unit)
        (signal (Port unit) refl))

    pub due_fits : (unit delay : ℕ)
        → Fits (Select (begins m unit (delay + 1)) (kept_made m leaves unit (delay + 1)) (coming m unit (delay + 1))) 32
    due_fits unit delay =
        select 32 (begins m unit (delay + 1)) (kept_made m leaves unit (delay + 1)) (coming m unit (delay + 1))
        (begins_fits unit (delay + 1))
        (over_timed 32 unit (delay + 1) (λ o. kept_result m leaves unit o.1) nothing (λ o. by o.1 (is_left m leaves o.1)) none)
        (coming_fits unit (delay + 1))
      where
        by : (o : UnitOp) (b : Bool) → Fits (if b then nothing else result_of m unit o) 32
        by o true = none
        by o false = result_fits unit o

    -- whether what is due is an operation's
    pub from_fits : (unit op latency delay : ℕ) → Fits (Select (Signal IsReset) never (from_next m leaves unit op latency delay)) 1
    from_fits unit op latency delay =
        select 1 (Signal IsReset) never (from_next m leaves unit op latency delay) (signal IsReset refl) not
        (select 1 (begins m unit (delay + 1)) (if latency == delay + 1 then is_picked m leaves unit op latency else never)
        (if nat_lt (delay + 1) latency then was_from m leaves unit op (delay + 1) else never) (begins_fits unit (delay + 1))
        (picked (latency == delay + 1)) (was (nat_lt (delay + 1) latency)))
      where
        one : (b : Bool) → Fits (Const 1 (if b then 1 else 0)) 1
        one true = const 1 1 refl (omega arith)
        one false = not

        picked : (b : Bool) → Fits (if b then is_picked m leaves unit op latency else never) 1
        picked true = over_timed 1 unit latency (λ o. Const 1 (if o.0 == op then 1 else 0)) never (λ o. one (o.0 == op)) not
        picked false = not

        was : (b : Bool) → Fits (if b then was_from m leaves unit op (delay + 1) else never) 1
        was true =
            first_fits 1 (λ (o : ℕ × UnitOp). Signal (HasBegun unit o.0)) (λ o. never) (loads m unit (delay + 1 + 1))
            (Signal (Boxes (IsFrom unit op (delay + 1)))) (λ o. signal (HasBegun unit o.0) refl) (λ o. not)
            (signal (Boxes (IsFrom unit op (delay + 1))) refl)
        was false = not

    pub enable_fits : Fits (Either (Signal IsReset) (Signal Goes)) 1
    enable_fits = either (Signal IsReset) (Signal Goes) (signal IsReset refl) (signal Goes refl)
