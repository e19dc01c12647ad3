-- The wires of a machine keep their widths and are plain.
use Rattle.std.proofs.Common.{◌≡◌, ℕ, ◌+◌, ◌<◌, ◌==◌, Bool, true, false, ◌&&◌, List, [], ◌∷◌, ◌++◌, length, map, filter, slice_get, Option, Some, None, refl, ap, subst, arith}
use Rattle.std.specs.Prelude.{if◌then◌else◌, nat_lt}
use Rattle.std.specs.Option.{option_map_or}
use Rattle.std.specs.List.{list_all, flat_map, AllByRecursion}
use Rattle.std.proofs.lemmas.Bool.{and_parts, false≢true, eqb-true, lt-ltb}
use Rattle.std.proofs.lemmas.Nat.{pow_pos}
use Rattle.tta_list.proofs.Lists.{list_all_one}
use Rattle.tta_hardware.specs.Cited.{File, Guard, UnitOp, Out, Take, Source, Dest, Machine, IsMachine, is_file, is_guard, same_op, is_dest_on, numbers, guards_on, sources_on, dests_on, guard_width, payload_width, dest_width, dest_code, KeptReg, KeptImm, KeptRa, KeptOperand, KeptPort, Const, Signal, Not, Join}
use Rattle.tta_arch.specs.declared.ends.Source.TheVariants as source
use Rattle.tta_arch.specs.declared.ends.Dest.TheVariants as dest
use Rattle.tta_arch.specs.Effects.{width_of}
use Rattle.tta_image.proofs.EndsLemmas.{dest_code_inside}
use Rattle.tta_hardware.specs.Signals.{GuardOf, IsShort, SourceOf, ShortOf, DestOf, HasHalted, Underway, Goal, Ends, Keeps, HasBegun, Raw, IsInside, Port, IsOffered, IsReady, IsReset, Fetched, Word, Acts, Starts, Trigger, Operand, Controls, GoalNow, Lands, Asks, Gives, Goes, Expression}
use Rattle.tta_hardware.specs.Chains.{first_of, pick_from}
use Rattle.tta_hardware.specs.Wires.{loads, read_word, fresh, never, nothing, source_word, passing, hits, buses_to, reached, arrivals, ops_of, all_ops, made_of}
use Rattle.tta_hardware.specs.Sized.{Fits, WiresFit, WiresAreSized}
use Rattle.tta_hardware.proofs.Bits.{enough, dest_some, payload_some}
use Rattle.tta_hardware.proofs.Fitting.{signal, const, join, select, negated, both, either, equal, any_fits, first_fits, both_fit, pick_fits, all_of}

-- ---- lists

pub all_filter : {A : Type 0} (P : A → Type 0) (p : A → Bool) (xs : List A) → ((x : A) → p x ≡ true → P x) → AllByRecursion P (filter p xs)
all_filter P p [] each = tt
all_filter P p (x ∷ xs) each = by (p x) refl (all_filter P p xs each) where
  by : (b : Bool) → p x ≡ b → AllByRecursion P (filter p xs) → AllByRecursion P (if b then x ∷ filter p xs else filter p xs)
  by true is rest = (each x is, rest)
  by false is rest = rest

pub kept_filter : {A : Type 0} (P : A → Type 0) (p : A → Bool) (xs : List A) → AllByRecursion P xs → AllByRecursion P (filter p xs)
kept_filter P p [] all = tt
kept_filter P p (x ∷ xs) all = by (p x) (kept_filter P p xs all.1) where
  by : (b : Bool) → AllByRecursion P (filter p xs) → AllByRecursion P (if b then x ∷ filter p xs else filter p xs)
  by true rest = (all.0, rest)
  by false rest = rest

pub all_from : {A : Type 0} (P : A → Type 0) (p : A → Bool) (xs : List A) → list_all p xs ≡ true → ((x : A) → p x ≡ true → P x)
    → AllByRecursion P xs
all_from P p [] all each = tt
all_from P p (x ∷ xs) all each = let q = and_parts (p x) (list_all p xs) all in (each x q.0, all_from P p xs q.1 each)

pub both_lists : {A : Type 0} (P : A → Type 0) (xs ys : List A) → AllByRecursion P xs → AllByRecursion P ys → AllByRecursion P (xs ++ ys)
both_lists P [] ys first second = second
both_lists P (x ∷ xs) ys first second = (first.0, both_lists P xs ys first.1 second)

pub all_map : {A B : Type 0} (P : B → Type 0) (f : A → B) (xs : List A) → AllByRecursion (λ x. P (f x)) xs → AllByRecursion P (map f xs)
all_map P f [] all = tt
all_map P f (x ∷ xs) all = (all.0, all_map P f xs all.1)

all_flat : {A B : Type 0} (P : B → Type 0) (f : A → List B) (xs : List A) → ((x : A) → AllByRecursion P (f x))
    → AllByRecursion P (flat_map f xs)
all_flat P f [] all = tt
all_flat P f (x ∷ xs) all = both_lists P (f x) (flat_map f xs) (all x) (all_flat P f xs all)

module _ (m : Machine) (rules : IsMachine m) where
  -- ---- places

  -- a file has registers of one bit or of 32
  pub wide_file : (file : ℕ) → (width_of m file == 1) ≡ false → width_of m file ≡ 32
  wide_file file not_one = by (slice_get m.files file) refl not_one where
    of : (f : File) → is_file m.sockets f ≡ true → (f.width == 1) ≡ false → f.width ≡ 32
    of f good other = grind (arith, good, other)

    by : (o : Option File) → slice_get m.files file ≡ o → (option_map_or (λ f. f.width) o 32 == 1) ≡ false
        → option_map_or (λ f. f.width) o 32 ≡ 32
    by None at other = refl
    by (Some f) at other = of f (list_all_one (is_file m.sockets) m.files file f rules.files at) other

  pub file_bits : (file : ℕ) → nat_lt 0 (width_of m file) ≡ true
  file_bits file = by (width_of m file == 1) refl where
    by : (b : Bool) → (width_of m file == 1) ≡ b → nat_lt 0 (width_of m file) ≡ true
    by true one = ap (nat_lt 0) (eqb-true (width_of m file) 1 one)
    by false other = ap (nat_lt 0) (wide_file file other)

  pub as_word : (e : Expression) (k : ℕ) → k ≡ 32 → Fits m e k → Fits m e 32
  as_word e k same f = subst (λ (n : ℕ). Fits m e n) same f

  source_fits : (src : Source) → Fits m (source_word m src) 32
  source_fits (source.Reg file index) = by (width_of m file == 1) refl where
    by : (b : Bool) → (width_of m file == 1) ≡ b
        → Fits m (if b then Join 1 (Const 31 0) (Signal (Keeps (KeptReg file index))) else Signal (Keeps (KeptReg file index))) 32
    by true one =
        join m 1 31 (Const 31 0) (Signal (Keeps (KeptReg file index))) (const m 31 0 refl (pow_pos 31))
        (subst (λ (n : ℕ). Fits m (Signal (Keeps (KeptReg file index))) n) (eqb-true (width_of m file) 1 one)
        (signal m (Keeps (KeptReg file index)) (file_bits file)))
    by false other = as_word (Signal (Keeps (KeptReg file index))) (width_of m file) (wide_file file other)
        (signal m (Keeps (KeptReg file index)) (file_bits file))
  source_fits (source.Imm unit index) = signal m (Keeps (KeptImm unit index)) refl
  source_fits (source.Shown unit) = signal m (Port unit) refl
  source_fits source.Ra = signal m (Keeps KeptRa) refl
  source_fits (source.Value word) = const m 32 0 refl (pow_pos 32)

  guard_fits : (g : Guard) → is_guard (length m.buses) m.files g ≡ true → Fits m (passing g.on) 1
  guard_fits g good = by g.on.inverted where
    narrow : (o : Option File) → option_map_or (λ f. f.width == 1 && nat_lt g.on.index f.size) o false ≡ true
        → option_map_or (λ f. f.width) o 32 ≡ 1
    narrow None is = absurd (false≢true is)
    narrow (Some f) is = eqb-true f.width 1 (and_parts (f.width == 1) (nat_lt g.on.index f.size) is).0

    its : Fits m (Signal (Keeps (KeptReg g.on.file g.on.index))) 1
    its =
        subst (λ (n : ℕ). Fits m (Signal (Keeps (KeptReg g.on.file g.on.index))) n)
        (narrow (slice_get m.files g.on.file)
        (and_parts (nat_lt g.bus (length m.buses))
        (option_map_or (λ f. f.width == 1 && nat_lt g.on.index f.size) (slice_get m.files g.on.file) false) good).1)
        (signal m (Keeps (KeptReg g.on.file g.on.index)) (file_bits g.on.file))

    by : (b : Bool)
        → Fits m (if b then Not (Signal (Keeps (KeptReg g.on.file g.on.index))) else Signal (Keeps (KeptReg g.on.file g.on.index))) 1
    by true = negated m (Signal (Keeps (KeptReg g.on.file g.on.index))) its
    by false = its

  -- ---- arrivals

  pub hit_fits : (dst : Dest) (bus : ℕ) → is_dest_on m bus dst ≡ true → Fits m (hits m dst bus) 1
  hit_fits dst bus on =
      let some = lt-ltb 0 (dest_width m bus) (dest_some m bus dst on) in
      both m _ _ (signal m (Acts bus) refl)
      (equal m (dest_width m bus) _ _ (signal m (Fetched (DestOf bus)) some)
      (const m (dest_width m bus) (dest_code m bus dst) some
      (let e = enough (1 + length (dests_on m bus)) (dest_width m bus) (omega arith) in let i = dest_code_inside m bus dst on in
      omega (arith, e, i))))

  pub reached_fits : (dst : Dest) → Fits m (reached m dst) 1
  reached_fits dst =
      any_fits m (hits m dst) (buses_to m dst)
      (all_filter (λ bus. Fits m (hits m dst bus) 1) (λ bus. is_dest_on m bus dst) (numbers (length m.buses)) (hit_fits dst))

  arriving : (dst : Dest) → AllByRecursion (λ bus. Fits m (hits m dst bus) 1 × Fits m (Signal (Word bus)) 32) (buses_to m dst)
  arriving dst =
      all_filter (λ bus. Fits m (hits m dst bus) 1 × Fits m (Signal (Word bus)) 32) (λ bus. is_dest_on m bus dst)
      (numbers (length m.buses)) (λ bus on. (hit_fits dst bus on, signal m (Word bus) refl))

  arrivals_fit : (dst : Dest) → AllByRecursion (λ c. Fits m c.0 1 × Fits m c.1 32) (arrivals m dst)
  arrivals_fit dst = all_map (λ (c : Expression × Expression). Fits m c.0 1 × Fits m c.1 32) (λ bus. (hits m dst bus, Signal (Word bus)))
      (buses_to m dst) (arriving dst)

  over_ops : (unit : ℕ) (ops : List (ℕ × UnitOp)) → Fits m (first_of (flat_map (λ o. arrivals m (dest.Trigger unit o.0)) ops) nothing) 32
  over_ops unit [] = const m 32 0 refl (pow_pos 32)
  over_ops unit (o ∷ ops) =
      both_fit m 32 (arrivals m (dest.Trigger unit o.0)) (flat_map (λ o. arrivals m (dest.Trigger unit o.0)) ops) nothing
      (arrivals_fit (dest.Trigger unit o.0)) (over_ops unit ops)

  pub start_fits : (xs : List (ℕ × ℕ)) → AllByRecursion (λ (o : ℕ × ℕ). Fits m (Signal (Starts o.0 o.1)) 1) xs
  start_fits xs = all_of m (λ (o : ℕ × ℕ). Fits m (Signal (Starts o.0 o.1)) 1) xs (λ o. signal m (Starts o.0 o.1) refl)

  word_fits : (bus : ℕ) → bus < length m.buses → Fits m (made_of m (Word bus)) 32
  word_fits bus there =
      let some = lt-ltb 0 (payload_width m bus) (payload_some m bus rules there) in
      select m 32 _ _ _ (signal m (Fetched (IsShort bus)) refl) (signal m (Fetched (ShortOf bus)) refl)
      (pick_fits m 32 (payload_width m bus) 0 (length (sources_on m bus)) (Signal (Fetched (SourceOf bus))) (source_word m)
      (sources_on m bus) nothing (signal m (Fetched (SourceOf bus)) some) some
      (omega arith) (enough (length (sources_on m bus)) (payload_width m bus) (omega arith))
      (all_of m (λ src. Fits m (source_word m src) 32) (sources_on m bus) source_fits) (const m 32 0 refl (pow_pos 32)))

  acts_fits : (bus : ℕ) → Fits m (made_of m (Acts bus)) 1
  acts_fits bus = by (nat_lt 0 (guard_width m bus)) refl where
    by : (b : Bool) → nat_lt 0 (guard_width m bus) ≡ b → Fits m (if b
        then pick_from (guard_width m bus) (Signal (Fetched (GuardOf bus))) 0 (Const 1 1 ∷ map (λ g. passing g.on) (guards_on m bus)) never
        else Const 1 1) 1
    by true some =
        let most = enough (1 + length (guards_on m bus)) (guard_width m bus) (omega arith) in
        select m 1 _ _ _
        (equal m (guard_width m bus) _ _ (signal m (Fetched (GuardOf bus)) some)
        (const m (guard_width m bus) 0 some (pow_pos (guard_width m bus))))
        (const m 1 1 refl (omega arith))
        (pick_fits m 1 (guard_width m bus) 1 (1 + length (guards_on m bus)) (Signal (Fetched (GuardOf bus)))
        (λ (g : Guard). passing g.on) (guards_on m bus) never (signal m (Fetched (GuardOf bus)) some) some
        (omega arith) most
        (kept_filter (λ (g : Guard). Fits m (passing g.on) 1) (λ g. g.bus == bus) m.guards
        (all_from (λ (g : Guard). Fits m (passing g.on) 1) (is_guard (length m.buses) m.files) m.guards rules.guards guard_fits))
        (const m 1 0 refl (omega arith)))
    by false none = const m 1 1 refl (omega arith)

  operand_fits : (unit : ℕ) → Fits m (made_of m (Operand unit)) 32
  operand_fits unit = first_fits m 32 (hits m (dest.Operand unit)) (λ bus. Signal (Word bus)) (buses_to m (dest.Operand unit)) _
      (arriving (dest.Operand unit)) (signal m (Keeps (KeptOperand unit)) refl)

  goal_fits : Fits m (made_of m GoalNow) 32
  goal_fits =
      both_fit m 32 (arrivals m dest.Jump) (arrivals m dest.Call) (Signal Goal) (arrivals_fit dest.Jump)
      (first_fits m 32 (hits m dest.Call) (λ bus. Signal (Word bus)) (buses_to m dest.Call) (Signal Goal) (arriving dest.Call)
      (signal m Goal refl))

  lands_fits : Fits m (made_of m Lands) 1
  lands_fits = by (m.control.delay == 0) where
    by : (b : Bool) → Fits m (if b then Signal Controls else Signal (Underway 1)) 1
    by true = signal m Controls refl
    by false = signal m (Underway 1) refl

  pub fresh_fits : (unit latency : ℕ) (e : Expression) → Fits m e 32 → Fits m (fresh m unit latency e) 32
  fresh_fits unit latency e f =
      first_fits m 32 (λ (o : ℕ × UnitOp). Signal (HasBegun unit o.0)) (λ o. read_word unit o.0) (loads m unit latency) e
      (all_of m (λ (o : ℕ × UnitOp). Fits m (Signal (HasBegun unit o.0)) 1 × Fits m (read_word unit o.0) 32) (loads m unit latency)
      (λ o. (
        signal m (HasBegun unit o.0) refl,
        select m 32 _ _ _ (signal m (IsInside unit o.0) refl) (signal m (Raw unit o.0) refl)
            (const m 32 0 refl (pow_pos 32)),
      ))) f

  -- all wires but the fields of the instruction and the address of the next keep their widths
  pub wires_fit : WiresFit m
  wires_fit = record {
    port = λ unit. fresh_fits unit 1 (Signal (Keeps (KeptPort unit))) (signal m (Keeps (KeptPort unit)) refl);
    word = word_fits;
    acts = acts_fits;
    starts = λ unit op. reached_fits (dest.Trigger unit op);
    trigger = λ unit. over_ops unit (ops_of m unit);
    operand = operand_fits;
    controls = either m _ _ (reached_fits dest.Jump) (either m _ _ (reached_fits dest.Call) (reached_fits dest.Halt));
    goal = goal_fits;
    ends = select m 1 _ _ _ (signal m Controls refl) (reached_fits dest.Halt) (signal m Ends refl);
    lands = lands_fits;
    asks = any_fits m (λ (o : ℕ × ℕ). Signal (Starts o.0 o.1)) (all_ops m (same_op Take)) (start_fits (all_ops m (same_op Take)));
    gives = any_fits m (λ (o : ℕ × ℕ). Signal (Starts o.0 o.1)) (all_ops m (same_op Out)) (start_fits (all_ops m (same_op Out)));
    goes = both m _ _ (negated m _ (signal m IsReset refl)) (both m _ _ (negated m _ (signal m HasHalted refl))
        (both m _ _ (either m _ _ (negated m _ (signal m Asks refl)) (signal m IsOffered refl))
        (either m _ _ (negated m _ (signal m Gives refl)) (signal m IsReady refl))));
    puts = both m _ _ (signal m Goes refl) (signal m Gives refl);
    put_word = first_fits m 32 (λ (o : ℕ × ℕ). Signal (Starts o.0 o.1)) (λ o. Signal (Trigger o.0)) (all_ops m (same_op Out)) nothing
        (all_of m (λ (o : ℕ × ℕ). Fits m (Signal (Starts o.0 o.1)) 1 × Fits m (Signal (Trigger o.0)) 32) (all_ops m (same_op Out))
        (λ o. (signal m (Starts o.0 o.1) refl, signal m (Trigger o.0) refl))) (const m 32 0 refl (pow_pos 32));
  }

pub wires_are_sized : WiresAreSized
wires_are_sized m rules = wires_fit m rules
