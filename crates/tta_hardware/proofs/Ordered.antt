-- The wires of a machine stand in order.
use Rattle.std.proofs.Common.{◌≡◌, ℕ, ◌+◌, ◌≤◌, ◌==◌, Bool, true, false, ◌&&◌, List, [], ◌∷◌, ◌++◌, length, map, refl, ap, ◌∙◌, arith}
use Rattle.std.specs.Prelude.{nat_le, nat_lt, if◌then◌else◌}
use Rattle.std.specs.List.{flat_map, enumerate_from, AllByRecursion}
use Rattle.std.proofs.lemmas.Bool.{and_parts, and_from, le-leb, leb-true}
use Rattle.std.proofs.lemmas.List.{append_assoc}
use Rattle.tta_hardware.specs.Cited.{Guard, UnitOp, Source, Dest, Machine, same_op, Out, Take, KeptReg, KeptOperand, KeptPort, numbers, guards_on, sources_on, guard_width, payload_width, Not, reads_below, is_ordered, AreMadeBy, Const, Join}
use Rattle.tta_arch.specs.declared.ends.Source.TheVariants as source
use Rattle.tta_arch.specs.declared.ends.Dest.TheVariants as dest
use Rattle.tta_arch.specs.Effects.{width_of}
use Rattle.tta_circuit.specs.Circuit.{Signal as OfSignal}
use Rattle.tta_hardware.specs.Signals.{GuardOf, SourceOf, Signal as Named, Pc, HasHalted, Underway, Goal, Ends, Keeps, IsDue, Due, HasBegun, Raw, IsInside, Port, IsOffered, Offer, IsReady, IsReset, Fetched, Word, Acts, Starts, Trigger, Operand, Controls, GoalNow, EndsNow, Lands, Asks, Gives, Goes, NextPc, Puts, PutWord, Watches, Boxes, Expression}
use Rattle.tta_hardware.specs.Chains.{any_of, first_of, pick_from}
use Rattle.tta_hardware.specs.Wires.{never, nothing, source_word, passing, hits, buses_to, reached, arrivals, ops_of, all_ops, made_of}
use Rattle.tta_hardware.specs.Hardware.{all_fields, first_wires, bus_wires, unit_wires, wire_names, wire}
use Rattle.tta_hardware.specs.Order.{rank}
use Rattle.tta_hardware.specs.Signals.{Whole}
use Rattle.tta_hardware.specs.Wires.{loads, read_word}
use Rattle.tta_hardware.proofs.PartsRead.{field_reads}

-- ---- what expressions over lists read

-- whether an expression reads only signals of a rank below k
abbrev lower : ℕ → Expression → Bool
lower k e = reads_below rank k e

module _ (k : ℕ) where
  any_reads : {A : Type 0} (f : A → Expression) (xs : List A) → ((x : A) → reads_below rank k (f x) ≡ true)
      → reads_below rank k (any_of (map f xs)) ≡ true
  any_reads f [] all = refl
  any_reads f (x ∷ xs) all = and_from (reads_below rank k (f x)) (reads_below rank k (any_of (map f xs))) (all x) (any_reads f xs all)

  first_reads : {A : Type 0} (f e : A → Expression) (xs : List A) (other : Expression) → ((x : A) → reads_below rank k (f x) ≡ true)
      → ((x : A) → reads_below rank k (e x) ≡ true)
      → reads_below rank k other ≡ true → reads_below rank k (first_of (map (λ x. (f x, e x)) xs) other) ≡ true
  first_reads f e [] other tests words rest = rest
  first_reads f e (x ∷ xs) other tests words rest =
      and_from (reads_below rank k (f x)) (reads_below rank k (e x) && reads_below rank k (first_of (map (λ x. (f x, e x)) xs) other))
      (tests x)
      (and_from (reads_below rank k (e x)) (reads_below rank k (first_of (map (λ x. (f x, e x)) xs) other)) (words x)
      (first_reads f e xs other tests words rest))

  both_read : (xs ys : List (Expression × Expression)) (other : Expression) → reads_below rank k (first_of xs (first_of ys other)) ≡ true
      → reads_below rank k (first_of (xs ++ ys) other) ≡ true
  both_read [] ys other is = is
  both_read (x ∷ xs) ys other is =
      let first = and_parts (reads_below rank k x.0) (reads_below rank k x.1 && reads_below rank k (first_of xs (first_of ys other))) is in
      let second = and_parts (reads_below rank k x.1) (reads_below rank k (first_of xs (first_of ys other))) first.1 in
      and_from (reads_below rank k x.0) (reads_below rank k x.1 && reads_below rank k (first_of (xs ++ ys) other)) first.0
      (and_from (reads_below rank k x.1) (reads_below rank k (first_of (xs ++ ys) other)) second.0 (both_read xs ys other second.1))

  pick_reads : {A : Type 0} (width j : ℕ) (code : Expression) (f : A → Expression) (xs : List A) (other : Expression)
      → reads_below rank k code ≡ true → ((x : A) → reads_below rank k (f x) ≡ true)
      → reads_below rank k other ≡ true → reads_below rank k (pick_from width code j (map f xs) other) ≡ true
  pick_reads width j code f [] other coded all rest = rest
  pick_reads width j code f (x ∷ xs) other coded all rest =
      and_from (reads_below rank k code && true)
      (reads_below rank k (f x) && reads_below rank k (pick_from width code (j + 1) (map f xs) other))
      (and_from (reads_below rank k code) true coded refl)
      (and_from (reads_below rank k (f x)) (reads_below rank k (pick_from width code (j + 1) (map f xs) other)) (all x)
      (pick_reads width (j + 1) code f xs other coded all rest))

-- ---- each wire

module _ (m : Machine) where
  source_reads : (src : Source) → reads_below rank 3 (source_word m src) ≡ true
  source_reads (source.Reg file index) = by (width_of m file == 1) where
    by : (b : Bool)
        → lower 3 (if b then Join 1 (Const 31 0) (OfSignal (Keeps (KeptReg file index))) else OfSignal (Keeps (KeptReg file index))) ≡ true
    by true = refl
    by false = refl
  source_reads (source.Imm unit index) = refl
  source_reads (source.Shown unit) = refl
  source_reads source.Ra = refl
  source_reads (source.Value word) = refl

  guard_reads : (g : Guard) → reads_below rank 3 (passing g.on) ≡ true
  guard_reads g = by g.on.inverted where
    by : (b : Bool)
        → lower 3 (if b then Not (OfSignal (Keeps (KeptReg g.on.file g.on.index))) else OfSignal (Keeps (KeptReg g.on.file g.on.index)))
        ≡ true
    by true = refl
    by false = refl

  over_ops : (unit : ℕ) (ops : List (ℕ × UnitOp))
      → reads_below rank 4 (first_of (flat_map (λ o. arrivals m (dest.Trigger unit o.0)) ops) nothing) ≡ true
  over_ops unit [] = refl
  over_ops unit (o ∷ ops) =
      both_read 4 (arrivals m (dest.Trigger unit o.0)) (flat_map (λ o. arrivals m (dest.Trigger unit o.0)) ops) nothing
      (first_reads 4 (hits m (dest.Trigger unit o.0)) (λ bus. OfSignal (Word bus)) (buses_to m (dest.Trigger unit o.0))
      (first_of (flat_map (λ o. arrivals m (dest.Trigger unit o.0)) ops) nothing)
      (λ b. refl) (λ b. refl) (over_ops unit ops))

  reach_3 : (dst : Dest) → reads_below rank 4 (reached m dst) ≡ true
  reach_3 dst = any_reads 4 (hits m dst) (buses_to m dst) (λ b. refl)

  -- whether a bus acts
  acts_read : (bus : ℕ) → reads_below rank 3 (made_of m (Acts bus)) ≡ true
  acts_read bus = by (nat_lt 0 (guard_width m bus)) where
    by : (b : Bool) → lower 3 (if b
        then pick_from (guard_width m bus) (OfSignal (Fetched (GuardOf bus))) 0 (Const 1 1 ∷ map (λ g. passing g.on) (guards_on m bus))
        never
        else Const 1 1) ≡ true
    by true =
        pick_reads 3 (guard_width m bus) 1 (OfSignal (Fetched (GuardOf bus))) (λ (g : Guard). passing g.on) (guards_on m bus) never refl
        guard_reads refl
    by false = refl

  -- a wire reads only what is of a lower rank
  pub reads_lower : (n : Named) → reads_below rank (rank n) (made_of m n) ≡ true
  reads_lower Whole = refl
  reads_lower (Fetched f) = field_reads rank 2 m (OfSignal Whole) refl f
  reads_lower (Word bus) = pick_reads 3 (payload_width m bus) 0 (OfSignal (Fetched (SourceOf bus))) (source_word m)
      (sources_on m bus) nothing refl source_reads refl
  reads_lower (Acts bus) = acts_read bus
  reads_lower (Starts unit op) = reach_3 (dest.Trigger unit op)
  reads_lower (Trigger unit) = over_ops unit (ops_of m unit)
  reads_lower (Operand unit) =
      first_reads 4 (hits m (dest.Operand unit)) (λ bus. OfSignal (Word bus)) (buses_to m (dest.Operand unit))
      (OfSignal (Keeps (KeptOperand unit))) (λ b. refl) (λ b. refl) refl
  reads_lower Controls =
      and_from (reads_below rank 4 (reached m dest.Jump)) (reads_below rank 4 (reached m dest.Call)
      && reads_below rank 4 (reached m dest.Halt)) (reach_3 dest.Jump)
      (and_from (reads_below rank 4 (reached m dest.Call)) (reads_below rank 4 (reached m dest.Halt)) (reach_3 dest.Call)
      (reach_3 dest.Halt))
  reads_lower GoalNow =
      both_read 4 (arrivals m dest.Jump) (arrivals m dest.Call) (OfSignal Goal)
      (first_reads 4 (hits m dest.Jump) (λ bus. OfSignal (Word bus)) (buses_to m dest.Jump)
      (first_of (arrivals m dest.Call) (OfSignal Goal)) (λ b. refl) (λ b. refl)
      (first_reads 4 (hits m dest.Call) (λ bus. OfSignal (Word bus)) (buses_to m dest.Call) (OfSignal Goal) (λ b. refl) (λ b. refl) refl))
  reads_lower EndsNow =
      and_from (reads_below rank 5 (reached m dest.Halt)) true (any_reads 5 (hits m dest.Halt) (buses_to m dest.Halt) (λ b. refl)) refl
  reads_lower Lands = by (m.control.delay == 0) where
    by : (b : Bool) → lower 5 (if b then OfSignal Controls else OfSignal (Underway 1)) ≡ true
    by true = refl
    by false = refl
  reads_lower Asks = any_reads 5 (λ (o : ℕ × ℕ). OfSignal (Starts o.0 o.1)) (all_ops m (same_op Take)) (λ o. refl)
  reads_lower Gives = any_reads 5 (λ (o : ℕ × ℕ). OfSignal (Starts o.0 o.1)) (all_ops m (same_op Out)) (λ o. refl)
  reads_lower Goes = refl
  reads_lower NextPc = refl
  reads_lower Puts = refl
  reads_lower PutWord =
      first_reads 7 (λ (o : ℕ × ℕ). OfSignal (Starts o.0 o.1)) (λ o. OfSignal (Trigger o.0)) (all_ops m (same_op Out)) nothing (λ o. refl)
      (λ o. refl) refl
  reads_lower Pc = refl
  reads_lower HasHalted = refl
  reads_lower (Underway delay) = refl
  reads_lower Goal = refl
  reads_lower Ends = refl
  reads_lower (Keeps p) = refl
  reads_lower (IsDue unit delay) = refl
  reads_lower (Due unit delay) = refl
  reads_lower (HasBegun unit op) = refl
  reads_lower (Raw unit op) = refl
  reads_lower (IsInside unit op) = refl
  reads_lower (Port unit) =
      first_reads 2 (λ (o : ℕ × UnitOp). OfSignal (HasBegun unit o.0)) (λ o. read_word unit o.0) (loads m unit 1)
      (OfSignal (Keeps (KeptPort unit))) (λ o. refl) (λ o. refl) refl
  reads_lower IsOffered = refl
  reads_lower Offer = refl
  reads_lower IsReady = refl
  reads_lower IsReset = refl
  reads_lower (Watches w) = refl
  reads_lower (Boxes b) = refl

  -- ---- all wires

  weaker : (a b : ℕ) (ns : List Named) → a ≤ b → is_ordered rank b (map (wire m) ns) ≡ true → is_ordered rank a (map (wire m) ns) ≡ true
  weaker a b [] le is = refl
  weaker a b (n ∷ ns) le is =
      let p = and_parts (nat_le b (rank n) && reads_below rank (rank n) (made_of m n)) (is_ordered rank (rank n) (map (wire m) ns)) is in
      let q = and_parts (nat_le b (rank n)) (reads_below rank (rank n) (made_of m n)) p.0 in
      and_from (nat_le a (rank n) && reads_below rank (rank n) (made_of m n)) (is_ordered rank (rank n) (map (wire m) ns))
      (and_from (nat_le a (rank n)) (reads_below rank (rank n) (made_of m n))
      (le-leb a (rank n) (omega (arith, le, leb-true b (rank n) q.0))) q.1) p.1

  -- wires of one rank before others of no lower one
  block : (k least : ℕ) (names rest : List Named) → least ≤ k → AllByRecursion (λ n. rank n ≡ k) names
      → is_ordered rank k (map (wire m) rest) ≡ true
      → is_ordered rank least (map (wire m) (names ++ rest)) ≡ true
  block k least [] rest le all is = weaker least k rest le is
  block k least (n ∷ names) rest le all is =
      and_from (nat_le least (rank n) && reads_below rank (rank n) (made_of m n)) (is_ordered rank (rank n) (map (wire m) (names ++ rest)))
      (and_from (nat_le least (rank n)) (reads_below rank (rank n) (made_of m n)) (le-leb least (rank n) (omega (arith, le, all.0)))
      (reads_lower n))
      (block k (rank n) names rest (omega (arith, all.0)) all.1 is)

  all_both : (P : Named → Type 0) (xs ys : List Named) → AllByRecursion P xs → AllByRecursion P ys → AllByRecursion P (xs ++ ys)
  all_both P [] ys first second = second
  all_both P (x ∷ xs) ys first second = (first.0, all_both P xs ys first.1 second)

  all_map : {A : Type 0} (P : Named → Type 0) (f : A → Named) (xs : List A) → ((x : A) → P (f x)) → AllByRecursion P (map f xs)
  all_map P f [] all = tt
  all_map P f (x ∷ xs) all = (all x, all_map P f xs all)

  all_flat : {A : Type 0} (P : Named → Type 0) (f : A → List Named) (xs : List A) → ((x : A) → AllByRecursion P (f x))
      → AllByRecursion P (flat_map f xs)
  all_flat P f [] all = tt
  all_flat P f (x ∷ xs) all = all_both P (f x) (flat_map f xs) (all x) (all_flat P f xs all)

  assoc : (a b c d : List Named) → a ++ b ++ c ++ d ≡ a ++ (b ++ (c ++ d))
  assoc a b c d = append_assoc (a ++ b) c d ∙ append_assoc a b (c ++ d)

  -- the wires of a machine are in order
  pub in_order : is_ordered rank 1 (map (wire m) (wire_names m)) ≡ true
  in_order =
      ap (λ ns. is_ordered rank 1 (map (wire m) ns))
      (assoc (first_wires m) (flat_map bus_wires (numbers (length m.buses))) (flat_map unit_wires (enumerate_from 0 m.units))
      (Controls ∷ GoalNow ∷ EndsNow ∷ Lands ∷ Asks ∷ Gives ∷ Goes ∷ NextPc ∷ Puts ∷ PutWord ∷ []))
      ∙ block 2 1 (first_wires m) (flat_map bus_wires (numbers (length m.buses)) ++ (flat_map unit_wires (enumerate_from 0 m.units)
      ++ Controls ∷ GoalNow ∷ EndsNow ∷ Lands ∷ Asks ∷ Gives ∷ Goes ∷ NextPc ∷ Puts ∷ PutWord ∷ [])) (omega arith)
      (all_both (λ n. rank n ≡ 2) (map Fetched (all_fields m)) (map Port (numbers (length m.units)))
      (all_map (λ n. rank n ≡ 2) Fetched (all_fields m) (λ f. refl))
      (all_map (λ n. rank n ≡ 2) Port (numbers (length m.units)) (λ k. refl)))
      (block 3 2 (flat_map bus_wires (numbers (length m.buses))) (flat_map unit_wires (enumerate_from 0 m.units)
      ++ Controls ∷ GoalNow ∷ EndsNow ∷ Lands ∷ Asks ∷ Gives ∷ Goes ∷ NextPc ∷ Puts ∷ PutWord ∷ []) (omega arith)
      (all_flat (λ n. rank n ≡ 3) bus_wires (numbers (length m.buses)) (λ bus. (refl, (refl, tt))))
      (block 4 3 (flat_map unit_wires (enumerate_from 0 m.units))
      (Controls ∷ GoalNow ∷ EndsNow ∷ Lands ∷ Asks ∷ Gives ∷ Goes ∷ NextPc ∷ Puts ∷ PutWord ∷ []) (omega arith)
      (all_flat (λ n. rank n ≡ 4) unit_wires (enumerate_from 0 m.units)
      (λ x. all_both (λ n. rank n ≡ 4) (map (Starts x.0) (numbers (length x.1.ops))) (Trigger x.0 ∷ Operand x.0 ∷ [])
      (all_map (λ n. rank n ≡ 4) (Starts x.0) (numbers (length x.1.ops)) (λ op. refl)) (refl, (refl, tt))))
      (block 4 4 (Controls ∷ GoalNow ∷ []) (EndsNow ∷ Lands ∷ Asks ∷ Gives ∷ Goes ∷ NextPc ∷ Puts ∷ PutWord ∷ []) (omega arith)
      (refl, (refl, tt))
      (block 5 4 (EndsNow ∷ Lands ∷ Asks ∷ Gives ∷ []) (Goes ∷ NextPc ∷ Puts ∷ PutWord ∷ []) (omega arith)
      (refl, (refl, (refl, (refl, tt))))
      (block 6 5 (Goes ∷ NextPc ∷ []) (Puts ∷ PutWord ∷ []) (omega arith) (refl, (refl, tt))
      (block 7 6 (Puts ∷ PutWord ∷ []) [] (omega arith) (refl, (refl, tt)) refl))))))

  -- each is made of its name
  pub made_by : (ns : List Named) → AreMadeBy (made_of m) (map (wire m) ns)
  made_by [] = tt
  made_by (n ∷ ns) = (refl, made_by ns)
