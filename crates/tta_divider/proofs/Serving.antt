-- A divider makes its operation.
use Rattle.std.proofs.Common.{◌≡◌, ℕ, zero, suc, ◌<◌, ◌≤◌, ◌+◌, ◌-◌, ◌*◌, ◌^◌, ◌==◌, Bool, true, false, List, [], ◌∷◌, Option, Some, refl, sym, ap, ◌∙◌, subst, arith}
use Rattle.std.specs.Prelude.{if◌then◌else◌, slice_get}
use Rattle.std.specs.List.{find, AllByRecursion}
use Rattle.std.proofs.lemmas.Bool.{eqb-true, false_from_ne_true}
use Rattle.std.proofs.lemmas.Option.{none-some, same_Some}
use Rattle.tta_divider.specs.Cited.{Units, divide, Expr, Const, Signal, Wire, Register, is_set, value, given, registered, Held, held_from, Solves, taken_in, Partial, begun, with_digits, Cut, wire, divided, held}
use Rattle.tta_circuit.proofs.Settling.{settled_solves}
use Rattle.tta_op_circuits.proofs.Dividing.{divides_in_steps}
use Rattle.tta_op_circuits.proofs.Stages.{stage_divides}
use Rattle.tta_divider.specs.declared.kind.Kind.{Kind}
use Rattle.tta_divider.specs.declared.kind.Kind.TheVariants.{Quotient, Remainder}
use Rattle.tta_divider.specs.Divider.{Part, Enable, First, Second, Rest, Digits, Divisor, Digit, Shown, same_part, same_memory, made_before, made_by, rest_before, digits_before, divisor_before, stage_cut, stage_wires, shown_of, divider, rank}
use Rattle.tta_divider.specs.Laws.{operation_of, parts_at, AreWords, DividerServes, DividesAtOnce}
use Rattle.tta_divider.proofs.Rising.{looked, made, found}
use Rattle.tta_divider.proofs.Names.{parts_apart}
use Rattle.tta_divider.proofs.Counts.{none_before, all_before, at_most, follow}
use Rattle.tta_divider.proofs.Lists.{both, wires_of, registers_of}
use Rattle.tta_divider.proofs.Places.{place, wires_placed, registers_rise}
use Rattle.tta_divider.proofs.Ordered.{wires_ordered}

-- a stage behind another is not the first
later : (stage : ℕ) → 0 < stage → (stage == 0) ≡ false
later stage some = false_from_ne_true (stage == 0) (λ is. let none : stage ≡ 0 = eqb-true stage 0 is in omega (arith, none, some))

-- What stands before a stage is the division of two words, with the digits that the stages before it make.
record Holds (stages stage : ℕ) (words : ℕ × ℕ) (p : Partial) (by : ℕ) : Type 0 where
  first : words.0 < 2 ^ 32
  second : words.1 < 2 ^ 32
  division : p ≡ with_digits (made_before stages stage) words.1 (begun words.0)
  divisor : by ≡ words.1

module _ (u : Units) (kind : Kind) (stages : ℕ) (h : Held Part ⊥) (inputs : ℕ → Part → ℕ) (are : AreWords inputs) where
  -- what it holds before a clock, and the words of its signals then
  abbrev before : ℕ → Held Part ⊥
  before t = held_from same_part same_memory u (divider kind stages) h inputs t

  abbrev now : ℕ → Part → ℕ
  now t = parts_at u kind stages h inputs t

  abbrev word : ℕ → Expr Part ⊥ → ℕ
  word t e = value u (before t).memories (now t) e

  abbrev history : ℕ → List (ℕ × ℕ)
  history t = taken_in (λ t. (inputs t First, inputs t Second)) (λ t. is_set (inputs t Enable)) t

  -- ---- wires

  all_settled : (t : ℕ) → Solves u (before t).memories (now t) (divider kind stages).wires
      × ((n : Part) → rank stages n < 1 → now t n ≡ given same_part (divider kind stages) (before t) (inputs t) n)
  all_settled t =
      settled_solves Part ⊥ same_part parts_apart (rank stages) u (before t).memories
      (given same_part (divider kind stages) (before t) (inputs t))
      (looked same_part parts_apart (place stages) (divider kind stages).wires)
      1 (divider kind stages).wires (wires_ordered stages kind)
      (made same_part parts_apart (place stages) 3 (160 * (stages + 1) + 4) (divider kind stages).wires (wires_placed stages kind))

  -- a wire has the word of its expression
  abbrev IsSettled : ℕ → Wire Part ⊥ → Type 0
  IsSettled t w = now t w.name ≡ word t w.word

  of_stages : (t : ℕ) → AllByRecursion (IsSettled t) (stage_wires stages 0 (stages + 1))
      × (now t Shown ≡ word t (shown_of kind (stage_cut stages stages)))
  of_stages t =
      let p = both (IsSettled t) (stage_wires stages 0 (stages + 1)) (wire Shown 32 (shown_of kind (stage_cut stages stages)) ∷ [])
      (all_settled t).0 in
      (p.0, p.1.0)

  -- ---- a stage

  abbrev Begins : ℕ → ℕ → ℕ × ℕ → Type 0
  Begins t stage words =
      Holds stages stage words (record { rest = word t (rest_before stage); digits = now t (digits_before stage) })
      (now t (divisor_before stage))

  -- a stage makes its digits
  makes : (t stage : ℕ) (words : ℕ × ℕ) → stage ≤ stages → Begins t stage words
      → held u (before t).memories (now t) (stage_cut stages stage).rest (stage_cut stages stage).digits
      ≡ with_digits (made_before stages (stage + 1)) words.1 (begun words.0)
  makes t stage words few begins =
      stage_divides Part ⊥ u (before t).memories (now t) (Digit stage) words.0 words.1 (made_before stages stage) (made_by stages stage) 0
      (rest_before stage) (Signal (digits_before stage)) (Signal (divisor_before stage)) begins.first begins.second
      (omega (arith, follow stages stage, at_most stages stage few)) begins.divisor begins.division
      (wires_of stages (IsSettled t) 0 (stages + 1) stage (of_stages t).0 (omega arith) (omega (arith, few)))
      ∙ ap (λ (n : ℕ). with_digits n words.1 (begun words.0)) (follow stages stage)

  -- a division that the last stage finishes
  done : (t : ℕ) (words : ℕ × ℕ) → Begins t stages words
      → held u (before t).memories (now t) (stage_cut stages stages).rest (stage_cut stages stages).digits ≡ divided words.0 words.1
  unfolding with_digits
  done t words begins =
      makes t stages words (omega arith) begins ∙ ap (λ (n : ℕ). with_digits n words.1 (begun words.0)) (all_before stages)
      ∙ divides_in_steps words.0 words.1 begins.first 32 0 refl

  -- ---- registers

  -- the registers before a stage hold a division
  abbrev Stands : ℕ → ℕ → ℕ × ℕ → Type 0
  Stands t stage words =
      Holds stages stage words (record { rest = (before t).words (Rest stage); digits = (before t).words (Digits stage) })
      ((before t).words (Divisor stage))

  -- and then the stage begins with it
  begins_with : (t stage : ℕ) (words : ℕ × ℕ) → 0 < stage → Stands t stage words → Begins t stage words
  begins_with t stage words some stands = record {
    first = stands.first;
    second = stands.second;
    division = (λ i. record { rest = rest_is i; digits = digits_is i }) ∙ stands.division;
    divisor = divisor_is ∙ stands.divisor;
  } where
    behind : (stage == 0) ≡ false
    behind = later stage some

    rest_is : word t (rest_before stage) ≡ (before t).words (Rest stage)
    rest_is =
        ap (λ (b : Bool). word t (if b then Const 32 0 else Signal (Rest stage))) behind ∙ (all_settled t).1 (Rest stage) (omega arith)

    digits_is : now t (digits_before stage) ≡ (before t).words (Digits stage)
    digits_is = ap (λ (b : Bool). now t (if b then First else Digits stage)) behind ∙ (all_settled t).1 (Digits stage) (omega arith)

    divisor_is : now t (divisor_before stage) ≡ (before t).words (Divisor stage)
    divisor_is = ap (λ (b : Bool). now t (if b then Second else Divisor stage)) behind ∙ (all_settled t).1 (Divisor stage) (omega arith)

  -- the first stage begins with the inputs
  begins_first : (t : ℕ) → Begins t 0 (inputs t First, inputs t Second)
  unfolding with_digits
  begins_first t = record {
    first = (are t).0;
    second = (are t).1;
    division = (λ i. record { rest = 0; digits = (all_settled t).1 First (omega arith) i })
        ∙ ap (λ (n : ℕ). with_digits n (inputs t Second) (begun (inputs t First))) (sym (none_before stages));
    divisor = (all_settled t).1 Second (omega arith);
  }

  -- what a register has after a clock
  abbrev IsKept : ℕ → Register Part ⊥ → Type 0
  IsKept t r = (before (suc t)).words r.name ≡ (if is_set (word t r.enable) then word t r.next else (before t).words r.name)

  all_kept : (t : ℕ) (rs : List (Register Part ⊥))
      → AllByRecursion (λ x. find (λ r. same_part r.name x.name) (divider kind stages).registers ≡ Some x) rs
      → AllByRecursion (IsKept t) rs
  all_kept t [] all = tt
  all_kept t (r ∷ rs) all = (
    ap (λ (o : Option (Register Part ⊥)). registered same_part u (before t).memories (now t) o ((before t).words r.name)) all.0,
    all_kept t rs all.1,
  )

  -- what the registers behind a stage have, by whether the clock takes words
  record Took (t stage : ℕ) (takes : Bool) : Type 0 where
    rest : (before (suc t)).words (Rest (stage + 1))
        ≡ (if takes then word t (stage_cut stages stage).rest else (before t).words (Rest (stage + 1)))
    digits : (before (suc t)).words (Digits (stage + 1))
        ≡ (if takes then word t (stage_cut stages stage).digits else (before t).words (Digits (stage + 1)))
    divisor : (before (suc t)).words (Divisor (stage + 1))
        ≡ (if takes then now t (divisor_before stage) else (before t).words (Divisor (stage + 1)))

  took : (t stage : ℕ) → stage < stages → Took t stage (is_set (inputs t Enable))
  took t stage few =
      let all = all_kept t (divider kind stages).registers
      (found same_part parts_apart (place stages) (160 * (stages + 1) + 3 * 0 + 7) (160 * (stages + 1) + 3 * (0 + stages) + 7)
      (divider kind stages).registers (registers_rise stages 0 stages)) in
      let of = registers_of stages (IsKept t) 0 stages stage all (omega arith) (omega (arith, few)) in
      subst (λ (n : ℕ). Took t stage (is_set n)) ((all_settled t).1 Enable (omega arith))
      (record { rest = of.0; digits = of.1.0; divisor = of.1.1 })

  -- a clock that takes words passes a division on
  passes : (t stage : ℕ) (words : ℕ × ℕ) → stage < stages → Took t stage true → Begins t stage words → Stands (suc t) (suc stage) words
  passes t stage words few has begins =
      let same : stage + 1 ≡ suc stage = omega arith in
      subst (λ (n : ℕ). Stands (suc t) n words) same (record {
        first = begins.first;
        second = begins.second;
        division = (λ i. record { rest = has.rest i; digits = has.digits i }) ∙ makes t stage words (omega (arith, few)) begins;
        divisor = has.divisor ∙ begins.divisor;
      })

  -- another one leaves it
  stays : (t stage : ℕ) (words : ℕ × ℕ) → Took t stage false → Stands t (suc stage) words → Stands (suc t) (suc stage) words
  stays t stage words has stands =
      let same : suc stage ≡ stage + 1 = omega arith in
      let was = subst (λ (n : ℕ). Stands t n words) same stands in
      subst (λ (n : ℕ). Stands (suc t) n words) (sym same) (record {
        first = was.first;
        second = was.second;
        division = (λ i. record { rest = has.rest i; digits = has.digits i }) ∙ was.division;
        divisor = has.divisor ∙ was.divisor;
      })

  -- ---- all clocks

  -- The registers before a stage hold the division of the words that were taken as many enabled clocks before.
  stand : (t stage : ℕ) (words : ℕ × ℕ) → stage < stages → slice_get (history t) stage ≡ Some words → Stands t (suc stage) words
  stand zero stage words few is = absurd (none-some words is)
  stand (suc t) stage words few is =
      by (is_set (inputs t Enable)) (took t stage few) is
      (λ earlier few is. begins_with t (suc earlier) words (omega arith) (stand t earlier words few is))
      (λ is. stand t stage words few is)
    where
      taken : (stage : ℕ) → stage < stages → Took t stage true
          → slice_get ((inputs t First, inputs t Second) ∷ history t) stage ≡ Some words
          → ((earlier : ℕ) → earlier < stages → slice_get (history t) earlier ≡ Some words → Begins t (suc earlier) words)
          → Stands (suc t) (suc stage) words
      taken zero few has is earlier =
          subst (Stands (suc t) 1) (same_Some (inputs t First, inputs t Second) words is)
          (passes t 0 (inputs t First, inputs t Second) few has (begins_first t))
      taken (suc stage) few has is earlier = passes t (suc stage) words few has (earlier stage (omega (arith, few)) is)

      by : (b : Bool) → Took t stage b
          → slice_get (if b then (inputs t First, inputs t Second) ∷ history t else history t) stage ≡ Some words
          → ((earlier : ℕ) → earlier < stages → slice_get (history t) earlier ≡ Some words → Begins t (suc earlier) words)
          → (slice_get (history t) stage ≡ Some words → Stands t (suc stage) words) → Stands (suc t) (suc stage) words
      by true has is earlier same = taken stage few has is earlier
      by false has is earlier same = stays t stage words has (same is)

  -- the last stage finishes it
  finished : (t : ℕ) (words : ℕ × ℕ) → 0 < stages → slice_get (history t) (stages - 1) ≡ Some words
      → held u (before t).memories (now t) (stage_cut stages stages).rest (stage_cut stages stages).digits ≡ divided words.0 words.1
  finished t words some is =
      let last : suc (stages - 1) ≡ stages = omega (arith, some) in
      let stands = subst (λ (n : ℕ). Stands t n words) last (stand t (stages - 1) words (omega (arith, some)) is) in
      done t words (begins_with t stages words some stands)

-- what is shown of a division that is done
shown : (kind : Kind) (words : ℕ × ℕ) (made : Cut Part ⊥) (u : Units) (ms : ⊥ → List ℕ) (env : Part → ℕ)
    → held u ms env made.rest made.digits ≡ divided words.0 words.1
    → value u ms env (shown_of kind made) ≡ (divide (operation_of kind)).value words.0 words.1
shown Quotient words made u ms env is = ap (λ p. p.digits) is
shown Remainder words made u ms env is = ap (λ p. p.rest) is

pub divider_serves : DividerServes
divider_serves u kind stages h inputs some are t words is =
    (of_stages u kind stages h inputs are t).1
    ∙ shown kind words (stage_cut stages stages) u _ _ (finished u kind stages h inputs are t words some is)

pub divides_at_once : DividesAtOnce
divides_at_once u kind h inputs are t =
    (of_stages u kind 0 h inputs are t).1
    ∙ shown kind (inputs t First, inputs t Second) (stage_cut 0 0) u _ _
    (done u kind 0 h inputs are t (inputs t First, inputs t Second) (begins_first u kind 0 h inputs are t))
