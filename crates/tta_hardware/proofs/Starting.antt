-- What the circuit starts in a unit.
use Rattle.std.proofs.Common.{◌≡◌, ℕ, zero, suc, ◌+◌, ◌<◌, ◌≤◌, ◌==◌, Bool, true, false, ◌&&◌, List, [], ◌∷◌, Option, Some, None, refl, sym, ap, ◌∙◌, arith}
use Rattle.std.specs.Prelude.{is_some, if◌then◌else◌, option_and_then}
use Rattle.std.specs.Option.{option_map_or}
use Rattle.std.specs.List.{find, filter_map, cons_option, range_with_len}
use Rattle.std.proofs.lemmas.Option.{none-some, same_Some}
use Rattle.std.proofs.lemmas.Bool.{false≢true, eqb-true}
use Rattle.tta_hardware.specs.Cited.{UnitOp, Dest, Machine, Written, Brought, Start, target_of, start_of, op_at, operand_of, Move, Instruction, is_set}
use Rattle.tta_arch.specs.declared.ends.Dest.TheVariants as dest
use Rattle.tta_hardware.specs.Signals.{Signal as Named, Word, Acts}
use Rattle.tta_hardware.specs.Fields.{slot_at}
use Rattle.tta_hardware.specs.Stands.{start_in}
use Rattle.tta_hardware.specs.Laws.{carried}

-- ---- what is found

-- nothing is found where nothing passes
pub find_none : {A : Type 0} (q : A → Bool) (xs : List A) → ((x : A) → q x ≡ false) → find q xs ≡ None
find_none q [] none = refl
find_none q (x ∷ xs) none = ap (λ b. if b then Some x else find q xs) (none x) ∙ find_none q xs none

-- a number that passes is found among those from one on, where every other that passes is it
pub find_only : (q : ℕ → Bool) (a n k : ℕ) → a ≤ k → k < a + n → q k ≡ true → ((j : ℕ) → q j ≡ true → j ≡ k) → find q (range_with_len a n)
    ≡ Some k
find_only q a zero k least below pass only = absurd (omega (arith, least, below))
find_only q a (suc n) k least below pass only = by (q a) refl (λ more. find_only q (a + 1) n k more (omega (arith, below)) pass only) where
  past : (b : Bool) → q a ≡ b → b ≡ false → a + 1 ≤ k
  past b is off = beyond a k (a == k) refl where
    beyond : (x y : ℕ) → (c : Bool) → (a == k) ≡ c → a + 1 ≤ k
    beyond x y true same = absurd (false≢true (sym off ∙ sym is ∙ ap q (eqb-true a k same) ∙ pass))
    beyond x y false other = grind (arith, other, least)

  by : (b : Bool) → q a ≡ b → (a + 1 ≤ k → find q (range_with_len (a + 1) n) ≡ Some k)
      → (if b then Some a else find q (range_with_len (a + 1) n)) ≡ Some k
  by true is rest = ap (λ x. Some x) (only a is)
  by false is rest = rest (past false is refl)

-- what is found passes
pub find_passes : {A : Type 0} (q : A → Bool) (xs : List A) (x : A) → find q xs ≡ Some x → q x ≡ true
find_passes q [] x is = absurd (none-some x is)
find_passes q (y ∷ xs) x is = by (q y) refl is (find_passes q xs x) where
  by : (b : Bool) → q y ≡ b → (if b then Some y else find q xs) ≡ Some x → (find q xs ≡ Some x → q x ≡ true) → q x ≡ true
  by true pass it rest = ap q (sym (same_Some y x it)) ∙ pass
  by false pass it rest = rest it

-- where nothing passes a test, nothing passes one that asks for more
pub find_weaker : {A : Type 0} (p q : A → Bool) (xs : List A) → ((x : A) → q x ≡ true → p x ≡ true) → find p xs ≡ None → find q xs ≡ None
find_weaker p q [] more is = refl
find_weaker p q (x ∷ xs) more is = by (p x) refl (q x) refl is (find_weaker p q xs more) where
  by : (b : Bool) → p x ≡ b → (c : Bool) → q x ≡ c → (if b then Some x else find p xs) ≡ None → (find p xs ≡ None → find q xs ≡ None)
      → (if c then Some x else find q xs) ≡ None
  by true pass c pass' it rest = absurd (none-some x (sym it))
  by false pass true pass' it rest = absurd (false≢true (sym pass ∙ more x pass'))
  by false pass false pass' it rest = rest it

-- what is found among numbers is one of them
pub find_within : (q : ℕ → Bool) (a n k : ℕ) → find q (range_with_len a n) ≡ Some k → (a ≤ k) × (k < a + n)
find_within q a zero k is = absurd (none-some k is)
find_within q a (suc n) k is = by (q a) is (find_within q (a + 1) n k) where
  by : (b : Bool) → (if b then Some a else find q (range_with_len (a + 1) n)) ≡ Some k
      → (find q (range_with_len (a + 1) n) ≡ Some k → (a + 1 ≤ k) × (k < a + 1 + n)) → (a ≤ k) × (k < a + suc n)
  by true it rest = let same : a ≡ k = same_Some a k it in (omega (arith, same), omega (arith, same))
  by false it rest = let r = rest it in (omega (arith, r.0), omega (arith, r.1))

-- ---- a unit's trigger

-- whether a destination is the trigger port of a unit
abbrev pub is_trigger : ℕ → Dest → Bool
is_trigger unit (dest.Reg file index) = false
is_trigger unit (dest.Operand q) = false
is_trigger unit (dest.Trigger q op) = q == unit
is_trigger unit dest.Jump = false
is_trigger unit dest.Call = false
is_trigger unit dest.Halt = false

module _ (m : Machine) (env : Named → ℕ) (i : Instruction) (written : Written) (unit : ℕ) where
  -- the operation that a word starts where it is brought to a trigger port
  abbrev pub start_with : Dest → (word : ℕ) → Option Start
  start_with d word = start_of m written (target_of d, word)

  -- whether a bus goes to the unit's trigger
  abbrev pub triggers : ℕ → Bool
  triggers bus = option_map_or (λ v. is_set (env (Acts bus)) && is_trigger unit v.dst) (slot_at i bus) false

  -- what it starts
  abbrev pub from_bus : ℕ → Option Start
  from_bus bus = option_and_then (λ v. start_with v.dst (env (Word bus))) (slot_at i bus)

  -- whether a destination's operation is there
  abbrev pub has_op : Dest → Type 0
  has_op (dest.Trigger q op) = is_some (op_at m q op) ≡ true
  has_op d = true ≡ true

  into : (d : Dest) (word : ℕ) (rest : List Start) → has_op d
      → start_in unit (cons_option (start_with d word) rest) ≡ (if is_trigger unit d then start_with d word else start_in unit rest)
  into (dest.Reg file index) word rest has = refl
  into (dest.Operand q) word rest has = refl
  into (dest.Trigger q op) word rest has = by (op_at m q op) has where
    by : (o : Option UnitOp) → is_some o ≡ true
        → start_in unit
        (cons_option (option_map_or (λ o. Some (record { unit = q; does = o; operand = operand_of written q o; word = word })) o None) rest)
        ≡ (if q == unit then option_map_or (λ o. Some (record { unit = q; does = o; operand = operand_of written q o; word = word })) o
        None else start_in unit rest)
    by None some = absurd (false≢true some)
    by (Some o) some = refl
  into dest.Jump word rest has = refl
  into dest.Call word rest has = refl
  into dest.Halt word rest has = refl

  step : (b : ℕ) (o : Option Move) (a : Bool) (rest : List Brought) (found : Option ℕ) (whole : Option Start)
      → ((v : Move) → o ≡ Some v → has_op v.dst)
      → ((v : Move) → o ≡ Some v → whole ≡ start_with v.dst (env (Word b)))
      → start_in unit (filter_map (start_of m written) rest) ≡ option_and_then from_bus found → from_bus b ≡ whole
      → start_in unit
      (filter_map (start_of m written)
      (cons_option (option_and_then (λ v. if a then Some (target_of v.dst, env (Word b)) else None) o) rest))
      ≡ option_and_then from_bus (if option_map_or (λ v. a && is_trigger unit v.dst) o false then Some b else found)
  step b None a rest found whole has at is from = is
  step b (Some v) false rest found whole has at is from = is
  step b (Some v) true rest found whole has at is from =
      into v.dst (env (Word b)) (filter_map (start_of m written) rest) (has v refl) ∙ by (is_trigger unit v.dst)
    where
      by : (c : Bool) → (if c then start_with v.dst (env (Word b)) else start_in unit (filter_map (start_of m written) rest))
          ≡ option_and_then from_bus (if c then Some b else found)
      by true = sym (at v refl) ∙ sym from
      by false = is

  -- the first bus that goes to the trigger starts its operation
  pub started_by : ((bus : ℕ) (v : Move) → slot_at i bus ≡ Some v → has_op v.dst) → (ns : List ℕ)
      → start_in unit (filter_map (start_of m written) (filter_map (carried env i) ns)) ≡ option_and_then from_bus (find triggers ns)
  started_by has [] = refl
  started_by has (b ∷ ns) =
      step b (slot_at i b) (is_set (env (Acts b))) (filter_map (carried env i) ns) (find triggers ns) (from_bus b) (has b)
      (λ v at. ap (λ o. option_and_then (λ (v : Move). start_with v.dst (env (Word b))) o) at) (started_by has ns) refl
