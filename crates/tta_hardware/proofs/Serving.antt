-- The operation of a kind that starts, in the circuit and in the cycle.
use Rattle.std.proofs.Common.{◌≡◌, ℕ, zero, suc, ◌+◌, ◌<◌, ◌==◌, Bool, true, false, ◌||◌, List, [], ◌∷◌, ◌++◌, length, map, filter, slice_get, Option, Some, None, refl, sym, ap, ◌∙◌, subst, arith}
use Rattle.std.specs.Prelude.{is_some, if◌then◌else◌, option_and_then}
use Rattle.std.specs.Option.{option_map_or}
use Rattle.std.specs.List.{find, list_any, flat_map, enumerate_from, AllByRecursion}
use Rattle.std.proofs.lemmas.Option.{none-some, same_Some}
use Rattle.std.proofs.lemmas.Bool.{or_left, or_right, false≢true, eq-eqb, eqb-true}
use Rattle.tta_hardware.specs.Cited.{Units, Op, UnitOp, Machine, are_different, has_one_owner, Start, op_at, lacks_operand, Instruction, State, read_source, is_set, value}
use Rattle.tta_arch.specs.declared.parts.Unit.{Unit as OpUnit}
use Rattle.tta_image.proofs.Places.{any_pieces}
use Rattle.tta_circuit.specs.Circuit.{Signal as OfSignal}
use Rattle.tta_hardware.specs.Signals.{Signal as Named, Starts, Expression}
use Rattle.tta_hardware.specs.Wires.{all_ops, some_start, word_of_start, nothing}
use Rattle.tta_hardware.specs.Stands.{Hardware, Starting, StartsOne, start_in}
use Rattle.tta_hardware.specs.Laws.{Meet, brought, written_after, started_in}
use Rattle.tta_hardware.proofs.Chained.{any_found, first_found}
use Rattle.tta_hardware.proofs.Bringing.{within_list}
use Rattle.tta_hardware.proofs.Starting.{find_passes}
use Rattle.tta_hardware.proofs.Started.{starts_moved, starting}
use Rattle.tta_hardware.proofs.Apart.{starts_differ}
use Rattle.tta_hardware.proofs.Single.{IsOffered, all_offered, found_all, first_of_unit, same_unit}

-- ---- lists

all_both : {A : Type 0} (P : A → Type 0) (xs ys : List A) → AllByRecursion P xs → AllByRecursion P ys → AllByRecursion P (xs ++ ys)
all_both P [] ys first second = second
all_both P (x ∷ xs) ys first second = (first.0, all_both P xs ys first.1 second)

-- nothing that passes is found beside nothing
missing : {A : Type 0} (p q : A → Bool) (xs : List A) (x : A) → find p xs ≡ None → find q xs ≡ Some x → p x ≡ true → true ≡ false
missing p q [] x none some pass = absurd (none-some x some)
missing p q (y ∷ xs) x none some pass = by (p y) refl (q y) none some (λ a b. missing p q xs x a b pass) where
  by : (b : Bool) → p y ≡ b → (c : Bool) → (if b then Some y else find p xs) ≡ None → (if c then Some y else find q xs) ≡ Some x
      → (find p xs ≡ None → find q xs ≡ Some x → true ≡ false) → true ≡ false
  by true is c none some rest = absurd (none-some y (sym none))
  by false is true none some rest = sym (ap p (same_Some y x some) ∙ pass) ∙ is
  by false is false none some rest = rest none some

some_if_any : {A : Type 0} (p : A → Bool) (xs : List A) → list_any p xs ≡ true → is_some (find p xs) ≡ true
some_if_any p [] any = absurd (false≢true any)
some_if_any p (x ∷ xs) any = by (p x) any (some_if_any p xs) where
  by : (b : Bool) → (b || list_any p xs) ≡ true → (list_any p xs ≡ true → is_some (find p xs) ≡ true)
      → is_some (if b then Some x else find p xs) ≡ true
  by true any rest = refl
  by false any rest = rest any

-- ---- the operations of a kind

-- an operation of a unit that is of the kind
record IsListed (m : Machine) (kind : Op → Bool) (p : ℕ × ℕ) : Type 0 where
  does : UnitOp
  there : op_at m p.0 p.1 ≡ Some does
  is : kind does.op ≡ true

module _ (m : Machine) (kind : Op → Bool) where
  abbrev ops_in : ℕ × OpUnit → List (ℕ × ℕ)
  ops_in u = map (λ o. (u.0, o.0)) (filter (λ o. kind o.1.op) (enumerate_from 0 u.1.ops))

  unit_listed : (unit : ℕ) (ops : List UnitOp) (j : ℕ) → ((k : ℕ) (o : UnitOp) → slice_get ops k ≡ Some o → op_at m unit (j + k) ≡ Some o)
      → AllByRecursion (IsListed m kind) (map (λ o. (unit, o.0)) (filter (λ o. kind o.1.op) (enumerate_from j ops)))
  unit_listed unit [] j at = tt
  unit_listed unit (o ∷ ops) j at =
      by (kind o.op) refl
      (unit_listed unit ops (j + 1) (λ k x is. let e : j + 1 + k ≡ j + suc k = omega arith in ap (op_at m unit) e ∙ at (suc k) x is))
    where
      by : (b : Bool) → kind o.op ≡ b
          → AllByRecursion (IsListed m kind) (map (λ o. (unit, o.0)) (filter (λ o. kind o.1.op) (enumerate_from (j + 1) ops)))
          → AllByRecursion (IsListed m kind)
          (map (λ o. (unit, o.0)) (if b then (j, o) ∷ filter (λ o. kind o.1.op) (enumerate_from (j + 1) ops)
          else filter (λ o. kind o.1.op) (enumerate_from (j + 1) ops)))
      by true is rest = let e : j ≡ j + 0 = omega arith in (record { does = o; there = ap (op_at m unit) e ∙ at 0 o refl; is = is }, rest)
      by false is rest = rest

  all_listed : (us : List OpUnit) (j : ℕ) → ((k : ℕ) (x : OpUnit) → slice_get us k ≡ Some x → slice_get m.units (j + k) ≡ Some x)
      → AllByRecursion (IsListed m kind) (flat_map ops_in (enumerate_from j us))
  all_listed [] j at = tt
  all_listed (x ∷ us) j at =
      all_both (IsListed m kind) (ops_in (j, x)) (flat_map ops_in (enumerate_from (j + 1) us))
      (unit_listed j x.ops 0 (λ k o is.
      let e : j ≡ j + 0 = omega arith in let z : 0 + k ≡ k = omega arith in
      ap (option_and_then (λ q. slice_get q.ops (0 + k))) (ap (slice_get m.units) e ∙ at 0 x refl) ∙ ap (slice_get x.ops) z ∙ is))
      (all_listed us (j + 1) (λ k y is. let e : j + 1 + k ≡ j + suc k = omega arith in ap (slice_get m.units) e ∙ at (suc k) y is))

  any_op : (Q : ℕ × ℕ → Bool) (unit : ℕ) (ops : List UnitOp) (j k op : ℕ) (d : UnitOp) → j + k ≡ op → slice_get ops k ≡ Some d
      → kind d.op ≡ true → Q (unit, op) ≡ true
      → list_any Q (map (λ o. (unit, o.0)) (filter (λ o. kind o.1.op) (enumerate_from j ops))) ≡ true
  any_op Q unit [] j k op d e at is pass = absurd (none-some d at)
  any_op Q unit (o ∷ ops) j zero op d e at is pass = by (kind o.op) refl where
    by : (b : Bool) → kind o.op ≡ b
        → list_any Q
        (map (λ o. (unit, o.0)) (if b then (j, o) ∷ filter (λ o. kind o.1.op) (enumerate_from (j + 1) ops)
        else filter (λ o. kind o.1.op) (enumerate_from (j + 1) ops))) ≡ true
    by true it =
        let same : j ≡ op = omega (arith, e) in
        or_left (Q (unit, j)) (list_any Q (map (λ o. (unit, o.0)) (filter (λ o. kind o.1.op) (enumerate_from (j + 1) ops))))
        (ap (λ n. Q (unit, n)) same ∙ pass)
    by false it = absurd (false≢true (sym it ∙ ap (λ (x : UnitOp). kind x.op) (same_Some o d at) ∙ is))
  any_op Q unit (o ∷ ops) j (suc k) op d e at is pass =
      by (kind o.op) (any_op Q unit ops (j + 1) k op d (omega (arith, e)) at is pass) where
        by : (b : Bool) → list_any Q (map (λ o. (unit, o.0)) (filter (λ o. kind o.1.op) (enumerate_from (j + 1) ops))) ≡ true
            → list_any Q
            (map (λ o. (unit, o.0)) (if b then (j, o) ∷ filter (λ o. kind o.1.op) (enumerate_from (j + 1) ops)
            else filter (λ o. kind o.1.op) (enumerate_from (j + 1) ops))) ≡ true
        by true rest = or_right (Q (unit, j)) (list_any Q (map (λ o. (unit, o.0)) (filter (λ o. kind o.1.op) (enumerate_from (j + 1) ops))))
            rest
        by false rest = rest

  any_listed : (Q : ℕ × ℕ → Bool) (unit op : ℕ) (d : UnitOp) → op_at m unit op ≡ Some d → kind d.op ≡ true → Q (unit, op) ≡ true
      → list_any Q (all_ops m kind) ≡ true
  any_listed Q unit op d at is pass = by (slice_get m.units unit) refl at where
    by : (o : Option OpUnit) → slice_get m.units unit ≡ o → option_and_then (λ x. slice_get x.ops op) o ≡ Some d
        → list_any Q (all_ops m kind) ≡ true
    by None there at = absurd (none-some d at)
    by (Some x) there at = any_pieces Q ops_in m.units 0 unit unit x (omega arith) there
        (any_op Q unit x.ops 0 op op d (omega arith) at is pass)

-- ---- which of them starts

module _ (u : Units) (m : Machine) (h : Hardware) (env : Named → ℕ) (s : State) (i : Instruction) (meet : Meet u m h env s i)
    (lacks : list_any lacks_operand (started_in m s i) ≡ false) where
  pub apart : are_different (λ a b. a.unit == b.unit) (started_in m s i) ≡ true
  apart = ap (are_different (λ a b. a.unit == b.unit)) (starts_moved u m h env s i meet)
      ∙ starts_differ m (read_source s) (written_after m s i) i meet.legal

  pub offered : AllByRecursion (IsOffered m) (started_in m s i)
  offered = all_offered m (written_after m s i) (brought m s i)

  module _ (kind : Op → Bool) (one : has_one_owner kind m.units ≡ true) where
    -- the operation of the kind that the cycle starts
    abbrev pub of_cycle : Option Start
    of_cycle = find (λ t. kind t.does.op) (started_in m s i)

    -- and the circuit
    abbrev of_circuit : Option (ℕ × ℕ)
    of_circuit = find (λ o. is_set (env (Starts o.0 o.1))) (all_ops m kind)

    -- one that starts in the circuit starts in the cycle
    there_too : (p : ℕ × ℕ) → of_circuit ≡ Some p → (t : Start) × ((start_in p.0 (started_in m s i) ≡ Some t) × (kind t.does.op ≡ true))
    there_too p is = by (start_in p.0 (started_in m s i)) refl (starting u m h env s i meet p.0 inside lacks) where
      listed : IsListed m kind p
      listed = found_all (IsListed m kind) (λ o. is_set (env (Starts o.0 o.1))) (all_ops m kind) p is
          (all_listed m kind m.units 0 (λ k x at. let z : 0 + k ≡ k = omega arith in ap (slice_get m.units) z ∙ at))

      is_on : is_set (env (Starts p.0 p.1)) ≡ true
      is_on = find_passes (λ o. is_set (env (Starts o.0 o.1))) (all_ops m kind) p is

      has_unit : (o : Option OpUnit) → option_and_then (λ x. slice_get x.ops p.1) o ≡ Some listed.does → is_some o ≡ true
      has_unit None at = absurd (none-some listed.does at)
      has_unit (Some x) at = refl

      inside : p.0 < length m.units
      inside = within_list m.units p.0 (has_unit (slice_get m.units p.0) listed.there)

      by : (o : Option Start) → start_in p.0 (started_in m s i) ≡ o → Starting m env p.0 o
          → (t : Start) × ((start_in p.0 (started_in m s i) ≡ Some t) × (kind t.does.op ≡ true))
      by None at none = absurd (false≢true (sym (none p.1 listed.does listed.there) ∙ is_on))
      by (Some t) at one_start =
          let same : p.1 ≡ one_start.op = eqb-true p.1 one_start.op (sym (one_start.one p.1 listed.does listed.there) ∙ is_on) in
          let does : listed.does ≡ t.does = same_Some listed.does t.does (sym listed.there ∙ ap (op_at m p.0) same ∙ one_start.there) in
          (t, (at, ap (λ (o : UnitOp). kind o.op) (sym does) ∙ listed.is))

    -- what is known of the one that starts, if one does
    pub serves : (t : Start) → of_cycle ≡ Some t → StartsOne m env t.unit t
    serves t is =
        subst (Starting m env t.unit) (first_of_unit (λ t. kind t.does.op) (started_in m s i) t apart is)
        (starting u m h env s i meet t.unit inside lacks)
      where
        its : IsOffered m t
        its = found_all (IsOffered m) (λ t. kind t.does.op) (started_in m s i) t is offered

        has_unit : (o : Option OpUnit) → option_and_then (λ x. slice_get x.ops its.op) o ≡ Some t.does → is_some o ≡ true
        has_unit None at = absurd (none-some t.does at)
        has_unit (Some x) at = refl

        inside : t.unit < length m.units
        inside = within_list m.units t.unit (has_unit (slice_get m.units t.unit) its.there)

    -- the circuit finds none where the cycle has none, and else that one's unit
    none_found : of_cycle ≡ None → of_circuit ≡ None
    none_found none = by of_circuit refl where
      by : (o : Option (ℕ × ℕ)) → of_circuit ≡ o → o ≡ None
      by None is = refl
      by (Some p) is =
          let t = there_too p is in
          absurd (false≢true (sym (missing (λ t. kind t.does.op) (λ t. t.unit == p.0) (started_in m s i) t.0 none t.1.0 t.1.1)))

    unit_found : (t : Start) → of_cycle ≡ Some t → (p : ℕ × ℕ) × ((of_circuit ≡ Some p) × (p.0 ≡ t.unit))
    unit_found t is = by of_circuit refl some where
      one_start : StartsOne m env t.unit t
      one_start = serves t is

      is_on : is_set (env (Starts t.unit one_start.op)) ≡ true
      is_on = one_start.one one_start.op t.does one_start.there ∙ eq-eqb one_start.op one_start.op refl

      its_kind : kind t.does.op ≡ true
      its_kind = find_passes (λ t. kind t.does.op) (started_in m s i) t is

      some : is_some of_circuit ≡ true
      some = some_if_any (λ o. is_set (env (Starts o.0 o.1))) (all_ops m kind)
          (any_listed m kind (λ o. is_set (env (Starts o.0 o.1))) t.unit one_start.op t.does one_start.there its_kind is_on)

      its : IsOffered m t
      its = found_all (IsOffered m) (λ t. kind t.does.op) (started_in m s i) t is offered

      by : (o : Option (ℕ × ℕ)) → of_circuit ≡ o → is_some o ≡ true → (p : ℕ × ℕ) × ((of_circuit ≡ Some p) × (p.0 ≡ t.unit))
      by None at none = absurd (false≢true none)
      by (Some p) at some =
          let other = there_too p at in
          let that = found_all (IsOffered m) (λ t. t.unit == p.0) (started_in m s i) other.0 other.1.0 offered in
          let unit : other.0.unit ≡ p.0 =
          eqb-true other.0.unit p.0 (find_passes (λ t. t.unit == p.0) (started_in m s i) other.0 other.1.0) in
          (p, (at, sym unit ∙ same_unit m kind one other.0 t that its other.1.1 its_kind))

    -- whether one starts
    pub some_starts : is_set (value u h.memories env (some_start m kind)) ≡ is_some of_cycle
    some_starts = any_found u h.memories env (λ (o : ℕ × ℕ). OfSignal (Starts o.0 o.1)) (all_ops m kind) ∙ by of_cycle refl where
      by : (o : Option Start) → of_cycle ≡ o → is_some of_circuit ≡ is_some o
      by None is = ap is_some (none_found is)
      by (Some t) is = ap is_some (unit_found t is).1.0

    -- a word of its unit
    pub word_starts : (word : ℕ → Expression) (t : Start) → of_cycle ≡ Some t → value u h.memories env (word_of_start m kind word)
        ≡ value u h.memories env (word t.unit)
    word_starts word t is =
        let p = unit_found t is in
        first_found u h.memories env (λ (o : ℕ × ℕ). OfSignal (Starts o.0 o.1)) (λ o. word o.0) (all_ops m kind) nothing
        ∙ ap (λ o. option_map_or (λ (x : ℕ × ℕ). value u h.memories env (word x.0)) o 0) p.1.0
        ∙ ap (λ n. value u h.memories env (word n)) p.1.1
