-- The registers of a circuit that tells the first fault, found by name.
use Rattle.std.proofs.Common.{◌≡◌, ℕ, Bool, true, false, ◌||◌, List, [], ◌∷◌, ◌++◌, length, map, slice_get, Option, Some, None, refl, sym, ap, ◌∙◌, arith}
use Rattle.std.specs.Prelude.{if◌then◌else◌, nat_lt}
use Rattle.std.specs.Option.{option_map_or}
use Rattle.std.specs.List.{find, list_any, flat_map, enumerate_from, AllByRecursion}
use Rattle.std.proofs.lemmas.Bool.{or_left, or_right, false≢true, ltb-true}
use Rattle.tta_arch.specs.declared.parts.File.{File}
use Rattle.tta_arch.specs.declared.parts.ImmUnit.{ImmUnit}
use Rattle.tta_arch.specs.Effects.{same_place}
use Rattle.tta_image.proofs.Places.{any_left, any_right, any_pieces, any_numbered}
use Rattle.tta_trap.specs.Cited.{Machine, IsMachine, Place, KeptReg, KeptImm, KeptOperand, KeptRa, KeptPort, numbers, Register, Store, Watch, HasWord, IsPast, Watches, same_signal, register, register_names, has_place}
use Rattle.tta_hardware.specs.Signals.{Signal as Named}
use Rattle.tta_hardware.proofs.Bringing.{within_list}
use Rattle.tta_hardware.proofs.Named.{signal_is, signal_itself}
use Rattle.tta_hardware.proofs.Members.{any_made}
use Rattle.tta_hardware.proofs.WiresFit.{all_map}
use Rattle.tta_hardware.proofs.RegistersFit.{weaker}
use Rattle.tta_hardware.proofs.There.{is_there, registers_there}
use Rattle.tta_trap.specs.Memory.{watch_register, watch_registers, places}
use Rattle.tta_trap.proofs.Listed.{in_numbers}

-- ---- lists

-- one of two lists that is in the first
found_left : {A : Type 0} (p : A → Bool) (xs ys : List A) (x : A) → find p xs ≡ Some x → find p (xs ++ ys) ≡ Some x
found_left p [] ys x is = absurd (false≢true (ap (λ o. option_map_or (λ y. true) o false) is))
found_left p (y ∷ xs) ys x is = by (p y) is (found_left p xs ys x) where
  by : (b : Bool) → (if b then Some y else find p xs) ≡ Some x → (find p xs ≡ Some x → find p (xs ++ ys) ≡ Some x)
      → (if b then Some y else find p (xs ++ ys)) ≡ Some x
  by true is rest = is
  by false is rest = rest is

-- one that is in the second alone
found_right : {A : Type 0} (p : A → Bool) (xs ys : List A) → AllByRecursion (λ x. p x ≡ false) xs → find p (xs ++ ys) ≡ find p ys
found_right p [] ys none = refl
found_right p (y ∷ xs) ys none = ap (λ b. if b then Some y else find p (xs ++ ys)) none.0 ∙ found_right p xs ys none.1

-- one of those that are made of another list
found_made : {A B : Type 0} (p : A → Bool) (make : B → A) (xs : List B) (x : B) → ((y : B) → p (make y) ≡ true → make y ≡ make x)
    → list_any (λ y. p (make y)) xs ≡ true → find p (map make xs) ≡ Some (make x)
found_made p make [] x is any = absurd (false≢true any)
found_made p make (y ∷ xs) x is any = by (p (make y)) refl any (found_made p make xs x is) where
  by : (b : Bool) → p (make y) ≡ b → (b || list_any (λ y. p (make y)) xs) ≡ true
      → (list_any (λ y. p (make y)) xs ≡ true → find p (map make xs) ≡ Some (make x))
      → (if b then Some (make y) else find p (map make xs)) ≡ Some (make x)
  by true here any rest = ap (λ z. Some z) (is y here)
  by false here any rest = rest any

any_other : {A : Type 0} (p q : A → Bool) (xs : List A) → ((x : A) → p x ≡ true → q x ≡ true) → list_any p xs ≡ true → list_any q xs ≡ true
any_other p q [] more any = any
any_other p q (x ∷ xs) more any = by (p x) refl any (any_other p q xs more) where
  by : (b : Bool) → p x ≡ b → (b || list_any p xs) ≡ true → (list_any p xs ≡ true → list_any q xs ≡ true)
      → (q x || list_any q xs) ≡ true
  by true is any rest = or_left (q x) (list_any q xs) (more x is)
  by false is any rest = or_right (q x) (list_any q xs) (rest any)

module _ (m : Machine) where
  -- ---- places

  abbrev files : List Place
  files = flat_map (λ f. map (KeptReg f.0) (numbers f.1.size)) (enumerate_from 0 m.files)

  abbrev imms : List Place
  imms = flat_map (λ i. map (KeptImm i.0) (numbers i.1.size)) (enumerate_from 0 m.imms)

  abbrev unit_places : ℕ → List Place
  unit_places unit = KeptOperand unit ∷ KeptPort unit ∷ []

  abbrev ports : List Place
  ports = flat_map unit_places (numbers (length m.units))

  -- a place that a machine has is among its places
  place_in : (p : Place) (q : Place → Bool) → has_place m p ≡ true → q p ≡ true → list_any q (places m) ≡ true
  place_in (KeptReg file index) q has is = by (slice_get m.files file) refl has where
    by : (o : Option File) → slice_get m.files file ≡ o → option_map_or (λ f. nat_lt index f.size) o false ≡ true
        → list_any q (places m) ≡ true
    by None at has = absurd (false≢true has)
    by (Some f) at has =
        any_left q (files ++ imms ++ ports) (KeptRa ∷ []) (any_left q (files ++ imms) ports (any_left q files imms
        (any_pieces q (λ f. map (KeptReg f.0) (numbers f.1.size)) m.files 0 file file f (omega arith) at
        (any_numbered q (KeptReg file) 0 f.size index index (omega arith) (ltb-true index f.size has) is))))
  place_in (KeptImm unit index) q has is = by (slice_get m.imms unit) refl has where
    by : (o : Option ImmUnit) → slice_get m.imms unit ≡ o → option_map_or (λ f. nat_lt index f.size) o false ≡ true
        → list_any q (places m) ≡ true
    by None at has = absurd (false≢true has)
    by (Some f) at has =
        any_left q (files ++ imms ++ ports) (KeptRa ∷ []) (any_left q (files ++ imms) ports (any_right q files imms
        (any_pieces q (λ f. map (KeptImm f.0) (numbers f.1.size)) m.imms 0 unit unit f (omega arith) at
        (any_numbered q (KeptImm unit) 0 f.size index index (omega arith) (ltb-true index f.size has) is))))
  place_in (KeptOperand unit) q has is =
      any_left q (files ++ imms ++ ports) (KeptRa ∷ []) (any_right q (files ++ imms) ports
      (in_numbers q unit_places 0 (length m.units) unit unit (omega arith) (within_list m.units unit has)
      (or_left (q (KeptOperand unit)) (list_any q (KeptPort unit ∷ [])) is)))
  place_in (KeptPort unit) q has is =
      any_left q (files ++ imms ++ ports) (KeptRa ∷ []) (any_right q (files ++ imms) ports
      (in_numbers q unit_places 0 (length m.units) unit unit (omega arith) (within_list m.units unit has)
      (or_right (q (KeptOperand unit)) (list_any q (KeptPort unit ∷ [])) (or_left (q (KeptPort unit)) false is))))
  place_in KeptRa q has is = any_right q (files ++ imms ++ ports) (KeptRa ∷ []) (or_left (q KeptRa) false is)

  pub word_in : (p : Place) → has_place m p ≡ true
      → list_any (λ w. same_signal (Watches w) (Watches (HasWord p))) (watch_registers m) ≡ true
  word_in p has =
      any_left (λ w. same_signal (Watches w) (Watches (HasWord p))) (map HasWord (places m)) (IsPast ∷ [])
      (any_made (λ w. same_signal (Watches w) (Watches (HasWord p))) (λ q. same_place q p) HasWord (places m) (λ q is. is)
      (place_in p (λ q. same_place q p) has (signal_itself (Watches (HasWord p)))))

  pub past_in : list_any (λ w. same_signal (Watches w) (Watches IsPast)) (watch_registers m) ≡ true
  past_in = any_right (λ w. same_signal (Watches w) (Watches IsPast)) (map HasWord (places m)) (IsPast ∷ []) refl

  -- ---- registers

  abbrev pub plain : List (Register Named Store)
  plain = map (register m) (register_names m)

  abbrev pub watching : List (Register Named Store)
  watching = map (watch_register m) (watch_registers m)

  turned : (n k : Named) → same_signal n k ≡ true → same_signal k n ≡ true
  turned n k is = ap (λ (x : Named). same_signal x n) (sym (signal_is n k is)) ∙ signal_itself n

  -- a register that a circuit without a watch has
  pub register_at : (n : Named) → list_any (same_signal n) (register_names m) ≡ true
      → find (λ r. same_signal r.name n) (plain ++ watching) ≡ Some (register m n)
  register_at n any =
      found_left (λ r. same_signal r.name n) plain watching (register m n)
      (found_made (λ r. same_signal r.name n) (register m) (register_names m) n (λ k is. ap (register m) (signal_is k n is))
      (any_other (same_signal n) (λ k. same_signal k n) (register_names m) (turned n) any))

  -- one that only the watch has
  pub watch_at : IsMachine m → (w : Watch) → list_any (λ v. same_signal (Watches v) (Watches w)) (watch_registers m) ≡ true
      → find (λ r. same_signal r.name (Watches w)) (plain ++ watching) ≡ Some (watch_register m w)
  watch_at rules w any =
      found_right (λ r. same_signal r.name (Watches w)) plain watching none
      ∙ found_made (λ r. same_signal r.name (Watches w)) (watch_register m) (watch_registers m) w
      (λ v is. ap (λ n. watch_register m (watch_of n)) (signal_is (Watches v) (Watches w) is)) any
    where
      watch_of : Named → Watch
      watch_of (Watches v) = v
      watch_of n = IsPast

      other : (n : Named) → is_there m n ≡ true → same_signal n (Watches w) ≡ false
      other (Watches v) is = absurd (false≢true is)
      other n is = refl

      none : AllByRecursion (λ r. same_signal r.name (Watches w) ≡ false) plain
      none =
          all_map (λ r. same_signal r.name (Watches w) ≡ false) (register m) (register_names m)
          (weaker (λ n. is_there m n ≡ true) (λ n. same_signal n (Watches w) ≡ false) (register_names m) other (registers_there m rules))
