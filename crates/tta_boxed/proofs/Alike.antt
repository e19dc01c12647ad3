-- Two circuits whose words are the same but for what is beside: their expressions, wires and memories that read nothing else.
use Rattle.std.proofs.Common.{◌≡◌, ℕ, ◌<◌, Bool, true, false, List, [], ◌∷◌, Option, Some, None, refl, ap, ◌∙◌, arith}
use Rattle.std.specs.Prelude.{if◌then◌else◌, slice_index, slice_set}
use Rattle.std.specs.List.{find, AllByRecursion}
use Rattle.tta_ops.specs.Units.{Units}
use Rattle.tta_circuit.specs.Circuit.{Wire, WritePort, Memory}
use Rattle.tta_circuit.specs.Meaning.{is_set, value, with_word, settle, stored}
use Rattle.tta_circuit.proofs.Alike.{value_same}
use Rattle.tta_circuit.proofs.Settling.{value_alike}
use Rattle.tta_hardware.specs.Signals.{Signal as Named, Store, Expression, same_signal, same_store}
use Rattle.tta_hardware.specs.Chains.{first_of}
use Rattle.tta_boxed.specs.Theorem.{is_beside}
use Rattle.tta_boxed.proofs.Early.{late, early}
use Rattle.tta_boxed.proofs.EarlyRegisters.{PortEarly}

-- words that are the same but for what is beside
abbrev pub Same : (a b : Named → ℕ) → Type 0
Same a b = (n : Named) → is_beside n ≡ false → a n ≡ b n

-- one of two words
pub either_word : (b c : Bool) (x y x' y' : ℕ) → b ≡ c → x ≡ x' → y ≡ y' → (if b then x else y) ≡ (if c then x' else y')
either_word b c x y x' y' same on off =
    ap (λ (d : Bool). if d then x else y) same ∙ ap (λ w. if c then w else y) on ∙ ap (λ w. if c then x' else w) off

module _ (u : Units) (ms ms' : Store → List ℕ) (memories : (s : Store) → ms s ≡ ms' s) where
  -- ---- expressions

  module _ (env env' : Named → ℕ) (same : Same env env') where
    alike : (n : Named) → late n < 1 → env n ≡ env' n
    alike n less = by (is_beside n) refl less where
      by : (b : Bool) → is_beside n ≡ b → (if b then 1 else 0) < 1 → env n ≡ env' n
      by true is less = absurd (omega (arith, less))
      by false is less = same n is

    -- what reads nothing that is beside has one word
    pub value_early : (e : Expression) → early e ≡ true → value u ms env e ≡ value u ms' env' e
    value_early e is =
        value_alike late u ms env env' 1 alike e is
        ∙ value_same u ms' ms (λ s k. ap (λ (words : List ℕ). slice_index words k) (memories s)) env' env' (λ n. refl) e

    -- so has the first of some choices that read nothing that is, where the other choice has
    pub first_early : (cs : List (Expression × Expression)) (e e' : Expression)
        → AllByRecursion (λ c. (early c.0 ≡ true) × (early c.1 ≡ true)) cs → value u ms env e ≡ value u ms' env' e'
        → value u ms env (first_of cs e) ≡ value u ms' env' (first_of cs e')
    first_early [] e e' all other = other
    first_early (c ∷ cs) e e' all other =
        either_word (is_set (value u ms env c.0)) (is_set (value u ms' env' c.0)) (value u ms env c.1) (value u ms env (first_of cs e))
        (value u ms' env' c.1) (value u ms' env' (first_of cs e')) (ap is_set (value_early c.0 all.0.0)) (value_early c.1 all.0.1)
        (first_early cs e e' all.1 other)

    -- ---- memories

    through : (p : WritePort Named Store) → PortEarly (Some p) → (old old' : List ℕ) → old ≡ old'
        → (if is_set (value u ms env p.enable) then slice_set old (value u ms env p.address) (value u ms env p.word) else old)
        ≡ (if is_set (value u ms' env' p.enable) then slice_set old' (value u ms' env' p.address) (value u ms' env' p.word) else old')
    through p is old old' was =
        ap (λ w. if is_set w then slice_set old (value u ms env p.address) (value u ms env p.word) else old) (value_early p.enable is.0)
        ∙ ap (λ w. if is_set (value u ms' env' p.enable) then slice_set old w (value u ms env p.word) else old)
        (value_early p.address is.1.0)
        ∙ ap (λ w. if is_set (value u ms' env' p.enable) then slice_set old (value u ms' env' p.address) w else old)
        (value_early p.word is.1.1)
        ∙ ap (λ (l : List ℕ). if is_set (value u ms' env' p.enable)
        then slice_set l (value u ms' env' p.address) (value u ms' env' p.word) else l) was

    -- a memory has the same words after a clock
    pub stored_alike : (xs : List (Memory Named Store)) → AllByRecursion (λ (x : Memory Named Store). PortEarly x.port) xs → (s : Store)
        → (old old' : List ℕ) → old ≡ old'
        → stored same_signal u ms env (find (λ x. same_store x.name s) xs) old
        ≡ stored same_signal u ms' env' (find (λ x. same_store x.name s) xs) old'
    stored_alike [] all s old old' was = was
    stored_alike (x ∷ xs) all s old old' was = by (same_store x.name s) (stored_alike xs all.1 s old old' was) where
      at : (p : Option (WritePort Named Store)) → PortEarly p
          → stored same_signal u ms env (Some (record x { port = p })) old
          ≡ stored same_signal u ms' env' (Some (record x { port = p })) old'
      at None is = was
      at (Some p) is = through p is old old' was

      by : (b : Bool)
          → stored same_signal u ms env (find (λ x. same_store x.name s) xs) old
          ≡ stored same_signal u ms' env' (find (λ x. same_store x.name s) xs) old'
          → stored same_signal u ms env (if b then Some x else find (λ x. same_store x.name s) xs) old
          ≡ stored same_signal u ms' env' (if b then Some x else find (λ x. same_store x.name s) xs) old'
      by true rest = at x.port all.0
      by false rest = rest

  -- ---- wires

  -- wires settle to the same words but for what is beside
  pub settle_early : (ws : List (Wire Named Store)) → AllByRecursion (λ w. early w.word ≡ true) ws → (env env' : Named → ℕ)
      → Same env env' → Same (settle same_signal u ms env ws) (settle same_signal u ms' env' ws)
  settle_early [] all env env' same n is = same n is
  settle_early (w ∷ ws) all env env' same n is =
      settle_early ws all.1 (with_word same_signal env w.name (value u ms env w.word))
      (with_word same_signal env' w.name (value u ms' env' w.word)) (λ k on. by k on (same_signal w.name k)) n is
    where
      by : (k : Named) → is_beside k ≡ false → (b : Bool)
          → (if b then value u ms env w.word else env k) ≡ (if b then value u ms' env' w.word else env' k)
      by k on true = value_early env env' same w.word all.0
      by k on false = same k on
