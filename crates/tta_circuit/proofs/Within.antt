-- The words of a plain circuit stay within their widths.
use Rattle.std.proofs.Common.{◌≡◌, ℕ, zero, suc, ◌^◌, ◌<◌, Bool, true, false, List, [], ◌∷◌, Option, None, Some, refl, sym, subst}
use Rattle.std.specs.Prelude.{if◌then◌else◌, slice_index, slice_set}
use Rattle.std.specs.List.{find, AllByRecursion}
use Rattle.tta_ops.specs.Units.{Units}
use Rattle.tta_circuit.specs.Circuit.{Expr, Wire, Register, WritePort, Memory, Circuit}
use Rattle.tta_circuit.specs.Meaning.{is_set, value, is_input, with_word, settle, given, settled, registered, stored, Held, held_from}
use Rattle.tta_circuit.specs.Plain.{IsWritten, IsWrittenWire, IsWrittenRegister, IsWrittenMemory, IsWrittenAt, IsPlain}
use Rattle.tta_circuit.specs.Laws.{TellsApart, IsWithin, StaysWithin}
use Rattle.tta_circuit.proofs.Sizing.{fits}

-- a word among others that is written within a width
set_within : (old : List ℕ) (k word j most : ℕ) → ((i : ℕ) → slice_index old i < most) → word < most
    → slice_index (slice_set old k word) j < most
set_within [] k word j most all small = all j
set_within (x ∷ xs) zero word zero most all small = small
set_within (x ∷ xs) zero word (suc j) most all small = all (suc j)
set_within (x ∷ xs) (suc k) word zero most all small = all 0
set_within (x ∷ xs) (suc k) word (suc j) most all small = set_within xs k word j most (λ i. all (suc i)) small

either : (b : Bool) (x y most : ℕ) → x < most → y < most → (if b then x else y) < most
either true x y most first second = first
either false x y most first second = second

module _ {N M : Type 0} (same : N → N → Bool) (tells : TellsApart same) (same_memory : M → M → Bool) (tells_memory : TellsApart same_memory)
    (signal : N → ℕ) (memory : M → ℕ) (u : Units) where
  module _ (ms : M → List ℕ) (memories : (m : M) (k : ℕ) → slice_index (ms m) k < 2 ^ memory m) where
    -- the word of an expression with a text
    written : (env : N → ℕ) → ((n : N) → env n < 2 ^ signal n) → (e : Expr N M) (width : ℕ) → IsWritten signal memory e width
        → value u ms env e < 2 ^ width
    written env all e width is = subst (λ (w : ℕ). value u ms env e < 2 ^ w) is.wide (fits signal memory u ms env all memories e is.sized)

    -- wires that settle
    settle_within : (env : N → ℕ) → ((n : N) → env n < 2 ^ signal n) → (ws : List (Wire N M))
        → AllByRecursion (IsWrittenWire signal memory) ws → (n : N) → settle same u ms env ws n < 2 ^ signal n
    settle_within env all [] are n = all n
    settle_within env all (w ∷ ws) are n = settle_within (with_word same env w.name word) now ws are.1 n where
      word : ℕ
      word = value u ms env w.word

      now : (k : N) → with_word same env w.name word k < 2 ^ signal k
      now k = by (same w.name k) refl where
        its : word < 2 ^ signal w.name
        its = subst (λ (j : ℕ). word < 2 ^ j) (sym are.0.wide) (written env all w.word w.width are.0.word)

        by : (b : Bool) → same w.name k ≡ b → (if b then word else env k) < 2 ^ signal k
        by true is = subst (λ (j : N). word < 2 ^ signal j) (tells.is w.name k is) its
        by false is = all k

    -- a register after a clock
    registered_within : (env : N → ℕ) → ((n : N) → env n < 2 ^ signal n) → (n : N) (old : ℕ) → old < 2 ^ signal n
        → (rs : List (Register N M))
        → AllByRecursion (IsWrittenRegister signal memory) rs
        → registered same u ms env (find (λ r. same r.name n) rs) old < 2 ^ signal n
    registered_within env all n old small [] are = small
    registered_within env all n old small (r ∷ rs) are = by (same r.name n) refl (registered_within env all n old small rs are.1) where
      by : (b : Bool) → same r.name n ≡ b → registered same u ms env (find (λ r. same r.name n) rs) old < 2 ^ signal n
          → registered same u ms env (if b then Some r else find (λ r. same r.name n) rs) old < 2 ^ signal n
      by true is rest =
          either (is_set (value u ms env r.enable)) (value u ms env r.next) old (2 ^ signal n)
          (subst (λ (j : N). value u ms env r.next < 2 ^ signal j) (tells.is r.name n is)
          (subst (λ (j : ℕ). value u ms env r.next < 2 ^ j) (sym are.0.wide) (written env all r.next r.width are.0.next))) small
      by false is rest = rest

    -- a memory after a clock
    stored_within : (env : N → ℕ) → ((n : N) → env n < 2 ^ signal n) → (m : M) (old : List ℕ) → ((k : ℕ) → slice_index old k < 2 ^ memory m)
        → (xs : List (Memory N M)) → AllByRecursion (IsWrittenMemory signal memory) xs → (j : ℕ)
        → slice_index (stored same u ms env (find (λ x. same_memory x.name m) xs) old) j < 2 ^ memory m
    stored_within env all m old small [] are j = small j
    stored_within env all m old small (x ∷ xs) are j = by (same_memory x.name m) refl (stored_within env all m old small xs are.1 j) where
      through : same_memory x.name m ≡ true → (p : Option (WritePort N M)) → IsWrittenAt signal memory x.width p
          → slice_index (stored same u ms env (Some (record x { port = p })) old) j < 2 ^ memory m
      through is None at = small j
      through is (Some p) at = on (is_set (value u ms env p.enable)) where
        word : value u ms env p.word < 2 ^ memory m
        word =
            subst (λ (y : M). value u ms env p.word < 2 ^ memory y) (tells_memory.is x.name m is)
            (subst (λ (w : ℕ). value u ms env p.word < 2 ^ w) (sym are.0.wide) (written env all p.word x.width at.word))

        on : (b : Bool) → slice_index (if b then slice_set old (value u ms env p.address) (value u ms env p.word) else old) j < 2 ^ memory m
        on true = set_within old (value u ms env p.address) (value u ms env p.word) j (2 ^ memory m) small word
        on false = small j

      by : (b : Bool) → same_memory x.name m ≡ b
          → slice_index (stored same u ms env (find (λ x. same_memory x.name m) xs) old) j < 2 ^ memory m
          → slice_index (stored same u ms env (if b then Some x else find (λ x. same_memory x.name m) xs) old) j < 2 ^ memory m
      by true is rest = through is x.port are.0.port
      by false is rest = rest

  module _ (c : Circuit N M) (h : Held N M) (inputs : ℕ → N → ℕ) (plain : IsPlain signal memory c) (begins : IsWithin signal memory h)
      (fed : (t : ℕ) (n : N) → is_input same c.inputs n ≡ true → inputs t n < 2 ^ signal n) where
    abbrev held : ℕ → Held N M
    held t = held_from same same_memory u c h inputs t

    given_within : (t : ℕ) → IsWithin signal memory (held t) → (n : N) → given same c (held t) (inputs t) n < 2 ^ signal n
    given_within t within n = by (is_input same c.inputs n) refl where
      by : (b : Bool) → is_input same c.inputs n ≡ b → (if b then inputs t n else (held t).words n) < 2 ^ signal n
      by true is = fed t n is
      by false is = within.words n

    settled_within : (t : ℕ) → IsWithin signal memory (held t) → (n : N) → settled same u c (held t) (inputs t) n < 2 ^ signal n
    settled_within t within n =
        settle_within (held t).memories within.memories (given same c (held t) (inputs t)) (given_within t within) c.wires plain.wires n

    pub held_within : (t : ℕ) → IsWithin signal memory (held t)
    held_within zero = begins
    held_within (suc t) =
        let within = held_within t in
        let env : N → ℕ = settled same u c (held t) (inputs t) in
        record {
          words = λ n. registered_within (held t).memories within.memories env (settled_within t within) n ((held t).words n)
              (within.words n)
              c.registers plain.registers;
          memories = λ m k. stored_within (held t).memories within.memories env (settled_within t within) m ((held t).memories m)
              (within.memories m) c.memories plain.memories k;
        }

    pub within_at : (t : ℕ) → IsWithin signal memory (held t)
        × ((n : N) → settled same u c (held t) (inputs t) n < 2 ^ signal n)
    within_at t = (held_within t, settled_within t (held_within t))

pub stays_within : (N M : Type 0) → StaysWithin N M
stays_within N M same tells same_memory tells_memory signal memory u c h inputs plain begins fed t =
    within_at same tells same_memory tells_memory signal memory u c h inputs plain begins fed t
