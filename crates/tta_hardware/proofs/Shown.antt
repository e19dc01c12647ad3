-- The words that operations show, those of loads in the registers behind their memories.
use Rattle.std.proofs.Common.{◌≡◌, ℕ, zero, suc, ◌+◌, ◌≤◌, ◌<◌, ◌==◌, Bool, true, false, List, [], ◌∷◌, length, slice_get, refl, sym, ap, ◌∙◌, arith}
use Rattle.std.specs.Prelude.{is_some, if◌then◌else◌, slice_index, nat_lt}
use Rattle.std.specs.Option.{option_map_or}
use Rattle.std.proofs.lemmas.Bool.{false≢true, ltb-false}
use Rattle.std.proofs.lemmas.List.{get_or_past}
use Rattle.tta_hardware.specs.Cited.{Units, Op, Ldw, Stw, Ldf, Stf, Out, Take, Set, Machine, Start, result_word, operand_word, takes, takes_in, State, Const, Below, bit, is_set, value}
use Rattle.tta_circuit.specs.Circuit.{Signal as OfSignal}
use Rattle.tta_hardware.specs.Signals.{Signal as Named, Data, Frame, Raw, Offer, Trigger, Operand}
use Rattle.tta_hardware.specs.Wires.{result_of as result_made, never, nothing, is_load, loads}
use Rattle.tta_hardware.specs.Registers.{read_at, space_size}
use Rattle.tta_hardware.specs.Stands.{Hardware, HasClocked, HasSpaces, StartsOne, read_in}

-- what a list has within its length
pub some_at : {A : Type 0} (xs : List A) (i : ℕ) → i < length xs → is_some (slice_get xs i) ≡ true
some_at [] i less = absurd (omega (arith, less))
some_at (x ∷ xs) zero less = refl
some_at (x ∷ xs) (suc i) less = some_at xs i (omega (arith, less))

-- two numbers differ by as much after a third is added
pub same_sum : (c l k : ℕ) → (c + l == c + k) ≡ (l == k)
same_sum c l k = elim (l == k) as (λ x. (l == k) ≡ x → (c + l == c + k) ≡ x) [
  | true ↦ λ is. grind (arith, is)
  | false ↦ λ is. grind (arith, is)
] refl

-- ---- the words that the circuit makes

module _ (u : Units) (m : Machine) (h : Hardware) (env : Named → ℕ) (s : State) (spaces : HasSpaces m h s) (unit : ℕ) where
  load : (space words : List ℕ) (size address word : ℕ) → space ≡ words → length words ≡ size → address ≡ word
      → (if is_set (bit (nat_lt address size)) then slice_index space address else 0) ≡ slice_index words word
  load space words size address word same count at = by (nat_lt address size) refl where
    moved : slice_index space address ≡ slice_index words word
    moved = ap (λ ws. slice_index ws address) same ∙ ap (slice_index words) at

    by : (b : Bool) → nat_lt address size ≡ b → (if is_set (bit b) then slice_index space address else 0) ≡ slice_index words word
    by true is = moved
    by false is =
        let past : size ≤ address = ltb-false address size is in
        sym (get_or_past words word 0 (omega (arith, past, count, at)))

  -- the word of the operation that starts, where it is no load
  pub shown_word : (t : Start) → StartsOne m env unit t → is_load t.does.op ≡ false → (takes t ≡ true → env Offer ≡ slice_index s.rest 0)
      → value u h.memories env (result_made m unit t.does) ≡ result_word u s.memory s.frame (slice_index s.rest 0) t t.does.op
  shown_word t one other offer = by t.does.op refl where
    pick : (b : Bool) → (if b then env (Operand unit) else 0) ≡ operand_word t
        → value u h.memories env (if b then OfSignal (Operand unit) else nothing) ≡ operand_word t
    pick true is = is
    pick false is = is

    by : (o : Op) → t.does.op ≡ o
        → value u h.memories env (result_made m unit (record t.does { op = o })) ≡ result_word u s.memory s.frame (slice_index s.rest 0) t o
    by Ldw is = absurd (false≢true (sym other ∙ ap is_load is))
    by Stw is = refl
    by Ldf is = absurd (false≢true (sym other ∙ ap is_load is))
    by Stf is = refl
    by Out is = refl
    by Take is = offer (ap takes_in is)
    by (Set id) is =
        ap (λ a. u.value id.0 a (env (Trigger unit))) (pick (t.does.arity == 2) one.operand) ∙ ap (u.value id.0 (operand_word t)) one.word

  -- and what stands after the clock in the register behind the memory, where it is one
  pub read_of : (after : Named → ℕ) → HasClocked u m h env after → (t : Start) → (one : StartsOne m env unit t) → is_load t.does.op ≡ true
      → read_in after unit one.op ≡ result_word u s.memory s.frame (slice_index s.rest 0) t t.does.op
  read_of after clocked t one loads = by t.does.op refl loads where
    reads : (o : Op) → t.does.op ≡ o
        → read_in after unit one.op
        ≡ (if is_set (bit (nat_lt (env (Trigger unit)) (space_size m o))) then value u h.memories env (read_at o (OfSignal (Trigger unit)))
        else 0)
    reads o is =
        ap (λ n. if is_set n then after (Raw unit one.op) else 0)
        (clocked.inside unit one.op t.does one.there loads
        ∙ ap (λ q. value u h.memories env (option_map_or (λ o. Below (OfSignal (Trigger unit)) (Const 32 (space_size m o.op))) q never))
        one.there
        ∙ ap (λ o. bit (nat_lt (env (Trigger unit)) (space_size m o))) is)
        ∙ ap (λ n. if is_set (bit (nat_lt (env (Trigger unit)) (space_size m o))) then n else 0)
        (clocked.raw unit one.op t.does one.there loads
        ∙ ap (λ q. value u h.memories env (option_map_or (λ o. read_at o.op (OfSignal (Trigger unit))) q nothing)) one.there
        ∙ ap (λ o. value u h.memories env (read_at o (OfSignal (Trigger unit)))) is)

    by : (o : Op) → t.does.op ≡ o → is_load o ≡ true → read_in after unit one.op ≡ result_word u s.memory s.frame (slice_index s.rest 0) t o
    by Ldw is on = reads Ldw is ∙ load (h.memories Data) s.memory m.data_words (env (Trigger unit)) t.word spaces.memory spaces.memory_size
        one.word
    by Stw is on = absurd (false≢true on)
    by Ldf is on = reads Ldf is ∙ load (h.memories Frame) s.frame m.frame_words (env (Trigger unit)) t.word spaces.frame spaces.frame_size
        one.word
    by Stf is on = absurd (false≢true on)
    by Out is on = absurd (false≢true on)
    by Take is on = absurd (false≢true on)
    by (Set id) is on = absurd (false≢true on)
