-- What the circuit fetches.
use Rattle.std.proofs.Common.{◌≡◌, ℕ, zero, suc, ◌+◌, ◌*◌, ◌%◌, ◌^◌, ◌<◌, List, [], ◌∷◌, map, slice_get, Some, ap, ◌∙◌, true, arith}
use Rattle.std.specs.Prelude.{slice_index, is_some, IsTrue}
use Rattle.std.proofs.lemmas.Option.{none-some, same_Some}
use Rattle.std.proofs.lemmas.Nat.{mod-mul-add}
use Rattle.tta_list.proofs.Lists.{all_one}
use Rattle.tta_hardware.specs.Cited.{Machine, Instruction, is_legal, IsLegalCode}
use Rattle.tta_code.specs.declared.code.Code.{Code as Program}
use Rattle.tta_hardware.specs.Signals.{Pc, Whole}
use Rattle.tta_hardware.specs.Fields.{word_of}
use Rattle.tta_hardware.specs.Laws.{FetchAlike, HasFetched}
use Rattle.tta_hardware.proofs.Bringing.{within_list}
use Rattle.tta_hardware.proofs.Served.{fields_serve}

-- a number below another is what is left of it
pub low : (n w : ℕ) → n < w → n % w ≡ n
low n w less = let e : n ≡ 0 * w + n = omega arith in ap (λ (k : ℕ). k % w) e ∙ mod-mul-add 0 w n less

-- the word at a place of a list that is made of another
word_at : {A : Type 0} (f : A → ℕ) (xs : List A) (k : ℕ) (x : A) → slice_get xs k ≡ Some x → slice_index (map f xs) k ≡ f x
word_at f [] k x at = absurd (none-some x at)
word_at f (y ∷ xs) zero x at = ap f (same_Some y x at)
word_at f (y ∷ xs) (suc k) x at = word_at f xs k x at

-- the word that is fetched at an address
pub fetched_at : (m : Machine) (code : Program) (words : List ℕ) (pc whole at : ℕ) → pc ≡ at % 2 ^ m.control.address
    → words ≡ map (word_of m) code.words
    → whole ≡ slice_index words pc → IsLegalCode m code → (i : Instruction) → slice_get code.words at ≡ Some i
    → whole ≡ word_of m i
fetched_at m code words pc whole at pc_is rom fetched legal i here =
    let inside = within_list code.words at (ap is_some here) in
    fetched ∙ ap (λ ws. slice_index ws pc) rom
    ∙ ap (λ k. slice_index (map (word_of m) code.words) k)
    (pc_is ∙ low at (2 ^ m.control.address) (omega (arith, inside, legal.room)))
    ∙ word_at (word_of m) code.words at i here

pub fetch_alike : FetchAlike
fetch_alike u m code h env s i rules settled pc whole legal at = (fetched, pc_is) where
  pc_is : h.words Pc ≡ s.pc
  pc_is =
      let inside = within_list code.words s.pc (ap is_some at) in
      pc ∙ low s.pc (2 ^ m.control.address) (omega (arith, inside, legal.room))

  -- the instruction's word
  word : env Whole ≡ word_of m i
  word = settled.whole ∙ whole

  good : is_legal m i ≡ true
  good = all_one (λ i. IsTrue (is_legal m i)) code.words s.pc i legal.words at

  fetched : HasFetched m env i
  fetched = fields_serve u h.memories env m i rules good word (λ f has. settled.fetched f has)
