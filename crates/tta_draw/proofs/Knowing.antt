-- What is known of immediate registers from row to row, and where instructions lead by that.
use Rattle.std.proofs.Common.{◌≡◌, ℕ, ◌+◌, ◌<◌, ◌==◌, Bool, true, false, List, [], ◌∷◌, ◌++◌, length, get_or, take, refl, sym, ap, ◌∙◌, arith, set, drop, zero, suc, append_assoc}
use Rattle.std.specs.Prelude.{◌&&◌, if◌then◌else◌, fold, Option, Some, None, slice_get, option_and_then}
use Rattle.std.specs.Option.{option_map_or}
use Rattle.std.proofs.lemmas.Bool.{and_parts, eqb-true}
use Rattle.std.proofs.lemmas.List.{take_more, drop_more}
use Rattle.std.proofs.lemmas.List.Sums.{fold-append}
use Rattle.tta_draw.specs.Cited.{Source, Template, Machine, first_some, or_else, Instruction, Long, Move}
use Rattle.tta_arch.specs.declared.ends.Source.TheVariants as source
use Rattle.tta_draw.specs.declared.targets.ImmediateWord.{ImmediateWord}
use Rattle.tta_draw.specs.ImmediateWord.{is_of, known_word, learned, wrote}
use Rattle.tta_draw.specs.Targets.{leading, long_word, nearest_word, source_word, target_of}

-- the word of one entry, if it is that of a register
abbrev entry_word : (unit index : ℕ) → ImmediateWord → Option ℕ
entry_word unit index k = if is_of unit index k then Some k.word else None

-- two entries of one register are of the same registers
same_of : (unit index : ℕ) (k n : ImmediateWord) → is_of n.unit n.index k ≡ true → is_of unit index k ≡ is_of unit index n
same_of unit index k n same =
    let parts = and_parts (k.unit == n.unit) (k.index == n.index) same in
    rw (eqb-true k.unit n.unit parts.0, eqb-true k.index n.index parts.1) refl

-- an entry of another register is not of one that this entry is of
other_of : (unit index : ℕ) (k n : ImmediateWord) → is_of n.unit n.index k ≡ false → is_of unit index n ≡ true → is_of unit index k ≡ false
other_of unit index k n other is =
    let parts = and_parts (n.unit == unit) (n.index == index) is in
    rw (sym (eqb-true n.unit unit parts.0), sym (eqb-true n.index index parts.1)) other

-- what is known after a further word
pub known-learned : (n : ImmediateWord) (ks : List ImmediateWord) (unit index : ℕ)
    → known_word (learned n ks) unit index ≡ (if is_of unit index n then Some n.word else known_word ks unit index)
known-learned n [] unit index = by (is_of unit index n) refl where
  by : (b : Bool) → is_of unit index n ≡ b → or_else (entry_word unit index n) None ≡ (if is_of unit index n then Some n.word else None)
  by true is = rw is refl
  by false is = rw is refl
known-learned n (k ∷ ks) unit index = by (known-learned n ks unit index) (is_of n.unit n.index k) (is_of unit index n) refl refl where
  by : known_word (learned n ks) unit index ≡ (if is_of unit index n then Some n.word else known_word ks unit index)
      → (same b : Bool) → is_of n.unit n.index k ≡ same → is_of unit index n ≡ b
      → known_word (if is_of n.unit n.index k then n ∷ ks else k ∷ learned n ks) unit index
      ≡ (if is_of unit index n then Some n.word else or_else (entry_word unit index k) (known_word ks unit index))
  by rest true true e is = rw (e, is) refl
  by rest true false e is = rw (e, is, same_of unit index k n e ∙ is) refl
  by rest false true e is = rw (e, other_of unit index k n e is, rest, is) refl
  by rest false false e is = rw (e, rest, is) refl

-- what is known after the long immediate of an instruction
pub known-after : (m : Machine) (i : Instruction) (ks : List ImmediateWord) (unit index : ℕ)
    → known_word (option_map_or (λ k. learned k ks) (wrote m i.long) ks) unit index ≡ or_else (long_word m unit index i) (known_word ks unit index)
known-after m i ks unit index = on i.long where
  at : (l : Long) (t : Option Template)
      → known_word (option_map_or (λ k. learned k ks) (option_and_then (λ t. Some (record { unit = t.imm; index = t.reg; word = l.value })) t) ks) unit index
      ≡ or_else (option_and_then (λ t. if t.imm == unit && t.reg == index then Some l.value else None) t) (known_word ks unit index)
  at l None = refl
  at l (Some t) = known-learned (record { unit = t.imm; index = t.reg; word = l.value }) ks unit index ∙ by (t.imm == unit && t.reg == index) where
    by : (b : Bool) → (if b then Some l.value else known_word ks unit index) ≡ or_else (if b then Some l.value else None) (known_word ks unit index)
    by true = refl
    by false = refl

  on : (long : Option Long)
      → known_word (option_map_or (λ k. learned k ks) (wrote m long) ks) unit index
      ≡ or_else (option_and_then (λ l. option_and_then (λ t. if t.imm == unit && t.reg == index then Some l.value else None) (slice_get m.templates l.template)) long) (known_word ks unit index)
  on None = refl
  on (Some l) = at l (slice_get m.templates l.template)

-- the nearest word above the next row
nearest-more : (m : Machine) (words : List Instruction) (row : ℕ) (i : Instruction) (unit index : ℕ) → row < length words → i ≡ get_or words row i
    → nearest_word m (take (row + 1) words) unit index ≡ or_else (long_word m unit index i) (nearest_word m (take row words) unit index)
nearest-more m words row i unit index within is =
    let step : Option ℕ → Instruction → Option ℕ = λ word i. or_else (long_word m unit index i) word in
    ap (fold step None) (take_more words row i within) ∙ fold-append step None (take row words) (get_or words row i ∷ [])
    ∙ ap (λ (x : Instruction). or_else (long_word m unit index x) (nearest_word m (take row words) unit index)) (sym is)

-- entries tell the words of all registers above a row
abbrev pub KnowsAbove : Machine → List Instruction → (row : ℕ) → List ImmediateWord → Type 0
KnowsAbove m words row ks = (unit index : ℕ) → known_word ks unit index ≡ nearest_word m (take row words) unit index

-- and after what that row wrote, those above the next
pub knows-more : (m : Machine) (words : List Instruction) (row : ℕ) (i : Instruction) (old new : List ImmediateWord) → row < length words → i ≡ get_or words row i
    → new ≡ option_map_or (λ k. learned k old) (wrote m i.long) old → KnowsAbove m words row old → KnowsAbove m words (row + 1) new
knows-more m words row i old new within is more knows unit index =
    ap (λ (ks : List ImmediateWord). known_word ks unit index) more ∙ known-after m i old unit index
    ∙ ap (or_else (long_word m unit index i)) (knows unit index) ∙ sym (nearest-more m words row i unit index within is)

-- an instruction leads to the same target by words that are the same
pub target-same : (f g : (unit index : ℕ) → Option ℕ) (i : Instruction) → ((unit index : ℕ) → f unit index ≡ g unit index) → target_of f i ≡ target_of g i
target-same f g i same = on (first_some leading i.moves) where
  source-same : (s : Source) → source_word f s ≡ source_word g s
  source-same (source.Value word) = refl
  source-same (source.Imm unit index) = same unit index
  source-same (source.Reg file index) = refl
  source-same (source.Shown unit) = refl
  source-same source.Ra = refl

  on : (v : Option Move) → option_and_then (λ v. source_word f v.src) v ≡ option_and_then (λ v. source_word g v.src) v
  on None = refl
  on (Some v) = source-same v.src

-- ---- a word that is learned, as a walk over what is known comes to its place

split_set : (xs : List ImmediateWord) (i : ℕ) (y : ImmediateWord) → i < length xs → set xs i y ≡ take i xs ++ y ∷ drop (i + 1) xs
split_set [] i y h = absurd (omega arith)
split_set (x ∷ xs) zero y h = refl
split_set (x ∷ xs) (suc i) y h =
    let e : suc i + 1 ≡ suc (i + 1) = omega arith in
    rw e (ap (λ (l : List ImmediateWord). x ∷ l) (split_set xs i y (omega (arith, h))))

pub learned-here : (n : ImmediateWord) (ks all : List ImmediateWord) (place : ℕ) (k : ImmediateWord) → place < length ks → k ≡ get_or ks place k → is_of n.unit n.index k ≡ true
    → take place ks ++ learned n (drop place ks) ≡ all → set ks place n ≡ all
learned-here n ks all place k within is same was =
    let at : drop place ks ≡ k ∷ drop (place + 1) ks = drop_more ks place k within ∙ ap (λ (x : ImmediateWord). x ∷ drop (place + 1) ks) (sym is) in
    split_set ks place n within ∙ sym (ap (λ b. take place ks ++ (if b then n ∷ drop (place + 1) ks else k ∷ learned n (drop (place + 1) ks))) same)
    ∙ sym (ap (λ (l : List ImmediateWord). take place ks ++ learned n l) at) ∙ was

pub learned-next : (n : ImmediateWord) (ks all : List ImmediateWord) (place : ℕ) (k : ImmediateWord) → place < length ks → k ≡ get_or ks place k → is_of n.unit n.index k ≡ false
    → take place ks ++ learned n (drop place ks) ≡ all → take (place + 1) ks ++ learned n (drop (place + 1) ks) ≡ all
learned-next n ks all place k within is other was =
    let at : drop place ks ≡ k ∷ drop (place + 1) ks = drop_more ks place k within ∙ ap (λ (x : ImmediateWord). x ∷ drop (place + 1) ks) (sym is) in
    ap (λ (l : List ImmediateWord). l ++ learned n (drop (place + 1) ks)) (take_more ks place k within ∙ ap (λ (x : ImmediateWord). take place ks ++ x ∷ []) (sym is))
    ∙ append_assoc (take place ks) (k ∷ []) (learned n (drop (place + 1) ks))
    ∙ sym (ap (λ b. take place ks ++ (if b then n ∷ drop (place + 1) ks else k ∷ learned n (drop (place + 1) ks))) other)
    ∙ sym (ap (λ (l : List ImmediateWord). take place ks ++ learned n l) at) ∙ was
