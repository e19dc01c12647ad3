-- Code that is linked from placed blocks holds them in a row.
use Rattle.std.proofs.Common.{◌≡◌, inl, inr, ℕ, zero, suc, ◌+◌, ◌-◌, ◌<◌, ◌≤◌, ◌^◌, true, List, [], ◌∷◌, ◌++◌, Some, refl, sym, ap, subst, ◌∙◌, arith, length, get_or}
use Rattle.std.specs.Prelude.{slice_get, slice_index}
use Rattle.std.specs.List.{range_with_len, flat_map}
use Rattle.std.proofs.lemmas.Bool.{cases_lt}
use Rattle.std.proofs.lemmas.Option.{slice_get-get_or, slice_get-map, slice_get_within}
use Rattle.std.proofs.lemmas.List.FromFn.{length-map-range_with_len}
use Rattle.tta_list.proofs.Lists.{slice_get-front, slice_get-back}
use Rattle.tta_sched_laws.specs.Cited.{Machine, Instruction, Code, BlockList, Placed, in_cycle, control_is_last, AreAddresses, instruction_of, starts_from, block_words, IsLinked}
use Rattle.tta_sched_laws.specs.Overlap.{IsPlaced, ArePlaced}
use Rattle.tta_sched_laws.proofs.Found.{range_has}
use Rattle.tta_sched_laws.proofs.Bounds.{bounds_keep}
use Rattle.tta_sched_laws.proofs.Row.{IsRow}

-- how many words stand before a block
abbrev before : List Placed → ℕ → ℕ
before ps zero = 0
before [] (suc k) = 0
before (p ∷ ps) (suc k) = p.length + before ps k

start_is : (a : ℕ) (ps : List Placed) (k : ℕ) → k ≤ length ps → slice_index (starts_from a ps) k ≡ a + before ps k
start_is a [] zero le = omega arith
start_is a [] (suc k) le = absurd (omega arith)
start_is a (p ∷ ps) zero le = omega arith
start_is a (p ∷ ps) (suc k) le = let r = start_is (a + p.length) ps k (omega arith) in r ∙ (let g : a + p.length + before ps k ≡ a + (p.length + before ps k) = omega arith in g)

before_next : (ps : List Placed) (k : ℕ) (p : Placed) → slice_get ps k ≡ Some p → before ps (suc k) ≡ before ps k + p.length
before_next [] k p e = absurd cc
before_next (q ∷ ps) zero p e = let s : q ≡ p = cc in ap (λ (x : Placed). x.length + before ps 0) s ∙ (let g : p.length + 0 ≡ 0 + p.length = omega arith in g)
before_next (q ∷ ps) (suc k) p e = let r = before_next ps k p e in omega arith

size_is : (a : ℕ) (ps : List Placed) → length (starts_from a ps) ≡ length ps + 1
size_is a [] = refl
size_is a (p ∷ ps) = let r = size_is (a + p.length) ps in omega arith

-- where a block's words stand
module _ (g : Placed → List Instruction) (sized : (p : Placed) → length (g p) ≡ p.length) where
  word_at : (ps : List Placed) (k c : ℕ) (p : Placed) → slice_get ps k ≡ Some p → c < p.length → slice_get (flat_map g ps) (before ps k + c) ≡ slice_get (g p) c
  word_at [] k c p e lt = absurd cc
  word_at (q ∷ ps) zero c p e lt =
      let s : q ≡ p = cc in
      let l = sized q in
      let n : q.length ≡ p.length = ap (λ (x : Placed). x.length) s in
      let z : 0 + c ≡ c = omega arith in
      ap (slice_get (g q ++ flat_map g ps)) z ∙ slice_get-front (g q) (flat_map g ps) c (omega arith) ∙ ap (λ (x : Placed). slice_get (g x) c) s
  word_at (q ∷ ps) (suc k) c p e lt =
      let l = sized q in
      let z : q.length + before ps k + c ≡ length (g q) + (before ps k + c) = omega arith in
      ap (slice_get (g q ++ flat_map g ps)) z ∙ slice_get-back (g q) (flat_map g ps) (before ps k + c) ∙ word_at ps k c p e lt

  all_words : (ps : List Placed) → length (flat_map g ps) ≡ before ps (length ps)
  all_words [] = refl
  all_words (p ∷ ps) = let l = sized p in let r = all_words ps in length_two (g p) (flat_map g ps) ∙ (let z : length (g p) + length (flat_map g ps) ≡ p.length + before ps (length ps) = omega arith in z) where
    length_two : (xs ys : List Instruction) → length (xs ++ ys) ≡ length xs + length ys
    length_two [] ys = omega arith
    length_two (x ∷ xs) ys = let r = length_two xs ys in omega arith

word_is : (m : Machine) (addr : List ℕ) (p : Placed) (c : ℕ) → c < p.length → slice_get (block_words m addr p) c ≡ Some (instruction_of m addr (in_cycle c p.items))
word_is m addr p c lt =
    slice_get-map (λ (i : ℕ). instruction_of m addr (in_cycle i p.items)) (range_with_len 0 p.length) c
    ∙ (let r : slice_get (range_with_len 0 p.length) c ≡ Some c = range_has 0 p.length c lt ∙ ap Some (omega arith) in rw r refl)

module _ (m : Machine) (code : Code) (lists : List BlockList) (ps : List Placed) (placed : ArePlaced m lists ps) (linked : IsLinked m code ps) where
  abbrev addr : List ℕ
  addr = starts_from 0 ps

  abbrev none : Placed
  none = record { items = []; length = 1 }

  at : (k : ℕ) (b : BlockList) → slice_get lists k ≡ Some b → slice_get ps k ≡ Some (get_or ps k none)
  at k b e = let l = slice_get_within lists k b e in let n = placed.count in slice_get-get_or ps k none (omega arith)

  start : (k : ℕ) → k ≤ length ps → slice_index addr k ≡ before ps k
  start k le = start_is 0 ps k le ∙ (let z : 0 + before ps k ≡ before ps k = omega arith in z)

  sized : (p : Placed) → length (block_words m addr p) ≡ p.length
  sized p = length-map-range_with_len (λ (c : ℕ). instruction_of m addr (in_cycle c p.items)) 0 p.length

  row_placed : (k : ℕ) (b : BlockList) (e : slice_get lists k ≡ Some b) → IsPlaced m code addr (slice_index addr k) b (get_or ps k none)
  row_placed k b e =
      let p = get_or ps k none in
      let l = slice_get_within lists k b e in
      let n = placed.count in
      let s = start k (omega arith) in
      record {
        closed = placed.closed k b e;
        respects = placed.respects k b p e (at k b e);
        holds = λ c lt. ap (λ (ws : List Instruction). slice_get ws (slice_index addr k + c)) linked ∙ ap (λ (i : ℕ). slice_get (flat_map (block_words m addr) ps) (i + c)) s
            ∙ word_at (block_words m addr) sized ps k c p (at k b e) lt ∙ word_is m addr p c lt;
      }

  follows : (k : ℕ) (b : BlockList) (e : slice_get lists k ≡ Some b) → slice_index addr (k + 1) ≡ slice_index addr k + (get_or ps k none).length
  follows k b e =
      let l = slice_get_within lists k b e in
      let n = placed.count in
      let a = start k (omega arith) in
      let c = start (k + 1) (omega arith) in
      let d : before ps (k + 1) ≡ before ps (suc k) = ap (before ps) (let z : k + 1 ≡ suc k = omega arith in z) in
      let g = before_next ps k (get_or ps k none) (at k b e) in
      omega arith

  end : slice_index addr (length lists) ≡ length code.words
  end =
      let n = placed.count in
      ap (slice_index addr) (sym n) ∙ start (length ps) (omega arith) ∙ sym (all_words (block_words m addr) sized ps) ∙ sym (ap length linked)

  -- linked code holds its blocks in a row
  pub linked_row : IsRow m code addr lists
  linked_row = record {
    placed = λ k b e. get_or ps k none;
    is = row_placed;
    follows = follows;
    first = start 0 (omega arith);
    end = end;
  }

  some_length : (k : ℕ) (b : BlockList) → slice_get lists k ≡ Some b → 0 < (get_or ps k none).length
  some_length k b e =
      let p = get_or ps k none in
      let r = placed.respects k b p e (at k b e) in
      let keeps = bounds_keep m addr p.items r.bounds (subst (λ q. control_is_last q ≡ true) (sym r.order) (placed.closed k b e)) in
      let s = keeps.some in
      let l = r.long in
      omega arith

  list_at : (k : ℕ) → k < length lists → (b : BlockList) × (slice_get lists k ≡ Some b)
  list_at k lt = there lists k lt where
    there : (xs : List BlockList) (i : ℕ) → i < length xs → (b : BlockList) × (slice_get xs i ≡ Some b)
    there [] i l = absurd (omega arith)
    there (x ∷ xs) zero l = (x, refl)
    there (x ∷ xs) (suc i) l = there xs i (omega arith)

  -- addresses rise
  up : (j n : ℕ) → j + suc n ≤ length lists → slice_index addr j < slice_index addr (j + suc n)
  up j zero le =
      let b = list_at j (omega arith) in
      let f = follows j b.0 b.1 in
      let s = some_length j b.0 b.1 in
      omega arith
  up j (suc n) le =
      let r = up j n (omega arith) in
      let b = list_at (j + suc n) (omega arith) in
      let f = follows (j + suc n) b.0 b.1 in
      let s = some_length (j + suc n) b.0 b.1 in
      let e : slice_index addr (j + suc n + 1) ≡ slice_index addr (j + suc (suc n)) = ap (slice_index addr) (let z : j + suc n + 1 ≡ j + suc (suc n) = omega arith in z) in
      omega arith

  past : (k : ℕ) (xs : List ℕ) → length xs ≤ k → slice_index xs k ≡ 0
  past k [] le = refl
  past zero (x ∷ xs) le = absurd (omega arith)
  past (suc k) (x ∷ xs) le = past k xs (omega arith)

  -- the starts of the blocks are addresses, where the code has room
  pub linked_addresses : length code.words < 2 ^ 32 → AreAddresses addr (length lists)
  linked_addresses room = record {
    size = let n = placed.count in let s = size_is 0 ps in omega arith;
    words = λ k. elim (cases_lt k (length lists + 1)) [
      | inl lt ↦ elim (cases_lt k (length lists)) [
        | inl less ↦
            let u = up k (length lists - suc k) (omega arith) in
            let e : slice_index addr (k + suc (length lists - suc k)) ≡ slice_index addr (length lists) = ap (slice_index addr) (let z : k + suc (length lists - suc k) ≡ length lists = omega arith in z) in
            let d = end in
            omega arith
        | inr le ↦ let same : k ≡ length lists = omega arith in let d = ap (slice_index addr) same ∙ end in omega arith
      ]
      | inr le ↦ let n = placed.count in let s = size_is 0 ps in let z = past k addr (omega arith) in omega arith
    ];
    rise = λ j k lt lk.
        let n = placed.count in
        let s = size_is 0 ps in
        let u = up j (k - suc j) (omega arith) in
        let e : slice_index addr (j + suc (k - suc j)) ≡ slice_index addr k = ap (slice_index addr) (let z : j + suc (k - suc j) ≡ k = omega arith in z) in
        omega arith;
  }
