-- Wires in order settle to words that solve their definitions.
use Rattle.std.proofs.Common.{◌≡◌, ℕ, ◌<◌, ◌≤◌, ◌+◌, ◌*◌, ◌/◌, ◌%◌, ◌^◌, ◌-◌, ◌==◌, Bool, true, false, not, ◌&&◌, ◌||◌, nat_lt, nat_le, List, [], ◌∷◌, refl, sym, ap, ◌∙◌, arith}
use Rattle.std.specs.Prelude.{if◌then◌else◌, slice_index, bit_and, bit_or, bit_xor}
use Rattle.std.proofs.lemmas.Bool.{and_parts, ltb-true, leb-true}
use Rattle.tta_ops.specs.Units.{Units}
use Rattle.tta_circuit.specs.Circuit.{Expr, Const, Signal, Slice, Join, Select, Not, Both, Either, Equal, Below, Plus, Minus, Times, BitAnd, BitOr, BitXor, Left, Right, Read, Apply, Wire}
use Rattle.tta_circuit.specs.Meaning.{bit, is_set, value, with_word, settle}
use Rattle.tta_circuit.specs.Order.{reads_below, is_ordered}
use Rattle.tta_circuit.specs.Laws.{TellsApart, Solves, AreMadeBy, SettledSolves}

-- ---- expressions

module _ {N M : Type 0} (rank : N → ℕ) (u : Units) (ms : M → List ℕ) (a b : N → ℕ) (k : ℕ) (alike : (n : N) → rank n < k → a n ≡ b n) where
  two : (f : ℕ → ℕ → ℕ) (x y x' y' : ℕ) → x ≡ x' → y ≡ y' → f x y ≡ f x' y'
  two f x y x' y' p q = ap (λ z. f z y) p ∙ ap (f x') q

  pair : (f : ℕ → ℕ → ℕ) (x y : Expr N M) → (reads_below rank k x && reads_below rank k y) ≡ true
      → (reads_below rank k x ≡ true → value u ms a x ≡ value u ms b x) → (reads_below rank k y ≡ true → value u ms a y ≡ value u ms b y)
      → f (value u ms a x) (value u ms a y) ≡ f (value u ms b x) (value u ms b y)
  pair f x y h of_x of_y =
      let p = and_parts (reads_below rank k x) (reads_below rank k y) h in
      two f (value u ms a x) (value u ms a y) (value u ms b x) (value u ms b y) (of_x p.0) (of_y p.1)

  -- an expression has one word for words of signals that are alike on all that it reads
  pub value_alike : (e : Expr N M) → reads_below rank k e ≡ true → value u ms a e ≡ value u ms b e
  value_alike (Const width word) h = refl
  value_alike (Signal n) h = alike n (ltb-true (rank n) k h)
  value_alike (Slice low width e) h = ap (λ x. x / 2 ^ low % 2 ^ width) (value_alike e h)
  value_alike (Join width high low) h = pair (λ x y. x * 2 ^ width + y) high low h (value_alike high) (value_alike low)
  value_alike (Select test on off) h =
      let p = and_parts (reads_below rank k test) (reads_below rank k on && reads_below rank k off) h in
      let q = and_parts (reads_below rank k on) (reads_below rank k off) p.1 in
      ap (λ x. if is_set x then value u ms a on else value u ms a off) (value_alike test p.0)
      ∙ ap (λ x. if is_set (value u ms b test) then x else value u ms a off) (value_alike on q.0)
      ∙ ap (λ x. if is_set (value u ms b test) then value u ms b on else x) (value_alike off q.1)
  value_alike (Not e) h = ap (λ x. bit (not (is_set x))) (value_alike e h)
  value_alike (Both x y) h = pair (λ x y. bit (is_set x && is_set y)) x y h (value_alike x) (value_alike y)
  value_alike (Either x y) h = pair (λ x y. bit (is_set x || is_set y)) x y h (value_alike x) (value_alike y)
  value_alike (Equal x y) h = pair (λ x y. bit (x == y)) x y h (value_alike x) (value_alike y)
  value_alike (Below x y) h = pair (λ x y. bit (nat_lt x y)) x y h (value_alike x) (value_alike y)
  value_alike (Plus width x y) h = pair (λ x y. (x + y) % 2 ^ width) x y h (value_alike x) (value_alike y)
  value_alike (Minus width x y) h = pair (λ x y. (2 ^ width + x - y) % 2 ^ width) x y h (value_alike x) (value_alike y)
  value_alike (Times width x y) h = pair (λ x y. x * y % 2 ^ width) x y h (value_alike x) (value_alike y)
  value_alike (BitAnd x y) h = pair bit_and x y h (value_alike x) (value_alike y)
  value_alike (BitOr x y) h = pair bit_or x y h (value_alike x) (value_alike y)
  value_alike (BitXor x y) h = pair bit_xor x y h (value_alike x) (value_alike y)
  value_alike (Left width x by) h = pair (λ x y. x * 2 ^ y % 2 ^ width) x by h (value_alike x) (value_alike by)
  value_alike (Right x by) h = pair (λ x y. x / 2 ^ y) x by h (value_alike x) (value_alike by)
  value_alike (Read m address) h = ap (λ x. slice_index (ms m) x) (value_alike address h)
  value_alike (Apply op x y) h = pair (λ x y. u.value op x y) x y h (value_alike x) (value_alike y)

-- ---- wires

-- the parts of an order
record Ordered {N M : Type 0} (rank : N → ℕ) (least : ℕ) (w : Wire N M) (ws : List (Wire N M)) : Type 0 where
  above : least ≤ rank w.name
  reads : reads_below rank (rank w.name) w.word ≡ true
  rest : is_ordered rank (rank w.name) ws ≡ true

ordered : {N M : Type 0} (rank : N → ℕ) (least : ℕ) (w : Wire N M) (ws : List (Wire N M)) → is_ordered rank least (w ∷ ws) ≡ true
    → Ordered rank least w ws
ordered rank least w ws h =
    let p = and_parts (nat_le least (rank w.name) && reads_below rank (rank w.name) w.word) (is_ordered rank (rank w.name) ws) h in
    let q = and_parts (nat_le least (rank w.name)) (reads_below rank (rank w.name) w.word) p.0 in
    record { above = leb-true least (rank w.name) q.0; reads = q.1; rest = p.1 }

module _ {N M : Type 0} (same : N → N → Bool) (tells : TellsApart same) (rank : N → ℕ) (u : Units) (ms : M → List ℕ)
    (made : N → Expr N M) where
  with_other : (env : N → ℕ) (k n : N) (v : ℕ) → rank n < rank k → with_word same env k v n ≡ env n
  with_other env k n v less = elim (same k n) as (λ b. same k n ≡ b → (if b then v else env n) ≡ env n) [
    | true ↦ λ is. let e : rank k ≡ rank n = ap rank (tells.is k n is) in absurd (omega (arith, less, e))
    | false ↦ λ is. refl
  ] refl

  with_same : (env : N → ℕ) (k : N) (v : ℕ) → with_word same env k v k ≡ v
  with_same env k v = ap (λ b. if b then v else env k) (tells.itself k)

  -- what is of a lower rank keeps its word
  pub settle_below : (env : N → ℕ) (least : ℕ) (ws : List (Wire N M)) → is_ordered rank least ws ≡ true → (n : N) → rank n < least
      → settle same u ms env ws n ≡ env n
  settle_below env least [] h n less = refl
  settle_below env least (w ∷ ws) h n less =
      let o = ordered rank least w ws h in
      settle_below (with_word same env w.name (value u ms env w.word)) (rank w.name) ws o.rest n (omega (arith, less, o.above))
      ∙ with_other env w.name n (value u ms env w.word) (omega (arith, less, o.above))

  -- a wire that has its word keeps it
  settle_keeps : (env : N → ℕ) (least : ℕ) (ws : List (Wire N M)) → is_ordered rank least ws ≡ true → AreMadeBy made ws → (n : N) (v : ℕ)
      → rank n ≤ least
      → reads_below rank (rank n) (made n) ≡ true → env n ≡ v → value u ms env (made n) ≡ v → settle same u ms env ws n ≡ v
  settle_keeps env least [] h are n v near reads has is = has
  settle_keeps env least (w ∷ ws) h are n v near reads has is =
      settle_keeps after (rank w.name) ws o.rest are.1 n v (omega (arith, near, o.above)) reads now
      (value_alike rank u ms after env (rank n) (λ k less. with_other env w.name k word (omega (arith, less, near, o.above)))
      (made n) reads ∙ is)
    where
      o : Ordered rank least w ws
      o = ordered rank least w ws h

      word : ℕ
      word = value u ms env w.word

      after : N → ℕ
      after = with_word same env w.name word

      now : after n ≡ v
      now = elim (same w.name n) as (λ b. same w.name n ≡ b → (if b then word else env n) ≡ v) [
        | true ↦ λ it. ap (value u ms env) (are.0 ∙ ap made (tells.is w.name n it)) ∙ is
        | false ↦ λ it. has
      ] refl

  -- all wires have the words of their expressions
  pub settle_solves : (env : N → ℕ) (least : ℕ) (ws : List (Wire N M)) → is_ordered rank least ws ≡ true → AreMadeBy made ws
      → Solves u ms (settle same u ms env ws) ws
  settle_solves env least [] h are = tt
  settle_solves env least (w ∷ ws) h are = (first, settle_solves after (rank w.name) ws o.rest are.1) where
    o : Ordered rank least w ws
    o = ordered rank least w ws h

    word : ℕ
    word = value u ms env w.word

    after : N → ℕ
    after = with_word same env w.name word

    before : (k : N) → rank k < rank w.name → after k ≡ env k
    before k less = with_other env w.name k word less

    made_reads : reads_below rank (rank w.name) (made w.name) ≡ true
    made_reads = ap (reads_below rank (rank w.name)) (sym are.0) ∙ o.reads

    kept : settle same u ms after ws w.name ≡ word
    kept = settle_keeps after (rank w.name) ws o.rest are.1 w.name word (omega arith) made_reads (with_same env w.name word)
        (value_alike rank u ms after env (rank w.name) before (made w.name) made_reads ∙ ap (value u ms env) (sym are.0))

    first : settle same u ms after ws w.name ≡ value u ms (settle same u ms after ws) w.word
    first = kept ∙ sym (value_alike rank u ms (settle same u ms after ws) env (rank w.name)
        (λ k less. settle_below after (rank w.name) ws o.rest k less ∙ before k less) w.word o.reads)

pub settled_solves : (N M : Type 0) → SettledSolves N M
settled_solves N M same tells rank u ms env made least wires order are =
    (settle_solves same tells rank u ms made env least wires order are, settle_below same tells rank u ms made env least wires order)
