-- The text of an expression is read back to it, but for the widths that it does not tell.
use Rattle.std.proofs.Common.{◌≡◌, ℕ, zero, suc, ◌≤◌, ◌==◌, Bool, true, false, not, ◌&&◌, ◌||◌, nat_lt, List, [], ◌∷◌, ◌++◌, Option, Some, None, refl, ap, ◌∙◌, arith}
use Rattle.std.specs.Prelude.{codes, decimal, if◌then◌else◌}
use Rattle.std.specs.List.{AllByRecursion}
use Rattle.std.proofs.lemmas.Bool.{and_parts, false≢true}
use Rattle.tta_circuit.specs.Circuit.{Expr, Const, Signal, Slice, Join, Select, Not, Both, Either, Equal, Below, Plus, Minus, Times, BitAnd, BitOr, BitXor, Left, Right, Read, Apply}
use Rattle.tta_circuit.specs.Plain.{is_plain}
use Rattle.tta_verilog.specs.Expressions.{Names, between, reading, expression}
use Rattle.tta_verilog.specs.Spelling.{Token, SignalName, MemoryName, OperationName, Number, is_word_byte, is_name, tokens_in, Scope, has_token, AreNames}
use Rattle.tta_verilog.proofs.Words.{stops, cut, run, run_is, name_letters, spelled, token_is_name, IsFound, all_halves}
use Rattle.tta_verilog.proofs.Forms.{constant_before, part_before, between_before, negated_before, choice_before, joined_before, call_before, kept_before, stored_before, can_follow, follows_stops}
use Rattle.tta_verilog.proofs.Bare.{bare, size, some_steps}
use Rattle.tta_verilog.proofs.Reader.{after, otherwise, past, Found, got, signal_told, memory_told, operation_told, number_told, signal_of, memory_of, operation_of, number_of, Made, closed, a_signal, a_constant, a_part, a_word, a_call, named, a_choice, second, a_join, marked, start, read}

module _ {N M : Type 0} (names : Names N M) (scope : Scope N M) (good : AreNames names scope) (all : List (Token N M)) (signal : N → ℕ) (memory : M → ℕ) where
  abbrev pub reads_in : ℕ → List ℕ → Found names all
  reads_in k t = read names all k t

  abbrev pub text : Expr N M → List ℕ
  text e = expression names e

  -- a token that can be spelled and is found
  abbrev pub Told : Token N M → Type 0
  Told t = (has_token scope t ≡ true) × IsFound names scope good all t

  -- an expression that can be read
  pub record Ready (e : Expr N M) : Type 0 where
    pub plain : is_plain signal memory e ≡ true
    pub told : AllByRecursion Told (tokens_in e)

  -- a name before a mark
  named_read : (k : ℕ) (t : Token N M) (r : List ℕ) → has_token scope t ≡ true → stops r ≡ true
      → reads_in (suc k) (spelled names t ++ r) ≡ named names all (reads_in k) (spelled names t) r
  unfolding read
  named_read k t r h follows = by (spelled names t) (token_is_name names scope good t h) where
    by : (w : List ℕ) → is_name w ≡ true → start names all (reads_in k) (w ++ r) ≡ named names all (reads_in k) w r
    by [] h = absurd (false≢true h)
    by (b ∷ bs) h =
        let p = and_parts (is_word_byte b) _ h in
        ap (λ c. if c then named names all (reads_in k) (run (b ∷ (bs ++ r))).0 (run (b ∷ (bs ++ r))).1
        else marked names all (reads_in k) b (bs ++ r)) p.0
        ∙ ap (λ (q : List ℕ × List ℕ). named names all (reads_in k) q.0 q.1) (run_is (b ∷ bs) r h follows)

  -- an expression of so many steps is read back, whatever follows it
  abbrev pub IsRead : ℕ → Expr N M → Type 0
  IsRead k e = (r : List ℕ) → can_follow r ≡ true → reads_in k (text e ++ r) ≡ got names all (bare e) r

  abbrev told_signal : (n : N) → Told (SignalName n) → signal_of names all (names.signal n) ≡ Some n
  told_signal n t = ap (signal_told names all) t.1

  abbrev told_memory : (m : M) → Told (MemoryName m) → memory_of names all (names.memory m) ≡ Some m
  told_memory m t = ap (memory_told names all) t.1

  abbrev told_operation : (op : ℕ) → Told (OperationName op) → operation_of names all (names.op op) ≡ Some op
  told_operation op t = ap (operation_told names all) t.1

  abbrev told_number : (n : ℕ) → Told (Number n) → number_of names all (decimal n) ≡ Some n
  told_number n t = ap (number_told names all) t.1

  -- a number up to a mark
  number_run : (n : ℕ) (r : List ℕ) → Told (Number n) → stops r ≡ true → run (decimal n ++ r) ≡ cut (decimal n) r
  number_run n r t follows = run_is (decimal n) r (name_letters (decimal n) (token_is_name names scope good (Number n) t.0)) follows

  constant_read : (k width word : ℕ) → Told (Number width) → Told (Number word) → IsRead (suc k) (Const width word)
  constant_read k width word wide is r follows =
      ap (reads_in (suc k)) (constant_before width word r)
      ∙ named_read k (Number width) (39 ∷ 100 ∷ (decimal word ++ r)) wide.0 refl
      ∙ ap (λ o. after o (λ w. after (number_of names all (run (decimal word ++ r)).0) (λ n. got names all (Const w n) (run (decimal word ++ r)).1)))
      (told_number width wide)
      ∙ ap (λ (q : List ℕ × List ℕ). after (number_of names all q.0) (λ n. got names all (Const width n) q.1))
      (number_run word r is (follows_stops r follows))
      ∙ ap (λ o. after o (λ n. got names all (Const width n) r)) (told_number word is)

  signal_read : (k : ℕ) (n : N) → Told (SignalName n) → IsRead (suc k) (Signal n)
  signal_read k n t r follows =
      named_read k (SignalName n) r t.0 (follows_stops r follows) ∙ by r follows
      ∙ ap (λ o. after o (λ x. got names all (Signal x) r)) (told_signal n t) where
        by : (s : List ℕ) → can_follow s ≡ true
            → named names all (reads_in k) (names.signal n) s ≡ a_signal names all (names.signal n) s
        by [] h = refl
        by (b ∷ s) h = at (is_word_byte b) (b == 39) (b == 91) (b == 40) h where
          at : (l c d e : Bool) → not (l || (c || (d || e))) ≡ true
              → (if c then a_constant names all (names.signal n) s
              else if d then otherwise (after (reads_in k s) (λ p. a_word names all (codes "]") (names.signal n) p.0 p.1))
              (a_part names all (names.signal n) s)
              else if e then after (reads_in k s) (λ p. otherwise (a_word names all (codes ")") (names.signal n) p.0 p.1)
              (a_call names all (reads_in k) (names.signal n) p.0 p.1))
              else a_signal names all (names.signal n) (b ∷ s)) ≡ a_signal names all (names.signal n) (b ∷ s)
          at false false false false h = refl
          at true c d e h = absurd (false≢true h)
          at false true d e h = absurd (false≢true h)
          at false false true e h = absurd (false≢true h)
          at false false false true h = absurd (false≢true h)

  -- a number and `+` are no word of a memory
  no_address : (k low : ℕ) (word r : List ℕ) → Told (Number low)
      → after (reads_in k (decimal low ++ (43 ∷ r))) (λ p. a_word names all (codes "]") word p.0 p.1) ≡ None
  unfolding read
  no_address zero low word r t = refl
  no_address (suc k) low word r t =
      ap (λ o. after o (λ p. a_word names all (codes "]") word p.0 p.1)) (named_read k (Number low) (43 ∷ r) t.0 refl)
      ∙ by (signal_of names all (decimal low)) where
        by : (o : Option N) → after (after o (λ n. got names all (Signal n) (43 ∷ r)))
            (λ p. a_word names all (codes "]") word p.0 p.1) ≡ None
        by None = refl
        by (Some n) = refl

  -- what is read of a part after its first bit
  abbrev width_after : N → ℕ → List ℕ × List ℕ → Found names all
  width_after n low q =
      after (number_of names all q.0) (λ w. after (past (codes "]") q.1)
      (λ s. after (signal_of names all (names.signal n)) (λ x. got names all (Slice low w (Signal x)) s)))

  part_read : (k low width : ℕ) (n : N) → Told (Number low) → Told (Number width) → Told (SignalName n)
      → IsRead (suc k) (Slice low width (Signal n))
  part_read k low width n is wide t r follows =
      let rest : List ℕ = 58 ∷ (decimal width ++ (93 ∷ r)) in
      ap (reads_in (suc k)) (part_before (names.signal n) low width r)
      ∙ named_read k (SignalName n) (91 ∷ (decimal low ++ (43 ∷ rest))) t.0 refl
      ∙ ap (λ o. otherwise o (a_part names all (names.signal n) (decimal low ++ (43 ∷ rest))))
      (no_address k low (names.signal n) rest is)
      ∙ ap (λ (q : List ℕ × List ℕ). after (number_of names all q.0) (λ l. after (past (codes "+:") q.1) (λ s. width_after n l (run s))))
      (number_run low (43 ∷ rest) is refl)
      ∙ ap (λ o. after o (λ l. width_after n l (run (decimal width ++ (93 ∷ r))))) (told_number low is)
      ∙ ap (λ (q : List ℕ × List ℕ). width_after n low q) (number_run width (93 ∷ r) wide refl)
      ∙ ap (λ o. after o (λ w. after (signal_of names all (names.signal n)) (λ x. got names all (Slice low w (Signal x)) r)))
      (told_number width wide)
      ∙ ap (λ o. after o (λ x. got names all (Slice low width (Signal x)) r)) (told_signal n t)

  -- a word of a memory
  word_read : (k : ℕ) (m : M) (e : Expr N M) → Told (MemoryName m) → IsRead k e → IsRead (suc k) (Read m e)
  word_read k m e t of_e r follows = by (names.is_constant m) where
    by : (c : Bool) → reads_in (suc k) (reading c (names.memory m) (text e) ++ r) ≡ got names all (Read m (bare e)) r
    by true =
        ap (reads_in (suc k)) (kept_before (names.memory m) (text e) r)
        ∙ named_read k (MemoryName m) (40 ∷ (text e ++ (41 ∷ r))) t.0 refl
        ∙ ap (λ o. after o (λ p. otherwise (a_word names all (codes ")") (names.memory m) p.0 p.1)
        (a_call names all (reads_in k) (names.memory m) p.0 p.1))) (of_e (41 ∷ r) refl)
        ∙ ap (λ o. otherwise (after o (λ x. got names all (Read x (bare e)) r))
        (a_call names all (reads_in k) (names.memory m) (bare e) (41 ∷ r))) (told_memory m t)
    by false =
        ap (reads_in (suc k)) (stored_before (names.memory m) (text e) r)
        ∙ named_read k (MemoryName m) (91 ∷ (text e ++ (93 ∷ r))) t.0 refl
        ∙ ap (λ o. otherwise (after o (λ p. a_word names all (codes "]") (names.memory m) p.0 p.1))
        (a_part names all (names.memory m) (text e ++ (93 ∷ r)))) (of_e (93 ∷ r) refl)
        ∙ ap (λ o. otherwise (after o (λ x. got names all (Read x (bare e)) r))
        (a_part names all (names.memory m) (text e ++ (93 ∷ r)))) (told_memory m t)

  call_read : (k op : ℕ) (a b : Expr N M) → Told (OperationName op) → IsRead k a → IsRead k b → IsRead (suc k) (Apply op a b)
  call_read k op a b t of_a of_b r follows =
      ap (reads_in (suc k)) (call_before (names.op op) (text a) (text b) r)
      ∙ named_read k (OperationName op) (40 ∷ (text a ++ (44 ∷ (text b ++ (41 ∷ r))))) t.0 refl
      ∙ ap (λ o. after o (λ p. otherwise (a_word names all (codes ")") (names.op op) p.0 p.1)
      (a_call names all (reads_in k) (names.op op) p.0 p.1))) (of_a (44 ∷ (text b ++ (41 ∷ r))) refl)
      ∙ ap (λ o. after o (λ q. after (operation_of names all (names.op op)) (λ x. closed names all (Apply x (bare a) q.0) q.1)))
      (of_b (41 ∷ r) refl)
      ∙ ap (λ o. after o (λ x. got names all (Apply x (bare a) (bare b)) r)) (told_operation op t)

  -- two words with a sign between them
  two : (k : ℕ) (sign : List ℕ) (f : Made names all) (a b : Expr N M)
      → ((t : List ℕ) → second names all (reads_in k) (bare a) (41 ∷ (sign ++ (40 ∷ t)))
      ≡ after (reads_in k t) (λ p. closed names all (f (bare a) p.0) p.1))
      → IsRead k a → IsRead k b → (r : List ℕ) → can_follow r ≡ true
      → reads_in (suc k) (between sign (text a) (text b) ++ r) ≡ got names all (f (bare a) (bare b)) r
  unfolding read
  two k sign f a b signed of_a of_b r follows =
      ap (reads_in (suc k)) (between_before sign (text a) (text b) r)
      ∙ ap (λ o. after o (λ p. second names all (reads_in k) p.0 p.1)) (of_a (41 ∷ (sign ++ (40 ∷ (text b ++ (41 ∷ r))))) refl)
      ∙ signed (text b ++ (41 ∷ r))
      ∙ ap (λ o. after o (λ p. closed names all (f (bare a) p.0) p.1)) (of_b (41 ∷ r) refl)

  choice_read : (k : ℕ) (test on off : Expr N M) → IsRead k test → IsRead k on → IsRead k off → IsRead (suc k) (Select test on off)
  unfolding read
  choice_read k test on off of_test of_on of_off r follows =
      let rest : List ℕ = 41 ∷ 63 ∷ 40 ∷ (text on ++ (41 ∷ 58 ∷ (text off ++ r))) in
      ap (reads_in (suc k)) (choice_before (text test) (text on) (text off) r)
      ∙ ap (λ o. after o (λ p. second names all (reads_in k) p.0 p.1)) (of_test rest refl)
      ∙ ap (λ o. otherwise (after o (λ p. a_choice names all (reads_in k) (bare test) p.0 p.1)) None)
      (of_on (41 ∷ 58 ∷ (text off ++ r)) refl)
      ∙ ap (λ o. otherwise (after o (λ p. got names all (Select (bare test) (bare on) p.0) p.1)) None) (of_off r follows)

  join_read : (k width : ℕ) (high low : Expr N M) → IsRead k high → IsRead k low → IsRead (suc k) (Join width high low)
  unfolding read
  join_read k width high low of_high of_low r follows =
      ap (reads_in (suc k)) (joined_before (text high) (text low) r)
      ∙ ap (λ o. after o (λ p. a_join names all (reads_in k) p.0 p.1)) (of_high (44 ∷ (text low ++ (125 ∷ r))) refl)
      ∙ ap (λ o. after o (λ p. after (past (codes "}") p.1) (got names all (Join 0 (bare high) p.0)))) (of_low (125 ∷ r) refl)

  not_read : (k : ℕ) (e : Expr N M) → IsRead k e → IsRead (suc k) (Not e)
  unfolding read
  not_read k e of_e r follows =
      ap (reads_in (suc k)) (negated_before (text e) r) ∙ ap (λ o. after o (λ p. closed names all (Not p.0) p.1)) (of_e (41 ∷ r) refl)

  -- ---- all expressions

  -- the two parts of an expression
  parts : (a b : Expr N M) → (is_plain signal memory a && is_plain signal memory b) ≡ true
      → AllByRecursion Told (tokens_in a ++ tokens_in b) → Ready a × Ready b
  parts a b plain told =
      let p = and_parts (is_plain signal memory a) (is_plain signal memory b) plain in
      let t = all_halves Told (tokens_in a) (tokens_in b) told in
      (record { plain = p.0; told = t.0 }, record { plain = p.1; told = t.1 })

  slice_read : (k low w : ℕ) (e : Expr N M) → Ready (Slice low w e) → IsRead (suc k) (Slice low w e)
  slice_read k low w (Signal n) is = part_read k low w n is.told.0 is.told.1.0 is.told.1.1.0
  slice_read k low w e is = absurd (false≢true (and_parts (nat_lt 0 w) false is.plain).1)

  pub reads : (k : ℕ) (e : Expr N M) → size e ≤ k → Ready e → IsRead k e
  unfolding size
  reads zero e few is = absurd (omega (arith, few, some_steps e))
  reads (suc k) (Const w n) few is = constant_read k w n is.told.0 is.told.1.0
  reads (suc k) (Signal n) few is = signal_read k n is.told.0
  reads (suc k) (Slice low w e) few is = slice_read k low w e is
  reads (suc k) (Join w high low) few is =
      let p = parts high low is.plain is.told in
      join_read k w high low (reads k high (omega (arith, few)) p.0) (reads k low (omega (arith, few)) p.1)
  reads (suc k) (Select test on off) few is =
      let p = and_parts (is_plain signal memory test) (is_plain signal memory on && is_plain signal memory off) is.plain in
      let t = all_halves Told (tokens_in test) (tokens_in on ++ tokens_in off) is.told in
      let q = parts on off p.1 t.1 in
      choice_read k test on off (reads k test (omega (arith, few)) (record { plain = p.0; told = t.0 }))
      (reads k on (omega (arith, few)) q.0) (reads k off (omega (arith, few)) q.1)
  reads (suc k) (Not e) few is = not_read k e (reads k e (omega (arith, few)) (record { plain = is.plain; told = is.told }))
  reads (suc k) (Read m e) few is =
      let p = and_parts (nat_lt 0 (memory m)) (is_plain signal memory e) is.plain in
      word_read k m e is.told.0 (reads k e (omega (arith, few)) (record { plain = p.1; told = is.told.1 }))
  reads (suc k) (Apply op a b) few is =
      let p = parts a b is.plain is.told.1 in
      call_read k op a b is.told.0 (reads k a (omega (arith, few)) p.0) (reads k b (omega (arith, few)) p.1)
  reads (suc k) (Both a b) few is =
      let p = parts a b is.plain is.told in
      two k (codes "&&") Both a b (λ t. refl) (reads k a (omega (arith, few)) p.0) (reads k b (omega (arith, few)) p.1)
  reads (suc k) (Either a b) few is =
      let p = parts a b is.plain is.told in
      two k (codes "||") Either a b (λ t. refl) (reads k a (omega (arith, few)) p.0) (reads k b (omega (arith, few)) p.1)
  reads (suc k) (Equal a b) few is =
      let p = parts a b is.plain is.told in
      two k (codes "==") Equal a b (λ t. refl) (reads k a (omega (arith, few)) p.0) (reads k b (omega (arith, few)) p.1)
  reads (suc k) (Below a b) few is =
      let p = parts a b is.plain is.told in
      two k (codes "<") Below a b (λ t. refl) (reads k a (omega (arith, few)) p.0) (reads k b (omega (arith, few)) p.1)
  reads (suc k) (BitAnd a b) few is =
      let p = parts a b is.plain is.told in
      two k (codes "&") BitAnd a b (λ t. refl) (reads k a (omega (arith, few)) p.0) (reads k b (omega (arith, few)) p.1)
  reads (suc k) (BitOr a b) few is =
      let p = parts a b is.plain is.told in
      two k (codes "|") BitOr a b (λ t. refl) (reads k a (omega (arith, few)) p.0) (reads k b (omega (arith, few)) p.1)
  reads (suc k) (BitXor a b) few is =
      let p = parts a b is.plain is.told in
      two k (codes "^") BitXor a b (λ t. refl) (reads k a (omega (arith, few)) p.0) (reads k b (omega (arith, few)) p.1)
  reads (suc k) (Right a b) few is =
      let p = parts a b is.plain is.told in
      two k (codes ">>") Right a b (λ t. refl) (reads k a (omega (arith, few)) p.0) (reads k b (omega (arith, few)) p.1)
  reads (suc k) (Plus w a b) few is =
      let p = parts a b is.plain is.told in
      two k (codes "+") (Plus 0) a b (λ t. refl) (reads k a (omega (arith, few)) p.0) (reads k b (omega (arith, few)) p.1)
  reads (suc k) (Minus w a b) few is =
      let p = parts a b is.plain is.told in
      two k (codes "-") (Minus 0) a b (λ t. refl) (reads k a (omega (arith, few)) p.0) (reads k b (omega (arith, few)) p.1)
  reads (suc k) (Times w a b) few is =
      let p = parts a b is.plain is.told in
      two k (codes "*") (Times 0) a b (λ t. refl) (reads k a (omega (arith, few)) p.0) (reads k b (omega (arith, few)) p.1)
  reads (suc k) (Left w a b) few is =
      let p = parts a b is.plain is.told in
      two k (codes "<<") (Left 0) a b (λ t. refl) (reads k a (omega (arith, few)) p.0) (reads k b (omega (arith, few)) p.1)
