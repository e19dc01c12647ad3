-- The text of a memory that is written tells the words that it begins with.
use Rattle.std.proofs.Common.{◌≡◌, ℕ, ◌<◌, ◌+◌, ◌-◌, ◌^◌, ◌==◌, Bool, true, false, nat_lt, List, [], ◌∷◌, ◌++◌, length, refl, sym, ap, ap₂, ◌∙◌, arith, append_assoc}
use Rattle.std.specs.Prelude.{if◌then◌else◌, codes, decimal, drop}
use Rattle.std.specs.List.{flat_map, enumerate_from, AllByRecursion}
use Rattle.std.proofs.lemmas.Bool.{ltb-true, eqb-true}
use Rattle.std.proofs.lemmas.List.{append_cancel_left}
use Rattle.tta_verilog.specs.Expressions.{constant}
use Rattle.tta_verilog.specs.Circuits.{range, first_line, array_zeros, array_start}
use Rattle.tta_verilog.specs.Spelling.{is_name}
use Rattle.tta_verilog.proofs.Lines.{first, word_alike, number_alike, range_alike}

-- the line of a first word that is not 0
abbrev shown : (name : List ℕ) → (width k word : ℕ) → List ℕ
shown name width k word = name ++ (codes "[" ++ (decimal k ++ (codes "] = " ++ (constant width word ++ codes ";\n"))))

shown_before : (name : List ℕ) (width k word : ℕ) (r : List ℕ) → shown name width k word ++ r
    ≡ name ++ (91 ∷ (decimal k ++ (93 ∷ 32 ∷ 61 ∷ 32 ∷ (decimal width ++ (39 ∷ 100 ∷ (decimal word ++ (59 ∷ 10 ∷ r)))))))
unfolding constant
shown_before name width k word r = simp append_assoc

module _ (name : List ℕ) (named : is_name name ≡ true) (width : ℕ) where
  -- the words from an address on
  abbrev pub firsts_from : (k : ℕ) → (words : List ℕ) → List ℕ
  firsts_from k words = flat_map (λ x. first_line name width x.0 x.1) (enumerate_from k words)

  abbrev pub AreSmall : List ℕ → Type 0
  AreSmall words = AllByRecursion (λ w. nat_lt w (2 ^ 64) ≡ true) words

  -- the lines that follow a first word, where it is 0 and where it is not
  zero_more : (k x : ℕ) (xs r : List ℕ) → (x == 0) ≡ true → firsts_from k (x ∷ xs) ++ r ≡ firsts_from (k + 1) xs ++ r
  unfolding first_line
  zero_more k x xs r is = ap (λ c. ((if c then [] else shown name width k x) ++ firsts_from (k + 1) xs) ++ r) is

  shown_more : (k x : ℕ) (xs r : List ℕ) → (x == 0) ≡ false → firsts_from k (x ∷ xs) ++ r
      ≡ name ++ (91 ∷ (decimal k ++ (93 ∷ 32 ∷ 61 ∷ 32 ∷ (decimal width ++ (39 ∷ 100 ∷ (decimal x ++ (59 ∷ 10 ∷ (firsts_from (k + 1) xs ++ r))))))))
  unfolding first_line
  shown_more k x xs r is =
      ap (λ c. ((if c then [] else shown name width k x) ++ firsts_from (k + 1) xs) ++ r) is
      ∙ append_assoc (shown name width k x) (firsts_from (k + 1) xs) r ∙ shown_before name width k x (firsts_from (k + 1) xs ++ r)

  -- no line of a later word, nor the end, is that of a word
  later : (k j : ℕ) (xs r t : List ℕ) → k < j → j + length xs < 2 ^ 64
      → firsts_from j xs ++ (codes "end\n" ++ r) ≡ name ++ (91 ∷ (decimal k ++ (93 ∷ t))) → ⊥
  later k j [] r t less small is =
      let e : 10 ≡ 91 = ap first (word_alike (codes "end") name (10 ∷ r) (91 ∷ (decimal k ++ (93 ∷ t))) refl named refl refl is).1 in
      omega (arith, e)
  later k j (x ∷ xs) r t less small is =
      by (x == 0) refl (λ e. later k (j + 1) xs r t (omega (arith, less)) (omega (arith, small)) e) where
        by : (c : Bool) → (x == 0) ≡ c
            → (firsts_from (j + 1) xs ++ (codes "end\n" ++ r) ≡ name ++ (91 ∷ (decimal k ++ (93 ∷ t))) → ⊥) → ⊥
        by true zero again = again (sym (zero_more j x xs (codes "end\n" ++ r) zero) ∙ is)
        by false some again =
            let at = append_cancel_left name _ _ (sym (shown_more j x xs (codes "end\n" ++ r) some) ∙ is) in
            let e = (number_alike j k _ _ (omega (arith, small)) (omega (arith, less, small)) refl refl (ap (drop 1) at)).0 in
            omega (arith, e, less)

  pub firsts_alike : (k : ℕ) (xs ys r s : List ℕ) → length xs ≡ length ys → k + length xs < 2 ^ 64 → AreSmall xs → AreSmall ys
      → firsts_from k xs ++ (codes "end\n" ++ r) ≡ firsts_from k ys ++ (codes "end\n" ++ s) → (xs ≡ ys) × (r ≡ s)
  firsts_alike k [] [] r s long small fit_x fit_y is = (refl, ap (drop 4) is)
  firsts_alike k [] (y ∷ ys) r s long small fit_x fit_y is = absurd (omega (arith, long))
  firsts_alike k (x ∷ xs) [] r s long small fit_x fit_y is = absurd (omega (arith, long))
  firsts_alike k (x ∷ xs) (y ∷ ys) r s long small fit_x fit_y is =
      by (λ e. firsts_alike (k + 1) xs ys r s (omega (arith, long)) (omega (arith, small)) fit_x.1 fit_y.1 e) (x == 0) (y == 0) refl refl where
        by : (firsts_from (k + 1) xs ++ (codes "end\n" ++ r) ≡ firsts_from (k + 1) ys ++ (codes "end\n" ++ s) → (xs ≡ ys) × (r ≡ s))
            → (c d : Bool) → (x == 0) ≡ c → (y == 0) ≡ d → ((x ∷ xs) ≡ (y ∷ ys)) × (r ≡ s)
        by again true true c d =
            let t = again (sym (zero_more k x xs (codes "end\n" ++ r) c) ∙ is ∙ zero_more k y ys (codes "end\n" ++ s) d) in
            (ap₂ (λ h t. h ∷ t) (eqb-true x 0 c ∙ sym (eqb-true y 0 d)) t.0, t.1)
        by again true false c d =
            absurd (later k (k + 1) xs r _ (omega arith) (omega (arith, small))
            (sym (zero_more k x xs (codes "end\n" ++ r) c) ∙ is ∙ shown_more k y ys (codes "end\n" ++ s) d))
        by again false true c d =
            absurd (later k (k + 1) ys s _ (omega arith) (omega (arith, small, long))
            (sym (zero_more k y ys (codes "end\n" ++ s) d) ∙ sym is ∙ shown_more k x xs (codes "end\n" ++ r) c))
        by again false false c d =
            let at = append_cancel_left name _ _ (sym (shown_more k x xs (codes "end\n" ++ r) c) ∙ is ∙ shown_more k y ys (codes "end\n" ++ s) d) in
            let wide = append_cancel_left (decimal k) _ _ (ap (drop 1) at) in
            let word = append_cancel_left (decimal width) _ _ (ap (drop 4) wide) in
            let n = number_alike x y _ _ (ltb-true x (2 ^ 64) fit_x.0) (ltb-true y (2 ^ 64) fit_y.0) refl refl (ap (drop 2) word) in
            let t = again (ap (drop 2) n.1) in
            (ap₂ (λ h t. h ∷ t) n.0 t.0, t.1)

  pub zeros_before : (size : ℕ) (r : List ℕ) → array_zeros name width size ++ r
      ≡ codes "];\ninitial begin\n`ifndef SYNTHESIS\nfor (k = 0; k < " ++ (decimal size ++ (59 ∷ (codes " k = k + 1) "
      ++ (name ++ (codes "[k] = " ++ (constant width 0 ++ (codes ";\n`endif\n" ++ r)))))))
  unfolding array_zeros
  zeros_before size r = simp append_assoc

pub array_before : (name : List ℕ) (width size : ℕ) (r : List ℕ) → array_start name width size ++ r
    ≡ codes "reg " ++ (range width ++ (name ++ (codes " [0:" ++ (decimal (size - 1) ++ (array_zeros name width size ++ r)))))
unfolding array_start
array_before name width size r = simp append_assoc

-- the text of such a memory
abbrev pub array_of : (name : List ℕ) → (width : ℕ) → (words : List ℕ) → List ℕ
array_of name width words =
    array_start name width (length words) ++ (flat_map (λ x. first_line name width x.0 x.1) (enumerate_from 0 words) ++ codes "end\n")

-- its text before another, from its width on
pub array_text_before : (name : List ℕ) (width : ℕ) (words r : List ℕ) → array_of name width words ++ r
    ≡ codes "reg " ++ (range width ++ (name ++ (codes " [0:" ++ (decimal (length words - 1) ++ (array_zeros name width (length words)
    ++ (flat_map (λ x. first_line name width x.0 x.1) (enumerate_from 0 words) ++ (codes "end\n" ++ r)))))))
array_text_before name width words r =
    append_assoc (array_start name width (length words)) _ r
    ∙ ap (λ t. array_start name width (length words) ++ t) (append_assoc (flat_map (λ x. first_line name width x.0 x.1) (enumerate_from 0 words)) (codes "end\n") r)
    ∙ array_before name width (length words) _

module _ (name : List ℕ) (named : is_name name ≡ true) (width : ℕ) where
  -- the words of two memories of one name and width
  words_alike : (xs ys r s : List ℕ) → length xs < 2 ^ 64 → length ys < 2 ^ 64 → AreSmall name named width xs → AreSmall name named width ys
      → array_zeros name width (length xs) ++ (firsts_from name named width 0 xs ++ (codes "end\n" ++ r))
      ≡ array_zeros name width (length ys) ++ (firsts_from name named width 0 ys ++ (codes "end\n" ++ s)) → (xs ≡ ys) × (r ≡ s)
  words_alike xs ys r s p q fit_x fit_y is =
      let at = append_cancel_left (codes "];\ninitial begin\n`ifndef SYNTHESIS\nfor (k = 0; k < ") _ _
      (sym (zeros_before name named width (length xs) _) ∙ is ∙ zeros_before name named width (length ys) _) in
      let size = number_alike (length xs) (length ys) _ _ p q refl refl at in
      let again = append_cancel_left name _ _ (append_cancel_left (codes "; k = k + 1) ") _ _ size.1) in
      let zero = append_cancel_left (constant width 0) _ _ (append_cancel_left (codes "[k] = ") _ _ again) in
      firsts_alike name named width 0 xs ys r s size.0 (omega (arith, p)) fit_x fit_y (append_cancel_left (codes ";\n`endif\n") _ _ zero)

-- The text of such a memory tells its name, its width and its words.
pub array_alike : (a b : List ℕ) (v w : ℕ) (xs ys r s : List ℕ) → (a_named : is_name a ≡ true) → (b_named : is_name b ≡ true)
    → 0 < v → 0 < w → v < 2 ^ 64 → w < 2 ^ 64 → length xs < 2 ^ 64 → length ys < 2 ^ 64
    → AllByRecursion (λ n. nat_lt n (2 ^ 64) ≡ true) xs → AllByRecursion (λ n. nat_lt n (2 ^ 64) ≡ true) ys
    → array_of a v xs ++ r ≡ array_of b w ys ++ s → (a ≡ b) × (v ≡ w) × (xs ≡ ys) × (r ≡ s)
unfolding array_zeros
array_alike a b v w xs ys r s a_named b_named v_some w_some v_small w_small p q fit_x fit_y is =
    let at = ap (drop 4) (sym (array_text_before a v xs r) ∙ is ∙ array_text_before b w ys s) in
    let wide = range_alike v w _ _ v_some w_some v_small w_small at in
    let name = word_alike a b _ _ a_named b_named refl refl wide.1 in
    let last = number_alike (length xs - 1) (length ys - 1) _ _ (omega (arith, p)) (omega (arith, q)) refl refl (ap (drop 4) name.1) in
    let t = words_alike a a_named v xs ys r s p q fit_x fit_y (last.1 ∙ sym (ap₂ (λ n k. array_zeros n k (length ys)
    ++ (flat_map (λ x. first_line n k x.0 x.1) (enumerate_from 0 ys) ++ (codes "end\n" ++ s))) name.0 wide.0)) in
    (name.0, wide.0, t.0, t.1)
