-- What stands at a place after another was written.
use Rattle.std.proofs.Common.{◌≡◌, ◌≢◌, ◌==◌, ◌∷◌, [], ℕ, Bool, List, Some, true, false, refl, sym, ap, ◌∙◌}
use Rattle.std.specs.List.{list_any}
use Rattle.std.proofs.lemmas.Bool.{eq-eqb, ne_eqb, eqb-true}
use Rattle.tta_lower.specs.Cited.{Place, Kept, Plain, found, plain, word, put_reg, put_slot, stay}
use Rattle.tta_lir.specs.declared.code.Place.TheVariants.{Reg, Frame}

-- what was found first
pub found-same : {A : Type 0} (k : ℕ) (v : A) (es : List (ℕ × A)) → found k ((k, v) ∷ es) ≡ Some v
found-same k v es = rw (eq-eqb k k refl) refl

-- what another entry hides nothing of
pub found-other : {A : Type 0} (j k : ℕ) (v : A) (es : List (ℕ × A)) → j ≢ k → found k ((j, v) ∷ es) ≡ found k es
found-other j k v es ne = rw (ne_eqb j k ne) refl

-- the place that was written
pub word-same : (d : Place) (w : ℕ) (regs : List (ℕ × ℕ)) (frame : List (ℕ × Kept)) → word (put_reg d w regs) (put_slot d w frame) d ≡ Some w
word-same (Reg k) w regs frame = found-same k w regs
word-same (Frame f) w regs frame = ap plain (found-same f (Plain w) frame)

-- any other place
pub word-other : (d e : Place) (w : ℕ) (regs : List (ℕ × ℕ)) (frame : List (ℕ × Kept)) → d ≢ e
    → word (put_reg d w regs) (put_slot d w frame) e ≡ word regs frame e
word-other (Reg j) (Reg k) w regs frame ne = found-other j k w regs (λ e. ne (ap Reg e))
word-other (Reg j) (Frame f) w regs frame ne = refl
word-other (Frame g) (Reg k) w regs frame ne = refl
word-other (Frame g) (Frame f) w regs frame ne = ap plain (found-other g f (Plain w) frame (λ e. ne (ap Frame e)))

-- a register that stays after a block keeps its word
pub found-stay : (k : ℕ) (kept : List ℕ) (es : List (ℕ × ℕ)) → list_any (λ l. l == k) kept ≡ true → found k (stay kept es) ≡ found k es
found-stay k kept [] h = refl
found-stay k kept (e ∷ es) h = by (found-stay k kept es h) (list_any (λ l. l == e.0) kept) refl (e.0 == k) refl where
  by : found k (stay kept es) ≡ found k es → (b : Bool) → list_any (λ l. l == e.0) kept ≡ b → (c : Bool) → (e.0 == k) ≡ c → found k (stay kept (e ∷ es)) ≡ found k (e ∷ es)
  by rest true is true same = rw (is, same) refl
  by rest true is false other = rw (is, other) rest
  by rest false is true same =
      let eq : e.0 ≡ k = eqb-true e.0 k same in
      let no : list_any (λ l. l == k) kept ≡ false = ap (λ m. list_any (λ l. l == m) kept) (sym eq) ∙ is in
      cc
  by rest false is false other = rw (is, other) rest
