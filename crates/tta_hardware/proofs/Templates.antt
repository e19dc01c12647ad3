-- Which template an instruction has, and which buses it takes.
use Rattle.std.proofs.Common.{◌≡◌, ℕ, zero, suc, ◌+◌, ◌≤◌, Bool, true, false, ◌||◌, if◌then◌else◌, List, [], ◌∷◌, length, slice_get, Some, refl, sym, ap, ◌∙◌, arith}
use Rattle.std.proofs.lemmas.Bool.{eq-eqb, ne_eqb}
use Rattle.std.proofs.lemmas.Option.{none-some, same_Some}
use Rattle.tta_hardware.specs.Cited.{Units, Template, Machine, has_bit, Expr, Either, bit, is_set, value}
use Rattle.tta_hardware.specs.Parts.{template_part, has_template, takes_from, shares_from, long_from}

again : (b : Bool) → is_set (bit b) ≡ b
again true = refl
again false = refl

module _ {N M : Type 0} (u : Units) (ms : M → List ℕ) (env : N → ℕ) (m : Machine) (word : Expr N M) (code : ℕ)
    (told : value u ms env (template_part m word) ≡ code) where
  this : (k : ℕ) → code ≡ k + 1 → value u ms env (has_template m word k) ≡ 1
  this k is = ap bit (eq-eqb (value u ms env (template_part m word)) (k + 1) (told ∙ is))

  other : (k : ℕ) → (code ≡ k + 1 → ⊥) → value u ms env (has_template m word k) ≡ 0
  other k apart = ap bit (ne_eqb (value u ms env (template_part m word)) (k + 1) (λ e. apart (sym told ∙ e)))

  -- no template from a number on is that of a lower code
  pub takes_none : (bus k : ℕ) (ts : List Template) → code ≤ k → is_set (value u ms env (takes_from m word bus k ts)) ≡ false
  takes_none bus k [] low = refl
  takes_none bus k (t ∷ ts) low = by (has_bit t.buses bus) (takes_none bus (k + 1) ts (omega arith)) where
    by : (b : Bool) → is_set (value u ms env (takes_from m word bus (k + 1) ts)) ≡ false
        → is_set (value u ms env (if b then Either (has_template m word k) (takes_from m word bus (k + 1) ts)
        else takes_from m word bus (k + 1) ts)) ≡ false
    by true rest =
        ap (λ (x : ℕ). is_set (bit (is_set x || is_set (value u ms env (takes_from m word bus (k + 1) ts))))) (other k (λ e. omega arith))
        ∙ ap (λ (x : Bool). is_set (bit x)) rest
    by false rest = rest

  -- the template of a code takes its buses
  pub takes_some : (bus k j : ℕ) (ts : List Template) (t : Template) → code ≡ k + j + 1 → slice_get ts j ≡ Some t
      → is_set (value u ms env (takes_from m word bus k ts)) ≡ has_bit t.buses bus
  takes_some bus k j [] t is at = absurd (none-some t at)
  takes_some bus k zero (x ∷ ts) t is at =
      by (has_bit x.buses bus) (takes_none bus (k + 1) ts (omega arith))
      ∙ ap (λ (y : Template). has_bit y.buses bus) (same_Some x t at) where
        by : (b : Bool) → is_set (value u ms env (takes_from m word bus (k + 1) ts)) ≡ false
            → is_set (value u ms env (if b then Either (has_template m word k) (takes_from m word bus (k + 1) ts)
            else takes_from m word bus (k + 1) ts)) ≡ b
        by true rest =
            ap (λ (x : ℕ). is_set (bit (is_set x || is_set (value u ms env (takes_from m word bus (k + 1) ts))))) (this k (omega arith))
        by false rest = rest
  takes_some bus k (suc j) (x ∷ ts) t is at =
      by (has_bit x.buses bus) (has_bit t.buses bus) (takes_some bus (k + 1) j ts t (omega arith) at) where
        by : (b c : Bool) → is_set (value u ms env (takes_from m word bus (k + 1) ts)) ≡ c
            → is_set (value u ms env (if b then Either (has_template m word k) (takes_from m word bus (k + 1) ts)
            else takes_from m word bus (k + 1) ts)) ≡ c
        by true c rest =
            ap (λ (x : ℕ). is_set (bit (is_set x || is_set (value u ms env (takes_from m word bus (k + 1) ts)))))
            (other k (λ e. omega arith))
            ∙ ap (λ (x : Bool). is_set (bit x)) rest ∙ again c
        by false c rest = rest

  -- no long immediate is that of a lower code
  pub long_none : (k : ℕ) (ts : List Template) → code ≤ k → value u ms env (long_from m word k ts) ≡ 0
  long_none k [] low = refl
  long_none k (t ∷ ts) low =
      ap (λ (x : ℕ). if is_set x then value u ms env (shares_from m word t.buses 0 (length m.buses))
      else value u ms env (long_from m word (k + 1) ts)) (other k (λ e. omega arith))
      ∙ long_none (k + 1) ts (omega arith)

  -- the long immediate of a code's template
  pub long_some : (k j : ℕ) (ts : List Template) (t : Template) → code ≡ k + j + 1 → slice_get ts j ≡ Some t
      → value u ms env (long_from m word k ts) ≡ value u ms env (shares_from m word t.buses 0 (length m.buses))
  long_some k j [] t is at = absurd (none-some t at)
  long_some k zero (x ∷ ts) t is at =
      ap (λ (y : ℕ). if is_set y then value u ms env (shares_from m word x.buses 0 (length m.buses))
      else value u ms env (long_from m word (k + 1) ts)) (this k (omega arith))
      ∙ ap (λ (y : Template). value u ms env (shares_from m word y.buses 0 (length m.buses))) (same_Some x t at)
  long_some k (suc j) (x ∷ ts) t is at =
      ap (λ (y : ℕ). if is_set y then value u ms env (shares_from m word x.buses 0 (length m.buses))
      else value u ms env (long_from m word (k + 1) ts)) (other k (λ e. omega arith))
      ∙ long_some (k + 1) j ts t (omega arith) at
