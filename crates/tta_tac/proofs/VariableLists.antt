-- Variables get their numbers, and operands are among them.
use Rattle.std.proofs.Common.{◌≡◌, ℕ, suc, ◌+◌, ◌<◌, ◌≤◌, ◌^◌, Bool, true, false, List, [], ◌∷◌, ◌++◌, length, Option, Some, None, refl, ap, ◌∙◌, arith, length-append, inl, inr, ◌⊎◌}
use Rattle.std.specs.Prelude.{nat_lt, if◌then◌else◌, is_some}
use Rattle.std.specs.Option.{option_map_or}
use Rattle.std.specs.Str.{bytes_eq}
use Rattle.std.specs.List.{list_all}
use Rattle.std.proofs.lemmas.Bool.{lt-ltb, or_left, or_right}
use Rattle.std.specs.Cmp.Lexicographic.{nat_list_eq_equiv}
use Rattle.tta_list.proofs.Tests.{and_map}
use Rattle.tta_tac.specs.Cited.{Declared, named_in, is_src}
use Rattle.tta_tac.specs.Forms.{Operand, Named, Constant}
use Rattle.tta_tac.specs.FirstPass.{with_var, var_number, with_operand, with_operands, src_of, srcs_of, numbered}
use Rattle.tta_tac.proofs.Twice.{declared-more}

-- ---- names

module _ {P : Type 0} where
  -- what a name names after one more was declared
  pub named_more : (ds : Declared P) (name : List ℕ) (place : P) (m : List ℕ) (k : P) → named_in (ds ++ (name, place) ∷ []) m ≡ Some k
      → (named_in ds m ≡ Some k) ⊎ ((bytes_eq name m ≡ true) × (place ≡ k))
  named_more [] name place m k e = by (bytes_eq name m) refl e where
    by : (t : Bool) → bytes_eq name m ≡ t → (if t then Some place else None) ≡ Some k
        → (◌≡◌ {A = Option P} None (Some k)) ⊎ ((bytes_eq name m ≡ true) × (place ≡ k))
    by true at e = let same : place ≡ k = cc in inr (at, same)
    by false at e = inl e
  named_more (d ∷ ds) name place m k e = by (named_more ds name place m k) (bytes_eq d.0 m) e where
    by : (named_in (ds ++ (name, place) ∷ []) m ≡ Some k → (named_in ds m ≡ Some k) ⊎ ((bytes_eq name m ≡ true) × (place ≡ k)))
        → (t : Bool) → (if t then Some d.1 else named_in (ds ++ (name, place) ∷ []) m) ≡ Some k
        → ((if t then Some d.1 else named_in ds m) ≡ Some k) ⊎ ((bytes_eq name m ≡ true) × (place ≡ k))
    by rest true e = inl e
    by rest false e = rest e

  -- a name goes on naming, and the new one names something
  named_stays : (ds : Declared P) (name : List ℕ) (place : P) (m : List ℕ) → is_some (named_in ds m) ≡ true
      → is_some (named_in (ds ++ (name, place) ∷ []) m) ≡ true
  named_stays ds name place m e = declared-more ds name place m ∙ or_left (is_some (named_in ds m)) (bytes_eq m name) e

  named_last : (ds : Declared P) (name : List ℕ) (place : P) → is_some (named_in (ds ++ (name, place) ∷ []) name) ≡ true
  named_last ds name place = declared-more ds name place name ∙ or_right (is_some (named_in ds name)) (bytes_eq name name) (nat_list_eq_equiv.refl name)

-- ---- variables

-- each variable's number is below their number
pub record IsNumbered (vars : Declared ℕ) : Type 0 where
  pub below : (name : List ℕ) (k : ℕ) → named_in vars name ≡ Some k → k < length vars

-- more variables, none of which went
pub record Grows (old new : Declared ℕ) : Type 0 where
  pub numbered : IsNumbered old → IsNumbered new
  pub longer : length old ≤ length new
  pub stays : (m : List ℕ) → is_some (named_in old m) ≡ true → is_some (named_in new m) ≡ true

-- the same variables, one more, and others after these
pub grows_not : (vars : Declared ℕ) → Grows vars vars
grows_not vars = record { numbered = λ h. h; longer = omega arith; stays = λ m e. e }

pub grows_on : {a b c : Declared ℕ} → Grows a b → Grows b c → Grows a c
grows_on f g = record {
  numbered = λ h. g.numbered (f.numbered h);
  longer = let x = f.longer in let y = g.longer in omega arith;
  stays = λ m e. g.stays m (f.stays m e);
}

pub grows_var : (vars : Declared ℕ) (name : List ℕ) → Grows vars (with_var vars name)
grows_var vars name = by (is_some (named_in vars name)) where
  size : length (vars ++ (name, length vars) ∷ []) ≡ length vars + 1
  size = length-append vars ((name, length vars) ∷ [])

  below : IsNumbered vars → (m : List ℕ) (k : ℕ) → (named_in vars m ≡ Some k) ⊎ ((bytes_eq name m ≡ true) × (length vars ≡ k))
      → k < length (vars ++ (name, length vars) ∷ [])
  below h m k (inl at) = let b = h.below m k at in let s = size in omega arith
  below h m k (inr at) = let same = at.1 in let s = size in omega arith

  by : (t : Bool) → Grows vars (if t then vars else vars ++ (name, length vars) ∷ [])
  by true = grows_not vars
  by false = record {
    numbered = λ h. record { below = λ m k e. below h m k (named_more vars name (length vars) m k e) };
    longer = let s = size in omega arith;
    stays = named_stays vars name (length vars);
  }

-- a variable that was met has a number, which is below their count
pub has_var : (vars : Declared ℕ) (name : List ℕ) → is_some (named_in (with_var vars name) name) ≡ true
has_var vars name = by (is_some (named_in vars name)) refl where
  by : (t : Bool) → is_some (named_in vars name) ≡ t → is_some (named_in (if t then vars else vars ++ (name, length vars) ∷ []) name) ≡ true
  by true e = e
  by false e = named_last vars name (length vars)

pub var_kept : (vars : Declared ℕ) (name : List ℕ) → IsNumbered vars → is_some (named_in vars name) ≡ true
    → nat_lt (var_number vars name) (length vars) ≡ true
var_kept vars name h e = by (named_in vars name) refl e where
  by : (o : Option ℕ) → named_in vars name ≡ o → is_some o ≡ true → nat_lt (option_map_or (λ k. k) o 0) (length vars) ≡ true
  by None at e = absurd cc
  by (Some k) at e = lt-ltb k (length vars) (h.below name k at)

-- ---- operands

-- whether a constant is a word
abbrev pub fits : Operand → Bool
fits (Named name) = true
fits (Constant n) = nat_lt n (2 ^ 32)

-- an operand whose variable has a number
abbrev pub has : Declared ℕ → Operand → Bool
has vars (Named name) = is_some (named_in vars name)
has vars (Constant n) = nat_lt n (2 ^ 32)

-- an operand adds its variable, and has it from then on
pub grows_operand : (vars : Declared ℕ) (o : Operand) → Grows vars (with_operand vars o)
grows_operand vars (Named name) = grows_var vars name
grows_operand vars (Constant n) = grows_not vars

pub has_operand : (vars : Declared ℕ) (o : Operand) → fits o ≡ true → has (with_operand vars o) o ≡ true
has_operand vars (Named name) e = has_var vars name
has_operand vars (Constant n) e = e

pub has_more : {old new : Declared ℕ} → Grows old new → (o : Operand) → has old o ≡ true → has new o ≡ true
has_more g (Named name) e = g.stays name e
has_more g (Constant n) e = e

pub src_kept : (vars : Declared ℕ) (o : Operand) → IsNumbered vars → has vars o ≡ true → is_src (length vars) (src_of vars o) ≡ true
src_kept vars (Named name) h e = var_kept vars name h e
src_kept vars (Constant n) h e = e

-- the same of several
pub grows_operands : (vars : Declared ℕ) (os : List Operand) → Grows vars (with_operands vars os)
grows_operands vars [] = grows_not vars
grows_operands vars (o ∷ os) = grows_on (grows_operand vars o) (grows_operands (with_operand vars o) os)

pub has_operands : (vars : Declared ℕ) (os : List Operand) → list_all fits os ≡ true → list_all (has (with_operands vars os)) os ≡ true
has_operands vars [] e = refl
has_operands vars (o ∷ os) e =
    and_map (λ t. has_more (grows_operands (with_operand vars o) os) o (has_operand vars o t)) (has_operands (with_operand vars o) os) e

pub srcs_kept : (vars : Declared ℕ) (os : List Operand) → IsNumbered vars → list_all (has vars) os ≡ true
    → list_all (is_src (length vars)) (srcs_of vars os) ≡ true
srcs_kept vars [] h e = refl
srcs_kept vars (o ∷ os) h e = and_map (src_kept vars o h) (srcs_kept vars os h) e

-- ---- parameters

-- parameters are numbered from the first on
pub numbered_length : (k : ℕ) (names : List (List ℕ)) → length (numbered k names) ≡ length names
numbered_length k [] = refl
numbered_length k (name ∷ names) = ap suc (numbered_length (k + 1) names)

pub numbered_below : (k : ℕ) (names : List (List ℕ)) (m : List ℕ) (j : ℕ) → named_in (numbered k names) m ≡ Some j → j < k + length names
numbered_below k [] m j e = absurd cc
numbered_below k (name ∷ names) m j e = by (numbered_below (k + 1) names m j) (bytes_eq name m) e where
  by : (named_in (numbered (k + 1) names) m ≡ Some j → j < k + 1 + length names)
      → (t : Bool) → (if t then Some k else named_in (numbered (k + 1) names) m) ≡ Some j → j < k + length (name ∷ names)
  by rest true e = let same : k ≡ j = cc in omega arith
  by rest false e = let b = rest e in omega arith
