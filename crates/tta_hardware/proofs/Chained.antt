-- What expressions over lists come to: what the first element finds that passes a test.
use Rattle.std.proofs.Common.{◌≡◌, ℕ, Bool, true, false, not, ◌&&◌, ◌||◌, List, [], ◌∷◌, map, Option, Some, None, refl, ap, ◌∙◌}
use Rattle.std.specs.Prelude.{is_some, if◌then◌else◌}
use Rattle.std.specs.Option.{option_map_or}
use Rattle.std.specs.List.{find}
use Rattle.tta_hardware.specs.Cited.{Units, Expr, bit, is_set, value}
use Rattle.tta_hardware.specs.Chains.{any_of, first_of}

-- the word of a test tells whether it holds
pub set_bit : (b : Bool) → is_set (bit b) ≡ b
set_bit true = refl
set_bit false = refl

-- whether a clock carries an instruction out, from tests: whether it begins anew, whether the machine has halted, whether a word is
-- asked for and offered, and whether one is given and taken
goes_on : (h a o g r : Bool)
    → is_set (bit
    (is_set (bit (not h)) && is_set (bit (is_set (bit (is_set (bit (not a)) || o)) && is_set (bit (is_set (bit (not g)) || r))))))
    ≡ (not h && ((not a || o) && (not g || r)))
goes_on true a o g r = refl
goes_on false a o g r = let x = is_set (bit (is_set (bit (not a)) || o)) in let y = is_set (bit (is_set (bit (not g)) || r)) in
    set_bit (is_set (bit (x && y))) ∙ set_bit (x && y) ∙ ap (λ b. b && y) (unless a o) ∙ ap (λ b. (not a || o) && b) (unless g r) where
      unless : (a b : Bool) → is_set (bit (is_set (bit (not a)) || b)) ≡ (not a || b)
      unless true b = set_bit b
      unless false b = refl

pub going : (x h a o g r : Bool)
    → is_set (bit
    (is_set (bit (not x))
    && is_set (bit
    (is_set (bit (not h)) && is_set (bit (is_set (bit (is_set (bit (not a)) || o)) && is_set (bit (is_set (bit (not g)) || r))))))))
    ≡ (not x && (not h && ((not a || o) && (not g || r))))
going true h a o g r = refl
going false h a o g r =
    set_bit (is_set
    (bit (is_set (bit (not h)) && is_set (bit (is_set (bit (is_set (bit (not a)) || o)) && is_set (bit (is_set (bit (not g)) || r)))))))
    ∙ goes_on h a o g r

-- a choice is found or not
pub some_if : {A : Type 0} (b : Bool) (x : A) → is_some (if b then Some x else None) ≡ b
some_if true x = refl
some_if false x = refl

or_found : {A : Type 0} (a : Bool) (x : A) (b : Bool) (o : Option A) → b ≡ is_some o → (a || b) ≡ is_some (if a then Some x else o)
or_found true x b o e = refl
or_found false x b o e = e

if_found : {A : Type 0} (g : A → ℕ) (a : Bool) (x : A) (w d : ℕ) (o : Option A) → w ≡ option_map_or g o d
    → (if a then g x else w) ≡ option_map_or g (if a then Some x else o) d
if_found g true x w d o e = refl
if_found g false x w d o e = e

module _ {N M A : Type 0} (u : Units) (ms : M → List ℕ) (env : N → ℕ) where
  -- one of some tests holds where one is found that does
  pub any_found : (f : A → Expr N M) (xs : List A) → is_set (value u ms env (any_of (map f xs)))
      ≡ is_some (find (λ x. is_set (value u ms env (f x))) xs)
  any_found f [] = refl
  any_found f (x ∷ xs) =
      set_bit (is_set (value u ms env (f x)) || is_set (value u ms env (any_of (map f xs))))
      ∙ or_found (is_set (value u ms env (f x))) x (is_set (value u ms env (any_of (map f xs))))
      (find (λ x. is_set (value u ms env (f x))) xs) (any_found f xs)

  -- the first choice is the one that is found
  pub first_found : (f e : A → Expr N M) (xs : List A) (other : Expr N M)
      → value u ms env (first_of (map (λ x. (f x, e x)) xs) other)
      ≡ option_map_or (λ x. value u ms env (e x)) (find (λ x. is_set (value u ms env (f x))) xs) (value u ms env other)
  first_found f e [] other = refl
  first_found f e (x ∷ xs) other =
      if_found (λ x. value u ms env (e x)) (is_set (value u ms env (f x))) x (value u ms env (first_of (map (λ x. (f x, e x)) xs) other))
      (value u ms env other)
      (find (λ x. is_set (value u ms env (f x))) xs) (first_found f e xs other)
