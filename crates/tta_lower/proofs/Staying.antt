-- What stays after a block is exactly the home registers of the variables that pass, rising.
use Rattle.std.proofs.Common.{◌≡◌, ◌<◌, ◌≤◌, ◌+◌, ◌==◌, ◌∷◌, [], ℕ, zero, suc, Bool, List, Option, Some, None, true, false, filter, refl, ap, arith, ◌⊎◌, inl, inr}
use Rattle.std.specs.Option.{option_map_or}
use Rattle.std.specs.List.{list_any}
use Rattle.std.proofs.lemmas.Bool.{eq-eqb, eqb-true, and_parts, and_from, or_cases}
use Rattle.tta_lower.specs.Cited.{Program}
use Rattle.tta_lower.specs.Liveness.{LoweringInput}
use Rattle.tta_lower.specs.Layout.{vars_of}
use Rattle.tta_lower.specs.Lower.{numbers, is_home_of, homes_of}
use Rattle.tta_lower.specs.Members.{In, Rises}
use Rattle.tta_lower.proofs.Lists.{in-filter, filter-in, in-any, in-numbers, numbers-below}

-- numbers are not below their begin
numbers-from : (from n k : ℕ) → In k (numbers from n) → from ≤ k
numbers-from from zero k is = absurd is
numbers-from from (suc n) k (inl e) = omega (arith, e)
numbers-from from (suc n) k (inr more) =
    let rest = numbers-from (from + 1) n k more in
    omega (arith, rest)

-- numbers that pass rise
pub rising-filter : (t : ℕ → Bool) (from n : ℕ) → Rises (filter t (numbers from n))
rising-filter t from zero = tt
rising-filter t from (suc n) = by (t from) refl (rising-filter t (from + 1) n) where
  by : (b : Bool) → t from ≡ b → Rises (filter t (numbers (from + 1) n)) → Rises (filter t (numbers from (suc n)))
  by true is rest = rw is ((λ j there. let h = numbers-from (from + 1) n j (filter-in t (numbers (from + 1) n) j there).0 in omega (arith, h)), rest)
  by false is rest = rw is rest

-- one of some numbers passes
pub any-there : (t : ℕ → Bool) (xs : List ℕ) → list_any t xs ≡ true → (x : ℕ) × In x xs × (t x ≡ true)
any-there t [] any = cc
any-there t (x ∷ xs) any = by (or_cases (t x) (list_any t xs) any) (any-there t xs) where
  by : (t x ≡ true) ⊎ (list_any t xs ≡ true) → (list_any t xs ≡ true → (y : ℕ) × In y xs × (t y ≡ true)) → (y : ℕ) × In y (x ∷ xs) × (t y ≡ true)
  by (inl e) more = (x, inl refl, e)
  by (inr any) more = ((more any).0, inr (more any).1, (more any).2)

module _ (p : Program) (known : LoweringInput) (homes : ℕ)
    (few : (owner x k : ℕ) → known.home owner x ≡ Some k → k < homes) (owner : ℕ) (test : ℕ → Bool) where
  abbrev staying : List ℕ
  staying = homes_of p known homes owner test

  -- the registers rise
  pub homes-rise : Rises staying
  homes-rise = rising-filter (λ k. list_any (is_home_of p known homes owner test k) (numbers 0 (vars_of p owner))) 0 homes

  -- each of them is the home of a variable that passes
  pub homes-only : (k : ℕ) → In k staying → (x : ℕ) × (x < vars_of p owner) × (test x ≡ true) × (known.home owner x ≡ Some k)
  homes-only k is =
      let both = filter-in (λ k. list_any (is_home_of p known homes owner test k) (numbers 0 (vars_of p owner))) (numbers 0 homes) k is in
      let a = any-there (is_home_of p known homes owner test k) (numbers 0 (vars_of p owner)) both.1 in
      let parts = and_parts (test a.0) (option_map_or (λ h. h == k) (known.home owner a.0) false) a.2 in
      let below = numbers-below 0 (vars_of p owner) a.0 a.1 in
      (a.0, omega (arith, below), parts.0, register (known.home owner a.0) parts.1) where
        register : (o : Option ℕ) → option_map_or (λ h. h == k) o false ≡ true → o ≡ Some k
        register None is = cc
        register (Some h) is = ap Some (eqb-true h k is)

  -- and each such home is one of them
  pub homes-all : (k x : ℕ) → x < vars_of p owner → test x ≡ true → known.home owner x ≡ Some k → In k staying
  homes-all k x within passes is =
      in-filter (λ k. list_any (is_home_of p known homes owner test k) (numbers 0 (vars_of p owner))) (numbers 0 homes) k
      (in-numbers 0 homes k (omega arith) (omega (arith, few owner x k is)))
      (in-any (is_home_of p known homes owner test k) (numbers 0 (vars_of p owner)) x (in-numbers 0 (vars_of p owner) x (omega arith) (omega (arith, within)))
      (and_from (test x) _ passes (rw is (eq-eqb k k refl))))
