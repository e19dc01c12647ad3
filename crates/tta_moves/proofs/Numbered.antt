-- Lists by numbers, of which one element changes.
use Rattle.std.proofs.Common.{◌≡◌, ◌≢◌, ℕ, zero, suc, ◌+◌, ◌<◌, ◌≤◌, refl, subst, arith, map, set}
use Rattle.std.specs.List.{range_with_len}

-- two lists by numbers that are alike at each
pub map_alike : {A : Type 0} (f g : ℕ → A) (a n : ℕ) → ((k : ℕ) → a ≤ k → f k ≡ g k) → map f (range_with_len a n) ≡ map g (range_with_len a n)
map_alike f g a zero h = refl
map_alike f g a (suc n) h = rw (h a (omega arith), map_alike f g (a + 1) n (λ k l. h k (omega arith))) refl

-- a list by numbers that is changed at one of them
pub set_alike : {A : Type 0} (f g : ℕ → A) (a n c j : ℕ) (v : A) → c < n → j ≡ a + c → g j ≡ v → ((k : ℕ) → k ≢ j → f k ≡ g k) → set (map f (range_with_len a n)) c v ≡ map g (range_with_len a n)
set_alike f g a zero c j v lt is here others = absurd (omega arith)
set_alike f g a (suc n) zero j v lt is here others =
    let at : j ≡ a = omega arith in
    let e : g a ≡ v = subst (λ k. g k ≡ v) at here in
    rw (e, map_alike f g (a + 1) n (λ k l. others k (omega arith))) refl
set_alike f g a (suc n) (suc c) j v lt is here others =
    let first : f a ≡ g a = others a (omega arith) in
    let rest : set (map f (range_with_len (a + 1) n)) c v ≡ map g (range_with_len (a + 1) n)
    = set_alike f g (a + 1) n c j v (omega arith) (omega arith) here others in
    rw (first, rest) refl
