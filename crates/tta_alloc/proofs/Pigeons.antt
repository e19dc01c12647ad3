-- Where each of some numbers has a number of its own among as many, none of these is left over.
use Rattle.std.proofs.Common.{◌≡◌, ℕ, zero, suc, ◌<◌, refl, sym, ◌∙◌, subst, arith, ◌⊎◌, inl, inr}

-- a number below one more is below, or the last
last_or : (s n : ℕ) → s < suc n → (s ≡ n) ⊎ (s < n)
last_or s n less = grind arith

-- what the first of them have: where one has the last number, the number that is left over takes its place
abbrev Other : (R : ℕ → ℕ → Type 0) (n t k s : ℕ) → Type 0
Other R n t k s = (w : ℕ) × ((R k w) × (((w ≡ n) × (s ≡ t)) ⊎ ((w < n) × (s ≡ w))))

abbrev Fewer : (R : ℕ → ℕ → Type 0) (n t k s : ℕ) → Type 0
Fewer R n t k s = (k < n) × Other R n t k s

pub no_more : (n : ℕ) (R : ℕ → ℕ → Type 0) → ((k : ℕ) → k < n → (s : ℕ) × ((s < n) × R k s)) → ((j k s : ℕ) → R j s → R k s → j ≡ k)
    → (t : ℕ) → t < n → ((k : ℕ) → R k t → ⊥) → ⊥
no_more zero R some one t small free = absurd (omega arith)
no_more (suc n) R some one t small free =
    no_more n (Fewer R n t) (λ k l. let o = its k (omega arith) in (o.0, (o.1.0, (l, o.1.1)))) (λ j k s a b. same j k s a.1 b.1) top.0 top.1.0
    (λ k a. let e = same k n top.0 a.1 top.1.1 in let l = a.0 in omega arith)
  where
    its : (k : ℕ) → k < suc n → (s : ℕ) × ((s < n) × Other R n t k s)
    its k l = by (some k l) where
      by : (s : ℕ) × ((s < suc n) × R k s) → (s : ℕ) × ((s < n) × Other R n t k s)
      by w = on (last_or w.0 n w.1.0) (last_or t n small) where
        on : (w.0 ≡ n) ⊎ (w.0 < n) → (t ≡ n) ⊎ (t < n) → (s : ℕ) × ((s < n) × Other R n t k s)
        on (inl e) (inl f) = absurd (free k (subst (R k) (e ∙ sym f) w.1.1))
        on (inl e) (inr f) = (t, (f, (w.0, (w.1.1, inl (e, refl)))))
        on (inr e) f = (w.0, (e, (w.0, (w.1.1, inr (e, refl)))))

    top : (s : ℕ) × ((s < n) × Other R n t n s)
    top = its n (omega arith)

    same : (j k s : ℕ) → Other R n t j s → Other R n t k s → j ≡ k
    same j k s a b = by a.1.1 b.1.1 where
      by : ((a.0 ≡ n) × (s ≡ t)) ⊎ ((a.0 < n) × (s ≡ a.0)) → ((b.0 ≡ n) × (s ≡ t)) ⊎ ((b.0 < n) × (s ≡ b.0)) → j ≡ k
      by (inl e) (inl f) = one j k n (subst (R j) e.0 a.1.0) (subst (R k) f.0 b.1.0)
      by (inl e) (inr f) = absurd (free k (subst (R k) (sym f.1 ∙ e.1) b.1.0))
      by (inr e) (inl f) = absurd (free j (subst (R j) (sym e.1 ∙ f.1) a.1.0))
      by (inr e) (inr f) = one j k s (subst (R j) (sym e.1) a.1.0) (subst (R k) (sym f.1) b.1.0)
