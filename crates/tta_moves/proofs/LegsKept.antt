-- Two runs go through the same legs where each pair of their blocks does the same.
use Rattle.std.proofs.Common.{◌≡◌, ◌≢◌, ℕ, zero, suc, List, [], ◌∷◌, drop, refl, sym, ap, subst, ◌∙◌}
use Rattle.tta_moves.specs.Cited.{Leave, ToNext, ToBlock, ToHalt, ToWait, ToNowhere, Outcome, Running, Halted, Waiting, Undefined, Run, after_block, leg, next_of, next_leg, legs, AllPairs}

all_drop : {A B : Type 0} (P : A → B → Type 0) (n : ℕ) (xs : List A) (ys : List B) → AllPairs P xs ys → AllPairs P (drop n xs) (drop n ys)
all_drop P zero xs ys h = h
all_drop P (suc n) [] [] h = h
all_drop P (suc n) [] (y ∷ ys) h = absurd h
all_drop P (suc n) (x ∷ xs) [] h = absurd h
all_drop P (suc n) (x ∷ xs) (y ∷ ys) h = all_drop P n xs ys h.1

-- two blocks leave alike: in one way, with states that are alike where the run goes on, and that end alike
pub record LeaveAlike {S T : Type 0} (Fits Ends : S → T → Type 0) (a : S × Leave) (b : T × Leave) : Type 0 where
  pub leave : b.1 ≡ a.1
  pub fits : a.1 ≢ ToWait → Fits a.0 b.0
  pub ends : Ends a.0 b.0

-- two runs stand alike
pub record RunsAlike {S T : Type 0} (Fits Ends : S → T → Type 0) (r : Run S) (q : Run T) : Type 0 where
  pub outcome : q.outcome ≡ r.outcome
  pub block : q.block ≡ r.block
  pub fits : r.outcome ≡ Running → Fits r.state q.state
  pub ends : Ends r.state q.state

module _ {A B S T : Type 0} (Fits Ends : S → T → Type 0) (Pair : A → B → Type 0) (go : ℕ → A → S → S × Leave) (go' : ℕ → B → T → T × Leave)
    (pair : (k : ℕ) (a : A) (b : B) (s : S) (t : T) → Pair a b → Fits s t → (go k a s).1 ≢ ToNowhere → LeaveAlike Fits Ends (go k a s) (go' k b t)) where
  behind : (k : ℕ) (s s' : S) (t t' : T) (l : Leave) (rest : S → Run S) (rest' : T → Run T) → (l ≢ ToWait → Fits s' t') → Ends s' t'
      → (Fits s' t' → (rest s').outcome ≢ Undefined → RunsAlike Fits Ends (rest s') (rest' t')) → (after_block k s s' l rest).outcome ≢ Undefined
      → RunsAlike Fits Ends (after_block k s s' l rest) (after_block k t t' l rest')
  behind k s s' t t' ToNext rest rest' fits ends more defined = more (fits (λ e. cc)) defined
  behind k s s' t t' (ToBlock block) rest rest' fits ends more defined = record { outcome = refl; block = refl; fits = λ e. fits (λ f. cc); ends = ends }
  behind k s s' t t' ToHalt rest rest' fits ends more defined = record { outcome = refl; block = refl; fits = λ e. fits (λ f. cc); ends = ends }
  behind k s s' t t' ToWait rest rest' fits ends more defined = record { outcome = refl; block = refl; fits = λ e. absurd cc; ends = ends }
  behind k s s' t t' ToNowhere rest rest' fits ends more defined = absurd (defined refl)

  somewhere : (k : ℕ) (s s' : S) (l : Leave) (rest : S → Run S) → (after_block k s s' l rest).outcome ≢ Undefined → l ≢ ToNowhere
  somewhere k s s' ToNext rest defined = λ e. cc
  somewhere k s s' (ToBlock block) rest defined = λ e. cc
  somewhere k s s' ToHalt rest defined = λ e. cc
  somewhere k s s' ToWait rest defined = λ e. cc
  somewhere k s s' ToNowhere rest defined = λ e. defined refl

  leg_alike : (k : ℕ) (xs : List A) (ys : List B) (s : S) (t : T) → AllPairs Pair xs ys → Fits s t → (leg go k xs s).outcome ≢ Undefined
      → RunsAlike Fits Ends (leg go k xs s) (leg go' k ys t)
  leg_alike k [] ys s t pairs fits defined = absurd (defined refl)
  leg_alike k (a ∷ xs) [] s t pairs fits defined = absurd pairs
  leg_alike k (a ∷ xs) (b ∷ ys) s t pairs fits defined =
      let left = pair k a b s t pairs.0 fits (somewhere k s (go k a s).0 (go k a s).1 (λ x. leg go (suc k) xs x) defined) in
      let P : Leave → Type 0 = λ l. RunsAlike Fits Ends (leg go k (a ∷ xs) s) (after_block k t (go' k b t).0 l (λ x. leg go' (suc k) ys x)) in
      subst P (sym left.leave)
      (behind k s (go k a s).0 t (go' k b t).0 (go k a s).1 (λ x. leg go (suc k) xs x) (λ x. leg go' (suc k) ys x) left.fits left.ends
      (λ f d. leg_alike (suc k) xs ys (go k a s).0 (go' k b t).0 pairs.1 f d) defined)

  over : (xs : List A) (ys : List B) (r : Run S) (q : Run T) → AllPairs Pair xs ys → RunsAlike Fits Ends r q → (next_leg go xs r).outcome ≢ Undefined → RunsAlike Fits Ends (next_leg go xs r) (next_leg go' ys q)
  over xs ys r q pairs alike defined =
      let P : Outcome → Type 0 = λ o. RunsAlike Fits Ends (next_leg go xs r) (next_of go' ys q o) in
      subst P (sym alike.outcome) (on r.outcome refl defined) where
        on : (o : Outcome) → r.outcome ≡ o → (next_of go xs r o).outcome ≢ Undefined → RunsAlike Fits Ends (next_of go xs r o) (next_of go' ys q o)
        on Running e d =
            let Q : ℕ → Type 0 = λ k. RunsAlike Fits Ends (leg go r.block (drop r.block xs) r.state) (leg go' k (drop k ys) q.state) in
            subst Q (sym alike.block) (leg_alike r.block (drop r.block xs) (drop r.block ys) r.state q.state (all_drop Pair r.block xs ys pairs) (alike.fits e) d)
        on Halted e d = alike
        on Waiting e d = alike
        on Undefined e d = alike

  -- a run that has a meaning after one leg more had one before
  was_defined : (xs : List A) (r : Run S) → (next_leg go xs r).outcome ≢ Undefined → r.outcome ≢ Undefined
  was_defined xs r defined e = defined (ap (λ (o : Outcome). (next_of go xs r o).outcome) e ∙ e)

  pub legs_alike : (xs : List A) (ys : List B) (s : S) (t : T) (n : ℕ) → AllPairs Pair xs ys → Fits s t → Ends s t → (legs go xs s n).outcome ≢ Undefined
      → RunsAlike Fits Ends (legs go xs s n) (legs go' ys t n)
  legs_alike xs ys s t zero pairs fits ends defined = record { outcome = refl; block = refl; fits = λ e. fits; ends = ends }
  legs_alike xs ys s t (suc n) pairs fits ends defined =
      over xs ys (legs go xs s n) (legs go' ys t n) pairs (legs_alike xs ys s t n pairs fits ends (was_defined xs (legs go xs s n) defined)) defined
