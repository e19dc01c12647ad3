-- What a result port shows.
use Rattle.std.proofs.Common.{◌≡◌, ◌≢◌, ◌⊎◌, inl, inr, ℕ, suc, ◌<◌, ◌≤◌, Bool, true, false, List, [], ◌∷◌, ◌++◌, Option, Some, None, refl, ap, ◌∙◌, arith}
use Rattle.std.specs.Prelude.{◌==◌, ◌&&◌, ◌||◌, if◌then◌else◌, fold}
use Rattle.std.specs.List.{list_any}
use Rattle.std.proofs.lemmas.Bool.Decides.{nat_tests}
use Rattle.tta_sched_laws.specs.Cited.{or_else, Result', later}
use Rattle.tta_arch.specs.Effects.{first_some as pick}
use Rattle.tta_sched_laws.proofs.Pick.{Has}

-- the result of a unit that is due at a moment
abbrev pub due_then : ℕ → ℕ → Result' → Option Result'
due_then unit at r = if r.unit == unit && r.due == at then Some r else None

-- the best so far, which the latest moment cannot better
holds_on : (unit now : ℕ) (rs : List Result') (b : Result') → b.due ≡ now → fold (later unit now) (Some b) rs ≡ Some b
holds_on unit now [] b e = refl
holds_on unit now (r ∷ rs) b e = let f : later unit now (Some b) r ≡ Some b = grind (arith, nat_tests) in rw f (holds_on unit now rs b e)

pub data Past (now : ℕ) : Option Result' → Type 0 where
  past_none : Past now None
  past_some : (b : Result') → b.due ≤ now → Past now (Some b)

record Passes (unit now : ℕ) (r : Result') (best : Option Result') : Type 0 where
  none : due_then unit (suc now) r ≡ None
  same : later unit (suc now) best r ≡ later unit now best r
  past : Past now (later unit now best r)

past_if : (now : ℕ) (r : Result') (o : Option Result') (b : Bool) → (b ≡ true → r.due ≤ now) → Past now o → Past now (if b then Some r else o)
past_if now r o true h p = past_some r (h refl)
past_if now r o false h p = p

due_or_not : (unit now : ℕ) (r : Result') → ((r.unit == unit ≡ true) × (r.due ≡ suc now)) ⊎ ((r.unit == unit ≡ false) ⊎ (r.due ≢ suc now))
due_or_not unit now r = grind (arith, nat_tests)

passes : (unit now : ℕ) (r : Result') (best : Option Result') → Past now best → (r.unit == unit ≡ false) ⊎ (r.due ≢ suc now) → Passes unit now r best
passes unit now r _ past_none h = record {
  none = grind (arith, nat_tests);
  same = grind (arith, nat_tests);
  past = past_if now r None _ (λ e. grind (arith, nat_tests)) past_none;
}
passes unit now r _ (past_some b le) h = record {
  none = grind (arith, nat_tests);
  same = grind (arith, nat_tests);
  past = past_if now r (Some b) _ (λ e. grind (arith, nat_tests)) (past_some b le);
}

comes : (unit now : ℕ) (r : Result') (best : Option Result') → Past now best → r.unit == unit ≡ true → r.due ≡ suc now → later unit (suc now) best r ≡ Some r
comes unit now r _ past_none u d = grind (arith, nat_tests)
comes unit now r _ (past_some b le) u d = grind (arith, nat_tests)

-- at the next moment a port shows what is due then, and otherwise what it showed
pub port_next : (unit now : ℕ) (rs : List Result') (best : Option Result') → Past now best
    → fold (later unit (suc now)) best rs ≡ or_else (pick (due_then unit (suc now)) rs) (fold (later unit now) best rs)
port_next unit now [] best past = refl
port_next unit now (r ∷ rs) best past =
    elim (due_or_not unit now r) [
      | inl is ↦
          let a = comes unit now r best past is.0 is.1 in
          let b : due_then unit (suc now) r ≡ Some r = let u = is.0 in let d = is.1 in grind (arith, nat_tests) in
          rw b (ap (λ o. fold (later unit (suc now)) o rs) a ∙ holds_on unit (suc now) rs r is.1)
      | inr not ↦
          let p = passes unit now r best past not in
          rw p.none (ap (λ o. fold (later unit (suc now)) o rs) p.same ∙ port_next unit now rs (later unit now best r) p.past)
    ]

-- what is due later does not show
pub port_early : (unit now : ℕ) (rs old : List Result') → ((r : Result') → Has rs r → now < r.due) → fold (later unit now) None (rs ++ old) ≡ fold (later unit now) None old
port_early unit now [] old h = refl
port_early unit now (r ∷ rs) old h =
    let a = h r (0, refl) in
    let f : later unit now None r ≡ None = grind (arith, nat_tests) in
    ap (λ o. fold (later unit now) o (rs ++ old)) f ∙ port_early unit now rs old (λ x p. h x (suc p.0, p.1))

-- nothing is due at a moment
pub due_none : (unit at : ℕ) (rs : List Result') → pick (due_then unit at) rs ≡ None → list_any (λ (r : Result'). r.unit == unit && r.due == at) rs ≡ false
due_none unit at [] e = refl
due_none unit at (r ∷ rs) e = on (r.unit == unit && r.due == at) e (λ q. due_none unit at rs q) where
  on : (b : Bool) → or_else (if b then Some r else None) (pick (due_then unit at) rs) ≡ None → (pick (due_then unit at) rs ≡ None → list_any (λ (q : Result'). q.unit == unit && q.due == at) rs ≡ false)
      → (b || list_any (λ (q : Result'). q.unit == unit && q.due == at) rs) ≡ false
  on true e ih = cc
  on false e ih = ih e
