-- The latest result of a unit, from one cycle to the next.
use Rattle.std.proofs.Common.{◌≡◌, ◌+◌, ℕ, true, false, List, [], ◌∷◌, Option, None, Some, refl, ap, ◌∙◌, arith}
use Rattle.std.specs.Prelude.{fold, nat_le}
use Rattle.std.specs.Option.{option_map_or, option_or}
use Rattle.tta_code.specs.Cycle.{Result', later}
use Rattle.tta_code.specs.Results.{latest, is_due, due_at}

-- a result that is due in this very cycle stays the latest
latest-due : (unit now : ℕ) (b : Result') (rs : List Result') → b.due ≡ now → fold (later unit now) (Some b) rs ≡ Some b
latest-due unit now b [] here = refl
latest-due unit now b (r ∷ rs) here =
    let stays : later unit now (Some b) r ≡ Some b = grind arith in
    ap (λ best. fold (later unit now) best rs) stays ∙ latest-due unit now b rs here

-- a result that is due in the next cycle shows from then on
later-next : (unit now : ℕ) (best : Option Result') (rs : List Result') → option_map_or (λ b. nat_le b.due now) best true ≡ true
    → fold (later unit (now + 1)) best rs ≡ option_or (due_at unit (now + 1) rs) (fold (later unit now) best rs)
later-next unit now best [] past = refl
later-next unit now best (r ∷ rs) past =
    elim (is_due unit (now + 1) r) as (λ b. is_due unit (now + 1) r ≡ b → fold (later unit (now + 1)) best (r ∷ rs) ≡ option_or (due_at unit (now + 1) (r ∷ rs)) (fold (later unit now) best (r ∷ rs))) [
      | true ↦ λ is.
          let first : later unit (now + 1) best r ≡ Some r = comes is best past in
          let here : r.due ≡ now + 1 = grind arith in
          rw (first, is) (latest-due unit (now + 1) r rs here)
      | false ↦ λ is.
          let same : later unit (now + 1) best r ≡ later unit now best r = stays is best past in
          let kept : option_map_or (λ b. nat_le b.due now) (later unit now best r) true ≡ true = still best past in
          rw (same, is) (later-next unit now (later unit now best r) rs kept)
    ] refl
  where
    comes : is_due unit (now + 1) r ≡ true → (best : Option Result') → option_map_or (λ b. nat_le b.due now) best true ≡ true → later unit (now + 1) best r ≡ Some r
    comes is None past = grind arith
    comes is (Some b) past = grind arith

    stays : is_due unit (now + 1) r ≡ false → (best : Option Result') → option_map_or (λ b. nat_le b.due now) best true ≡ true → later unit (now + 1) best r ≡ later unit now best r
    stays is None past = grind arith
    stays is (Some b) past = grind arith

    still : (best : Option Result') → option_map_or (λ b. nat_le b.due now) best true ≡ true → option_map_or (λ b. nat_le b.due now) (later unit now best r) true ≡ true
    still None past = grind arith
    still (Some b) past = grind arith

-- the latest result of the next cycle is one that is due just then, or the latest of this one
pub latest-next : (unit now : ℕ) (rs : List Result') → latest unit (now + 1) rs ≡ option_or (due_at unit (now + 1) rs) (latest unit now rs)
latest-next unit now rs = later-next unit now None rs refl
