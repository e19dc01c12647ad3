-- Places of a table.
use Rattle.std.proofs.Common.{◌≡◌, ℕ, ◌+◌, ◌*◌, ◌-◌, ◌≤◌, ◌<◌, length, Bool, true, false, List, [], ◌∷◌, Option, Some, None, refl, ap, sym, subst, ◌∙◌, arith}
use Rattle.std.specs.Prelude.{nat_lt, slice_get}
use Rattle.std.proofs.lemmas.Bool.{ltb-true, ltb-false}
use Rattle.std.proofs.Math.Nat.{mul-le-mul_right}
use Rattle.tta_check.specs.declared.state.Port.{Port}
use Rattle.tta_check.specs.declared.state.AbstractState.{AbstractState}
use Rattle.tta_check.specs.declared.entries.EntryTable.{EntryTable}
use Rattle.tta_check.specs.declared.verdict.Verdict.TheVariants.{Unsafe}
use Rattle.tta_check.specs.declared.visit.Successor.{Successor}
use Rattle.tta_check.specs.ProgramPoints.{Under}
use Rattle.tta_check.specs.Going.{point_as}
use Rattle.tta_check.specs.Joins.{join_ports}
use Rattle.tta_check.specs.Tables.{ago, place_at, same_point, Fits, Sets, Puts, Grown, Calm, PutEnds, Differs, Grows}

ago_most : (delay : ℕ) (u : Option Under) → ago delay u ≤ delay
ago_most delay None = omega arith
ago_most delay (Some u) = omega arith

mul_below : (a n d g : ℕ) → a < n → g ≤ d → a * (d + 1) + g < n * (d + 1)
mul_below a n d g h k =
    let e : (a + 1) * (d + 1) ≤ n * (d + 1) = mul-le-mul_right (d + 1) (let f : a + 1 ≤ n = omega arith in f) in
    let f : (a + 1) * (d + 1) ≡ a * (d + 1) + (d + 1) = grind arith in
    omega arith

pub place_below : (delay len : ℕ) (o : Successor) (t : EntryTable) → Fits delay len o t → o.point.address < len → place_at delay (point_as o.point) < length t.entries.items
place_below delay len o t fits below =
    subst (λ n. place_at delay (point_as o.point) < n) (sym fits.count) (mul_below o.point.address len delay (ago delay (point_as o.point).under) below (ago_most delay (point_as o.point).under))

-- a place has one address, and one number of cycles since the control move
pub place_parts : (d a b : ℕ) (u v : Option Under) → a * (d + 1) + ago d u ≡ b * (d + 1) + ago d v → (a ≡ b) × (ago d u ≡ ago d v)
place_parts d a b u v e = on (nat_lt a b) refl (nat_lt b a) refl where
  less : (x y : ℕ) → x < y → (g h : ℕ) → g ≤ d → x * (d + 1) + g ≡ y * (d + 1) + h → ⊥
  less x y below g h most is = let f = mul_below x y d g below most in omega arith

  same : a ≡ b → (a ≡ b) × (ago d u ≡ ago d v)
  same is = (is, let f : a * (d + 1) ≡ b * (d + 1) = ap (λ n. n * (d + 1)) is in omega arith)

  on : (s : Bool) → nat_lt a b ≡ s → (r : Bool) → nat_lt b a ≡ r → (a ≡ b) × (ago d u ≡ ago d v)
  on true h r k = absurd (less a b (ltb-true a b h) (ago d u) (ago d v) (ago_most d u) e)
  on false h true k = absurd (less b a (ltb-true b a k) (ago d v) (ago d u) (ago_most d v) (sym e))
  on false h false k = same (let f = ltb-false a b h in let g = ltb-false b a k in omega arith)

-- an entry within a table is within the code
pub place_within : (d len a : ℕ) (u : Option Under) → a * (d + 1) + ago d u < len * (d + 1) → a < len
place_within d len a u below = on (nat_lt a len) refl where
  on : (s : Bool) → nat_lt a len ≡ s → a < len
  on true h = ltb-true a len h
  on false h = absurd (let f : len * (d + 1) ≤ a * (d + 1) = mul-le-mul_right (d + 1) (ltb-false a len h) in omega arith)

pub join_count : (ps qs : List Port) → length (join_ports ps qs) ≡ length ps
join_count [] qs = refl
join_count (p ∷ ps) [] = refl
join_count (p ∷ ps) (q ∷ qs) = let e = join_count ps qs in omega arith

-- ---- what comes of putting

pub put_differs : (delay len : ℕ) (o e : Successor) (t : EntryTable) (p x : ℕ) → p ≡ place_at delay (point_as o.point) → slice_get t.entries.items p ≡ Some (Some e) → same_point (point_as e.point) (point_as o.point) ≡ false
    → x ≡ o.point.address - ago delay (point_as o.point).under → PutEnds delay len o t (Unsafe 80 x)
put_differs delay len o e t p x here there differs is =
    subst (λ n. PutEnds delay len o t (Unsafe 80 n)) (sym is) (Differs e (ap (slice_get t.entries.items) (sym here) ∙ there) differs)

pub put_calm : (delay : ℕ) (o e : Successor) (t : EntryTable) (p : ℕ) (g : Option AbstractState) → p ≡ place_at delay (point_as o.point) → slice_get t.entries.items p ≡ Some (Some e) → same_point (point_as e.point) (point_as o.point) ≡ true
    → Grows e.state o.state g → g ≡ None → Puts delay o t t
put_calm delay o e t p g here there same grows is =
    let r = subst (Grows e.state o.state) is grows in
    Calm e (record { point = o.point; state = r.0 }) (ap (slice_get t.entries.items) (sym here) ∙ there) (record { same = same; point = refl; join = r.1; most = r.2 }) r.3 refl

pub put_grown : (delay : ℕ) (o e : Successor) (old new : EntryTable) (p : ℕ) (g : Option AbstractState) (state : AbstractState) → p ≡ place_at delay (point_as o.point) → slice_get old.entries.items p ≡ Some (Some e) → same_point (point_as e.point) (point_as o.point) ≡ true
    → Grows e.state o.state g → g ≡ Some state → Sets p (record { point = o.point; state = state }) old new → Puts delay o old new
put_grown delay o e old new p g state here there same grows is sets =
    let r = subst (Grows e.state o.state) is grows in
    Grown e (record { point = o.point; state = state }) (ap (slice_get old.entries.items) (sym here) ∙ there) (record { same = same; point = refl; join = r.0; most = r.1 }) r.2
    (subst (λ n. Sets n (record { point = o.point; state = state }) old new) here sets)
