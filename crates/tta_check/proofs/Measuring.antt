-- A joined abstract state has no smaller measure, and is the same abstract state where it has the same measure.
use Rattle.std.proofs.Common.{◌≡◌, ℕ, ◌≤◌, Bool, true, false, List, [], ◌∷◌, refl, ap, ◌∙◌, arith}
use Rattle.std.specs.Prelude.{◌||◌, max, bit_or, if◌then◌else◌}
use Rattle.std.proofs.lemmas.Nat.{le_or_l}
use Rattle.tta_check.specs.declared.values.ValueSet.{ValueSet}
use Rattle.tta_check.specs.declared.values.ValueSet.TheVariants.{Nothing, One, Two}
use Rattle.tta_check.specs.declared.state.Cell.{Cell}
use Rattle.tta_check.specs.declared.state.Kept.{Kept}
use Rattle.tta_check.specs.declared.state.Port.{Port}
use Rattle.tta_check.specs.declared.state.AbstractState.{AbstractState}
use Rattle.tta_check.specs.Facts.{same_word}
use Rattle.tta_check.specs.States.{join_words, join_cells}
use Rattle.tta_check.specs.Joins.{join_list, join_ports, IsJoined}
use Rattle.tta_check.specs.Measures.{values_measure, cell_measure, cells_measure, ports_measure, measure}

-- something has no smaller measure, and is the same where it has the same measure
record Grown {A : Type 0} (old new : A) (less more : ℕ) : Type 0 where
  no_less : less ≤ more
  same : more ≡ less → new ≡ old

values_grown : (h g : ValueSet) → Grown h (join_words h g) (values_measure h) (values_measure (join_words h g))
values_grown h Nothing = record { no_less = omega arith; same = λ e. refl }
values_grown Nothing (One a) = record { no_less = omega arith; same = λ e. absurd (omega arith) }
values_grown (One b) (One a) = on (same_word b a) where
  on : (c : Bool) → Grown (One b) (if c then One b else Two b a) 1 (values_measure (if c then One b else Two b a))
  on true = record { no_less = omega arith; same = λ e. refl }
  on false = record { no_less = omega arith; same = λ e. absurd (omega arith) }
values_grown (Two b c) (One a) = record { no_less = omega arith; same = λ e. refl }
values_grown Nothing (Two a b) = record { no_less = omega arith; same = λ e. absurd (omega arith) }
values_grown (One c) (Two a b) = on (same_word c a) where
  on : (d : Bool) → Grown (One c) (if d then Two a b else Two c a) 1 (values_measure (if d then Two a b else Two c a))
  on true = record { no_less = omega arith; same = λ e. absurd (omega arith) }
  on false = record { no_less = omega arith; same = λ e. absurd (omega arith) }
values_grown (Two c d) (Two a b) = record { no_less = omega arith; same = λ e. refl }

unset_grown : (a b : Bool) → Grown a (a || b) (if a then 1 else 0) (if a || b then 1 else 0)
unset_grown true b = record { no_less = omega arith; same = λ e. refl }
unset_grown false true = record { no_less = omega arith; same = λ e. absurd (omega arith) }
unset_grown false false = record { no_less = omega arith; same = λ e. refl }

cell_grown : (c d : Cell) → Grown c (join_cells c d) (cell_measure c) (cell_measure (join_cells c d))
cell_grown c d =
    let u = unset_grown c.unset d.unset in
    let h = values_grown c.values d.values in
    let ul = u.no_less in
    let hl = h.no_less in
    record {
      no_less = omega arith;
      same = λ e. ap (λ (v : Bool). at v (join_words c.values d.values)) (u.same (omega arith)) ∙ ap (at c.unset) (h.same (omega arith));
    } where
      at : Bool → ValueSet → Cell
      at v w = record { unset = v; values = w }

cells_grown : (ks ls : List Kept) → Grown ks (join_list ks ls) (cells_measure ks) (cells_measure (join_list ks ls))
cells_grown [] ls = record { no_less = omega arith; same = λ e. refl }
cells_grown (k ∷ ks) [] = record { no_less = omega arith; same = λ e. refl }
cells_grown (k ∷ ks) (l ∷ ls) =
    let c = cell_grown k.cell l.cell in
    let r = cells_grown ks ls in
    let cl = c.no_less in
    let rl = r.no_less in
    record {
      no_less = omega arith;
      same = λ e. ap (λ (x : Cell). at x ∷ join_list ks ls) (c.same (omega arith)) ∙ ap (λ xs. k ∷ xs) (r.same (omega arith));
    } where
      at : Cell → Kept
      at x = record { at = k.at; cell = x }

ports_grown : (ps qs : List Port) → Grown ps (join_ports ps qs) (ports_measure ps) (ports_measure (join_ports ps qs))
ports_grown [] qs = record { no_less = omega arith; same = λ e. refl }
ports_grown (p ∷ ps) [] = record { no_less = omega arith; same = λ e. refl }
ports_grown (p ∷ ps) (q ∷ qs) =
    let r = ports_grown ps qs in
    let rl = r.no_less in
    let late = le_or_l p.late q.late in
    record {
      no_less = omega arith;
      same = λ e.
          let a : max p.early q.early ≡ p.early = omega arith in
          let b : bit_or p.late q.late ≡ p.late = omega arith in
          ap (λ (n : ℕ). at n (bit_or p.late q.late) ∷ join_ports ps qs) a ∙ ap (λ (n : ℕ). at p.early n ∷ join_ports ps qs) b ∙ ap (λ xs. p ∷ xs) (r.same (omega arith));
    } where
      at : ℕ → ℕ → Port
      at e l = record { early = e; late = l }

-- a joined abstract state has no smaller measure, and keeps the same where it has the same measure
pub record WeighsMore (old new : AbstractState) : Type 0 where
  pub no_less : measure old ≤ measure new
  pub cells : measure new ≡ measure old → new.cells.items ≡ old.cells.items
  pub ports : measure new ≡ measure old → new.ports.items ≡ old.ports.items

pub weighs_more : (r s both : AbstractState) → IsJoined r s both → WeighsMore r both
weighs_more r s both j =
    let c = cells_grown r.cells.items s.cells.items in
    let p = ports_grown r.ports.items s.ports.items in
    let cl = c.no_less in
    let pl = p.no_less in
    let cw = ap cells_measure j.cells in
    let pw = ap ports_measure j.ports in
    record {
      no_less = omega arith;
      cells = λ e. j.cells ∙ c.same (omega arith);
      ports = λ e. j.ports ∙ p.same (omega arith);
    }
