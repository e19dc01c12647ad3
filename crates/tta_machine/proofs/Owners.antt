-- How many units serve a space or the output when a unit has one operation more.
use Rattle.std.proofs.Common.{◌≡◌, ◌<◌, ◌≤◌, ◌+◌, ◌∷◌, [], ℕ, Bool, List, Some, true, false, not, zero, suc, length, refl, ap, ◌∙◌, arith, le-leb, lit≤}
use Rattle.std.specs.Prelude.{◌==◌, ◌&&◌, ◌||◌, slice_get, slice_set, filter, if◌then◌else◌}
use Rattle.std.specs.List.{list_any}
use Rattle.std.proofs.lemmas.Bool.{or_parts, ne_eqb, le-leb}
use Rattle.std.proofs.lemmas.List.Folds.{list_any-append}
use Rattle.tta_list.proofs.Lists.{count_changed}
use Rattle.tta_arch.specs.declared.parts.Unit.{Unit as OpUnit}
use Rattle.tta_machine.specs.Cited.{UnitOp, Op, has_one_owner}
use Rattle.tta_machine.specs.Declarations.{has_op, has_other, with_op}

-- the units that have an operation of this kind, and so serve its space or the output
abbrev owners : (Op → Bool) → List OpUnit → List OpUnit
owners kind units = filter (λ u. list_any (λ o. kind o.op) u.ops) units

-- no unit from here on has such an operation, where the one left out stands before
none_from : (kind : Op → Bool) (k at : ℕ) (units : List OpUnit) → k < at → has_other kind k at units ≡ false → length (owners kind units) ≡ 0
none_from kind k at [] before h = refl
none_from kind k at (u ∷ us) before h =
    let parts = or_parts (not (at == k) && has_op kind u) (has_other kind k (at + 1) us) h in
    let other : (at == k) ≡ false = ne_eqb at k (λ e. omega arith) in
    let none : has_op kind u ≡ false = rw other at parts.0 in
    let later : length (owners kind us) ≡ 0 = none_from kind k (at + 1) us (omega arith) parts.1 in
    rw none later

-- no other unit has such an operation
one_at_most : (kind : Op → Bool) (k at j : ℕ) (units : List OpUnit) (v : OpUnit) → k ≡ at + j → has_other kind k at units ≡ false
    → length (owners kind (slice_set units j v)) ≤ 1
one_at_most kind k at j [] v e h = lit≤ tt
one_at_most kind k at zero (u ∷ us) v e h =
    let parts = or_parts (not (at == k) && has_op kind u) (has_other kind k (at + 1) us) h in
    by (none_from kind k (at + 1) us (omega arith) parts.1) (has_op kind v)
  where
    by : length (owners kind us) ≡ 0 → (b : Bool) → length (if b then v ∷ owners kind us else owners kind us) ≤ 1
    by later true = omega arith
    by later false = omega arith
one_at_most kind k at (suc j) (u ∷ us) v e h =
    let parts = or_parts (not (at == k) && has_op kind u) (has_other kind k (at + 1) us) h in
    let other : (at == k) ≡ false = ne_eqb at k (λ same. omega arith) in
    let none : has_op kind u ≡ false = rw other at parts.0 in
    rw none (one_at_most kind k (at + 1) j us v (omega arith) parts.1)

-- one operation more makes no second owner
pub one_owner-more : (kind : Op → Bool) (units : List OpUnit) (k : ℕ) (unit : OpUnit) (o : UnitOp) → slice_get units k ≡ Some unit
    → (kind o.op && has_other kind k 0 units) ≡ false → has_one_owner kind units ≡ true → has_one_owner kind (slice_set units k (with_op unit o)) ≡ true
one_owner-more kind units k unit o at free one = by (kind o.op) refl free where
  by : (b : Bool) → kind o.op ≡ b → (b && has_other kind k 0 units) ≡ false → has_one_owner kind (slice_set units k (with_op unit o)) ≡ true
  by true is none = le-leb (length (owners kind (slice_set units k (with_op unit o)))) 1 (one_at_most kind k 0 k units (with_op unit o) (omega arith) none)
  by false is none =
      let test : OpUnit → Bool = λ u. list_any (λ p. kind p.op) u.ops in
      let nothing : (kind o.op || false) ≡ false = rw is refl in
      let alike : test (with_op unit o) ≡ test unit =
      list_any-append (λ p. kind p.op) unit.ops (o ∷ []) ∙ ap (λ b. list_any (λ p. kind p.op) unit.ops || b) nothing ∙ or_false (list_any (λ p. kind p.op) unit.ops) in
      let same : length (owners kind (slice_set units k (with_op unit o))) ≡ length (owners kind units) = count_changed test units k (with_op unit o) unit at alike in
      rw same one
    where
      or_false : (b : Bool) → (b || false) ≡ b
      or_false true = refl
      or_false false = refl
