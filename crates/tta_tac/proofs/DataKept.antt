-- A line of data keeps what makes a program keep the rules.
use Rattle.std.proofs.Common.{◌≡◌, ℕ, Bool, true, false, not, List, [], ◌∷◌, ◌++◌, refl, ◌∙◌, ap, subst, arith, length-append}
use Rattle.std.specs.Prelude.{◌&&◌, ◌||◌, ◌==◌, nat_lt, ◌^◌}
use Rattle.std.specs.List.{list_all, list_any}
use Rattle.std.proofs.lemmas.Bool.{and_from, and_parts, or_parts}
use Rattle.std.proofs.lemmas.List.Folds.{list_all-append, list_any-append}
use Rattle.tta_tac.specs.Cited.{DataLine, is_datum, are_apart}
use Rattle.tta_tac.specs.Draft.{Draft}
use Rattle.tta_tac.specs.Kept.{IsKept}
use Rattle.tta_tac.specs.FirstPass.{has_address, with_datum}
use Rattle.tta_tac.proofs.Taken.{DatumTaken}
use Rattle.tta_list.proofs.Tests.{same_back as same_test}

-- one address more, which none before it is
apart_more : (ds : List DataLine) (x : DataLine) → are_apart ds ≡ true → has_address ds x.address ≡ false → are_apart (ds ++ x ∷ []) ≡ true
apart_more [] x apart free = refl
apart_more (d ∷ ds) x apart free =
    let parts = and_parts (not (list_any (λ e. e.address == d.address) ds)) (are_apart ds) apart in
    let tests = or_parts (d.address == x.address) (has_address ds x.address) free in
    and_from (not (list_any (λ e. e.address == d.address) (ds ++ x ∷ []))) (are_apart (ds ++ x ∷ []))
    (ap not (list_any-append (λ (e : DataLine). e.address == d.address) ds (x ∷ []))
    ∙ ap (λ t. not (list_any (λ e. e.address == d.address) ds || (t || false))) (same_test x.address d.address ∙ tests.0)
    ∙ no_more (list_any (λ e. e.address == d.address) ds) parts.0)
    (apart_more ds x parts.1 tests.1) where
      no_more : (b : Bool) → not b ≡ true → not (b || (false || false)) ≡ true
      no_more true e = e
      no_more false e = refl

pub datum_kept : (d e : Draft) (line address value : ℕ) → IsKept d → (nat_lt address (2 ^ 32) && nat_lt value (2 ^ 32)) ≡ true
    → DatumTaken d e line address value → IsKept e
datum_kept d e line address value kept fit t = subst IsKept t.made next where
  datum : DataLine
  datum = record { address = address; value = value; line = line }

  next : IsKept (with_datum d (record { address = address; value = value; line = line }))
  next =
      let size = length-append d.init (datum ∷ []) in
      record {
        most = omega (arith, t.room);
        lines = let before = kept.lines in omega arith;
        ended = kept.ended;
        begun = kept.begun;
        names = kept.names;
        once = kept.once;
        main = kept.main;
        init = list_all-append is_datum d.init (datum ∷ []) ∙ and_from (list_all is_datum d.init) (is_datum datum && true) kept.init (and_from (is_datum datum) true fit refl);
        apart = apart_more d.init datum kept.apart t.free;
      }
