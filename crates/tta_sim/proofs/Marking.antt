-- Marks of lines, which stay right as words are added.
use Rattle.std.proofs.Common.{◌≡◌, ◌<◌, ◌||◌, ◌==◌, not, length, get_or, ℕ, Bool, true, false, List, [], ◌∷◌, map, Option, None, Some, ◌⊎◌, inl, inr, refl, ap, sym, ◌∙◌, subst}
use Rattle.std.specs.Prelude.{is_some, slice_get, slice_set, slice_index_or, option_map, if◌then◌else◌}
use Rattle.std.specs.List.{list_all}
use Rattle.std.proofs.lemmas.Bool.{and_parts, and_from}
use Rattle.std.proofs.lemmas.List.{length-set, length-map}
use Rattle.std.proofs.lemmas.Option.{slice_get-map, slice_get-get_or}
use Rattle.tta_list.proofs.Lists.{slice_get-changed}
use Rattle.tta_sim.specs.Cited.{KeptOperand}
use Rattle.tta_sim.specs.declared.decoded.DecodedGuard.{DecodedGuard}
use Rattle.tta_sim.specs.declared.decoded.DecodedSource.{DecodedSource}
use Rattle.tta_sim.specs.declared.decoded.DecodedSource.TheVariants as decoded
use Rattle.tta_sim.specs.declared.decoded.Reading.{Reading}
use Rattle.tta_sim.specs.declared.decoded.DecodedStart.{DecodedStart}
use Rattle.tta_sim.specs.declared.decoded.Line.{Line}
use Rattle.tta_sim.specs.declared.flat.Row.{Row}
use Rattle.tta_sim.specs.declared.mark.Mark.{Mark}
use Rattle.tta_sim.specs.declared.mark.Mark.TheVariants as mark
use Rattle.tta_sim.specs.Places.{number_of}
use Rattle.tta_sim.specs.Lines.{source_word}
use Rattle.tta_sim.specs.Order.{is_in_order}
use Rattle.tta_sim.specs.Known.{is_guard_known, is_known, is_start_known, is_settled, mark_of, IsMarked, IsKnown, AreKnown, Grows}
use Rattle.tta_sim.specs.Flat.{row_with}

some_same : {A : Type 0} (x y : A) → Some x ≡ Some y → x ≡ y
some_same x y is = cc

-- an element that is there, whatever stands for none
pub get_or_same : (lines : List Line) (k : ℕ) (d e : Line) → k < length lines → get_or lines k d ≡ get_or lines k e
get_or_same lines k d e less = some_same (get_or lines k d) (get_or lines k e) (sym (slice_get-get_or lines k d less) ∙ slice_get-get_or lines k e less)

-- ---- the begin

-- lines with the rows of the begin
pub first_known : (places : List (Option ℕ)) (shown : ℕ → Option ℕ) (lines : List Line) → AreKnown places shown lines (map (λ l. row_with (mark_of l) l) lines)
first_known places shown lines = record {
  count = length-map lines (λ l. row_with (mark_of l) l);
  each = λ k l row there at.
      let is : row_with (mark_of l) l ≡ row =
      some_same (row_with (mark_of l) l) row (sym (slice_get-map (λ l. row_with (mark_of l) l) lines k ∙ ap (option_map (λ l. row_with (mark_of l) l)) there) ∙ at) in
      subst (IsKnown places shown l) is (record { marked = one l; moves = refl });
} where
  one : (l : Line) → IsMarked places shown l (mark_of l)
  one l = elim (is_in_order l) as (λ b. is_in_order l ≡ b → IsMarked places shown l (if b then mark.Ordered else mark.Apart)) [
    | true ↦ λ is. is
    | false ↦ λ is. tt
  ] refl

-- ---- another mark

-- a line whose mark is another
pub known_set : (places : List (Option ℕ)) (shown : ℕ → Option ℕ) (lines : List Line) (rows : List Row) (i : ℕ) (l : Line) (row : Row) (m : Mark) → AreKnown places shown lines rows
    → slice_get lines i ≡ Some l → slice_get rows i ≡ Some row → IsMarked places shown l m → AreKnown places shown lines (slice_set rows i (record row { mark = m }))
known_set places shown lines rows i l row m are at row_at is = record {
  count = length-set rows i (record row { mark = m }) ∙ are.count;
  each = λ k x n there known. by k x n there (slice_get-changed rows i (record row { mark = m }) k n known);
} where
  it : IsKnown places shown l (record row { mark = m })
  it = record { marked = is; moves = ap {A = Row} {B = Row} (λ q. record q { mark = m }) (are.each i l row at row_at).moves }

  by : (k : ℕ) (x : Line) (n : Row) → slice_get lines k ≡ Some x → (slice_get rows k ≡ Some n) ⊎ ((k ≡ i) × (record row { mark = m } ≡ n)) → IsKnown places shown x n
  by k x n there (inl before) = are.each k x n there before
  by k x n there (inr (here, same)) =
      let line : l ≡ x = some_same l x (sym at ∙ ap (slice_get lines) (sym here) ∙ there) in
      subst (IsKnown places shown x) same (subst (λ y. IsKnown places shown y (record row { mark = m })) line it)

-- ---- more words

module _ (places places' : List (Option ℕ)) (shown shown' : ℕ → Option ℕ) (grows : Grows (λ k. slice_index_or places k None) (λ k. slice_index_or places' k None)) (ports : Grows shown shown') where
  known_grows : (r : Reading) → is_known places shown r ≡ true → is_known places' shown' r ≡ true
  known_grows r known =
      let parts = and_parts (is_guard_known places r.guard) (is_some (source_word places shown r.src)) known in
      and_from (is_guard_known places' r.guard) (is_some (source_word places' shown' r.src)) (guarded r.guard parts.0) (sourced r.src parts.1)
    where
      guarded : (o : Option DecodedGuard) → is_guard_known places o ≡ true → is_guard_known places' o ≡ true
      guarded None known = refl
      guarded (Some g) known = grows g.place known

      sourced : (src : DecodedSource) → is_some (source_word places shown src) ≡ true → is_some (source_word places' shown' src) ≡ true
      sourced (decoded.Word word) some = refl
      sourced (decoded.Place number) some = grows number some
      sourced (decoded.Port unit) some = ports unit some

  start_grows : (s : DecodedStart) → is_start_known places shown s ≡ true → is_start_known places' shown' s ≡ true
  start_grows s known =
      let place : ℕ = number_of (KeptOperand s.unit) in
      let parts = and_parts (is_known places shown s.reading) (not (s.does.arity == 2) || is_some (slice_index_or places place None)) known in
      and_from _ _ (known_grows s.reading parts.0) (by (s.does.arity == 2) parts.1)
    where
      by : (b : Bool) → (not b || is_some (slice_index_or places (number_of (KeptOperand s.unit)) None)) ≡ true → (not b || is_some (slice_index_or places' (number_of (KeptOperand s.unit)) None)) ≡ true
      by true some = grows (number_of (KeptOperand s.unit)) some
      by false some = refl

  all_grow : {A : Type 0} (p q : A → Bool) → ((x : A) → p x ≡ true → q x ≡ true) → (xs : List A) → list_all p xs ≡ true → list_all q xs ≡ true
  all_grow p q more [] all = refl
  all_grow p q more (x ∷ xs) all =
      let parts = and_parts (p x) (list_all p xs) all in
      and_from (q x) (list_all q xs) (more x parts.0) (all_grow p q more xs parts.1)

  settled_grows : (l : Line) → is_settled places shown l ≡ true → is_settled places' shown' l ≡ true
  settled_grows l settled =
      let one = and_parts (list_all (λ w. is_known places shown w.reading) l.writes) _ settled in
      let two = and_parts (list_all (is_start_known places shown) l.starts) (list_all (λ t. is_known places shown t.reading) l.controls) one.1 in
      and_from _ _ (all_grow (λ w. is_known places shown w.reading) (λ w. is_known places' shown' w.reading) (λ w. known_grows w.reading) l.writes one.0)
      (and_from _ _ (all_grow (is_start_known places shown) (is_start_known places' shown') start_grows l.starts two.0)
      (all_grow (λ t. is_known places shown t.reading) (λ t. is_known places' shown' t.reading) (λ t. known_grows t.reading) l.controls two.1))

  mark_grows : (l : Line) (m : Mark) → IsMarked places shown l m → IsMarked places' shown' l m
  mark_grows l mark.Apart is = tt
  mark_grows l mark.Ordered is = is
  mark_grows l mark.Settled is = (is.0, settled_grows l is.1)

  -- what is known of lines stays right where no word is lost
  pub known_kept : (lines lines' : List Line) → lines' ≡ lines → (rows : List Row) → AreKnown places shown lines rows → AreKnown places' shown' lines' rows
  known_kept lines lines' same rows are = subst (λ ls. AreKnown places' shown' ls rows) (sym same) (record {
    count = are.count;
    each = λ k l row there at. let is = are.each k l row there at in record { marked = mark_grows l row.mark is.marked; moves = is.moves };
  })
