-- What a code decodes to is what has the code.
use Rattle.std.proofs.Common.{◌≡◌, ℕ, zero, suc, ◌+◌, ◌-◌, ◌==◌, Bool, true, false, not, if◌then◌else◌, List, [], ◌∷◌, filter, get_or, slice_get, Option, Some, None, option_map, refl, sym, ap, ◌∙◌, arith}
use Rattle.std.specs.List.{list_any, position_or_len}
use Rattle.std.proofs.lemmas.Bool.{and_parts, and_from, or_left, or_right, eqb-true, eq-eqb, not-true, both_ways, false_from_ne_true}
use Rattle.std.proofs.lemmas.Option.{none-some, same_Some, slice_get-get_or}
use Rattle.std.proofs.lemmas.List.Sums.{passes_at_first}
use Rattle.tta_image.specs.Cited.{Guard, GuardRef, Source, Dest, Machine, is_same_guard, is_dest_on, has_guard, guards_on, sources_on, dests_on, same_source, same_dest, source_code, dest_code, guard_code, fields_of, has_source_socket, IsMachine, same_guard, are_different}
use Rattle.tta_arch.specs.declared.ends.Source.TheVariants as source
use Rattle.tta_image.specs.Decoding.{decoded_guard, decoded_dest}
use Rattle.tta_image.specs.Ranks.{source_rank, dest_rank}
use Rattle.tta_image.proofs.Places.{place_inside}
use Rattle.tta_image.proofs.Rising.{rising-position, rising-rank}
use Rattle.tta_image.proofs.EndRanks.{sources_on-rise, dests_on-rise}
use Rattle.tta_image.proofs.EndsLemmas.{same_source_true, same_source_itself, same_dest_true, same_dest_itself, source_kept, dest_kept, guard_kept}
use Rattle.tta_arch.proofs.Guards.{same_guard as same_guard_true, same_guard_itself}

-- ---- sources and destinations

-- the source of a code has this code
pub source_code_at : (m : Machine) (bus code : ℕ) (src : Source) → IsMachine m → slice_get (sources_on m bus) code ≡ Some src → source_code m bus src ≡ code
source_code_at m bus code src rules at =
    rising-position source_rank (same_source src) 0 16385 code src (sources_on m bus) (sources_on-rise m bus rules) at (same_source_itself src)
    (λ y h. ap source_rank (sym (same_source_true src y h)))

-- no code is that of a short word
pub no_value_at : (m : Machine) (bus code word : ℕ) → IsMachine m → slice_get (sources_on m bus) code ≡ Some (source.Value word) → ⊥
no_value_at m bus code word rules at =
    let rank = rising-rank source_rank 0 16385 code (source.Value word) (sources_on m bus) (sources_on-rise m bus rules) at in
    let most = rank.1 in omega arith

dest_code_at : (m : Machine) (bus k : ℕ) (dst : Dest) → IsMachine m → slice_get (dests_on m bus) k ≡ Some dst → position_or_len (same_dest dst) (dests_on m bus) ≡ k
dest_code_at m bus k dst rules at =
    rising-position dest_rank (same_dest dst) 0 16387 k dst (dests_on m bus) (dests_on-rise m bus rules) at (same_dest_itself dst)
    (λ y h. ap dest_rank (sym (same_dest_true dst y h)))

pub dest_code-decoded : (m : Machine) (bus code : ℕ) (dst : Dest) → IsMachine m → (code == 0) ≡ false → decoded_dest (fields_of m bus) code ≡ Some dst → dest_code m bus dst ≡ code
dest_code-decoded m bus code dst rules some at =
    let place = dest_code_at m bus (code - 1) dst rules at in
    let apart : code ≡ 0 → ⊥ = λ e. both_ways (code == 0) some (eq-eqb code 0 e) in
    omega arith

-- the item at the first place that passes
first_item : {X : Type 0} (q : X → Bool) (xs : List X) (d : X) → list_any q xs ≡ true
    → (x : X) × (slice_get xs (position_or_len q xs) ≡ Some x) × (q x ≡ true)
first_item q xs d some =
    let inside = place_inside q xs some in
    (get_or xs (position_or_len q xs) d, slice_get-get_or xs (position_or_len q xs) d inside, passes_at_first q xs d inside)

-- the code of a source decodes to it
pub decoded_source-code : (m : Machine) (bus : ℕ) (src : Source) → has_source_socket m bus src ≡ true → slice_get (sources_on m bus) (source_code m bus src) ≡ Some src
decoded_source-code m bus src h =
    let x = first_item (same_source src) (sources_on m bus) src (source_kept m bus src h) in
    x.1 ∙ ap (λ (s : Source). Some s) (sym (same_source_true src x.0 x.2))

pub decoded_dest-code : (m : Machine) (bus : ℕ) (dst : Dest) → is_dest_on m bus dst ≡ true → decoded_dest (fields_of m bus) (dest_code m bus dst) ≡ Some dst
decoded_dest-code m bus dst h =
    let x = first_item (same_dest dst) (dests_on m bus) dst (dest_kept m bus dst h) in
    let e : dest_code m bus dst - 1 ≡ position_or_len (same_dest dst) (dests_on m bus) = omega arith in
    ap (λ (k : ℕ). slice_get (dests_on m bus) k) e ∙ x.1 ∙ ap (λ (d : Dest). Some d) (sym (same_dest_true dst x.0 x.2))

-- ---- guards

-- an item that a filter lets through passes, and stands in the list
kept_passes : {X : Type 0} (p : X → Bool) (xs : List X) (k : ℕ) (x : X) → slice_get (filter p xs) k ≡ Some x → p x ≡ true
kept_passes p [] k x at = absurd (none-some x at)
kept_passes p (y ∷ ys) k x at = by (p y) refl k at (λ j e. kept_passes p ys j x e) where
  by : (b : Bool) → p y ≡ b → (j : ℕ) → slice_get (filter p (y ∷ ys)) j ≡ Some x → ((i : ℕ) → slice_get (filter p ys) i ≡ Some x → p x ≡ true) → p x ≡ true
  by true is zero e later = ap p (sym (same_Some y x (rw is at e))) ∙ is
  by true is (suc j) e later = later j (rw is at e)
  by false is j e later = later j (rw is at e)

kept_any : {X : Type 0} (p q : X → Bool) (xs : List X) (k : ℕ) (x : X) → slice_get (filter p xs) k ≡ Some x → q x ≡ true → list_any q xs ≡ true
kept_any p q [] k x at pass = absurd (none-some x at)
kept_any p q (y ∷ ys) k x at pass = by (p y) refl k at (λ j e. kept_any p q ys j x e pass) where
  by : (b : Bool) → p y ≡ b → (j : ℕ) → slice_get (filter p (y ∷ ys)) j ≡ Some x → ((i : ℕ) → slice_get (filter p ys) i ≡ Some x → list_any q ys ≡ true)
      → list_any q (y ∷ ys) ≡ true
  by true is zero e later = or_left (q y) (list_any q ys) (ap q (same_Some y x (rw is at e)) ∙ pass)
  by true is (suc j) e later = or_right (q y) (list_any q ys) (later j (rw is at e))
  by false is j e later = or_right (q y) (list_any q ys) (later j (rw is at e))

-- whether a guard is written for this bus
abbrev of_bus : ℕ → Guard → Bool
of_bus bus g = g.bus == bus

guard_place : (bus k : ℕ) (x : Guard) (guards : List Guard) → are_different same_guard guards ≡ true → slice_get (filter (of_bus bus) guards) k ≡ Some x
    → position_or_len (λ g. is_same_guard g.on x.on) (filter (of_bus bus) guards) ≡ k
guard_place bus k x [] apart at = absurd (none-some x at)
guard_place bus k x (g ∷ gs) apart at =
    let parts = and_parts (not (list_any (same_guard g) gs)) (are_different same_guard gs) apart in
    by (of_bus bus g) refl k at parts.0 (λ j e. guard_place bus j x gs parts.1 e) where
      by : (b : Bool) → of_bus bus g ≡ b → (j : ℕ) → slice_get (filter (of_bus bus) (g ∷ gs)) j ≡ Some x → not (list_any (same_guard g) gs) ≡ true
          → ((i : ℕ) → slice_get (filter (of_bus bus) gs) i ≡ Some x → position_or_len (λ y. is_same_guard y.on x.on) (filter (of_bus bus) gs) ≡ i)
          → position_or_len (λ y. is_same_guard y.on x.on) (filter (of_bus bus) (g ∷ gs)) ≡ j
      by true is zero e alone more =
          let same : is_same_guard g.on x.on ≡ true = ap (λ (y : Guard). is_same_guard y.on x.on) (same_Some g x (rw is at e)) ∙ same_guard_itself x.on in
          rw (is, same) refl
      by true is (suc j) e alone more =
          let later : slice_get (filter (of_bus bus) gs) j ≡ Some x = rw is at e in
          let bus_same : g.bus ≡ x.bus = eqb-true g.bus bus is ∙ sym (eqb-true x.bus bus (kept_passes (of_bus bus) gs j x later)) in
          let other : is_same_guard g.on x.on ≡ false = false_from_ne_true (is_same_guard g.on x.on)
          (λ same. both_ways (list_any (same_guard g) gs) (not-true (list_any (same_guard g) gs) alone)
          (kept_any (of_bus bus) (same_guard g) gs j x later (and_from (g.bus == x.bus) (is_same_guard g.on x.on) (eq-eqb g.bus x.bus bus_same) same))) in
          let rest = more j later in
          rw (is, other) (omega arith)
      by false is j e alone more = let rest = more j (rw is at e) in rw is rest

-- the guard of a code has this code
pub guard_code-decoded : (m : Machine) (bus code : ℕ) (guard : Option GuardRef) → IsMachine m → decoded_guard (fields_of m bus) code ≡ Some guard → guard_code m bus guard ≡ code
guard_code-decoded m bus code guard rules said = by (code == 0) refl said where
  found : (code == 0) ≡ false → (o : Option Guard) → slice_get (guards_on m bus) (code - 1) ≡ o → option_map (λ g. Some g.on) o ≡ Some guard → guard_code m bus guard ≡ code
  found some None at h = absurd (none-some guard h)
  found some (Some x) at h =
      let place = guard_place bus (code - 1) x m.guards rules.different_guards at in
      let apart : code ≡ 0 → ⊥ = λ e. both_ways (code == 0) some (eq-eqb code 0 e) in
      ap (guard_code m bus) (sym (same_Some (Some x.on) guard h)) ∙ omega arith

  by : (b : Bool) → (code == 0) ≡ b → (if b then Some None else option_map (λ g. Some g.on) (slice_get (guards_on m bus) (code - 1))) ≡ Some guard → guard_code m bus guard ≡ code
  by true is h = ap (guard_code m bus) (sym (same_Some None guard h)) ∙ sym (eqb-true code 0 is)
  by false is h = found is (slice_get (guards_on m bus) (code - 1)) refl h

-- the code of a guard decodes to it
pub decoded_guard-code : (m : Machine) (bus : ℕ) (guard : Option GuardRef) → has_guard m bus guard ≡ true → decoded_guard (fields_of m bus) (guard_code m bus guard) ≡ Some guard
decoded_guard-code m bus None h = refl
decoded_guard-code m bus (Some on) h =
    let q : Guard → Bool = λ g. is_same_guard g.on on in
    let d : Guard = record { bus = bus; on = on } in
    let x = first_item (λ (g : Guard). is_same_guard g.on on) (guards_on m bus) d (guard_kept m bus on h) in
    let k : ℕ = position_or_len (λ (g : Guard). is_same_guard g.on on) (guards_on m bus) in
    let some : (1 + k == 0) ≡ false = false_from_ne_true (1 + k == 0) (λ e. let z = eqb-true (1 + k) 0 e in absurd (omega arith)) in
    let e : 1 + k - 1 ≡ k = omega arith in
    rw (some, e) (ap (λ (o : Option Guard). option_map (λ g. Some g.on) o) x.1 ∙ ap (λ (g : GuardRef). Some (Some g)) (same_guard_true x.0.on on x.2))
