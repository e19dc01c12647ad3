-- The lines of a text whose procedures begin and end as they should.
use Rattle.std.proofs.Common.{◌≡◌, ℕ, suc, ◌+◌, Bool, true, false, List, [], ◌∷◌, ◌++◌, length, length-append, refl, sym, ap, ◌∙◌, subst, arith}
use Rattle.std.specs.Prelude.{Option, Some, None, not, ◌&&◌, if◌then◌else◌, is_some, option_to_list}
use Rattle.std.specs.Option.{option_map_or}
use Rattle.std.specs.List.{AllByRecursion}
use Rattle.tta_roundtrip.specs.Cited.{Form, ProcForm, DataForm, is_end, Said, Block, proc_in, datum_in, are_nested, up_to_end, blocks, data_said}
use Rattle.tta_roundtrip.proofs.Nesting.{is_inner}

inner_is : (line : ℕ) (f : Form) → is_some (proc_in f) ≡ false → is_some (datum_in line f) ≡ false → is_inner f ≡ true
inner_is line (ProcForm name params) p d = cc
inner_is line (DataForm address value) p d = cc
inner_is line f p d = refl

-- how many lines procedures have, with their first ones
abbrev pub size : List Block → ℕ
size [] = 0
size (b ∷ bs) = suc (length b.body) + size bs

-- what is known of lines that are nested
pub record Nested (inside : Bool) (xs : List Said) : Type 0 where
  pub body : inside ≡ true → AllByRecursion (λ x. is_inner x.1 ≡ true) (up_to_end xs)
  pub blocks_in : AllByRecursion (λ b. AllByRecursion (λ x. is_inner x.1 ≡ true) b.body) (blocks xs)
  pub lines : length xs ≡ (if inside then length (up_to_end xs) else 0) + (length (data_said xs) + size (blocks xs))

pub nested : (inside : Bool) (xs : List Said) → are_nested inside xs ≡ true → Nested inside xs
nested true [] e = absurd cc
nested false [] e = record { body = λ wrong. absurd cc; blocks_in = tt; lines = refl }
nested inside (x ∷ xs) e = by inside (is_some (proc_in x.1)) refl (is_some (datum_in x.0 x.1)) refl (is_end x.1) refl e (nested true xs) (nested false xs) where
  -- a form by what it is
  proc_there : (f : Form) → is_some (proc_in f) ≡ true → (name : List ℕ) × (params : List (List ℕ)) × (proc_in f ≡ Some (name, params))
  proc_there (ProcForm name params) is = (name, params, refl)
  proc_there f is = absurd cc

  proc_missing : (f : Form) → is_some (proc_in f) ≡ false → proc_in f ≡ None
  proc_missing (ProcForm name params) is = cc
  proc_missing f is = refl

  datum_missing : (f : Form) → is_some (datum_in x.0 f) ≡ false → datum_in x.0 f ≡ None
  datum_missing (DataForm address value) is = cc
  datum_missing f is = refl

  datum_one : (f : Form) → is_some (datum_in x.0 f) ≡ true → length (option_to_list (datum_in x.0 f)) ≡ 1
  datum_one (DataForm address value) is = refl
  datum_one f is = absurd cc

  no_datum : (f : Form) → is_some (proc_in f) ≡ true → datum_in x.0 f ≡ None
  no_datum (ProcForm name params) is = refl
  no_datum f is = absurd cc

  nest : (inside p d ends : Bool) → is_some (proc_in x.1) ≡ p → is_some (datum_in x.0 x.1) ≡ d → is_end x.1 ≡ ends → are_nested inside (x ∷ xs) ≡ true
      → (if p then not inside && are_nested true xs else if d then not inside && are_nested false xs else inside && are_nested (not ends) xs) ≡ true
  nest inside p d ends a b c e =
      sym (ap (λ z. if z then not inside && are_nested true xs else if is_some (datum_in x.0 x.1) then not inside && are_nested false xs else inside && are_nested (not (is_end x.1)) xs) a
      ∙ ap (λ z. if p then not inside && are_nested true xs else if z then not inside && are_nested false xs else inside && are_nested (not (is_end x.1)) xs) b
      ∙ ap (λ z. if p then not inside && are_nested true xs else if d then not inside && are_nested false xs else inside && are_nested (not z) xs) c) ∙ e

  by : (inside p : Bool) → is_some (proc_in x.1) ≡ p → (d : Bool) → is_some (datum_in x.0 x.1) ≡ d → (ends : Bool) → is_end x.1 ≡ ends → are_nested inside (x ∷ xs) ≡ true
      → (are_nested true xs ≡ true → Nested true xs) → (are_nested false xs ≡ true → Nested false xs) → Nested inside (x ∷ xs)
  by true true a d b ends c e within outside = absurd (let w = nest true true d ends a b c e in cc)
  by false true a d b ends c e within outside =
      let n = within (nest false true d ends a b c e) in
      let p = proc_there x.1 a in
      let bs : blocks (x ∷ xs) ≡ record { line = x.0; name = p.0; params = p.1; body = up_to_end xs } ∷ blocks xs =
      ap (λ o. option_map_or (λ begun. record { line = x.0; name = begun.0; params = begun.1; body = up_to_end xs } ∷ blocks xs) o (blocks xs)) p.2 in
      let ds : data_said (x ∷ xs) ≡ data_said xs = ap (λ o. option_to_list o ++ data_said xs) (no_datum x.1 a) in
      record {
        body = λ wrong. absurd cc;
        blocks_in = subst (AllByRecursion (λ (b : Block). AllByRecursion (λ x. is_inner x.1 ≡ true) b.body)) (sym bs) (n.body refl, n.blocks_in);
        lines = let l = n.lines in let s = ap size bs in let t = ap length ds in omega arith;
      }
  by true false a true b ends c e within outside = absurd (let w = nest true false true ends a b c e in cc)
  by false false a true b ends c e within outside =
      let n = outside (nest false false true ends a b c e) in
      let bs : blocks (x ∷ xs) ≡ blocks xs =
      ap (λ o. option_map_or (λ begun. record { line = x.0; name = begun.0; params = begun.1; body = up_to_end xs } ∷ blocks xs) o (blocks xs)) (proc_missing x.1 a) in
      let one = datum_one x.1 b in
      let long = length-append (option_to_list (datum_in x.0 x.1)) (data_said xs) in
      record {
        body = λ wrong. absurd cc;
        blocks_in = subst (AllByRecursion (λ (b : Block). AllByRecursion (λ x. is_inner x.1 ≡ true) b.body)) (sym bs) n.blocks_in;
        lines = let l = n.lines in let s = ap size bs in omega arith;
      }
  by false false a false b ends c e within outside = absurd (let w = nest false false false ends a b c e in cc)
  by true false a false b true c e within outside =
      let n = outside (nest true false false true a b c e) in
      let bs : blocks (x ∷ xs) ≡ blocks xs =
      ap (λ o. option_map_or (λ begun. record { line = x.0; name = begun.0; params = begun.1; body = up_to_end xs } ∷ blocks xs) o (blocks xs)) (proc_missing x.1 a) in
      let ds : data_said (x ∷ xs) ≡ data_said xs = ap (λ o. option_to_list o ++ data_said xs) (datum_missing x.1 b) in
      let us : up_to_end (x ∷ xs) ≡ x ∷ [] = ap (λ z. if z then x ∷ [] else x ∷ up_to_end xs) c in
      record {
        body = λ is. subst (AllByRecursion (λ (y : Said). is_inner y.1 ≡ true)) (sym us) (inner_is x.0 x.1 a b, tt);
        blocks_in = subst (AllByRecursion (λ (b : Block). AllByRecursion (λ x. is_inner x.1 ≡ true) b.body)) (sym bs) n.blocks_in;
        lines = let l = n.lines in let s = ap size bs in let t = ap length ds in let v = ap length us in omega arith;
      }
  by true false a false b false c e within outside =
      let n = within (nest true false false false a b c e) in
      let bs : blocks (x ∷ xs) ≡ blocks xs =
      ap (λ o. option_map_or (λ begun. record { line = x.0; name = begun.0; params = begun.1; body = up_to_end xs } ∷ blocks xs) o (blocks xs)) (proc_missing x.1 a) in
      let ds : data_said (x ∷ xs) ≡ data_said xs = ap (λ o. option_to_list o ++ data_said xs) (datum_missing x.1 b) in
      let us : up_to_end (x ∷ xs) ≡ x ∷ up_to_end xs = ap (λ z. if z then x ∷ [] else x ∷ up_to_end xs) c in
      record {
        body = λ is. subst (AllByRecursion (λ (y : Said). is_inner y.1 ≡ true)) (sym us) (inner_is x.0 x.1 a b, n.body refl);
        blocks_in = subst (AllByRecursion (λ (b : Block). AllByRecursion (λ x. is_inner x.1 ≡ true) b.body)) (sym bs) n.blocks_in;
        lines = let l = n.lines in let s = ap size bs in let t = ap length ds in let v = ap length us in omega arith;
      }

-- what holds of all lines holds of those of procedures
up_to_all : (P : Said → Type 0) (xs : List Said) → AllByRecursion P xs → AllByRecursion P (up_to_end xs)
up_to_all P [] all = tt
up_to_all P (x ∷ xs) all = by (is_end x.1) (up_to_all P xs all.1) where
  by : (b : Bool) → AllByRecursion P (up_to_end xs) → AllByRecursion P (if b then x ∷ [] else x ∷ up_to_end xs)
  by true rest = (all.0, tt)
  by false rest = (all.0, rest)

pub blocks_all : (P : Said → Type 0) (xs : List Said) → AllByRecursion P xs → AllByRecursion (λ b. AllByRecursion P b.body) (blocks xs)
blocks_all P [] all = tt
blocks_all P (x ∷ xs) all = by (proc_in x.1) (blocks_all P xs all.1) where
  by : (o : Option (List ℕ × List (List ℕ))) → AllByRecursion (λ (b : Block). AllByRecursion P b.body) (blocks xs)
      → AllByRecursion (λ (b : Block). AllByRecursion P b.body) (option_map_or (λ begun. record { line = x.0; name = begun.0; params = begun.1; body = up_to_end xs } ∷ blocks xs) o (blocks xs))
  by None rest = rest
  by (Some begun) rest = (up_to_all P xs all.1, rest)
