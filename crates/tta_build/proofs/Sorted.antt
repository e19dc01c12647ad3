-- Data in the order of their addresses lay what they lay in the order of the text.
use Rattle.std.proofs.Common.{◌≡◌, ◌≢◌, ◌<◌, ◌≤◌, ◌+◌, ◌^◌, ℕ, suc, Bool, true, false, List, [], ◌∷◌, refl, sym, ap, subst, ◌∙◌, arith, length, map, get_or}
use Rattle.std.specs.Prelude.{◌==◌, ◌&&◌, ◌||◌, not, nat_lt, nat_le, if◌then◌else◌, slice_set, IsPermutation}
use Rattle.std.specs.List.{list_any, list_all, sum_by}
use Rattle.std.specs.List.Sorted.{IsNonDecreasingBy}
use Rattle.std.proofs.lemmas.Bool.{and_parts, and_from, not-true}
use Rattle.std.proofs.lemmas.Bool.Decides.{nat_tests}
use Rattle.std.proofs.lemmas.List.{same_lists, get_or_default, get_or-set_same, get_or-set_other, length-set}
use Rattle.std.proofs.lemmas.List.Sums.{sum_by-cons}
use Rattle.std.proofs.lemmas.List.Sorted.{sum_by-IsPermutation}
use Rattle.tta_build.specs.Cited.{DataLine, Laid, over, Program, datum_of, data_of, IsProgram, is_datum, are_apart, Datum, laid_by, rises_from, rises, fits}
use Rattle.tta_build.specs.Data.{datum_in}

-- ---- how often an address stands, and with which values

-- 1 where a datum has an address
abbrev one_at : ℕ → Datum → ℕ
one_at a d = if d.address == a then 1 else 0

-- its value there
abbrev value_at : ℕ → Datum → ℕ
value_at a d = if d.address == a then d.value else 0

-- how many data have an address
abbrev count : ℕ → List Datum → ℕ
count a ds = sum_by (one_at a) ds

-- the sum of the values at an address
abbrev total : ℕ → List Datum → ℕ
total a ds = sum_by (value_at a) ds

-- no address stands twice
abbrev AreAlone : List Datum → Type 0
AreAlone ds = (a : ℕ) → count a ds ≤ 1

count_more : (a : ℕ) (d : Datum) (ds : List Datum) → count a (d ∷ ds) ≡ one_at a d + count a ds
count_more a d ds = sum_by-cons (one_at a) d ds

total_more : (a : ℕ) (d : Datum) (ds : List Datum) → total a (d ∷ ds) ≡ value_at a d + total a ds
total_more a d ds = sum_by-cons (value_at a) d ds

alone_rest : (d : Datum) (ds : List Datum) → AreAlone (d ∷ ds) → AreAlone ds
alone_rest d ds alone a = let h = alone a in let e = count_more a d ds in omega (arith, h, e)

-- without a datum at an address there is no value
none_total : (a : ℕ) (ds : List Datum) → count a ds ≡ 0 → total a ds ≡ 0
none_total a [] none = refl
none_total a (d ∷ ds) none = on (d.address == a) refl (λ n. none_total a ds n) where
  on : (b : Bool) → (d.address == a) ≡ b → (count a ds ≡ 0 → total a ds ≡ 0) → total a (d ∷ ds) ≡ 0
  on true e ih =
      let h = count_more a d ds in
      let one : one_at a d ≡ 1 = rw e refl in
      absurd (omega (arith, h, one, none))
  on false e ih =
      let h = count_more a d ds in
      let t = total_more a d ds in
      let zero_one : one_at a d ≡ 0 = rw e refl in
      let zero_value : value_at a d ≡ 0 = rw e refl in
      let rest = ih (omega (arith, h, zero_one, none)) in
      omega (arith, t, zero_value, rest)

-- ---- what is laid at an address

laid_length : (ds : List Datum) (memory : List ℕ) → length (over (laid_by ds) memory) ≡ length memory
laid_length [] memory = refl
laid_length (d ∷ ds) memory = laid_length ds (slice_set memory d.address d.value) ∙ length-set memory d.address d.value

-- a word of the memory is that of its datum, or the old one where it has none
laid_at : (ds : List Datum) (memory : List ℕ) (a : ℕ) → AreAlone ds → a < length memory
    → get_or (over (laid_by ds) memory) a 0 ≡ (if count a ds == 0 then get_or memory a 0 else total a ds)
laid_at [] memory a alone lt = refl
laid_at (d ∷ ds) memory a alone lt =
    on (laid_at ds (slice_set memory d.address d.value) a (alone_rest d ds alone) (let e = length-set memory d.address d.value in omega (arith, e, lt))) (d.address == a) refl where
      choose : (c n x y : ℕ) → c ≡ n → (if c == 0 then x else y) ≡ (if n == 0 then x else y)
      choose c n x y e = rw e refl

      on : get_or (over (laid_by ds) (slice_set memory d.address d.value)) a 0 ≡ (if count a ds == 0 then get_or (slice_set memory d.address d.value) a 0 else total a ds)
          → (b : Bool) → (d.address == a) ≡ b → get_or (over (laid_by ds) (slice_set memory d.address d.value)) a 0 ≡ (if count a (d ∷ ds) == 0 then get_or memory a 0 else total a (d ∷ ds))
      on ih true e =
          let same : d.address ≡ a = grind (arith, nat_tests) in
          let h = count_more a d ds in
          let most = alone a in
          let one : one_at a d ≡ 1 = rw e refl in
          let value : value_at a d ≡ d.value = rw e refl in
          let none : count a ds ≡ 0 = omega (arith, h, most, one) in
          let whole : count a (d ∷ ds) ≡ 1 = omega (arith, h, none, one) in
          let t = total_more a d ds in
          let rest = none_total a ds none in
          let sum : total a (d ∷ ds) ≡ d.value = omega (arith, t, value, rest) in
          let set_there : get_or (slice_set memory d.address d.value) a 0 ≡ d.value =
          subst (λ (k : ℕ). get_or (slice_set memory k d.value) a 0 ≡ d.value) (sym same) (get_or-set_same memory a d.value 0 lt) in
          ih ∙ choose (count a ds) 0 _ _ none ∙ set_there ∙ sym sum ∙ sym (choose (count a (d ∷ ds)) 1 _ _ whole)
      on ih false e =
          let other : a ≢ d.address = λ s. grind (arith, nat_tests) in
          let h = count_more a d ds in
          let t = total_more a d ds in
          let none : one_at a d ≡ 0 = rw e refl in
          let value : value_at a d ≡ 0 = rw e refl in
          let same_count : count a (d ∷ ds) ≡ count a ds = omega (arith, h, none) in
          let same_total : total a (d ∷ ds) ≡ total a ds = omega (arith, t, value) in
          let kept : get_or (slice_set memory d.address d.value) a 0 ≡ get_or memory a 0 = get_or-set_other memory d.address a d.value 0 other in
          ih ∙ ap (λ (w : ℕ). if count a ds == 0 then w else total a ds) kept
          ∙ ap (λ (w : ℕ). if count a ds == 0 then get_or memory a 0 else w) (sym same_total)
          ∙ sym (choose (count a (d ∷ ds)) (count a ds) _ _ same_count)

-- ---- in another order

alone_moved : (ds es : List Datum) → IsPermutation ds es → AreAlone ds → AreAlone es
alone_moved ds es moved alone a = let h = alone a in let e = sum_by-IsPermutation (one_at a) ds es moved in omega (arith, h, e)

-- data lay the same in any order
laid_moved : (ds es : List Datum) (memory : List ℕ) → IsPermutation ds es → AreAlone ds → over (laid_by es) memory ≡ over (laid_by ds) memory
laid_moved ds es memory moved alone = same_lists (over (laid_by es) memory) (over (laid_by ds) memory) (laid_length es memory ∙ sym (laid_length ds memory)) each where
  each : (k : ℕ) (d : ℕ) → k < length (over (laid_by es) memory) → get_or (over (laid_by es) memory) k d ≡ get_or (over (laid_by ds) memory) k d
  each k d lt =
      let long = laid_length es memory in
      let long' = laid_length ds memory in
      let below : k < length memory = omega (arith, lt, long) in
      let below' : k < length (over (laid_by ds) memory) = omega (arith, below, long') in
      get_or_default (over (laid_by es) memory) k d 0 lt
      ∙ laid_at es memory k (alone_moved ds es moved alone) below
      ∙ ap (λ (c : ℕ). if c == 0 then get_or memory k 0 else total k es) (sum_by-IsPermutation (one_at k) ds es moved)
      ∙ ap (λ (t : ℕ). if count k ds == 0 then get_or memory k 0 else t) (sum_by-IsPermutation (value_at k) ds es moved)
      ∙ sym (laid_at ds memory k alone below)
      ∙ get_or_default (over (laid_by ds) memory) k 0 d below'

-- ---- addresses that ascend

first_counted : (d : Datum) (ds : List Datum) → 1 ≤ count d.address (d ∷ ds)
first_counted d ds =
    let same : (d.address == d.address) ≡ true = grind (arith, nat_tests) in
    let one : one_at d.address d ≡ 1 = rw same refl in
    let h = count_more d.address d ds in
    omega (arith, one, h)

-- where none stands twice, each is above the one before
strictly : (least : ℕ) (ds : List Datum) → IsNonDecreasingBy (λ (d : Datum). d.address) ds → AreAlone ds → ((d : Datum) → 0 < length ds → least ≤ (get_or ds 0 d).address)
    → rises_from least ds ≡ true
strictly least [] up alone from = refl
strictly least (d ∷ ds) up alone from =
    let low : least ≤ d.address = from d (omega arith) in
    let test : nat_le least d.address ≡ true = grind (arith, nat_tests) in
    and_from (nat_le least d.address) (rises_from (d.address + 1) ds) test
    (strictly (d.address + 1) ds (λ i j e le lt. up (suc i) (suc j) e (omega (arith, le)) (omega (arith, lt))) (alone_rest d ds alone) (next ds refl)) where
      next : (es : List Datum) → ds ≡ es → (e : Datum) → 0 < length ds → d.address + 1 ≤ (get_or ds 0 e).address
      next [] is e lt = absurd (let n = ap length is in omega (arith, n, lt))
      next (x ∷ es) is e lt =
          let here : get_or ds 0 e ≡ x = ap (λ (l : List Datum). get_or l 0 e) is in
          let le : d.address ≤ (get_or ds 0 e).address = up 0 1 e (omega arith) (omega (arith, lt)) in
          let most = alone d.address in
          let h = count_more d.address d ds in
          let same : (d.address == d.address) ≡ true = grind (arith, nat_tests) in
          let one : one_at d.address d ≡ 1 = rw same refl in
          let none : count d.address ds ≡ 0 = omega (arith, most, h, one) in
          let none' : count d.address (x ∷ es) ≡ 0 = ap (count d.address) (sym is) ∙ none in
          let some = first_counted x es in
          let address : (get_or ds 0 e).address ≡ x.address = ap (λ (y : Datum). y.address) here in
          let differ : (d.address ≡ x.address → ⊥) =
          λ s. let zero' : count x.address (x ∷ es) ≡ 0 = subst (λ (k : ℕ). count k (x ∷ es) ≡ 0) s none' in omega (arith, some, zero') in
          above d.address x.address (omega (arith, le, address)) differ address where
            above : (a b : ℕ) → a ≤ b → (a ≡ b → ⊥) → {c : ℕ} → c ≡ b → a + 1 ≤ c
            above a b le ne e = omega (arith, le, ne, e)

-- ---- data of a space

-- 1 where a test fails
abbrev fails : (Datum → Bool) → Datum → ℕ
fails test d = if test d then 0 else 1

none_fails : (test : Datum → Bool) (ds : List Datum) → list_all test ds ≡ true → sum_by (fails test) ds ≡ 0
none_fails test [] all = refl
none_fails test (d ∷ ds) all =
    let two = and_parts (test d) (list_all test ds) all in
    let h = sum_by-cons (fails test) d ds in
    let own : fails test d ≡ 0 = rw two.0 refl in
    let rest = none_fails test ds two.1 in
    omega (arith, h, own, rest)

all_pass : (test : Datum → Bool) (ds : List Datum) → sum_by (fails test) ds ≡ 0 → list_all test ds ≡ true
all_pass test [] none = refl
all_pass test (d ∷ ds) none = on (test d) refl (λ n. all_pass test ds n) where
  on : (b : Bool) → test d ≡ b → (sum_by (fails test) ds ≡ 0 → list_all test ds ≡ true) → (test d && list_all test ds) ≡ true
  on true e ih =
      let h = sum_by-cons (fails test) d ds in
      and_from (test d) (list_all test ds) e (ih (omega (arith, h, none)))
  on false e ih =
      let h = sum_by-cons (fails test) d ds in
      let own : fails test d ≡ 1 = rw e refl in
      absurd (omega (arith, h, own, none))

-- a test that all data pass, they pass in any order
passed_moved : (test : Datum → Bool) (ds es : List Datum) → IsPermutation ds es → list_all test ds ≡ true → list_all test es ≡ true
passed_moved test ds es moved all = all_pass test es (sum_by-IsPermutation (fails test) ds es moved ∙ none_fails test ds all)

-- ---- a program's data

laid_lines : (init : List DataLine) → laid_by (map datum_in init) ≡ map datum_of init
laid_lines [] = refl
laid_lines (d ∷ init) = ap (λ (l : Laid). datum_of d ∷ l) (laid_lines init)

none_line : (a : ℕ) (init : List DataLine) → list_any (λ (e : DataLine). e.address == a) init ≡ false → count a (map datum_in init) ≡ 0
none_line a [] none = refl
none_line a (d ∷ init) none = on (d.address == a) refl none (λ n. none_line a init n) where
  on : (b : Bool) → (d.address == a) ≡ b → (b || list_any (λ (e : DataLine). e.address == a) init) ≡ false
      → (list_any (λ (e : DataLine). e.address == a) init ≡ false → count a (map datum_in init) ≡ 0) → count a (map datum_in (d ∷ init)) ≡ 0
  on true e none ih = absurd cc
  on false e none ih =
      let h = count_more a (datum_in d) (map datum_in init) in
      let own : one_at a (datum_in d) ≡ 0 = rw e refl in
      let rest = ih none in
      omega (arith, h, own, rest)

lines_alone : (init : List DataLine) → are_apart init ≡ true → AreAlone (map datum_in init)
lines_alone [] apart a = omega arith
lines_alone (d ∷ init) apart a = on (d.address == a) refl (λ h. lines_alone init h a) where
  two : (not (list_any (λ (e : DataLine). e.address == d.address) init) ≡ true) × (are_apart init ≡ true)
  two = and_parts (not (list_any (λ (e : DataLine). e.address == d.address) init)) (are_apart init) apart

  on : (b : Bool) → (d.address == a) ≡ b → (are_apart init ≡ true → count a (map datum_in init) ≤ 1) → count a (map datum_in (d ∷ init)) ≤ 1
  on true e ih =
      let same : d.address ≡ a = grind (arith, nat_tests) in
      let none : count d.address (map datum_in init) ≡ 0 = none_line d.address init (not-true _ two.0) in
      let none' : count a (map datum_in init) ≡ 0 = subst (λ (k : ℕ). count k (map datum_in init) ≡ 0) same none in
      let h = count_more a (datum_in d) (map datum_in init) in
      let own : one_at a (datum_in d) ≡ 1 = rw e refl in
      omega (arith, h, own, none')
  on false e ih =
      let h = count_more a (datum_in d) (map datum_in init) in
      let own : one_at a (datum_in d) ≡ 0 = rw e refl in
      let rest = ih two.1 in
      omega (arith, h, own, rest)

lines_fit : (words : ℕ) (init : List DataLine) → list_all is_datum init ≡ true → list_all (λ (d : DataLine). nat_lt d.address words) init ≡ true → fits words (map datum_in init) ≡ true
lines_fit words [] are low = refl
lines_fit words (d ∷ init) are low =
    let a = and_parts (is_datum d) (list_all is_datum init) are in
    let b = and_parts (nat_lt d.address words) (list_all (λ (e : DataLine). nat_lt e.address words) init) low in
    let value = (and_parts (nat_lt d.address (2 ^ 32)) (nat_lt d.value (2 ^ 32)) a.0).1 in
    rw (b.0, value, lines_fit words init a.1 b.1) refl

-- ---- the sorted data of a program

module _ (p : Program) (rules : IsProgram p) (ds es : List Datum) (are : ds ≡ map datum_in p.init) (moved : IsPermutation ds es) where
  alone : AreAlone ds
  alone = subst AreAlone (sym are) (lines_alone p.init rules.apart)

  pub sorted_lay : (memory : List ℕ) → over (laid_by es) memory ≡ over (data_of p) memory
  sorted_lay memory = laid_moved ds es memory moved alone ∙ ap (λ (l : List Datum). over (laid_by l) memory) are ∙ ap (λ (l : Laid). over l memory) (laid_lines p.init)

  pub sorted_rise : IsNonDecreasingBy (λ (d : Datum). d.address) es → rises es ≡ true
  sorted_rise up = strictly 0 es up (alone_moved ds es moved alone) (λ d lt. omega arith)

  pub sorted_fit : (words : ℕ) → list_all (λ (d : DataLine). nat_lt d.address words) p.init ≡ true → fits words es ≡ true
  sorted_fit words low = passed_moved _ ds es moved (subst (λ (l : List Datum). fits words l ≡ true) (sym are) (lines_fit words p.init rules.init low))
