-- The data of an image, and what its bytes decode to.
use Rattle.std.proofs.Common.{◌≡◌, ℕ, zero, suc, ◌+◌, ◌*◌, ◌-◌, ◌^◌, ◌<◌, ◌≤◌, ◌==◌, Bool, true, false, not, ◌&&◌, ◌||◌, if◌then◌else◌, nat_le, nat_lt, List, [], ◌∷◌, ◌++◌, length, take, drop, Result, Ok, refl, sym, ap, ◌∙◌, subst, arith}
use Rattle.std.specs.Int.{w32, to_be_bytes, from_be_bytes}
use Rattle.std.specs.List.{flat_map, AllByRecursion}
use Rattle.std.proofs.lemmas.Bool.{and_parts, and_from, or_parts, le-leb, lt-ltb, leb-true, ltb-true, leb-false, ltb-false, ne_eqb}
use Rattle.std.proofs.lemmas.List.{length-append, length-drop, length-take-le, drop-drop, take-append-drop, append_assoc, drop_at}
use Rattle.std.proofs.lemmas.Nat.{from_be_bytes-to_be_bytes_4, be_bytes_4}
use Rattle.tta_image.specs.Cited.{refuse_if, Machine, Datum, rises_from, rises, fits, IsMachine}
use Rattle.tta_parse.specs.Steps.{◌>>=◌}
use Rattle.tta_parse.proofs.Steps.{refuse_if-ok, then-ok, same_ok}
use Rattle.tta_image.specs.declared.refusal.ImageError.{ImageError}
use Rattle.tta_image.specs.declared.refusal.ImageRefusal.TheVariants.{Data}
use Rattle.tta_image.specs.Refusals.{of_all, of_word}
use Rattle.tta_image.specs.Image.{header, version_of, datum_bytes, data_section}
use Rattle.tta_image.specs.Reading.{has_data, is_version, data_told, section_length, datum_in, decoded_pairs, decoded_data}
use Rattle.tta_image.proofs.Unique.{split_same}
use Rattle.tta_image.proofs.HeaderDecoded.{version_in, small_at, small_take, small_drop}

-- ---- numbers of four bytes

-- four bytes are those of the number that they hold
four_bytes : (bytes : List ℕ) → AllByRecursion (λ b. b < 256) bytes → 4 ≤ length bytes → to_be_bytes w32 (from_be_bytes w32 (take 4 bytes)) ≡ take 4 bytes
four_bytes bytes small many = be_bytes_4 (take 4 bytes) (from_be_bytes w32 (take 4 bytes)) (length-take-le 4 bytes many) (small_at (take 4 bytes) (small_take 4 bytes small)) refl

small_number : (bytes : List ℕ) → AllByRecursion (λ b. b < 256) bytes → from_be_bytes w32 (take 4 bytes) < 2 ^ 32
small_number bytes small =
    let a = small_at (take 4 bytes) (small_take 4 bytes small) 0 in
    let b = small_at (take 4 bytes) (small_take 4 bytes small) 1 in
    let c = small_at (take 4 bytes) (small_take 4 bytes small) 2 in
    let d = small_at (take 4 bytes) (small_take 4 bytes small) 3 in
    omega arith

-- numbers of four bytes with the same bytes are one
pub number_told : (n k : ℕ) → n < 2 ^ 32 → k < 2 ^ 32 → to_be_bytes w32 n ≡ to_be_bytes w32 k → n ≡ k
number_told n k small small' same = sym (from_be_bytes-to_be_bytes_4 n small) ∙ ap (λ (l : List ℕ). from_be_bytes w32 l) same ∙ from_be_bytes-to_be_bytes_4 k small'

-- ---- pairs

pub length-pairs : (ds : List Datum) → length (flat_map datum_bytes ds) ≡ 8 * length ds
length-pairs [] = refl
length-pairs (d ∷ ds) = let rest = length-pairs ds in let all = length-append (datum_bytes d) (flat_map datum_bytes ds) in omega arith

-- data that were decoded: they are as many as the header says, their bytes stand there, and they keep their rules
pub record HavePairs (words least count : ℕ) (bytes : List ℕ) (ds : List Datum) : Type 0 where
  pub many : length ds ≡ count
  pub same : bytes ≡ flat_map datum_bytes ds ++ drop (8 * count) bytes
  pub rise : rises_from least ds ≡ true
  pub fit : fits words ds ≡ true

pub pairs_have : (words count place least : ℕ) (bytes : List ℕ) (ds : List Datum) → AllByRecursion (λ b. b < 256) bytes → 8 * count ≤ length bytes
    → decoded_pairs words count place least bytes ≡ Ok ds → HavePairs words least count bytes ds
pairs_have words zero place least bytes ds small many said =
    let none : [] ≡ ds = same_ok [] ds said in
    subst (HavePairs words least zero bytes) none (record { many = refl; same = refl; rise = refl; fit = refl })
pairs_have words (suc count) place least bytes ds small many said =
    let d : Datum = datum_in bytes in
    let tests = refuse_if-ok (nat_lt (datum_in bytes).address least || nat_le words (datum_in bytes).address) (of_word place Data 0) _ ds said in
    let rest = then-ok (decoded_pairs words count (place + 1) ((datum_in bytes).address + 1) (drop 8 bytes)) (λ xs. Ok (datum_in bytes ∷ xs)) ds tests.1 in
    let parts = or_parts (nat_lt (datum_in bytes).address least) (nat_le words (datum_in bytes).address) tests.0 in
    let long = length-drop 8 bytes in
    let more = pairs_have words count (place + 1) ((datum_in bytes).address + 1) (drop 8 bytes) rest.0 (small_drop 8 bytes small) (omega arith) rest.1 in
    let all : datum_in bytes ∷ rest.0 ≡ ds = same_ok (datum_in bytes ∷ rest.0) ds rest.2 in
    let behind : length (drop 4 bytes) ≡ length bytes - 4 = length-drop 4 bytes in
    let low = ltb-false (datum_in bytes).address least parts.0 in
    let high = leb-false words (datum_in bytes).address parts.1 in
    subst (HavePairs words least (suc count) bytes) all (record {
      many = ap suc more.many;
      same =
          let first : bytes ≡ datum_bytes d ++ drop 8 bytes =
          sym (take-append-drop 4 bytes) ∙ ap (λ (l : List ℕ). l ++ drop 4 bytes) (sym (four_bytes bytes small (omega arith)))
          ∙ ap (λ (l : List ℕ). to_be_bytes w32 d.address ++ l)
          (sym (take-append-drop 4 (drop 4 bytes)) ∙ ap (λ (l : List ℕ). l ++ drop 4 (drop 4 bytes)) (sym (four_bytes (drop 4 bytes) (small_drop 4 bytes small) (omega arith)))
          ∙ ap (λ (l : List ℕ). to_be_bytes w32 d.value ++ l) (drop-drop 4 4 bytes)) in
          let past : drop (8 * count) (drop 8 bytes) ≡ drop (8 * suc count) bytes = drop-drop (8 * count) 8 bytes ∙ ap (λ (n : ℕ). drop n bytes) (omega arith) in
          first ∙ ap (λ (l : List ℕ). datum_bytes d ++ l) (more.same ∙ ap (λ (l : List ℕ). flat_map datum_bytes rest.0 ++ l) past)
          ∙ sym (append_assoc (datum_bytes d) (flat_map datum_bytes rest.0) (drop (8 * suc count) bytes));
      rise = and_from (nat_le least (datum_in bytes).address) (rises_from ((datum_in bytes).address + 1) rest.0) (le-leb least (datum_in bytes).address low) more.rise;
      fit = and_from (nat_lt (datum_in bytes).address words && nat_lt (datum_in bytes).value (2 ^ 32)) (fits words rest.0)
          (and_from (nat_lt (datum_in bytes).address words) (nat_lt (datum_in bytes).value (2 ^ 32)) (lt-ltb (datum_in bytes).address words high)
          (lt-ltb (datum_in bytes).value (2 ^ 32) (small_number (drop 4 bytes) (small_drop 4 bytes small))))
          more.fit;
    })

-- the bytes of data decode to them
pub pairs_of : (words place least : ℕ) (ds : List Datum) (body : List ℕ) → words ≤ 2 ^ 32 → rises_from least ds ≡ true → fits words ds ≡ true
    → decoded_pairs words (length ds) place least (flat_map datum_bytes ds ++ body) ≡ Ok ds
pairs_of words place least [] body small rise fit = refl
pairs_of words place least (d ∷ ds) body small rise fit =
    let rises = and_parts (nat_le least d.address) (rises_from (d.address + 1) ds) rise in
    let fits_all = and_parts (nat_lt d.address words && nat_lt d.value (2 ^ 32)) (fits words ds) fit in
    let fits_one = and_parts (nat_lt d.address words) (nat_lt d.value (2 ^ 32)) fits_all.0 in
    let below = ltb-true d.address words fits_one.0 in
    let a : from_be_bytes w32 (to_be_bytes w32 d.address) ≡ d.address = from_be_bytes-to_be_bytes_4 d.address (omega arith) in
    let v : from_be_bytes w32 (to_be_bytes w32 d.value) ≡ d.value = from_be_bytes-to_be_bytes_4 d.value (ltb-true d.value (2 ^ 32) fits_one.1) in
    let made : List ℕ → Datum → Result (List Datum) ImageError = λ tail x.
    refuse_if (nat_lt x.address least || nat_le words x.address) (of_word place Data 0) (
    decoded_pairs words (length ds) (place + 1) (x.address + 1) tail >>= λ xs. Ok (x ∷ xs)) in
    let rest : List ℕ = flat_map datum_bytes ds ++ body in
    let first : ◌≡◌ {A = Datum} (record { address = from_be_bytes w32 (to_be_bytes w32 d.address); value = from_be_bytes w32 (to_be_bytes w32 d.value) }) d =
    ap (λ (n : ℕ). let x : Datum = record { address = n; value = from_be_bytes w32 (to_be_bytes w32 d.value) } in x) a
    ∙ ap (λ (n : ℕ). let x : Datum = record { address = d.address; value = n } in x) v in
    let tests : (nat_lt d.address least || nat_le words d.address) ≡ false = none_of (nat_lt d.address least) (nat_le words d.address) (not_below d.address least (leb-true least d.address rises.0)) (not_past words d.address below) in
    ap (made rest) first
    ∙ ap (λ (b : Bool). refuse_if b (of_word place Data 0) (decoded_pairs words (length ds) (place + 1) (d.address + 1) rest >>= λ xs. Ok (d ∷ xs))) tests
    ∙ ap (λ (r : Result (List Datum) ImageError). r >>= λ xs. Ok (d ∷ xs)) (pairs_of words (place + 1) (d.address + 1) ds body small rises.1 fits_all.1)
  where
    none_of : (x y : Bool) → x ≡ false → y ≡ false → (x || y) ≡ false
    none_of x y e f = ap (λ b. b || y) e ∙ f

    not_below : (n k : ℕ) → k ≤ n → nat_lt n k ≡ false
    not_below n k h = grind (arith, h)

    not_past : (k n : ℕ) → n < k → nat_le k n ≡ false
    not_past k n h = grind (arith, h)

-- as many data as a data space has words at the most
pub few_pairs : (words least : ℕ) (ds : List Datum) → rises_from least ds ≡ true → fits words ds ≡ true → (ds ≡ [] → ⊥) → least + length ds ≤ words
few_pairs words least [] rise fit some = absurd (some refl)
few_pairs words least (d ∷ []) rise fit some =
    let rises = and_parts (nat_le least d.address) true rise in
    let fits_all = and_parts (nat_lt d.address words && nat_lt d.value (2 ^ 32)) true fit in
    let below = ltb-true d.address words (and_parts (nat_lt d.address words) (nat_lt d.value (2 ^ 32)) fits_all.0).0 in
    let low = leb-true least d.address rises.0 in
    omega arith
few_pairs words least (d ∷ e ∷ ds) rise fit some =
    let rises = and_parts (nat_le least d.address) (rises_from (d.address + 1) (e ∷ ds)) rise in
    let fits_all = and_parts (nat_lt d.address words && nat_lt d.value (2 ^ 32)) (fits words (e ∷ ds)) fit in
    let low = leb-true least d.address rises.0 in
    let more = few_pairs words (d.address + 1) (e ∷ ds) rises.1 fits_all.1 (λ h. cc) in
    omega arith

pub few_data : (words : ℕ) (ds : List Datum) → words < 2 ^ 32 → rises ds ≡ true → fits words ds ≡ true → length ds < 2 ^ 32
few_data words [] small rise fit = omega arith
few_data words (d ∷ ds) small rise fit = let few = few_pairs words 0 (d ∷ ds) rise fit (λ h. cc) in omega arith

-- ---- the data of an image

-- what was decoded of an image: its version is that of the data, their section stands after the header, and they keep their rules
pub record HasData (m : Machine) (bytes : List ℕ) (init : List Datum) : Type 0 where
  pub version : version_in bytes ≡ version_of init
  pub section : drop 48 bytes ≡ data_section init ++ drop (48 + section_length bytes) bytes
  pub rise : rises init ≡ true
  pub fit : fits m.data_words init ≡ true

pub data_has : (m : Machine) (bytes : List ℕ) (init : List Datum) → AllByRecursion (λ b. b < 256) bytes → 48 + section_length bytes ≤ length bytes
    → decoded_data m bytes ≡ Ok init → HasData m bytes init
data_has m bytes init small long said = by (has_data bytes) refl long said where
  with_some : (ds : List Datum) → length ds ≡ data_told bytes → (data_told bytes == 0) ≡ false → (version_of ds ≡ 2) × (data_section ds ≡ to_be_bytes w32 (data_told bytes) ++ flat_map datum_bytes ds)
  with_some [] many some = absurd (let none : (0 == 0) ≡ false = ap (λ (n : ℕ). n == 0) many ∙ some in cc)
  with_some (d ∷ ds) many some = (refl, ap (λ (n : ℕ). to_be_bytes w32 n ++ flat_map datum_bytes (d ∷ ds)) many)

  by : (b : Bool) → has_data bytes ≡ b → 48 + (if b then 4 + 8 * data_told bytes else 0) ≤ length bytes
      → (if b then refuse_if (data_told bytes == 0) (of_all Data) (decoded_pairs m.data_words (data_told bytes) 0 0 (drop 52 bytes)) else Ok []) ≡ Ok init
      → HasData m bytes init
  by false is long said =
      let none : [] ≡ init = same_ok [] init said in
      let whole : section_length bytes ≡ 0 = ap (λ (t : Bool). if t then 4 + 8 * data_told bytes else 0) is in
      subst (HasData m bytes) none (record {
        version = ap (λ (t : Bool). if t then 2 else 1) is;
        section = ap (λ (n : ℕ). drop (48 + n) bytes) (sym whole);
        rise = refl;
        fit = refl;
      })
  by true is long said =
      let tests = refuse_if-ok (data_told bytes == 0) (of_all Data) (decoded_pairs m.data_words (data_told bytes) 0 0 (drop 52 bytes)) init said in
      let size = length-drop 52 bytes in
      let size4 = length-drop 48 bytes in
      let have = pairs_have m.data_words (data_told bytes) 0 0 (drop 52 bytes) init (small_drop 52 bytes small) (omega arith) tests.1 in
      let some = with_some init have.many tests.0 in
      let whole : section_length bytes ≡ 4 + 8 * data_told bytes = ap (λ (t : Bool). if t then 4 + 8 * data_told bytes else 0) is in
      let past : drop (8 * data_told bytes) (drop 52 bytes) ≡ drop (48 + section_length bytes) bytes =
      drop-drop (8 * data_told bytes) 52 bytes ∙ ap (λ (n : ℕ). drop n bytes) (omega arith) in
      record {
        version = ap (λ (t : Bool). if t then 2 else 1) is ∙ sym some.0;
        section =
            sym (take-append-drop 4 (drop 48 bytes)) ∙ ap (λ (l : List ℕ). l ++ drop 4 (drop 48 bytes)) (sym (four_bytes (drop 48 bytes) (small_drop 48 bytes small) (omega arith)))
            ∙ ap (λ (l : List ℕ). to_be_bytes w32 (data_told bytes) ++ l) (drop-drop 4 48 bytes ∙ have.same ∙ ap (λ (l : List ℕ). flat_map datum_bytes init ++ l) past)
            ∙ sym (append_assoc (to_be_bytes w32 (data_told bytes)) (flat_map datum_bytes init) (drop (48 + section_length bytes) bytes))
            ∙ ap (λ (l : List ℕ). l ++ drop (48 + section_length bytes) bytes) (sym some.1);
        rise = have.rise;
        fit = have.fit;
      }

-- the data of an image as its bytes show them
pub record DataStand (m : Machine) (all rest : List ℕ) (ds : List Datum) : Type 0 where
  pub good : is_version all ≡ true
  pub number : (not (has_data all) || nat_le 52 (length all)) ≡ true
  pub section : section_length all ≡ length (data_section ds)
  pub init : decoded_data m all ≡ Ok ds
  pub body : drop (48 + section_length all) all ≡ rest

pub data_stands : (m : Machine) (digest : List ℕ) (n : ℕ) (init : List Datum) (body : List ℕ) → IsMachine m → length digest ≡ 32
    → rises init ≡ true → fits m.data_words init ≡ true
    → DataStand m (header m digest (version_of init) n ++ (data_section init ++ body)) body init
data_stands m digest n [] body rules many rise fit = record {
  good = refl;
  number = refl;
  section = refl;
  init = refl;
  body = drop_at digest body 32 many;
}
data_stands m digest n (d ∷ ds) body rules many rise fit =
    let all : List ℕ = header m digest 2 n ++ (data_section (d ∷ ds) ++ body) in
    let pairs : List ℕ = flat_map datum_bytes (d ∷ ds) ++ body in
    let words = rules.limits.data_words in
    let few = few_data m.data_words (d ∷ ds) (omega arith) rise fit in
    let regroup : data_section (d ∷ ds) ++ body ≡ to_be_bytes w32 (length (d ∷ ds)) ++ pairs =
    append_assoc (to_be_bytes w32 (length (d ∷ ds))) (flat_map datum_bytes (d ∷ ds)) body in
    let tail : drop 48 all ≡ to_be_bytes w32 (length (d ∷ ds)) ++ pairs = drop_at digest (data_section (d ∷ ds) ++ body) 32 many ∙ regroup in
    let told : data_told all ≡ length (d ∷ ds) =
    ap (λ (l : List ℕ). from_be_bytes w32 (take 4 l)) tail ∙ from_be_bytes-to_be_bytes_4 (length (d ∷ ds)) few in
    let more : (length (d ∷ ds) == 0) ≡ false = ne_eqb (length (d ∷ ds)) 0 (λ e. omega (arith, e)) in
    let some : (data_told all == 0) ≡ false = ap (λ (k : ℕ). k == 0) told ∙ more in
    let behind : drop 52 all ≡ pairs = sym (drop-drop 4 48 all) ∙ ap (λ (l : List ℕ). drop 4 l) tail in
    let size = length-pairs (d ∷ ds) in
    let whole : length (data_section (d ∷ ds)) ≡ 4 + 8 * length (d ∷ ds) = omega arith in
    let l1 = length-append digest (data_section (d ∷ ds) ++ body) in
    let l2 = length-append (data_section (d ∷ ds)) body in
    let long : section_length all ≡ length (data_section (d ∷ ds)) = ap (λ (k : ℕ). 4 + 8 * k) told ∙ sym whole in
    record {
      good = refl;
      number = le-leb 52 (length all) (omega arith);
      section = long;
      init =
          ap (λ (b : Bool). refuse_if b (of_all Data) (decoded_pairs m.data_words (data_told all) 0 0 (drop 52 all))) some
          ∙ ap (λ (k : ℕ). decoded_pairs m.data_words k 0 0 (drop 52 all)) told
          ∙ ap (λ (l : List ℕ). decoded_pairs m.data_words (length (d ∷ ds)) 0 0 l) behind
          ∙ pairs_of m.data_words 0 0 (d ∷ ds) body (omega arith) rise fit;
      body =
          sym (drop-drop (section_length all) 48 all)
          ∙ ap (λ (l : List ℕ). drop (section_length all) l) (drop_at digest (data_section (d ∷ ds) ++ body) 32 many)
          ∙ ap (λ (k : ℕ). drop k (data_section (d ∷ ds) ++ body)) long ∙ drop_at (data_section (d ∷ ds)) body (length (data_section (d ∷ ds))) refl;
    }

-- ---- data that have the same bytes

pub pairs_tell : (words : ℕ) (ds es : List Datum) (body body' : List ℕ) → words ≤ 2 ^ 32 → length ds ≡ length es → fits words ds ≡ true → fits words es ≡ true
    → flat_map datum_bytes ds ++ body ≡ flat_map datum_bytes es ++ body' → (ds ≡ es) × (body ≡ body')
pairs_tell words [] [] body body' small many fit fit' same = (refl, same)
pairs_tell words [] (e ∷ es) body body' small many fit fit' same = absurd (omega arith)
pairs_tell words (d ∷ ds) [] body body' small many fit fit' same = absurd (omega arith)
pairs_tell words (d ∷ ds) (e ∷ es) body body' small many fit fit' same =
    let f = and_parts (nat_lt d.address words && nat_lt d.value (2 ^ 32)) (fits words ds) fit in
    let g = and_parts (nat_lt e.address words && nat_lt e.value (2 ^ 32)) (fits words es) fit' in
    let f1 = and_parts (nat_lt d.address words) (nat_lt d.value (2 ^ 32)) f.0 in
    let g1 = and_parts (nat_lt e.address words) (nat_lt e.value (2 ^ 32)) g.0 in
    let da = ltb-true d.address words f1.0 in
    let ea = ltb-true e.address words g1.0 in
    let rest : List ℕ = flat_map datum_bytes ds ++ body in
    let rest' : List ℕ = flat_map datum_bytes es ++ body' in
    let joined : to_be_bytes w32 d.address ++ (to_be_bytes w32 d.value ++ rest) ≡ to_be_bytes w32 e.address ++ (to_be_bytes w32 e.value ++ rest') = same in
    let one = split_same (to_be_bytes w32 d.address) (to_be_bytes w32 e.address) (to_be_bytes w32 d.value ++ rest) (to_be_bytes w32 e.value ++ rest') refl joined in
    let two = split_same (to_be_bytes w32 d.value) (to_be_bytes w32 e.value) rest rest' refl one.1 in
    let address = number_told d.address e.address (omega arith) (omega arith) one.0 in
    let value = number_told d.value e.value (ltb-true d.value (2 ^ 32) f1.1) (ltb-true e.value (2 ^ 32) g1.1) two.0 in
    let more = pairs_tell words ds es body body' small (omega arith) f.1 g.1 two.1 in
    let first : d ≡ e =
    ap (λ (k : ℕ). let x : Datum = record { address = k; value = d.value } in x) address ∙ ap (λ (k : ℕ). let x : Datum = record { address = e.address; value = k } in x) value in
    (ap (λ (x : Datum). x ∷ ds) first ∙ ap (λ (l : List Datum). e ∷ l) more.0, more.1)

pub sections_tell : (words : ℕ) (init init' : List Datum) (body body' : List ℕ) → words < 2 ^ 32 → rises init ≡ true → rises init' ≡ true
    → fits words init ≡ true → fits words init' ≡ true → version_of init ≡ version_of init'
    → data_section init ++ body ≡ data_section init' ++ body' → (init ≡ init') × (body ≡ body')
sections_tell words [] [] body body' small rise rise' fit fit' version same = (refl, same)
sections_tell words [] (e ∷ es) body body' small rise rise' fit fit' version same = absurd (omega arith)
sections_tell words (d ∷ ds) [] body body' small rise rise' fit fit' version same = absurd (omega arith)
sections_tell words (d ∷ ds) (e ∷ es) body body' small rise rise' fit fit' version same =
    let few = few_data words (d ∷ ds) small rise fit in
    let few' = few_data words (e ∷ es) small rise' fit' in
    let rest : List ℕ = flat_map datum_bytes (d ∷ ds) ++ body in
    let rest' : List ℕ = flat_map datum_bytes (e ∷ es) ++ body' in
    let joined : to_be_bytes w32 (length (d ∷ ds)) ++ rest ≡ to_be_bytes w32 (length (e ∷ es)) ++ rest' =
    sym (append_assoc (to_be_bytes w32 (length (d ∷ ds))) (flat_map datum_bytes (d ∷ ds)) body) ∙ same
    ∙ append_assoc (to_be_bytes w32 (length (e ∷ es))) (flat_map datum_bytes (e ∷ es)) body' in
    let one = split_same (to_be_bytes w32 (length (d ∷ ds))) (to_be_bytes w32 (length (e ∷ es))) rest rest' refl joined in
    pairs_tell words (d ∷ ds) (e ∷ es) body body' (omega arith) (number_told (length (d ∷ ds)) (length (e ∷ es)) few few' one.0) fit fit' one.1
