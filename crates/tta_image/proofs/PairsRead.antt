-- The data of an image that are decoded one after another.
use Rattle.std.proofs.Common.{◌≡◌, ℕ, suc, ◌+◌, ◌==◌, Bool, true, false, ◌||◌, if◌then◌else◌, nat_le, nat_lt, List, [], ◌∷◌, ◌++◌, drop, Result, Ok, Err, sym, ap, ◌∙◌, subst}
use Rattle.std.proofs.lemmas.List.{append-nil}
use Rattle.tta_image.specs.Cited.{refuse_if, Machine, Datum}
use Rattle.tta_parse.specs.Steps.{◌>>=◌}
use Rattle.tta_image.specs.declared.refusal.ImageError.{ImageError}
use Rattle.tta_image.specs.declared.refusal.ImageRefusal.TheVariants.{Data}
use Rattle.tta_image.specs.Refusals.{of_all, of_word, Answers}
use Rattle.tta_image.specs.Reading.{has_data, data_told, datum_in, decoded_pairs, decoded_data}
use Rattle.tta_image.proofs.Walks.{with_front, front_more}

-- one datum more
pub pairs_more : (words left left' place least : ℕ) (bytes : List ℕ) (d : Datum) (ds ds' : List Datum) (all : Result (List Datum) ImageError)
    → left ≡ suc left' → d ≡ datum_in bytes → (nat_lt d.address least || nat_le words d.address) ≡ false → ds' ≡ ds ++ d ∷ []
    → with_front ds (decoded_pairs words left place least bytes) ≡ all
    → with_front ds' (decoded_pairs words left' (place + 1) (d.address + 1) (drop 8 bytes)) ≡ all
pairs_more words left left' place least bytes d ds ds' all more is inside pushed was =
    let rest : Result (List Datum) ImageError = decoded_pairs words left' (place + 1) (d.address + 1) (drop 8 bytes) in
    let step : Datum → Result (List Datum) ImageError = λ x.
    refuse_if (nat_lt x.address least || nat_le words x.address) (of_word place Data 0) (
    decoded_pairs words left' (place + 1) (x.address + 1) (drop 8 bytes) >>= λ xs. Ok (x ∷ xs)) in
    ap (λ (xs : List Datum). with_front xs rest) pushed ∙ sym (front_more ds d rest)
    ∙ ap (λ (b : Bool). with_front ds (refuse_if b (of_word place Data 0) (rest >>= λ xs. Ok (d ∷ xs)))) (sym inside)
    ∙ ap (λ (x : Datum). with_front ds (step x)) is
    ∙ ap (λ (n : ℕ). with_front ds (decoded_pairs words n place least bytes)) (sym more) ∙ was

-- the same where the numbers come by other names
pub pairs_on : (words left left' place least least' address : ℕ) (bytes bytes' : List ℕ) (d : Datum) (ds ds' : List Datum) (all : Result (List Datum) ImageError)
    → left ≡ suc left' → d ≡ datum_in bytes → (nat_lt d.address least || nat_le words d.address) ≡ false → ds' ≡ ds ++ d ∷ []
    → address ≡ d.address → least' ≡ address + 1 → bytes' ≡ drop 8 bytes
    → with_front ds (decoded_pairs words left place least bytes) ≡ all → with_front ds' (decoded_pairs words left' (place + 1) least' bytes') ≡ all
pairs_on words left left' place least least' address bytes bytes' d ds ds' all more is inside pushed same next past was =
    ap (λ (k : ℕ). with_front ds' (decoded_pairs words left' (place + 1) k bytes')) (next ∙ ap (λ (k : ℕ). k + 1) same)
    ∙ ap (λ (l : List ℕ). with_front ds' (decoded_pairs words left' (place + 1) (d.address + 1) l)) past
    ∙ pairs_more words left left' place least bytes d ds ds' all more is inside pushed was

-- a datum that is refused
pub pairs_refused : (words left left' place least : ℕ) (bytes : List ℕ) (d : Datum) (ds : List Datum) (all : Result (List Datum) ImageError)
    → left ≡ suc left' → d ≡ datum_in bytes → (nat_lt d.address least || nat_le words d.address) ≡ true
    → with_front ds (decoded_pairs words left place least bytes) ≡ all → all ≡ Err (of_word place Data 0)
pairs_refused words left left' place least bytes d ds all more is out was =
    let step : Datum → Result (List Datum) ImageError = λ x.
    refuse_if (nat_lt x.address least || nat_le words x.address) (of_word place Data 0) (
    decoded_pairs words left' (place + 1) (x.address + 1) (drop 8 bytes) >>= λ xs. Ok (x ∷ xs)) in
    sym was ∙ ap (λ (n : ℕ). with_front ds (decoded_pairs words n place least bytes)) more
    ∙ ap (λ (x : Datum). with_front ds (step x)) (sym is)
    ∙ ap (λ (b : Bool). with_front ds (refuse_if b (of_word place Data 0) (decoded_pairs words left' (place + 1) (d.address + 1) (drop 8 bytes) >>= λ xs. Ok (d ∷ xs)))) out

-- no datum is left
pub pairs_end : (words left place least : ℕ) (bytes : List ℕ) (ds : List Datum) (all : Result (List Datum) ImageError) → left ≡ 0
    → with_front ds (decoded_pairs words left place least bytes) ≡ all → all ≡ Ok ds
pairs_end words left place least bytes ds all none was =
    sym was ∙ ap (λ (n : ℕ). with_front ds (decoded_pairs words n place least bytes)) none ∙ ap (λ (xs : List Datum). Ok xs) (append-nil ds)

-- where there are to be data, and the header says some, what is said of the pairs is the answer
pub some_told : (m : Machine) (bytes : List ℕ) (count : ℕ) (pairs : List ℕ) (words : ℕ) (r : Result (List Datum) ImageError) → {b : Bool} → b ≡ has_data bytes → b ≡ true
    → count ≡ data_told bytes → (count == 0) ≡ false → pairs ≡ drop 52 bytes → words ≡ m.data_words
    → Answers r (decoded_pairs words count 0 0 pairs) → Answers r (decoded_data m bytes)
some_told m bytes count pairs words r same is told some there size said =
    let has : has_data bytes ≡ true = sym same ∙ is in
    let all : decoded_data m bytes ≡ decoded_pairs words count 0 0 pairs =
    ap (λ (b : Bool). if b then refuse_if (data_told bytes == 0) (of_all Data) (decoded_pairs m.data_words (data_told bytes) 0 0 (drop 52 bytes)) else Ok []) has
    ∙ ap (λ (k : ℕ). refuse_if (k == 0) (of_all Data) (decoded_pairs m.data_words k 0 0 (drop 52 bytes))) (sym told)
    ∙ ap (λ (b : Bool). refuse_if b (of_all Data) (decoded_pairs m.data_words count 0 0 (drop 52 bytes))) some
    ∙ ap (λ (l : List ℕ). decoded_pairs m.data_words count 0 0 l) (sym there)
    ∙ ap (λ (k : ℕ). decoded_pairs k count 0 0 pairs) (sym size) in
    subst (Answers r) (sym all) said
