-- Along numbered lists.
use Rattle.std.proofs.Common.{◌≡◌, ◌<◌, ◌≤◌, ◌+◌, ◌-◌, ℕ, suc, List, [], ◌∷◌, Option, None, get_or, drop, drop-cons, add-one, map, ◌++◌, length, refl, sym, ap, ◌∙◌, arith}
use Rattle.std.specs.Prelude.{if◌then◌else◌}
use Rattle.std.specs.List.{range_with_len}
use Rattle.std.proofs.lemmas.List.{append_assoc, drop_all, drop_more}
use Rattle.tta_connect.specs.Cited.{Machine, File, or_else}
use Rattle.tta_connect.specs.Coverage.{first_by, registers_from, homes_from, is_home_file}

-- the first answer from a place on is this place's, or else that from the next on
pub first_from : {A B : Type 0} (f : ℕ → A → Option B) (xs : List A) (i : ℕ) (d : A) → i < length xs
    → first_by f i (drop i xs) ≡ or_else (f i (get_or xs i d)) (first_by f (i + 1) (drop (i + 1) xs))
first_from f xs i d h =
    ap (λ ys. first_by f i ys) (drop-cons xs i d h)
    ∙ ap (λ j. or_else (f i (get_or xs i d)) (first_by f (i + 1) (drop j xs))) (sym (add-one i))

-- past the end there is none
pub first_none : {A B : Type 0} (f : ℕ → A → Option B) (xs : List A) (i : ℕ) → length xs ≤ i → first_by f i (drop i xs) ≡ None
first_none f xs i h = rw (drop_all i xs h) refl

-- the numbers up to an end begin with the first
pub range_next : (i s : ℕ) → i < s → range_with_len i (s - i) ≡ i ∷ range_with_len (i + 1) (s - (i + 1))
range_next i s less =
    let more : s - i ≡ suc (s - (i + 1)) = omega (arith, less) in
    ap (λ n. range_with_len i n) more

-- one register more
pub registers_more : (list list' all : List (ℕ × ℕ)) (file i s : ℕ) → i < s → list' ≡ list ++ (file, i) ∷ []
    → list ++ registers_from file i (s - i) ≡ all → list' ++ registers_from file (i + 1) (s - (i + 1)) ≡ all
registers_more list list' all file i s less pushed was =
    ap (λ l. l ++ registers_from file (i + 1) (s - (i + 1))) pushed
    ∙ append_assoc list ((file, i) ∷ []) (registers_from file (i + 1) (s - (i + 1)))
    ∙ ap (λ r. list ++ map (λ k. (file, k)) r) (sym (range_next i s less)) ∙ was

-- one file more
pub homes_more : (m : Machine) (hub file : ℕ) (f : File) (xs files : List File) (list list' all : List (ℕ × ℕ)) → xs ≡ files → file < length xs → f ≡ get_or xs file f
    → list' ≡ list ++ (if is_home_file m hub file f then registers_from file 0 f.size else [])
    → list ++ homes_from m hub file (drop file files) ≡ all → list' ++ homes_from m hub (file + 1) (drop (file + 1) files) ≡ all
homes_more m hub file f xs files list list' all same less is pushed was =
    ap (λ (l : List File). list' ++ homes_from m hub (file + 1) (drop (file + 1) l)) (sym same)
    ∙ ap (λ l. l ++ homes_from m hub (file + 1) (drop (file + 1) xs)) pushed
    ∙ append_assoc list (if is_home_file m hub file f then registers_from file 0 f.size else []) (homes_from m hub (file + 1) (drop (file + 1) xs))
    ∙ ap (λ l. list ++ l) (sym (ap (λ l. homes_from m hub file l) (drop_more xs file f less)
    ∙ ap (λ (g : File). homes_from m hub file (g ∷ drop (file + 1) xs)) (sym is)))
    ∙ ap (λ (l : List File). list ++ homes_from m hub file (drop file l)) same
    ∙ was
