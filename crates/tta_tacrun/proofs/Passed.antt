-- Arguments that are passed one by one.
use Rattle.std.proofs.Common.{◌≡◌, ◌≢◌, ◌<◌, ◌≤◌, ◌+◌, ◌-◌, ℕ, suc, List, [], ◌∷◌, ◌++◌, length, map, get_or, set, take, replicate, ap, sym, ◌∙◌, arith}
use Rattle.std.proofs.lemmas.List.{append_assoc, map-append, length-append, length-map, length-replicate, length-take-le, get_or-set_same, get_or-set_other, get_or_read, length-set, set-set, set_at, take_more}
use Rattle.tta_tacrun.specs.Cited.{Src, operand}
use Rattle.tta_tacrun.specs.Calls.{begun}

-- as many variables as there are, where the arguments are no more
pub length-begun : (args : List ℕ) (size : ℕ) → length args ≤ size → length (begun args size) ≡ size
length-begun args size fit =
    let all = length-append args (replicate (size - length args) 0) in
    omega (arith, all, length-replicate {A = ℕ} (size - length args) 0)

-- the first word that is 0 becomes another
begun_more : (xs : List ℕ) (n i w : ℕ) → length xs ≡ i → i < n
    → set (xs ++ replicate (n - i) 0) i w ≡ (xs ++ w ∷ []) ++ replicate (n - (i + 1)) 0
begun_more xs n i w here more =
    let first : n - i ≡ suc (n - (i + 1)) = omega arith in
    rw (first, set_at xs 0 (replicate (n - (i + 1)) 0) w i here) (sym (append_assoc xs (w ∷ []) (replicate (n - (i + 1)) 0)))

-- one more argument is passed
passed_more : {A : Type 0} (f : A → ℕ) (args : List A) (d : A) (n i : ℕ) → i < length args → length args ≤ n
    → set (map f (take i args) ++ replicate (n - i) 0) i (f (get_or args i d)) ≡ map f (take (i + 1) args) ++ replicate (n - (i + 1)) 0
passed_more f args d n i within fit =
    let x = get_or args i d in
    let here : length (map f (take i args)) ≡ i = length-map (take i args) f ∙ length-take-le i args (omega arith) in
    let last : map f (take (i + 1) args) ≡ map f (take i args) ++ f x ∷ [] =
    ap (map f) (take_more args i d within) ∙ map-append f (take i args) (x ∷ []) in
    begun_more (map f (take i args)) n i (f x) here (omega arith) ∙ ap (λ xs. xs ++ replicate (n - (i + 1)) 0) (sym last)

-- all variables, where i arguments of a call were passed
abbrev pub passing : List (List ℕ) → (caller callee : ℕ) → List Src → (i : ℕ) → List (List ℕ)
passing vs caller callee args i =
    let size = length (get_or vs callee []) in
    set vs callee (map (operand (get_or vs caller [])) (take i args) ++ replicate (size - i) 0)

pub passing_more : (vs now : List (List ℕ)) (caller callee i : ℕ) (args : List Src) (d : Src)
    (from to new : List ℕ) (word : ℕ)
    → now ≡ passing vs caller callee args i → caller < length vs → callee < length vs → callee ≢ caller
    → i < length args → length args ≤ length (get_or vs callee [])
    → from ≡ get_or now caller from → to ≡ get_or now callee to
    → word ≡ operand from (get_or args i d) → new ≡ set to i word
    → set now callee new ≡ passing vs caller callee args (i + 1)
passing_more vs now caller callee i args d from to new word state caller_in callee_in other within fit from_is to_is word_is new_is =
    let size = length (get_or vs callee []) in
    let f = operand (get_or vs caller []) in
    let begun_i = map f (take i args) ++ replicate (size - i) 0 in
    let many : length now ≡ length vs = ap length state ∙ length-set vs callee begun_i in
    let apart : caller ≢ callee = λ same. other (sym same) in
    let source : from ≡ get_or vs caller [] =
    get_or_read now caller from (omega (arith, many)) from_is [] ∙ ap (λ xs. get_or xs caller []) state ∙ get_or-set_other vs callee caller begun_i [] apart in
    let target : to ≡ begun_i =
    get_or_read now callee to (omega (arith, many)) to_is [] ∙ ap (λ xs. get_or xs callee []) state ∙ get_or-set_same vs callee begun_i [] callee_in in
    let word_now : word ≡ f (get_or args i d) = word_is ∙ ap (λ v. operand v (get_or args i d)) source in
    let new_now = new_is ∙ ap (λ v. set v i word) target ∙ ap (λ w. set begun_i i w) word_now ∙ passed_more f args d size i within fit in
    ap (λ xs. set xs callee new) state ∙ set-set vs callee begun_i new ∙ ap (λ v. set vs callee v) new_now
