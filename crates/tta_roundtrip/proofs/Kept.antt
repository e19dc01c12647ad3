-- A program that is converted from one that can be read can be read.
use Rattle.std.proofs.Common.{◌≡◌, ◌≤◌, ℕ, zero, suc, ◌+◌, ◌==◌, Bool, true, false, List, [], ◌∷◌, ◌++◌, length, length-append, take, get_or, refl, sym, ap, ◌∙◌, arith, append_assoc, append-nil}
use Rattle.std.specs.Prelude.{Some, if◌then◌else◌, slice_get}
use Rattle.std.specs.Option.{option_map_or}
use Rattle.std.specs.List.{list_all, flat_map}
use Rattle.std.proofs.lemmas.Bool.{and_from, eqb-true, eq-eqb}
use Rattle.std.proofs.Math.Seq.{take-suc, take-length}
use Rattle.std.proofs.lemmas.List.{take_all}
use Rattle.std.proofs.lemmas.Option.{slice_get_within}
use Rattle.tta_roundtrip.specs.Cited.{AllPairs, Units, Step, Copy, Apply, Load, Store, Put, Take, If, Goto, When, Invoke, Return, Halt, End, Proc, Program, opposite, target, names, is_target, is_triangle, is_dropped, place, renumbered, becomes, IsConverted, Converted}
use Rattle.tta_list.proofs.Tests.{and_left, and_right}
use Rattle.tta_list.proofs.Lists.{list_all_one, all_from as all_from_each, any_there as any_from_one}
use Rattle.tta_ifconv.proofs.Lists.{stands_within, one_from_any}
use Rattle.tta_ifconv.proofs.Places.{target_stays, place_once, place_least, triangle_stays}
use Rattle.tta_ifconv.proofs.Origins.{Kind, Joined, Renumbered, kind_of, origin_of}
use Rattle.tta_ifconv.proofs.Listed.{piece, pieces, steps_listed}
use Rattle.tta_pretty.specs.Printed.{Words, Label, lines_printed, data_lines, proc_lines, step_lines, label_before, label_name, step_line}
use Rattle.tta_roundtrip.specs.Readable.{in_src, mentions, are_in_order, is_in_order, is_named}
use Rattle.tta_roundtrip.specs.Statement.{ConvertedIsReadable}

-- ---- the order of variables

-- the variables of lists of steps
mentioned : List Step → List ℕ
mentioned steps = flat_map mentions steps

mentioned-append : (xs ys : List Step) → mentioned (xs ++ ys) ≡ mentioned xs ++ mentioned ys
unfolding mentioned
mentioned-append [] ys = refl
mentioned-append (x ∷ xs) ys = ap (λ l. mentions x ++ l) (mentioned-append xs ys) ∙ sym (append_assoc (mentions x) (mentioned xs) (mentioned ys))

mentions_renumbered : (number : ℕ → ℕ) (step : Step) → mentions (renumbered number step) ≡ mentions step
mentions_renumbered number (If rel a b to) = refl
mentions_renumbered number (Goto to) = refl
mentions_renumbered number step = refl

module _ (steps : List Step) where
  -- how many steps stand behind the first n, with the copy of a triangle that they begin
  reached : ℕ → ℕ
  reached n = if is_dropped steps n then suc n else n

  got : (xs : List Step) (k : ℕ) (x : Step) → slice_get xs k ≡ Some x → get_or xs k x ≡ x
  got [] k x there = absurd cc
  got (y ∷ ys) zero x there = cc
  got (y ∷ ys) (suc k) x there = got ys k x there

  front : (n : ℕ) (x : Step) → slice_get steps n ≡ Some x → take (suc n) steps ≡ take n steps ++ x ∷ []
  front n x there = take-suc steps n x (slice_get_within steps n x there) ∙ ap (λ y. take n steps ++ y ∷ []) (got steps n x there)

  pieces_mention : (n : ℕ) → n ≤ length steps → mentioned (pieces steps n) ≡ mentioned (take (reached n) steps)
  unfolding mentioned reached
  pieces_mention zero le = refl
  pieces_mention (suc n) le =
      let s = stands_within steps n (omega arith) in
      mentioned-append (pieces steps n) (piece steps n)
      ∙ by (is_dropped steps n) refl s.item s.there (kind_of steps n s.item s.there) (pieces_mention n (omega arith))
    where
      by : (b : Bool) → is_dropped steps n ≡ b → (x : Step) → slice_get steps n ≡ Some x → Kind steps n x → mentioned (pieces steps n) ≡ mentioned (take (reached n) steps)
          → mentioned (pieces steps n) ++ mentioned (piece steps n) ≡ mentioned (take (reached (suc n)) steps)
      by true drops x there kind before =
          let none : piece steps n ≡ [] = ap (λ b. if b then [] else option_map_or (λ s. becomes steps n s ∷ []) (slice_get steps n) []) drops in
          let last : is_triangle steps n ≡ false = begins_not (is_triangle steps n) refl in
          ap (λ l. mentioned (pieces steps n) ++ mentioned l) none ∙ append-nil (mentioned (pieces steps n)) ∙ before
          ∙ ap (λ b. mentioned (take (if b then suc n else n) steps)) drops ∙ ap (λ b. mentioned (take (if b then suc (suc n) else suc n) steps)) (sym last)
        where
          begins_not : (b : Bool) → is_triangle steps n ≡ b → b ≡ false
          begins_not false e = refl
          begins_not true e = absurd (let stays = triangle_stays steps n e in cc)
      by false stays x there (Joined rel a b d s same copy begins new) before =
          let one : piece steps n ≡ When (opposite rel) a b d s ∷ [] =
          ap (λ b. if b then [] else option_map_or (λ s. becomes steps n s ∷ []) (slice_get steps n) []) stays
          ∙ ap (λ o. option_map_or (λ s. becomes steps n s ∷ []) o []) there ∙ ap (λ y. y ∷ []) new in
          let next : slice_get steps (suc n) ≡ Some (Copy d s) = ap (slice_get steps) (let e : suc n ≡ n + 1 = omega arith in e) ∙ copy in
          let lists : take (suc (suc n)) steps ≡ take n steps ++ (If rel a b (n + 2) ∷ Copy d s ∷ []) =
          front (suc n) (Copy d s) next ∙ ap (λ l. l ++ Copy d s ∷ []) (front n (If rel a b (n + 2)) (there ∙ ap Some same)) ∙ append_assoc (take n steps) (If rel a b (n + 2) ∷ []) (Copy d s ∷ []) in
          let words : mentioned (When (opposite rel) a b d s ∷ []) ≡ mentioned (If rel a b (n + 2) ∷ Copy d s ∷ []) =
          ap (λ l. l) (append-nil (in_src a ++ (in_src b ++ (d ∷ in_src s)))) ∙ sym (append_assoc (in_src a) (in_src b) (d ∷ in_src s)) ∙ ap (λ l. (in_src a ++ in_src b) ++ l) (sym (append-nil (d ∷ in_src s))) in
          ap (λ l. mentioned (pieces steps n) ++ mentioned l) one
          ∙ ap (λ l. l ++ mentioned (When (opposite rel) a b d s ∷ [])) (before ∙ ap (λ b. mentioned (take (if b then suc n else n) steps)) stays)
          ∙ ap (λ l. mentioned (take n steps) ++ l) words ∙ sym (mentioned-append (take n steps) (If rel a b (n + 2) ∷ Copy d s ∷ []))
          ∙ ap mentioned (sym lists) ∙ ap (λ b. mentioned (take (if b then suc (suc n) else suc n) steps)) (sym begins)
      by false stays x there (Renumbered other new) before =
          let one : piece steps n ≡ renumbered (place steps) x ∷ [] =
          ap (λ b. if b then [] else option_map_or (λ s. becomes steps n s ∷ []) (slice_get steps n) []) stays
          ∙ ap (λ o. option_map_or (λ s. becomes steps n s ∷ []) o []) there ∙ ap (λ y. y ∷ []) new in
          ap (λ l. mentioned (pieces steps n) ++ mentioned l) one
          ∙ ap (λ l. l ++ mentioned (renumbered (place steps) x ∷ [])) (before ∙ ap (λ b. mentioned (take (if b then suc n else n) steps)) stays)
          ∙ ap (λ m. mentioned (take n steps) ++ (m ++ [])) (mentions_renumbered (place steps) x) ∙ sym (mentioned-append (take n steps) (x ∷ []))
          ∙ ap mentioned (sym (front n x there)) ∙ ap (λ b. mentioned (take (if b then suc (suc n) else suc n) steps)) (sym other)

  all_reached : take (reached (length steps)) steps ≡ steps
  unfolding reached
  all_reached = by (is_dropped steps (length steps)) where
    by : (b : Bool) → take (if b then suc (length steps) else length steps) steps ≡ steps
    by true = take_all (suc (length steps)) steps (omega arith)
    by false = take-length steps

mentions_kept : (a b : Proc) → IsConverted a b → flat_map mentions b.steps ≡ flat_map mentions a.steps
unfolding mentioned
mentions_kept a b is = ap mentioned (steps_listed a b is) ∙ pieces_mention a.steps (length a.steps) (omega arith) ∙ ap mentioned (all_reached a.steps)

order_kept : (a b : Proc) → IsConverted a b → is_in_order b ≡ is_in_order a
order_kept a b is =
    ap (λ m. are_in_order b.params b.vars m) (mentions_kept a b is) ∙ ap (λ n. are_in_order n b.vars (flat_map mentions a.steps)) is.params ∙ ap (λ n. are_in_order a.params n (flat_map mentions a.steps)) is.vars

orders_kept : (xs ys : List Proc) → AllPairs IsConverted xs ys → list_all is_in_order xs ≡ true → list_all is_in_order ys ≡ true
orders_kept [] [] pairs are = refl
orders_kept [] (y ∷ ys) pairs are = absurd pairs
orders_kept (x ∷ xs) [] pairs are = refl
orders_kept (x ∷ xs) (y ∷ ys) pairs are =
    and_from (is_in_order y) (list_all is_in_order ys) (order_kept x y pairs.0 ∙ and_left (is_in_order x) (list_all is_in_order xs) are) (orders_kept xs ys pairs.1 (and_right (is_in_order x) (list_all is_in_order xs) are))

-- ---- names

named_becomes : (u : Units) (steps : List Step) (i : ℕ) (step : Step) → slice_get steps i ≡ Some step → is_named u step ≡ true → is_named u (becomes steps i step) ≡ true
named_becomes u steps i step there is = by (kind_of steps i step there) where
  same : (number : ℕ → ℕ) (x : Step) → is_named u (renumbered number x) ≡ is_named u x
  same number (If rel a b to) = refl
  same number (Goto to) = refl
  same number x = refl

  by : Kind steps i step → is_named u (becomes steps i step) ≡ true
  by (Joined rel a b d s eq copy begins new) = ap (is_named u) new
  by (Renumbered other new) = ap (is_named u) new ∙ same (place steps) step ∙ is

names_kept : (u : Units) (xs ys : List Proc) → AllPairs IsConverted xs ys → list_all (λ q. list_all (is_named u) q.steps) xs ≡ true → list_all (λ q. list_all (is_named u) q.steps) ys ≡ true
names_kept u [] [] pairs are = refl
names_kept u [] (y ∷ ys) pairs are = absurd pairs
names_kept u (x ∷ xs) [] pairs are = refl
names_kept u (x ∷ xs) (y ∷ ys) pairs are =
    and_from (list_all (is_named u) y.steps) (list_all (λ q. list_all (is_named u) q.steps) ys)
    (all_from_each (is_named u) y.steps (each (and_left (list_all (is_named u) x.steps) (list_all (λ q. list_all (is_named u) q.steps) xs) are)))
    (names_kept u xs ys pairs.1 (and_right (list_all (is_named u) x.steps) (list_all (λ q. list_all (is_named u) q.steps) xs) are))
  where
    each : list_all (is_named u) x.steps ≡ true → (k : ℕ) (step : Step) → slice_get y.steps k ≡ Some step → is_named u step ≡ true
    each all k step there =
        let o = origin_of x y pairs.0 k step there in
        sym (ap (is_named u) o.becomes) ∙ named_becomes u x.steps o.at o.old o.there (list_all_one (is_named u) x.steps o.at o.old all o.there)

-- ---- how many lines

-- how many of the first steps are named
unfoldable pub count : List Step → ℕ → ℕ
count all zero = 0
count all (suc n) = count all n + (if is_target all n then 1 else 0)

-- the lines of steps are one for each, and one for each label
pub count_lines : (u : Units) (main : ℕ) (all : List Step) (k : ℕ) (steps : List Step) → length (step_lines u main all k steps) + count all k ≡ length steps + count all (k + length steps)
unfolding count
count_lines u main all k [] = ap (λ n. 0 + count all n) (let e : k ≡ k + 0 = omega arith in e)
count_lines u main all k (step ∷ steps) =
    let rest = count_lines u main all (k + 1) steps in
    let next : count all (k + 1) ≡ count all k + (if is_target all k then 1 else 0) = ap (count all) (let e : k + 1 ≡ suc k = omega arith in e) in
    let end : count all ((k + 1) + length steps) ≡ count all (k + length (step ∷ steps)) = ap (count all) (let e : (k + 1) + length steps ≡ k + length (step ∷ steps) = omega arith in e) in
    let label : length (label_before all k) ≡ (if is_target all k then 1 else 0) = by (is_target all k) in
    let both = length-append (label_before all k) (Words (step_line u main step) ∷ step_lines u main all (k + 1) steps) in
    omega arith
  where
    by : (b : Bool) → length (if b then Label (label_name k) ∷ [] else []) ≡ (if b then 1 else 0)
    by true = refl
    by false = refl

-- a converted procedure has no more labels
target_before : (a b : Proc) → IsConverted a b → (i : ℕ) → is_dropped a.steps i ≡ false → is_target b.steps (place a.steps i) ≡ true → is_target a.steps i ≡ true
target_before a b is i stays e =
    let n = one_from_any (names (place a.steps i)) b.steps e in
    let o = origin_of a b is n.at n.item n.there in
    named o.at o.old o.there (ap (names (place a.steps i)) o.becomes ∙ n.holds) (kind_of a.steps o.at o.old o.there)
  where
    plain : (m : ℕ) (step : Step) → slice_get a.steps m ≡ Some step → (to : ℕ) → target step ≡ Some to → (place a.steps to == place a.steps i) ≡ true → is_target a.steps i ≡ true
    plain m step there to is_to same =
        let named_to : names to step ≡ true = ap (λ o. option_map_or (λ x. x == to) o false) is_to ∙ eq-eqb to to refl in
        let target_to = any_from_one (names to) a.steps m step there named_to in
        let once = place_once a.steps to i (target_stays a.steps to target_to) stays (eqb-true (place a.steps to) (place a.steps i) same) in
        sym (ap (is_target a.steps) once) ∙ target_to

    renamed : (m : ℕ) (step : Step) → slice_get a.steps m ≡ Some step → names (place a.steps i) (renumbered (place a.steps) step) ≡ true → is_target a.steps i ≡ true
    renamed m (If rel x y to) there e = plain m (If rel x y to) there to refl e
    renamed m (Goto to) there e = plain m (Goto to) there to refl e
    renamed m (Copy d s) there e = absurd cc
    renamed m (Apply d op x y) there e = absurd cc
    renamed m (Load d x) there e = absurd cc
    renamed m (Store x v) there e = absurd cc
    renamed m (Put v) there e = absurd cc
    renamed m (Take d) there e = absurd cc
    renamed m (When rel x y d s) there e = absurd cc
    renamed m (Invoke d callee args) there e = absurd cc
    renamed m (Return s) there e = absurd cc
    renamed m Halt there e = absurd cc
    renamed m End there e = absurd cc

    named : (m : ℕ) (step : Step) → slice_get a.steps m ≡ Some step → names (place a.steps i) (becomes a.steps m step) ≡ true → Kind a.steps m step → is_target a.steps i ≡ true
    named m step there e (Joined rel x y d s same copy begins new) = absurd (let none : names (place a.steps i) (becomes a.steps m step) ≡ false = ap (names (place a.steps i)) new in cc)
    named m step there e (Renumbered other new) = renamed m step there (sym (ap (names (place a.steps i)) new) ∙ e)

count_less : (a b : Proc) → IsConverted a b → (n : ℕ) → count b.steps (place a.steps n) ≤ count a.steps n
unfolding count
count_less a b is zero = omega arith
count_less a b is (suc n) = by (is_dropped a.steps n) refl (count_less a b is n) where
  least : (x y : Bool) → (x ≡ true → y ≡ true) → (if x then 1 else 0) ≤ (if y then 1 else 0)
  least true true h = omega arith
  least true false h = absurd (let e = h refl in cc)
  least false true h = omega arith
  least false false h = omega arith

  by : (d : Bool) → is_dropped a.steps n ≡ d → count b.steps (place a.steps n) ≤ count a.steps n → count b.steps (if d then place a.steps n else suc (place a.steps n)) ≤ count a.steps n + (if is_target a.steps n then 1 else 0)
  by true drops before = omega arith
  by false stays before = let more = least (is_target b.steps (place a.steps n)) (is_target a.steps n) (target_before a b is n stays) in omega arith

step_lines_less : (u : Units) (main other : ℕ) (a b : Proc) → IsConverted a b → length (step_lines u other b.steps 0 b.steps) ≤ length (step_lines u main a.steps 0 a.steps)
unfolding count
step_lines_less u main other a b is =
    let left = count_lines u other b.steps 0 b.steps in
    let right = count_lines u main a.steps 0 a.steps in
    let labels = count_less a b is (length a.steps) in
    let steps = place_least a.steps (length a.steps) in
    let size = is.count in
    let here : count b.steps (0 + length b.steps) ≡ count b.steps (place a.steps (length a.steps)) = ap (count b.steps) (let e : 0 + length b.steps ≡ place a.steps (length a.steps) = omega arith in e) in
    let there : count a.steps (0 + length a.steps) ≡ count a.steps (length a.steps) = ap (count a.steps) (let e : 0 + length a.steps ≡ length a.steps = omega arith in e) in
    omega arith

proc_lines_less : (u : Units) (main other k : ℕ) (xs ys : List Proc) → AllPairs IsConverted xs ys → length (proc_lines u other k ys) ≤ length (proc_lines u main k xs)
proc_lines_less u main other k [] [] pairs = omega arith
proc_lines_less u main other k [] (y ∷ ys) pairs = absurd pairs
proc_lines_less u main other k (x ∷ xs) [] pairs = absurd pairs
proc_lines_less u main other k (x ∷ xs) (y ∷ ys) pairs =
    let here = step_lines_less u main other x y pairs.0 in
    let rest = proc_lines_less u main other (k + 1) xs ys pairs.1 in
    let left = length-append (step_lines u other y.steps 0 y.steps) (proc_lines u other (k + 1) ys) in
    let right = length-append (step_lines u main x.steps 0 x.steps) (proc_lines u main (k + 1) xs) in
    omega arith

lines_less : (u : Units) (p q : Program) → Converted p q → length (lines_printed u q) ≤ length (lines_printed u p)
lines_less u p q is =
    let rest = proc_lines_less u p.main q.main 0 p.procs q.procs is.procs in
    let left = length-append (data_lines q.init) (proc_lines u q.main 0 q.procs) in
    let right = length-append (data_lines p.init) (proc_lines u p.main 0 p.procs) in
    let data_ = ap (λ d. length (data_lines d)) is.init in
    omega arith

pub converted_is_readable_holds : ConvertedIsReadable
converted_is_readable_holds u p q is r = record {
  order = orders_kept p.procs q.procs is.procs r.order;
  named = names_kept u p.procs q.procs is.procs r.named;
  lines = let less = lines_less u p q is in let most = r.lines in omega arith;
}
