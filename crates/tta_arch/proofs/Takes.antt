-- The operations of a cycle of which one takes a word.
use Rattle.std.proofs.Common.{◌≡◌, Bool, true, false, not, List, [], ◌∷◌, Option, Some, None, refl, ap, ℕ, zero, suc, ◌<◌, length, ◌∙◌, arith, ◌≤◌, drop, ◌&&◌, fold, ◌||◌}
use Rattle.std.specs.List.{list_any, filter_map, cons_option}
use Rattle.std.proofs.lemmas.Bool.{and_parts, and_from, not-true}
use Rattle.tta_arch.specs.Rules.{are_different, is_stream_op}
use Rattle.tta_list.proofs.Lists.{any_filter_map}
use Rattle.std.specs.Prelude.{slice_get, filter, if◌then◌else◌}
use Rattle.std.specs.Option.{option_map_or}
use Rattle.tta_arch.specs.declared.parts.Unit.{Unit as OpUnit}
use Rattle.tta_arch.specs.declared.parts.Op.{Op}
use Rattle.tta_arch.specs.declared.parts.Op.TheVariants.{Ldw, Stw, Ldf, Stf, Out, Take, Set}
use Rattle.tta_arch.specs.Effects.{takes_in, Start, takes, take_in}
use Rattle.tta_list.specs.Input.{left}

-- where elements differ, what they give differs
pub apart_filter_map : {A B : Type 0} (same : A → A → Bool) (same' : B → B → Bool) (f : A → Option B)
    → ((x y : A) (p q : B) → f x ≡ Some p → f y ≡ Some q → same x y ≡ false → same' p q ≡ false)
    → (xs : List A) → are_different same xs ≡ true → are_different same' (filter_map f xs) ≡ true
apart_filter_map same same' f tells [] apart = refl
apart_filter_map same same' f tells (x ∷ xs) apart =
    let both = and_parts (not (list_any (same x) xs)) (are_different same xs) apart in
    let rest = apart_filter_map same same' f tells xs both.1 in
    let alone = not-true (list_any (same x) xs) both.0 in
    elim (f x) as (λ o. f x ≡ o → are_different same' (cons_option o (filter_map f xs)) ≡ true) [
      | None ↦ λ is. rest
      | Some p ↦ λ is.
          let other = any_filter_map same same' f x p (λ y q gives differ. tells x y p q is gives differ) xs alone in
          and_from (not (list_any (same' p) (filter_map f xs))) (are_different same' (filter_map f xs)) (ap not other) rest
    ] refl

pub some_kind : (kind : OpUnit → Bool) (units : List OpUnit) (k : ℕ) (y : OpUnit) → slice_get units k ≡ Some y → kind y ≡ true → 0 < length (filter kind units)
some_kind kind [] k y at is = cc
some_kind kind (u ∷ units) zero y at is = let here : kind u ≡ true = ap (λ o. option_map_or kind o false) at ∙ is in rw here (omega arith)
some_kind kind (u ∷ units) (suc k) y at is =
    let rest = some_kind kind units k y at is in
    elim (kind u) as (λ b. 0 < length (if b then u ∷ filter kind units else filter kind units)) [ true ↦ omega arith | false ↦ rest ]

-- at most one unit offers what has one owner
pub one_owner : (kind : OpUnit → Bool) (units : List OpUnit) (j k : ℕ) (x y : OpUnit) → length (filter kind units) ≤ 1
    → slice_get units j ≡ Some x → kind x ≡ true → slice_get units k ≡ Some y → kind y ≡ true → j ≡ k
one_owner kind [] j k x y few at is at' is' = cc
one_owner kind (u ∷ units) zero zero x y few at is at' is' = refl
one_owner kind (u ∷ units) zero (suc k) x y few at is at' is' =
    let some : 0 < length (filter kind units) = some_kind kind units k y at' is' in
    let here : kind u ≡ true = ap (λ o. option_map_or kind o false) at ∙ is in
    let two = rw here at few in
    omega (arith, some, two)
one_owner kind (u ∷ units) (suc j) zero x y few at is at' is' =
    let some : 0 < length (filter kind units) = some_kind kind units j x at is in
    let here : kind u ≡ true = ap (λ o. option_map_or kind o false) at' ∙ is' in
    let two = rw here at few in
    omega (arith, some, two)
one_owner kind (u ∷ units) (suc j) (suc k) x y few at is at' is' =
    let fewer : length (filter kind units) ≤ 1 = elim (kind u) as (λ b. length (if b then u ∷ filter kind units else filter kind units) ≤ 1 → length (filter kind units) ≤ 1) [
      | true ↦ λ few. omega (arith, few)
      | false ↦ λ few. few
    ] few in
    ap suc (one_owner kind units j k x y fewer at is at' is')

pub takes_stream : (o : Op) → takes_in o ≡ true → is_stream_op o ≡ true
takes_stream Ldw is = cc
takes_stream Stw is = cc
takes_stream Ldf is = cc
takes_stream Stf is = cc
takes_stream Out is = cc
takes_stream Take is = refl
takes_stream (Set id) is = cc

-- what takes nothing leaves the input
pub takes_nothing : (rest : List ℕ) (t : Start) → takes t ≡ false → take_in rest t ≡ rest
takes_nothing rest t is = ap (λ b. if b then drop 1 rest else rest) is

pub takes_one : (rest : List ℕ) (t : Start) → takes t ≡ true → take_in rest t ≡ drop 1 rest
takes_one rest t is = ap (λ b. if b then drop 1 rest else rest) is

pub take_no_more : (t : Start) (rest : List ℕ) (starts : List Start) → takes t ≡ true → list_any (λ q. takes t && takes q) starts ≡ false → fold take_in rest starts ≡ rest
take_no_more t rest [] is none = refl
take_no_more t rest (q ∷ starts) is none =
    let other : takes q ≡ false = grind (arith, is, none) in
    let others : list_any (λ q. takes t && takes q) starts ≡ false = grind (arith, none) in
    ap (λ r. fold take_in r starts) (takes_nothing rest q other) ∙ take_no_more t rest starts is others

pub take_once : (rest : List ℕ) (starts : List Start) → are_different (λ p q. takes p && takes q) starts ≡ true → fold take_in rest starts ≡ left (list_any takes starts) rest
take_once rest [] apart = refl
take_once rest (t ∷ starts) apart =
    elim (takes t) as (λ b. takes t ≡ b → fold take_in (take_in rest t) starts ≡ left (b || list_any takes starts) rest) [
      | true ↦ λ is.
          let alone : list_any (λ q. takes t && takes q) starts ≡ false = grind (arith, apart) in
          ap (λ r. fold take_in r starts) (takes_one rest t is) ∙ take_no_more t (drop 1 rest) starts is alone
      | false ↦ λ is. ap (λ r. fold take_in r starts) (takes_nothing rest t is) ∙ take_once rest starts (grind (arith, apart))
    ] refl
