-- Variables of printed steps get the numbers that they had.
use Rattle.std.proofs.Common.{◌≡◌, ◌≤◌, ℕ, zero, suc, ◌+◌, ◌<◌, ◌^◌, ◌==◌, Bool, true, false, List, [], ◌∷◌, ◌++◌, length, get_or, refl, sym, ap, ◌∙◌, subst, arith, ◌⊎◌, inl, inr}
use Rattle.std.specs.Prelude.{Some, None, nat_le, if◌then◌else◌, is_some}
use Rattle.std.specs.List.{flat_map, AllByRecursion}
use Rattle.std.specs.Str.{bytes_eq}
use Rattle.std.proofs.lemmas.Bool.{eqb-true, eq-eqb, leb-true, cases_lt, and_from}
use Rattle.std.proofs.lemmas.Option.{get_or_from_slice_get}
use Rattle.tta_list.proofs.Tests.{and_left, and_right}
use Rattle.tta_roundtrip.specs.Cited.{Declared, named_in, Units, Src, Var, Word, Step, Copy, Apply, Load, Store, Put, Take, If, Goto, When, Invoke, Return, Halt, End, is_over, numbered, with_var, with_operand, with_operands, vars_after}
use Rattle.tta_pretty.specs.Printed.{var_name, var_names}
use Rattle.tta_roundtrip.specs.Readable.{in_src, mentions, are_in_order}
use Rattle.tta_roundtrip.proofs.Names.{vars_apart}
use Rattle.tta_roundtrip.proofs.Forms.{said, all_said}
use Rattle.tta_roundtrip.proofs.Said.{step_said}
use Rattle.tta_roundtrip.proofs.Operations.{IsOperation, operation_of}
use Rattle.tta_list.proofs.Lists.{same_bytes as bytes_self}

-- ---- declared variables

-- the first variables, declared
abbrev pub vars : ℕ → Declared ℕ
vars n = numbered 0 (var_names 0 n)

pub named_var : (n s x : ℕ) → s ≤ x → x < s + n → s + n < 2 ^ 32 → named_in (numbered s (var_names s n)) (var_name x) ≡ Some x
named_var zero s x low high small = absurd (omega arith)
named_var (suc n) s x low high small = elim (cases_lt s x) [
  | inl less ↦
      let other = vars_apart s x (omega arith) (omega arith) (λ e. omega arith) in
      ap (λ b. if b then Some s else named_in (numbered (s + 1) (var_names (s + 1) n)) (var_name x)) other ∙ named_var n (s + 1) x (omega arith) (omega arith) (omega arith)
  | inr past ↦
      let same : s ≡ x = omega arith in
      ap (λ b. if b then Some s else named_in (numbered (s + 1) (var_names (s + 1) n)) (var_name x)) (ap (λ y. bytes_eq (var_name y) (var_name x)) same ∙ bytes_self (var_name x)) ∙ ap Some same
]

pub unnamed_var : (n s x : ℕ) → s + n ≤ x → x < 2 ^ 32 → named_in (numbered s (var_names s n)) (var_name x) ≡ None
unnamed_var zero s x past small = refl
unnamed_var (suc n) s x past small =
    let other = vars_apart s x (omega arith) small (λ e. omega arith) in
    ap (λ b. if b then Some s else named_in (numbered (s + 1) (var_names (s + 1) n)) (var_name x)) other ∙ unnamed_var n (s + 1) x (omega arith) small

declared_length : (n s : ℕ) → length (numbered s (var_names s n)) ≡ n
declared_length zero s = refl
declared_length (suc n) s = ap suc (declared_length n (s + 1))

declared_push : (n s : ℕ) → numbered s (var_names s (suc n)) ≡ numbered s (var_names s n) ++ (var_name (s + n), s + n) ∷ []
declared_push zero s = ap (λ k. (var_name k, k) ∷ []) (let e : s ≡ s + zero = omega arith in e)
declared_push (suc n) s =
    ap (λ xs. (var_name s, s) ∷ xs) (declared_push n (s + 1)
    ∙ ap (λ k. numbered (s + 1) (var_names (s + 1) n) ++ (var_name k, k) ∷ []) (let e : (s + 1) + n ≡ s + suc n = omega arith in e))

pub vars_length : (n : ℕ) → length (vars n) ≡ n
vars_length n = declared_length n 0

-- the number of variables after one more appearance
abbrev pub later : ℕ → ℕ → ℕ
later k x = if x == k then suc k else k

var_appears : (k x : ℕ) → x ≤ k → k < 2 ^ 31 → with_var (vars k) (var_name x) ≡ vars (later k x)
var_appears k x le small = elim (cases_lt x k) [ inl less ↦ known less | inr past ↦ fresh (omega arith) ] where
  known : x < k → with_var (vars k) (var_name x) ≡ vars (later k x)
  known less =
      let there = named_var k 0 x (omega arith) (omega arith) (omega arith) in
      ap (λ o. if is_some o then vars k else vars k ++ (var_name x, length (vars k)) ∷ []) there
      ∙ by (x == k) refl where
        by : (b : Bool) → (x == k) ≡ b → vars k ≡ vars (if b then suc k else k)
        by true e = let same = eqb-true x k e in absurd (omega arith)
        by false e = refl

  fresh : x ≡ k → with_var (vars k) (var_name x) ≡ vars (later k x)
  fresh same =
      let none = unnamed_var k 0 x (omega arith) (omega arith) in
      let push = declared_push k 0 in
      let zero_more : 0 + k ≡ k = omega arith in
      ap (λ o. if is_some o then vars k else vars k ++ (var_name x, length (vars k)) ∷ []) none
      ∙ ap (λ n. vars k ++ (var_name x, n) ∷ []) (vars_length k)
      ∙ ap (λ y. vars k ++ (var_name y, k) ∷ []) same
      ∙ ap (λ y. vars k ++ (var_name y, y) ∷ []) (sym zero_more)
      ∙ sym push ∙ ap (λ b. vars (if b then suc k else k)) (sym (eq-eqb x k same))

-- ---- variables in order

-- the test of one variable, and of those after it
first_in : (k n x : ℕ) (xs : List ℕ) → are_in_order k n (x ∷ xs) ≡ true → x ≤ k
first_in k n x xs e = leb-true x k (and_left (nat_le x k) (are_in_order (later k x) n xs) e)

rest_in : (k n x : ℕ) (xs : List ℕ) → are_in_order k n (x ∷ xs) ≡ true → are_in_order (later k x) n xs ≡ true
rest_in k n x xs e = and_right (nat_le x k) (are_in_order (later k x) n xs) e

later_rises : (k x : ℕ) → k ≤ later k x
later_rises k x = by (x == k) where
  by : (b : Bool) → k ≤ (if b then suc k else k)
  by true = omega arith
  by false = omega arith

pub order_rises : (k n : ℕ) (xs : List ℕ) → are_in_order k n xs ≡ true → k ≤ n
order_rises k n [] e = let same = eqb-true k n e in omega arith
order_rises k n (x ∷ xs) e = let rest = order_rises (later k x) n xs (rest_in k n x xs e) in let up = later_rises k x in omega arith

-- the variables of two lists
pub record Between (k n : ℕ) (xs ys : List ℕ) : Type 0 where
  pub mid : ℕ
  pub first : are_in_order k mid xs ≡ true
  pub second : are_in_order mid n ys ≡ true

pub between : (k n : ℕ) (xs ys : List ℕ) → are_in_order k n (xs ++ ys) ≡ true → Between k n xs ys
between k n [] ys e = record { mid = k; first = eq-eqb k k refl; second = e }
between k n (x ∷ xs) ys e =
    let b = between (later k x) n xs ys (rest_in k n x (xs ++ ys) e) in
    record { mid = b.mid; first = and_from (nat_le x k) (are_in_order (later k x) b.mid xs) (and_left (nat_le x k) (are_in_order (later k x) n (xs ++ ys)) e) b.first; second = b.second }

-- all of them are variables in the end
pub all_known : (k n : ℕ) (xs : List ℕ) → are_in_order k n xs ≡ true → AllByRecursion (λ x. x < n) xs
all_known k n [] e = tt
all_known k n (x ∷ xs) e = (below (x == k) refl, all_known (later k x) n xs (rest_in k n x xs e)) where
  below : (b : Bool) → (x == k) ≡ b → x < n
  below true same =
      let here = eqb-true x k same in
      let up = order_rises (suc k) n xs (subst (λ b. are_in_order (if b then suc k else k) n xs ≡ true) same (rest_in k n x xs e)) in
      omega arith
  below false other =
      let le = first_in k n x xs e in
      let up = order_rises k n (x ∷ xs) e in
      let apart : (x ≡ k → ⊥) = λ same. (let yes_ : (x == k) ≡ true = eq-eqb x k same in cc) in
      elim (cases_lt x k) [ inl less ↦ omega arith | inr past ↦ absurd (apart (omega arith)) ]

-- ---- operands

src_appears : (k n : ℕ) (s : Src) → are_in_order k n (in_src s) ≡ true → n ≤ 4096 → with_operand (vars k) (said s) ≡ vars n
src_appears k n (Word w) e few = ap vars (eqb-true k n e)
src_appears k n (Var x) e few =
    let up = order_rises k n (x ∷ []) e in
    var_appears k x (first_in k n x [] e) (omega arith) ∙ ap vars (eqb-true (later k x) n (rest_in k n x [] e))

d_appears : (k n d : ℕ) (xs : List ℕ) → are_in_order k n (d ∷ xs) ≡ true → n ≤ 4096 → with_var (vars k) (var_name d) ≡ vars (later k d)
d_appears k n d xs e few = let up = order_rises k n (d ∷ xs) e in var_appears k d (first_in k n d xs e) (omega arith)

srcs_appear : (k n : ℕ) (ss : List Src) → are_in_order k n (flat_map in_src ss) ≡ true → n ≤ 4096 → with_operands (vars k) (all_said ss) ≡ vars n
srcs_appear k n [] e few = ap vars (eqb-true k n e)
srcs_appear k n (s ∷ ss) e few =
    let b = between k n (in_src s) (flat_map in_src ss) e in
    let up = order_rises b.mid n (flat_map in_src ss) b.second in
    ap (λ v. with_operands v (all_said ss)) (src_appears k b.mid s b.first (omega arith)) ∙ srcs_appear b.mid n ss b.second few

two_appear : (k n : ℕ) (a b : Src) → are_in_order k n (in_src a ++ in_src b) ≡ true → n ≤ 4096 → with_operand (with_operand (vars k) (said a)) (said b) ≡ vars n
two_appear k n a b e few =
    let m = between k n (in_src a) (in_src b) e in
    let up = order_rises m.mid n (in_src b) m.second in
    ap (λ v. with_operand v (said b)) (src_appears k m.mid a m.first (omega arith)) ∙ src_appears m.mid n b m.second few

-- the variables after a printed step
pub step_appears : (u : Units) (main k n : ℕ) (step : Step) → is_over u step ≡ true → are_in_order k n (mentions step) ≡ true → n ≤ 4096
    → vars_after (vars k) (step_said u main step) ≡ vars n
step_appears u main k n (Copy d s) over e few =
    ap (λ v. with_operand v (said s)) (d_appears k n d (in_src s) e few) ∙ src_appears (later k d) n s (rest_in k n d (in_src s) e) few
step_appears u main k n (Apply d op a b) over e few = by (operation_of u d op a b over) where
  after : are_in_order (later k d) n (in_src a ++ in_src b) ≡ true
  after = rest_in k n d (in_src a ++ in_src b) e

  arity : (o : IsOperation u op a b) → get_or u.arities op.0 0 ≡ o.arity
  arity o = get_or_from_slice_get u.arities op.0 o.arity 0 o.there

  operands : (two : Bool) → (get_or u.arities op.0 0 == 2) ≡ two → (two ≡ true) ⊎ (a ≡ Word 0) → with_operands (vars (later k d)) (if two then said a ∷ said b ∷ [] else said b ∷ []) ≡ vars n
  operands true is which = two_appear (later k d) n a b after few
  operands false is (inl wrong) = absurd cc
  operands false is (inr zero_a) = src_appears (later k d) n b (subst (λ (s : Src). are_in_order (later k d) n (in_src s ++ in_src b) ≡ true) zero_a after) few

  which : (o : IsOperation u op a b) → ((get_or u.arities op.0 0 == 2) ≡ true) ⊎ (a ≡ Word 0)
  which o = elim o.fits [ inl two ↦ inl (eq-eqb (get_or u.arities op.0 0) 2 (arity o ∙ two)) | inr one ↦ inr one.1 ]

  by : IsOperation u op a b → vars_after (vars k) (step_said u main (Apply d op a b)) ≡ vars n
  by o = ap (λ v. with_operands v (if get_or u.arities op.0 0 == 2 then said a ∷ said b ∷ [] else said b ∷ [])) (d_appears k n d (in_src a ++ in_src b) e few)
      ∙ operands (get_or u.arities op.0 0 == 2) refl (which o)
step_appears u main k n (Load d a) over e few =
    ap (λ v. with_operand v (said a)) (d_appears k n d (in_src a) e few) ∙ src_appears (later k d) n a (rest_in k n d (in_src a) e) few
step_appears u main k n (Store a v) over e few = two_appear k n a v e few
step_appears u main k n (Put v) over e few = src_appears k n v e few
step_appears u main k n (Take d) over e few = d_appears k n d [] e few ∙ ap vars (eqb-true (later k d) n (rest_in k n d [] e))
step_appears u main k n (If rel a b to) over e few = two_appear k n a b e few
step_appears u main k n (Goto to) over e few = ap vars (eqb-true k n e)
step_appears u main k n (When rel a b d s) over e few =
    let first = between k n (in_src a) (in_src b ++ (d ∷ in_src s)) e in
    let second = between first.mid n (in_src b) (d ∷ in_src s) first.second in
    let up = order_rises first.mid n (in_src b ++ (d ∷ in_src s)) first.second in
    let more = order_rises second.mid n (d ∷ in_src s) second.second in
    ap (λ v. with_operand (with_var (with_operand v (said b)) (var_name d)) (said s)) (src_appears k first.mid a first.first (omega arith))
    ∙ ap (λ v. with_operand (with_var v (var_name d)) (said s)) (src_appears first.mid second.mid b second.first (omega arith))
    ∙ ap (λ v. with_operand v (said s)) (d_appears second.mid n d (in_src s) second.second few)
    ∙ src_appears (later second.mid d) n s (rest_in second.mid n d (in_src s) second.second) few
step_appears u main k n (Invoke (Some d) callee args) over e few =
    ap (λ v. with_operands v (all_said args)) (d_appears k n d (flat_map in_src args) e few) ∙ srcs_appear (later k d) n args (rest_in k n d (flat_map in_src args) e) few
step_appears u main k n (Invoke None callee args) over e few = srcs_appear k n args e few
step_appears u main k n (Return (Some s)) over e few = src_appears k n s e few
step_appears u main k n (Return None) over e few = ap vars (eqb-true k n e)
step_appears u main k n Halt over e few = ap vars (eqb-true k n e)
step_appears u main k n End over e few = ap vars (eqb-true k n e)
