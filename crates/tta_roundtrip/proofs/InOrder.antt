-- The variables of a program that was read from a text are in order.
use Rattle.std.proofs.Common.{◌≡◌, ℕ, suc, ◌+◌, ◌<◌, ◌==◌, Bool, true, false, List, [], ◌∷◌, ◌++◌, length, length-append, map, refl, sym, ap, ◌∙◌, subst, arith, ◌⊎◌, inl, inr}
use Rattle.std.specs.Prelude.{Option, Some, None, not, nat_le, ◌&&◌, if◌then◌else◌, is_some, option_to_list, Ok}
use Rattle.std.specs.Option.{option_map_or}
use Rattle.std.specs.List.{list_all, flat_map, AllByRecursion}
use Rattle.std.specs.Str.{bytes_eq}
use Rattle.std.proofs.lemmas.Bool.{and_from, eqb-true, eq-eqb, le-leb}
use Rattle.tta_list.proofs.Tests.{and_left, and_right}
use Rattle.tta_roundtrip.specs.Cited.{Declared, named_in, refuse_if, at_line, Units, Step, UnknownLabel, Arity, Operand, Named, Constant, Form, ProcForm, DataForm, LabelForm, CopyForm, ApplyForm, LoadForm, StoreForm, PutForm, TakeForm, IfForm, GotoForm, WhenForm, CallForm, ReturnForm, HaltForm, EndForm, Unlinked, Plain, IfTo, GotoTo, CallTo, Draft, numbered, with_var, var_number, with_operand, with_operands, src_of, srcs_of, vars_after, step_of, Said, Block, label_in, vars_said, steps_said, proc_said, callee_named, params_of, link_step, link_steps, link_proc, link_procs, Proc}
use Rattle.tta_parse.specs.Steps.{◌>>=◌}
use Rattle.tta_program.specs.declared.step.Step.TheVariants as step
use Rattle.tta_tac.specs.Grammar.{step_lines}
use Rattle.tta_parse.proofs.Steps.{same_ok, refuse_if-ok, then-ok, some-ok, at_line-ok}
use Rattle.tta_roundtrip.proofs.Nesting.{is_inner}
use Rattle.tta_roundtrip.specs.Readable.{in_src, mentions, are_in_order, is_in_order}
use Rattle.tta_list.proofs.Lists.{same_bytes as bytes_self}

-- ---- variables that are counted

-- each variable's number is below how many there are
abbrev pub IsCounted : Declared ℕ → Type 0
IsCounted vars = (name : List ℕ) (k : ℕ) → named_in vars name ≡ Some k → k < length vars

-- variables keep their numbers
abbrev pub Extends : (vars more : Declared ℕ) → Type 0
Extends vars more = (name : List ℕ) (k : ℕ) → named_in vars name ≡ Some k → named_in more name ≡ Some k

-- a name that was there
there_still : (vars more : Declared ℕ) (name : List ℕ) (k : ℕ) → named_in vars name ≡ Some k → named_in (vars ++ more) name ≡ Some k
there_still [] more name k e = cc
there_still (d ∷ ds) more name k e = by (bytes_eq d.0 name) (there_still ds more name k) e where
  by : (b : Bool) → (named_in ds name ≡ Some k → named_in (ds ++ more) name ≡ Some k) → (if b then Some d.1 else named_in ds name) ≡ Some k → (if b then Some d.1 else named_in (ds ++ more) name) ≡ Some k
  by true rest e = e
  by false rest e = rest e

-- a name that was not
new_there : (vars : Declared ℕ) (name : List ℕ) (n : ℕ) → named_in vars name ≡ None → named_in (vars ++ (name, n) ∷ []) name ≡ Some n
new_there [] name n e = ap (λ b. if b then Some n else None) (bytes_self name)
new_there (d ∷ ds) name n e = by (bytes_eq d.0 name) (new_there ds name n) e where
  by : (b : Bool) → (named_in ds name ≡ None → named_in (ds ++ (name, n) ∷ []) name ≡ Some n) → (if b then Some d.1 else named_in ds name) ≡ None → (if b then Some d.1 else named_in (ds ++ (name, n) ∷ []) name) ≡ Some n
  by true rest e = cc
  by false rest e = rest e

-- a number of the longer list is of the shorter one, or the new one
number_of_new : (vars : Declared ℕ) (name other : List ℕ) (n k : ℕ) → named_in (vars ++ (name, n) ∷ []) other ≡ Some k → (named_in vars other ≡ Some k) ⊎ (k ≡ n)
number_of_new [] name other n k e = by (bytes_eq name other) e where
  by : (b : Bool) → (if b then Some n else None) ≡ Some k → (None ≡ Some k) ⊎ (k ≡ n)
  by true e = inr cc
  by false e = inl e
number_of_new (d ∷ ds) name other n k e = by (bytes_eq d.0 other) (number_of_new ds name other n k) e where
  by : (b : Bool) → (named_in (ds ++ (name, n) ∷ []) other ≡ Some k → (named_in ds other ≡ Some k) ⊎ (k ≡ n)) → (if b then Some d.1 else named_in (ds ++ (name, n) ∷ []) other) ≡ Some k → ((if b then Some d.1 else named_in ds other) ≡ Some k) ⊎ (k ≡ n)
  by true rest e = inl e
  by false rest e = rest e

-- parameters are counted
numbered_count : (names : List (List ℕ)) (s : ℕ) (name : List ℕ) (k : ℕ) → named_in (numbered s names) name ≡ Some k → k < s + length names
numbered_count [] s name k e = cc
numbered_count (n ∷ ns) s name k e = by (bytes_eq n name) (numbered_count ns (s + 1) name k) e where
  by : (b : Bool) → (named_in (numbered (s + 1) ns) name ≡ Some k → k < (s + 1) + length ns) → (if b then Some s else named_in (numbered (s + 1) ns) name) ≡ Some k → k < s + length (n ∷ ns)
  by true rest e = let same : s ≡ k = cc in omega arith
  by false rest e = let less = rest e in omega arith

pub numbered_length : (names : List (List ℕ)) (s : ℕ) → length (numbered s names) ≡ length names
numbered_length [] s = refl
numbered_length (n ∷ ns) s = ap suc (numbered_length ns (s + 1))

pub params_counted : (names : List (List ℕ)) → IsCounted (numbered 0 names)
params_counted names name k e = let less = numbered_count names 0 name k e in let same = numbered_length names 0 in omega arith

-- ---- one thing after another

order_append : (a b c : ℕ) (xs ys : List ℕ) → are_in_order a b xs ≡ true → are_in_order b c ys ≡ true → are_in_order a c (xs ++ ys) ≡ true
order_append a b c [] ys left right = subst (λ k. are_in_order k c ys ≡ true) (sym (eqb-true a b left)) right
order_append a b c (x ∷ xs) ys left right =
    and_from (nat_le x a) (are_in_order (if x == a then suc a else a) c (xs ++ ys)) (and_left (nat_le x a) (are_in_order (if x == a then suc a else a) b xs) left)
    (order_append (if x == a then suc a else a) b c xs ys (and_right (nat_le x a) (are_in_order (if x == a then suc a else a) b xs) left) right)

-- From some variables to others, where these numbers are mentioned; they are looked up later, when there may be more.
pub record Goes (vars next : Declared ℕ) (made : Declared ℕ → List ℕ) : Type 0 where
  pub counted : IsCounted vars → IsCounted next
  pub extends : Extends vars next
  pub order : IsCounted vars → (more : Declared ℕ) → Extends next more → are_in_order (length vars) (length next) (made more) ≡ true

goes_same : (vars : Declared ℕ) → Goes vars vars (λ m. [])
goes_same vars = record { counted = λ c. c; extends = λ name k e. e; order = λ c more e. eq-eqb (length vars) (length vars) refl }

goes_on : (a b c : Declared ℕ) (f g : Declared ℕ → List ℕ) → Goes a b f → Goes b c g → Goes a c (λ m. f m ++ g m)
goes_on a b c f g first second = record {
  counted = λ h. second.counted (first.counted h);
  extends = λ name k e. second.extends name k (first.extends name k e);
  order = λ h more e. order_append (length a) (length b) (length c) (f more) (g more) (first.order h more (λ name k x. e name k (second.extends name k x))) (second.order (first.counted h) more e);
}

goes_var : (vars : Declared ℕ) (name : List ℕ) → Goes vars (with_var vars name) (λ m. var_number m name ∷ [])
goes_var vars name = by (named_in vars name) refl where
  by : (o : Option ℕ) → named_in vars name ≡ o → Goes vars (if is_some o then vars else vars ++ (name, length vars) ∷ []) (λ m. var_number m name ∷ [])
  by (Some k) is = record {
    counted = λ c. c;
    extends = λ other j e. e;
    order = λ c more e.
        let less = c name k is in
        let number : var_number more name ≡ k = ap (λ o. option_map_or (λ x. x) o 0) (e name k is) in
        let le : nat_le k (length vars) ≡ true = le-leb k (length vars) (omega arith) in
        let other : (k == length vars) ≡ false = apart k (length vars) less in
        ap (λ n. are_in_order (length vars) (length vars) (n ∷ [])) number ∙ and_from (nat_le k (length vars)) ((if k == length vars then suc (length vars) else length vars) == length vars) le (ap (λ b. (if b then suc (length vars) else length vars) == length vars) other ∙ eq-eqb (length vars) (length vars) refl);
  } where
    apart : (x y : ℕ) → x < y → (x == y) ≡ false
    apart x y less = no (x == y) refl where
      no : (b : Bool) → (x == y) ≡ b → b ≡ false
      no true e = let same = eqb-true x y e in absurd (omega arith)
      no false e = refl
  by None is =
      let n = length vars in
      let size : length (vars ++ (name, n) ∷ []) ≡ suc n = length-append vars ((name, n) ∷ []) ∙ (let e : n + 1 ≡ suc n = omega arith in e) in
      record {
        counted = λ c other k e. count c other k e (number_of_new vars name other n k e);
        extends = λ other k e. there_still vars ((name, n) ∷ []) other k e;
        order = λ c more e.
            let number : var_number more name ≡ n = ap (λ o. option_map_or (λ x. x) o 0) (e name n (new_there vars name n is)) in
            let le : nat_le n n ≡ true = le-leb n n (omega arith) in
            ap (λ x. are_in_order n (length (vars ++ (name, n) ∷ [])) (x ∷ [])) number
            ∙ ap (λ s. nat_le n n && (if n == n then suc n else n) == s) size
            ∙ and_from (nat_le n n) ((if n == n then suc n else n) == suc n) le (ap (λ b. (if b then suc n else n) == suc n) (eq-eqb n n refl) ∙ eq-eqb (suc n) (suc n) refl);
      }
    where
      count : IsCounted vars → (other : List ℕ) (k : ℕ) → named_in (vars ++ (name, length vars) ∷ []) other ≡ Some k → (named_in vars other ≡ Some k) ⊎ (k ≡ length vars) → k < length (vars ++ (name, length vars) ∷ [])
      count c other k e (inl old) = let less = c other k old in let long = length-append vars ((name, length vars) ∷ []) in omega arith
      count c other k e (inr new) = let long = length-append vars ((name, length vars) ∷ []) in omega arith

goes_operand : (vars : Declared ℕ) (o : Operand) → Goes vars (with_operand vars o) (λ m. in_src (src_of m o))
goes_operand vars (Named name) = goes_var vars name
goes_operand vars (Constant n) = goes_same vars

goes_operands : (vars : Declared ℕ) (os : List Operand) → Goes vars (with_operands vars os) (λ m. flat_map in_src (srcs_of m os))
goes_operands vars [] = goes_same vars
goes_operands vars (o ∷ os) = goes_on vars (with_operand vars o) (with_operands (with_operand vars o) os) _ _ (goes_operand vars o) (goes_operands (with_operand vars o) os)

-- ---- one line

-- the variables of a step whose label or callee is a name
abbrev pub mentioned : Unlinked → List ℕ
mentioned (Plain s) = mentions s
mentioned (IfTo rel a b label) = in_src a ++ in_src b
mentioned (GotoTo label) = []
mentioned (CallTo (Some d) callee args) = d ∷ flat_map in_src args
mentioned (CallTo None callee args) = flat_map in_src args

-- an operation has one operand or two
abbrev pub HasOperands : Form → Type 0
HasOperands (ApplyForm d op (only ∷ [])) = Unit {0}
HasOperands (ApplyForm d op (left ∷ right ∷ [])) = Unit {0}
HasOperands (ApplyForm d op operands) = ⊥
HasOperands form = Unit {0}

module _ (u : Units) where
  -- the variables that a line mentions
  abbrev pub line_mentions : Form → Declared ℕ → List ℕ
  line_mentions f m = option_map_or mentioned (step_of u m f) []

  two_go : (vars : Declared ℕ) (a b : Operand) → Goes vars (with_operand (with_operand vars a) b) (λ m. in_src (src_of m a) ++ in_src (src_of m b))
  two_go vars a b = goes_on vars (with_operand vars a) (with_operand (with_operand vars a) b) _ _ (goes_operand vars a) (goes_operand (with_operand vars a) b)

  pub line_goes : (vars : Declared ℕ) (f : Form) → HasOperands f → Goes vars (vars_after vars f) (line_mentions f)
  line_goes vars (CopyForm d s) has = goes_on vars (with_var vars d) (with_operand (with_var vars d) s) _ _ (goes_var vars d) (goes_operand (with_var vars d) s)
  line_goes vars (ApplyForm d op []) has = absurd has
  line_goes vars (ApplyForm d op (only ∷ [])) has = goes_on vars (with_var vars d) (with_operand (with_var vars d) only) _ _ (goes_var vars d) (goes_operand (with_var vars d) only)
  line_goes vars (ApplyForm d op (left ∷ right ∷ [])) has = goes_on vars (with_var vars d) (with_operand (with_operand (with_var vars d) left) right) _ _ (goes_var vars d) (two_go (with_var vars d) left right)
  line_goes vars (ApplyForm d op (x ∷ y ∷ z ∷ more)) has = absurd has
  line_goes vars (LoadForm d a) has = goes_on vars (with_var vars d) (with_operand (with_var vars d) a) _ _ (goes_var vars d) (goes_operand (with_var vars d) a)
  line_goes vars (StoreForm a v) has = two_go vars a v
  line_goes vars (PutForm v) has = goes_operand vars v
  line_goes vars (TakeForm d) has = goes_var vars d
  line_goes vars (IfForm rel a b label) has = two_go vars a b
  line_goes vars (GotoForm label) has = goes_same vars
  line_goes vars (WhenForm rel a b d s) has =
      goes_on vars (with_operand vars a) (with_operand (with_var (with_operand (with_operand vars a) b) d) s) _ _ (goes_operand vars a)
      (goes_on (with_operand vars a) (with_operand (with_operand vars a) b) (with_operand (with_var (with_operand (with_operand vars a) b) d) s) _ _ (goes_operand (with_operand vars a) b)
      (goes_on (with_operand (with_operand vars a) b) (with_var (with_operand (with_operand vars a) b) d) (with_operand (with_var (with_operand (with_operand vars a) b) d) s) _ _ (goes_var (with_operand (with_operand vars a) b) d) (goes_operand (with_var (with_operand (with_operand vars a) b) d) s)))
  line_goes vars (CallForm (Some d) callee args) has = goes_on vars (with_var vars d) (with_operands (with_var vars d) args) _ _ (goes_var vars d) (goes_operands (with_var vars d) args)
  line_goes vars (CallForm None callee args) has = goes_operands vars args
  line_goes vars (ReturnForm (Some s)) has = goes_operand vars s
  line_goes vars (ReturnForm None) has = goes_same vars
  line_goes vars HaltForm has = goes_same vars
  line_goes vars EndForm has = goes_same vars
  line_goes vars (ProcForm name params) has = goes_same vars
  line_goes vars (DataForm address value) has = goes_same vars
  line_goes vars (LabelForm name) has = goes_same vars

  -- ---- all lines of a procedure

  pub body_in_order : (vars : Declared ℕ) (xs : List Said) → IsCounted vars → AllByRecursion (λ x. HasOperands x.1) xs → are_in_order (length vars) (length (vars_said vars xs)) (flat_map mentioned (steps_said u vars xs)) ≡ true
  body_in_order vars [] counted has = eq-eqb (length vars) (length vars) refl
  body_in_order vars (x ∷ xs) counted has =
      let next = vars_after vars x.1 in
      let g = line_goes vars x.1 has.0 in
      let here = g.order counted next (λ name k e. e) in
      let rest = body_in_order next xs (g.counted counted) has.1 in
      by (step_of u next x.1) here rest
    where
      by : (o : Option Unlinked) → are_in_order (length vars) (length (vars_after vars x.1)) (option_map_or mentioned o []) ≡ true
          → are_in_order (length (vars_after vars x.1)) (length (vars_said (vars_after vars x.1) xs)) (flat_map mentioned (steps_said u (vars_after vars x.1) xs)) ≡ true
          → are_in_order (length vars) (length (vars_said (vars_after vars x.1) xs)) (flat_map mentioned (option_to_list o ++ steps_said u (vars_after vars x.1) xs)) ≡ true
      by None here rest = order_append (length vars) (length (vars_after vars x.1)) (length (vars_said (vars_after vars x.1) xs)) [] (flat_map mentioned (steps_said u (vars_after vars x.1) xs)) here rest
      by (Some s) here rest = order_append (length vars) (length (vars_after vars x.1)) (length (vars_said (vars_after vars x.1) xs)) (mentioned s) (flat_map mentioned (steps_said u (vars_after vars x.1) xs)) here rest

  -- ---- linked steps

  link_mentions : (d : Draft) (labels : Declared ℕ) (s : Unlinked) (t : Step) → link_step d labels s ≡ Ok t → mentions t ≡ mentioned s
  link_mentions d labels (Plain s) t e = ap mentions (sym (same_ok s t e))
  link_mentions d labels (IfTo rel a b label) t e =
      let w = some-ok UnknownLabel (named_in labels label) (λ to. Ok (step.If rel a b to)) t e in ap mentions (sym (same_ok (step.If rel a b w.0) t w.2))
  link_mentions d labels (GotoTo label) t e =
      let w = some-ok UnknownLabel (named_in labels label) (λ to. Ok (step.Goto to)) t e in ap mentions (sym (same_ok (step.Goto w.0) t w.2))
  link_mentions d labels (CallTo dst callee args) t e =
      let w = then-ok (callee_named d.names callee) (λ k. refuse_if (not (params_of d.procs k == length args)) Arity (Ok (step.Invoke dst k args))) t e in
      let r = refuse_if-ok (not (params_of d.procs w.0 == length args)) Arity (Ok (step.Invoke dst w.0 args)) t w.2 in
      by dst (same_ok (step.Invoke dst w.0 args) t r.1)
    where
      by : {k : ℕ} (o : Option ℕ) → step.Invoke o k args ≡ t → mentions t ≡ mentioned (CallTo o callee args)
      by (Some x) same = ap mentions (sym same)
      by None same = ap mentions (sym same)

  links_mention : (d : Draft) (labels : Declared ℕ) (ss : List Unlinked) (lines : List ℕ) (ts : List Step) → length lines ≡ length ss → link_steps d labels ss lines ≡ Ok ts → flat_map mentions ts ≡ flat_map mentioned ss
  links_mention d labels [] [] ts count e = ap (flat_map mentions) (sym (same_ok [] ts e))
  links_mention d labels [] (line ∷ lines) ts count e = absurd (omega arith)
  links_mention d labels (s ∷ ss) [] ts count e = absurd (omega arith)
  links_mention d labels (s ∷ ss) (line ∷ lines) ts count e =
      let first = then-ok (at_line line (link_step d labels s)) (λ f. link_steps d labels ss lines >>= λ rest. Ok (f ∷ rest)) ts e in
      let rest = then-ok (link_steps d labels ss lines) (λ r. Ok (first.0 ∷ r)) ts first.2 in
      let whole = same_ok (first.0 ∷ rest.0) ts rest.2 in
      ap (flat_map mentions) (sym whole)
      ∙ ap (λ m. m ++ flat_map mentions rest.0) (link_mentions d labels s first.0 (at_line-ok line (link_step d labels s) first.0 first.1))
      ∙ ap (λ m. mentioned s ++ m) (links_mention d labels ss lines rest.0 (omega arith) rest.1)

  -- ---- a procedure

  pub lines_count : (vars : Declared ℕ) (xs : List Said) → AllByRecursion (λ x. is_inner x.1 ≡ true) xs → length (step_lines xs) ≡ length (steps_said u vars xs)
  lines_count vars [] inner = refl
  lines_count vars (x ∷ xs) inner = by x.1 inner.0 (lines_count (vars_after vars x.1) xs inner.1) where
    by : (f : Form) → is_inner f ≡ true → length (step_lines xs) ≡ length (steps_said u (vars_after vars f) xs)
        → length (option_map_or (λ name. step_lines xs) (label_in f) (x.0 ∷ step_lines xs)) ≡ length (option_to_list (step_of u (vars_after vars f) f) ++ steps_said u (vars_after vars f) xs)
    by (LabelForm name) inner rest = rest
    by (ProcForm name params) inner rest = cc
    by (DataForm address value) inner rest = cc
    by (CallForm (Some d) callee args) inner rest = ap suc rest
    by (CallForm None callee args) inner rest = ap suc rest
    by (ReturnForm (Some s)) inner rest = ap suc rest
    by (ReturnForm None) inner rest = ap suc rest
    by (CopyForm d s) inner rest = ap suc rest
    by (ApplyForm d op operands) inner rest = ap suc rest
    by (LoadForm d a) inner rest = ap suc rest
    by (StoreForm a v) inner rest = ap suc rest
    by (PutForm v) inner rest = ap suc rest
    by (TakeForm d) inner rest = ap suc rest
    by (IfForm rel a b label) inner rest = ap suc rest
    by (GotoForm label) inner rest = ap suc rest
    by (WhenForm rel a b d s) inner rest = ap suc rest
    by HaltForm inner rest = ap suc rest
    by EndForm inner rest = ap suc rest

  pub proc_in_order : (d : Draft) (b : Block) (q : Proc) → AllByRecursion (λ x. is_inner x.1 ≡ true) b.body → AllByRecursion (λ x. HasOperands x.1) b.body → link_proc d (proc_said u b) ≡ Ok q → is_in_order q ≡ true
  proc_in_order d b q inner has e =
      let vars = numbered 0 b.params in
      let p = proc_said u b in
      let w = then-ok (link_steps d p.labels p.steps p.lines) (λ steps. Ok (record { params = p.params; vars = length p.vars; steps = steps; lines = p.lines })) q e in
      let same = same_ok (record { params = p.params; vars = length p.vars; steps = w.0; lines = p.lines }) q w.2 in
      let mention = links_mention d p.labels p.steps p.lines w.0 (lines_count vars b.body inner) w.1 in
      let order = body_in_order vars b.body (params_counted b.params) has in
      ap is_in_order (sym same) ∙ ap (λ m. are_in_order (length b.params) (length (vars_said vars b.body)) m) mention
      ∙ ap (λ n. are_in_order n (length (vars_said vars b.body)) (flat_map mentioned (steps_said u vars b.body))) (sym (numbered_length b.params 0)) ∙ order

  pub procs_in_order : (d : Draft) (bs : List Block) (qs : List Proc) → AllByRecursion (λ b. AllByRecursion (λ x. is_inner x.1 ≡ true) b.body) bs → AllByRecursion (λ b. AllByRecursion (λ x. HasOperands x.1) b.body) bs
      → link_procs d (map (proc_said u) bs) ≡ Ok qs → list_all is_in_order qs ≡ true
  procs_in_order d [] qs inner has e = ap (list_all is_in_order) (sym (same_ok [] qs e))
  procs_in_order d (b ∷ bs) qs inner has e =
      let first = then-ok (link_proc d (proc_said u b)) (λ f. link_procs d (map (proc_said u) bs) >>= λ rest. Ok (f ∷ rest)) qs e in
      let rest = then-ok (link_procs d (map (proc_said u) bs)) (λ r. Ok (first.0 ∷ r)) qs first.2 in
      ap (list_all is_in_order) (sym (same_ok (first.0 ∷ rest.0) qs rest.2))
      ∙ and_from (is_in_order first.0) (list_all is_in_order rest.0) (proc_in_order d b first.0 inner.0 has.0 first.1) (procs_in_order d bs rest.0 inner.1 has.1 rest.1)
