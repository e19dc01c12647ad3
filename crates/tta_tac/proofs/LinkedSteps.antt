-- The steps of a draft's procedure keep the rules once their labels and procedures are found.
use Rattle.std.proofs.Common.{◌≡◌, ℕ, suc, ◌<◌, Bool, true, false, List, [], ◌∷◌, length, Option, Some, None, Ok, refl, sym, ◌∙◌, ap, subst, arith}
use Rattle.std.specs.Prelude.{◌&&◌, ◌==◌, not, nat_lt, if◌then◌else◌}
use Rattle.std.specs.Option.{option_map_or}
use Rattle.std.specs.List.{list_all}
use Rattle.std.proofs.lemmas.Bool.{and_from}
use Rattle.tta_list.proofs.Tests.{and_right, and_map}
use Rattle.tta_tac.specs.Cited.{Declared, named_in, or_refuse, refuse_if, at_line, Src, Step, Proc, Program, is_src, is_call, ends_once}
use Rattle.tta_parse.specs.Steps.{◌>>=◌}
use Rattle.tta_parse.proofs.Steps.{then-ok, at_line-ok}
use Rattle.tta_program.specs.declared.step.Step.TheVariants as step
use Rattle.tta_tac.specs.declared.refusal.Refusal.TheVariants.{UnknownLabel, Arity}
use Rattle.tta_program.specs.Rules.{is_step, is_end}
use Rattle.tta_tac.specs.Draft.{Draft, Unlinked, Plain, IfTo, GotoTo, CallTo}
use Rattle.tta_tac.specs.SecondPass.{callee_named, params_of, link_step, link_steps}
use Rattle.tta_tac.specs.Text.{with_main}
use Rattle.tta_tac.specs.Kept.{bare, is_unlinked, is_end_step, closes_once}

-- no number is below 0
none_below : (k : ℕ) → nat_lt k 0 ≡ true → ⊥
none_below k e = grind arith

-- ---- steps

-- a step that names nothing keeps the rules in each program
plain_kept : (p : Program) (q : Proc) (s : Step) → is_step (with_main [] 0) (bare q.vars) s ≡ true → is_step p q s ≡ true
plain_kept p q (step.Copy d s) h = h
plain_kept p q (step.Apply d op a b) h = h
plain_kept p q (step.Load d a) h = h
plain_kept p q (step.Store a v) h = h
plain_kept p q (step.Put v) h = h
plain_kept p q (step.Take d) h = h
plain_kept p q (step.If rel a b to) h = absurd (none_below to (and_right _ _ h))
plain_kept p q (step.Goto to) h = absurd (none_below to h)
plain_kept p q (step.When rel a b d s) h = h
plain_kept p q (step.Invoke d callee args) h = absurd (no_call (not (callee == 0)) (and_right _ _ h)) where
  no_call : (a : Bool) → (a && false) ≡ true → ⊥
  no_call true e = cc
  no_call false e = cc
plain_kept p q (step.Return s) h = h
plain_kept p q step.Halt h = h
plain_kept p q step.End h = h

-- whether nothing is in a list, as after the `end` of a procedure
abbrev pub is_nil : {A : Type 0} → List A → Bool
is_nil [] = true
is_nil (x ∷ xs) = false

nil_same : {A B : Type 0} (xs : List A) (ys : List B) → length xs ≡ length ys → is_nil xs ≡ is_nil ys
nil_same [] [] e = refl
nil_same [] (y ∷ ys) e = absurd (omega arith)
nil_same (x ∷ xs) [] e = absurd (omega arith)
nil_same (x ∷ xs) (y ∷ ys) e = refl

end_seen : (s : Step) → is_end s ≡ is_end_step (Plain s)
end_seen step.End = refl
end_seen s = refl

ends_cons : (x : Step) (xs : List Step) → ends_once (x ∷ xs) ≡ (if is_end x then is_nil xs else ends_once xs)
ends_cons step.End [] = refl
ends_cons step.End (y ∷ ys) = refl
ends_cons x xs = refl

pub closes_cons : (s : Unlinked) (ss : List Unlinked) → closes_once (s ∷ ss) ≡ (if is_end_step s then is_nil ss else closes_once ss)
closes_cons (Plain step.End) [] = refl
closes_cons (Plain step.End) (y ∷ ys) = refl
closes_cons s ss = refl

-- ---- the steps of one procedure

module _ (d : Draft) (labels : Declared ℕ) where
  -- the first step and the others of what was made
  pub steps_cons : (s : Unlinked) (ss : List Unlinked) (line : ℕ) (lines : List ℕ) (steps : List Step)
      → link_steps d labels (s ∷ ss) (line ∷ lines) ≡ Ok steps
      → (x : Step) × (rest : List Step) × (link_step d labels s ≡ Ok x) × (link_steps d labels ss lines ≡ Ok rest) × (x ∷ rest ≡ steps)
  steps_cons s ss line lines steps e =
      let first = then-ok (at_line line (link_step d labels s)) _ steps e in
      let rest = then-ok (link_steps d labels ss lines) _ steps first.2 in
      let all : first.0 ∷ rest.0 ≡ steps = cc rest.2 in
      (first.0, rest.0, at_line-ok line (link_step d labels s) first.0 first.1, rest.1, all)

  pub steps_length : (ss : List Unlinked) (lines : List ℕ) (steps : List Step) → length lines ≡ length ss
      → link_steps d labels ss lines ≡ Ok steps → length steps ≡ length ss
  steps_length [] lines steps same e = let none : [] ≡ steps = cc in ap length (sym none)
  steps_length (s ∷ ss) [] steps same e = absurd (omega arith)
  steps_length (s ∷ ss) (line ∷ lines) steps same e =
      let c = steps_cons s ss line lines steps e in
      ap length (sym c.4) ∙ ap suc (steps_length ss lines c.1 (omega arith) c.3)

  -- ends stay ends
  end_kept : (s : Unlinked) (x : Step) → link_step d labels s ≡ Ok x → is_end x ≡ is_end_step s
  end_kept (Plain s) x e = let same : s ≡ x = cc in ap is_end (sym same) ∙ end_seen s
  end_kept (IfTo rel a b label) x e =
      let to = then-ok (or_refuse UnknownLabel (named_in labels label)) _ x e in
      let same : step.If rel a b to.0 ≡ x = cc to.2 in ap is_end (sym same)
  end_kept (GotoTo label) x e =
      let to = then-ok (or_refuse UnknownLabel (named_in labels label)) _ x e in
      let same : step.Goto to.0 ≡ x = cc to.2 in ap is_end (sym same)
  end_kept (CallTo dst name args) x e =
      let found = then-ok (callee_named d.names name) _ x e in
      by found.0 (not (params_of d.procs found.0 == length args)) found.2 where
        by : (k : ℕ) (t : Bool) → refuse_if t Arity (Ok (step.Invoke dst k args)) ≡ Ok x → is_end x ≡ false
        by k false e = let same : step.Invoke dst k args ≡ x = cc in ap is_end (sym same)
        by k true e = absurd cc

  -- and so a procedure that closes once ends once
  pub ends_kept : (ss : List Unlinked) (lines : List ℕ) (steps : List Step) → length lines ≡ length ss
      → link_steps d labels ss lines ≡ Ok steps → ends_once steps ≡ closes_once ss
  ends_kept [] lines steps same e = let none : [] ≡ steps = cc in ap ends_once (sym none)
  ends_kept (s ∷ ss) [] steps same e = absurd (omega arith)
  ends_kept (s ∷ ss) (line ∷ lines) steps same e =
      let c = steps_cons s ss line lines steps e in
      let rest = ends_kept ss lines c.1 (omega arith) c.3 in
      let size = steps_length ss lines c.1 (omega arith) c.3 in
      ap ends_once (sym c.4) ∙ ends_cons c.0 c.1
      ∙ ap (λ t. if t then is_nil c.1 else ends_once c.1) (end_kept s c.0 c.2)
      ∙ ap (λ t. if is_end_step s then t else ends_once c.1) (nil_same c.1 ss size)
      ∙ ap (λ t. if is_end_step s then is_nil ss else t) rest
      ∙ sym (closes_cons s ss)

  module _ (p : Program) (q : Proc)
      (target : (name : List ℕ) (k : ℕ) → named_in labels name ≡ Some k → k < length q.steps)
      (callee : (name : List ℕ) (k : ℕ) (args : List Src) → callee_named d.names name ≡ Ok k → (params_of d.procs k == length args) ≡ true
      → is_call p k args ≡ true) where
    step_kept : (s : Unlinked) (x : Step) → is_unlinked q.vars s ≡ true → link_step d labels s ≡ Ok x → is_step p q x ≡ true
    step_kept (Plain s) x h e =
        let same : s ≡ x = cc in subst (λ y. is_step p q y ≡ true) same (plain_kept p q s h)
    step_kept (IfTo rel a b label) x h e = by (named_in labels label) refl e where
      by : (o : Option ℕ) → named_in labels label ≡ o → (or_refuse UnknownLabel o >>= λ to. Ok (step.If rel a b to)) ≡ Ok x → is_step p q x ≡ true
      by None at e = absurd cc
      by (Some to) at e =
          let same : step.If rel a b to ≡ x = cc in
          let below = target label to at in
          let test : nat_lt to (length q.steps) ≡ true = grind arith in
          subst (λ y. is_step p q y ≡ true) same (and_from (is_src q.vars a && is_src q.vars b) (nat_lt to (length q.steps)) h test)
    step_kept (GotoTo label) x h e = by (named_in labels label) refl e where
      by : (o : Option ℕ) → named_in labels label ≡ o → (or_refuse UnknownLabel o >>= λ to. Ok (step.Goto to)) ≡ Ok x → is_step p q x ≡ true
      by None at e = absurd cc
      by (Some to) at e =
          let same : step.Goto to ≡ x = cc in
          let below = target label to at in
          let test : nat_lt to (length q.steps) ≡ true = grind arith in
          subst (λ y. is_step p q y ≡ true) same test
    step_kept (CallTo dst name args) x h e =
        let found = then-ok (callee_named d.names name) _ x e in
        by found.0 found.1 (params_of d.procs found.0 == length args) refl found.2 where
          by : (k : ℕ) → callee_named d.names name ≡ Ok k → (t : Bool) → (params_of d.procs k == length args) ≡ t
              → refuse_if (not t) Arity (Ok (step.Invoke dst k args)) ≡ Ok x → is_step p q x ≡ true
          by k at false test e = absurd cc
          by k at true test e =
              let same : step.Invoke dst k args ≡ x = cc in
              subst (λ y. is_step p q y ≡ true) same
              (and_from (option_map_or (λ v. nat_lt v q.vars) dst true && list_all (is_src q.vars) args) (is_call p k args) h (callee name k args at test))

    pub steps_kept : (ss : List Unlinked) (lines : List ℕ) (steps : List Step) → length lines ≡ length ss
        → list_all (is_unlinked q.vars) ss ≡ true → link_steps d labels ss lines ≡ Ok steps → list_all (is_step p q) steps ≡ true
    steps_kept [] lines steps same h e = let none : [] ≡ steps = cc in ap (list_all (is_step p q)) (sym none)
    steps_kept (s ∷ ss) [] steps same h e = absurd (omega arith)
    steps_kept (s ∷ ss) (line ∷ lines) steps same h e =
        let c = steps_cons s ss line lines steps e in
        ap (list_all (is_step p q)) (sym c.4)
        ∙ and_map (λ t. step_kept s c.0 t c.2) (λ t. steps_kept ss lines c.1 (omega arith) t c.3) h
