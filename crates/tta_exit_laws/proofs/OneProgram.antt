-- A text is one program at most, and none where it is refused.
use Rattle.std.proofs.Common.{◌≡◌, ℕ, List, Option, Some, None, Ok, refl, sym, ◌∙◌, ap, subst}
use Rattle.std.specs.Prelude.{codes}
use Rattle.tta_exit_laws.specs.Cited.{named_in, Units, Proc, DataLine, Reaches, Refusal, Linked, linked_text, with_main, ProgramText, IsRefusedAt, InPasses, ByRecursion, WithoutMain}
use Rattle.tta_program.specs.Program.{Program}

module _ (u : Units) (text : List ℕ) where
  -- what both passes make of a text is one
  same_linked : (a b : Linked) → linked_text u text ≡ Ok a → linked_text u text ≡ Ok b → a ≡ b
  same_linked a b e f = cc

  -- one place of main
  same_place : (a b : ℕ) → ◌≡◌ {A = Option ℕ} (Some a) (Some b) → a ≡ b
  same_place a b e = cc

  -- programs with the same parts are one
  same_parts : (procs procs' : List Proc) (main main' : ℕ) (init init' : List DataLine) → procs ≡ procs' → main ≡ main' → init ≡ init'
      → ◌≡◌ {A = Program} (record { procs = procs; main = main; init = init }) (record { procs = procs'; main = main'; init = init' })
  same_parts procs procs' main main' init init' e f g = rw (e, f, g) refl

  -- a text is one program at most
  pub one_program : (p q : Program) → ProgramText u text p → ProgramText u text q → p ≡ q
  one_program p q s t =
      let linked = same_linked s.linked t.linked s.passes t.passes in
      same_parts p.procs q.procs p.main q.main p.init q.init
      (s.procs ∙ ap (λ (l : Linked). l.procs) linked ∙ sym t.procs)
      (same_place p.main q.main (sym s.main ∙ ap (λ (l : Linked). named_in l.draft.names (codes "main")) linked ∙ t.main))
      (s.init ∙ ap (λ (l : Linked). l.draft.init) linked ∙ sym t.init)

  -- a text that is a program is not refused
  pub not_refused : (p : Program) (line : ℕ) (refusal : Refusal) → ProgramText u text p → IsRefusedAt u text line refusal → ⊥
  not_refused p line refusal t (InPasses _ _ e) = let passes = t.passes in absurd cc
  not_refused p line refusal t (ByRecursion _ r) =
      let linked = same_linked r.linked t.linked r.passes t.passes in
      t.acyclic r.proc (subst (λ (l : Linked). Reaches (with_main l.procs 0) r.proc r.proc) linked r.first.returns)
  not_refused p line refusal t (WithoutMain r) =
      let linked = same_linked r.linked t.linked r.passes t.passes in
      let none : named_in t.linked.draft.names (codes "main") ≡ None = subst (λ (l : Linked). named_in l.draft.names (codes "main") ≡ None) linked r.no_main in
      let some = t.main in
      absurd cc
