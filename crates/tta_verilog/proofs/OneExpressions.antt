-- Texts that begin with an expression begin with one.
use Rattle.std.proofs.Common.{◌≡◌, ℕ, ◌+◌, ◌≤◌, true, List, [], ◌∷◌, ◌++◌, Option, Some, None, refl, sym, ap, ◌∙◌, arith, append-nil}
use Rattle.std.specs.List.{AllByRecursion}
use Rattle.tta_list.proofs.Lists.{all_append}
use Rattle.tta_circuit.specs.Circuit.{Expr}
use Rattle.tta_circuit.specs.Widths.{is_sized}
use Rattle.tta_circuit.specs.Plain.{is_plain}
use Rattle.tta_verilog.specs.Expressions.{Names, expression}
use Rattle.tta_verilog.specs.Spelling.{Token, SignalName, MemoryName, OperationName, Number, tokens_in, Scope, has_token, AreNames}
use Rattle.tta_verilog.specs.Laws.{OneExpression}
use Rattle.tta_verilog.proofs.Words.{IsFound, all_found, all_halves}
use Rattle.tta_verilog.proofs.Forms.{can_follow}
use Rattle.tta_verilog.proofs.Bare.{bare, size}
use Rattle.tta_verilog.proofs.Reader.{got, read}
use Rattle.tta_verilog.proofs.Reading.{Told, reads}
use Rattle.tta_verilog.proofs.Filled.{filled, Agrees, filled_back}

module _ {N M : Type 0} (names : Names N M) (scope : Scope N M) (good : AreNames names scope) where
  -- what was found, or something else
  abbrev or_else : Expr N M × List ℕ → Option (Expr N M × List ℕ) → Expr N M × List ℕ
  or_else d None = d
  or_else d (Some x) = x

  -- tokens that can be spelled
  abbrev pub AreTokens : List (Token N M) → Type 0
  AreTokens ts = AllByRecursion (λ t. has_token scope t ≡ true) ts

  module _ (signal : N → ℕ) (memory : M → ℕ) where
    told_all : (all ts : List (Token N M)) → AreTokens ts → AllByRecursion (IsFound names scope good all) ts
        → AllByRecursion (Told names scope good all signal memory) ts
    told_all all [] h found = tt
    told_all all (t ∷ ts) h found = ((h.0, found.0), told_all all ts h.1 found.1)

    read_back : (k : ℕ) (all : List (Token N M)) (e : Expr N M) (r : List ℕ) → size e ≤ k → is_plain signal memory e ≡ true
        → AreTokens (tokens_in e) → AllByRecursion (IsFound names scope good all) (tokens_in e) → can_follow r ≡ true
        → read names all k (expression names e ++ r) ≡ got names all (bare e) r
    read_back k all e r few plain tokens found follows =
        reads names scope good all signal memory k e few (record { plain = plain; told = told_all all (tokens_in e) tokens found }) r follows

  module _ (signal : N → ℕ) (memory : M → ℕ) (other : N → ℕ) (other_memory : M → ℕ) where
    -- Two texts that begin with expressions begin with one, but for widths, where no text follows that goes on with it.
    pub same_bare : (e f : Expr N M) (r s : List ℕ) → is_plain signal memory e ≡ true → is_plain other other_memory f ≡ true
        → AreTokens (tokens_in e) → AreTokens (tokens_in f)
        → can_follow r ≡ true → can_follow s ≡ true → expression names e ++ r ≡ expression names f ++ s → (bare e ≡ bare f) × (r ≡ s)
    same_bare e f r s p q e_tokens f_tokens r_follows s_follows is =
        let all : List (Token N M) = tokens_in e ++ tokens_in f in
        let k : ℕ = size e + size f in
        let known = all_halves (IsFound names scope good all) (tokens_in e) (tokens_in f)
        (all_found names scope good all (all_append (λ t. has_token scope t ≡ true) (tokens_in e) (tokens_in f) e_tokens f_tokens)) in
        let of_e = read_back signal memory k all e r (omega arith) p e_tokens known.0 r_follows in
        let of_f = read_back other other_memory k all f s (omega arith) q f_tokens known.1 s_follows in
        let one : got names all (bare e) r ≡ got names all (bare f) s = sym of_e ∙ ap (read names all k) is ∙ of_f in
        let pair : (bare e, r) ≡ (bare f, s) = ap (or_else (bare e, r)) one in
        (ap (λ x. x.0) pair, ap (λ x. x.1) pair)

-- a signal or memory has the width that it has
itself : {N M : Type 0} (signal : N → ℕ) (memory : M → ℕ) (ts : List (Token N M)) → AllByRecursion (Agrees signal memory signal memory) ts
itself signal memory [] = tt
itself signal memory (SignalName n ∷ ts) = (refl, itself signal memory ts)
itself signal memory (MemoryName m ∷ ts) = (refl, itself signal memory ts)
itself signal memory (OperationName op ∷ ts) = (tt, itself signal memory ts)
itself signal memory (Number n ∷ ts) = (tt, itself signal memory ts)

-- Two expressions that are one but for widths are one where signals and memories have the same widths.
pub same_sized : {N M : Type 0} (signal : N → ℕ) (memory : M → ℕ) (other : N → ℕ) (other_memory : M → ℕ) (e f : Expr N M)
    → is_sized signal memory e ≡ true → is_sized other other_memory f ≡ true
    → AllByRecursion (Agrees signal memory other other_memory) (tokens_in e) → bare e ≡ bare f → e ≡ f
same_sized signal memory other other_memory e f p q agree is =
    sym (filled_back signal memory other other_memory e p agree) ∙ ap (filled other other_memory) is
    ∙ filled_back other other_memory other other_memory f q (itself other other_memory (tokens_in f))

pub one_expression : (N M : Type 0) → OneExpression N M
one_expression N M names scope good signal memory e f p q is =
    same_sized signal memory signal memory e f p.sized q.sized (itself signal memory (tokens_in e))
    (same_bare names scope good signal memory signal memory e f [] [] p.plain q.plain p.tokens q.tokens refl refl
    (append-nil (expression names e) ∙ is ∙ sym (append-nil (expression names f)))).0
