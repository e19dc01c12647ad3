-- What comes of lines one after another.
use Rattle.std.proofs.Common.{◌≡◌, ℕ, Bool, true, false, true≢false, if◌then◌else◌, List, [], ◌∷◌, ◌++◌, Some, None, Option, refl, sym, ap, ◌∙◌, append_assoc, append-nil}
use Rattle.tta_prompt.specs.Cited.{Come, with_lines, Units, Machine, Debugged, saying_first, line_text, line_leaves, line_goes}
use Rattle.tta_code.specs.declared.code.Code.{Code}
use Rattle.tta_debug.proofs.Folding.{goes_true}
use Rattle.tta_prompt.specs.Prompted.{prompt_line, prompted, is_open}

-- lines that have come, and others since
pub with_lines-twice : (xs ys : List (List ℕ)) (c : Come) → with_lines ys (with_lines xs c) ≡ with_lines (xs ++ ys) c
with_lines-twice xs ys c = by c.lines where
  by : (known : Option (List (List ℕ))) → with_lines ys (with_lines xs (record c { lines = known })) ≡ with_lines (xs ++ ys) (record c { lines = known })
  by None = refl
  by (Some zs) = ap (λ ls. record c { lines = Some ls }) (append_assoc zs xs ys)

-- no lines have come since
pub with_lines-nil : (c : Come) → c ≡ with_lines [] c
with_lines-nil c = by c.lines where
  by : (known : Option (List (List ℕ))) → record c { lines = known } ≡ with_lines [] (record c { lines = known })
  by None = refl
  by (Some zs) = ap (λ ls. record c { lines = Some ls }) (sym (append-nil zs))

module _ (u : Units) (m : Machine) (code : Code) where
  -- a session that goes on after some lines and one is at the one
  abbrev Goes : List (List ℕ) → Debugged → Type 0
  Goes lines d = is_open u m code lines d ≡ true

  first_goes : (line : List ℕ) (lines : List (List ℕ)) (d : Debugged) → Goes (line ∷ lines) d
      → (line_goes (prompt_line u m code line d) ≡ true) × Goes lines (line_leaves d (prompt_line u m code line d))
  first_goes line lines d goes = by (line_goes (prompt_line u m code line d)) refl goes where
    rest : Bool
    rest = is_open u m code lines (line_leaves d (prompt_line u m code line d))

    by : (b : Bool) → line_goes (prompt_line u m code line d) ≡ b → (if b then rest else false) ≡ true
        → (line_goes (prompt_line u m code line d) ≡ true) × (rest ≡ true)
    by true is goes = (is, goes)
    by false is goes = absurd (true≢false (sym goes))

  -- what is said to the first of lines, after which others are taken
  first_said : (line : List ℕ) (lines : List (List ℕ)) (d : Debugged) → line_goes (prompt_line u m code line d) ≡ true
      → prompted u m code (line ∷ lines) d
      ≡ saying_first (line_text (prompt_line u m code line d)) (prompted u m code lines (line_leaves d (prompt_line u m code line d)))
  first_said line lines d goes = goes_true d (prompted u m code lines) (prompt_line u m code line d) (sym goes)

  -- what is said to more lines, after lines after which the session goes on
  pub said_after : (xs ys : List (List ℕ)) (d : Debugged) → Goes xs d
      → prompted u m code (xs ++ ys) d ≡ saying_first (prompted u m code xs d).0 (prompted u m code ys (prompted u m code xs d).1)
  said_after [] ys d goes = refl
  said_after (line ∷ xs) ys d goes =
      let first = first_goes line xs d goes in
      let text = line_text (prompt_line u m code line d) in
      let e = line_leaves d (prompt_line u m code line d) in
      let rest = prompted u m code ys (prompted u m code xs e).1 in
      first_said line (xs ++ ys) d first.0
      ∙ ap (saying_first text) (said_after xs ys e first.1)
      ∙ ap (λ t. (t, rest.1)) (sym (append_assoc text (prompted u m code xs e).0 rest.0))
      ∙ ap (λ (p : List ℕ × Debugged). saying_first p.0 (prompted u m code ys p.1)) (sym (first_said line xs d first.0))

  -- and whether it goes on after them
  pub open_after : (xs ys : List (List ℕ)) (d : Debugged) → Goes xs d
      → is_open u m code (xs ++ ys) d ≡ is_open u m code ys (prompted u m code xs d).1
  open_after [] ys d goes = refl
  open_after (line ∷ xs) ys d goes =
      let first = first_goes line xs d goes in
      let e = line_leaves d (prompt_line u m code line d) in
      ap (λ b. if b then is_open u m code (xs ++ ys) e else false) first.0
      ∙ open_after xs ys e first.1
      ∙ ap (λ (p : List ℕ × Debugged). is_open u m code ys p.1) (sym (first_said line xs d first.0))

  -- one more line after which the session goes on
  pub one_more : (xs : List (List ℕ)) (line : List ℕ) (d : Debugged) → Goes xs d
      → line_goes (prompt_line u m code line (prompted u m code xs d).1) ≡ true
      → Goes (xs ++ line ∷ []) d × (prompted u m code (xs ++ line ∷ []) d
      ≡ (
        (prompted u m code xs d).0 ++ line_text (prompt_line u m code line (prompted u m code xs d).1),
        line_leaves (prompted u m code xs d).1 (prompt_line u m code line (prompted u m code xs d).1),
      ))
  one_more xs line d goes more =
      let now = (prompted u m code xs d).1 in
      let text = line_text (prompt_line u m code line now) in (
        open_after xs (line ∷ []) d goes ∙ ap (λ b. if b then true else false) more,
        said_after xs (line ∷ []) d goes
            ∙ ap (saying_first (prompted u m code xs d).0) (first_said line [] now more)
            ∙ ap (λ t. ((prompted u m code xs d).0 ++ t, line_leaves now (prompt_line u m code line now))) (append-nil text),
      )
