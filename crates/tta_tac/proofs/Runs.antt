-- Words that are operands, all of them, and words that are free names, all of them.
use Rattle.std.proofs.Common.{◌≡◌, Bool, true, false, not, ◌&&◌, List, [], ◌∷◌, refl, ◌⊎◌, inl, inr}
use Rattle.std.specs.Prelude.{ℕ, Option, Some, None, map, if◌then◌else◌, is_some}
use Rattle.std.specs.List.{list_all, cons_option}
use Rattle.tta_parse.specs.declared.word.Word.{Word}
use Rattle.tta_tac.specs.Cited.{Lexeme, plain, texts, is_name_kind, only_if, is_reserved}
use Rattle.tta_parse.specs.Steps.{◌>>?◌}
use Rattle.tta_tac.specs.Forms.{operand_of, free_name, operands_alone, names_alone}
use Rattle.tta_tac.specs.Seen.{operands_in}

-- one more word before: there is a value where there is one for it and for the words after it
one_more : {X : Type 0} (first : Option X) (rest : Option (List X)) (all : Bool) (xs : List X)
    → rest ≡ (if all then Some xs else None)
    → (first >>? λ x. rest >>? λ ys. Some (x ∷ ys)) ≡ (if is_some first && all then Some (cons_option first xs) else None)
one_more None rest all xs e = refl
one_more (Some x) rest true xs e = rw e refl
one_more (Some x) rest false xs e = rw e refl

pub operands_alone_of : (words : List Word)
    → operands_alone (map plain words)
    ≡ (if list_all (λ w. is_some (operand_of (plain w))) words then Some (operands_in words) else None)
operands_alone_of [] = refl
operands_alone_of (w ∷ ws) = one_more (operand_of (plain w)) _ _ _ (operands_alone_of ws)

-- a free name is the text of its word
free_name_text : (w : Lexeme) → (free_name w ≡ None) ⊎ (free_name w ≡ Some w.text)
free_name_text w = by (is_name_kind w.kind) where
  kept : (b : Bool) → (only_if b (Some w.text) ≡ None) ⊎ (only_if b (Some w.text) ≡ Some w.text)
  kept true = inr refl
  kept false = inl refl

  by : (b : Bool)
      → (((if b then Some w.text else None) >>? λ name. only_if (not (is_reserved name)) (Some name)) ≡ None)
      ⊎ (((if b then Some w.text else None) >>? λ name. only_if (not (is_reserved name)) (Some name)) ≡ Some w.text)
  by true = kept (not (is_reserved w.text))
  by false = inl refl

-- one more name before, where its word has no other text
one_more_name : (first : Option (List ℕ)) (text : List ℕ) (rest : Option (List (List ℕ))) (all : Bool) (names : List (List ℕ))
    → (first ≡ None) ⊎ (first ≡ Some text)
    → rest ≡ (if all then Some names else None)
    → (first >>? λ name. rest >>? λ others. Some (name ∷ others)) ≡ (if is_some first && all then Some (text ∷ names) else None)
one_more_name first text rest all names (inl none) e = rw none refl
one_more_name first text rest true names (inr some) e = rw (some, e) refl
one_more_name first text rest false names (inr some) e = rw (some, e) refl

pub names_alone_of : (words : List Word)
    → names_alone (map plain words) ≡ (if list_all (λ w. is_some (free_name (plain w))) words then Some (texts words) else None)
names_alone_of [] = refl
names_alone_of (w ∷ ws) = one_more_name (free_name (plain w)) w.text.now _ _ _ (free_name_text (plain w)) (names_alone_of ws)
