-- A printed text as words with blanks between them.
use Rattle.std.proofs.Common.{◌≡◌, ℕ, ◌+◌, List, [], ◌∷◌, ◌++◌, length, length-append, refl, ap, sym, ◌∙◌, arith}
use Rattle.std.specs.Prelude.{codes}
use Rattle.std.proofs.lemmas.List.{append_assoc}
use Rattle.tta_text.specs.declared.lexeme.Kind.{Kind}
use Rattle.tta_asm.specs.Pieces.{Placed}

-- a blank, or a word of a kind
pub data Item : Type 0 where
  Blank : Item
  Word : Kind → List ℕ → Item

-- the bytes of an item
abbrev pub item_text : Item → List ℕ
item_text Blank = codes " "
item_text (Word kind text) = text

-- items one after another
abbrev pub items_text : List Item → List ℕ
items_text [] = []
items_text (i ∷ is) = item_text i ++ items_text is

-- the words of items on this line, the first item at this place
abbrev pub placed_at : (line start : ℕ) → List Item → List Placed
placed_at line start [] = []
placed_at line start (Blank ∷ is) = placed_at line (start + 1) is
placed_at line start (Word kind text ∷ is) =
    record { line = line; start = start; word = record { kind = kind; text = text } }
    ∷ placed_at line (start + length text) is

-- the place after items, the first of them at this place
abbrev pub behind : (start : ℕ) → List Item → ℕ
behind start [] = start
behind start (Blank ∷ is) = behind (start + 1) is
behind start (Word kind text ∷ is) = behind (start + length text) is

-- the text of items and more
pub items_text-append : (is js : List Item) → items_text (is ++ js) ≡ items_text is ++ items_text js
items_text-append [] js = refl
items_text-append (i ∷ is) js =
    ap (λ t. item_text i ++ t) (items_text-append is js) ∙ sym (append_assoc (item_text i) (items_text is) (items_text js))

-- the place after items is as far on as their text is long
pub behind-length : (is : List Item) (start : ℕ) → behind start is ≡ start + length (items_text is)
behind-length [] start = omega arith
behind-length (Blank ∷ is) start = let more = behind-length is (start + 1) in rw more (omega arith)
behind-length (Word kind text ∷ is) start =
    let more = behind-length is (start + length text) in
    rw (more, length-append text (items_text is)) (omega arith)
