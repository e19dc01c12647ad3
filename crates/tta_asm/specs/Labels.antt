-- The labels of a text: which names stand for addresses. They are collected before anything else is read.
use Rattle.std.specs.Prelude.{ℕ, ◌+◌, Bool, true, false, if◌then◌else◌, List, [], ◌∷◌, ◌++◌, Option, Some, None, is_some}
use Rattle.tta_asm.specs.Cited.{Declared, named_in, name_of}
use Rattle.tta_asm.specs.declared.pieces.Close.{Close}
use Rattle.tta_asm.specs.declared.pieces.Close.TheVariants.{Colon, Semicolon}
use Rattle.tta_asm.specs.declared.labels.Label.{Label}
use Rattle.tta_asm.specs.Pieces.{Placed, Piece}

-- a name, with its place
pub record LabelWord : Type 0 where
  pub name : List ℕ
  pub line : ℕ
  pub start : ℕ

-- a word that is a name, with the line and the place where it stands
abbrev pub named_word : Placed → Option LabelWord
named_word w = of (name_of w.word) where
  of : Option (List ℕ) → Option LabelWord
  of (Some name) = Some (record { name = name; line = w.line; start = w.start })
  of None = None

-- the label that a piece is: one name, which a colon closes
abbrev pub label_of : Piece → Option LabelWord
label_of p = of p.close p.words where
  of : Close → List Placed → Option LabelWord
  of Colon (w ∷ []) = named_word w
  of close words = None

-- the labels with one more; of two with one name the first stands
abbrev pub with_label : Declared Label → (address : ℕ) → LabelWord → Declared Label
with_label labels address w =
    if is_some (named_in labels w.name) then labels else labels ++ (w.name, record { address = address; start = w.start }) ∷ []

-- how many instructions a piece ends
abbrev pub instructions_in : Close → ℕ
instructions_in Semicolon = 1
instructions_in close = 0

-- a piece that a semicolon closes
abbrev pub is_semicolon : Close → Bool
is_semicolon Semicolon = true
is_semicolon close = false

-- The labels of pieces, where so many instructions stand before them. A piece can be a label where a statement can begin:
-- at the text's begin, after an instruction, and after another label.
abbrev pub labels_from : (begins : Bool) (address : ℕ) → Declared Label → List Piece → Declared Label
labels_from begins address labels [] = labels
labels_from begins address labels (p ∷ ps) =
    of (if begins then label_of p else None) (λ w. labels_from true address (with_label labels address w) ps)
    (labels_from (is_semicolon p.close) (address + instructions_in p.close) labels ps) where
      of : Option LabelWord → (LabelWord → Declared Label) → Declared Label → Declared Label
      of (Some w) label other = label w
      of None label other = other

-- the labels of a text's pieces
unfoldable pub labels_of : List Piece → Declared Label
labels_of ps = labels_from true 0 [] ps
