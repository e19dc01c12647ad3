-- The command `circuit NAME`, over a unit that hands in circuits.
use Rattle.std.specs.Prelude.{◌≡◌, ◌<◌, ◌⊎◌, ℕ, List, [], ◌∷◌, Bool, false, codes, Option, Some, None, IsSomeAnd, ⊤}
use Rattle.std.specs.Str.{bytes_eq}
use Rattle.tta_own_circuits.specs.Cited.{Worked, NothingOutput, Output, Status, TextEnds}
use Rattle.tta_load.specs.declared.status.Status.TheVariants as status
use Rattle.tta_own_circuits.specs.Texts.{function_of}

-- whether words begin with the name of the command, and whether with that of `rtl`
abbrev pub begin_with : (name : List ℕ) → List (List ℕ) → Bool
begin_with name [] = false
begin_with name (first ∷ words) = bytes_eq first name

abbrev pub is_circuit : List (List ℕ) → Bool
is_circuit words = begin_with (codes "circuit") words

abbrev pub is_rtl : List (List ℕ) → Bool
is_rtl words = begin_with (codes "rtl") words

-- the name of the operation that such words ask for, if there is one and no more
abbrev pub asked : List (List ℕ) → Option (List ℕ)
asked (first ∷ name ∷ []) = Some name
asked words = None

-- what a unit has: how many operations, and what each is called
module _ (size : ℕ) (called : ℕ → List ℕ) where
  -- an operation of a name, by its number
  pub record Named (name : List ℕ) : Type 0 where
    pub place : ℕ
    pub inside : place < size
    pub name_is : called place ≡ name

  -- no operation has a name
  abbrev pub HasNone : (name : List ℕ) → Type 0
  HasNone name = (i : ℕ) → i < size → called i ≡ name → ⊥

  -- a number is that of the operation of a name, or there is none
  abbrev pub IsPlace : (name : List ℕ) → Option ℕ → Type 0
  IsPlace name (Some i) = (i < size) × (called i ≡ name)
  IsPlace name None = HasNone name

  -- and its circuits, as far as it hands them in
  module _ (circuit : ℕ → Option Worked) where
    -- a text is the function of the operation of a name, by its circuit
    abbrev pub IsFunctionOf : (name text : List ℕ) → Type 0
    IsFunctionOf name text = (o : Named name) × IsSomeAnd (circuit o.place) (λ w. text ≡ function_of name w)

    -- there is no operation of a name, or it has no circuit; or memory lacks
    abbrev pub Lacks : (name : List ℕ) → Status → Type 0
    Lacks name status.Usage = HasNone name ⊎ ((o : Named name) × (circuit o.place ≡ None))
    Lacks name status.NoMemory = ⊤
    Lacks name s = ⊥

    -- How the command ends: the function of the operation that the words ask for is put, or nothing is. Without a name, and where the
    -- unit hands in no circuit of an operation of the name, the words are no command.
    abbrev pub Ends : (name : Option (List ℕ)) → (old new : Output) → Status → Type 0
    Ends None old new s = (s ≡ status.Usage) × NothingOutput old new
    Ends (Some name) old new s = TextEnds (IsFunctionOf name) (Lacks name) old new s
