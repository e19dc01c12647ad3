-- What a divider does, clock by clock, and that a text can say it.
use Rattle.std.specs.Prelude.{◌≡◌, ℕ, ◌<◌, ◌^◌, true}
use Rattle.std.specs.List.{AllByRecursion}
use Rattle.tta_divider.specs.Cited.{Units, divide, is_set, settled, Held, held_from, is_ordered, IsPlain, IsClosed, are_apart, signals_of, TellsApart, Serves, applies_nothing}
use Rattle.tta_divider.specs.declared.kind.Kind.{Kind}
use Rattle.tta_divider.specs.declared.kind.Kind.TheVariants.{Quotient, Remainder}
use Rattle.tta_divider.specs.Divider.{Part, Enable, First, Second, Shown, same_part, same_memory, part_width, memory_width, divider, rank}

-- which operation of the unit `Divide` a divider makes
abbrev pub operation_of : Kind → ℕ
operation_of Quotient = 0
operation_of Remainder = 1

-- the words of a divider's signals before a clock, where this is what it held at first, and these are its inputs before each
abbrev pub parts_at : Units → (kind : Kind) → (stages : ℕ) → Held Part ⊥ → (inputs : ℕ → Part → ℕ) → ℕ → Part → ℕ
parts_at u kind stages h inputs t =
    settled same_part u (divider kind stages) (held_from same_part same_memory u (divider kind stages) h inputs t) (inputs t)

-- dividends and divisors of 32 bits
abbrev pub AreWords : (inputs : ℕ → Part → ℕ) → Type 0
AreWords inputs = (t : ℕ) → (inputs t First < 2 ^ 32) × (inputs t Second < 2 ^ 32)

-- A divider with registers behind one stage or more makes the quotient or the remainder of the words that it takes, whatever it holds at
-- first.
abbrev pub DividerServes : Type 0
DividerServes =
    (u : Units) (kind : Kind) (stages : ℕ) (h : Held Part ⊥) (inputs : ℕ → Part → ℕ) → 0 < stages → AreWords inputs
    → Serves (divide (operation_of kind)).value stages (λ t. (inputs t First, inputs t Second)) (λ t. is_set (inputs t Enable))
    (λ t. parts_at u kind stages h inputs t Shown)

-- One without registers makes that of the words that it is given, at the same clock.
abbrev pub DividesAtOnce : Type 0
DividesAtOnce =
    (u : Units) (kind : Kind) (h : Held Part ⊥) (inputs : ℕ → Part → ℕ) → AreWords inputs → (t : ℕ)
    → parts_at u kind 0 h inputs t Shown ≡ (divide (operation_of kind)).value (inputs t First) (inputs t Second)

-- A text can say a divider as it stands: its names are told apart, and each stands once; its wires stand in order; it reads only signals
-- that it has; all of its parts have bits, and the widths that their places ask for; and it applies no operation of a unit.
pub record IsSaid (kind : Kind) (stages : ℕ) : Type 0 where
  pub parts : TellsApart same_part
  pub apart : are_apart same_part (signals_of (divider kind stages)) ≡ true
  pub order : is_ordered (rank stages) 1 (divider kind stages).wires ≡ true
  pub closed : IsClosed same_part (divider kind stages)
  pub plain : IsPlain part_width memory_width (divider kind stages)
  pub alone : AllByRecursion (λ w. applies_nothing w.word ≡ true) (divider kind stages).wires

-- So it is with every divider.
abbrev pub DividerIsSaid : Type 0
DividerIsSaid = (kind : Kind) (stages : ℕ) → IsSaid kind stages
