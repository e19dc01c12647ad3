-- The words that long immediates have written into immediate registers so far.
use Rattle.std.specs.Prelude.{ℕ, ◌==◌, Bool, ◌&&◌, if◌then◌else◌, List, [], ◌∷◌, Option, Some, None, slice_get, option_and_then}
use Rattle.tta_draw.specs.Cited.{Machine, first_some, Long}
use Rattle.tta_draw.specs.declared.targets.ImmediateWord.{ImmediateWord}

-- whether a word is that of an immediate register
abbrev pub is_of : (unit index : ℕ) → ImmediateWord → Bool
is_of unit index k = k.unit == unit && k.index == index

-- the word of an immediate register, if it is known
abbrev pub known_word : List ImmediateWord → (unit index : ℕ) → Option ℕ
known_word known unit index = first_some (λ k. if is_of unit index k then Some k.word else None) known

-- what is known after a further word was written
abbrev pub learned : ImmediateWord → List ImmediateWord → List ImmediateWord
learned news [] = news ∷ []
learned news (k ∷ ks) = if is_of news.unit news.index k then news ∷ ks else k ∷ learned news ks

-- what a long immediate writes
abbrev pub wrote : Machine → Option Long → Option ImmediateWord
wrote m long =
    option_and_then (λ l. option_and_then (λ t. Some (record { unit = t.imm; index = t.reg; word = l.value })) (slice_get m.templates l.template)) long
