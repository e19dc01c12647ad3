-- The text of each form of expression before another text.
use Rattle.std.proofs.Common.{◌≡◌, ℕ, ◌==◌, Bool, true, false, not, ◌||◌, List, [], ◌∷◌, ◌++◌, refl, append_assoc}
use Rattle.std.specs.Prelude.{decimal}
use Rattle.tta_verilog.specs.Expressions.{constant, part, between, negated, choice, joined, reading, call}
use Rattle.tta_verilog.specs.Spelling.{is_word_byte}
use Rattle.tta_verilog.proofs.Words.{stops}

pub constant_before : (width word : ℕ) (r : List ℕ) → constant width word ++ r ≡ decimal width ++ (39 ∷ 100 ∷ (decimal word ++ r))
unfolding constant
constant_before width word r = simp append_assoc

pub part_before : (name : List ℕ) (low width : ℕ) (r : List ℕ)
    → part name low width ++ r ≡ name ++ (91 ∷ (decimal low ++ (43 ∷ 58 ∷ (decimal width ++ (93 ∷ r)))))
unfolding part
part_before name low width r = simp append_assoc

pub between_before : (sign a b r : List ℕ) → between sign a b ++ r ≡ 40 ∷ (a ++ (41 ∷ (sign ++ (40 ∷ (b ++ (41 ∷ r))))))
unfolding between
between_before sign a b r = simp append_assoc

pub negated_before : (a r : List ℕ) → negated a ++ r ≡ 33 ∷ 40 ∷ (a ++ (41 ∷ r))
unfolding negated
negated_before a r = simp append_assoc

pub choice_before : (test on off r : List ℕ) → choice test on off ++ r ≡ 40 ∷ (test ++ (41 ∷ 63 ∷ 40 ∷ (on ++ (41 ∷ 58 ∷ (off ++ r)))))
unfolding choice
choice_before test on off r = simp append_assoc

pub joined_before : (high low r : List ℕ) → joined high low ++ r ≡ 123 ∷ (high ++ (44 ∷ (low ++ (125 ∷ r))))
unfolding joined
joined_before high low r = simp append_assoc

pub call_before : (name a b r : List ℕ) → call name a b ++ r ≡ name ++ (40 ∷ (a ++ (44 ∷ (b ++ (41 ∷ r)))))
unfolding call
call_before name a b r = simp append_assoc

pub kept_before : (name address r : List ℕ) → reading true name address ++ r ≡ name ++ (40 ∷ (address ++ (41 ∷ r)))
unfolding reading
kept_before name address r = simp append_assoc

pub stored_before : (name address r : List ℕ) → reading false name address ++ r ≡ name ++ (91 ∷ (address ++ (93 ∷ r)))
unfolding reading
stored_before name address r = simp append_assoc

-- ---- what follows

-- whether a text can follow an expression: it neither goes on with its last word, nor takes a part or an argument of it
abbrev pub can_follow : List ℕ → Bool
can_follow [] = true
can_follow (b ∷ t) = not (is_word_byte b || (b == 39 || (b == 91 || b == 40)))

pub follows_stops : (r : List ℕ) → can_follow r ≡ true → stops r ≡ true
follows_stops [] h = refl
follows_stops (b ∷ t) h = by (is_word_byte b) h where
  by : (c : Bool) → not (c || (b == 39 || (b == 91 || b == 40))) ≡ true → not c ≡ true
  by true h = h
  by false h = refl
