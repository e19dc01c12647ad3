-- Rows of words, and the states that are left, one after another.
use Rattle.std.proofs.Common.{◌≡◌, ◌≤◌, ℕ, zero, suc, ◌+◌, ◌-◌, Bool, true, false, List, [], ◌++◌, Option, length, refl, sym, ap, ◌∙◌, append-nil, arith}
use Rattle.std.specs.Prelude.{nat_lt, if◌then◌else◌}
use Rattle.std.proofs.lemmas.Bool.{ltb-false}
use Rattle.std.proofs.lemmas.List.{append_assoc, length-append}
use Rattle.tta_pages.proofs.Fitting.{length-within}
use Rattle.tta_play.specs.Cited.{State, is_made, within}
use Rattle.tta_play.specs.States.{word_text, words_text, spaces_text, state_and_cycle_text, states_text}

-- one word more was put
pub word_more : (word : ℕ → Option ℕ) (old new all : List ℕ) (k left less : ℕ) → left ≡ suc less → new ≡ old ++ word_text (word k)
    → old ++ words_text word k left ≡ all → new ++ words_text word (k + 1) less ≡ all
word_more word old new all k left less is put was =
    ap (λ l. l ++ words_text word (k + 1) less) put ∙ append_assoc old (word_text (word k)) (words_text word (k + 1) less)
    ∙ sym (ap (λ n. old ++ words_text word k n) is) ∙ was

-- all words were put
pub words_done : (word : ℕ → Option ℕ) (old all : List ℕ) (k left : ℕ) → left ≡ 0 → old ++ words_text word k left ≡ all → old ≡ all
words_done word old all k left is was = sym (append-nil old) ∙ sym (ap (λ n. old ++ words_text word k n) is) ∙ was

-- what changed between words is what changed between the states whose they are
pub changes_of : (out : List ℕ) (s t : State) → {memory frame memory_now frame_now : List ℕ} → memory ≡ s.memory → frame ≡ s.frame → memory_now ≡ t.memory → frame_now ≡ t.frame
    → out ++ spaces_text memory frame memory_now frame_now ≡ out ++ spaces_text s.memory s.frame t.memory t.frame
changes_of out s t a b c d = rw (a, b, c, d) refl

-- ---- states with their cycles, as many as there is room for

module _ (step : State → State) (told : State → List ℕ) where
  abbrev piece : State → List ℕ
  piece = state_and_cycle_text step told

  abbrev texts : (room left : ℕ) → State → List ℕ
  texts = states_text step told

  here : (s : State) (left less room more : ℕ) → left ≡ suc less → nat_lt room (length (piece s)) ≡ false → more ≡ room - length (piece s) → is_made step s ≡ true
      → texts room left s ≡ piece s ++ texts more less (step s)
  here s left less room more is fits much made =
      ap (λ n. texts room n s) is
      ∙ ap (λ (b : Bool). if b then [] else piece s ++ (if is_made step s then texts (room - length (piece s)) less (step s) else [])) fits
      ∙ ap (λ (b : Bool). piece s ++ (if b then texts (room - length (piece s)) less (step s) else [])) made
      ∙ ap (λ n. piece s ++ texts n less (step s)) (sym much)

  -- a state and its cycle were put
  pub state_more : (s : State) (left less room more : ℕ) (old new all : List ℕ) → left ≡ suc less → is_made step s ≡ true → nat_lt room (length (piece s)) ≡ false
      → new ≡ old ++ piece s → more ≡ room - length (piece s) → old ++ texts room left s ≡ all → new ++ texts more less (step s) ≡ all
  state_more s left less room more old new all is made fits put much was =
      let rest = texts more less (step s) in
      ap (λ l. l ++ rest) put ∙ append_assoc old (piece s) rest ∙ sym (ap (λ l. old ++ l) (here s left less room more is fits much made)) ∙ was

  -- the last state and why the run is over were put
  pub state_over : (s : State) (left less room : ℕ) (old new all : List ℕ) → left ≡ suc less → is_made step s ≡ false → nat_lt room (length (piece s)) ≡ false
      → new ≡ old ++ piece s → old ++ texts room left s ≡ all → new ≡ all
  state_over s left less room old new all is made fits put was =
      let one : texts room left s ≡ piece s ++ [] =
      ap (λ n. texts room n s) is
      ∙ ap (λ (b : Bool). if b then [] else piece s ++ (if is_made step s then texts (room - length (piece s)) less (step s) else [])) fits
      ∙ ap (λ (b : Bool). piece s ++ (if b then texts (room - length (piece s)) less (step s) else [])) made in
      put ∙ ap (λ l. old ++ l) (sym (append-nil (piece s)) ∙ sym one) ∙ was

  -- there is no room for a state and its cycle
  pub state_full : (s : State) (left less room : ℕ) (old new all : List ℕ) → left ≡ suc less → nat_lt room (length (piece s)) ≡ true
      → new ≡ old → old ++ texts room left s ≡ all → new ≡ all
  state_full s left less room old new all is full put was =
      let none : texts room left s ≡ [] =
      ap (λ n. texts room n s) is
      ∙ ap (λ (b : Bool). if b then [] else piece s ++ (if is_made step s then texts (room - length (piece s)) less (step s) else [])) full in
      put ∙ sym (append-nil old) ∙ ap (λ l. old ++ l) (sym none) ∙ was

  -- no cycle is left
  pub state_last : (s : State) (left room : ℕ) (old new all : List ℕ) → left ≡ 0 → new ≡ old ++ within room (told s)
      → old ++ texts room left s ≡ all → new ≡ all
  state_last s left room old new all is put was = put ∙ sym (ap (λ n. old ++ texts room n s) is) ∙ was

  -- they have no more bytes than there is room for
  pub length-states_text : (room left : ℕ) (s : State) → length (texts room left s) ≤ room
  length-states_text room zero s = length-within room (told s)
  length-states_text room (suc left) s =
      by (nat_lt room (length (piece s))) (is_made step s) refl (length-states_text (room - length (piece s)) left (step s)) where
        by : (full made : Bool) → nat_lt room (length (piece s)) ≡ full → length (texts (room - length (piece s)) left (step s)) ≤ room - length (piece s)
            → length (if full then [] else piece s ++ (if made then texts (room - length (piece s)) left (step s) else [])) ≤ room
        by true made is rest = omega arith
        by false true is rest =
            let small : length (piece s) ≤ room = ltb-false room (length (piece s)) is in
            let both = length-append (piece s) (texts (room - length (piece s)) left (step s)) in
            omega (arith, small, both, rest)
        by false false is rest =
            let small : length (piece s) ≤ room = ltb-false room (length (piece s)) is in
            rw append-nil small
