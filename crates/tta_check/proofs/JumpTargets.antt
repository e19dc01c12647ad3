-- The words of the one jump or call of an instruction, by its abstract state.
use Rattle.std.proofs.Common.{◌≡◌, Bool, true, false, List, [], ◌∷◌, refl, ap, sym, subst, ◌∙◌, inl, inr}
use Rattle.std.specs.List.{list_any}
use Rattle.tta_check.specs.Cited.{Effect}
use Rattle.tta_check.specs.declared.values.ValueSet.{ValueSet}
use Rattle.tta_check.specs.declared.values.ValueSet.TheVariants.{Nothing, One, Two}
use Rattle.tta_check.specs.declared.state.AbstractState.{AbstractState}
use Rattle.tta_check.specs.Walks.{Word, takes_address}
use Rattle.tta_check.specs.Facts.{same_word, Origin, Fixed, From, origin_of}
use Rattle.tta_check.specs.States.{covers_word, covers, cell_of}
use Rattle.tta_check.specs.Steps.{words_of}
use Rattle.tta_check.proofs.Gives.{In, none_in}
use Rattle.tta_check.proofs.Lone.{OnceWhere}
use Rattle.tta_check.proofs.Cells.{same_is, words_cover as gives_covered}
use Rattle.tta_check.proofs.Table.{Single}
use Rattle.tta_check.proofs.Transferring.{not_two, not_two_from, AreSingle}

-- whether words are this one, if any
abbrev pub is_only : Word → ValueSet → Bool
is_only w Nothing = true
is_only w (One a) = same_word a w
is_only w (Two a b) = false

only_is : (w : Word) (h : ValueSet) (x : Word) → is_only w h ≡ true → covers_word h x ≡ true → x ≡ w
only_is w Nothing x a h = absurd cc
only_is w (One b) x a h = same_is x b h ∙ same_is b w a
only_is w (Two b c) x a h = absurd cc

only_not_two : (r : AbstractState) (o : Origin) (w : Word) → is_only w (words_of r.cells.items o) ≡ true → not_two_from r o ≡ true
only_not_two r (Fixed y) w h = refl
only_not_two r (From q) w h = on (cell_of r.cells.items q).values h where
  on : (h : ValueSet) → is_only w h ≡ true → not_two h ≡ true
  on Nothing k = refl
  on (One a) k = refl
  on (Two a b) k = absurd cc

-- the words of every jump and call are this one, if any
abbrev pub OnlyWord : AbstractState → List Effect → Word → Type 0
OnlyWord r es w = (e : Effect) → In e es → takes_address e.target ≡ true → is_only w (words_of r.cells.items (origin_of e.src)) ≡ true

pub only_single : (r : AbstractState) (es : List Effect) (w : Word) → OnlyWord r es w → Single (covers r) es w
only_single r es w only e item takes x f h k = only_is w (words_of r.cells.items (origin_of e.src)) x (only e item takes) (gives_covered r (origin_of e.src) x f h k)

pub only_are_single : (r : AbstractState) (es : List Effect) (w : Word) → OnlyWord r es w → AreSingle r es
only_are_single r [] w only = tt
only_are_single r (e ∷ es) w only = (λ takes. only_not_two r (origin_of e.src) w (only e (inl refl) takes), only_are_single r es w (λ x item. only x (inr item)))

-- where there is one jump or call, its words decide
pub one_only : (r : AbstractState) (es : List Effect) (e : Effect) (w : Word) → OnceWhere takes_address es → In e es → takes_address e.target ≡ true
    → is_only w (words_of r.cells.items (origin_of e.src)) ≡ true → OnlyWord r es w
one_only r [] e w once here takes is x at t = absurd here
one_only r (y ∷ es) e w once (inl same) takes is x (inl at) t = subst (λ z. is_only w (words_of r.cells.items (origin_of z.src)) ≡ true) (same ∙ sym at) is
one_only r (y ∷ es) e w once (inl same) takes is x (inr at) t =
    absurd (let f = none_in (λ z. takes_address z.target) es x at (once.0 (ap (λ z. takes_address z.target) (sym same) ∙ takes)) in let g = t in cc)
one_only r (y ∷ es) e w once (inr here) takes is x (inl at) t =
    absurd (let f = none_in (λ z. takes_address z.target) es e here (once.0 (ap (λ z. takes_address z.target) (sym at) ∙ t)) in let g = takes in cc)
one_only r (y ∷ es) e w once (inr here) takes is x (inr at) t = one_only r es e w once.1 here takes is x at t

-- where there is none, any word does
pub none_only : (r : AbstractState) (es : List Effect) (w : Word) → list_any (λ e. takes_address e.target) es ≡ false → OnlyWord r es w
none_only r es w none e item takes = absurd (let f = none_in (λ z. takes_address z.target) es e item none in let g = takes in cc)
