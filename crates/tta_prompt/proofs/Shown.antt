-- What is shown at a prompt alone.
use Rattle.std.proofs.Common.{◌≡◌, ◌+◌, ℕ, suc, true, List, [], ◌++◌, Some, None, Option, refl, sym, ap, ◌∙◌, append_assoc, append-nil, subst}
use Rattle.std.specs.Prelude.{Ok, Err}
use Rattle.tta_prompt.specs.Cited.{Output, IsPut, IsCut, Failed, Debugged, Session', Follows}
use Rattle.tta_prompt.specs.Texts.{register_line, register_lines}
use Rattle.tta_prompt.specs.Prompted.{shown}
use Rattle.tta_prompt.specs.Endings.{AnswersLine, PutsText}
use Rattle.tta_prompt.specs.declared.error.PromptError.TheVariants.{SinkFailed}

-- a text was put, or the refusal where there is none
pub shown_put : (input : List ℕ) (d : Debugged) (text : Option (List ℕ)) (h : Session') (old new : Output) → Follows input h d
    → PutsText text old new (Ok tt) → AnswersLine input d (shown d text) h old new (Ok true)
shown_put input d None h old new follows put = (refl, follows, put)
shown_put input d (Some text) h old new follows put = (refl, follows, subst (λ t. IsPut t old new) (sym (append-nil text)) put)

-- a prefix of it was put
pub shown_cut : (input : List ℕ) (d : Debugged) (text : Option (List ℕ)) (h : Session') (old new : Output) (e : Failed) → Follows input h d
    → PutsText text old new (Err e) → AnswersLine input d (shown d text) h old new (Err SinkFailed)
shown_cut input d None h old new e follows cut = (
  cut,
  record {
    before = [];
    line = record { text = _; at = d };
    later = [];
    parts = refl;
    follows = follows;
    count = cut.count;
    taken = cut.taken;
    rose = cut.rose;
  },
)
shown_cut input d (Some text) h old new e follows cut = (
  subst (λ t. IsCut t old new) (sym (append-nil text)) cut,
  record {
    before = [];
    line = record { text = text; at = d };
    later = [];
    parts = refl;
    follows = follows;
    count = cut.count;
    taken = cut.taken;
    rose = cut.rose;
  },
)

-- a register more of a file
pub line_more : (name : List ℕ) (word : ℕ → Option ℕ) (out out' all : List ℕ) (index left left' : ℕ) → left ≡ suc left'
    → out' ≡ out ++ register_line name index (word index) → out ++ register_lines name word index left ≡ all
    → out' ++ register_lines name word (index + 1) left' ≡ all
line_more name word out out' all index left left' less one put =
    ap (λ o. o ++ register_lines name word (index + 1) left') one
    ∙ append_assoc out (register_line name index (word index)) (register_lines name word (index + 1) left')
    ∙ sym (ap (λ n. out ++ register_lines name word index n) less) ∙ put

-- no register is left
pub lines_done : (name : List ℕ) (word : ℕ → Option ℕ) (out all : List ℕ) (index left : ℕ) → left ≡ 0
    → out ++ register_lines name word index left ≡ all → out ≡ all
lines_done name word out all index left none put =
    sym (append-nil out) ∙ sym (ap (λ n. out ++ register_lines name word index n) none) ∙ put
