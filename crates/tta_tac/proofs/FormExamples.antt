-- Lines of programs, and what the definitions make of them.
use Rattle.std.proofs.Common.{◌≡◌, ℕ, true, List, [], ◌∷◌, refl}
use Rattle.std.specs.Prelude.{Option, Some, None, codes, is_none}
use Rattle.std.specs.List.{list_all}
use Rattle.tta_tac.specs.Cited.{value_below, digits_of, number_of, negative_of, number_piece, negative_piece, mark_piece, piece_at, tokens_from, tokens_of, Line, lines_of, Ge, Ltu, is_reserved}
use Rattle.tta_tac.specs.Forms.{
  Named,
  Constant,
  Form,
  ProcForm,
  DataForm,
  LabelForm,
  CopyForm,
  ApplyForm,
  LoadForm,
  StoreForm,
  PutForm,
  TakeForm,
  IfForm,
  GotoForm,
  WhenForm,
  CallForm,
  ReturnForm,
  HaltForm,
  EndForm,
  proc_form,
  data_form,
  store_form,
  put_form,
  if_form,
  goto_form,
  when_form,
  call_form,
  return_form,
  assign_form,
  named_form,
  form_of,
}

-- what the one line of a text says
said : List ℕ → Option Form
unfolding lines_of
said text = only (lines_of text) where
  only : List Line → Option Form
  only ((key ∷ words) ∷ []) = form_of key words
  only lines = None

-- words that are none of the forms: reserved words as names, and words too few or too many
refused : list_all (λ text. is_none (said text)) (
    codes "a = load 1 2" ∷ codes "a = load" ∷ codes "x = if" ∷ codes "if = x" ∷ codes "goto end" ∷ codes "call halt" ∷ codes "end :"
    ∷ codes "a = call" ∷ codes "a = 1 2" ∷ codes "a = add 1 2 3" ∷ codes "a = data 1" ∷ codes "in = a" ∷ codes "a = in 1" ∷ codes "out in" ∷ codes "data 1" ∷ codes "data -1 2" ∷ codes "data a 2" ∷ codes "data 1 a" ∷ codes "1 = a" ∷ codes "a =" ∷ codes "a"
    ∷ codes "l : halt" ∷ codes "proc out" ∷ codes "proc" ∷ codes "proc f 1" ∷ codes "store 1" ∷ codes "out" ∷ codes "return 1 2"
    ∷ codes "halt 1" ∷ codes "jump l" ∷ codes "if gt a b goto l" ∷ codes "if lt a b l" ∷ codes "when ge a b 3 = y" ∷ codes "a = 1x" ∷ [])
    ≡ true
unfolding said lines_of tokens_of tokens_from piece_at number_piece negative_piece mark_piece number_of negative_of digits_of value_below is_reserved proc_form data_form store_form put_form if_form goto_form when_form call_form return_form assign_form named_form form_of
refused = refl

-- a procedure may have no parameters, and a name of an operation is free for a label
heads :
    (said (codes "proc main") ≡ Some (ProcForm (codes "main") []))
    × (said (codes "proc f a add") ≡ Some (ProcForm (codes "f") (codes "a" ∷ codes "add" ∷ [])))
    × (said (codes "l :") ≡ Some (LabelForm (codes "l")))
    × (said (codes "eq:") ≡ Some (LabelForm (codes "eq")))
    × (said (codes "end") ≡ Some EndForm)
unfolding said lines_of tokens_of tokens_from piece_at number_piece negative_piece mark_piece number_of negative_of digits_of value_below is_reserved proc_form data_form store_form put_form if_form goto_form when_form call_form return_form assign_form named_form form_of
heads = (refl, refl, refl, refl, refl)

-- a name of an operation that stands alone after the equals sign is a variable
assignments :
    (said (codes "a = b") ≡ Some (CopyForm (codes "a") (Named (codes "b"))))
    × (said (codes "a = add") ≡ Some (CopyForm (codes "a") (Named (codes "add"))))
    × (said (codes "a = -1") ≡ Some (CopyForm (codes "a") (Constant 4294967295)))
    × (said (codes "a = add 1") ≡ Some (ApplyForm (codes "a") (codes "add") (Constant 1 ∷ [])))
    × (said (codes "a = add b 0x10") ≡ Some (ApplyForm (codes "a") (codes "add") (Named (codes "b") ∷ Constant 16 ∷ [])))
    × (said (codes "a = load b") ≡ Some (LoadForm (codes "a") (Named (codes "b"))))
    × (said (codes "when ge a b x = y") ≡ Some (WhenForm Ge (Named (codes "a")) (Named (codes "b")) (codes "x") (Named (codes "y"))))
unfolding said lines_of tokens_of tokens_from piece_at number_piece negative_piece mark_piece number_of negative_of digits_of value_below is_reserved proc_form data_form store_form put_form if_form goto_form when_form call_form return_form assign_form named_form form_of
assignments = (refl, refl, refl, refl, refl, refl, refl)

-- stores, outputs and branches
effects :
    (said (codes "store 3 b") ≡ Some (StoreForm (Constant 3) (Named (codes "b"))))
    × (said (codes "out b") ≡ Some (PutForm (Named (codes "b"))))
    × (said (codes "if ltu a 5 goto l") ≡ Some (IfForm Ltu (Named (codes "a")) (Constant 5) (codes "l")))
    × (said (codes "a = in") ≡ Some (TakeForm (codes "a")))
    × (said (codes "data 0x10 -1") ≡ Some (DataForm 16 4294967295))
    × (said (codes "goto l") ≡ Some (GotoForm (codes "l")))
    × (said (codes "halt") ≡ Some HaltForm)
unfolding said lines_of tokens_of tokens_from piece_at number_piece negative_piece mark_piece number_of negative_of digits_of value_below is_reserved proc_form data_form store_form put_form if_form goto_form when_form call_form return_form assign_form named_form form_of
effects = (refl, refl, refl, refl, refl, refl, refl)

-- calls without arguments and without a destination, and returns
calls :
    (said (codes "d = call f") ≡ Some (CallForm (Some (codes "d")) (codes "f") []))
    × (said (codes "call f") ≡ Some (CallForm None (codes "f") []))
    × (said (codes "call f 1 b") ≡ Some (CallForm None (codes "f") (Constant 1 ∷ Named (codes "b") ∷ [])))
    × (said (codes "return") ≡ Some (ReturnForm None))
    × (said (codes "return b") ≡ Some (ReturnForm (Some (Named (codes "b")))))
unfolding said lines_of tokens_of tokens_from piece_at number_piece negative_piece mark_piece number_of negative_of digits_of value_below is_reserved proc_form data_form store_form put_form if_form goto_form when_form call_form return_form assign_form named_form form_of
calls = (refl, refl, refl, refl, refl)
