-- What the code reads of a line, as the definitions see it.
use Rattle.std.specs.Prelude.{List, [], ◌∷◌, option_map}
use Rattle.std.specs.List.{filter_map}
use Rattle.tta_parse.specs.declared.word.Word.{Word}
use Rattle.tta_tac.specs.Cited.{plain, texts}
use Rattle.tta_tac.specs.declared.forms.Operand.{Operand as OperandWords}
use Rattle.tta_tac.specs.declared.forms.Operand.TheVariants as operand_words
use Rattle.tta_tac.specs.declared.forms.Operands.{Operands as OperandsWords}
use Rattle.tta_tac.specs.declared.forms.Operands.TheVariants as operands_words
use Rattle.tta_tac.specs.declared.forms.Form.{Form as FormWords}
use Rattle.tta_tac.specs.declared.forms.Form.TheVariants as form_words
use Rattle.tta_tac.specs.Forms.{Operand, Named, Constant, operand_of, Form, ProcForm, DataForm, LabelForm, CopyForm, ApplyForm, LoadForm, StoreForm, PutForm, TakeForm, IfForm, GotoForm, WhenForm, CallForm, ReturnForm, HaltForm, EndForm}

-- the operands among words
abbrev pub operands_in : List Word → List Operand
operands_in words = filter_map (λ w. operand_of (plain w)) words

-- an operand
abbrev pub operand_seen : OperandWords → Operand
operand_seen (operand_words.Named name) = Named name.now
operand_seen (operand_words.Constant n) = Constant n

-- one operand or two
abbrev pub operands_seen : OperandsWords → List Operand
operands_seen (operands_words.One b) = operand_seen b ∷ []
operands_seen (operands_words.Two a b) = operand_seen a ∷ operand_seen b ∷ []

-- what a line says
abbrev pub form_seen : FormWords → Form
form_seen (form_words.Proc name params) = ProcForm name.now (texts params.now)
form_seen (form_words.Data address value) = DataForm address value
form_seen (form_words.Label name) = LabelForm name.now
form_seen (form_words.Copy d s) = CopyForm d.now (operand_seen s)
form_seen (form_words.Apply d op operands) = ApplyForm d.now op.now (operands_seen operands)
form_seen (form_words.Load d a) = LoadForm d.now (operand_seen a)
form_seen (form_words.Store a v) = StoreForm (operand_seen a) (operand_seen v)
form_seen (form_words.Put v) = PutForm (operand_seen v)
form_seen (form_words.Take d) = TakeForm d.now
form_seen (form_words.If rel a b label) = IfForm rel (operand_seen a) (operand_seen b) label.now
form_seen (form_words.Goto label) = GotoForm label.now
form_seen (form_words.When rel a b d s) = WhenForm rel (operand_seen a) (operand_seen b) d.now (operand_seen s)
form_seen (form_words.Call d callee args) = CallForm (option_map (λ n. n.now) d) callee.now (operands_in args.now)
form_seen (form_words.Return s) = ReturnForm (option_map operand_seen s)
form_seen form_words.Halt = HaltForm
form_seen form_words.End = EndForm
