-- What a line that was taken declares: its kind, its form, and what that made of the draft.
use Rattle.std.proofs.Common.{◌≡◌, ◌+◌, ◌∷◌, [], ℕ, Bool, true, false, List, Option, Some, Result, Ok, refl, subst, codes, ◌⊎◌}
use Rattle.std.specs.Prelude.{if◌then◌else◌}
use Rattle.tta_machine.specs.Cited.{Line, Lexeme, is_keyword, or_refuse, at_line, Units}
use Rattle.tta_parse.specs.Steps.{◌>>=◌}
use Rattle.tta_parse.proofs.Steps.{some-ok, same_ok, then-ok, at_line-ok}
use Rattle.tta_machine.specs.declared.refusal.Refusal.{Refusal}
use Rattle.tta_machine.specs.declared.refusal.Refusal.TheVariants.{Syntax}
use Rattle.tta_machine.specs.declared.draft.Draft.{Draft}
use Rattle.tta_machine.specs.Forms.{BusForm, SocketForm, FileForm, ImmForm, UnitForm, OpForm, GuardForm, TemplateForm, ControlForm, SpaceForm, bus_form, socket_form, file_form, imm_form, unit_form, op_form, guard_form, template_form, control_form, space_form}
use Rattle.tta_machine.specs.Declarations.{take_bus, take_socket, take_file, take_imm, take_unit, take_op, take_guard, take_template, take_control, take_space}
use Rattle.tta_machine.specs.Text.{declare, take_line, take_lines}
use Rattle.tta_machine.proofs.MadeParts.{BusMade, SocketMade, FileMade, ImmMade, UnitMade, take_bus-made, take_socket-made, take_file-made, take_imm-made, take_unit-made}
use Rattle.tta_machine.proofs.MadeLinks.{OpMade, GuardMade, TemplateMade, ControlMade, DataMade, FrameMade, take_op-made, take_guard-made, take_template-made, take_control-made, take_space-made}

-- a line that was taken is of one kind
pub data Taken (u : Units) (line : ℕ) (d e : Draft) (key : Lexeme) (words : Line) : Type 0 where
  TakenBus : (f : BusForm) → is_keyword (codes "bus") key ≡ true → bus_form words ≡ Some f → BusMade d e f → Taken u line d e key words
  TakenSocket : (f : SocketForm) → is_keyword (codes "socket") key ≡ true → socket_form words ≡ Some f → SocketMade d e f → Taken u line d e key words
  TakenFile : (f : FileForm) → is_keyword (codes "file") key ≡ true → file_form words ≡ Some f → FileMade d e f → Taken u line d e key words
  TakenImm : (f : ImmForm) → is_keyword (codes "imm") key ≡ true → imm_form words ≡ Some f → ImmMade d e f → Taken u line d e key words
  TakenUnit : (f : UnitForm) → is_keyword (codes "unit") key ≡ true → unit_form words ≡ Some f → UnitMade d e f → Taken u line d e key words
  TakenOp : (f : OpForm) → is_keyword (codes "op") key ≡ true → op_form words ≡ Some f → OpMade u d e f → Taken u line d e key words
  TakenGuard : (f : GuardForm) → is_keyword (codes "guard") key ≡ true → guard_form words ≡ Some f → GuardMade d e f → Taken u line d e key words
  TakenTemplate : (f : TemplateForm) → is_keyword (codes "template") key ≡ true → template_form words ≡ Some f → TemplateMade line d e f → Taken u line d e key words
  TakenControl : (f : ControlForm) → is_keyword (codes "control") key ≡ true → control_form words ≡ Some f → ControlMade d e f → Taken u line d e key words
  TakenSpace : (f : SpaceForm) → is_keyword (codes "space") key ≡ true → space_form words ≡ Some f → DataMade d e f ⊎ FrameMade d e f → Taken u line d e key words

pub declare-taken : (u : Units) (line : ℕ) (d e : Draft) (key : Lexeme) (words : Line) → declare u line d key words ≡ Ok e → Taken u line d e key words
declare-taken u line d e key words h =
    of_kind (codes "bus") bus_form (take_bus d) _ (λ f is said t. TakenBus f is said (take_bus-made d e f t))
    (of_kind (codes "socket") socket_form (take_socket d) _ (λ f is said t. TakenSocket f is said (take_socket-made d e f t))
    (of_kind (codes "file") file_form (take_file d) _ (λ f is said t. TakenFile f is said (take_file-made d e f t))
    (of_kind (codes "imm") imm_form (take_imm d) _ (λ f is said t. TakenImm f is said (take_imm-made d e f t))
    (of_kind (codes "unit") unit_form (take_unit d) _ (λ f is said t. TakenUnit f is said (take_unit-made d e f t))
    (of_kind (codes "op") op_form (take_op u d) _ (λ f is said t. TakenOp f is said (take_op-made u d e f t))
    (of_kind (codes "guard") guard_form (take_guard d) _ (λ f is said t. TakenGuard f is said (take_guard-made d e f t))
    (of_kind (codes "template") template_form (take_template line d) _ (λ f is said t. TakenTemplate f is said (take_template-made line d e f t))
    (of_kind (codes "control") control_form (take_control d) _ (λ f is said t. TakenControl f is said (take_control-made d e f t))
    (of_kind (codes "space") space_form (take_space d) _ (λ f is said t. TakenSpace f is said (take_space-made d e f t))
    (λ t. cc)))))))))) h
  where
    -- the line is of this kind, or what comes next holds
    of_kind : {F : Type 0} (word : List ℕ) (form : Line → Option F) (take : F → Result Draft Refusal) (next : Result Draft Refusal)
        → ((f : F) → is_keyword word key ≡ true → form words ≡ Some f → take f ≡ Ok e → Taken u line d e key words) → (next ≡ Ok e → Taken u line d e key words)
        → (if is_keyword word key then or_refuse Syntax (form words) >>= take else next) ≡ Ok e → Taken u line d e key words
    of_kind {F} word form take next here later t = by (is_keyword word key) refl t where
      by : (b : Bool) → is_keyword word key ≡ b → (if b then or_refuse Syntax (form words) >>= take else next) ≡ Ok e → Taken u line d e key words
      by true is t = let s = some-ok Syntax (form words) take e t in here s.0 is s.1 s.2
      by false is t = later t

-- ---- what lines keep

-- what every declaration that is taken keeps, a line keeps
pub line_keeps : (u : Units) (P : Draft → Type 0) → ((line : ℕ) (d e : Draft) (key : Lexeme) (words : Line) → P d → Taken u line d e key words → P e)
    → (line : ℕ) (d e : Draft) (words : Line) → P d → take_line u line d words ≡ Ok e → P e
unfolding take_line
line_keeps u P keeps line d e [] r h = subst P (same_ok d e h) r
line_keeps u P keeps line d e (key ∷ words) r h = keeps line d e key words r (declare-taken u line d e key words h)

-- and so do the lines of a text
pub lines_keep : (u : Units) (P : Draft → Type 0) → ((line : ℕ) (d e : Draft) (key : Lexeme) (words : Line) → P d → Taken u line d e key words → P e)
    → (line : ℕ) (d e : Draft) (lines : List Line) → P d → take_lines u line d lines ≡ Ok e → P e
lines_keep u P keeps line d e [] r h = subst P (same_ok d e h) r
lines_keep u P keeps line d e (words ∷ lines) r h =
    let one = then-ok (at_line line (take_line u line d words)) _ e h in
    lines_keep u P keeps (line + 1) one.0 e lines (line_keeps u P keeps line d one.0 words r (at_line-ok line (take_line u line d words) one.0 one.1)) one.2
