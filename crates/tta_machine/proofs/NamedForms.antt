-- What a machine text's lines declare has names of the text for names.
use Rattle.std.proofs.Common.{◌≡◌, ℕ, Bool, true, false, List, [], ◌∷◌, Option, Some, None, filter_map, refl, subst}
use Rattle.std.specs.Prelude.{codes, if◌then◌else◌}
use Rattle.std.specs.List.{AllByRecursion, cons_option}
use Rattle.tta_machine.specs.Cited.{is_name, Line, is_keyword, is_mark, name_of, value_of, only_if}
use Rattle.tta_parse.specs.Steps.{◌>>?◌}
use Rattle.tta_machine.specs.Forms.{BusForm, SocketForm, FileForm, ImmForm, UnitForm, OpForm, TemplateForm, bus_form, socket_form, file_form, imm_form, unit_form, unit_ports, op_form, template_form, one_of_two, keyed_value, keyed_name, names_alone}
use Rattle.tta_machine.specs.Grammar.{declared_as, op_lines}
use Rattle.tta_parse.proofs.TextNames.{LineNames}

-- ---- values that are there

-- what is there is so
abbrev pub Gives : {A : Type 0} → (A → Type 0) → Option A → Type 0
Gives {A = A} P o = (x : A) → o ≡ Some x → P x

-- nothing
pub gives-none : {A : Type 0} (P : A → Type 0) → Gives P None
gives-none P y e = cc

-- a value that is so
pub gives-some : {A : Type 0} (P : A → Type 0) (x : A) → P x → Gives P (Some x)
gives-some P x is y e = let same : x ≡ y = cc in subst P same is

-- a value that is so where another is there
pub gives-then : {A B : Type 0} (P : B → Type 0) (o : Option A) (f : A → Option B)
    → ((x : A) → o ≡ Some x → Gives P (f x)) → Gives P (o >>? f)
gives-then P None f is y e = cc
gives-then P (Some x) f is y e = is x refl y e

-- a value that is so where a test holds
gives-if : {A : Type 0} (P : A → Type 0) (test : Bool) (o : Option A) → Gives P o → Gives P (only_if test o)
gives-if P true o is = is
gives-if P false o is = gives-none P

-- all values that are there are so
pub gives-all : {A B : Type 0} (P : B → Type 0) (Q : A → Type 0) (f : A → Option B) → ((x : A) → Q x → Gives P (f x))
    → (xs : List A) → AllByRecursion Q xs → AllByRecursion P (filter_map f xs)
gives-all P Q f is [] are = tt
gives-all {A = A} {B = B} P Q f is (x ∷ xs) are = by (f x) (is x are.0) (gives-all P Q f is xs are.1) where
  by : (o : Option B) → Gives P o → AllByRecursion P (filter_map f xs) → AllByRecursion P (cons_option o (filter_map f xs))
  by None given rest = rest
  by (Some y) given rest = (given y refl, rest)

-- ---- the form of a line

-- a bus's name is a name of the text
abbrev pub BusNamed : BusForm → Type 0
BusNamed f = is_name f.name ≡ true

-- a socket's
abbrev pub SocketNamed : SocketForm → Type 0
SocketNamed f = is_name f.name ≡ true

-- a file's
abbrev pub FileNamed : FileForm → Type 0
FileNamed f = is_name f.name ≡ true

-- an immediate unit's
abbrev pub ImmNamed : ImmForm → Type 0
ImmNamed f = is_name f.name ≡ true

-- a unit's
abbrev pub UnitNamed : UnitForm → Type 0
UnitNamed f = is_name f.name ≡ true

-- an operation's
abbrev pub OpNamed : OpForm → Type 0
OpNamed f = is_name f.operation ≡ true

-- a template's
abbrev pub TemplateNamed : TemplateForm → Type 0
TemplateNamed f = is_name f.name ≡ true

-- the form of a bus's line is so
pub bus-named : (line : Line) → LineNames line → Gives BusNamed (bus_form line)
unfolding bus_form
bus-named (n ∷ short ∷ bits ∷ sign ∷ []) are =
    gives-if BusNamed (is_keyword (codes "short") short) _ (
    gives-then BusNamed (name_of n) _ (λ name e.
    gives-then BusNamed (value_of bits) _ (λ count _.
    gives-then BusNamed (one_of_two (codes "signed") (codes "unsigned") sign) _ (λ signed _. gives-some BusNamed _ (are.0 name e)))))
bus-named line are = gives-none BusNamed

-- the form of a socket's line
pub socket-named : (line : Line) → LineNames line → Gives SocketNamed (socket_form line)
unfolding socket_form
socket-named (n ∷ direction ∷ bus ∷ buses) are =
    gives-then SocketNamed (name_of n) _ (λ name e.
    gives-then SocketNamed (one_of_two (codes "in") (codes "out") direction) _ (λ input _.
    gives-then SocketNamed (names_alone (bus ∷ buses)) _ (λ all _. gives-some SocketNamed _ (are.0 name e))))
socket-named line are = gives-none SocketNamed

-- the form of a file's line
pub file-named : (line : Line) → LineNames line → Gives FileNamed (file_form line)
unfolding file_form
file-named (n ∷ k1 ∷ width ∷ k2 ∷ size ∷ k3 ∷ read ∷ k4 ∷ write ∷ k5 ∷ out ∷ k6 ∷ into ∷ []) are =
    gives-then FileNamed (name_of n) _ (λ name e.
    gives-then FileNamed (keyed_value (codes "width") k1 width) _ (λ w _.
    gives-then FileNamed (keyed_value (codes "size") k2 size) _ (λ s _.
    gives-then FileNamed (keyed_value (codes "read") k3 read) _ (λ r _.
    gives-then FileNamed (keyed_value (codes "write") k4 write) _ (λ t _.
    gives-then FileNamed (keyed_name (codes "out") k5 out) _ (λ o _.
    gives-then FileNamed (keyed_name (codes "in") k6 into) _ (λ i _.
    gives-some FileNamed _ (are.0 name e))))))))
file-named line are = gives-none FileNamed

-- the form of an immediate unit's line
pub imm-named : (line : Line) → LineNames line → Gives ImmNamed (imm_form line)
unfolding imm_form
imm-named (n ∷ k1 ∷ size ∷ k2 ∷ out ∷ []) are =
    gives-then ImmNamed (name_of n) _ (λ name e.
    gives-then ImmNamed (keyed_value (codes "size") k1 size) _ (λ s _.
    gives-then ImmNamed (keyed_name (codes "out") k2 out) _ (λ o _.
    gives-some ImmNamed _ (are.0 name e))))
imm-named line are = gives-none ImmNamed

-- the form of a unit's ports
ports-named : (name : List ℕ) (operand : Option (List ℕ)) (line : Line) → is_name name ≡ true → Gives UnitNamed (unit_ports name operand line)
ports-named name operand (k1 ∷ trigger ∷ []) is =
    gives-then UnitNamed (keyed_name (codes "t") k1 trigger) _ (λ t _. gives-some UnitNamed _ is)
ports-named name operand (k1 ∷ trigger ∷ k2 ∷ result ∷ []) is =
    gives-then UnitNamed (keyed_name (codes "t") k1 trigger) _ (λ t _.
    gives-then UnitNamed (keyed_name (codes "r") k2 result) _ (λ r _. gives-some UnitNamed _ is))
ports-named name operand line is = gives-none UnitNamed

-- the form of a unit's line
pub unit-named : (line : Line) → LineNames line → Gives UnitNamed (unit_form line)
unfolding unit_form
unit-named (n ∷ k1 ∷ first ∷ rest) are = gives-then UnitNamed (name_of n) _ (λ name e. by name (are.0 name e) (is_keyword (codes "o") k1)) where
  by : (name : List ℕ) → is_name name ≡ true → (b : Bool)
      → Gives UnitNamed (if b then (name_of first >>? λ o. unit_ports name (Some o) rest) else unit_ports name None (k1 ∷ first ∷ rest))
  by name is true = gives-then UnitNamed (name_of first) _ (λ o _. ports-named name (Some o) rest is)
  by name is false = ports-named name None (k1 ∷ first ∷ rest) is
unit-named line are = gives-none UnitNamed

-- the form of an operation's line
pub op-named : (line : Line) → LineNames line → Gives OpNamed (op_form line)
unfolding op_form
op-named (u ∷ o ∷ []) are =
    gives-then OpNamed (name_of u) _ (λ unit _. gives-then OpNamed (name_of o) _ (λ operation e. gives-some OpNamed _ (are.1.0 operation e)))
op-named (u ∷ o ∷ l ∷ []) are =
    gives-then OpNamed (name_of u) _ (λ unit _. gives-then OpNamed (name_of o) _ (λ operation e.
    gives-then OpNamed (value_of l) _ (λ latency _. gives-some OpNamed _ (are.1.0 operation e))))
op-named line are = gives-none OpNamed

-- the form of a template's line
pub template-named : (line : Line) → LineNames line → Gives TemplateNamed (template_form line)
unfolding template_form
template-named (n ∷ u ∷ dot ∷ i ∷ bus ∷ buses) are =
    gives-if TemplateNamed (is_mark (codes ".") dot) _ (
    gives-then TemplateNamed (name_of n) _ (λ name e.
    gives-then TemplateNamed (name_of u) _ (λ imm _.
    gives-then TemplateNamed (value_of i) _ (λ index _.
    gives-then TemplateNamed (names_alone (bus ∷ buses)) _ (λ all _. gives-some TemplateNamed _ (are.0 name e))))))
template-named line are = gives-none TemplateNamed

-- ---- the lines of a kind

-- what a line declares as a line of a kind is so, where its form is
declared-named : {F : Type 0} (P : F → Type 0) (word : List ℕ) (form : Line → Option F) → ((line : Line) → LineNames line → Gives P (form line))
    → (line : Line) → LineNames line → Gives P (declared_as word form line)
declared-named P word form is [] are = gives-none P
declared-named P word form is (key ∷ words) are = gives-if P (is_keyword word key) (form words) (is words are.1)

-- all operations of a text
pub ops_named : (lines : List Line) → AllByRecursion LineNames lines → AllByRecursion OpNamed (op_lines lines)
ops_named lines are = gives-all OpNamed LineNames _ (declared-named OpNamed (codes "op") op_form op-named) lines are
