-- The texts that are printed of circuits are texts of their parts.
use Rattle.std.proofs.Common.{◌≡◌, ℕ, Bool, true, false, List, [], ◌∷◌, ◌++◌, Option, Some, None, refl}
use Rattle.std.specs.Prelude.{if◌then◌else◌, length, slice_index_or}
use Rattle.std.specs.List.{flat_map}
use Rattle.tta_ops.specs.Units.{Units}
use Rattle.tta_arch.specs.Machine.{Machine}
use Rattle.tta_arch.specs.Fields.{numbers}
use Rattle.tta_arch.specs.declared.parts.UnitOp.{UnitOp}
use Rattle.tta_divider.specs.declared.kind.Kind.{Kind}
use Rattle.tta_verilog.specs.Laws.{begins_apart, begins_behind}
use Rattle.tta_rtl.specs.Functions.{word_of, function_head, own_text, operation_text, is_offered, offered_text}
use Rattle.tta_boxed_rtl.specs.Left.{kind_of, op_name, is_made_by, made_function, all_left}
use Rattle.tta_boxed_rtl.specs.Beside.{made_line, own_module, module_line}
use Rattle.tta_told.specs.Printed.{PrintedText, PrintedBoxedText}

-- texts one after the other, of which each begins as is wanted, or has no byte
all_begin : {A : Type 0} (test : List ℕ → Bool) → test [] ≡ true → (f : A → List ℕ) (xs : List A)
    → ((x : A) (t : List ℕ) → test t ≡ true → test (f x ++ t) ≡ true) → test (flat_map f xs) ≡ true
all_begin test none f [] each = none
all_begin test none f (x ∷ xs) each = each x (flat_map f xs) (all_begin test none f xs each)

-- the function of an operation begins with its comment, or with the line that includes its file
operation_apart : (op : ℕ) (name t : List ℕ) → begins_apart (operation_text op name ++ t) ≡ true
unfolding function_head own_text
operation_apart op name t = by (word_of name) refl where
  by : (o : Option (List ℕ)) → word_of name ≡ o → begins_apart (operation_text op name ++ t) ≡ true
  by (Some word) is = rw is refl
  by None is = rw is refl

chosen_apart : (op : ℕ) (name t : List ℕ) (b : Bool) → begins_apart t ≡ true
    → begins_apart ((if b then operation_text op name else []) ++ t) ≡ true
chosen_apart op name t true h = operation_apart op name t
chosen_apart op name t false h = h

-- a module begins with its name
module_behind : (u : Units) (m : Machine) (l : ℕ × (ℕ × UnitOp)) (t : List ℕ) → begins_behind (module_line u m l ++ t) ≡ true
unfolding module_line own_module
module_behind u m l t = by (kind_of (op_name u l.1.1.op)) refl where
  by : (o : Option Kind) → kind_of (op_name u l.1.1.op) ≡ o → begins_behind (module_line u m l ++ t) ≡ true
  by (Some k) is = rw is refl
  by None is = rw is refl

pub printed_text : PrintedText
printed_text u m c = (
  refl,
  all_begin begins_apart refl (offered_text u m) (numbers (length u.names))
      (λ op t h. chosen_apart op (slice_index_or u.names op []) t (is_offered op m.units) h),
)

pub printed_boxed_text : PrintedBoxedText
unfolding made_line
printed_boxed_text u m leaves c = (
  refl,
  (
    all_begin begins_apart refl (made_function u m leaves) (numbers (length u.names))
        (λ op t h. chosen_apart op (slice_index_or u.names op []) t (is_made_by m leaves op m.units) h),
    all_begin begins_behind refl (module_line u m) (all_left m leaves) (λ l t h. module_behind u m l t),
  ),
)
