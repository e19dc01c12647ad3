-- Reading step by step, up to the first refusal.
use Rattle.std.specs.Prelude.{ℕ, Bool, if◌then◌else◌, Option, Some, None, Result, Ok, Err}

infixl 10 ◌>>=◌
-- goes on with what was read, or stops at the refusal
abbrev pub ◌>>=◌ : {E A B : Type 0} → Result A E → (A → Result B E) → Result B E
(Ok x) >>= f = f x
(Err e) >>= f = Err e

-- the value, or a refusal where there is none
abbrev pub or_refuse : {E A : Type 0} → E → Option A → Result A E
or_refuse e None = Err e
or_refuse e (Some x) = Ok x

-- a refusal where a test holds, and else what comes next
abbrev pub refuse_if : {E A : Type 0} → Bool → E → Result A E → Result A E
refuse_if test e next = if test then Err e else next

-- an answer as it is, and a refusal with its line
abbrev pub at_line : {E A : Type 0} → (line : ℕ) → Result A E → Result A (ℕ × E)
at_line line (Ok x) = Ok x
at_line line (Err e) = Err (line, e)

infixl 10 ◌>>?◌
-- goes on with a value, or has none
abbrev pub ◌>>?◌ : {A B : Type 0} → Option A → (A → Option B) → Option B
None >>? f = None
(Some x) >>? f = f x

-- a value only where a test holds
abbrev pub only_if : {A : Type 0} → Bool → Option A → Option A
only_if test o = if test then o else None
