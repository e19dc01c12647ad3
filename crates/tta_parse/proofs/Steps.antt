-- What it means that a reading step by step came to its end.
use Rattle.std.proofs.Common.{◌≡◌, ℕ, Bool, true, false, Option, Some, None, Result, Ok, Err, refl}
use Rattle.tta_parse.specs.Steps.{◌>>=◌, ◌>>?◌, at_line, or_refuse, refuse_if, only_if}

-- two answers that are one have one value
pub same_ok : {A E : Type 0} (x y : A) → ◌≡◌ {A = Result A E} (Ok x) (Ok y) → x ≡ y
same_ok x y e = cc

-- nothing was refused, and what comes next is the answer
pub refuse_if-ok : {A E : Type 0} (test : Bool) (e : E) (next : Result A E) (x : A) → refuse_if test e next ≡ Ok x → (test ≡ false) × (next ≡ Ok x)
refuse_if-ok true e next x h = cc
refuse_if-ok false e next x h = (refl, h)

-- a first step gave what the second went on with
pub then-ok : {A B E : Type 0} (r : Result A E) (f : A → Result B E) (y : B) → (r >>= f) ≡ Ok y → (x : A) × (r ≡ Ok x) × (f x ≡ Ok y)
then-ok (Ok x) f y h = (x, refl, h)
then-ok (Err e) f y h = cc

-- there was a value to go on with
pub some-ok : {A B E : Type 0} (e : E) (o : Option A) (f : A → Result B E) (y : B) → (or_refuse e o >>= f) ≡ Ok y → (x : A) × (o ≡ Some x) × (f x ≡ Ok y)
some-ok e None f y h = cc
some-ok e (Some x) f y h = (x, refl, h)

-- the same where nothing is refused
pub then-some : {A B : Type 0} (o : Option A) (f : A → Option B) (y : B) → (o >>? f) ≡ Some y → (x : A) × (o ≡ Some x) × (f x ≡ Some y)
then-some None f y h = cc
then-some (Some x) f y h = (x, refl, h)

-- the test held
pub only_if-some : {A : Type 0} (test : Bool) (o : Option A) (x : A) → only_if test o ≡ Some x → (test ≡ true) × (o ≡ Some x)
only_if-some true o x h = (refl, h)
only_if-some false o x h = cc

-- an answer with its line is one without it
pub at_line-ok : {A E : Type 0} (line : ℕ) (r : Result A E) (x : A) → at_line line r ≡ Ok x → r ≡ Ok x
at_line-ok line (Ok y) x h = cc
at_line-ok line (Err e) x h = absurd cc
