-- Programs that are made of a number, to be run and compared.
use Rattle.std.specs.Prelude.{ℕ, zero, suc, ◌+◌, ◌*◌, ◌/◌, ◌%◌, ◌^◌, ◌==◌, ◌||◌, if◌then◌else◌, List, [], ◌++◌, codes, decimal}

-- the number after another
abbrev pub next_number : ℕ → ℕ
next_number x = (x * 1664525 + 1013904223) % 2 ^ 32

-- what a number draws: the kind of a line, four variables, and a constant
abbrev pub kind_of : ℕ → ℕ
kind_of x = x / 2 ^ 28

abbrev pub first_of : ℕ → ℕ
first_of x = x / 2 ^ 24 % 8

abbrev pub second_of : ℕ → ℕ
second_of x = x / 2 ^ 20 % 8

abbrev pub assigned_of : ℕ → ℕ
assigned_of x = x / 2 ^ 16 % 8

abbrev pub copied_of : ℕ → ℕ
copied_of x = x / 2 ^ 12 % 8

abbrev pub constant_of : ℕ → ℕ
constant_of x = x % 64

-- a variable of this number
abbrev pub var : ℕ → List ℕ
var n = codes "v" ++ decimal n

-- an operation's variable, its name and its first operand
abbrev pub first_part : (name : List ℕ) → ℕ → List ℕ
first_part name x = var (assigned_of x) ++ codes " = " ++ name ++ codes " " ++ var (first_of x) ++ codes " "

-- an operation of two variables
abbrev pub of_two : (name : List ℕ) → ℕ → List ℕ
of_two name x = first_part name x ++ var (second_of x) ++ codes "\n"

-- an operation of a variable and a constant
abbrev pub of_one : (name : List ℕ) → ℕ → List ℕ
of_one name x = first_part name x ++ decimal (constant_of x) ++ codes "\n"

-- a variable is output
abbrev pub put_out : ℕ → List ℕ
put_out a = codes "out " ++ var a ++ codes "\n"

-- a constant is copied
abbrev pub copy_constant : ℕ → List ℕ
copy_constant x = var (assigned_of x) ++ codes " = " ++ decimal (constant_of x) ++ codes "\n"

-- a data word is loaded
abbrev pub load : ℕ → List ℕ
load x = var (assigned_of x) ++ codes " = load " ++ decimal (constant_of x) ++ codes "\n"

-- a data word is stored
abbrev pub store : ℕ → List ℕ
store x = codes "store " ++ decimal (constant_of x) ++ codes " " ++ var (first_of x) ++ codes "\n"

-- a variable is copied where one is below another
abbrev pub when : ℕ → List ℕ
when x =
    codes "when ltu " ++ var (first_of x) ++ codes " " ++ var (second_of x) ++ codes " " ++ var (assigned_of x)
    ++ codes " = " ++ var (copied_of x) ++ codes "\n"

-- a variable is one more, but where one is less than another
abbrev pub skipped : (k x : ℕ) → List ℕ
skipped k x =
    codes "if lt " ++ var (first_of x) ++ codes " " ++ var (second_of x) ++ codes " goto L" ++ decimal k ++ codes "\n"
    ++ var (assigned_of x) ++ codes " = add " ++ var (assigned_of x) ++ codes " 1\nL" ++ decimal k ++ codes ":\n"

-- the lines of the kinds from 10 on
abbrev pub late_line : (n x : ℕ) → List ℕ
late_line n x =
    if n == 10 || n == 11 then of_two (codes "mul") x
    else if n == 12 then of_one (codes "add") x
    else if n == 13 then put_out (assigned_of x)
    else if n == 14 then of_two (codes "add") x
    else of_one (codes "xor") x

-- the lines of the kinds from 5 on
abbrev pub middle_line : (n k x : ℕ) → List ℕ
middle_line n k x =
    if n == 5 then load x
    else if n == 6 then store x
    else if n == 7 then put_out (first_of x)
    else if n == 8 then when x
    else if n == 9 then skipped k x
    else late_line n x

-- what the k-th line of the body is, by its kind
abbrev pub kind_line : (n k x : ℕ) → List ℕ
kind_line n k x =
    if n == 0 then of_two (codes "add") x
    else if n == 1 then of_two (codes "sub") x
    else if n == 2 then of_two (codes "xor") x
    else if n == 3 then of_two (codes "and") x
    else if n == 4 then copy_constant x
    else middle_line n k x

-- the k-th line of the body, by the number that was drawn
abbrev pub body_line : (k x : ℕ) → List ℕ
body_line k x = kind_line (kind_of x) k x

-- so many lines of the body, from the k-th on, after a number
abbrev pub body : (k x count : ℕ) → List ℕ
body k x zero = []
body k x (suc n) = body_line k (next_number x) ++ body (k + 1) (next_number x) n

-- what stands before the body
abbrev pub head : List ℕ
head = codes "proc main\nv0 = 1\nv1 = 2\nv2 = 3\nv3 = 4\nv4 = 5\nv5 = 6\nv6 = 7\nv7 = 8\nn = 16\nT:\n"

-- what stands after it
abbrev pub tail : List ℕ
tail = codes "n = sub n 1\nif ne n 0 goto T\nout v0\nout v1\nout v2\nout v3\nout v4\nout v5\nout v6\nout v7\nhalt\nend\n"

-- the program of a seed with a body of so many lines
abbrev pub sample_text : (seed lines : ℕ) → List ℕ
sample_text seed lines = head ++ body 0 seed lines ++ tail
