-- Texts one past each limit: they are refused at the line past it, so all lines before it are read.
use Rattle.std.specs.Prelude.{◌≡◌, ℕ, ◌+◌, ◌/◌, ◌%◌, List, [], ◌∷◌, ◌++◌, map, replicate, Err, refl, codes}
use Rattle.std.proofs.Common.{lit<}
use Rattle.tta_machine.specs.Cited.{is_reserved, AreFree, Units, numbers}
use Rattle.tta_machine.specs.declared.refusal.Refusal.TheVariants.{Syntax, Range, Missing}
use Rattle.tta_machine.proofs.Readings.{read, read_with, distinct_from, arities_from}

-- the k-th of up to 256 names that begin with an N
abbrev name : ℕ → List ℕ
name k = 78 ∷ (65 + k / 16) ∷ (65 + k % 16) ∷ []

-- a number below 100 in two decimal digits
abbrev digits : ℕ → List ℕ
digits k = (48 + k / 10) ∷ (48 + k % 10) ∷ []

-- as many lines as n, each with a name of its own between these words
abbrev lines : (n : ℕ) → (front back : List ℕ) → List (List ℕ)
lines n front back = map (λ k. front ++ name k ++ back) (numbers n)

-- the lines of a bus and of a socket in each direction, on which the parts of these texts stand
abbrev start : List (List ℕ)
start = codes "bus B short 32 signed" ∷ codes "socket I in B" ∷ codes "socket O out B" ∷ []

buses-past_limit : read (lines 17 (codes "bus ") (codes " short 32 signed")) ≡ Err (17, Range)
unfolding read
buses-past_limit = refl

sockets-past_limit : read (start ++ lines 127 (codes "socket ") (codes " in B")) ≡ Err (130, Range)
unfolding read
sockets-past_limit = refl

files-past_limit : read (start ++ lines 9 (codes "file ") (codes " width 32 size 64 read 16 write 16 out O in I")) ≡ Err (12, Range)
unfolding read
files-past_limit = refl

imms-past_limit : read (start ++ lines 5 (codes "imm ") (codes " size 16 out O")) ≡ Err (8, Range)
unfolding read
imms-past_limit = refl

units-past_limit : read (start ++ lines 33 (codes "unit ") (codes " t I")) ≡ Err (36, Range)
unfolding read
units-past_limit = refl

-- one guard for each of 64 registers, and one guard more
abbrev guards : List (List ℕ)
guards = map (λ k. codes "guard B G." ++ digits k ++ codes " plain") (numbers 64)

-- the line of a file of 64 registers of one bit, on which guards stand
abbrev conditions : List ℕ
conditions = codes "file G width 1 size 64 read 1 write 1 out O in I"

guards-past_limit : read (start ++ conditions ∷ guards ++ codes "guard B G.0 inverted" ∷ []) ≡ Err (69, Range)
unfolding read
guards-past_limit = refl

templates-past_limit : read (start ++ codes "imm J size 1 out O" ∷ lines 9 (codes "template ") (codes " J.0 B")) ≡ Err (13, Range)
unfolding read
templates-past_limit = refl

-- no name of these operations is reserved
many_free : AreFree (map name (numbers 33))
unfolding is_reserved
many_free = refl

-- a unit with as many operations as it may have, of 33 that there are
abbrev many : Units
many = record {
  names = map name (numbers 33);
  arities = replicate 33 1;
  value = λ op a b. 0;
  word = λ op a b. lit< tt;
  ignores = λ op a b one. refl;
  distinct = distinct_from (map name (numbers 33)) refl;
  reserved = many_free;
  one_or_two = arities_from (replicate 33 1) refl;
  paired = refl;
  few = lit< tt;
}

ops-past_limit : read_with many (start ++ codes "unit U t I r O" ∷ lines 33 (codes "op U ") (codes " 16")) ≡ Err (37, Range)
unfolding read_with
ops-past_limit = refl

long_name-at_limit : read ((codes "bus " ++ replicate 64 65 ++ codes " short 1 signed") ∷ []) ≡ Err (0, Missing)
unfolding read
long_name-at_limit = refl

long_name-past_limit : read ((codes "bus " ++ replicate 65 65 ++ codes " short 1 signed") ∷ []) ≡ Err (1, Range)
unfolding read
long_name-past_limit = refl

delay-past_limit : read (start ++ codes "control delay 5 address 16 t I" ∷ []) ≡ Err (4, Range)
unfolding read
delay-past_limit = refl

address-past_limit : read (start ++ codes "control delay 4 address 17 t I ra O" ∷ []) ≡ Err (4, Range)
unfolding read
address-past_limit = refl

address-below_limit : read (start ++ codes "control delay 0 address 0 t I" ∷ []) ≡ Err (4, Range)
unfolding read
address-below_limit = refl

-- both at their greatest, and spaces too
control-at_limit : read (start ++ codes "control delay 4 address 16 t I ra O" ∷ codes "space data 1048576" ∷ codes "space frame 65536" ∷ codes "end" ∷ []) ≡ Err (7, Syntax)
unfolding read
control-at_limit = refl
