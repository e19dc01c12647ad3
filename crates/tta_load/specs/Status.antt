-- The number of each ending.
use Rattle.std.specs.Prelude.{ℕ}
use Rattle.tta_load.specs.declared.status.Status.{Status}
use Rattle.tta_load.specs.declared.status.Status.TheVariants as status

-- the number with which the program ends
abbrev pub number_of : Status → ℕ
number_of status.Ok = 0
number_of status.Usage = 1
number_of (status.BadMachine line code) = 2
number_of (status.BadProgram line code) = 3
number_of (status.NotCovered rule) = 4
number_of (status.NoUnit line) = 5
number_of (status.FrameFull need have) = 6
number_of (status.CodeFull words have) = 7
number_of (status.BadImage code word bus) = 8
number_of (status.BadAsm line code) = 9
number_of (status.BadInput line) = 10
number_of (status.MachineFault code cycle) = 11
number_of status.Running = 12
number_of (status.ReadFault word) = 13
number_of status.WriteFault = 14
number_of (status.TooLong word) = 15
number_of status.NoMemory = 16
number_of (status.DataRange line have) = 17
number_of (status.BadStream line) = 18
number_of status.Waiting = 19
number_of (status.Unsafe code word) = 20
number_of (status.BadLinks line code) = 21
number_of (status.BadCore word code) = 22
