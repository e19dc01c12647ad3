-- What a circuit that tells the first fault keeps: the registers that it has more than one that does not.
use Rattle.std.specs.Prelude.{◌-◌, ◌^◌, List, [], ◌∷◌, ◌++◌, length, map}
use Rattle.std.specs.List.{flat_map, enumerate_from}
use Rattle.tta_trap.specs.Cited.{Const, Signal, Select, Not, Both, Either, Equal, Below, Register, Machine, KeptReg, KeptImm, KeptOperand, KeptRa, KeptPort, Place, numbers, Store, Pc, IsReset, GoalNow, EndsNow, Lands, Goes, Watch, HasWord, IsPast, Watches, Expression, any_of, never, reached, begins, is_coming, longs}
use Rattle.tta_arch.specs.declared.ends.Dest.TheVariants as dest
use Rattle.tta_hardware.specs.Signals.{Signal as Named}

-- whether a place gets a word in this cycle
abbrev pub gets : Machine → Place → Expression
gets m (KeptReg file index) = reached m (dest.Reg file index)
gets m (KeptImm unit index) = any_of (map (λ c. c.0) (longs m unit index))
gets m (KeptOperand unit) = reached m (dest.Operand unit)
gets m KeptRa = reached m dest.Call
gets m (KeptPort unit) = Either (begins m unit 1) (is_coming m unit 1)

-- Whether a place has a word from now on: it has had one, or gets one in this cycle. A result port has one once a result has shown.
abbrev pub has_next : Machine → Place → Expression
has_next m p = Either (gets m p) (Signal (Watches (HasWord p)))

-- Whether an address is past all that have the width of addresses. It is compared as a whole, since words of the input may be of any size.
abbrev pub is_far : Machine → Expression
is_far m = Not (Below (Signal GoalNow) (Const 32 (2 ^ m.control.address)))

-- Whether the next address is past all that have the width of addresses: it is where a control move leads to, or the next one.
abbrev pub past_next : Machine → Expression
past_next m =
    Select (Both (Signal Lands) (Not (Signal EndsNow))) (is_far m)
    (Equal (Signal Pc) (Const m.control.address (2 ^ m.control.address - 1)))

-- what each of these registers becomes at a clock that carries an instruction out
abbrev pub watch_next : Machine → Watch → Expression
watch_next m (HasWord p) = has_next m p
watch_next m IsPast = past_next m
watch_next m w = never

-- such a register, which begins with 0
abbrev pub watch_register : Machine → Watch → Register Named Store
watch_register m w = record {
  name = Watches w;
  width = 1;
  enable = Either (Signal IsReset) (Signal Goes);
  next = Select (Signal IsReset) never (watch_next m w);
}

-- all places of a machine, in the order of its registers
abbrev pub places : Machine → List Place
places m =
    flat_map (λ f. map (KeptReg f.0) (numbers f.1.size)) (enumerate_from 0 m.files)
    ++ flat_map (λ i. map (KeptImm i.0) (numbers i.1.size)) (enumerate_from 0 m.imms)
    ++ flat_map (λ unit. KeptOperand unit ∷ KeptPort unit ∷ []) (numbers (length m.units)) ++ KeptRa ∷ []

-- all of these registers
abbrev pub watch_registers : Machine → List Watch
watch_registers m = map HasWord (places m) ++ IsPast ∷ []
