-- Cycles of a stretch are cycles of the run.
use Rattle.std.proofs.Common.{◌≡◌, ◌≤◌, ℕ, zero, suc, Bool, true, false, if◌then◌else◌, not, refl, ap, ◌∙◌, arith}
use Rattle.tta_debug.specs.Cited.{iterate, State}
use Rattle.tta_debug.specs.Debugged.{Debugged, Went, is_running, is_waiting, moved, puts, rests, saying, cycles}
use Rattle.tta_debug.specs.Laws.{IsStretch}

-- one cycle first, or last
shifted : (next : State → State) (k : ℕ) (s : State) → iterate k next (next s) ≡ iterate (suc k) next s
shifted next zero s = refl
shifted next (suc k) s = ap next (shifted next k s)

-- a stretch that ends at a number of cycles
record Ended (next : State → State) (n : ℕ) (d : Debugged) (w : Went) : Type 0 where
  made : ℕ
  most : made ≤ n
  last : w.last ≡ moved d (iterate made next d.state)

first_of : (next : State → State) (stops : Debugged → Bool) (n : ℕ) (d : Debugged) (over waits stop : Bool)
    → Ended next n (moved d (next d.state)) (cycles next stops n (moved d (next d.state)))
    → Ended next (suc n) d (if not over then rests d false else if waits then rests d true
    else saying (puts d (next d.state)) (if stop then rests (moved d (next d.state)) false else cycles next stops n (moved d (next d.state))))
first_of next stops n d false waits stop rest = record { made = 0; most = omega arith; last = refl }
first_of next stops n d true true stop rest = record { made = 0; most = omega arith; last = refl }
first_of next stops n d true false true rest = record { made = 1; most = omega arith; last = refl }
first_of next stops n d true false false rest =
    let most = rest.most in
    record { made = suc rest.made; most = omega arith; last = rest.last ∙ ap (moved d) (shifted next rest.made d.state) }

ended : (next : State → State) (stops : Debugged → Bool) (n : ℕ) (d : Debugged) → Ended next n d (cycles next stops n d)
ended next stops zero d = record { made = 0; most = omega arith; last = refl }
ended next stops (suc n) d =
    let e = moved d (next d.state) in
    first_of next stops n d (is_running d.state.outcome) (is_waiting e.state.outcome) (stops e) (ended next stops n e)

-- a stretch ends where so many cycles lead
pub is_stretch : (next : State → State) (stops : Debugged → Bool) (n : ℕ) (d : Debugged) → IsStretch next stops n d
is_stretch next stops n d =
    let e = ended next stops n d in
    record { made = e.made; most = e.most; last = e.last }
