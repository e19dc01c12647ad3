-- A list that takes a word of the input and outputs it, placed on the machine of three buses with its halt in the first
-- cycle: what the law of blocks says of it, with a word and without.
use Rattle.std.proofs.Common.{◌≡◌, ℕ, zero, suc, ◌≤◌, true, false, List, [], ◌∷◌, Some, None, refl, subst, arith, lit≤, take}
use Rattle.std.specs.Prelude.{slice_get, ◌==◌}
use Rattle.std.proofs.lemmas.Bool.Decides.{nat_tests}
use Rattle.tta_sched_laws.specs.Cited.{iterate, Units, can_move, IsMachine, Place, kept, Code, is_legal, State, start, next, Port, Item, Bus, PlacedItem, Placed, BlockList, Held, does, lacks, do_items, begin, fits_cycle, least, in_cycle, block_words, HoldsBlock}
use Rattle.tta_arch.specs.declared.ends.Source.TheVariants as source
use Rattle.tta_arch.specs.declared.ends.Dest.TheVariants as dest
use Rattle.tta_arch.proofs.Samples.{with_input}
use Rattle.tta_moves.specs.declared.items.Item.TheVariants.{Move}
use Rattle.tta_sched_laws.specs.Overlap.{word_in, Covers, Holds, Stops, IsPlaced, AreLegal, MeansWithMore, Overlaps}
use Rattle.tta_moves.proofs.FirstFitLaws.{nothing_fits}
use Rattle.tta_sched_laws.proofs.Theorem.{overlaps}

abbrev at : Item → ℕ → ℕ → PlacedItem
at i cycle bus = record { item = i; cycle = cycle; slot = Bus bus }

abbrev takes_word : Item
takes_word = Move None (Port (source.Value 0)) (dest.Trigger 3 1)

abbrev keeps_word : Item
keeps_word = Move None (Port (source.Shown 3)) (dest.Reg 0 3)

abbrev puts_word : Item
puts_word = Move None (Port (source.Reg 0 3)) (dest.Trigger 3 0)

abbrev halts : Item
halts = Move None (Port (source.Value 0)) dest.Halt

abbrev list : BlockList
list = record { items = takes_word ∷ keeps_word ∷ puts_word ∷ halts ∷ []; live_out = [] }

abbrev placed : Placed
placed = record { items = at takes_word 0 0 ∷ at keeps_word 1 0 ∷ at puts_word 2 0 ∷ at halts 0 1 ∷ []; length = 3 }

abbrev addr : List ℕ
addr = 0 ∷ 3 ∷ []

abbrev code : Code
code = record { words = block_words with_input addr placed }

bounds : (k : ℕ) (x : PlacedItem) → slice_get placed.items k ≡ Some x → least with_input (take k placed.items) x.item ≤ x.cycle
bounds zero x e = let s : at takes_word 0 0 ≡ x = cc in subst (λ (y : PlacedItem). least with_input [] y.item ≤ y.cycle) s (lit≤ tt)
bounds (suc zero) x e = let s : at keeps_word 1 0 ≡ x = cc in subst (λ (y : PlacedItem). least with_input (take 1 placed.items) y.item ≤ y.cycle) s (lit≤ tt)
bounds (suc (suc zero)) x e = let s : at puts_word 2 0 ≡ x = cc in subst (λ (y : PlacedItem). least with_input (take 2 placed.items) y.item ≤ y.cycle) s (lit≤ tt)
bounds (suc (suc (suc zero))) x e = let s : at halts 0 1 ≡ x = cc in subst (λ (y : PlacedItem). least with_input (take 3 placed.items) y.item ≤ y.cycle) s (lit≤ tt)
bounds (suc (suc (suc (suc k)))) x e = absurd cc

cycles : (c : ℕ) → fits_cycle with_input (in_cycle c placed.items) ≡ true
unfolding fits_cycle can_move
cycles zero = refl
cycles (suc zero) = refl
cycles (suc (suc zero)) = refl
cycles (suc (suc (suc c))) =
    let a : (0 == suc (suc (suc c))) ≡ false = grind (arith, nat_tests) in
    let b : (1 == suc (suc (suc c))) ≡ false = grind (arith, nat_tests) in
    let d : (2 == suc (suc (suc c))) ≡ false = grind (arith, nat_tests) in
    rw (a, b, d) (nothing_fits with_input)

is_placed : IsPlaced with_input code addr 0 list placed
is_placed = record {
  closed = refl;
  respects = record { order = refl; bounds = bounds; cycles = cycles; long = refl };
  holds = holds;
} where
  holds : HoldsBlock with_input code addr 0 placed
  holds zero lt = refl
  holds (suc zero) lt = refl
  holds (suc (suc zero)) lt = refl
  holds (suc (suc (suc c))) lt = absurd (omega arith)

legal : AreLegal with_input code
unfolding is_legal can_move
legal = (refl, (refl, (refl, tt)))

abbrev first : List ℕ → State
first input = start with_input [] input

abbrev held : List ℕ → Held
held input = begin with_input [] input

holds_first : (input : List ℕ) → Holds (first input) (held input)
holds_first input = record { places = places; memory = refl; frame = refl; rest = refl; output = refl; pending = refl; settled = refl } where
  places : (x : Place) → Covers (word_in (first input) x) (kept (held input).written x)
  places x w e = absurd cc

with_word : (u : Units) → MeansWithMore u with_input addr 3 list (held (9 ∷ []))
unfolding does lacks
with_word u ws = refl

without : (u : Units) → MeansWithMore u with_input addr 3 list (held [])
unfolding does lacks
without u [] = refl
without u (w ∷ ws) = refl

-- with a word the block takes three cycles and outputs it
both : (u : Units) → IsMachine with_input → Overlaps u with_input code addr 3 list placed (held (9 ∷ [])) (first (9 ∷ []))
both u rules = overlaps u with_input rules code legal addr 3 list placed (first (9 ∷ [])) (held (9 ∷ [])) is_placed (with_word u) refl refl refl (holds_first (9 ∷ []))

puts_it : (u : Units) → IsMachine with_input → (iterate 3 (next u with_input code) (first (9 ∷ []))).output ≡ 9 ∷ []
unfolding does
puts_it u rules = ((both u rules).ends refl).holds.output

-- without one it waits in its first cycle
neither : (u : Units) → IsMachine with_input → Overlaps u with_input code addr 3 list placed (held []) (first [])
neither u rules = overlaps u with_input rules code legal addr 3 list placed (first []) (held []) is_placed (without u) refl refl refl (holds_first [])

stops_at : (u : Units) → IsMachine with_input → Stops u with_input code addr 3 placed (held []) (first []) (do_items u with_input addr 3 (held []) list.items)
unfolding does
stops_at u rules = (neither u rules).stops refl
