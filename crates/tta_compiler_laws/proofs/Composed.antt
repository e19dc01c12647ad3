-- What the parts prove of their own, one after another.
use Rattle.std.proofs.Common.{◌≡◌, ◌≢◌, ◌<◌, ◌^◌, ℕ, suc, ◌+◌, true, List, [], ◌∷◌, ◌++◌, refl, sym, ap, subst, arith, ◌∙◌, length, map}
use Rattle.std.specs.Prelude.{nat_lt}
use Rattle.std.specs.List.{list_all, AllByRecursion}
use Rattle.std.proofs.lemmas.Bool.{and_parts}
use Rattle.std.proofs.lemmas.Bool.Decides.{nat_tests}
use Rattle.tta_compiler_laws.specs.Cited.{Units, Machine, Choice, DataLine, Program, datum_of, is_datum, Outcome, BlockList, AllPairs, AreAddresses, lrun, StandsFor, Part, RBlock, Rir, LoweringInput, parts, block_of, lowered, is_closed_block, is_running, rrun, IsRegisterCode, fits_block, word_block, as_legs, IsFit, IsGiven, MeanAt, IsKnown}
use Rattle.tta_program.specs.Sequential as program
use Rattle.tta_list.specs.Legs as legs
use Rattle.tta_optim.proofs.RunsKept.{keeps_runs}
use Rattle.tta_optim.proofs.NoMore.{optimise_bypassed, optimise_shared, optimise_lively}
use Rattle.tta_optim.proofs.StandIns.{stands_itself, stand_in_next, optimised_stands}
use Rattle.tta_lower.specs.Keeps as lower
use Rattle.tta_lower.proofs.Lowering.{lowers_well}
use Rattle.tta_select.specs.Keeps as select
use Rattle.tta_select.proofs.Selecting.{selects}
use Rattle.tta_compiler_laws.specs.Compiler.{IsPair, AreStandIns, optimised, raw}
use Rattle.tta_compiler_laws.specs.Laws.{ListsMean, SelectedStand, OptimisedStand}
use Rattle.tta_compiler_laws.proofs.Offered.{part_steps, part_exit}
use Rattle.tta_compiler_laws.proofs.Fitting.{block_fits, block_short}
use Rattle.tta_compiler_laws.proofs.Words.{steps_words, exit_words}

-- ---- the passes

-- what the passes make of a stand-in stands in too, and is in all forms
pub optimised_stand : OptimisedStand
optimised_stand m b other f = (
  stand_in_next m b other (optimised m other) f (optimised_stands m other),
  record {
    bypassed = optimise_bypassed m other.live_out other.items;
    shared = optimise_shared m other.live_out other.items;
    lively = optimise_lively m other.live_out other.items;
  },
)

pub selected_stand : SelectedStand
selected_stand m [] = tt
selected_stand m (b ∷ lists) = (stands_itself m b, selected_stand m lists)

-- lists that may be placed for others stand for them
pub stand_for : (m : Machine) (lists others : List BlockList) → AreStandIns m lists others → AllPairs (StandsFor m) lists others
stand_for m [] [] all = tt
stand_for m [] (o ∷ others) all = absurd all
stand_for m (b ∷ lists) [] all = absurd all
stand_for m (b ∷ lists) (o ∷ others) all = (all.0.stands, stand_for m lists others all.1)

pub pairs_length : {A B : Type 0} (P : A → B → Type 0) (xs : List A) (ys : List B) → AllPairs P xs ys → length ys ≡ length xs
pairs_length P [] [] all = refl
pairs_length P [] (y ∷ ys) all = absurd all
pairs_length P (x ∷ xs) [] all = absurd all
pairs_length P (x ∷ xs) (y ∷ ys) all = ap suc (pairs_length P xs ys all.1)

-- ---- outcomes

never : (o : Outcome) → as_legs o ≡ legs.Undefined → ⊥
never program.Running e = cc
never program.Halted e = cc
never program.Waiting e = cc

halted_from : (o : Outcome) → as_legs o ≡ legs.Halted → o ≡ program.Halted
halted_from program.Running e = absurd cc
halted_from program.Halted e = refl
halted_from program.Waiting e = absurd cc

waiting_from : (o : Outcome) → as_legs o ≡ legs.Waiting → o ≡ program.Waiting
waiting_from program.Running e = absurd cc
waiting_from program.Halted e = absurd cc
waiting_from program.Waiting e = refl

-- ---- lists that run as register code with a program's meaning mean the program

module _ (u : Units) (m : Machine) (p : Program) (r : Rir) (lists : List BlockList) (addr memory input : List ℕ) (keeps : lower.KeepsMeaning u p r)
    (runs : (n : ℕ) → select.EndAlike (rrun u r memory input n) (lrun u m lists addr memory input n)) where
  pub mean_of : MeanAt u m p lists addr memory input
  mean_of = record {
    sound = λ n e. never (rrun u r memory input n).outcome (sym (runs n).outcome ∙ e);
    halts = λ n h.
        let k = keeps.ends memory input n (ap is_running h) in
        let s = runs (n + 1) in
        record { program = h; lists = s.outcome ∙ ap as_legs (k.outcome ∙ h); memory = s.memory ∙ k.memory; output = s.output ∙ k.output; rest = s.rest ∙ k.rest };
    waits = λ n h.
        let k = keeps.ends memory input n (ap is_running h) in
        let s = runs (n + 1) in
        record { program = h; lists = s.outcome ∙ ap as_legs (k.outcome ∙ h); output = s.output ∙ k.output; rest = s.rest ∙ k.rest };
    halts_only = λ n h.
        let s = runs n in
        let o = halted_from (rrun u r memory input n).outcome (sym s.outcome ∙ h) in
        let k = keeps.ends_only memory input n (ap is_running o) in
        record { program = sym k.outcome ∙ o; lists = h; memory = s.memory ∙ k.memory; output = s.output ∙ k.output; rest = s.rest ∙ k.rest };
    waits_only = λ n h.
        let s = runs n in
        let o = waiting_from (rrun u r memory input n).outcome (sym s.outcome ∙ h) in
        let k = keeps.ends_only memory input n (ap is_running o) in
        record { program = sym k.outcome ∙ o; lists = h; output = s.output ∙ k.output; rest = s.rest ∙ k.rest };
    output = λ n. let k = keeps.output memory input n in (k.0, (runs (n + 1)).output ∙ k.1);
    output_only = λ n. let k = keeps.output_only memory input n in (k.0, k.1 ∙ ap (λ (o : List ℕ). o ++ k.0) (sym (runs n).output));
  }

-- ---- all together

module _ (u : Units) (m : Machine) (c : Choice) (p : Program) (known : LoweringInput)
    (pair : IsPair u m c p) (is_known : IsKnown p (length c.homes) known) where
  abbrev pub code : Rir
  code = lowered p known (length c.homes)

  pub law : IsRegisterCode u p known (length c.homes) m.frame_words
  law = lowers_well u p known (length c.homes) m.frame_words pair.program is_known.flow is_known.apart is_known.answers

  parts_fit : (n : ℕ) (xs : List Part)
      → list_all (is_closed_block (length c.homes) m.frame_words n) (map (block_of p known (length c.homes)) xs) ≡ true
      → list_all (fits_block u m c n) (map (block_of p known (length c.homes)) xs) ≡ true
  parts_fit n [] e = refl
  parts_fit n (x ∷ xs) e =
      let b : RBlock = block_of p known (length c.homes) x in
      let halves = and_parts (is_closed_block (length c.homes) m.frame_words n b)
      (list_all (is_closed_block (length c.homes) m.frame_words n) (map (block_of p known (length c.homes)) xs)) e in
      let one : fits_block u m c n b ≡ true = block_fits m c u n b halves.0
      (part_steps u m c p known (length c.homes) pair.offered x)
      (part_exit u m c p known (length c.homes) pair.offered x) in
      rw (one, parts_fit n xs halves.1) refl

  parts_words : (n : ℕ) (xs : List Part)
      → list_all (is_closed_block (length c.homes) m.frame_words n) (map (block_of p known (length c.homes)) xs) ≡ true
      → list_all word_block (map (block_of p known (length c.homes)) xs) ≡ true
  parts_words n [] e = refl
  parts_words n (x ∷ xs) e =
      let b : RBlock = block_of p known (length c.homes) x in
      let halves = and_parts (is_closed_block (length c.homes) m.frame_words n b)
      (list_all (is_closed_block (length c.homes) m.frame_words n) (map (block_of p known (length c.homes)) xs)) e in
      let one : word_block b ≡ true = rw (
        steps_words p known pair.program (length c.homes) x,
        exit_words p known pair.program (length c.homes) x,
        block_short m c n b halves.0,
      ) refl in
      rw (one, parts_words n xs halves.1) refl

  pub fit : IsFit u m c code
  fit = record {
    blocks = parts_fit (length code.blocks) (parts p known.blocks known.first) (law.closed pair.room).blocks;
    words = parts_words (length code.blocks) (parts p known.blocks known.first) (law.closed pair.room).blocks;
    sound = law.keeps.meaning;
  }

  -- selection is given what it asks for
  pub given : IsGiven u m c code
  given = record { machine = pair.machine; over = pair.over; choice = pair.choice; code = fit }

  -- the selected lists run as the register code
  pub raw_keeps : select.KeepsMeaning u m code (raw u m c p known)
  raw_keeps = (selects u m c code given).keeps

  module _ (lists : List BlockList) (stand : AllPairs (StandsFor m) (raw u m c p known) lists)
      (addr memory input : List ℕ) (are : AreAddresses addr (length lists)) where
    are_raw : AreAddresses addr (length (raw u m c p known))
    are_raw = subst (AreAddresses addr) (pairs_length (StandsFor m) (raw u m c p known) lists stand) are

    -- the lists run as the register code
    runs : (n : ℕ) → select.EndAlike (rrun u code memory input n) (lrun u m lists addr memory input n)
    runs n =
        let a = raw_keeps addr are_raw memory input n in
        let defined : (lrun u m (raw u m c p known) addr memory input n).outcome ≢ legs.Undefined =
        λ e. never (rrun u code memory input n).outcome (sym a.outcome ∙ e) in
        let b = keeps_runs u m (raw u m c p known) lists addr memory input n stand defined in
        record { outcome = b.outcome ∙ a.outcome; memory = b.memory ∙ a.memory; rest = b.rest ∙ a.rest; output = b.output ∙ a.output }

    mean : MeanAt u m p lists addr memory input
    mean = mean_of u m p code lists addr memory input law.keeps runs

pub lists_mean : ListsMean
lists_mean u m c p known lists pair is_known stand addr memory input are given =
    mean u m c p known pair is_known lists stand addr memory input are

-- ---- the code

pub data_words : (init : List DataLine) → list_all is_datum init ≡ true → AllByRecursion (λ d. d.1 < 2 ^ 32) (map datum_of init)
data_words [] e = tt
data_words (d ∷ init) e =
    let halves = and_parts (is_datum d) (list_all is_datum init) e in
    let value = (and_parts (nat_lt d.address (2 ^ 32)) (nat_lt d.value (2 ^ 32)) halves.0).1 in
    (grind (arith, nat_tests), data_words init halves.1)
