-- What the compiler makes of a pair that is no direct one: what it is, and why there is no code.
use Rattle.std.proofs.Common.{◌≡◌, ◌≤◌, Bool, true, false, List, None, Result, Ok, Err, refl, sym, ap, subst, ◌∙◌, length}
use Rattle.std.specs.Prelude.{IfOk, if◌then◌else◌, nat_lt}
use Rattle.std.proofs.lemmas.Result.{IfOk-at_ok}
use Rattle.tta_build.specs.Cited.{Units, Machine, IsMachine, StandsOver, Choice, IsChoice, failed_rule, Program, IsProgram, Homes, SlotsAsScanned, Code, IsLegalCode, Placed, selected, AreBlocks, total_length, IsLinked, IsCause, are_offered, is_direct}
use Rattle.tta_lower.specs.declared.error.LowerError.{LowerError}
use Rattle.tta_lower.specs.declared.error.LowerError.TheVariants.{FrameFull, NoMemory}
use Rattle.tta_build.specs.declared.error.BuildError.{BuildError}
use Rattle.tta_build.specs.Errors.{of_lower}
use Rattle.tta_build.specs.declared.register.Analysed.{Analysed}
use Rattle.tta_build.specs.declared.register.RegisterOrder.TheVariants.{LongestFree, Least}
use Rattle.tta_build.specs.declared.placed_program.Homed.{Homed}
use Rattle.tta_build.specs.declared.placed_program.Listed.{Listed}
use Rattle.tta_build.specs.declared.value.Assembled.{Assembled}
use Rattle.tta_build.specs.declared.value.Compiled.{Compiled}
use Rattle.tta_build.specs.Statement.{HasCause, unsupplied}
use Rattle.tta_build.specs.RegisterOrder.{AreHomesBy}
use Rattle.tta_build.specs.Lowered.{IsAnalysed}
use Rattle.tta_build.specs.Compiled.{AreNoLonger}
use Rattle.tta_build.specs.Compiled.{AreChosenFor}
use Rattle.tta_build.specs.Parts.{AreChosenWith}
use Rattle.tta_build.specs.Parts.{ArePlacedFor, IsCodeFor, IsLinkCause}
use Rattle.tta_build.specs.Value.{IsListedWith, IsHomedBest, gathered, IsAssembled, staged, IsDirectlyCompiled, IsCompiled, OneList, ManyLists}
use Rattle.tta_build.proofs.CoveredCode as covered
use Rattle.tta_build.proofs.WithHomes.{chosen_by}
use Rattle.tta_build.proofs.NoLonger.{chosen_no_longer, kept_no_longer, code_compiled, cause_compiled}

-- ---- lists with their placements

module _ (u : Units) (m : Machine) (c : Choice) (p : Program) (machine : IsMachine m) (over : StandsOver u m) (choice : IsChoice m c)
    (program : IsProgram p) (offers : are_offered u m c p ≡ true) (known : Analysed) (is_known : IsAnalysed p known) where
  -- the placements are chosen for the lists that are selected with these homes
  pub listed_chosen : (kept : Homes) (r : Listed) → SlotsAsScanned p (length c.homes) kept → IsListedWith kept u m c p known r
      → AreChosenWith kept u m c p r.planned.placed.items
  listed_chosen kept r allotted is = record {
    lists = selected m c u r.code;
    selected = covered.selected_with u m c p machine over choice program offers known kept m.frame_words r.code (selected m c u r.code)
        is_known allotted refl is.code refl;
    chosen = is.planned.chosen;
  }

  -- there are few
  pub few_placed : (kept : Homes) (r : Listed) → SlotsAsScanned p (length c.homes) kept → IsListedWith kept u m c p known r
      → length r.planned.placed.items ≤ 16777216
  few_placed kept r allotted is =
      covered.few_placed u m c p machine over choice program offers kept r.planned.placed.items (listed_chosen kept r allotted is)

  -- with home registers in turn they are no longer than plain ones
  pub in_turn : (kept : Homes) (r : Homed) → AreHomesBy LongestFree p c kept → r.homes ≡ kept → IsListedWith kept u m c p known r.listed
      → IsHomedBest u m c p known r
  in_turn kept r by same is = record {
    sharing = LongestFree;
    homes = subst (AreHomesBy LongestFree p c) (sym same) by;
    listed = subst (λ (h : Homes). IsListedWith h u m c p known r.listed) (sym same) is;
    short = chosen_no_longer u m c p r.listed.planned.placed.items
        (chosen_by u m c p LongestFree kept r.listed.planned.placed.items by (listed_chosen kept r.listed by.allotted is));
  }

  -- and so are the shorter of these and of those with the least free ones
  pub of_two : (kept : Homes) (first other r : Homed) → IsHomedBest u m c p known first → AreHomesBy Least p c kept → other.homes ≡ kept
      → IsListedWith kept u m c p known other.listed
      → r ≡ (if nat_lt (total_length other.listed.planned.placed.items) (total_length first.listed.planned.placed.items) then other else first)
      → IsHomedBest u m c p known r
  of_two kept first other r one by same is this =
      either (nat_lt (total_length other.listed.planned.placed.items) (total_length first.listed.planned.placed.items)) refl where
        short : AreNoLonger u m c p r.listed.planned.placed.items
        short = kept_no_longer u m c p (λ (h : Homed). h.listed.planned.placed.items) first other r one.short this

        either : (b : Bool) → nat_lt (total_length other.listed.planned.placed.items) (total_length first.listed.planned.placed.items) ≡ b
            → IsHomedBest u m c p known r
        either true e =
            let here : r ≡ other = this ∙ ap (λ (b : Bool). if b then other else first) e in
            record {
              sharing = Least;
              homes = subst (λ (h : Homed). AreHomesBy Least p c h.homes) (sym here) (subst (AreHomesBy Least p c) (sym same) by);
              listed = subst (λ (h : Homed). IsListedWith h.homes u m c p known h.listed) (sym here)
                  (subst (λ (h : Homes). IsListedWith h u m c p known other.listed) (sym same) is);
              short = short;
            }
        either false e =
            let here : r ≡ first = this ∙ ap (λ (b : Bool). if b then other else first) e in
            subst (IsHomedBest u m c p known) (sym here) one

  -- the placements that stay are chosen for the program
  best_chosen : (r : Homed) → IsHomedBest u m c p known r → AreChosenFor u m c p r.listed.planned.placed.items
  best_chosen r is = record {
    sharing = is.sharing;
    by = chosen_by u m c p is.sharing r.homes r.listed.planned.placed.items is.homes (listed_chosen r.homes r.listed is.homes.allotted is.listed);
    short = is.short;
  }

-- ---- the code that is linked from them

module _ (u : Units) (m : Machine) (c : Choice) (p : Program) (machine : IsMachine m) (over : StandsOver u m) (choice : IsChoice m c)
    (program : IsProgram p) (offers : are_offered u m c p ≡ true) (known : Analysed) (is_known : IsAnalysed p known)
    (r : Homed) (is : IsHomedBest u m c p known r) (ps : List Placed) (same : ps ≡ r.listed.planned.placed.items) where
  abbrev all : List Placed
  all = r.listed.planned.placed.items

  abbrev chosen : AreChosenFor u m c p all
  chosen = best_chosen u m c p machine over choice program offers known is_known r is

  abbrev placed : ArePlacedFor u m c p all
  placed = covered.placed_as_chosen u m c p machine over choice program offers all chosen

  -- they can be linked
  pub are_blocks : AreBlocks m ps
  are_blocks = covered.are_blocks u m c p all ps machine over choice program offers placed same

  -- with their link all parts are there
  pub parts : (code : Code) → IsLinked m code ps → IsAssembled u m c p (gathered known r code)
  parts code linked = record {
    known = is_known;
    sharing = is.sharing;
    homes = is.homes;
    code = is.listed.code;
    planned = is.listed.planned;
    short = is.short;
    linked = subst (IsLinked m code) same linked;
  }

  module _ (other : is_direct m p ≡ false) (kept : failed_rule m ≡ None) (supplied : unsupplied u m p ≡ None) where
    -- their link is code for the pair, and why none is linked is why there is none
    pub code_for : (code : Code) → IsLinked m code ps → IsLegalCode m code → IsCodeFor u m p code
    code_for code linked legal =
        let built : Result Code BuildError = Ok code in
        covered.ok_for u m c p all ps machine over choice program offers placed same other kept supplied built linked legal
        (code_compiled u m c p all ps choice other chosen same built linked)

    pub cause_for : (e : BuildError) → IsLinkCause m ps e → HasCause u m p e
    cause_for e cause =
        let built : Result Code BuildError = Err e in
        cause_compiled u m c p all ps choice other chosen same built cause
        (covered.err_for u m c p all ps machine over choice program offers placed same other kept supplied built cause)

-- why a program is not lowered is why there is none
pub lower_cause : (u : Units) (m : Machine) (p : Program) → is_direct m p ≡ false → failed_rule m ≡ None → unsupplied u m p ≡ None
    → (e : LowerError) → IsCause p m.frame_words e → HasCause u m p (of_lower e)
lower_cause u m p other kept supplied (FrameFull need have) cause =
    record { other = other; covered = kept; supplied = supplied; words = cause.0; there = cause.1; more = cause.2 }
lower_cause u m p other kept supplied NoMemory cause = tt

-- ---- with what is chosen on the machine

-- what is made for a pair is what the compiler makes of it
pub compiled_in_blocks : (u : Units) (m : Machine) (c : Choice) (p : Program) → is_direct m p ≡ false → IsChoice m c
    → (kept : Choice) (made : Assembled) (r : Result Assembled BuildError) → kept ≡ c → r ≡ Ok made → IfOk r (λ x. IsAssembled u m c p x) → IsCompiled u m p (staged kept made)
compiled_in_blocks u m c p other picked kept made r same is are =
    subst (λ (k : Choice). IsCompiled u m p (staged k made)) (sym same)
    (ManyLists (record {
      other = other;
      choice = c;
      chosen = picked;
      made = made;
      parts = IfOk-at_ok (λ (x : Assembled). IsAssembled u m c p x) is are;
      is = refl;
    }))

-- ---- what it has

-- its blocks and its liveness are the program's
pub compiled_known : (u : Units) (m : Machine) (p : Program) (r : Compiled) → IsCompiled u m p r → IsAnalysed p r.lowered.known
compiled_known u m p r (OneList is) = is.lowered.known
compiled_known u m p r (ManyLists is) = subst (λ (x : Compiled). IsAnalysed p x.lowered.known) (sym is.is) is.parts.known

-- its code is that of its placements, one after another
pub compiled_linked : (u : Units) (m : Machine) (p : Program) (r : Compiled) → IsCompiled u m p r → IsLinked m r.code r.planned.placed.items
compiled_linked u m p r (OneList is) = is.linked
compiled_linked u m p r (ManyLists is) = subst (λ (x : Compiled). IsLinked m x.code x.planned.placed.items) (sym is.is) is.parts.linked

-- whatever the units are, what is made of a direct pair is what the compiler makes of it
pub of_direct : (u : Units) (m : Machine) (p : Program) (r : Result Compiled BuildError) → IfOk r (λ s. IsDirectlyCompiled m p s) → IfOk r (λ s. IsCompiled u m p s)
of_direct u m p (Ok s) is = OneList is
of_direct u m p (Err e) is = tt

-- and its code is that of the pair
pub code_of_direct : (u : Units) (m : Machine) (p : Program) (r : Result Compiled BuildError) → IfOk r (λ s. (v : Units) → IsCodeFor v m p s.code)
    → IfOk r (λ s. IsCodeFor u m p s.code)
code_of_direct u m p (Ok s) is = is u
code_of_direct u m p (Err e) is = tt
