-- What is built of a converted program, and why it is not built.
use Rattle.std.proofs.Common.{true, sym, ◌∙◌, arith}
use Rattle.tta_build.specs.Cited.{Units, Machine, Program, IsProgram, Whole, Converted}
use Rattle.tta_build.proofs.ConvertedAgrees.{converted_agrees_holds}
use Rattle.tta_build.specs.declared.error.BuildError.{BuildError}
use Rattle.tta_build.specs.declared.error.BuildError.TheVariants.{NotCovered, NoUnit, FrameFull, CodeFull, NoMemory}
use Rattle.tta_build.specs.Statement.{IsAccepted, Direct, Covered, IsBuilt, HasCause}
use Rattle.tta_build.specs.Converted.{IsBuiltConverted, HasCauseWith}
use Rattle.tta_build.proofs.ConvertedNeeds.{unsupplied_converted, need_converted, room_converted}
use Rattle.tta_build.proofs.ConvertedDirect.{direct_converted}

module _ (u : Units) (m : Machine) (p q : Program) (rules : IsProgram p) (is : Converted p q) where
  accepted_so : IsAccepted u m q → IsAccepted u m p
  accepted_so (Direct direct) = Direct (sym (direct_converted m p q is) ∙ direct)
  accepted_so (Covered other kept supplied fits) =
      Covered (sym (direct_converted m p q is) ∙ other) kept (sym (unsupplied_converted u m p q rules is) ∙ supplied) (omega (arith, need_converted p q is, fits))

  pub built_so : (whole : Whole) → IsBuilt u m q whole → IsBuiltConverted u m p whole
  built_so whole b = record {
    accepted = accepted_so b.accepted;
    agrees = converted_agrees_holds u m p q whole is b.agrees;
    legal = b.legal;
    converted = q;
    is = is;
    packed = b.packed;
    room = omega (arith, b.room, room_converted m p q is);
    compiled = b.compiled;
    made = b.made;
  }

  pub cause_so : (e : BuildError) → HasCause u m q e → HasCauseWith true u m p e
  cause_so (NotCovered rule) c = record { other = sym (direct_converted m p q is) ∙ c.other; first = c.first }
  cause_so (NoUnit line) c = record { other = sym (direct_converted m p q is) ∙ c.other; covered = c.covered; first = sym (unsupplied_converted u m p q rules is) ∙ c.first }
  cause_so (FrameFull need have) c = record {
    other = sym (direct_converted m p q is) ∙ c.other;
    covered = c.covered;
    supplied = sym (unsupplied_converted u m p q rules is) ∙ c.supplied;
    words = c.words ∙ need_converted p q is;
    there = c.there;
    more = c.more;
  }
  cause_so (CodeFull words have) c = record {
    accepted = accepted_so c.accepted;
    addresses = c.addresses;
    more = c.more;
    room = omega (arith, c.room, room_converted m p q is);
    converted = q;
    is = is;
    length = c.length;
    compiled = c.compiled;
  }
  cause_so NoMemory c = tt
