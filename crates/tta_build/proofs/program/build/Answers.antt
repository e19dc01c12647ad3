use Rattle.std.proofs.Common.{refl}
use Rattle.tta_build.proofs.Inside.{all_inside}
use Rattle.tta_build.proofs.program.build.Goals as goal

pub returns-clause-built : goal.returns-clause-built
returns-clause-built g c =
    let code = c.in_ok-code.ensures.code in
    let init = c.in_ok-init.ensures in record {
      accepted = code.accepted;
      agrees = code.agrees c.in_ok-init.init init.laid;
      packed = code.packed;
      room = code.room;
      compiled = code.compiled;
      made = record { value = c.in_ok-code.field-0; is = c.in_ok-code.ensures.value; same = refl };
      legal = record {
        code = code.legal;
        rises = init.rises;
        fits = init.fits c.args.m.now.data_words (all_inside c.args.m.now.data_words c.args.p.now.init c.requires.inside);
      };
    }
