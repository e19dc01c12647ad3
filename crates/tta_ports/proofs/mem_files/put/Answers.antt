use Rattle.std.proofs.Common.{rules}
use Rattle.tta_ports.proofs.Found.{store_of-found, store_of-missing}
use Rattle.tta_ports.proofs.mem_files.put.Goals as goal

pub returns-in-Some-clause-ok : goal.returns-in-Some-clause-ok
returns-in-Some-clause-ok c =
    store_of-found _ _ _ _ c.in-Some.at (search rules) (search rules) (search rules)

pub returns-in_ok-push-in-None-clause-ok : goal.returns-in_ok-push-in-None-clause-ok
returns-in_ok-push-in-None-clause-ok c =
    rw c.in_ok-push-in-None.ensures.items
    (store_of-missing _ record {
      name = c.in_ok-new.field-0;
      bytes = c.in_ok-from_slice.field-0;
    } _ _ (search rules) (search rules) (search rules))
