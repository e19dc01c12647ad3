use Rattle.std.proofs.Common.{◌≡◌, ◌<◌, ◌≤◌, length, get_or, rules}
use Rattle.tta_tac.proofs.SecondPass.{params_there, params_missing}
use Rattle.tta_tac.proofs.link.params_of.Goals as goal

pub returns-in-Some : goal.returns-in-Some
returns-in-Some c =
    let below : c.args.place < length c.args.procs.now = search rules in
    let is : c.in-Some.proc.now ≡ get_or c.args.procs.now c.args.place c.in-Some.proc.now = search rules in
    params_there c.args.procs.now c.args.place c.in-Some.proc.now below is

pub returns-in-None : goal.returns-in-None
returns-in-None c =
    let past : length c.args.procs.now ≤ c.args.place = search rules in
    params_missing c.args.procs.now c.args.place past
