use Rattle.std.proofs.Common.{◌∷◌, get_or, ap, sym, ◌∙◌, subst}
use Rattle.std.proofs.lemmas.List.{length-map}
use Rattle.tta_tacrun.specs.Cited.{stated}
use Rattle.tta_tacrun.specs.Code.{said_proc}
use Rattle.tta_tacrun.specs.Flat.{said}
use Rattle.tta_tacrun.specs.Run.{HasSteps, goes_silent, is_path, is_placed}
use Rattle.tta_tacrun.proofs.Coded.{code_all, code_size, code_steps, not_silent}
use Rattle.tta_tacrun.proofs.Found.{found}
use Rattle.tta_tacrun.proofs.Stands.{silent_stands}
use Rattle.tta_tacrun.proofs.seq.Seq.run_silent.Goals as goal

pub run_silent-made-requires-clause-size : goal.run_silent-made-requires-clause-size
run_silent-made-requires-clause-size g c =
    let held = rw c.in-Running.is at c.self.view_is in
    let coded = rw (← held) at c.requires.loaded.code in
    let sizes = rw (← held) at c.requires.loaded.sizes in
    let proc = c.self.inside.calls.top.proc in
    let here = found c.args.p.now c.self.inside.code.items c.as_slice.result.now c.top.result.proc proc c.in-Some.flat.now coded c.as_slice.ensures.value c.top.ensures.proc c.in-Some.ensures in
    code_size c.args.p.now proc (said_proc c.in-Some.flat.now) here ∙ ap (λ sizes. get_or sizes proc 0) (sym sizes)

pub run_silent-made-requires-clause-rules : goal.run_silent-made-requires-clause-rules
run_silent-made-requires-clause-rules g c = c.rules.ensures

pub run_silent-made-requires-clause-silent : goal.run_silent-made-requires-clause-silent
run_silent-made-requires-clause-silent g c =
    let held = rw c.in-Running.is at c.self.view_is in
    let coded = rw (← held) at c.requires.loaded.code in
    let proc = c.self.inside.calls.top.proc in
    let here = found c.args.p.now c.self.inside.code.items c.as_slice.result.now c.top.result.proc proc c.in-Some.flat.now coded c.as_slice.ensures.value c.top.ensures.proc c.in-Some.ensures in
    code_steps c.args.p.now proc (said_proc c.in-Some.flat.now) here

pub run_silent-made-requires-clause-all : goal.run_silent-made-requires-clause-all
run_silent-made-requires-clause-all g c =
    let held = rw c.in-Running.is at c.self.view_is in
    let coded = rw (← held) at c.requires.loaded.code in
    let proc = c.self.inside.calls.top.proc in
    let flat = c.in-Some.flat.now in
    let here = found c.args.p.now c.self.inside.code.items c.as_slice.result.now c.top.result.proc proc flat coded c.as_slice.ensures.value c.top.ensures.proc c.in-Some.ensures in
    subst (HasSteps c.args.p.now proc) (length-map flat.steps.items (said flat.size)) (code_all c.args.p.now proc (said_proc flat) here)

pub run_silent-made-requires-clause-placed : goal.run_silent-made-requires-clause-placed
run_silent-made-requires-clause-placed g c =
    let held = rw c.in-Running.is at c.self.view_is in
    rw (← held) at c.requires.loaded.placed

pub returns-clause-loaded : goal.returns-clause-loaded
returns-clause-loaded g c =
    let p = c.args.p.now in
    let held = rw c.in-Running.is at c.self.view_is in
    let coded = rw (← held) at c.requires.loaded.code in
    let sizes = rw (← held) at c.requires.loaded.sizes in
    let path = rw (← held) at c.requires.loaded.path in
    let top = c.run_silent-made.ensures.top in
    rw c.in-Running.is (record {
      sizes = ap (λ calls. calls.sizes) top ∙ sizes;
      code = coded;
      path = ap (λ calls. is_path p (calls.top ∷ calls.below)) top ∙ path;
      placed = ap (λ calls. is_placed p (calls.top ∷ calls.below)) top ∙ c.run_silent-made.ensures.placed;
    })

pub returns-clause-stops : goal.returns-clause-stops
returns-clause-stops g c =
    let p = c.args.p.now in
    let held = rw c.in-Running.is at c.self.view_is in
    let coded = rw (← held) at c.requires.loaded.code in
    let proc = c.self.inside.calls.top.proc in
    let here = found p c.self.inside.code.items c.as_slice.result.now c.top.result.proc proc c.in-Some.flat.now coded c.as_slice.ensures.value c.top.ensures.proc c.in-Some.ensures in
    let to = c.run_silent-made.new.self.top.at in
    rw c.in-Running.is (λ few running.
    ap (λ calls. goes_silent p (calls.top ∷ calls.below)) c.run_silent-made.ensures.top
    ∙ not_silent p proc to (sym (code_steps p proc (said_proc c.in-Some.flat.now) here to) ∙ c.run_silent-made.ensures.stops few))

pub returns-clause-next : goal.returns-clause-next
returns-clause-next g c = λ s same.
    let U = stated (λ v. (goal.OpUnit-dyn g v).unit_meaning v.1) c.args.units.now in
    let held = rw c.in-Running.is at c.self.view_is in
    rw c.in-Running.is
    (silent_stands U c.args.p.now c.self.inside.calls c.run_silent-made.new.self _ c.self.inside.memory c.run_silent-made.new.memory c.self.inside.steps
    c.run_silent-made.result s (rw (← held) at same) (λ rest output. c.run_silent-made.ensures.made rest output c.self.inside.steps))
