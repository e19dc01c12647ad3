use Rattle.std.proofs.Common.{◌≡◌, ℕ, None, arith, length-append, ap, ◌∙◌, Vec, Global}
use Rattle.tta_parse.specs.Names.{named_in}
use Rattle.tta_parse.proofs.Declared.{named, named-new}
use Rattle.tta_parse.proofs.Found.{named_in-new, named_in-others}
use Rattle.tta_parse.proofs.names.Names.add.Goals as goal

-- the key is new, so it goes last
pub returns-clause-ok : goal.returns-clause-ok
returns-clause-ok g c =
    let bytes = λ (k : Vec ℕ Global). k.items in
    let key = c.in_ok-key.key in
    let m = c.self.inside.by_name in
    let none : named_in (named bytes m.entries) key.items ≡ None = rw (c.self.view_is, c.in_ok-key.ensures.items) c.requires in
    let new = named-new bytes m key c.args.place c.insert.new.self.entries c.in_ok-insert.ensures.entries none in
    rw (c.self.view_is, c.in_ok-key.ensures.items) at new

pub returns-clause-found : goal.returns-clause-found
returns-clause-found g c =
    ap (λ names. named_in names c.args.name.now) (returns-clause-ok g c)
    ∙ named_in-new c.args.name.now c.args.place c.args.self.now c.requires

pub returns-clause-others : goal.returns-clause-others
returns-clause-others g c =
    λ other differs. ap (λ names. named_in names other) (returns-clause-ok g c)
    ∙ named_in-others c.args.name.now c.args.place other differs c.args.self.now

pub returns-clause-len : goal.returns-clause-len
returns-clause-len g c = rw (returns-clause-ok g c) (rw length-append (omega arith))
