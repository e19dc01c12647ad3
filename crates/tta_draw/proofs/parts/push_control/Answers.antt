use Rattle.std.proofs.Common.{◌≡◌, ℕ, ◌+◌, ◌++◌, Option, ap, subst, ◌∙◌}
use Rattle.std.specs.Prelude.{codes, OnOk}
use Rattle.tta_draw.specs.Cited.{Machine}
use Rattle.tta_draw.specs.MachineWidths.{control_width, port_width}
use Rattle.tta_draw.specs.MachinePicture.{control_text, part_text, told_text, port_text, port_if_text}
use Rattle.tta_draw.proofs.parts.push_control.Goals as goal
use Rattle.tta_list.proofs.Lists.{then_more}
use Rattle.tta_list.proofs.Results.{onward}

pub returns : goal.returns
unfolding control_text
returns c =
    let m = c.args.m.now in
    let left = c.args.left in
    let delay = told_text m left 1 (codes "delay ") m.control.delay in
    let address = told_text m left 2 (codes "address bits ") m.control.address in
    let trigger = port_text m (left + 60) (codes "t") m.control.trigger in
    let back = port_if_text m (left + 60 + port_width m m.control.trigger) (codes "ra") m.control.ra in
    let first = subst (λ (n : ℕ). c.push_part.new.out.items ≡ c.args.out.now.items ++ part_text m left n 2 (codes "gcu"))
    c.control_width.ensures.all c.in_ok-push_part.ensures in
    let second = subst (λ (n : ℕ). c.push_told.new.out.items ≡ c.push_part.new.out.items ++ told_text m left 1 (codes "delay ") n)
    (ap (λ (x : Machine). x.control.delay) c.m.view_is) c.in_ok-push_told.ensures in
    let third = subst (λ (n : ℕ). c.push_told-2.new.out.items ≡ c.push_told.new.out.items ++ told_text m left 2 (codes "address bits ") n)
    (ap (λ (x : Machine). x.control.address) c.m.view_is) c.in_ok-push_told-2.ensures in
    let fourth = subst (λ (n : ℕ). c.push_port.new.out.items ≡ c.push_told-2.new.out.items ++ port_text m (left + 60) (codes "t") n)
    (ap (λ (x : Machine). x.control.trigger) c.m.view_is) c.in_ok-push_port.ensures in
    let width = c.port_width.ensures.all ∙ ap (λ (x : Machine). port_width m x.control.trigger) c.m.view_is in
    let there = subst (λ (o : Option ℕ). OnOk c.push_port_if.result
    (c.push_port_if.new.out.items ≡ c.push_port.new.out.items ++ port_if_text m (left + 60 + c.port_width.result) (codes "ra") o))
    (ap (λ (x : Machine). x.control.ra) c.m.view_is) c.push_port_if.ensures in
    let fifth = subst (λ (n : ℕ). OnOk c.push_port_if.result
    (c.push_port_if.new.out.items ≡ c.push_port.new.out.items ++ port_if_text m (left + 60 + n) (codes "ra") m.control.ra)) width there in
    onward c.push_port_if.result
    (λ last. then_more _ _ _ (part_text m left (control_width m) 2 (codes "gcu")) (delay ++ (address ++ (trigger ++ back))) first
    (then_more _ _ _ delay (address ++ (trigger ++ back)) second
    (then_more _ _ _ address (trigger ++ back) third
    (then_more _ _ _ trigger back fourth last)))) fifth
