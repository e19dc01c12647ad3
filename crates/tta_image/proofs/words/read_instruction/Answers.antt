use Rattle.std.proofs.Common.{◌+◌, Ok, Err, length, drop, subst, sym, ap, ◌∙◌, arith}
use Rattle.tta_image.specs.Cited.{Machine, Layout, IsMachine}
use Rattle.tta_arch.proofs.Layouts.{layout_buses}
use Rattle.tta_image.specs.Decoding.{bits_in, decoded_template}
use Rattle.tta_image.proofs.Walks.{rest_after}
use Rattle.tta_image.proofs.InstructionRead.{template_refused, long_refused, slots_answer}
use Rattle.tta_image.proofs.NarrowFields.{narrow_layout, narrow_template}
use Rattle.tta_image.proofs.words.read_instruction.Goals as goal

pub number_at-code-requires-clause-small : goal.number_at-code-requires-clause-small
number_at-code-requires-clause-small c =
    let rules = subst (λ (m : Machine). IsMachine m) c.m.view_is c.m.invariant in
    let few = narrow_template c.args.m.now rules in
    let same = ap (λ (l : Layout). l.template_width) c.requires.layout in
    omega arith

pub read_long-requires-clause-narrow : goal.read_long-requires-clause-narrow
read_long-requires-clause-narrow c =
    let rules = subst (λ (m : Machine). IsMachine m) c.m.view_is c.m.invariant in
    narrow_layout c.args.m.now c.args.layout.now rules c.requires.layout

pub read_slots-requires-clause-narrow : goal.read_slots-requires-clause-narrow
read_slots-requires-clause-narrow c =
    let rules = subst (λ (m : Machine). IsMachine m) c.m.view_is c.m.invariant in
    narrow_layout c.args.m.now c.args.layout.now rules c.requires.layout

pub read_slots-requires-clause-buses : goal.read_slots-requires-clause-buses
read_slots-requires-clause-buses c =
    let rules = subst (λ (m : Machine). IsMachine m) c.m.view_is c.m.invariant in
    let most = rules.limits.buses in
    let many = layout_buses c.args.m.now c.args.layout.now c.requires.layout in
    omega arith

pub returns-in_default : goal.returns-in_default
returns-in_default c =
    let bits = drop c.args.at (bits_in c.args.bytes.now) in
    let many = c.len-buses.ensures ∙ ap (λ (m : Machine). length m.buses) c.m.view_is in
    rw (c.of_word.ensures, many) (template_refused c.args.m.now c.args.layout.now c.args.word bits
    (sym c.in_default.is ∙ c.template_of.ensures ∙ ap (decoded_template c.args.m.now) c.number_at-code.ensures))

pub returns-in-Err : goal.returns-in-Err
returns-in-Err c =
    let bits = bits_in c.args.bytes.now in
    long_refused c.args.m.now c.args.layout.now c.args.word (drop c.args.at bits) c.in-Some.template (drop (c.args.at + c.args.layout.now.template_width) bits)
    (sym c.in-Some.is ∙ c.template_of.ensures ∙ ap (decoded_template c.args.m.now) c.number_at-code.ensures) (rest_after bits c.args.at c.args.layout.now.template_width)
    c.in-Err.e c.in-Err.ensures

pub returns-in-Ok-read_slots : goal.returns-in-Ok-read_slots
returns-in-Ok-read_slots c =
    let bits = bits_in c.args.bytes.now in
    slots_answer c.args.m.now c.args.layout.now c.args.word (drop c.args.at bits) c.in-Some.template (drop (c.args.at + c.args.layout.now.template_width) bits)
    (sym c.in-Some.is ∙ c.template_of.ensures ∙ ap (decoded_template c.args.m.now) c.number_at-code.ensures) (rest_after bits c.args.at c.args.layout.now.template_width)
    c.in-Ok.long c.taken_by-taken.result (Ok c.in-Ok-read_slots.moves) c.in-Ok.ensures c.taken_by-taken.ensures c.in-Ok-read_slots.ensures

pub returns-in-Err-read_slots : goal.returns-in-Err-read_slots
returns-in-Err-read_slots c =
    let bits = bits_in c.args.bytes.now in
    slots_answer c.args.m.now c.args.layout.now c.args.word (drop c.args.at bits) c.in-Some.template (drop (c.args.at + c.args.layout.now.template_width) bits)
    (sym c.in-Some.is ∙ c.template_of.ensures ∙ ap (decoded_template c.args.m.now) c.number_at-code.ensures) (rest_after bits c.args.at c.args.layout.now.template_width)
    c.in-Ok.long c.taken_by-taken.result (Err c.in-Err-read_slots.e) c.in-Ok.ensures c.taken_by-taken.ensures c.in-Err-read_slots.ensures
