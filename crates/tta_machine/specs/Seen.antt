-- What the code reads, as the definitions see it.
use Rattle.std.specs.Prelude.{Option, Result, option_map}
use Rattle.tta_machine.specs.Cited.{texts, or_refuse}
use Rattle.tta_parse.specs.Steps.{◌>>=◌}
use Rattle.tta_machine.specs.declared.refusal.Refusal.{Refusal}
use Rattle.tta_machine.specs.declared.refusal.Refusal.TheVariants.{Syntax}
use Rattle.tta_machine.specs.declared.draft.Draft.{Draft}
use Rattle.tta_machine.specs.declared.forms.BusForm.{BusForm as BusWords}
use Rattle.tta_machine.specs.declared.forms.SocketForm.{SocketForm as SocketWords}
use Rattle.tta_machine.specs.declared.forms.FileForm.{FileForm as FileWords}
use Rattle.tta_machine.specs.declared.forms.ImmForm.{ImmForm as ImmWords}
use Rattle.tta_machine.specs.declared.forms.UnitForm.{UnitForm as UnitWords}
use Rattle.tta_machine.specs.declared.forms.OpForm.{OpForm as OpWords}
use Rattle.tta_machine.specs.declared.forms.GuardForm.{GuardForm as GuardWords}
use Rattle.tta_machine.specs.declared.forms.TemplateForm.{TemplateForm as TemplateWords}
use Rattle.tta_machine.specs.declared.forms.ControlForm.{ControlForm as ControlWords}
use Rattle.tta_machine.specs.declared.forms.SpaceForm.{SpaceForm as SpaceWords}
use Rattle.tta_machine.specs.Forms.{BusForm, SocketForm, FileForm, ImmForm, UnitForm, OpForm, GuardForm, TemplateForm, ControlForm, SpaceForm}

-- what a line's words declare where they have the form of its kind
abbrev pub formed : {F : Type 0} → Option F → (F → Result Draft Refusal) → Result Draft Refusal
formed form take = or_refuse Syntax form >>= take

-- what a bus line says
abbrev pub bus_seen : BusWords → BusForm
bus_seen f = record { name = f.name.now; short = f.short; signed = f.signed }

-- what a socket line says
abbrev pub socket_seen : SocketWords → SocketForm
socket_seen f = record { name = f.name.now; input = f.input; buses = texts f.buses.now }

-- what a file line says
abbrev pub file_seen : FileWords → FileForm
file_seen f = record { name = f.name.now; width = f.width; size = f.size; read = f.read; write = f.write; out = f.out.now; into = f.into.now }

-- what the line of an immediate unit says
abbrev pub imm_seen : ImmWords → ImmForm
imm_seen f = record { name = f.name.now; size = f.size; out = f.out.now }

-- what a unit line says
abbrev pub unit_seen : UnitWords → UnitForm
unit_seen f = record {
  name = f.name.now;
  operand = option_map (λ b. b.now) f.operand;
  trigger = f.trigger.now;
  result = option_map (λ b. b.now) f.result;
}

-- what an operation line says
abbrev pub op_seen : OpWords → OpForm
op_seen f = record { unit = f.unit.now; operation = f.operation.now; latency = f.latency }

-- what a guard line says
abbrev pub guard_seen : GuardWords → GuardForm
guard_seen f = record { bus = f.bus.now; file = f.file.now; index = f.index; inverted = f.inverted }

-- what a template line says
abbrev pub template_seen : TemplateWords → TemplateForm
template_seen f = record { name = f.name.now; imm = f.imm.now; index = f.index; buses = texts f.buses.now }

-- what a control line says
abbrev pub control_seen : ControlWords → ControlForm
control_seen f = record { delay = f.delay; address = f.address; trigger = f.trigger.now; ra = option_map (λ b. b.now) f.ra }

-- what the line of a space says
abbrev pub space_seen : SpaceWords → SpaceForm
space_seen f = record { is_data = f.is_data; size = f.size }
