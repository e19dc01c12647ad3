-- How a command ends.
use Rattle.std.specs.Prelude.{Option, Some, None}
use Rattle.tta_tool.specs.Cited.{World, Output, NothingOutput, Units, Status, IsUsage, Nets}
use Rattle.tta_tool.specs.Request.{Request, Build, Ifconv, Asm, Dis, Check, Exec, Run, Debug, Sample, Net}
use Rattle.tta_tool.specs.Build.{Builds}
use Rattle.tta_tool.specs.Ifconv.{WritesConverted}
use Rattle.tta_tool.specs.Asm.{Assembles}
use Rattle.tta_tool.specs.Dis.{Shows}
use Rattle.tta_tool.specs.Check.{ChecksCode}
use Rattle.tta_tool.specs.Exec.{Execs}
use Rattle.tta_tool.specs.Run.{Runs}
use Rattle.tta_tool.specs.Debug.{Debugs}
use Rattle.tta_tool.specs.Sample.{Samples}

-- How a request ends. What writes a file outputs nothing.
abbrev pub Ends : Units → Option Request → (before after : World) → (old new : Output) → Status → Type 0
Ends u None before after old new s = IsUsage before after old new s
Ends u (Some (Build machine program out converts)) before after old new s = Builds converts u machine program out before after s × NothingOutput old new
Ends u (Some (Ifconv program out)) before after old new s = WritesConverted u program out before after s × NothingOutput old new
Ends u (Some (Asm machine assembly out)) before after old new s = Assembles u machine assembly out before after s × NothingOutput old new
Ends u (Some (Dis machine image out)) before after old new s = Shows u machine image out before after s × NothingOutput old new
Ends u (Some (Check machine image)) before after old new s = ChecksCode u machine image before after old new s
Ends u (Some (Exec machine program input stream bound)) before after old new s = Execs u machine program input stream bound before after old new s
Ends u (Some (Run machine image input stream bound)) before after old new s = Runs u machine image input stream bound before after old new s
Ends u (Some (Debug machine image input script stream)) before after old new s = Debugs u machine image input script stream before after old new s
Ends u (Some (Sample seed lines machine)) before after old new s = Samples u seed lines machine before after old new s
Ends u (Some (Net rounds links names)) before after old new s = Nets u rounds links names before after old new s
