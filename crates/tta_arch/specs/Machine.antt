-- What a machine is made of.
use Rattle.std.specs.Prelude.{ℕ, List}
use Rattle.tta_arch.specs.declared.parts.Bus.{Bus}
use Rattle.tta_arch.specs.declared.parts.Socket.{Socket}
use Rattle.tta_arch.specs.declared.parts.File.{File}
use Rattle.tta_arch.specs.declared.parts.ImmUnit.{ImmUnit}
use Rattle.tta_arch.specs.declared.parts.Unit.{Unit as OpUnit}
use Rattle.tta_arch.specs.declared.parts.Guard.{Guard}
use Rattle.tta_arch.specs.declared.parts.Template.{Template}
use Rattle.tta_arch.specs.declared.parts.Control.{Control}

-- the parts of a machine, each list in the order of the text
pub record Machine : Type 0 where
  pub buses : List Bus
  pub sockets : List Socket
  pub files : List File
  pub imms : List ImmUnit
  pub units : List OpUnit
  pub guards : List Guard
  pub templates : List Template
  pub control : Control
  pub data_words : ℕ
  pub frame_words : ℕ
