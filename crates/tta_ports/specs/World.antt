-- Files, as contracts see them.
use Rattle.std.specs.Prelude.{◌≡◌, ℕ, Option}
use Rattle.tta_ports.specs.declared.fault.Fault.{Fault}
use Rattle.tta_ports.specs.Store.{Store}

-- what files hold, where they show it; how often a call has failed, up to the last value of a 64-bit counter; and the
-- call that failed last, none before the first
pub record World : Type 0 where
  pub contents : Option Store
  pub faults : ℕ
  pub latest : Option Fault

-- no file has changed, and no call has failed
pub record IsUntouched (before after : World) : Type 0 where
  pub contents : after.contents ≡ before.contents
  pub faults : after.faults ≡ before.faults
  pub latest : after.latest ≡ before.latest
