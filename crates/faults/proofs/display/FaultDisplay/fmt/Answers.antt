use Rattle.std.proofs.Common.{rules}
use Rattle.faults.specs.Shown.{parts_shown}
use Rattle.faults.proofs.display.FaultDisplay.fmt.Goals as goal

pub returns-clause-writes : goal.returns-clause-writes
unfolding parts_shown
returns-clause-writes g c = search rules
