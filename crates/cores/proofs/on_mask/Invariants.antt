-- `on_mask` meets its contract: the mask holds the cores from `core` on, and each pass puts the one below them under it.
use Rattle.cores.specs.Cores.{Masked}
use Rattle.cores.proofs.on_mask.Given as goal

abbrev pub invariant-loop-core : goal.invariant-loop-core
invariant-loop-core l = Masked l.t l.core l.mask
