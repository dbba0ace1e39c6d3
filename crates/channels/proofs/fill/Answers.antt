-- The read is lent only what lies behind the kept bytes.
use Rattle.std.proofs.Common.{rules}
use Rattle.channels.specs.Filled.{fills_none, fills_behind}
use Rattle.channels.proofs.fill.Goals as goal

pub returns-then-buf-kept : goal.returns-then-buf-kept
returns-then-buf-kept g c = fills_none _ _ (search rules)

pub returns-in-Ok : goal.returns-in-Ok
returns-in-Ok g c = fills_behind _ _ _ _ (search rules) (search rules) (search rules)
