-- `owner` meets its promise, since past the end every byte counts as 0.
use Rattle.conversions.specs.Laws.{byte_here, byte_past}
use Rattle.std.proofs.Common.{rules}
use Rattle.conversions.proofs.bytes.owner.Goals as goal

pub returns-in-Some : goal.returns-in-Some
returns-in-Some c = let h = c.in-Some.ensures in let k = c.in-Some.owner-is in byte_here _ _ _ (search rules)

pub returns-in-None : goal.returns-in-None
returns-in-None c = let h = c.in-None.ensures in byte_past _ _ (search rules)
