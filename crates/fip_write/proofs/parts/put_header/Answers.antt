-- `put_header` meets its promise, since its three numbers lie one behind the other.
use mathlib.Core.Path.{◌≡◌}
use borrow.Author.Rules.{rules}
use Rattle.fip_write.specs.Laying.{header_laid}
use Rattle.fip_write.proofs.parts.put_header.Goals as goal

pub returns : goal.returns
returns c = let e : c.from.result ≡ c.args.serial = search rules in rw (← e) (search header_laid)
