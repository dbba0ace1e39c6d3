-- `put_number` meets its promise, since the digits stand behind the space.
use Rattle.std.proofs.Common.{rules}
use Rattle.fip_text.specs.Line.{number_put}
use Rattle.fip_text.proofs.put_number.Goals as goal

pub returns : goal.returns
returns c = number_put _ _ _ _ _ _ _ (search rules) c.put_text-a.ensures c.put_decimal.ensures
