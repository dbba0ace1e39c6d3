-- `pieces::put_text` meets its promise, since there is room for the text.
use Rattle.std.proofs.Common.{rules}
use Rattle.fip_text.specs.Line.{stands_put}
use Rattle.fip_text.proofs.pieces.put_text.Goals as goal

pub returns : goal.returns
returns c = search (stands_put, rules)
