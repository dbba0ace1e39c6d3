-- `put_list` meets its promise, since no list is longer than the space.
use Rattle.io.proofs.Counting.{prefix_len_of_le}
use Rattle.std.proofs.Common.{rules}
use Rattle.fip_text.specs.Line.{list_put}
use Rattle.fip_text.proofs.put_list.Goals as goal

pub returns-clause-out_after : goal.returns-clause-out_after
returns-clause-out_after c = search (list_put, rules)

pub returns-clause-prefix_len : goal.returns-clause-prefix_len
returns-clause-prefix_len c = search (prefix_len_of_le, rules)
