use Rattle.std.proofs.Common.{rules, below_more}
use Rattle.fip_identifiers.specs.Identifiers.{agree_yes, agree_no, all_agree, one_differs}
use Rattle.fip_identifiers.proofs.is_alike.Goals as goal

pub returns-then-byte : goal.returns-then-byte
returns-then-byte c = one_differs _ _ _ c.loop-i.i (search rules) (search (agree_no, rules))

pub loop-i-preserved : goal.loop-i-preserved
loop-i-preserved c = below_more _ _ c.loop-i.invariant (search (agree_yes, rules))

pub returns : goal.returns
returns c = all_agree _ _ _ _ (search rules) c.loop-i.invariant
