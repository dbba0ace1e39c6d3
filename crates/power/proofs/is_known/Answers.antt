-- Each arm of `is_known` knows which number it has, so where the list has it.
use Rattle.judgements.specs.Laws.{keys}
use Rattle.power.proofs.is_known.Goals as goal

pub returns-in-2214592512 : goal.returns-in-2214592512
returns-in-2214592512 c = search keys fits 20000 depth 40

pub returns-in-2214592514 : goal.returns-in-2214592514
returns-in-2214592514 c = search keys fits 20000 depth 40

pub returns-in-2214592515 : goal.returns-in-2214592515
returns-in-2214592515 c = search keys fits 20000 depth 40

pub returns-in-3288334339 : goal.returns-in-3288334339
returns-in-3288334339 c = search keys fits 20000 depth 40

pub returns-in-2214592516 : goal.returns-in-2214592516
returns-in-2214592516 c = search keys fits 20000 depth 40

pub returns-in-3288334340 : goal.returns-in-3288334340
returns-in-3288334340 c = search keys fits 20000 depth 40

pub returns-in-2214592522 : goal.returns-in-2214592522
returns-in-2214592522 c = search keys fits 20000 depth 40

pub returns-in-2147483648 : goal.returns-in-2147483648
returns-in-2147483648 c = search keys fits 20000 depth 40

pub returns-in_default : goal.returns-in_default
returns-in_default c = search keys fits 20000 depth 40
