-- Each arm of `is_known` knows which number it has, so where the list has it.
use Rattle.judgements.specs.Laws.{keys}
use Rattle.architecture.proofs.is_known.Goals as goal

pub returns-in-2147483648 : goal.returns-in-2147483648
returns-in-2147483648 c = search keys depth 20

pub returns-in-2147483649 : goal.returns-in-2147483649
returns-in-2147483649 c = search keys depth 20

pub returns-in_default : goal.returns-in_default
returns-in_default c = search keys depth 20
