-- A refusal writes its one number.
use Rattle.answers.specs.Laws.{writes_refusal}
use Rattle.answers.proofs.write_refusal.Goals as goal

pub returns : goal.returns
returns c = search writes_refusal
