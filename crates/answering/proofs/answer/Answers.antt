-- The machine and the answer are those of the frame's step, and the text is put as it promises.
use Rattle.answering.specs.Answer.{answers_so}
use Rattle.answering.proofs.answer.Goals as goal

pub returns : goal.returns
returns c = search answers_so
