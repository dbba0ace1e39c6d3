-- In each arm the answer is known, and its text is the one that is put.
use Rattle.answering.specs.Answer.{puts}
use Rattle.answering.proofs.put_reply.Goals as goal

pub returns-in-Told : goal.returns-in-Told
returns-in-Told c = search puts

pub returns-in-Called : goal.returns-in-Called
returns-in-Called c = search puts
