-- A refusal has its number, and nothing else has one.
use Rattle.firmware.specs.Laws.{refuses, refuses_not}
use Rattle.firmware.proofs.refusal_of.Goals as goal

pub returns-in_default : goal.returns-in_default
returns-in_default c = refuses_not c.args.a (λ r e. absurd (c.in_default.not-No r e))

pub returns : goal.returns
returns c = search refuses
