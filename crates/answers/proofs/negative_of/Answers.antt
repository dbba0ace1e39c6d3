-- A refusal's number is at least 1 and at most 34, so the difference and the sum fit either width.
use borrow.Author.Rules.{rules}
use Rattle.answers.specs.Laws.{small_enough, negates}
use Rattle.answers.proofs.negative_of.Goals as goal

pub overflow_sub-result : goal.overflow_sub-result
overflow_sub-result c = (small_enough _ c.args.r _ _ c.highest.ensures c.minus_of.ensures).0

pub overflow_add-result : goal.overflow_add-result
overflow_add-result c = let h = (small_enough _ c.args.r _ _ c.highest.ensures c.minus_of.ensures).1 in search rules

pub returns : goal.returns
returns c = search negates
