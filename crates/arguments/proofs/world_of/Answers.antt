-- `world_of` meets its promise, since it asks for the three names in turn.
use Rattle.rules.specs.Tests.{judgements}
use Rattle.arguments.specs.Words.{world_of}
use Rattle.arguments.proofs.world_of.Goals as goal

pub returns-then-is_word : goal.returns-then-is_word
unfolding world_of
returns-then-is_word c = search judgements

pub returns-then-is_word-2 : goal.returns-then-is_word-2
unfolding world_of
returns-then-is_word-2 c = search judgements

pub returns-then-is_word-3 : goal.returns-then-is_word-3
unfolding world_of
returns-then-is_word-3 c = search judgements

pub returns : goal.returns
unfolding world_of
returns c = search judgements
