-- The sentence is made a piece at a time, as the definition has it.
use Rattle.setup_words.proofs.site.Goals as goal

pub returns : goal.returns
returns c = cc
