-- `put_part` meets its promise, since the bytes are the text of the definition.
use Rattle.words.specs.Words.{words}
use Rattle.words.specs.Joined.{joined, text}
use Rattle.words.proofs.put_part.Goals as goal

pub returns : goal.returns
unfolding text joined words
returns c = c.put_text.ensures
