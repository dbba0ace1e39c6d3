-- `hex_write::put_pair` meets its promise: the sign of the lower digit is laid behind that of the higher.
use borrow.Author.Rules.{rules}
use Rattle.hex_write.specs.Digits.{byte_put}
use Rattle.hex_write.proofs.put_pair.Goals as goal

pub returns : goal.returns
returns c = search (byte_put, rules)
