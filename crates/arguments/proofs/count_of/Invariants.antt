-- `count_of` meets its promise, since each pass takes one digit off those that are still to be read.
use Rattle.std.proofs.Common.{◌≡◌, ◌≤◌, ◌-◌, length}
use Rattle.tools.specs.Search.{any}
use Rattle.arguments.specs.Words.{is_other, worth}
use Rattle.arguments.proofs.count_of.Given as goal

abbrev pub invariant-loop-sign : goal.invariant-loop-sign
invariant-loop-sign l =
    (any (is_other l.word) 0 (length l.word) ≡ any (is_other l.word) l.sign-index (length l.word - l.sign-index)) × (l.n ≡ worth l.word l.sign-index) × (l.n ≤ 4294967296)
