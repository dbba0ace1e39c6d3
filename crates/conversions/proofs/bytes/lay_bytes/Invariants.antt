-- `lay_bytes` meets its promise, since each pass writes one byte, and those that are left, laid behind it, make the same of the space.
use Rattle.tools.specs.Laid.{laid}
use Rattle.conversions.specs.Laws.{Laying}
use Rattle.conversions.specs.Conversions.{byte_for, listed}
use Rattle.conversions.proofs.bytes.lay_bytes.Given as goal

abbrev pub invariant-loop-page : goal.invariant-loop-page
invariant-loop-page l = Laying l.initial.bytes (laid l.initial.bytes 0 (listed (byte_for l.numbers) 0 l.n)) l.bytes (byte_for l.numbers) l.page l.n
