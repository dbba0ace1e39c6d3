-- A part of the table that is one mark throughout is what the run's pages make one by one.
use Rattle.std.proofs.Common.{◌≡◌, ◌+◌, ◌-◌, arith, rules}
use Rattle.pages.specs.Run.{run_filled}
use Rattle.pages.proofs.fill.Goals as goal

pub returns : goal.returns
returns c =
    let n : c.args.first + c.args.count - c.args.first ≡ c.args.count = omega arith in
    rw n (run_filled c.args.t.now c.args.first c.args.count c.args.mark (search rules) (search rules) c.fill.new.self _ (c.fill.ensures.after (λ y e. e)) (search rules))
