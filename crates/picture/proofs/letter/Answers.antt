-- The letter stands in the owner's place.
use Rattle.std.proofs.Common.{◌≡◌, arith, get_or}
use Rattle.picture.specs.Picture.{letter_capital, letter_small}
use Rattle.picture.proofs.letter.Goals as goal
use Rattle.picture.proofs.letter.Goals.{then-mapped, else-mapped}

pub returns : goal.returns
returns c =
    let e : c.unwrap_or.result ≡ get_or c.if-mapped.letters.now c.args.owner 63 = cc (c.get.ensures.lookup.4 (omega arith) 63) in
    elim c.if-mapped.branch [ then-mapped w ↦ letter_capital _ _ _ c.if-mapped.letters.now e w.if-mapped.true (cc) | else-mapped w ↦ letter_small _ _ _ c.if-mapped.letters.now e w.if-mapped.false (cc) ]
