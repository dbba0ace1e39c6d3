-- What a call reads of the caller's numbers, by its key: the key has the width of the identifier.
use Rattle.std.specs.Prelude.{◌≡◌, refl, List, ℕ, eqb, get_or}
use Rattle.std.proofs.Common.{arith, eqb-true}
use Rattle.std.proofs.lemmas.Bool.{eqb-false}
use Rattle.rules.specs.Choice.{pick, either}
use Rattle.identifiers.specs.Identifier.{bits, parts, key_of, argument, key_fast, key_yielding}
use Rattle.identifiers.specs.declared.Identifier.{Identifier}
use Rattle.identifiers.specs.declared.Parts.{Parts}
use Rattle.judgements.specs.Judge.{args_of}
use Rattle.judgements.specs.Hint.{bits_above, same_above}
use Rattle.judgements.specs.declared.Args.{Args}

-- the arguments that a call of this key reads
unfoldable pub args_by : ℕ → List ℕ → Args
args_by key xs = args_of (parts (record { 0 = key })) xs

-- ---- the key has the width of the identifier
key_wide : (i : Identifier) → bits 30 30 (key_of i) ≡ bits 30 30 i.0
key_wide i =
    either (eqb (bits 31 31 i.0) 1)
    (λ y. let a = bits_above i.0 (key_of i) (bits 16 16 i.0) refl (key_fast i (eqb-true (bits 31 31 i.0) 1 y)) in
    let s = same_above i.0 (key_of i) a in
    rw s.1.0)
    (λ n. let d = eqb-false (bits 31 31 i.0) 1 n in
    let z : bits 31 31 i.0 ≡ 0 = omega (arith, d) in
    rw (key_yielding i z))

-- A call reads by its key what it reads by its identifier.
pub read_by_key : (i : Identifier) (xs : List ℕ) → args_by (key_of i) xs ≡ args_of (parts i) xs
unfolding args_by args_of argument parts
read_by_key i xs = rw (key_wide i)

-- ---- how the code meets these
pub reads : (key : ℕ) (p : Parts) (xs : List ℕ) (a : Args) → p ≡ parts (record { 0 = key }) → a ≡ args_of p xs → a ≡ args_by key xs
unfolding args_by
reads key p xs a e h = rw e at h

-- a 64-bit call reads its arguments as they stand
pub args_wide : (p : Parts) (xs : List ℕ) → p.wide ≡ 1 → record { x1 = get_or xs 1 0; x2 = get_or xs 2 0; x3 = get_or xs 3 0; x4 = get_or xs 4 0 } ≡ args_of p xs
unfolding args_of argument pick
args_wide p xs e = rw e
