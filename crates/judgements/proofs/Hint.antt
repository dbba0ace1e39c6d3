-- The hint, bit 16 of a fast identifier, makes no difference to the judgement of its call.
use Rattle.std.specs.Prelude.{◌≡◌, true, false, ℕ, get_or}
use Rattle.std.proofs.Math.Path.{ap}
use Rattle.std.proofs.Common.{◌∙◌}
use mathlib.Core.List.{List}
use Rattle.identifiers.specs.Identifier.{low32, identifier_of, key_of}
use Rattle.judgements.specs.Judge.{one_of, called_by, args_of, asked}
use Rattle.judgements.specs.Hint.{Known, Plain, arg_low, known, unknown}

module _ (xs : List ℕ) (ks : List ℕ) where
  asked_low : asked (args_of (called_by xs) xs) ≡ key_of (record { 0 = low32 (get_or xs 1 0) })
  unfolding identifier_of args_of
  asked_low = ap (λ (n : ℕ). key_of (record { 0 = n })) (arg_low (called_by xs) (get_or xs 1 0))

  -- A question is affirmed where the low half of x1 is in the list, with bit 16 set or not, and no other is.
  pub asked_known : Plain ks → Known (low32 (get_or xs 1 0)) ks → one_of (asked (args_of (called_by xs) xs)) ks ≡ true
  asked_known p h = ap (λ (k : ℕ). one_of k ks) asked_low ∙ known (low32 (get_or xs 1 0)) ks p h

  pub asked_unknown : (Known (low32 (get_or xs 1 0)) ks → ⊥) → one_of (asked (args_of (called_by xs) xs)) ks ≡ false
  asked_unknown d = ap (λ (k : ℕ). one_of k ks) asked_low ∙ unknown (low32 (get_or xs 1 0)) ks d
