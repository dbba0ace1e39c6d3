-- What a board gains: a ledger has a place in use for each accepted entry, and a lookup reads those and the free place that ends them, if there is one.
use Rattle.std.specs.Prelude.{◌≡◌, List, [], ◌∷◌, ℕ, ◌+◌, length, take}
use Rattle.std.proofs.Common.{arith}
use Rattle.rules.specs.Choice.{pick_yes, pick_no, either}
use Rattle.ledger.specs.Ledger.{Proper, empty, handler, used, empty_proper, empty_used, is_accepted, rest_unread}
use Rattle.ledger.proofs.Ledger.{entered_proper, used_after}
use Rattle.ledger.specs.OneHandler.{Attempt, answer, next, ran, accepted}

counts : (tries : List Attempt) (t : List ℕ) → Proper t → used (ran t tries) ≡ used t + length (accepted t tries)
unfolding ran accepted
counts [] t w = omega arith
counts (a ∷ rest) t w =
    let e = counts rest (next t a) (entered_proper t a.first a.last a.kind a.number w) in
    let f = used_after t a.first a.last a.kind a.number w in
    either (is_accepted (answer t a))
    (λ y. let z : used (next t a) ≡ used t + 1 = rw (f, pick_yes _ _ _ y) in rw (pick_yes _ _ _ y) (omega arith))
    (λ n. let z : used (next t a) ≡ used t = rw (f, pick_no _ _ _ n) in rw (pick_no _ _ _ n) (omega arith))

module _ (tries : List Attempt) where
  -- Every accepted entry has a place, and no other place is in use.
  pub used_accepted : used (ran empty tries) ≡ length (accepted empty tries)
  used_accepted = omega (arith, counts tries empty empty_proper, empty_used)

  -- A table with the places of the accepted entries and the one behind them has the same handler for every pair, whatever stands in the others.
  pub rest_spare : (u : List ℕ) → take (length (accepted empty tries) + 1) u ≡ take (length (accepted empty tries) + 1) (ran empty tries)
      → (kind owner : ℕ) → handler u kind owner ≡ handler (ran empty tries) kind owner
  rest_spare u e = rest_unread (ran empty tries) u (rw used_accepted e)
