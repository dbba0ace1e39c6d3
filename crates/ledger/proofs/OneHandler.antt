-- No call has two handlers: whatever entries are tried, in whatever order, from an empty ledger on, at most one of them serves a pair.
use Rattle.std.proofs.Math.Path.{◌≡◌}
use Rattle.std.specs.Prelude.{refl, Bool, true, ◌&&◌, ℕ, ◌≤◌, None, Ok, Result, Some, ⊤}
use Rattle.std.proofs.Common.{ap, ◌∙◌, arith}
use mathlib.Core.List.{List, [], ◌∷◌, ◌++◌, Memᴰ}
use Rattle.rules.specs.declared.Fault.{Fault}
use Rattle.rules.specs.Choice.{pick, chosen, pick_yes, pick_no, either}
use Rattle.ledger.specs.Ledger.{Proper, empty, handler, empty_proper, empty_handler, is_accepted, Ranged}
use Rattle.ledger.proofs.Ledger.{handler_after, handler_before, entered_proper, accepted_where, granted}
use Rattle.ledger.specs.Only.{only, only_has, only_none, only_more, only_next}
use Rattle.ledger.specs.OneHandler.{Attempt, One, accepted, answer, at_most_one, covers, its, next, nobodys, none, one, ran}

-- ---- why it holds: a pair gets its handler from the first attempt that is accepted and names it, and no later one that names it is accepted
module _ (kind owner : ℕ) where
  abbrev gains : List ℕ → Attempt → Bool
  gains t a = is_accepted (answer t a) && covers kind owner a

  proper : (t : List ℕ) (a : Attempt) → Proper t → Proper (next t a)
  proper t a w = entered_proper t a.first a.last a.kind a.number w

  lacked : (t : List ℕ) (a : Attempt) → gains t a ≡ true → handler t kind owner ≡ None
  lacked t a y = handler_before t a.first a.last a.kind a.number kind owner y

  gained : (t : List ℕ) (a : Attempt) → Proper t → handler (next t a) kind owner ≡ pick (gains t a) (Some a.number) (handler t kind owner)
  gained t a w = handler_after t a.first a.last a.kind a.number w kind owner

  held : (tries : List Attempt) (t : List ℕ) → Proper t → (number : ℕ) → handler t kind owner ≡ Some number
      → (handler (ran t tries) kind owner ≡ Some number) × (only (covers kind owner) (accepted t tries) ≡ [])
  unfolding ran accepted only
  held [] t w number e = (e, refl)
  held (a ∷ rest) t w number e =
      either (gains t a)
      (λ y. let f = lacked t a y in absurd (let z : ◌≡◌ {A = ℕ} 0 1 = cc in omega arith))
      (λ n.
      let r = held rest (next t a) (proper t a w) number (gained t a w ∙ pick_no _ _ _ n ∙ e) in
      (r.0, only_next (covers kind owner) (is_accepted (answer t a)) a _ ∙ pick_no _ _ _ n ∙ r.1))

  waits : (tries : List Attempt) (t : List ℕ) → Proper t → handler t kind owner ≡ None
      → One (only (covers kind owner) (accepted t tries)) (handler (ran t tries) kind owner)
  unfolding ran accepted only
  waits [] t w e = rw e none
  waits (a ∷ rest) t w e =
      rw (only_next (covers kind owner) (is_accepted (answer t a)) a (accepted (next t a) rest))
      (chosen (λ (l : List Attempt). One l (handler (ran (next t a) rest) kind owner)) (gains t a) _ _
      (λ y. let r = held rest (next t a) (proper t a w) a.number (gained t a w ∙ pick_yes _ _ _ y) in rw (r.0, r.1) (one a))
      (λ n. waits rest (next t a) (proper t a w) (gained t a w ∙ pick_no _ _ _ n ∙ e)))

-- ---- the theorem
-- Of all the entries that were tried, the accepted ones that name a pair are none, and nobody takes the pair's calls; or there is one alone, and its handler takes them.
pub one_handler : (tries : List Attempt) (kind owner : ℕ) → One (only (covers kind owner) (accepted empty tries)) (handler (ran empty tries) kind owner)
one_handler tries kind owner = waits kind owner tries empty empty_proper (empty_handler kind owner)

module _ (tries : List Attempt) (kind owner : ℕ) where
  -- The handler of an accepted entry takes the calls of every pair that the entry names.
  pub its_handler : (a : Attempt) → Memᴰ a (accepted empty tries) → covers kind owner a ≡ true → handler (ran empty tries) kind owner ≡ Some a.number
  its_handler a m c = its (one_handler tries kind owner) (only_has (covers kind owner) a (accepted empty tries) c m)

  -- Nobody takes the calls of a pair that no accepted entry names.
  pub nobody : ((a : Attempt) → Memᴰ a (accepted empty tries) → covers kind owner a ≡ true → ⊥) → handler (ran empty tries) kind owner ≡ None
  nobody f = nobodys (one_handler tries kind owner) (only_none (covers kind owner) (accepted empty tries) f)

  -- No two accepted entries name one pair.
  pub never_two : (before between after : List Attempt) (a b : Attempt) → accepted empty tries ≡ before ++ (a ∷ (between ++ (b ∷ after)))
      → covers kind owner a ≡ true → covers kind owner b ≡ true → ⊥
  never_two before between after a b e c d =
      let h = at_most_one (rw e at (one_handler tries kind owner)) in
      let i = only_more (covers kind owner) before a (between ++ (b ∷ after)) c in
      let j = only_more (covers kind owner) between b after d in
      omega arith

-- ---- and it refuses no more than it must
module _ (before : List Attempt) (a : Attempt) where
  -- the attempt has every number in its range, and no entry accepted before it names a pair of its own
  pub record Welcome : Type 0 where
    pub ranged : Ranged a.first a.last a.kind a.number
    pub free : (b : Attempt) (owner : ℕ) → Memᴰ b (accepted empty before) → a.first ≤ owner → owner ≤ a.last → covers a.kind owner b ≡ true → ⊥

  -- Such an attempt is accepted.
  pub welcome_accepted : Welcome → answer (ran empty before) a ≡ (Ok tt)
  welcome_accepted w =
      ap (λ (e : Result ⊤ Fault × List ℕ). e.0)
      (accepted_where (ran empty before) a.first a.last a.kind a.number w.ranged
      (λ owner h l. nobody before a.kind owner (λ b m c. w.free b owner m h l c)))

  -- No other is.
  pub accepted_welcome : answer (ran empty before) a ≡ (Ok tt) → Welcome
  accepted_welcome e =
      let g = granted (ran empty before) a.first a.last a.kind a.number e in
      record {
        ranged = g.ranged;
        free = λ b owner m h l c.
            let x = its_handler before a.kind owner b m c in
            let y = g.free owner h l in
            let z : ◌≡◌ {A = ℕ} 0 1 = cc in
            omega arith;
      }
