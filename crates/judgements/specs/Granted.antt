-- A mapping or a transfer that is asked for is judged by its verdict: where that is a grant, the call is done. And where an address leads is told.
use Rattle.std.specs.Prelude.{◌≡◌, refl, Bool, List, ◌⊎◌, ℕ, eqb, None, Result, Some}
use Rattle.std.proofs.Common.{sym, inl, inr, ⊎_elim, arith}
use Rattle.std.proofs.Math.Path.{ap}
use Rattle.std.proofs.Math.Bool.{true, false}
use Rattle.mapping.specs.declared.Grant.{Grant}
use Rattle.rules.specs.declared.Reason.{Reason}
use Rattle.rules.specs.Choice.{pick, either, chosen}
use Rattle.rules.specs.Sizes.{normal}
use Rattle.mapping.specs.Mapping.{map_verdict}
use Rattle.transfers.specs.Transfer.{transfer_verdict}
use Rattle.judgements.specs.Names.{take_pages, give_pages}
use Rattle.judgements.specs.Judge.{HandlerSight, one_of, takers, wanted, row_in, row_of, may_transfer}
use Rattle.judgements.specs.declared.Answer.TheVariants as Answer
use Rattle.judgements.specs.declared.Args.{Args}
use Rattle.judgements.specs.declared.Transfer.{Transfer}

-- ---- who may ask for a transfer: Realm for every one, Secure for those of several pages
abbrev pub MayMove : ℕ → ℕ → Type 0
MayMove world k = (world ≡ 3) ⊎ ((world ≡ 1) × ((k ≡ 0xC2000010) ⊎ (k ≡ 0xC2000011)))

-- the rows of these calls are for both
pub pages_both : (a : Args) (h k : ℕ) (t : Transfer) → (k ≡ take_pages) ⊎ (k ≡ give_pages) → row_of a h k ≡ Some t → t.both ≡ true
unfolding row_in pick
pages_both a h k t o e = ⊎_elim (λ (z : k ≡ take_pages). of true (rw z at e)) (λ (z : k ≡ give_pages). of false (rw z at e)) o
  where
    none : None ≡ Some t → t.both ≡ true
    none e = let y : ◌≡◌ {A = ℕ} 0 1 = cc in absurd (omega arith)

    one : (b : Bool) → Some (record { both = true; takes = b; count = a.x2 }) ≡ Some t → t.both ≡ true
    one b e = let y : record { both = true; takes = b; count = a.x2 } ≡ t = cc in sym (ap (λ (q : Transfer). q.both) y)

    of : (b : Bool) → row_of a h (pick b take_pages give_pages) ≡ Some t → t.both ≡ true
    of true e = either (eqb h 2) (λ y. none (rw y at e)) (λ n. either (eqb h 1) (λ y. one true (rw (n, y) at e)) (λ m. none (rw (n, m) at e)))
    of false e = either (eqb h 2) (λ y. none (rw y at e)) (λ n. either (eqb h 1) (λ y. one false (rw (n, y) at e)) (λ m. none (rw (n, m) at e)))

pub may_move : (t : Transfer) (world k : ℕ) → MayMove world k → ((k ≡ take_pages) ⊎ (k ≡ give_pages) → t.both ≡ true) → one_of world (may_transfer t) ≡ true
unfolding one_of pick
may_move t world k (inl e) f = rw e (chosen (λ (l : List ℕ). one_of 3 l ≡ true) t.both takers _ (λ y. refl) (λ n. refl))
may_move t world k (inr e) f = rw (e.0, f e.1)

-- it is no world that gives to itself
pub taker : (world k : ℕ) → MayMove world k → world ≡ normal → ⊥
taker world k (inl e) z = omega arith
taker world k (inr e) z = omega (arith, e.0)

-- the verdict on a transfer to a world: by the caller's list where it gives the pages to Normal, and else by Normal's
abbrev pub move_verdict : HandlerSight → ℕ → ℕ → ℕ → Result ℕ Reason
move_verdict s start count to =
    transfer_verdict s.caller.window s.owners (pick (eqb to normal) s.own s.theirs) (pick (eqb to normal) s.caller.world normal) start count

-- the verdict on the mapping that a call wants
abbrev pub want_verdict : HandlerSight → Args → Result Grant Reason
want_verdict s a = map_verdict s.own s.owners s.caller.window s.caller.world (wanted a)
