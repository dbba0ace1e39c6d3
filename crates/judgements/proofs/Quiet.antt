-- A call that Realm makes on its own list of mappings does nothing else, whatever handler the ledger has for it.
use Rattle.std.specs.Prelude.{◌≡◌, refl, List, ℕ}
use Rattle.std.proofs.Common.{arith}
use Rattle.rules.specs.Sizes.{realm}
use Rattle.judgements.specs.Judge.{Sight, judged}
use Rattle.judgements.specs.Alike.{OnList}
use Rattle.judgements.proofs.Grounds.{Grounds, grounded}
use Rattle.judgements.specs.Asked.{key}
use Rattle.judgements.proofs.Asked.{called_for}
use Rattle.judgements.specs.declared.Deed.{Deed}
use Rattle.judgements.specs.declared.Deed.TheVariants.{Nothing, Move, Map, Unmap, Start, GoOff, HandOver, Finish}
use Rattle.judgements.specs.Quiet.{OwnList, no_finish, no_transfer}

-- Realm's call on its own list does nothing else, whatever handler the ledger has for it.
pub quiet : (s : Sight) (xs : List ℕ) → OnList (key xs) → s.inner.caller.world ≡ realm → OwnList (judged s xs).deed
quiet s xs on is = which (judged s xs).deed refl (grounded s xs).stands
  where
    which : (d : Deed) → (judged s xs).deed ≡ d → Grounds s.inner d → OwnList d
    which Nothing e g = tt
    which (Move first count to) e g = no_transfer (called_for s xs _ (λ f. let z : ◌≡◌ {A = ℕ} 0 1 = cc in omega arith) e).so.0.asks on
    which (Map m) e g = tt
    which (Unmap virt size) e g = tt
    which (Start core start context) e g = omega (arith, g.caller)
    which GoOff e g = omega arith
    which (HandOver to) e g = omega (arith, g.0)
    which Finish e g = no_finish (called_for s xs Finish (λ f. let z : ◌≡◌ {A = ℕ} 0 1 = cc in omega arith) e).so.0 on
