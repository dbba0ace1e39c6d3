-- A call that Realm makes on its own list of mappings does nothing else, whatever handler the ledger has for it.
use Rattle.std.specs.Prelude.{◌≡◌, ℕ, ◌≤◌, Option, Some}
use Rattle.std.proofs.Common.{⊎_elim, arith}
use Rattle.judgements.specs.declared.Transfer.{Transfer}
use Rattle.judgements.specs.Names.{granule_to_realm, granule_to_normal, take_pages, give_pages, map_pages, unmap_pages, where_leads}
use Rattle.judgements.specs.Alike.{OnList, row_by}
use Rattle.judgements.specs.Asked.{Asks, by_row_lem, Finishes, by_secure, by_realm}
use Rattle.judgements.specs.declared.Deed.{Deed}
use Rattle.judgements.specs.declared.Deed.TheVariants.{Nothing, Move, Map, Unmap, Start, GoOff, HandOver, Finish}
use Rattle.judgements.specs.declared.Args.{Args}
use Rattle.judgements.specs.declared.Caller.{Caller}

-- the deeds that touch the caller's list alone
abbrev pub OwnList : Deed → Type 0
OwnList Nothing = Unit {0}
OwnList (Move first count to) = ⊥
OwnList (Map m) = Unit {0}
OwnList (Unmap virt size) = Unit {0}
OwnList (Start core start context) = ⊥
OwnList GoOff = ⊥
OwnList (HandOver to) = ⊥
OwnList Finish = ⊥

on_list_range : (k : ℕ) → OnList k → (map_pages ≤ k) × (k ≤ where_leads)
on_list_range k =
    ⊎_elim (λ (e : k ≡ map_pages). (omega arith, omega arith)) (⊎_elim (λ (e : k ≡ unmap_pages). (omega arith, omega arith)) (λ (e : k ≡ where_leads). (omega arith, omega arith)))

pub no_transfer : {v : Caller} {a : Args} {h k start count to : ℕ} → Asks v a h k start count to → OnList k → ⊥
no_transfer {a = a} {h = h} {k = k} (by_row_lem t e) on =
    let r = on_list_range k on in
    row_by a h k (λ (q : Option Transfer). q ≡ Some t → ⊥) (λ f. let z : ◌≡◌ {A = ℕ} 0 1 = cc in omega arith)
    (λ u f g w. ⊎_elim (λ (y : k ≡ granule_to_realm). omega (arith, r.0)) (λ (y : k ≡ take_pages). omega (arith, r.0)) g)
    (λ u f g w. ⊎_elim (λ (y : k ≡ granule_to_normal). omega (arith, r.1)) (λ (y : k ≡ give_pages). omega (arith, r.0)) g) e

pub no_finish : {h k w : ℕ} → Finishes h k w → OnList k → ⊥
no_finish by_secure on = omega (arith, on_list_range _ on)
no_finish by_realm on = omega (arith, on_list_range _ on)
