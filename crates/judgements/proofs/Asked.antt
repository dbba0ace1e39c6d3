-- Nothing is done but what a call asks for: each deed by the handler that the call reaches, its identifier and its arguments.
use Rattle.std.specs.Prelude.{◌≡◌, Bool, List, ◌⊎◌, Err, None, Ok, Option, Result, Some}
use Rattle.std.proofs.Math.Path.{refl}
use Rattle.std.proofs.Common.{sym, subst, inl, inr, arith}
use Rattle.std.proofs.Math.Bool.{true}
use Prim.Native.Nat.{ℕ}
use borrow.Author.Tests.{eqb-true, eqb-false, ltb-false, not-false}
use Rattle.mapping.specs.Leads.{To}
use Rattle.mapping.specs.declared.Lead.{Lead}
use Rattle.mapping.specs.declared.Grant.TheVariants as Grant
use Rattle.mapping.specs.declared.Grant.{Grant}
use Rattle.judgements.specs.declared.Transfer.{Transfer}
use Rattle.rules.specs.Choice.{pick_yes, pick_no, chosen}
use Rattle.rules.specs.Choice as Choice
use Rattle.rules.specs.Tests.{Test, sieved, goes, ends, Clear}
use Rattle.rules.specs.declared.Reason.{Reason}
use Rattle.rules.specs.declared.Reason.TheVariants as Reason
use Rattle.identifiers.specs.Identifier.{admitted}
use Rattle.ledger.specs.Ledger.{handler}
use Rattle.cores.specs.declared.Power.{Power}
use Rattle.rules.specs.Sizes.{secure, normal, realm}
use Rattle.judgements.specs.Names.{core_off, core_start, core_start_wide, realm_first, realm_last, realm_finish, map_pages, unmap_pages, where_leads, count_on, secure_finish}
use Rattle.judgements.specs.Judge.{HandlerSight, Sight, denied, granted, tested, one_of, callers, wanted, called_by, args_of, affirmed, featuring, architecture, starting, state_of, telling_state, going_off, versioning, power_featuring, row_of, moving, transferring, owning, mapping, unmapping, leading, board, handing, finishing, handing_to_realm, realm_call, standard, trusted, by_number, by_row, by_handler, found, judged_by, judged}
use Rattle.judgements.specs.declared.Answer.{Answer}
use Rattle.judgements.specs.declared.Answer.TheVariants as Answer
use Rattle.judgements.specs.declared.Deed.{Deed}
use Rattle.judgements.specs.declared.Deed.TheVariants.{Nothing, Move, Map, Unmap, Start, GoOff, HandOver, Finish}
use Rattle.judgements.specs.declared.Judged.{Judged}
use Rattle.judgements.specs.declared.Args.{Args}
use Rattle.judgements.specs.Asked.{Asks, CalledFor, Finishes, HandsTo, Lies, Reached, Tells, by_realm, by_row_lem, by_secure, key, lies, to_realm, to_secure}

-- ---- each call
module _ (s : HandlerSight) (a : Args) (h key : ℕ) where
  abbrev For : Judged → Type 0
  For j = CalledFor s.caller a h key j.deed j.answer

  testing : (ts : List (Test Reason)) (j : Judged) → (Clear ts → For j) → For (tested ts j)
  testing ts j f = sieved For denied ts j (λ r. tt) f

  affirming : (b : Bool) → For (affirmed b)
  unfolding affirmed
  affirming b = chosen For b _ _ (λ e. tt) (λ e. tt)

  architectures : For (architecture a key)
  unfolding architecture featuring
  architectures =
      chosen For _ _ _ (λ e. tt) (λ e. chosen For _ _ _ (λ f. affirming _) (λ f. tt))

  transfers : (v : Result ℕ Reason) (start count to : ℕ) → Lies s.caller.window v start count → Asks s.caller a h key start count to → For (moving v count to)
  unfolding moving
  transfers (Ok first) start count to l k = (record { start = start; asks = k; lies = l first refl }, refl)
  transfers (Err r) start count to l k = tt

  questions : (o : List ℕ) (p : Option ℕ) (world : ℕ) → For (owning o p world)
  unfolding owning
  questions o (Some page) world = tt
  questions o None world = tt

  states : (p : Power) → For (granted (state_of p) Nothing)
  unfolding state_of
  states p =
      chosen (λ (r : Answer). For (granted r Nothing)) _ _ _ (λ e. tt) (λ e. chosen (λ (r : Answer). For (granted r Nothing)) _ _ _ (λ f. tt) (λ f. tt))

  hands : (to : ℕ) → HandsTo h key to → For (handing to s.caller)
  unfolding handing
  hands to k = testing _ _ (λ c. (k, refl))

  finishes : (from : ℕ) → Finishes h key from → For (finishing from s.caller)
  unfolding finishing Clear
  finishes from k = testing _ _ (λ c. (subst (λ (w : ℕ). Finishes h key w) (sym (eqb-true s.caller.world from (not-false _ c.0))) k, refl))

  module _ (is : h ≡ 1) where
    mappings : (v : Result Grant Reason) → key ≡ map_pages → For (mapping v (wanted a))
    unfolding mapping
    mappings (Ok Grant.Hold) k = ((is, k), (refl, refl))
    mappings (Ok Grant.Nothing) k = tt
    mappings (Err r) k = tt

    leads : (l : Option Lead) → key ≡ where_leads → For (leading l)
    unfolding leading
    leads (Some d) k = (is, k)
    leads None k = tt

    boards : For (board s a key)
    unfolding board unmapping
    boards =
        chosen For _ _ _ (λ e. questions _ _ _)
        (λ e. chosen For _ _ _ (λ e. mappings _ (eqb-true key map_pages e))
        (λ e. chosen For _ _ _ (λ e. testing _ _ (λ c. ((is, eqb-true key unmap_pages e), ((refl, refl), refl))))
        (λ e. chosen For _ _ _ (λ e. leads _ (eqb-true key where_leads e))
        (λ e. chosen For _ _ _ (λ e. (is, eqb-true key count_on e))
        (λ e. tt)))))

  module _ (is : h ≡ 2) where
    starts : (key ≡ core_start) ⊎ (key ≡ core_start_wide) → For (starting s.caller s.powers s.owners a)
    unfolding starting
    starts k = testing _ _ (λ c. ((is, k), ((refl, (refl, refl)), refl)))

    range : For (handing_to_realm s.caller key)
    unfolding handing_to_realm Clear
    range = testing _ _ (λ c. hands realm (rw is (to_realm key (ltb-false key realm_first c.0) (ltb-false realm_last key c.1.0))))

    realm_calls : For (realm_call s.caller key)
    unfolding realm_call
    realm_calls = chosen For _ _ _ (λ e. finishes realm (rw (is, eqb-true key realm_finish e) by_realm)) (λ e. range)

    standards : For (standard s.caller s.powers s.owners a key)
    unfolding standard versioning going_off telling_state power_featuring
    standards =
        chosen For _ _ _ (λ e. testing _ _ (λ c. tt))
        (λ e. chosen For _ _ _ (λ e. testing _ _ (λ c. ((is, eqb-true key core_off e), refl)))
        (λ e. chosen For _ _ _ (λ e. starts (inl (eqb-true key core_start e)))
        (λ e. chosen For _ _ _ (λ e. starts (inr (eqb-true key core_start_wide e)))
        (λ e. chosen For _ _ _ (λ e. testing _ _ (λ c. states _))
        (λ e. chosen For _ _ _ (λ e. testing _ _ (λ c. states _))
        (λ e. chosen For _ _ _ (λ e. testing _ _ (λ c. affirming _))
        (λ e. realm_calls)))))))

  trust : h ≡ 3 → For (trusted s.caller key)
  unfolding trusted
  trust is =
      chosen For _ _ _ (λ e. finishes secure (rw (is, eqb-true key secure_finish e) by_secure))
      (λ e. hands secure (rw is (to_secure key (eqb-false key secure_finish e))))

  numbers : For (by_number s a key h)
  unfolding by_number
  numbers =
      chosen For _ _ _ (λ e. architectures)
      (λ e. chosen For _ _ _ (λ e. boards (eqb-true h 1 e))
      (λ e. chosen For _ _ _ (λ e. standards (eqb-true h 2 e))
      (λ e. chosen For _ _ _ (λ e. trust (eqb-true h 3 e))
      (λ e. tt))))

  rows : (r : Option Transfer) → row_of a h key ≡ r → For (by_row s a key h r)
  unfolding by_row transferring
  rows (Some t) e =
      testing _ _ (λ c. chosen For t.takes _ _
      (λ y. transfers _ a.x1 t.count s.caller.world (lies _ _ _ _ _ _) (subst To (pick_yes _ _ _ y) (by_row_lem t e)))
      (λ n. transfers _ a.x1 t.count normal (lies _ _ _ _ _ _) (subst To (pick_no _ _ _ n) (by_row_lem t e))))
    where
      To : ℕ → Type 0
      To to = Asks s.caller a h key a.x1 t.count to
  rows None e = numbers

  handlers : For (by_handler s a key h)
  handlers = rows (row_of a h key) refl

module _ (s : Sight) (xs : List ℕ) where
  pub so_reached : (P Q : ℕ → Type 0) → ((h : ℕ) → P h → Q h) → Reached s xs P → Reached s xs Q
  so_reached P Q f r = record { passes = r.passes; number = r.number; reached = r.reached; so = f r.number r.so }

  -- A call is refused, or judged by the handler that it reaches.
  pub judged_by_lem : (P : Judged → Type 0) → ((r : Reason) → P (denied r))
      → ((h : ℕ) → admitted (called_by xs) ≡ true → handler s.ledger (called_by xs).fast (called_by xs).owner ≡ Some h → P (by_handler s.inner (args_of (called_by xs) xs) (key xs) h))
      → P (judged s xs)
  unfolding judged judged_by found Clear
  judged_by_lem P against known = sieved P denied _ _ against (λ c. by_lookup (handler s.ledger (called_by xs).fast (called_by xs).owner) refl (not-false _ c.1.0))
    where
      by_lookup : (l : Option ℕ) → handler s.ledger (called_by xs).fast (called_by xs).owner ≡ l → admitted (called_by xs) ≡ true
          → P (found s.inner (args_of (called_by xs) xs) (key xs) l)
      by_lookup None e ok = against Reason.Unserved
      by_lookup (Some h) e ok = known h ok e

  -- Nothing is done but what the call asks for.
  pub called_for : (d : Deed) → (d ≡ Nothing → ⊥) → (judged s xs).deed ≡ d → Reached s xs (λ h. CalledFor s.inner.caller (args_of (called_by xs) xs) h (key xs) d (judged s xs).answer)
  called_for d n =
      judged_by_lem (λ (j : Judged). j.deed ≡ d → Reached s xs (λ h. CalledFor s.inner.caller (args_of (called_by xs) xs) h (key xs) d j.answer))
      (λ r e. absurd (n (sym e)))
      (λ h ok l e. record { passes = ok; number = h; reached = l; so = rw e at (handlers s.inner (args_of (called_by xs) xs) h (key xs)) })

  -- Nothing is told but what it asks for.
  told_asked : (r : Answer) → (r ≡ Answer.Done → ⊥) → (r ≡ Answer.Silent → ⊥) → ((q : Reason) → r ≡ Answer.No q → ⊥) → (judged s xs).answer ≡ r → Reached s xs (λ h. Tells h (key xs) r)
  told_asked r d n f =
      judged_by_lem (λ (j : Judged). j.answer ≡ r → Reached s xs (λ h. Tells h (key xs) r))
      (λ q e. absurd (f q (sym e)))
      (λ h ok l e. record {
        passes = ok;
        number = h;
        reached = l;
        so = told h (by_handler s.inner (args_of (called_by xs) xs) (key xs) h).deed (rw e at (handlers s.inner (args_of (called_by xs) xs) h (key xs)));
      })
    where
      told : (h : ℕ) (deed : Deed) → CalledFor s.inner.caller (args_of (called_by xs) xs) h (key xs) deed r → Tells h (key xs) r
      told h Nothing c = c
      told h (Move first count to) c = absurd (d c.1)
      told h (Map m) c = absurd (d c.1.1)
      told h (Unmap virt size) c = absurd (d c.1.1)
      told h (Start core start context) c = absurd (d c.1.1)
      told h GoOff c = absurd (n c.1)
      told h (HandOver to) c = absurd (n c.1)
      told h Finish c = absurd (n c.1)

  -- Where an address leads is told to the call alone that asks for it,
  pub leads_asked : (phys attr : ℕ) → (judged s xs).answer ≡ Answer.Leads phys attr → Reached s xs (λ h. (h ≡ 1) × (key xs ≡ where_leads))
  leads_asked phys attr =
      told_asked (Answer.Leads phys attr) (λ e. let z : ◌≡◌ {A = ℕ} 0 1 = cc in omega arith) (λ e. let z : ◌≡◌ {A = ℕ} 0 1 = cc in omega arith)
      (λ q e. let z : ◌≡◌ {A = ℕ} 0 1 = cc in omega arith)

  -- and so is a number of cores.
  pub count_asked : (n : ℕ) → (judged s xs).answer ≡ Answer.Count n → Reached s xs (λ h. (h ≡ 1) × (key xs ≡ count_on))
  count_asked n =
      told_asked (Answer.Count n) (λ e. let z : ◌≡◌ {A = ℕ} 0 1 = cc in omega arith) (λ e. let z : ◌≡◌ {A = ℕ} 0 1 = cc in omega arith)
      (λ q e. let z : ◌≡◌ {A = ℕ} 0 1 = cc in omega arith)

-- A call from a world that may call, whose bits 23 to 17 pass the test, is judged by the handler of its type and owner, and refused where there is none.
pub judged_found : (s : Sight) (xs : List ℕ) → one_of s.inner.caller.world callers ≡ true → admitted (called_by xs) ≡ true
    → judged s xs ≡ found s.inner (args_of (called_by xs) xs) (key xs) (handler s.ledger (called_by xs).fast (called_by xs).owner)
unfolding judged judged_by
judged_found s xs c ok = sym (goes _ _ _ _ _ _ (Choice.not_false _ c) (goes _ _ _ _ _ _ (Choice.not_false _ ok) (ends _ _ _ refl)))
