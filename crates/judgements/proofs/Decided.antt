-- And what is asked for is done, or refused: a judgement of such a call by its two outcomes.
use Rattle.std.proofs.Math.Path.{◌≡◌, refl}
use Rattle.std.proofs.Common.{sym, ap, ◌∙◌, arith}
use Rattle.std.specs.Prelude.{Bool, true, false, List, [], ◌∷◌, ◌⊎◌, ℕ, Err, None, Ok, Option, Result, Some}
use Rattle.std.proofs.Math.Logic.{inl, inr}
use borrow.Author.Tests.{ne_eqb, le-ltb}
use Rattle.mapping.specs.Leads.{To}
use Rattle.mapping.specs.declared.Lead.{Lead}
use Rattle.mapping.specs.declared.Grant.TheVariants as Grant
use Rattle.mapping.specs.declared.Grant.{Grant}
use Rattle.rules.specs.Choice.{pick, pick_no}
use Rattle.rules.specs.Tests.{Test, sieve, sieved}
use Rattle.rules.specs.declared.Reason.{Reason}
use Rattle.rules.specs.declared.Reason.TheVariants as Reason
use Rattle.cores.specs.Cores.{on_count}
use Rattle.pages.specs.declared.Window.{Window}
use Rattle.mapping.specs.Mapping.{map_tests, map_verdict, lead_of}
use Rattle.ranges.specs.declared.Mapping.{Mapping}
use Rattle.rules.specs.Sizes.{normal}
use Rattle.judgements.specs.Names.{version, features, power_version, core_off, core_start, core_start_wide, core_state, core_state_wide, power_features, granule_to_realm, granule_to_normal, realm_first, realm_last, realm_finish, map_pages, unmap_pages, where_leads, count_on, secure_finish}
use Rattle.judgements.specs.Judge.{HandlerSight, Sight, denied, tested, one_of, callers, wanted, called_by, args_of, asked, affirmed, featuring, versioning, power_featuring, architecture, starting, going_off, moving, row_in, transferring, by_number, by_row, mapping, unmapping, leading, board, handing, finishing, handing_to_realm, realm_call, standard, trusted, by_handler, found, judged}
use Rattle.judgements.specs.Refused.{Unknown, Barred}
use Rattle.judgements.proofs.Refused.{unknown_denied, barred_denied}
use Rattle.judgements.specs.declared.Answer.{Answer}
use Rattle.judgements.specs.declared.Answer.TheVariants as Answer
use Rattle.judgements.specs.declared.Deed.{Deed}
use Rattle.judgements.specs.declared.Deed.TheVariants.{Map, Unmap, Start, GoOff, HandOver, Finish}
use Rattle.judgements.specs.declared.Judged.{Judged}
use Rattle.judgements.specs.declared.Args.{Args}
use Rattle.judgements.specs.Asked.{Asks, by_row_lem, HandsTo, to_secure, to_realm, Finishes, by_secure, by_realm, Lies, lies, key, Reached}
use Rattle.judgements.proofs.Asked.{so_reached, judged_by_lem, judged_found}
use Rattle.judgements.specs.Decided.{Decided, MovesRun, TellsLead, done, leads, leads_not, refused}

module _ (a : Answer) (P : Deed → Type 0) where
  tested_decided : (ts : List (Test Reason)) (j : Judged) → Decided a P j → Decided a P (tested ts j)
  tested_decided ts j d = sieved (Decided a P) denied ts j (λ r. refused r refl) (λ c. d)

  -- A call that a handler decides so is decided so.
  pub reached_decided : (s : Sight) (xs : List ℕ) → Reached s xs (λ h. Decided a P (by_handler s.inner (args_of (called_by xs) xs) (key xs) h)) → Decided a P (judged s xs)
  reached_decided s xs r =
      judged_by_lem s xs (Decided a P) (λ q. refused q refl)
      (λ h ok e. let k : Some h ≡ Some r.number = sym e ∙ r.reached in let n : h ≡ r.number = cc in rw n r.so)

-- ---- a transfer
module _ (w : Window) (start count to : ℕ) where
  moving_decided : (v : Result ℕ Reason) → Lies w v start count → Decided Answer.Done (MovesRun w start count to) (moving v count to)
  unfolding moving
  moving_decided (Ok first) l = done refl (record { first = first; lies = l first refl; moves = refl })
  moving_decided (Err r) l = refused r refl

-- to the one or to the other
either_way : (w : Window) (start count one other : ℕ) (b : Bool) (u v : Result ℕ Reason) → Lies w u start count → Lies w v start count
    → Decided Answer.Done (MovesRun w start count (pick b one other)) (pick b (moving u count one) (moving v count other))
unfolding pick
either_way w start count one other true u v l m = moving_decided w start count one u l
either_way w start count one other false u v l m = moving_decided w start count other v m

module _ (s : HandlerSight) (a : Args) where
  asks_decided : {h k start count to : ℕ} → Asks s.caller a h k start count to → Decided Answer.Done (MovesRun s.caller.window start count to) (by_handler s a k h)
  unfolding by_row transferring
  asks_decided (by_row_lem t e) = rw e (tested_decided _ _ _ _ (either_way _ _ _ _ _ t.takes _ _ (lies _ _ _ _ _ _) (lies _ _ _ _ _ _)))

  -- ---- a mapping of some size, and its end
  mapping_decided : (v : Result Grant Reason) (m : Mapping) → (v ≡ (Ok Grant.Nothing) → ⊥) → Decided Answer.Done (λ (d : Deed). d ≡ Map m) (mapping v m)
  unfolding mapping
  mapping_decided (Ok Grant.Hold) m n = done refl refl
  mapping_decided (Ok Grant.Nothing) m n = absurd (n refl)
  mapping_decided (Err r) m n = refused r refl

  -- only a mapping of size 0 is nothing
  some_verdict : (l : List Mapping) (o : List ℕ) (w : Window) (world : ℕ) (m : Mapping) → (m.size ≡ 0 → ⊥) → map_verdict l o w world m ≡ (Ok Grant.Nothing) → ⊥
  unfolding map_verdict
  some_verdict l o w world m n e =
      sieved (λ (v : Result Grant Reason). v ≡ (Ok Grant.Nothing) → ⊥) Err (map_tests l o w world m) (Ok Grant.Hold)
      (λ r k. let z : ◌≡◌ {A = ℕ} 0 1 = cc in omega arith) (λ c k. let z : ◌≡◌ {A = ℕ} 0 1 = cc in omega arith)
      (sym (pick_no _ _ _ (ne_eqb m.size 0 n)) ∙ e)

  map_decided : (h k : ℕ) → (h ≡ 1) × (k ≡ map_pages) → (a.x3 ≡ 0 → ⊥) → Decided Answer.Done (λ (d : Deed). d ≡ Map (wanted a)) (by_handler s a k h)
  unfolding row_in by_row by_number board pick
  map_decided h k is n = rw (is.0, is.1) (mapping_decided _ (wanted a) (some_verdict _ _ _ _ (wanted a) n))

  unmap_decided : (h k : ℕ) → (h ≡ 1) × (k ≡ unmap_pages) → Decided Answer.Done (λ (d : Deed). d ≡ Unmap a.x1 a.x2) (by_handler s a k h)
  unfolding row_in by_row by_number board unmapping pick
  unmap_decided h k is = rw (is.0, is.1) (tested_decided _ _ _ _ (done refl refl))

  leading_tells : (l : Option Lead) → TellsLead l (leading l)
  unfolding leading
  leading_tells (Some d) = leads d.phys d.attr refl refl
  leading_tells None = leads_not Reason.Nowhere refl

  where_tells : (h k : ℕ) → (h ≡ 1) × (k ≡ where_leads) → TellsLead (lead_of s.own a.x1) (by_handler s a k h)
  unfolding row_in by_row by_number board pick
  where_tells h k is = rw (is.0, is.1) (leading_tells (lead_of s.own a.x1))

  count_told : (h k : ℕ) → (h ≡ 1) × (k ≡ count_on) → (by_handler s a k h).answer ≡ Answer.Count (on_count s.powers)
  unfolding row_in by_row by_number board pick
  count_told h k is = rw (is.0, is.1)

  version_told : (h k : ℕ) → (h ≡ 0) × (k ≡ version) → (by_handler s a k h).answer ≡ Answer.Version
  unfolding row_in by_row by_number architecture pick
  version_told h k is = rw (is.0, is.1)

  -- a question about an identifier: 0 where its key is in the list, else -1
  feature_told : (h k : ℕ) → (h ≡ 0) × (k ≡ features) → (by_handler s a k h).answer ≡ (affirmed (one_of (asked a) (0x80000000 ∷ 0x80000001 ∷ []))).answer
  unfolding row_in by_row by_number architecture featuring pick
  feature_told h k is = rw (is.0, is.1)

  power_feature_told : (h k : ℕ) → (h ≡ 2) × (k ≡ power_features) → s.caller.world ≡ normal
      → (by_handler s a k h).answer ≡ (affirmed (one_of (asked a) (0x84000000 ∷ 0x84000002 ∷ 0x84000003 ∷ 0xC4000003 ∷ 0x84000004 ∷ 0xC4000004 ∷ 0x8400000A ∷ 0x80000000 ∷ []))).answer
  unfolding row_in by_row by_number standard power_featuring sieve pick
  power_feature_told h k is n = rw (is.0, is.1, n)

  power_version_told : (h k : ℕ) → (h ≡ 2) × (k ≡ power_version) → s.caller.world ≡ normal → (by_handler s a k h).answer ≡ Answer.PowerVersion
  unfolding row_in by_row by_number standard versioning sieve pick
  power_version_told h k is n = rw (is.0, is.1, n)

  -- ---- core power
  start_decided : (h k : ℕ) → (h ≡ 2) × ((k ≡ core_start) ⊎ (k ≡ core_start_wide)) → Decided Answer.Done (λ (d : Deed). d ≡ Start a.x1 a.x2 a.x3) (by_handler s a k h)
  unfolding row_in by_row by_number standard starting pick
  start_decided h k (is, inl e) = rw (is, e) (tested_decided _ _ _ _ (done refl refl))
  start_decided h k (is, inr e) = rw (is, e) (tested_decided _ _ _ _ (done refl refl))

  off_done : (h k : ℕ) → (h ≡ 2) × (k ≡ core_off) → s.caller.world ≡ normal → (by_handler s a k h).deed ≡ GoOff
  unfolding row_in by_row by_number standard going_off sieve pick
  off_done h k is e = rw (is.0, is.1, e)

  -- ---- a hand-over and a finish
  hands_done : (h k to : ℕ) → s.caller.world ≡ normal → HandsTo h k to → (by_handler s a k h).deed ≡ HandOver to
  unfolding row_in by_row by_number standard realm_call handing_to_realm trusted handing sieve pick
  hands_done h k to e (to_secure key n) = rw (ne_eqb key secure_finish n, e)
  hands_done h k to e (to_realm key low high) =
      rw (
        ne_eqb key granule_to_realm (λ z. omega arith),
        ne_eqb key granule_to_normal (λ z. omega arith),
        ne_eqb key power_version (λ z. omega arith),
        ne_eqb key core_off (λ z. omega arith),
        ne_eqb key core_start (λ z. omega arith),
        ne_eqb key core_start_wide (λ z. omega arith),
        ne_eqb key core_state (λ z. omega arith),
        ne_eqb key core_state_wide (λ z. omega arith),
        ne_eqb key power_features (λ z. omega arith),
        ne_eqb key realm_finish (λ z. omega arith),
        le-ltb key realm_first low,
        le-ltb realm_last key high,
        e,
      )

  finishes_done : (h k w : ℕ) → s.caller.world ≡ w → Finishes h k w → (by_handler s a k h).deed ≡ Finish
  unfolding row_in by_row by_number standard realm_call trusted finishing sieve pick
  finishes_done h k w e by_secure = rw e
  finishes_done h k w e by_realm = rw e

-- ---- the whole judgement
module _ (s : Sight) (xs : List ℕ) where
  abbrev args : Args
  args = args_of (called_by xs) xs

  -- A transfer that is asked for is granted and moves its run, or is refused.
  pub asked_transfer : (start count to : ℕ) → Reached s xs (λ h. Asks s.inner.caller args h (key xs) start count to)
      → Decided Answer.Done (MovesRun s.inner.caller.window start count to) (judged s xs)
  asked_transfer start count to r = reached_decided _ _ s xs (so_reached s xs _ _ (λ h k. asks_decided s.inner args k) r)

  -- A mapping of some size is granted and made, or refused.
  pub asked_map : Reached s xs (λ h. (h ≡ 1) × (key xs ≡ map_pages)) → (args.x3 ≡ 0 → ⊥) → Decided Answer.Done (λ (d : Deed). d ≡ Map (wanted args)) (judged s xs)
  asked_map r n = reached_decided _ _ s xs (so_reached s xs _ _ (λ h k. map_decided s.inner args h (key xs) k n) r)

  -- So is the end of one,
  pub asked_unmap : Reached s xs (λ h. (h ≡ 1) × (key xs ≡ unmap_pages)) → Decided Answer.Done (λ (d : Deed). d ≡ Unmap args.x1 args.x2) (judged s xs)
  asked_unmap r = reached_decided _ _ s xs (so_reached s xs _ _ (λ h k. unmap_decided s.inner args h (key xs) k) r)

  -- and the start of a core.
  pub asked_start : Reached s xs (λ h. (h ≡ 2) × ((key xs ≡ core_start) ⊎ (key xs ≡ core_start_wide)))
      → Decided Answer.Done (λ (d : Deed). d ≡ Start args.x1 args.x2 args.x3) (judged s xs)
  asked_start r = reached_decided _ _ s xs (so_reached s xs _ _ (λ h k. start_decided s.inner args h (key xs) k) r)

  -- A call that asks where an address leads is told so, or refused.
  pub asked_where : Reached s xs (λ h. (h ≡ 1) × (key xs ≡ where_leads)) → TellsLead (lead_of s.inner.own args.x1) (judged s xs)
  asked_where r =
      judged_by_lem s xs (TellsLead (lead_of s.inner.own args.x1)) (λ q. leads_not q refl)
      (λ h ok e. let k : Some h ≡ Some r.number = sym e ∙ r.reached in let n : h ≡ r.number = cc in rw n (where_tells s.inner args r.number (key xs) r.so))

  module _ (may : one_of s.inner.caller.world callers ≡ true) where
    pub found_at : {P : ℕ → Type 0} (r : Reached s xs P) → judged s xs ≡ by_handler s.inner args (key xs) r.number
    unfolding found
    found_at r = judged_found s xs may r.passes ∙ rw r.reached

    -- A call that its handler does not know, or that is for another world, is refused with -1.
    pub asked_unknown_call : Reached s xs (λ h. Unknown h (key xs)) → judged s xs ≡ denied Reason.Unserved
    asked_unknown_call r = found_at r ∙ unknown_denied s.inner args r.so

    pub asked_barred : Reached s xs (λ h. Barred h (key xs) s.inner.caller.world) → judged s xs ≡ denied Reason.Unserved
    asked_barred r = found_at r ∙ barred_denied s.inner args r.so refl

    -- How many cores are ON is told to whoever asks.
    pub asked_count : Reached s xs (λ h. (h ≡ 1) × (key xs ≡ count_on)) → (judged s xs).answer ≡ Answer.Count (on_count s.inner.powers)
    asked_count r = ap (λ (j : Judged). j.answer) (found_at r) ∙ count_told s.inner args r.number (key xs) r.so

    -- So is the version.
    pub asked_version : Reached s xs (λ h. (h ≡ 0) × (key xs ≡ version)) → (judged s xs).answer ≡ Answer.Version
    asked_version r = ap (λ (j : Judged). j.answer) (found_at r) ∙ version_told s.inner args r.number (key xs) r.so

    -- and to Normal that of core power.
    pub asked_power_version : s.inner.caller.world ≡ normal → Reached s xs (λ h. (h ≡ 2) × (key xs ≡ power_version)) → (judged s xs).answer ≡ Answer.PowerVersion
    asked_power_version n r = ap (λ (j : Judged). j.answer) (found_at r) ∙ power_version_told s.inner args r.number (key xs) r.so n

    -- Whether a call is known is told by these two lists.
    pub asked_features : Reached s xs (λ h. (h ≡ 0) × (key xs ≡ features)) → (judged s xs).answer ≡ (affirmed (one_of (asked args) (0x80000000 ∷ 0x80000001 ∷ []))).answer
    asked_features r = ap (λ (j : Judged). j.answer) (found_at r) ∙ feature_told s.inner args r.number (key xs) r.so

    pub asked_power_features : s.inner.caller.world ≡ normal → Reached s xs (λ h. (h ≡ 2) × (key xs ≡ power_features))
        → (judged s xs).answer ≡ (affirmed (one_of (asked args) (0x84000000 ∷ 0x84000002 ∷ 0x84000003 ∷ 0xC4000003 ∷ 0x84000004 ∷ 0xC4000004 ∷ 0x8400000A ∷ 0x80000000 ∷ []))).answer
    asked_power_features n r = ap (λ (j : Judged). j.answer) (found_at r) ∙ power_feature_told s.inner args r.number (key xs) r.so n

    -- What Normal asks for of a core is done: that it goes OFF,
    pub asked_off : s.inner.caller.world ≡ normal → Reached s xs (λ h. (h ≡ 2) × (key xs ≡ core_off)) → (judged s xs).deed ≡ GoOff
    asked_off e r = ap (λ (j : Judged). j.deed) (found_at r) ∙ off_done s.inner args r.number (key xs) r.so e

    -- and a hand-over;
    pub asked_hand_over : (to : ℕ) → s.inner.caller.world ≡ normal → Reached s xs (λ h. HandsTo h (key xs) to) → (judged s xs).deed ≡ HandOver to
    asked_hand_over to e r = ap (λ (j : Judged). j.deed) (found_at r) ∙ hands_done s.inner args r.number (key xs) to e r.so

    -- and so is a finish.
    pub asked_finish : Reached s xs (λ h. Finishes h (key xs) s.inner.caller.world) → (judged s xs).deed ≡ Finish
    asked_finish r = ap (λ (j : Judged). j.deed) (found_at r) ∙ finishes_done s.inner args r.number (key xs) s.inner.caller.world refl r.so
