-- Two states that differ in Realm's numbers and Realm's mappings alone: what one call makes of both, and what a call of Realm's on its own mappings leaves.
use Rattle.std.specs.Prelude.{◌≡◌, refl, ℕ, ◌<◌, ltb, length, get_or}
use Rattle.std.proofs.Common.{sym, ap, ◌∙◌, arith, ltb-true, ltb-false}
use Rattle.std.proofs.Math.Path.{subst}
use mathlib.Core.List.{List}
use Rattle.rules.specs.Choice.{either}
use Rattle.rules.specs.Sizes.{normal, realm, most_cores}
use Rattle.registers.specs.Registers.{Whole, saved, saving, saving_whole, saving_agree}
use Rattle.cores.specs.Cores.{WholeTurns, turn}
use Rattle.mapping.specs.Lists.{WholeLists, held, holding, released, SamePlaces, held_same, holding_places, released_places, holding_both, released_both}
use Rattle.ranges.specs.declared.Mapping.{Mapping}
use Rattle.judgements.specs.Judge.{handler_sight, sighted, judged, called_by, args_of}
use Rattle.judgements.specs.Alike.{OnList, GivesPages, Level}
use Rattle.judgements.proofs.Alike.{judged_same}
use Rattle.judgements.specs.Quiet.{OwnList}
use Rattle.judgements.specs.Asked.{key}
use Rattle.judgements.specs.declared.Deed.{Deed}
use Rattle.judgements.specs.declared.Deed.TheVariants.{Nothing, Move, Map, Unmap, Start, GoOff, HandOver, Finish}
use Rattle.judgements.specs.declared.Judged.{Judged}
use Rattle.answers.specs.Answers.{written, answered_in}
use Rattle.answers.specs.Laws.{answered_whole, answered_other}
use Rattle.deeds.specs.Deeds.{finish_numbers}
use Rattle.calls.specs.Step.{State, state, caller_on, caller_of, judged_in, carried_in, with_answer, applied, called}
use Rattle.calls.specs.Effects.{deed_in, results_in, after, stepped_by, own_results, own_frame, handed_numbers}
use Rattle.calls.specs.Left.{handed_runs, finished_runs}

-- the saved numbers, and the mappings place by place, of every world but Realm
abbrev pub SameNumbers : List ℕ → List ℕ → Type 0
SameNumbers r q = (core world j : ℕ) → (world ≡ realm → ⊥) → saved r core world j ≡ saved q core world j

abbrev pub SameMappings : List ℕ → List ℕ → Type 0
SameMappings k l = (world : ℕ) → (world ≡ realm → ⊥) → SamePlaces world k l

-- a state with other numbers and other mappings
abbrev pub beside : State → List ℕ → List ℕ → State
beside s r k = state s.site s.ledger s.owners r s.powers s.turns k

-- two states that differ in Realm's numbers and mappings alone
pub record Beside (s t : State) : Type 0 where
  pub site : s.site ≡ t.site
  pub ledger : s.ledger ≡ t.ledger
  pub owners : s.owners ≡ t.owners
  pub powers : s.powers ≡ t.powers
  pub turns : s.turns ≡ t.turns
  pub numbers : SameNumbers s.saved t.saved
  pub mappings : SameMappings s.lists t.lists

-- such a state is beside the first where these are the same
stands : (s : State) (r k : List ℕ) → SameNumbers r s.saved → SameMappings k s.lists → Beside (beside s r k) s
stands s r k n m = record { site = refl; ledger = refl; owners = refl; powers = refl; turns = refl; numbers = n; mappings = m }

-- the same numbers written to both leave the same
pub same_saving : (r q : List ℕ) → Whole r → Whole q → SameNumbers r q → (core world : ℕ) (ys : List ℕ) → SameNumbers (saving r core world ys) (saving q core world ys)
same_saving r q a b n core world ys c w j h = saving_agree r q core world ys c w j a b (n c w j h)

-- ---- one deed on both
module _ (s : State) (r k : List ℕ) (core caller : ℕ) (xs : List ℕ) (a : Whole r) (b : Whole s.saved) (c : WholeLists k) (d : WholeLists s.lists)
    (n : SameNumbers r s.saved) (m : SameMappings k s.lists) where
  deed_both : (e : Deed) → Beside (carried_in e (beside s r k) core caller xs) (carried_in e s core caller xs)
  deed_both Nothing = stands s r k n m
  deed_both (Move first count to) = stands (carried_in (Move first count to) s core caller xs) r k n m
  deed_both (Map x) = stands (carried_in (Map x) s core caller xs) r (holding k caller x) n (λ world h. holding_both world k s.lists (m world h) c d caller x)
  deed_both (Unmap virt size) =
      stands (carried_in (Unmap virt size) s core caller xs) r (released k caller virt size) n (λ world h. released_both world k s.lists (m world h) c d caller virt size)
  deed_both (Start target address context) = stands (carried_in (Start target address context) s core caller xs) r k n m
  deed_both GoOff = stands (carried_in GoOff s core caller xs) r k n m
  deed_both (HandOver to) = stands (carried_in (HandOver to) s core caller xs) (saving r core to xs) k (same_saving r s.saved a b n core to xs) m
  deed_both Finish =
      stands (carried_in Finish s core caller xs) (saving r core normal (finish_numbers caller xs)) k (same_saving r s.saved a b n core normal (finish_numbers caller xs)) m

-- ---- one call on both
module _ (s : State) (r k : List ℕ) (core : ℕ) (xs : List ℕ) (m : SameMappings k s.lists) where
  abbrev caller : ℕ
  caller = caller_of s core

  abbrev other : State
  other = beside s r k

  theirs : held k normal ≡ held s.lists normal
  theirs = held_same normal k s.lists (m normal (λ e. omega arith))

  -- Another world than Realm is judged alike,
  pub judged_other : (caller ≡ realm → ⊥) → judged_in other core xs ≡ judged_in s core xs
  judged_other e = let mine : held k caller ≡ held s.lists caller = held_same caller k s.lists (m caller e) in rw (mine, theirs)

  -- and so is Realm in a call that is not on its own list, if a gift of pages is granted in both or in neither.
  pub judged_realm : (OnList (key xs) → ⊥) → (GivesPages (key xs) → Level (judged_in other core xs) (judged_in s core xs)) → judged_in other core xs ≡ judged_in s core xs
  unfolding judged
  judged_realm off =
      subst (λ (q : List Mapping). (GivesPages (key xs) → Level (judged_in other core xs) (by q)) → judged_in other core xs ≡ by q) theirs
      (judged_same s.ledger (caller_on s.site s.turns core) s.powers s.owners (held k caller) (held s.lists caller) (held k normal)
      (called_by xs) (args_of (called_by xs) xs) (key xs) off)
    where
      by : List Mapping → Judged
      by q = judged (sighted s.ledger (handler_sight (caller_on s.site s.turns core) s.powers s.owners (held s.lists caller) q)) xs

  -- What is judged alike
  module _ (a : Whole r) (b : Whole s.saved) (c : WholeLists k) (d : WholeLists s.lists) (n : SameNumbers r s.saved)
      (same : judged_in other core xs ≡ judged_in s core xs) where
    applied_both : (j : Judged) → Beside (applied other core caller xs j) (applied s core caller xs j)
    unfolding applied
    applied_both j =
        let given = same_saving r s.saved a b n core caller xs in
        let answered =
        same_saving (saving r core caller xs) (saving s.saved core caller xs) (saving_whole r core caller xs a) (saving_whole s.saved core caller xs b) given
        core caller (written (called_by xs) j.answer) in
        deed_both (with_answer j.answer s core caller xs) (answered_in r core caller xs j.answer) k core caller xs
        (answered_whole r core caller xs j.answer a) (answered_whole s.saved core caller xs j.answer b) c d answered m j.deed

    -- leaves both alike,
    pub called_both : Beside (after other core xs) (after s core xs)
    unfolding called
    called_both = subst (λ (j : Judged). Beside (applied other core caller xs j) (after s core xs)) (sym same) (applied_both (judged_in s core xs))

    -- and the world that then runs on the core has the same x0 to x7, whichever it is.
    module _ (full : length xs ≡ 8) (h : core < most_cores) (w : caller < 4) (t : WholeTurns s.turns) where
      own_both : (j : ℕ) → j < 8 → saved (after other core xs).saved core caller j ≡ saved (after s core xs).saved core caller j
      own_both j l =
          let e : results_in other core xs ≡ results_in s core xs = ap (λ (i : Judged). written (called_by xs) i.answer) same in
          let u : length (results_in other core xs) ≡ length (results_in s core xs) = ap length e in
          either (ltb j (length (results_in s core xs)))
          (λ y. let z = ltb-true j (length (results_in s core xs)) y in
          own_results other core xs j a h w (omega arith) ∙ ap (λ (l : List ℕ). get_or l j 0) e ∙ sym (own_results s core xs j b h w z))
          (λ y. let z = ltb-false j (length (results_in s core xs)) y in
          own_frame other core xs j a h w (omega arith) (omega arith) (omega arith) ∙ sym (own_frame s core xs j b h w (omega arith) (omega arith) z))

      -- the same number of a world in both, and which world runs
      abbrev Same : ℕ → ℕ → Type 0
      Same j world = saved (after other core xs).saved core world j ≡ saved (after s core xs).saved core world j

      abbrev runs : ℕ
      runs = (turn (after s core xs).turns core).world

      pub running_both : (j : ℕ) → j < 8 → Same j runs
      running_both j l = which (deed_in s core xs) refl
        where
          if_runs : (world : ℕ) → runs ≡ world → Same j world → Same j runs
          if_runs world e g = subst (Same j) (sym e) g

          -- the caller, still
          stays : (e : Deed) → deed_in s core xs ≡ e → (turn (carried_in e (with_answer (judged_in s core xs).answer s core caller xs) core caller xs).turns core).world ≡ caller → Same j runs
          stays e f g = if_runs caller (ap (λ (q : State). (turn q.turns core).world) (stepped_by s core xs e f) ∙ g) (own_both j l)

          which : (e : Deed) → deed_in s core xs ≡ e → Same j runs
          which Nothing f = stays Nothing f refl
          which (Move first count to) f = stays (Move first count to) f refl
          which (Map x) f = stays (Map x) f refl
          which (Unmap virt size) f = stays (Unmap virt size) f refl
          which (Start target address context) f = stays (Start target address context) f refl
          which GoOff f = stays GoOff f refl
          which (HandOver to) f =
              if_runs to (handed_runs s core xs to f t h)
              (handed_numbers other core xs to (ap (λ (i : Judged). i.deed) same ∙ f) j a h full l ∙ sym (handed_numbers s core xs to f j b h full l))
          which Finish f = if_runs normal (finished_runs s core xs f t h) (called_both.numbers core normal j (λ e. omega arith))

-- ---- a call of Realm's on its own mappings
-- it leaves all but Realm's numbers and mappings
pub own_applied : (s : State) (core : ℕ) (xs : List ℕ) (j : Judged) → OwnList j.deed → Beside (applied s core realm xs j) s
unfolding applied
own_applied s core xs j = which j.deed
  where
    numbers : SameNumbers (answered_in s.saved core realm xs j.answer) s.saved
    numbers c u i n = answered_other s.saved core realm xs j.answer c u i (λ e f. n (sym f))

    leaves : (k : List ℕ) → SameMappings k s.lists → Beside (beside s (answered_in s.saved core realm xs j.answer) k) s
    leaves k m = stands s (answered_in s.saved core realm xs j.answer) k numbers m

    which : (d : Deed) → OwnList d → Beside (carried_in d (with_answer j.answer s core realm xs) core realm xs) s
    which Nothing o = leaves s.lists (λ world n i. refl)
    which (Move first count to) o = absurd o
    which (Map m) o = leaves (holding s.lists realm m) (λ world n. holding_places s.lists realm world m n)
    which (Unmap virt size) o = leaves (released s.lists realm virt size) (λ world n. released_places s.lists realm world virt size n)
    which (Start target address context) o = absurd o
    which GoOff o = absurd o
    which (HandOver to) o = absurd o
    which Finish o = absurd o
