-- Nothing is cut where it is printed: in a run over lines every number that an answer shows has at most sixteen digits, and its core and world at most two.
use Rattle.std.specs.Prelude.{◌≡◌, refl, true, List, [], ◌∷◌, map, ℕ, ◌+◌, ◌^◌, ◌<◌, ltb, length, get_or}
use Rattle.std.proofs.Math.Path.{sym, ap}
use Rattle.std.proofs.Common.{◌∙◌, ⊎_elim, arith, ltb-true, ltb-false}
use Rattle.rules.specs.Choice.{either}
use Rattle.registers.specs.Registers.{saved, saved_no_number}
use Rattle.cores.specs.Power.{is_on}
use Rattle.cores.specs.Cores.{power, on_count_le, on_count}
use Rattle.mapping.specs.Mapping.{lead_of}
use Rattle.rules.specs.Sizes.{secure, normal, realm}
use Rattle.judgements.specs.Grounds.{Takes}
use Rattle.judgements.specs.Judge.{called_by, args_of}
use Rattle.judgements.proofs.Asked.{called_for, leads_asked, count_asked}
use Rattle.judgements.specs.Decided.{TellsLead, leads, leads_not}
use Rattle.judgements.proofs.Decided.{asked_where, asked_count}
use Rattle.judgements.specs.declared.Answer.TheVariants.{Leads, Count}
use Rattle.judgements.specs.declared.Deed.TheVariants.{Start}
use Rattle.answers.specs.Laws.{written_fits}
use Rattle.calls.specs.Step.{sight, caller_of, judged_in}
use Rattle.calls.specs.Effects.{deed_in, answer_in, results_in}
use Rattle.calls.specs.Left.{power_started, power_off, power_spared}
use Rattle.hex_digits.specs.Hex.{numbers}
use Rattle.parsing.specs.Frame.{status_byte}
use Rattle.lines.specs.Input.{reading}
use Rattle.parsing.specs.declared.Status.{Status}
use Rattle.parsing.specs.declared.Status.TheVariants.{Accepted, NoHex, Unknown, Misplaced, OutOfRange, Clash}
use Rattle.parsing.specs.declared.Frame.{Frame}
use Rattle.parsing.specs.declared.Frame.TheVariants as Frame
use Rattle.frames.specs.Frames.{Machine, first, state_of}
use Rattle.showing.specs.declared.Reply.{Reply}
use Rattle.showing.specs.declared.Reply.TheVariants.{Told, Called}
use Rattle.guarantees.specs.Runs.{Event, byte, next, reply, Taken, replies}
use Rattle.guarantees.specs.Fit.{Fit, fit_next, first_fit}
use Rattle.guarantees.specs.Accepted.{performs, right, inside, may, powers_are}
use Rattle.guarantees.specs.Started.{kind, power_cases, same_or_other}
use Rattle.guarantees.specs.Statements.{running, GivesBack, HeededCall, HeededArrival, HeededOther}
use Rattle.guarantees.proofs.After.{fit_runs}
use Rattle.guarantees.proofs.Steps.{heeded, hands, hands_asked, gives_back, gives_back_asked}
use Rattle.guarantees.specs.Printed.{AllFit, Fits, Narrow, Small, argument_small, eight, first_narrow, led, line_small, turn_cases}

-- ---- an accepted call
module _ (m : Machine) (fit : Fit m) (e : Event) (narrow : Narrow m) (small : Small e) (core : ℕ) (is : e.0 ≡ Frame.Call core) (t : Taken (reply m e)) where
  abbrev found : HeededCall m core e.1 (next m e) (reply m e)
  found = (heeded m fit e).call core is (small.eight core is) t

  -- what its answer writes
  results_fit : (j : ℕ) → get_or (results_in (state_of m) core e.1) j 0 < 2 ^ 64
  results_fit j = written_fits (called_by e.1) (answer_in (state_of m) core e.1) leads_fit count_fit j
    where
      leads_fit : (phys attr : ℕ) → answer_in (state_of m) core e.1 ≡ Leads phys attr → (phys < 2 ^ 64) × (attr < 2 ^ 64)
      leads_fit phys attr a = which (asked_where (sight (state_of m) core) e.1 (leads_asked (sight (state_of m) core) e.1 phys attr a))
        where
          which : TellsLead (lead_of (sight (state_of m) core).inner.own (args_of (called_by e.1) e.1).x1) (judged_in (state_of m) core e.1) → (phys < 2 ^ 64) × (attr < 2 ^ 64)
          which (leads p q l b) =
              let z : Leads p q ≡ Leads phys attr = sym b ∙ a in
              let y : p ≡ phys = cc in
              let x : q ≡ attr = cc in
              led (state_of m).site.window _ _ phys attr ((right m fit e core is t).sound (caller_of (state_of m) core)).formed (l ∙ rw (y, x))
          which (leads_not r b) = let z : ◌≡◌ {A = ℕ} 0 1 = cc in absurd (omega arith)

      count_fit : (n : ℕ) → answer_in (state_of m) core e.1 ≡ Count n → n < 2 ^ 64
      count_fit n a =
          let b = asked_count (sight (state_of m) core) e.1 (may m fit e core is t) (count_asked (sight (state_of m) core) e.1 n a) in
          let z : Count n ≡ Count (on_count m.powers) = sym a ∙ b in
          let y : n ≡ on_count m.powers = cc in
          omega (arith, y, on_count_le m.powers)

  -- the caller's numbers
  own_narrow : (j : ℕ) → saved (next m e).saved core (running m core) j < 2 ^ 64
  own_narrow j =
      let n = length (results_in (state_of m) core e.1) in
      either (ltb j n) (λ y. rw (found.results j (ltb-true j n y)) (results_fit j))
      (λ y. either (ltb j 8) (λ z. rw (found.unlisted j (ltb-false j n y) (ltb-true j 8 z)) (small.numbers j))
      (λ z. same_or_other j 8 (λ q. rw (q, found.start_stays) (narrow.numbers core (running m core) 8))
      (λ q. rw (saved_no_number (next m e).saved core (running m core) j (omega (arith, ltb-false j 8 z))) (omega arith))))

  -- Normal's, after a finish
  returned_narrow : GivesBack m core e.1 → (j : ℕ) → saved (next m e).saved core normal j < 2 ^ 64
  returned_narrow a j =
      ⊎_elim
      (λ (y : running m core ≡ secure).
      either (ltb j 4) (λ z. rw (found.finished_secure j a y (ltb-true j 4 z)) (small.numbers (1 + j))) (λ z. rw (found.rest_secure j a y (ltb-false j 4 z)) (narrow.numbers core normal j)))
      (λ (y : running m core ≡ realm).
      either (ltb j 5) (λ z. rw (found.finished_realm j a y (ltb-true j 5 z)) (small.numbers (1 + j))) (λ z. rw (found.rest_realm j a y (ltb-false j 5 z)) (narrow.numbers core normal j)))
      (found.finished_by a)

  -- another world's
  other_narrow : (w j : ℕ) → (running m core ≡ w → ⊥) → saved (next m e).saved core w j < 2 ^ 64
  other_narrow w j n =
      turn_cases (deed_in (state_of m) core e.1)
      (λ to d. let a = hands_asked m fit e core is t to d in
      same_or_other to w
      (λ q. rw (← q) (either (ltb j 8) (λ y. rw (found.handed to j a (ltb-true j 8 y)) (small.numbers j)) (λ y. rw (found.handed_rest to j a (ltb-false j 8 y)) (narrow.numbers core to j))))
      (λ q. rw (found.handed_others to w j a n q) (narrow.numbers core w j)))
      (λ d. let a = gives_back_asked m fit e core is t d in
      same_or_other normal w
      (λ q. rw (← q) (returned_narrow a j))
      (λ q. rw (found.finished_others w j a n q) (narrow.numbers core w j)))
      (λ h f. rw (found.other_worlds w j n (λ to a. h to (hands m fit e core is t to a)) (λ a. f (gives_back m fit e core is t a))) (narrow.numbers core w j))

  call_powers : (c : ℕ) → ((power (next m e).powers c).start < 2 ^ 64) × ((power (next m e).powers c).context < 2 ^ 64)
  unfolding args_of
  call_powers c =
      let r = right m fit e core is t in
      let was : ((power m.powers c).start < 2 ^ 64) × ((power m.powers c).context < 2 ^ 64) = (narrow.starts c, narrow.contexts c) in
      rw (powers_are m fit e core is t) (
      power_cases (deed_in (state_of m) core e.1)
      (λ k a x d. same_or_other c k
      (λ z. let v = called_for (sight (state_of m) core) e.1 (Start k a x) (λ n. omega (arith, ap kind n)) d in
      rw (z, power_started (state_of m) core e.1 k a x d r.whole.powers_whole r.few_cores, v.so.1.0.1.0, v.so.1.0.1.1)
      (argument_small (called_by e.1) _ (small.numbers 2), argument_small (called_by e.1) _ (small.numbers 3)))
      (λ n. rw (power_spared (state_of m) core e.1 c (λ b y q. n (let p : Start c b y ≡ Start k a x = sym q ∙ d in cc)) (λ q. absurd (omega (arith, ap kind (sym d ∙ q))))) was))
      (λ d. same_or_other c core
      (λ z. rw (z, power_off (state_of m) core e.1 d r.whole.powers_whole (inside m fit e core is t) (performs m fit e core is t).on) (narrow.starts core, narrow.contexts core))
      (λ n. rw (power_spared (state_of m) core e.1 c (λ b y q. omega (arith, ap kind (sym q ∙ d))) (λ q. n)) was))
      (λ a b. rw (power_spared (state_of m) core e.1 c (λ p y q. a c p y q) (λ q. absurd (b q))) was))

  call_narrow : Narrow (next m e)
  call_narrow =
      record {
        numbers = λ c w j.
            same_or_other core c
            (λ z. rw (← z) (same_or_other (running m core) w (λ y. rw (← y) (own_narrow j)) (λ n. other_narrow w j n)))
            (λ n. rw (found.other_cores c w j n) (narrow.numbers c w j));
        starts = λ c. (call_powers c).0;
        contexts = λ c. (call_powers c).1;
      }

  -- what it shows
  call_fits : Narrow (next m e) → Fits (reply m e)
  call_fits after =
      either (is_on (power (next m e).powers core))
      (λ y. rw (found.shown_if_on y) ((omega (arith, inside m fit e core is t), world_small y), ((after.numbers core _ 0, after.numbers core _ 1), (after.numbers core _ 2, after.numbers core _ 3))))
      (λ n. rw (found.shown_off n) ((omega (arith, inside m fit e core is t), omega arith), ((after.numbers core normal 0, after.numbers core normal 1), (after.numbers core normal 2, after.numbers core normal 3))))
    where
      world_small : is_on (power (next m e).powers core) ≡ true → running (next m e) core < 256
      world_small y =
          ⊎_elim (λ (k : running (next m e) core ≡ normal). omega arith)
          (λ (k : Takes (running (next m e) core)). ⊎_elim (λ (k : running (next m e) core ≡ secure). omega arith) (λ (k : running (next m e) core ≡ realm). omega arith) k)
          (fit_runs (next m e) (fit_next m e fit) core y)

-- ---- any line
module _ (m : Machine) (fit : Fit m) (e : Event) (narrow : Narrow m) (small : Small e) where
  arrival_narrow : (core : ℕ) → HeededArrival m core (next m e) → Narrow (next m e)
  arrival_narrow core a =
      record {
        numbers = λ c w j.
            same_or_other core c
            (λ y. same_or_other normal w (λ z. rw (← y, ← z) (normal_narrow j)) (λ n. rw (a.other_numbers c w j (λ q. n)) (narrow.numbers c w j)))
            (λ n. rw (a.other_numbers c w j (λ q z. n q)) (narrow.numbers c w j));
        starts = λ c. same_or_other c core (λ z. rw (z, a.core_is_on) (narrow.starts core)) (λ n. rw (a.other_power c n) (narrow.starts c));
        contexts = λ c. same_or_other c core (λ z. rw (z, a.core_is_on) (narrow.contexts core)) (λ n. rw (a.other_power c n) (narrow.contexts c));
      }
    where
      normal_narrow : (j : ℕ) → saved (next m e).saved core normal j < 2 ^ 64
      normal_narrow j =
          same_or_other j 0 (λ z. rw (z, a.context) (narrow.contexts core))
          (λ n. either (ltb j 8) (λ y. rw (a.zeros j (omega arith) (ltb-true j 8 y)) (omega arith))
          (λ y. same_or_other j 8 (λ z. rw (z, a.start) (narrow.starts core))
          (λ k. rw (saved_no_number (next m e).saved core normal j (omega (arith, ltb-false j 8 y))) (omega arith))))

  other_line : HeededOther m (next m e) → Narrow (next m e)
  other_line o =
      record {
        numbers = λ c w j. rw o.numbers_stay (narrow.numbers c w j);
        starts = λ c. rw o.power_stays (narrow.starts c);
        contexts = λ c. rw o.power_stays (narrow.contexts c);
      }

  -- a line that is answered by a status
  told_narrow : (why : Status) → reply m e ≡ Told why → Narrow (next m e)
  told_narrow why k = by_status why k
    where
      same : (next m e ≡ m) → Narrow (next m e)
      same q = rw q narrow

      by_frame : (f : Frame) → e.0 ≡ f → reply m e ≡ Told Accepted → Narrow (next m e)
      by_frame (Frame.Arrival core) is q = arrival_narrow core ((heeded m fit e).arrival core is q)
      by_frame (Frame.Call core) is q = absurd ((heeded m fit e).call_told core is q)
      by_frame (Frame.Site base pages count) is q = other_line ((heeded m fit e).other (λ c z. omega (arith, ap byte (sym is ∙ z))) (λ c z. omega (arith, ap byte (sym is ∙ z))))
      by_frame (Frame.Entry lowest last type number) is q = other_line ((heeded m fit e).other (λ c z. omega (arith, ap byte (sym is ∙ z))) (λ c z. omega (arith, ap byte (sym is ∙ z))))
      by_frame (Frame.Name lowest count to) is q = other_line ((heeded m fit e).other (λ c z. omega (arith, ap byte (sym is ∙ z))) (λ c z. omega (arith, ap byte (sym is ∙ z))))
      by_frame (Frame.Refused r) is q = other_line ((heeded m fit e).other (λ c z. omega (arith, ap byte (sym is ∙ z))) (λ c z. omega (arith, ap byte (sym is ∙ z))))

      by_status : (why : Status) → reply m e ≡ Told why → Narrow (next m e)
      by_status Accepted q = by_frame e.0 refl q
      by_status NoHex q = same ((heeded m fit e).refused_frame NoHex q (λ z. omega (arith, ap status_byte z)))
      by_status Unknown q = same ((heeded m fit e).refused_frame Unknown q (λ z. omega (arith, ap status_byte z)))
      by_status Misplaced q = same ((heeded m fit e).refused_frame Misplaced q (λ z. omega (arith, ap status_byte z)))
      by_status OutOfRange q = same ((heeded m fit e).refused_frame OutOfRange q (λ z. omega (arith, ap status_byte z)))
      by_status Clash q = same ((heeded m fit e).refused_frame Clash q (λ z. omega (arith, ap status_byte z)))

  -- a line that is answered as a call is one
  shown_call : {P : Type 0} → Taken (reply m e) → ((core : ℕ) → e.0 ≡ Frame.Call core → P) → P
  shown_call {P} t f = by_frame e.0 refl
    where
      not_call : {g : Frame} → e.0 ≡ g → (byte g ≡ 0x20 → ⊥) → ⊥
      not_call is n = (heeded m fit e).other_told (λ c z. n (ap byte (sym is ∙ z))) t

      by_frame : (g : Frame) → e.0 ≡ g → P
      by_frame (Frame.Call core) is = f core is
      by_frame (Frame.Arrival core) is = absurd (not_call is (λ z. omega arith))
      by_frame (Frame.Site base pages count) is = absurd (not_call is (λ z. omega arith))
      by_frame (Frame.Entry lowest last type number) is = absurd (not_call is (λ z. omega arith))
      by_frame (Frame.Name lowest count to) is = absurd (not_call is (λ z. omega arith))
      by_frame (Frame.Refused r) is = absurd (not_call is (λ z. omega arith))

  line_fits : Narrow (next m e) × Fits (reply m e)
  line_fits = by_reply (reply m e) refl
    where
      by_reply : (r : Reply) → reply m e ≡ r → Narrow (next m e) × Fits r
      by_reply (Told why) k = (told_narrow why k, tt)
      by_reply (Called c world x) k =
          let t : Taken (reply m e) = λ why q. let y : Told why ≡ Called c world x = sym q ∙ k in let z : ◌≡◌ {A = ℕ} 0 1 = cc in omega arith in
          shown_call t (λ core is. let n = call_narrow m fit e narrow small core is t in (n, rw k at (call_fits m fit e narrow small core is t n)))

-- ---- any run over lines
fits_after : (lines : List (List ℕ)) (m : Machine) → Fit m → Narrow m → AllFit (replies m (map reading lines))
unfolding AllFit replies
fits_after [] m fit narrow = tt
fits_after (l ∷ rest) m fit narrow =
    let e = reading l in
    let f = line_fits m fit e narrow (line_small l) in
    (f.1, fits_after rest (next m e) (fit_next m e fit) f.0)

pub fits_first : (lines : List (List ℕ)) → AllFit (replies first (map reading lines))
fits_first lines = fits_after lines first first_fit first_narrow
