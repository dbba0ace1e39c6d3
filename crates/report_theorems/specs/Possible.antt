-- Why each counted pair is a possible one, and has its place in the table.
use Rattle.std.specs.Prelude.{◌≡◌, refl, true, false, List, [], ◌∷◌, ℕ, ◌-◌, ◌≤◌, ◌<◌, eqb}
use Rattle.std.proofs.Common.{sym, ◌∙◌, inl, inr, ⊎_elim, arith, lit≤, eqb-true}
use Rattle.std.proofs.lemmas.Bool.{eqb-false}
use Rattle.rules.specs.Choice.{pick, either}
use Rattle.rules.specs.Sizes.{secure, normal, realm}
use Rattle.rules.specs.Reasons.{minus}
use Rattle.rules.specs.declared.Reason.{Reason}
use Rattle.rules.specs.declared.Reason.TheVariants.{Unserved, Invalid, WrongOwner, AlreadyOn, AlreadyPending, NoPages, Mapped, BadAddress, Full, Overlap, NotOwned, Nowhere, Malformed, NoMapping, Beyond}
use Rattle.identifiers.specs.declared.Parts.{Parts}
use Rattle.cores.specs.Power.{is_on}
use Rattle.cores.specs.Cores.{power, on_count, on_count_le}
use Rattle.judgements.specs.Judge.{called_by}
use Rattle.judgements.specs.Grounds.{Calls, Takes}
use Rattle.judgements.proofs.Asked.{count_asked}
use Rattle.judgements.proofs.Decided.{asked_count}
use Rattle.judgements.specs.declared.Answer.{Answer}
use Rattle.judgements.specs.declared.Answer.TheVariants.{Version, PowerVersion, Done, On, Off, Pending, Owns, Leads, Count, Silent, No}
use Rattle.answers.specs.Answers.{told}
use Rattle.answers.specs.Laws.{negative_short, negative_long}
use Rattle.calls.specs.Step.{sight, caller_of, called}
use Rattle.calls.specs.Effects.{answer_in}
use Rattle.parsing.specs.declared.Frame.{Frame}
use Rattle.frames.specs.Frames.{Machine, first, state_of}
use Rattle.showing.specs.declared.Reply.{Reply}
use Rattle.tallies.specs.Rows.{row_of, rows, row_low, row_power, row_version, row_short, row_long}
use Rattle.counting.specs.Counted.{Line, Counted, counted_one, counted_of, counted_in, counted}
use Rattle.guarantees.specs.Fit.{Fit, first_fit, fit_next}
use Rattle.guarantees.specs.Entries.{is_caller}
use Rattle.guarantees.proofs.After.{fit_runs}
use Rattle.report_theorems.specs.Lists.{Each, Among, each_append, among_each}
use Rattle.report_theorems.specs.Statements.{refusals, Answers, few, power_version, version, short, long, Possible}
use Rattle.report_theorems.specs.ByFrame.{counted_by}

-- ---- the answers
refusal : (r : Reason) → Among (minus r) refusals
unfolding Among
refusal Unserved = inl refl
refusal Invalid = inr (inl refl)
refusal WrongOwner = inr (inr (inl refl))
refusal AlreadyOn = inr (inr (inr (inl refl)))
refusal AlreadyPending = inr (inr (inr (inr (inl refl))))
refusal NoPages = inr (inr (inr (inr (inl refl))))
refusal Mapped = inr (inr (inr (inr (inr (inl refl)))))
refusal BadAddress = inr (inr (inr (inr (inr (inr (inl refl))))))
refusal Full = inr (inr (inr (inr (inr (inr (inr (inl refl)))))))
refusal Overlap = inl refl
refusal NotOwned = inr (inr (inr (inr (inr (inr (inr (inr (inl refl))))))))
refusal Nowhere = inr (inr (inr (inr (inr (inr (inr (inr (inr (inl refl)))))))))
refusal Malformed = inr (inr (inr (inr (inr (inr (inr (inr (inr (inr (inl refl))))))))))
refusal NoMapping = inr (inr (inr (inr (inr (inr (inr (inr (inr (inr (inl refl))))))))))
refusal Beyond = inr (inr (inr (inr (inr (inr (inr (inr (inr (inr (inr (inl refl)))))))))))

-- a refusal by its width
refused_answers : (p : Parts) (r : Reason) → Answers (told p (No r))
refused_answers p r =
    either (eqb p.wide 0) (λ y. rw (negative_short p (minus r) (eqb-true _ _ y)) (short (minus r) (refusal r)))
    (λ n. rw (negative_long p (minus r) (eqb-false _ _ n)) (long (minus r) (refusal r)))

told_answers : (p : Parts) (a : Answer) → ((n : ℕ) → a ≡ Count n → n ≤ 8) → Answers (told p a)
told_answers p Version c = version
told_answers p PowerVersion c = power_version
told_answers p Done c = few 0 (omega arith)
told_answers p On c = few 0 (omega arith)
told_answers p Off c = few 1 (omega arith)
told_answers p Pending c = few 2 (omega arith)
told_answers p (Owns true) c = few 1 (omega arith)
told_answers p (Owns false) c = few 0 (omega arith)
told_answers p (Leads phys attr) c = few 0 (omega arith)
told_answers p (Count n) c = few n (c n refl)
told_answers p Silent c = few 0 (omega arith)
told_answers p (No r) c = refused_answers p r

-- ---- an accepted call
world_some : (w : ℕ) → Calls w → (1 ≤ w) × (w ≤ 3)
world_some w = ⊎_elim (λ (e : w ≡ normal). (omega arith, omega arith)) (λ (t : Takes w). ⊎_elim (λ (e : w ≡ secure). (omega arith, omega arith)) (λ (e : w ≡ realm). (omega arith, omega arith)) t)

module _ (m : Machine) (fit : Fit m) (core : ℕ) (xs : List ℕ) (on : is_on (power m.powers core) ≡ true) where
  caller_calls : Calls (caller_of (state_of m) core)
  caller_calls = fit_runs m fit core on

  count_few : (n : ℕ) → answer_in (state_of m) core xs ≡ Count n → n ≤ 8
  count_few n a =
      let b = asked_count (sight (state_of m) core) xs (is_caller _ caller_calls) (count_asked (sight (state_of m) core) xs n a) in
      let z : Count n ≡ Count (on_count m.powers) = sym a ∙ b in
      let y : n ≡ on_count m.powers = cc in
      omega (arith, y, on_count_le m.powers)

  call_possible : Possible (counted_one xs (called (state_of m) core xs).1)
  unfolding called
  call_possible =
      record {
        some_world = (world_some _ caller_calls).0;
        last_world = (world_some _ caller_calls).1;
        answer = told_answers (called_by xs) (answer_in (state_of m) core xs) count_few;
      }

-- ---- any line, any lines
of_possible : (m : Machine) → Fit m → (f : Frame) (xs : List ℕ) → Each Possible (counted_of m f xs)
unfolding Each
of_possible m fit f xs =
    counted_by m xs (λ (g : Frame) (o : Machine × Reply) (cs : List Counted). Each Possible cs) (λ g last why. tt) (λ core a b c. (call_possible m fit core xs c, tt)) f

in_possible : (ls : List Line) (m : Machine) → Fit m → Each Possible (counted_in m ls)
unfolding Each counted_in pick
in_possible [] m fit = tt
in_possible ((true, e) ∷ ls) m fit = in_possible ls first first_fit
in_possible ((false, e) ∷ ls) m fit = each_append Possible (counted_of m e.0 e.1) _ (of_possible m fit e.0 e.1) (in_possible ls _ (fit_next m e fit))

pub all_possible : (input : List ℕ) → Each Possible (counted input)
unfolding counted
all_possible input = in_possible _ first first_fit

-- ---- its place
all_small : Each (λ (k : ℕ). (1 ≤ k) × (k ≤ 34)) refusals
unfolding Each
all_small = (
  (lit≤ tt, lit≤ tt),
  (
    (lit≤ tt, lit≤ tt),
    (
      (lit≤ tt, lit≤ tt),
      (
        (lit≤ tt, lit≤ tt),
        (
          (lit≤ tt, lit≤ tt),
          (
            (lit≤ tt, lit≤ tt),
            (
              (lit≤ tt, lit≤ tt),
              (
                (lit≤ tt, lit≤ tt),
                ((lit≤ tt, lit≤ tt), ((lit≤ tt, lit≤ tt), ((lit≤ tt, lit≤ tt), ((lit≤ tt, lit≤ tt), tt)))),
              ),
            ),
          ),
        ),
      ),
    ),
  ),
)

refusal_small : (n : ℕ) → Among n refusals → (1 ≤ n) × (n ≤ 34)
refusal_small n = among_each (λ (k : ℕ). (1 ≤ k) × (k ≤ 34)) n refusals all_small

answers_row : (x : ℕ) → Answers x → row_of x < rows
answers_row x (few n h) = omega (arith, row_low n (omega arith))
answers_row x power_version = omega (arith, row_power 0x10001 (omega arith) refl)
answers_row x version = omega (arith, row_version 0x10003 (omega arith) (λ z. omega arith) refl)
answers_row x (short n h) = let k = refusal_small n h in omega (arith, k.0, k.1, row_short (4294967296 - n) (omega (arith, k.1)) (omega (arith, k.0)))
answers_row x (long n h) = let k = refusal_small n h in omega (arith, k.0, k.1, row_long (18446744073709551616 - n) (omega (arith, k.1)))

-- ---- so it has a place
pub record Placed (c : Counted) : Type 0 where
  pub world : c.0 < 4
  pub row : row_of c.1 < rows

pub placed : (c : Counted) → Possible c → Placed c
placed c p = record { world = omega (arith, p.last_world); row = answers_row c.1 p.answer }
