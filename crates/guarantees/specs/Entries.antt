-- Which ledger entries a run has accepted, and that a call reaches the handler of the one that covers it, or nobody.
use Rattle.std.specs.Prelude.{◌≡◌, refl, Bool, true, false, List, [], ◌∷◌, ◌++◌, ℕ, Ok}
use Rattle.std.proofs.Common.{sym, ap, ◌∙◌, ⊎_elim}
use Rattle.rules.specs.Choice.{pick, pick_yes, pick_no}
use Rattle.identifiers.specs.Identifier.{admitted}
use Rattle.ledger.specs.Ledger.{handler}
use Rattle.ledger.specs.Only.{only}
use Rattle.ledger.specs.OneHandler.{Attempt, One, answer, accepted, covers}
use Rattle.ledger.proofs.OneHandler.{one_handler}
use Rattle.ledger.specs.OneHandler as OneHandler
use Rattle.rules.specs.Sizes.{secure, normal, realm}
use Rattle.judgements.specs.Judge.{called_by, args_of, found, one_of, callers}
use Rattle.judgements.specs.Grounds.{Calls, Takes}
use Rattle.judgements.specs.Asked.{key}
use Rattle.judgements.proofs.Asked.{judged_found}
use Rattle.calls.specs.Step.{State, sight, caller_of, judged_in, called, applied}
use Rattle.parsing.specs.declared.Status.{Status}
use Rattle.parsing.specs.declared.Status.TheVariants.{Accepted, NoHex, Unknown, Misplaced, OutOfRange, Clash}
use Rattle.parsing.specs.declared.Frame.{Frame}
use Rattle.parsing.specs.declared.Frame.TheVariants as Frame
use Rattle.calling.specs.Calling.{performed}
use Rattle.frames.specs.Frames.{Machine, first}
use Rattle.frames.specs.Stays.{framed_by}
use Rattle.showing.specs.declared.Reply.{Reply}
use Rattle.showing.specs.declared.Reply.TheVariants.{Told, Called}
use Rattle.guarantees.specs.Runs.{Event, Events, next, reply, ran}

-- ---- the entries that a run has accepted
-- the entry that a frame asks for
abbrev pub entry_of : Frame → List Attempt
entry_of (Frame.Site base pages cores) = []
entry_of (Frame.Entry lowest last kind number) = record { first = lowest; last = last; kind = kind; number = number } ∷ []
entry_of (Frame.Name lowest count to) = []
entry_of (Frame.Call core) = []
entry_of (Frame.Arrival core) = []
entry_of (Frame.Refused why) = []

abbrev pub is_fine : Status → Bool
is_fine Accepted = true
is_fine NoHex = false
is_fine Unknown = false
is_fine Misplaced = false
is_fine OutOfRange = false
is_fine Clash = false

-- the answer is 00
abbrev pub fine : Reply → Bool
fine (Told why) = is_fine why
fine (Called core world x) = false

-- in the order of their lines
unfoldable pub entries : Machine → Events → List Attempt
entries m [] = []
entries m (e ∷ rest) = pick (fine (reply m e)) (entry_of e.0) [] ++ entries (next m e) rest

-- ---- one line
data Enters (m : Machine) (l : List Attempt) (o : Machine) : Type 0 where
  none : l ≡ [] → o.ledger ≡ m.ledger → Enters m l o
  one : (a : Attempt) → l ≡ a ∷ [] → answer m.ledger a ≡ (Ok tt) → o.ledger ≡ OneHandler.next m.ledger a → Enters m l o

not_fine : (why : Status) → (why ≡ Accepted → ⊥) → is_fine why ≡ false
not_fine Accepted n = absurd (n refl)
not_fine NoHex n = refl
not_fine Unknown n = refl
not_fine Misplaced n = refl
not_fine OutOfRange n = refl
not_fine Clash n = refl

either_way : {A : Type 0} (b : Bool) (x : A) → pick b x x ≡ x
unfolding pick
either_way true x = refl
either_way false x = refl

enters : (m : Machine) (e : Event) → Enters m (pick (fine (reply m e)) (entry_of e.0) []) (next m e)
unfolding performed called applied
enters m e =
    framed_by m e.1 (λ (g : Frame) (o : Machine × Reply). Enters m (pick (fine o.1) (entry_of g) []) o.0)
    (λ why. none (either_way _ _) refl)
    (λ g why d. none (pick_no _ _ _ (not_fine why d)) refl)
    (λ base pages cores a b. none (either_way _ _) refl)
    (λ lowest last kind number a b c. one _ (pick_yes _ _ _ refl) c refl)
    (λ lowest count to a b c. none (either_way _ _) refl)
    (λ core a b c. none (either_way _ _) refl)
    (λ core a b c. none (either_way _ _) refl)
    e.0

-- ---- over a run
record Ledgered (m : Machine) (run : Events) : Type 0 where
  is : (ran m run).ledger ≡ OneHandler.ran m.ledger (entries m run)
  all : accepted m.ledger (entries m run) ≡ entries m run

ledgered : (run : Events) (m : Machine) → Ledgered m run
unfolding ran entries OneHandler.ran accepted
ledgered [] m = record { is = refl; all = refl }
ledgered (e ∷ rest) m = add (enters m e) (ledgered rest (next m e))
  where
    more : List Attempt
    more = entries (next m e) rest

    add : Enters m (pick (fine (reply m e)) (entry_of e.0) []) (next m e) → Ledgered (next m e) rest → Ledgered m (e ∷ rest)
    add (none l s) k = record { is = rw l (k.is ∙ rw s); all = rw l (ap (λ (t : List ℕ). accepted t more) (sym s) ∙ k.all) }
    add (one a l y s) k =
        record {
          is = rw l (k.is ∙ rw s);
          all = rw l (pick_yes _ _ _ (rw y) ∙ ap (λ (t : List ℕ). a ∷ accepted t more) (sym s) ∙ ap (λ (q : List Attempt). a ∷ q) k.all);
        }

-- Of the entries that a run has accepted, one alone covers a pair of type and owner, and its handler takes the pair's calls; or none does, and nobody takes them.
pub one_entry : (run : Events) (kind owner : ℕ) → One (only (covers kind owner) (entries first run)) (handler (ran first run).ledger kind owner)
one_entry run kind owner = let k = ledgered run first in let h = one_handler (entries first run) kind owner in rw (← k.is, k.all) at h

-- ---- a call reaches what the ledger says
pub is_caller : (w : ℕ) → Calls w → one_of w callers ≡ true
unfolding one_of
is_caller w c =
    ⊎_elim (λ (e : w ≡ normal). rw e)
    (λ (t : Takes w). ⊎_elim (λ (e : w ≡ secure). rw e) (λ (e : w ≡ realm). rw e) t) c

-- A call from a world that may call, whose bits 23 to 17 pass the test, is judged by the handler of its type and owner, and refused where there is none.
pub reaches : (s : State) (core : ℕ) (xs : List ℕ) → Calls (caller_of s core) → admitted (called_by xs) ≡ true
    → judged_in s core xs ≡ found (sight s core).inner (args_of (called_by xs) xs) (key xs) (handler s.ledger (called_by xs).fast (called_by xs).owner)
reaches s core xs c ok = judged_found (sight s core) xs (is_caller (caller_of s core) c) ok
