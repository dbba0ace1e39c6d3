-- What came of a frame, in words.
use Rattle.std.specs.Prelude.{◌≡◌, refl, Bool, true, false, ℕ, eqb}
use Rattle.std.proofs.Common.{eq-eqb, ne_eqb}
use Rattle.rules.specs.Choice.{pick, picked, passed, pick_yes, pick_no}
use Rattle.rules.specs.Sizes.{normal}
use Rattle.rules.specs.Reasons.{minus}
use Rattle.rules.specs.declared.Reason.{Reason}
use Rattle.rules.specs.declared.Reason.TheVariants.{Unserved, Invalid, WrongOwner, AlreadyOn, AlreadyPending, NoPages, Mapped, BadAddress, Full, Overlap, NotOwned, Nowhere, Malformed, NoMapping, Beyond}
use Rattle.judgements.specs.declared.Answer.{Answer}
use Rattle.judgements.specs.declared.Answer.TheVariants as Answer
use Rattle.calls.specs.declared.Made.{Made}
use Rattle.parsing.specs.declared.Status.{Status}
use Rattle.parsing.specs.declared.Status.TheVariants.{Accepted, NoHex, Unknown, Misplaced, OutOfRange, Clash}
use Rattle.outcomes.specs.declared.Came.{Came}
use Rattle.outcomes.specs.declared.Came.TheVariants.{Told, Called}
use Rattle.words.specs.Words as w
use Rattle.phrases.specs.Sentence.{◌▹◌}
use Rattle.phrases.specs.declared.Piece.TheVariants.{Word, Number, Hex, Column}
use Rattle.phrases.specs.declared.Sentence.{Sentence}
use Rattle.asking.specs.Names.{named}
use Rattle.asking.specs.declared.Known.TheVariants.{World, Attributes}

-- ---- tables
abbrev pub reason_word : Reason → ℕ
reason_word Unserved = w.unserved
reason_word Invalid = w.invalid
reason_word WrongOwner = w.wrong_owner
reason_word AlreadyOn = w.already_on
reason_word AlreadyPending = w.already_pending
reason_word NoPages = w.no_pages
reason_word Mapped = w.mapped
reason_word BadAddress = w.bad_address
reason_word Full = w.full
reason_word Overlap = w.overlap
reason_word NotOwned = w.not_owned
reason_word Nowhere = w.nowhere
reason_word Malformed = w.malformed
reason_word NoMapping = w.no_mapping
reason_word Beyond = w.beyond

-- three statuses have words by the frame
abbrev pub status_word : Status → ℕ → ℕ → ℕ → ℕ
status_word Accepted accepted range clash = accepted
status_word NoHex accepted range clash = w.refused71
status_word Unknown accepted range clash = w.refused72
status_word Misplaced accepted range clash = w.wrong_time
status_word OutOfRange accepted range clash = range
status_word Clash accepted range clash = clash

-- no world runs on a core that is OFF
abbrev pub no_world : ℕ
no_world = 255

-- the world that runs then
unfoldable pub turned : Sentence → ℕ → Sentence
turned s world = pick (eqb world no_world) (s ▹ Word w.off) (named s World world ▹ Word w.runs)

-- ---- an answer, and the world that runs on the core then; the word for what is granted is the call's
abbrev pub answered : Sentence → Answer → ℕ → ℕ → Sentence
answered s Answer.Version done now = s ▹ Word w.version
answered s Answer.PowerVersion done now = s ▹ Word w.power_version
answered s Answer.Done done now = s ▹ Word done
answered s Answer.On done now = s ▹ Word w.is_on
answered s Answer.Off done now = s ▹ Word w.is_off
answered s Answer.Pending done now = s ▹ Word w.is_pending
answered s (Answer.Owns b) done now = s ▹ Word (pick b w.owned w.unowned)
answered s (Answer.Leads phys attr) done now = named (s ▹ Word w.leads ▹ Hex phys ▹ Word w.comma) Attributes attr
answered s (Answer.Count n) done now = s ▹ Word w.answered ▹ Number n
answered s Answer.Silent done now = turned s now
answered s (Answer.No r) done now = s ▹ Word w.minus ▹ Number (minus r) ▹ Word w.comma ▹ Word (reason_word r)

-- what came of a frame, in its column
abbrev pub came_said : Sentence → ℕ → ℕ → ℕ → ℕ → Came → ℕ → Sentence
came_said s accepted range clash done (Told why) now = s ▹ Column 72 ▹ Word (status_word why accepted range clash)
came_said s accepted range clash done (Called made) now = answered (s ▹ Column 72) made.answer done now

-- ---- a call that was handed over: nothing is answered, and another world than Normal runs then
abbrev pub is_silent : Answer → Bool
is_silent Answer.Version = false
is_silent Answer.PowerVersion = false
is_silent Answer.Done = false
is_silent Answer.On = false
is_silent Answer.Off = false
is_silent Answer.Pending = false
is_silent (Answer.Owns b) = false
is_silent (Answer.Leads phys attr) = false
is_silent (Answer.Count n) = false
is_silent Answer.Silent = true
is_silent (Answer.No r) = false

abbrev pub handed : Came → ℕ → Bool
handed (Told why) now = false
handed (Called made) now = pick (eqb now normal) false (pick (eqb now no_world) false (is_silent made.answer))

-- ---- how the code's branches meet these
module _ (s r : Sentence) where
  pub owns_yes : (b : Bool) → b ≡ true → r ≡ (s ▹ Word w.owned) → r ≡ answered s (Answer.Owns b) 0 0
  owns_yes b e h = rw (e, pick_yes true w.owned w.unowned) h

  pub owns_no : (b : Bool) → b ≡ false → r ≡ (s ▹ Word w.unowned) → r ≡ answered s (Answer.Owns b) 0 0
  owns_no b e h = rw (e, pick_no false w.owned w.unowned) h

  pub turn_off : (world : ℕ) → world ≡ no_world → r ≡ (s ▹ Word w.off) → r ≡ turned s world
  unfolding turned
  turn_off world e h = picked _ _ _ _ (eq-eqb world no_world e) h

  pub turn_to : (world : ℕ) (t : Sentence) → (world ≡ no_world → ⊥) → t ≡ named s World world → r ≡ (t ▹ Word w.runs) → r ≡ turned s world
  unfolding turned
  turn_to world t n e h = passed _ _ _ _ (ne_eqb world no_world n) (rw (← e) h)

  pub answer_by : (a b : Answer) (done now : ℕ) → a ≡ b → r ≡ answered s b done now → r ≡ answered s a done now
  answer_by a b done now e h = rw e h

pub ruleset answers = (owns_yes, owns_no, turn_off, turn_to, answer_by)

module _ (s t r : Sentence) (accepted range clash done : ℕ) (came : Came) (now : ℕ) (e : t ≡ (s ▹ Column 72)) where
  pub came_told : (why : Status) (k : ℕ) → came ≡ Told why → k ≡ status_word why accepted range clash → r ≡ (t ▹ Word k) → r ≡ came_said s accepted range clash done came now
  came_told why k c f h = rw (c, ← e, ← f) h

  pub came_called : (made : Made) → came ≡ Called made → r ≡ answered t made.answer done now → r ≡ came_said s accepted range clash done came now
  came_called made c h = rw (c, ← e) h

pub ruleset outcomes = (came_told, came_called)

-- ---- how the code's branches meet what was handed over
module _ (came : Came) (now : ℕ) where
  pub handed_told : (why : Status) → came ≡ Told why → false ≡ handed came now
  handed_told why e = rw e

  module _ (made : Made) (e : came ≡ Called made) where
    pub handed_back : now ≡ normal → false ≡ handed came now
    handed_back h = rw e (picked _ _ _ _ (eq-eqb now normal h) refl)

    module _ (m : now ≡ normal → ⊥) where
      pub handed_off : now ≡ no_world → false ≡ handed came now
      handed_off h = rw e (passed _ _ _ _ (ne_eqb now normal m) (picked _ _ _ _ (eq-eqb now no_world h) refl))

      pub handed_on : (b : Bool) → (now ≡ no_world → ⊥) → b ≡ is_silent made.answer → b ≡ handed came now
      handed_on b n h = rw e (passed _ _ _ _ (ne_eqb now normal m) (passed _ _ _ _ (ne_eqb now no_world n) h))

pub ruleset handings = (handed_told, handed_back, handed_off, handed_on)

pub ruleset laws = (answers, outcomes, handings)
