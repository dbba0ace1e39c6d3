-- Runs: the machine after any lines, and the answers to them; and any run whose every step is one that the step's promise allows.
use Rattle.std.specs.Prelude.{◌≡◌, refl, List, [], ◌∷◌, ℕ, length}
use Rattle.std.proofs.Common.{ap, ◌∙◌}
use Rattle.rules.specs.Agree.{agree}
use Rattle.parsing.specs.declared.Status.{Status}
use Rattle.parsing.specs.declared.Frame.{Frame}
use Rattle.parsing.specs.declared.Frame.TheVariants as Frame
use Rattle.frames.specs.Frames.{Machine, framed}
use Rattle.showing.specs.declared.Reply.{Reply}
use Rattle.showing.specs.declared.Reply.TheVariants.{Told}
unfoldable pub use Rattle.inputs.specs.Run.{reached as ran}
pub use Rattle.inputs.specs.Run.{reached_two as ran-two}

-- a line as it is read: its frame, and the eight numbers of a call
abbrev pub Event : Type 0
Event = Frame × List ℕ

abbrev pub Events : Type 0
Events = List Event

-- the first byte of a frame, by which its kind is known; 0 where there is no frame
abbrev pub byte : Frame → ℕ
byte (Frame.Site base pages cores) = 0x11
byte (Frame.Entry lowest last type number) = 0x10
byte (Frame.Name lowest count to) = 0x12
byte (Frame.Call core) = 0x20
byte (Frame.Arrival core) = 0x21
byte (Frame.Refused why) = 0

-- the machine after a line, and the answer to it
abbrev pub next : Machine → Event → Machine
next m e = (framed m e.0 e.1).0

abbrev pub reply : Machine → Event → Reply
reply m e = (framed m e.0 e.1).1

-- an answer that is no status: the line is an accepted call
abbrev pub Taken : Reply → Type 0
Taken answer = (why : Status) → answer ≡ Told why → ⊥

-- the answers to a run, in order; the machine after it is `ran`
unfoldable pub replies : Machine → Events → List Reply
replies m [] = []
replies m (e ∷ rest) = reply m e ∷ replies (next m e) rest

-- ---- what the promise allows
-- a step to this machine with this answer is one that the promise of the step over frames allows
abbrev pub Allowed : Machine → Event → Machine → Reply → Type 0
Allowed m e after answer = (after, answer) ≡ framed m e.0 e.1

-- a run of such steps
pub data Follows : Machine → Events → Machine → List Reply → Type 0 where
  stay : {m : Machine} → Follows m [] m []
  go : {m after last : Machine} {e : Event} {rest : Events} {answer : Reply} {more : List Reply}
      → Allowed m e after answer → Follows after rest last more → Follows m (e ∷ rest) last (answer ∷ more)

-- Two steps that the promise allows agree.
pub allowed_agree : (m : Machine) (e : Event) (a b : Machine) (r q : Reply) → Allowed m e a r → Allowed m e b q → (a ≡ b) × (r ≡ q)
allowed_agree m e a b r q h k = let z = agree {A = Machine × Reply} (a, r) (b, q) (framed m e.0 e.1) h k in (ap (λ (o : Machine × Reply). o.0) z, ap (λ (o : Machine × Reply). o.1) z)

-- A run that the promise allows ends in the one machine there is, with the one list of answers there is.
pub follows_is : {m last : Machine} {run : Events} {answers : List Reply} → Follows m run last answers → (last ≡ ran m run) × (answers ≡ replies m run)
unfolding ran replies
follows_is stay = (refl, refl)
follows_is {m} (go {e = e} {rest = rest} {answer = answer} h f) =
    let a = ap (λ (o : Machine × Reply). o.0) h in
    let b = ap (λ (o : Machine × Reply). o.1) h in
    let k = follows_is f in
    (k.0 ∙ ap (λ (q : Machine). ran q rest) a, rw (k.1, a, b))

-- There is such a run.
pub follows_ran : (m : Machine) (run : Events) → Follows m run (ran m run) (replies m run)
unfolding ran replies
follows_ran m [] = stay
follows_ran m (e ∷ rest) = go refl (follows_ran (next m e) rest)

-- So what is true of the run of the definitions is true of whatever keeps the promise.
pub by_following : (P : Machine → List Reply → Type 0) {m last : Machine} {run : Events} {answers : List Reply}
    → Follows m run last answers → P (ran m run) (replies m run) → P last answers
by_following P f h = let k = follows_is f in rw (k.0, k.1) h

-- Every line gets one answer.
pub replies_count : (m : Machine) (run : Events) → length (replies m run) ≡ length run
unfolding replies
replies_count m [] = refl
replies_count m (e ∷ rest) = rw (replies_count (next m e) rest)

-- ---- what is so at the start and kept by every line is so after any run
pub always : (P : Machine → Type 0) → ((m : Machine) (e : Event) → P m → P (next m e)) → (m : Machine) (run : Events) → P m → P (ran m run)
unfolding ran
always P step m [] h = h
always P step m (e ∷ rest) h = always P step (next m e) rest (step m e h)
