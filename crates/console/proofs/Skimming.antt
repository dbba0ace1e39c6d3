-- The loop of a feed that prints nothing: a line is taken for what it leaves of the machine.
use Rattle.std.specs.Prelude.{◌≡◌, List, ℕ, None, Option}
use Rattle.std.proofs.Common.{sym, ap, ◌∙◌}
use Rattle.parsing.specs.declared.Frame.{Frame}
use Rattle.lines.specs.Next.{Line}
use Rattle.lines.specs.declared.Next.{Next}
use Rattle.lines.specs.Lines.{line_at, part, next_of}
use Rattle.lines.specs.Input.{reading, reading_of, next_found}
use Rattle.lines.specs.Front.{fronted}
use Rattle.lines.specs.Close.{closing}
use Rattle.showing.specs.declared.Reply.{Reply}
use Rattle.frames.specs.Frames.{Machine, framed}
use Rattle.answering.specs.Answer.{numbers_idle}
use Rattle.inputs.specs.Run.{turned}
use Rattle.inputs.specs.Waiting.{heard, front, taken}
use Rattle.inputs.specs.Feeding.{feeding}
use Rattle.inputs.proofs.Feeding.{feeding_stop, feeding_line, feeds}

module _ (s : List ℕ) (m : Machine) (at : ℕ) (o : ℕ × Machine) (inv : feeding turned reading m at s ≡ o) (next : Option Next) (xs ys : List ℕ) (e : (next, ys) ≡ next_of s at xs) where
  pub stops : next ≡ None → (at, m) ≡ o
  stops is = feeding_stop turned reading m at s next xs ys e is ∙ inv

  pub goes_on : (f : Frame) (after : ℕ) → next ≡ Line f after → (r : Reply) (m' : Machine) → (m', r) ≡ framed m f ys → feeding turned reading m' after s ≡ o
  goes_on f after is r m' g =
      let line : (Line f after, ys) ≡ next_of s at xs = rw is at e in
      let d = next_found s xs ys at f after line in
      let l : List ℕ = line_at s at in
      let w : m' ≡ turned m (reading l) =
      ap (λ (q : Machine × Reply). q.0) (g ∙ sym (numbers_idle m f ys)) ∙ ap (turned m) (sym (reading_of l xs ys f d.is)) in
      rw w (feeding_line turned reading m at s f xs ys after line) ∙ inv

-- ---- a read
pub read_taken : (m m' : Machine) (buf : List ℕ) (kept n end : ℕ) (b : List ℕ) (used kept' : ℕ) (b' : List ℕ)
    → (end, b) ≡ closing buf kept n → (used, m') ≡ feeding turned reading m 0 (part b 0 end) → (kept', b') ≡ fronted b used end
    → (m', front kept' b') ≡ taken turned reading m (heard buf kept n)
read_taken = feeds turned reading
