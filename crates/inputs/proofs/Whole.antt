-- What a feed comes to: the lines up to where it stopped are answered. Where every answer has room these are all the complete lines.
use Rattle.std.specs.Prelude.{◌≡◌, refl, eqb, take, drop}
use Rattle.std.proofs.Math.Path.{sym, ap}
use Rattle.std.proofs.Common.{◌∙◌, length-append, take-append-drop, ltb-true, ltb-false, eqb-true}
use mathlib.Core.List.{List, [], ◌∷◌, ◌++◌, append-nil, append_assoc}
use Prim.Native.Nat.{ℕ, zero, suc, ◌+◌, ◌-◌, ◌*◌, ◌≤◌}
use native.Mathlib.Omega.{arith}
use Rattle.std.proofs.Math.ListN.{length, length-drop}
use Rattle.std.proofs.Math.Seq.{length-take-le}
use Rattle.std.proofs.lemmas.Bool.{eqb-false}
use Rattle.lines.specs.Next.{Line}
use Rattle.rules.specs.Choice.{chosen, either}
use Rattle.tools.specs.Laid.{put, laid, put_fits, laid_append, length_laid}
use Rattle.parsing.specs.Frame.{is_call, no_call, parsed_frame}
use Rattle.text.specs.Text.{longest}
use Rattle.lines.specs.Meant.{meant_none, meant_first}
use Rattle.lines.specs.Lines.{end_of, line_at, next_of, Unbroken, line_unbroken, rest_unbroken, end_from}
use Rattle.lines.specs.Input.{reading, readings, reading_of, Found, next_found, next_unfinished, next_inside}
use Rattle.lines.specs.Parts.{complete}
use Rattle.parsing.specs.declared.Frame.{Frame}
use Rattle.frames.specs.Frames.{Machine, framed}
use Rattle.answering.specs.Answer.{text_of, numbers_idle, text_short, text_told}
use Rattle.inputs.specs.Folds.{left_none, left_first, lines_left}
use Rattle.inputs.specs.Run.{answers, printed, left_by, turned, printed_none}
use Rattle.inputs.specs.Parts.{lines_printed}
use Rattle.inputs.specs.Cut.{unbroken_so, line_complete, parted, line_more}
use Rattle.inputs.specs.Fed.{Stand, stand, full, stepped, fed_in, fed, by_next}
use Rattle.inputs.specs.Whole.{Answers, Through}

-- ---- one line by itself
module _ (m : Machine) (l : List ℕ) (u : Unbroken l) where
  line_read : readings (l ++ 10 ∷ []) ≡ reading l ∷ []
  line_read = meant_first reading l [] u ∙ ap (λ (r : List (Frame × List ℕ)). reading l ∷ r) (meant_none reading)

  pub line_printed : printed m (l ++ 10 ∷ []) ≡ text_of (framed m (reading l).0 (reading l).1).1
  unfolding printed answers
  line_printed = rw line_read (append-nil (text_of (framed m (reading l).0 (reading l).1).1))

  pub line_left : left_by m (l ++ 10 ∷ []) ≡ (framed m (reading l).0 (reading l).1).0
  line_left = left_first turned reading m l [] u ∙ left_none turned reading (framed m (reading l).0 (reading l).1).0

-- a line has at least a fifth of its answer's bytes, with its newline: only a call has more than five, and a call has 132 digits
line_few : (m : Machine) (l : List ℕ) (f : Frame) (xs ys : List ℕ) → (f, ys) ≡ Rattle.parsing.specs.Frame.parsed l xs → length (text_of (framed m f ys).1) ≤ 5 * (length l + 1)
line_few m l f xs ys p =
    either (eqb (length l) 132)
    (λ y. let e : length l ≡ 132 = eqb-true _ _ y in let t = text_short (framed m f ys).1 in omega arith)
    (λ n. let t = text_told m f ys (ap is_call (parsed_frame l xs ys f p) ∙ no_call l (eqb-false (length l) 132 n)) in omega arith)

module _ (s : List ℕ) (m : Machine) (out : List ℕ) where
  pub answers_none : Answers s m out (stand m 0 0 out)
  unfolding complete laid
  answers_none =
      record { lines = refl; inside = omega arith; machine = sym (left_none turned reading m); done = rw printed_none; out = rw printed_none; room = omega arith; few = omega arith }

  module _ (d : Stand) (a : Answers s m out d) (f : Frame) (after : ℕ) (xs : List ℕ) (line : (Line f after, xs) ≡ next_of s d.read []) (h : longest ≤ length d.out - d.done) where
    found : Found s d.read [] f after xs
    found = next_found s [] xs d.read f after line

    l : List ℕ
    l = line_at s d.read

    text : List ℕ
    text = text_of (framed d.machine f xs).1

    before : List ℕ
    before = printed m (take d.read s)

    read_so : framed d.machine (reading l).0 (reading l).1 ≡ framed d.machine f xs
    unfolding l
    read_so =
        ap (λ (q : Frame × List ℕ). framed d.machine q.0 q.1) (reading_of (line_at s d.read) [] xs f found.is) ∙ numbers_idle d.machine f xs

    bytes : take after s ≡ complete (take d.read s) ++ (l ++ 10 ∷ [])
    unfolding l
    bytes = rw (found.next, a.lines) (line_more s d.read found.whole)

    prints : printed m (take after s) ≡ before ++ text
    unfolding l text before
    prints =
        ap (printed m) bytes ∙ lines_printed m (take d.read s) (line_at s d.read ++ 10 ∷ [])
        ∙ rw (a.lines, ← a.machine, line_printed d.machine (line_at s d.read) (line_unbroken s d.read), read_so)

    leaves : left_by m (take after s) ≡ (framed d.machine f xs).0
    unfolding l
    leaves =
        ap (left_by m) bytes ∙ lines_left turned reading m (take d.read s) (line_at s d.read ++ 10 ∷ [])
        ∙ rw (a.lines, ← a.machine, line_left d.machine (line_at s d.read) (line_unbroken s d.read), read_so)

    size : length d.out ≡ length out
    size = ap length a.out ∙ length_laid out 0 (printed m (take d.read s))

    short : length text ≤ longest
    unfolding text
    short = text_short (framed d.machine f xs).1

    fits : put d.out d.done text ≡ (d.done + length text, laid d.out d.done text)
    fits = sym (put_fits d.out d.done text (length text) refl (laid d.out d.done text) (omega (arith, short, a.room, size)) refl)

    all_laid : laid d.out d.done text ≡ laid out 0 (printed m (take after s))
    unfolding before
    all_laid =
        let z : d.done ≡ 0 + length (printed m (take d.read s)) = omega (arith, a.done) in
        ap (λ (o : List ℕ). laid o d.done text) a.out ∙ ap (λ (n : ℕ). laid (laid out 0 (printed m (take d.read s))) n text) z
        ∙ laid_append (printed m (take d.read s)) text out 0 ∙ ap (laid out 0) (sym prints)

    all_done : d.done + length text ≡ length (printed m (take after s))
    unfolding before
    all_done = ap (λ (n : ℕ). n + length text) a.done ∙ sym (length-append (printed m (take d.read s)) text) ∙ ap length (sym prints)

    pub answers_more : Answers s m out (stepped d f after xs)
    unfolding text l
    answers_more =
        let i = next_inside s [] xs d.read f after line in
        let w = line_few d.machine (line_at s d.read) f [] xs found.is in
        let g = length-take-le (end_of s d.read - d.read) (drop d.read s) (omega (arith, found.whole, length-drop d.read s)) in
        let e = end_from s d.read in
        let t = text_short (framed d.machine f xs).1 in
        let b = bytes ∙ sym (append_assoc (complete (take d.read s)) (line_at s d.read) (10 ∷ [])) in
        record {
          lines = ap complete b ∙ line_complete (complete (take d.read s) ++ line_at s d.read) ∙ sym b;
          inside = i.1;
          machine = sym leaves;
          done = ap (λ (q : ℕ × List ℕ). q.0) fits ∙ all_done;
          out = ap (λ (q : ℕ × List ℕ). q.1) fits ∙ all_laid;
          room = rw fits (omega (arith, a.room, size));
          few = rw fits (omega (arith, a.few, found.next));
        }

  answers_in : (n : ℕ) (d : Stand) → Answers s m out d → Answers s m out (fed_in n s d)
  unfolding fed_in
  answers_in zero d a = a
  answers_in (suc n) d a =
      chosen (Answers s m out) (full d) d _ (λ y. a)
      (λ k. by_next s (Answers s m out) d (fed_in n s) (λ xs e. a)
      (λ f after xs e. answers_in n (stepped d f after xs) (answers_more d a f after xs (sym e) (ltb-false _ _ k)))
      (next_of s d.read []) refl)

through_in : (s : List ℕ) (n : ℕ) (d : Stand) → length s - d.read ≤ n → Through s (fed_in n s d)
unfolding fed_in
through_in s zero d h = λ g. rest_unbroken s d.read (let e = end_from s d.read in omega arith)
through_in s (suc n) d h =
    chosen (Through s) (full d) d _ (λ y g. absurd (omega (arith, ltb-true (length d.out - d.done) longest y)))
    (λ k. by_next s (Through s) d (fed_in n s) (λ xs e g. rest_unbroken s d.read (next_unfinished s [] xs d.read (sym e)).0)
    (λ f after xs e. let i = next_inside s [] xs d.read f after (sym e) in through_in s n (stepped d f after xs) (omega arith))
    (next_of s d.read []) refl)

module _ (s : List ℕ) (m : Machine) (out : List ℕ) where
  -- The lines up to where a feed from the front stops are answered, and no other.
  pub fed_answers : Answers s m out (fed s (stand m 0 0 out))
  unfolding fed
  fed_answers = answers_in s m out (length s - 0) (stand m 0 0 out) (answers_none s m out)

  -- Where the longest answer still fits, it leaves nothing but a line that lacks its newline.
  pub fed_through : let d = fed s (stand m 0 0 out) in longest ≤ length d.out - d.done → Unbroken (drop d.read s)
  unfolding fed
  fed_through = through_in s (length s - 0) (stand m 0 0 out) (omega arith)

  -- Where there is room for five bytes for each byte that is read, and for one answer more, every complete line is answered.
  pub fed_whole : 5 * length s + longest ≤ length out
      → fed s (stand m 0 0 out) ≡ stand (left_by m (complete s)) (length (complete s)) (length (printed m (complete s))) (laid out 0 (printed m (complete s)))
  fed_whole h =
      let d = fed s (stand m 0 0 out) in
      let a = fed_answers in
      let z : length d.out ≡ length out = ap length a.out ∙ length_laid out 0 (printed m (take d.read s)) in
      let u = fed_through (omega (arith, a.few, a.inside)) in
      let p = parted (take d.read s) (drop d.read s) a.lines (unbroken_so (drop d.read s) u) in
      let e : complete s ≡ take d.read s = ap complete (sym (take-append-drop d.read s)) ∙ p.lines in
      let r : d.read ≡ length (take d.read s) = sym (length-take-le d.read s a.inside) in
      rw e (alike a.machine r a.done a.out)
    where
      alike : {n n' : Machine} {r r' k k' : ℕ} {o o' : List ℕ} → n ≡ n' → r ≡ r' → k ≡ k' → o ≡ o' → stand n r k o ≡ stand n' r' k' o'
      alike a b c d = rw (a, b, c, d)

  -- Then what is printed for them fits.
  pub printed_fits : 5 * length s + longest ≤ length out → length (printed m (complete s)) ≤ length out
  printed_fits h = omega (arith, ap (λ (d : Stand). d.done) (fed_whole h), fed_answers.room)
