-- What a read calls for: the words of its complete lines, which are to be written, and what waits.
use Rattle.std.specs.Prelude.{◌≡◌, refl, ℕ, suc, ◌+◌, ◌-◌, ◌≤◌, eqb, leb, length, take, None, Option}
use Rattle.std.proofs.Common.{sym, ◌∙◌, arith, length-append, length-take-le}
use Rattle.std.proofs.Math.Path.{ap}
use mathlib.Core.List.{List, [], ◌∷◌}
use Rattle.std.proofs.lemmas.List.{length-map}
use Rattle.lines.specs.Next.{Line}
use Rattle.lines.specs.declared.Next.{Next}
use Rattle.rules.specs.Choice.{chosen}
use Rattle.tools.specs.Laid.{laid, put_take, length_laid}
use Rattle.lines.specs.Lines.{lines_of, before, line_at, part, next_of}
use Rattle.lines.specs.Meant.{meant}
use Rattle.lines.specs.Parts.{complete, unfinished, both_parts}
use Rattle.lines.specs.Input.{reading, reading_of, reading_blind, next_found}
use Rattle.lines.specs.Front.{fronted}
use Rattle.lines.specs.Close.{closing, close_inside}
use Rattle.parsing.specs.declared.Frame.{Frame}
use Rattle.inputs.specs.Folds.{folded, left}
use Rattle.inputs.specs.Feeding.{feeding}
use Rattle.inputs.proofs.Feeding.{feeding_end, feeding_stop, feeding_line, feeds}
use Rattle.inputs.specs.Waiting.{heard, front, sized, taken}
use Rattle.inputs.proofs.Closing.{closed}
use Rattle.inputs.specs.Loop as Loop
use Rattle.inputs.proofs.Loop as Looping
use Rattle.phrases.specs.Text.{longest, told}
use Rattle.tracing.specs.Traced.{Kept, after_line}
use Rattle.views.specs.Views.{shown}
use Rattle.views.specs.declared.View.{View}
use Rattle.explaining.specs.Explained.{told_line, words_of, after_told}
use Rattle.explaining.specs.Laws.{told_idle, all_told, words_short}

-- what is kept, and the space for words with how much of it is taken
abbrev pub Stand : Type 0
Stand = Kept × (ℕ × List ℕ)

-- ---- what is handed over for some bytes
-- what is kept after the complete lines, their words, which are to be written, and what waits: a line that lacks its newline, or its first 133 bytes
unfoldable pub spoken : View → Kept → List ℕ → Kept × ((ℕ × List ℕ) × (ℕ × List ℕ))
spoken v k s = (left after_line reading k (complete s), (sized (words_of v k (meant reading (complete s))), sized (take 133 (unfinished s))))

-- ---- the loop of a feed
module _ (v : View) (s : List ℕ) (k : Stand) (at : ℕ) (o : ℕ × Stand) (inv : feeding (after_told v) reading k at s ≡ o) where
  pub stops_end : length s ≤ at → (at, k) ≡ o
  stops_end h = feeding_end (after_told v) reading k at s h ∙ inv

  module _ (next : Option Next) (xs ys : List ℕ) (e : (next, ys) ≡ next_of s at xs) where
    pub stops_unfinished : next ≡ None → (at, k) ≡ o
    stops_unfinished is = feeding_stop (after_told v) reading k at s next xs ys e is ∙ inv

    pub goes_on : (f : Frame) (after : ℕ) → next ≡ Line f after → (k' : Stand) → k' ≡ after_told v k (f, ys) → feeding (after_told v) reading k' after s ≡ o
    goes_on f after is k' g =
        let line : (Line f after, ys) ≡ next_of s at xs = rw is at e in
        let d = next_found s xs ys at f after line in
        let w : k' ≡ after_told v k (reading (line_at s at)) =
        g ∙ sym (told_idle v k f ys) ∙ ap (after_told v k) (sym (reading_of (line_at s at) xs ys f d.is)) in
        rw w (feeding_line (after_told v) reading k at s f xs ys after line) ∙ inv

pub ruleset stops = (stops_end, stops_unfinished)

-- the space keeps its size
pub space_same : (v : View) (k k' : Kept) (at r : ℕ) (out out' : List ℕ) (e : Frame × List ℕ) → (k', (r, out')) ≡ after_told v (k, (at, out)) e → length out' ≡ length out
unfolding after_told told
space_same v k k' at r out out' e h =
    ap (λ (q : Stand). length q.1.1) h
    ∙ chosen (λ (q : ℕ × List ℕ). length q.1 ≡ length out) (shown v k.0 e) _ _
    (λ y. chosen (λ (q : ℕ × List ℕ). length q.1 ≡ length out) (leb (at + longest) (length out)) _ _ (λ z. length_laid out at (told_line k e)) (λ n. refl)) (λ n. refl)

-- ---- there are no more lines than bytes
before_few : (b : ℕ) (ls : List (List ℕ)) (n : ℕ) → length ls ≤ n → length (before b ls) ≤ suc n
unfolding before
before_few b [] n h = omega arith
before_few b (l ∷ ls) n h = omega arith

lines_few : (s : List ℕ) → length (lines_of s) ≤ length s
unfolding lines_of
lines_few [] = omega arith
lines_few (b ∷ s) = chosen (λ (ls : List (List ℕ)). length ls ≤ suc (length s)) (eqb b 10) _ _ (λ y. omega (arith, lines_few s)) (λ n. before_few b (lines_of s) (length s) (lines_few s))

meant_few : (s : List ℕ) → length (meant reading s) ≤ length s
unfolding meant
meant_few s = omega (arith, length-map (lines_of s) reading, lines_few s)

complete_few : (s : List ℕ) → length (complete s) ≤ length s
complete_few s = omega (arith, length-append (complete s) (unfinished s), ap length (both_parts s))

-- ---- a read
pub read_spoken : (v : View) (k k' : Kept) (out out' buf : List ℕ) (kept n end : ℕ) (b : List ℕ) (used put kept' : ℕ) (b' : List ℕ)
    → (end, b) ≡ closing buf kept n → length b ≡ 1024 → length out ≡ 3146752 → (used, (k', (put, out'))) ≡ feeding (after_told v) reading (k, (0, out)) 0 (part b 0 end)
    → (kept', b') ≡ fronted b used end → (k', (front put out', front kept' b')) ≡ spoken v k (heard buf kept n)
unfolding spoken taken left
read_spoken v k k' out out' buf kept n end b used put kept' b' c l m f g =
    let s : List ℕ = heard buf kept n in
    let es = meant reading (complete s) in
    let ws = words_of v k es in
    let t = feeds (after_told v) reading (k, (0, out)) (k', (put, out')) buf kept n end b used kept' b' c f g in
    let i = close_inside buf kept n end b c in
    let size : length s ≤ 1024 = rw (← closed buf kept n end b c) (omega (arith, length-take-le end b i)) in
    let few : length es ≤ 1024 = omega (arith, meant_few (complete s), complete_few s) in
    let all = all_told v es k 0 out (omega arith) in
    let q : ◌≡◌ {A = Stand} (k', (put, out')) (folded after_line k es, (0 + length ws, laid out 0 ws)) = ap (λ (p : Stand × (ℕ × List ℕ)). p.0) t ∙ all in
    let w : ◌≡◌ {A = ℕ × List ℕ} (front kept' b') (sized (take 133 (unfinished s))) = ap (λ (p : Stand × (ℕ × List ℕ)). p.1) t in
    let much : put ≡ 0 + length ws = ap (λ (p : Stand). p.1.0) q in
    let text : take put out' ≡ ws = rw (much, ap (λ (p : Stand). p.1.1) q) (put_take out 0 ws (length ws) refl (omega (arith, words_short v es k))) in
    three (ap (λ (p : Stand). p.0) q) (pair (much ∙ omega arith) text) w
  where
    pair : {a b : ℕ} {x y : List ℕ} → a ≡ b → x ≡ y → ◌≡◌ {A = ℕ × List ℕ} (a, x) (b, y)
    pair p q = rw (p, q)

    three : {a a' : Kept} {b b' c c' : ℕ × List ℕ} → a ≡ a' → b ≡ b' → c ≡ c' → ◌≡◌ {A = Kept × ((ℕ × List ℕ) × (ℕ × List ℕ))} (a, (b, c)) (a', (b', c'))
    three p q r = rw (p, q, r)

-- ---- the loop of reads
abbrev pub Serving : Kept → Kept → List ℕ → ℕ → Type 0
Serving k₀ k s kept = Loop.Serving after_line reading k₀ k s kept

pub serving_none : (k : Kept) (s : List ℕ) → Serving k k s 0
serving_none = Loop.serving_none after_line reading

-- what is kept after an input
abbrev pub Ran : Kept → Kept → Type 0
Ran k k' = Loop.Ran after_line reading k k'

-- one read more, which left what waits where it was
module _ (view : View) (k₀ k : Kept) (s₀ : List ℕ) (kept : ℕ) (v : Serving k₀ k s₀ kept) (s : List ℕ) (n : ℕ) (same : take kept s ≡ take kept s₀)
    (k' : Kept) (put : ℕ) (out' : List ℕ) (kept' : ℕ) (s' : List ℕ) (e : (k', (front put out', front kept' s')) ≡ spoken view k (heard s kept n)) where
  so_taken : (k', front kept' s') ≡ taken after_line reading k (heard s kept n)
  unfolding spoken taken
  so_taken = ap (λ (q : Kept × ((ℕ × List ℕ) × (ℕ × List ℕ))). (q.0, q.1.1)) e

  -- and brought something
  pub serving_on : kept ≤ n → (n ≡ kept → ⊥) → Serving k₀ k' s' kept'
  serving_on = Looping.taken_on after_line reading k₀ k s₀ kept v s n same k' kept' s' so_taken

  -- or nothing: the input has ended
  pub served_all : n ≡ kept → 1024 ≡ length s → Ran k₀ k'
  served_all z h = Looping.taken_all after_line reading k₀ k s₀ kept v s n same k' kept' s' so_taken reading_blind z (omega arith)
