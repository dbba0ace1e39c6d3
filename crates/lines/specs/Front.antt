-- An unfinished line moved to the front of the bytes that were read, for the next read to go on behind it.
use Rattle.std.specs.Prelude.{◌≡◌, ◌&&◌, List, ◌++◌, ℕ, ◌+◌, ◌-◌, ◌≤◌, ◌<◌, min, ltb, leb, length, get_or, take, drop, set}
use Rattle.std.proofs.Math.Path.{refl}
use Rattle.std.proofs.Common.{sym, ap, ◌∙◌, arith, below_more, ltb-true, ltb-false, length-set, get_or-set_same, get_or-set_other, get_or-drop, get_or-take, length-take-le, ext_get_or, get_or-append-add}
use Rattle.std.proofs.Math.ListN.{length-append, length-drop, get_or-append}
use Rattle.std.proofs.Math.Seq.{take_at}
use Rattle.rules.specs.Choice.{pick, either}

-- how many bytes of it are kept: all, or one more than a frame may have
abbrev pub keeps : ℕ → ℕ → ℕ
keeps from to = min (to - from) 133

-- the first bytes between two places, laid over the front
unfoldable pub at_front : List ℕ → ℕ → ℕ → List ℕ
at_front s from n = take n (drop from s) ++ drop n s

unfoldable pub fronted : List ℕ → ℕ → ℕ → ℕ × List ℕ
fronted s from to = pick (leb from to && leb to (length s)) (keeps from to, at_front s from (keeps from to)) (0, s)

-- ---- byte by byte
pub record Moving (s₀ s : List ℕ) (from i : ℕ) : Type 0 where
  pub size : length s ≡ length s₀
  pub done : (k : ℕ) → k < i → get_or s k 0 ≡ get_or s₀ (from + k) 0
  pub rest : (k : ℕ) → i ≤ k → get_or s k 0 ≡ get_or s₀ k 0

pub moving_none : (s : List ℕ) (from : ℕ) → Moving s s from 0
moving_none s from = record { size = refl; done = λ k h. absurd (omega arith); rest = λ k h. refl }

pub moving_more : (s₀ s : List ℕ) (from i : ℕ) → i < length s → Moving s₀ s from i → Moving s₀ (set s i (get_or s (from + i) 0)) from (i + 1)
moving_more s₀ s from i h m =
    let v = get_or s (from + i) 0 in
    record {
      size = length-set s i v ∙ m.size;
      done = below_more (λ (k : ℕ). get_or (set s i v) k 0 ≡ get_or s₀ (from + k) 0) i
          (λ k l. get_or-set_other s i k v 0 (λ q. omega arith) ∙ m.done k l)
          (get_or-set_same s i v 0 h ∙ m.rest (from + i) (omega arith));
      rest = λ k l. get_or-set_other s i k v 0 (λ q. omega arith) ∙ m.rest k (omega arith);
    }

module _ (s : List ℕ) (from n : ℕ) (h : from + n ≤ length s) where
  pub front_length : length (take n (drop from s)) ≡ n
  front_length = length-take-le n (drop from s) (rw length-drop (omega arith))

  length_front : length (at_front s from n) ≡ length s
  unfolding at_front
  length_front = length-append (take n (drop from s)) (drop n s) ∙ rw (front_length, length-drop n s) (omega arith)

  pub take_front : take n (at_front s from n) ≡ take n (drop from s)
  unfolding at_front
  take_front = take_at (take n (drop from s)) (drop n s) n front_length

pub moved : (s₀ s : List ℕ) (from n : ℕ) → from + n ≤ length s₀ → Moving s₀ s from n → s ≡ at_front s₀ from n
unfolding at_front
moved s₀ s from n h m =
    let a = front_length s₀ from n h in
    ext_get_or 0 s (take n (drop from s₀) ++ drop n s₀) (m.size ∙ sym (length_front s₀ from n h))
    (λ k l.
    either (ltb k n)
    (λ y.
    let g : k < n = ltb-true _ _ y in
    m.done k g ∙ sym (get_or-append (take n (drop from s₀)) (drop n s₀) 0 k (omega arith) ∙ get_or-take n (drop from s₀) k 0 g ∙ get_or-drop from s₀ k 0))
    (λ y.
    let g : n ≤ k = ltb-false _ _ y in
    let p : length (take n (drop from s₀)) + (k - n) ≡ k = omega arith in
    let q : n + (k - n) ≡ k = omega arith in
    let r : get_or (drop n s₀) (k - n) 0 ≡ get_or s₀ k 0 = get_or-drop n s₀ (k - n) 0 ∙ rw q in
    m.rest k g ∙ sym (ap (λ (j : ℕ). get_or (take n (drop from s₀) ++ drop n s₀) j 0) (sym p) ∙ get_or-append-add (take n (drop from s₀)) (drop n s₀) (k - n) 0 ∙ r)))
