-- Bytes that are cut behind a newline: complete lines, and what is unfinished behind them.
use Rattle.std.specs.Prelude.{◌≡◌, refl, true, false, List, [], ◌∷◌, ◌++◌, ℕ, zero, suc, ◌+◌, ◌-◌, ◌<◌, eqb, length, get_or, take, drop}
use Rattle.std.proofs.Common.{sym, ap, ◌∙◌, arith, length-drop, take-add, take-suc, get_or-drop, eq-eqb, ne_eqb}
use Rattle.rules.specs.Choice.{either, pick_yes, pick_no, first_or, second_or, neither, not_first, not_second, yes_or_no}
use Rattle.lines.specs.Lines.{end_of, line_at, Unbroken, end_from, end_newline}
use Rattle.lines.specs.Parts.{broken, complete, unfinished, unfinished_unbroken}

-- ---- with no newline nothing is complete
pub unbroken_so : (l : List ℕ) → Unbroken l → broken l ≡ false
unfolding broken
unbroken_so [] u = refl
unbroken_so (b ∷ l) u = neither (eqb b 10) (broken l) (ne_eqb b 10 (u 0 (omega arith))) (unbroken_so l (λ k h. u (suc k) (omega arith)))

pub none_complete : (l : List ℕ) → broken l ≡ false → complete l ≡ []
unfolding complete
none_complete [] e = refl
none_complete (b ∷ l) e = pick_no _ _ _ e

pub all_unfinished : (l : List ℕ) → broken l ≡ false → unfinished l ≡ l
unfolding unfinished
all_unfinished [] e = refl
all_unfinished (b ∷ l) e = pick_no _ _ _ e

-- ---- what ends with a newline is complete
broken_more : (a b : List ℕ) → broken a ≡ true → broken (a ++ b) ≡ true
unfolding broken
broken_more [] b e = absurd (yes_or_no false e refl)
broken_more (x ∷ a) b e =
    either (eqb x 10) (λ y. first_or (eqb x 10) _ y) (λ n. second_or (eqb x 10) _ (broken_more a b (rw n at e)))

ends_broken : (p : List ℕ) → broken (p ++ 10 ∷ []) ≡ true
unfolding broken
ends_broken [] = refl
ends_broken (b ∷ p) = second_or (eqb b 10) _ (ends_broken p)

pub line_complete : (p : List ℕ) → complete (p ++ 10 ∷ []) ≡ p ++ 10 ∷ []
unfolding complete
line_complete [] = pick_yes _ _ _ (ends_broken [])
line_complete (b ∷ p) = pick_yes _ _ _ (ends_broken (b ∷ p)) ∙ ap (λ (l : List ℕ). b ∷ l) (line_complete p)

-- ---- complete lines, and behind them bytes with no newline
pub record Parted (s a b : List ℕ) : Type 0 where
  pub lines : complete s ≡ a
  pub rest : unfinished s ≡ b

pub parted : (a b : List ℕ) → complete a ≡ a → broken b ≡ false → Parted (a ++ b) a b
unfolding complete unfinished
parted [] b c n = record { lines = none_complete b n; rest = all_unfinished b n }
parted (x ∷ a) b c n =
    either (broken (x ∷ a))
    (λ y.
    let k : x ∷ complete a ≡ x ∷ a = sym (pick_yes _ _ _ y) ∙ c in
    let p = parted a b (cc) n in
    let z = broken_more (x ∷ a) b y in
    record { lines = pick_yes _ _ _ z ∙ ap (λ (l : List ℕ). x ∷ l) p.lines; rest = pick_yes _ _ _ z ∙ p.rest })
    (λ y. absurd (let k : ◌≡◌ {A = List ℕ} [] (x ∷ a) = sym (pick_no _ _ _ y) ∙ c in let z : ◌≡◌ {A = ℕ} 0 1 = cc in omega arith))

-- ---- a line more
pub line_more : (s : List ℕ) (at : ℕ) → end_of s at < length s → take (end_of s at + 1) s ≡ take at s ++ (line_at s at ++ 10 ∷ [])
line_more s at h =
    let f = end_from s at in
    let j = end_of s at - at in
    let e : end_of s at + 1 ≡ at + suc j = omega arith in
    let p : at + j ≡ end_of s at = omega arith in
    let n : get_or (drop at s) j 0 ≡ 10 = get_or-drop at s j 0 ∙ rw p (end_newline s at h) in
    ap (λ (k : ℕ). take k s) e ∙ take-add at (suc j) s ∙ ap (λ (l : List ℕ). take at s ++ l) (take-suc (drop at s) j 0 (omega (arith, length-drop at s)) ∙ rw n)

-- ---- what is unfinished has no newline
so_unbroken : (l : List ℕ) → broken l ≡ false → Unbroken l
unfolding broken
so_unbroken [] e k h z = absurd (omega arith)
so_unbroken (b ∷ l) e zero h z = absurd (yes_or_no (eqb b 10) (eq-eqb b 10 z) (not_first (eqb b 10) (broken l) e))
so_unbroken (b ∷ l) e (suc k) h z = so_unbroken l (not_second (eqb b 10) (broken l) e) k (omega arith) z

pub unfinished_so : (s : List ℕ) → Unbroken (unfinished s)
unfinished_so s = so_unbroken (unfinished s) (unfinished_unbroken s)
