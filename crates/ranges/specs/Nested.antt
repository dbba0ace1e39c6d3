-- Two mappings of one world: exactly when they may stand beside each other, in plain numbers.
use Rattle.std.specs.Prelude.{◌≡◌, refl, Bool, not, ◌||◌, ◌⊎◌, ℕ, ◌+◌, ◌≤◌, ◌<◌, ltb, eqb}
use Rattle.std.proofs.Math.Path.{sym}
use Rattle.std.proofs.Common.{◌∙◌, arith}
use Rattle.std.proofs.Math.Bool.{true, false}
use Rattle.std.proofs.Math.Logic.{inl, inr, ⊎_elim}
use borrow.Author.Tests.{eq-eqb, ne_eqb, eqb-true, eqb-false, ltb-true, ltb-false, not-true}
use Rattle.rules.specs.Choice.{either, both_true, left_true, right_true, left_false, right_false, first_or, second_or, neither, not_first, not_second, yes_or_no}
use Rattle.rules.specs.Choice as Choice
use Rattle.ranges.specs.Ranges.{meet, inside, level, within_low, within_high, inside_low, inside_high, inside_if, level_is, level_if, meet_sym, meet_if, meet_apart, apart_meet}
use Rattle.ranges.specs.Mapping.{exact, holds, meets, inside_or_around, nested, clashes}
use Rattle.ranges.specs.declared.Mapping.{Mapping}

-- ---- whichever of the two is the new one
or_sym : (a b : Bool) → (a || b) ≡ (b || a)
or_sym true b = sym (second_or b true refl)
or_sym false true = refl
or_sym false false = refl

eqb_sym : (a b : ℕ) → eqb a b ≡ eqb b a
eqb_sym a b = either (eqb a b) (λ y. y ∙ sym (eq-eqb b a (sym (eqb-true a b y)))) (λ n. n ∙ sym (ne_eqb b a (λ e. eqb-false a b n (sym e))))

nested_sym : (n m : Mapping) → nested n m ≡ nested m n
unfolding nested inside_or_around level exact
nested_sym n m =
    rw (
      eqb_sym (n.virt + m.phys) (m.virt + n.phys),
      eqb_sym m.virt n.virt,
      eqb_sym m.size n.size,
      or_sym (inside n.virt n.size m.virt m.size) (inside m.virt m.size n.virt n.size),
    )

pub clashes_sym : (n m : Mapping) → clashes n m ≡ clashes m n
unfolding clashes meets
clashes_sym n m = rw (nested_sym n m, meet_sym n.virt n.size m.virt m.size, meet_sym n.phys n.size m.phys m.size)

-- ---- a window in a mapping: inside it, smaller, and its addresses lead where the other's do
pub record Inner (n m : Mapping) : Type 0 where
  pub way : n.virt + m.phys ≡ m.virt + n.phys
  pub smaller : n.size < m.size
  pub low : m.virt ≤ n.virt
  pub high : n.virt + n.size ≤ m.virt + m.size

-- inside another, and of another range, it is smaller
inner_smaller : (n m : Mapping) → exact n.virt n.size m ≡ false → m.virt ≤ n.virt → n.virt + n.size ≤ m.virt + m.size → n.size < m.size
unfolding exact
inner_smaller n m d l k =
    either (ltb n.size m.size) (λ y. ltb-true _ _ y)
    (λ z. let g = ltb-false n.size m.size z in
    let s : m.size ≡ n.size = omega arith in
    let v : m.virt ≡ n.virt = omega arith in
    absurd (yes_or_no _ (both_true _ _ (eq-eqb m.virt n.virt v) (eq-eqb m.size n.size s)) d))

exact_sym : (n m : Mapping) → exact n.virt n.size m ≡ exact m.virt m.size n
unfolding exact
exact_sym n m = rw (eqb_sym m.virt n.virt, eqb_sym m.size n.size)

module _ (n m : Mapping) where
  -- two nested mappings are a window and what is around it
  nested_is : nested n m ≡ true → Inner n m ⊎ Inner m n
  unfolding nested inside_or_around
  nested_is e =
      let same : level n.virt n.phys m.virt m.phys ≡ true = left_true (level n.virt n.phys m.virt m.phys) _ e in
      let way = level_is n.virt n.phys m.virt m.phys same in
      let rest = right_true (level n.virt n.phys m.virt m.phys) _ e in
      let d : exact n.virt n.size m ≡ false = not-true _ (left_true (not (exact n.virt n.size m)) _ rest) in
      let o : inside_or_around n m ≡ true = right_true (not (exact n.virt n.size m)) _ rest in
      either (inside n.virt n.size m.virt m.size)
      (λ y. let l = inside_low _ _ _ _ y in let k = inside_high _ _ _ _ y in inl (record { way = way; smaller = inner_smaller n m d l k; low = l; high = k }))
      (λ z. let y : inside m.virt m.size n.virt n.size ≡ true = (rw z at o) in
      let l = inside_low _ _ _ _ y in
      let k = inside_high _ _ _ _ y in
      inr (record { way = sym way; smaller = inner_smaller m n (sym (exact_sym n m) ∙ d) l k; low = l; high = k }))

  -- Two that meet and do not clash are a window and what is around it,
  pub windowed : clashes n m ≡ false → meets n m ≡ true → Inner n m ⊎ Inner m n
  unfolding clashes
  windowed c h =
      nested_is (either (nested n m) (λ y. y) (λ k. absurd (yes_or_no _ (both_true (meets n m) _ h (Choice.not_true (nested n m) k)) c)))

  -- and lead alike.
  pub level_both : clashes n m ≡ false → meets n m ≡ true → n.virt + m.phys ≡ m.virt + n.phys
  level_both c h = ⊎_elim (λ (z : Inner n m). z.way) (λ (z : Inner m n). sym z.way) (windowed c h)

  -- A window does not clash with what is around it,
  pub inner_clear : Inner n m → clashes n m ≡ false
  unfolding clashes nested inside_or_around exact
  inner_clear i =
      let a = i.smaller in
      let d : exact n.virt n.size m ≡ false =
      either (exact n.virt n.size m) (λ y. let z = eqb-true m.size n.size (right_true (eqb m.virt n.virt) _ y) in absurd (omega arith)) (λ k. k) in
      let f : inside n.virt n.size m.virt m.size ≡ true = inside_if _ _ _ _ i.low i.high in
      let g : nested n m ≡ true =
      both_true _ _ (level_if n.virt n.phys m.virt m.phys i.way) (both_true _ _ (Choice.not_true _ d) (first_or (inside n.virt n.size m.virt m.size) _ f)) in
      right_false (meets n m) (not (nested n m)) (rw g)

  -- Two that hold one virtual address meet.
  pub holding_meets : (x : ℕ) → holds x n ≡ true → holds x m ≡ true → meets n m ≡ true
  unfolding holds meets
  holding_meets x e h =
      let a = within_low x n.virt n.size e in
      let b = within_high x n.virt n.size e in
      let c = within_low x m.virt m.size h in
      let d = within_high x m.virt m.size h in
      first_or (meet n.virt n.size m.virt m.size) _ (meet_if n.virt n.size m.virt m.size (omega arith) (omega arith))

-- What is around a window does not clash with it.
pub outer_clear : (n m : Mapping) → Inner m n → clashes n m ≡ false
outer_clear n m i = clashes_sym n m ∙ inner_clear m n i

-- ---- two that may stand beside each other

-- no virtual address and no physical one lies in both
pub record Clear (n m : Mapping) : Type 0 where
  pub virt_apart : (n.virt + n.size ≤ m.virt) ⊎ (m.virt + m.size ≤ n.virt)
  pub phys_apart : (n.phys + n.size ≤ m.phys) ⊎ (m.phys + m.size ≤ n.phys)

-- they are clear of each other, or the first is a window in the second, or around it
pub data Beside (n m : Mapping) : Type 0 where
  clear : Clear n m → Beside n m
  inner : Inner n m → Beside n m
  outer : Inner m n → Beside n m

module _ (n m : Mapping) where
  -- Two that do not clash stand so,
  pub beside_is : clashes n m ≡ false → Beside n m
  unfolding meets
  beside_is c =
      either (meets n m) (λ y. ⊎_elim (λ (k : Inner n m). inner k) (λ (k : Inner m n). outer k) (windowed n m c y))
      (λ k. clear (record {
        virt_apart = meet_apart n.virt n.size m.virt m.size (not_first (meet n.virt n.size m.virt m.size) _ k);
        phys_apart = meet_apart n.phys n.size m.phys m.size (not_second (meet n.virt n.size m.virt m.size) _ k);
      }))

  -- and two of some size that stand so do not clash.
  pub beside_clear : 0 < n.size → 0 < m.size → Beside n m → clashes n m ≡ false
  unfolding clashes meets
  beside_clear h l (clear c) =
      left_false (meets n m) _
      (neither _ _ (apart_meet n.virt n.size m.virt m.size h l c.virt_apart) (apart_meet n.phys n.size m.phys m.size h l c.phys_apart))
  beside_clear h l (inner i) = inner_clear n m i
  beside_clear h l (outer i) = outer_clear n m i
