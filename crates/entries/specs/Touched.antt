-- Addresses that no mapping touches: nothing decides them, and no entry has anything to say of them.
use Rattle.std.specs.Prelude.{◌≡◌, ℕ, ◌+◌, ◌<◌, ◌≤◌, true, false, not, List, ◌==◌, nat_le, refl, None, Option, Some}
use Rattle.std.proofs.Common.{◌∙◌, arith}
use borrow.Author.Tests.{eq-eqb, leb-true, leb-false, eqb-false}
use Rattle.rules.specs.Choice.{pick_yes, pick_no, either, both_true, right_false, yes_or_no}
use Rattle.ranges.specs.Ranges.{within_low, within_high, within_if, meet_not, meet_before}
use Rattle.ranges.specs.declared.Mapping.{Mapping}
use Rattle.mapping.specs.Mapping.{exact, holds, any_of, smallest_of, has_exactly, deciding, leading, lead_of, touched, touches}
use Rattle.mapping.specs.Entries.{Among, any_less, any_among, among_any}
use Rattle.mapping.specs.Deciding.{Sought, missing, smallest}
use Rattle.mapping.proofs.Deciding.{sought, deciding_none}
use Rattle.descriptors.specs.Numbers.{span, span_some}
use Rattle.stretches.specs.Steady.{steady, steady_decides}
use Rattle.entries.specs.Entries.{leaf, whole, deeper, entry}

-- ---- one mapping
module _ (x : ℕ) (m : Mapping) where
  pub holds_low : holds x m ≡ true → m.virt ≤ x
  unfolding holds
  holds_low y = within_low x m.virt m.size y

  pub holds_high : holds x m ≡ true → x < m.virt + m.size
  unfolding holds
  holds_high y = within_high x m.virt m.size y

  pub holds_if : m.virt ≤ x → x < m.virt + m.size → holds x m ≡ true
  unfolding holds
  holds_if h u = within_if x m.virt m.size h u

-- ---- which mapping decides
none_decides : (l : List Mapping) (x : ℕ) → any_of (holds x) l ≡ false → deciding l x ≡ None
unfolding deciding
none_decides l x h = of (smallest_of (holds x) l) (sought (holds x) l)
  where
    of : (d : Option Mapping) → Sought (holds x) l d → d ≡ None
    of None (missing a) = refl
    of (Some n) (smallest _ s) = absurd (yes_or_no _ (any_among (holds x) l n s.among s.passes) h)

-- no mapping touches the addresses
pub untouched : (l : List Mapping) (b s x : ℕ) → touched l b s ≡ false → b ≤ x → x < b + s → deciding l x ≡ None
unfolding touched
untouched l b s x e h u =
    none_decides l x (any_less (touches b s) (holds x) l
    (λ m f. either (holds x m)
    (λ y. absurd (meet_not b s m.virt m.size f (omega (arith, holds_high x m y)) (omega (arith, holds_low x m y))))
    (λ n. n)) e)

-- ---- an entry whose addresses are untouched
module _ (l : List Mapping) (k b : ℕ) (n : touched l b (span k) ≡ false) where
  nobody : deciding l b ≡ None
  nobody = untouched l b (span k) b n (omega arith) (omega (arith, span_some k))

  pub untouched_deeper : deeper l k b ≡ false
  unfolding deeper
  untouched_deeper = right_false (not (whole l k b)) (touched l b (span k)) n

  pub untouched_entry : (at : ℕ) → entry l k b at ≡ 0
  unfolding entry lead_of leading leaf
  untouched_entry at =
      either (whole l k b) (λ y. pick_yes _ _ _ y ∙ rw nobody) (λ e. pick_no _ _ _ e ∙ pick_no _ _ _ n)

-- ---- how far nothing touches: as far as the mappings decide as they do at an address that none touches
module _ (l : List Mapping) (some : (v : ℕ) → has_exactly l v 0 ≡ false) where
  some_size : (m : Mapping) → Among m l → 0 < m.size
  unfolding has_exactly exact
  some_size m z =
      either (m.size == 0)
      (λ y. absurd (yes_or_no _ (any_among (exact m.virt 0) l m z (both_true _ _ (eq-eqb m.virt m.virt refl) y)) (some m.virt)))
      (λ d. let e = eqb-false m.size 0 d in omega arith)

  pub steady_untouched :
      (b s n c r : ℕ) → 0 < s → touched l b s ≡ false → b ≤ c → c + r ≤ b + steady l b n → 0 < r → touched l c r ≡ false
  unfolding touched
  steady_untouched b s n c r h e lo hi u = either (any_of (touches c r) l) (λ y. absurd (go y)) (λ d. d)
    where
      go : any_of (touches c r) l ≡ true → ⊥
      go y =
          let q = among_any (touches c r) l y in
          let m = q.0 in
          let z = some_size m q.1.0 in
          let k = meet_before c r m.virt m.size q.1.1 u z in
          let nobody-at : (x : ℕ) → c ≤ x → x < c + r → holds x m ≡ true → ⊥ =
          λ x p t g. yes_or_no _ (any_among (holds x) l m q.1.0 g)
          (deciding_none l x (steady_decides l b n x (omega arith) (omega arith) ∙ untouched l b s b e (omega arith) (omega arith))) in
          either (nat_le c m.virt)
          (λ f. let j = leb-true c m.virt f in nobody-at m.virt j k.1 (holds_if m.virt m (omega arith) (omega arith)))
          (λ f. let j = leb-false c m.virt f in nobody-at c (omega arith) (omega arith) (holds_if c m (omega arith) k.0))
