-- Addresses that lead nowhere by the list, known ahead.
use Rattle.std.proofs.Math.Path.{◌≡◌, refl}
use Rattle.std.proofs.Common.{sym, ◌∙◌, add-one, suc-mul}
use Rattle.std.specs.Prelude.{Bool, true, false, ◌&&◌, List, ℕ, ◌+◌, ◌-◌, ◌%◌, ◌≤◌, ◌<◌, eqb, ltb, leb, None, Option, Some}
use native.Mathlib.Omega.{arith}
use borrow.Author.Tests.{eq-eqb, ne_eqb, eqb-true, leb-true}
use Rattle.mapping.specs.declared.Lead.{Lead}
use Rattle.rules.specs.Choice.{left_true, right_true, right_false}
use Rattle.tools.specs.Search.{first_ends}
use Rattle.ranges.specs.declared.Mapping.{Mapping}
use Rattle.mapping.specs.Mapping.{deciding, leading, lead_of}
use Rattle.descriptors.specs.Numbers.{span}
use Rattle.descriptors.specs.Meaning.{is_table, means_clear, reserved_clear}
use Rattle.walks.specs.Walk.{led}
use Rattle.stretches.specs.Steady.{steady, steady_most, steady_decides}
use Rattle.vetting.specs.Answers.{answer, otherwise, here_alike}
use Rattle.vetting.specs.Pass.{place, judged}
use Rattle.vetting.specs.Alike.{first_skip}
use Rattle.vetting.specs.Scans.{compared_yes, judged_plain}
use Rattle.vetting.specs.Outcome.{Accepted}

-- from x on, before `end`
unfoldable pub FreeTo : List Mapping → ℕ → ℕ → Type 0
FreeTo l x end = (y : ℕ) → x ≤ y → y < end → lead_of l y ≡ None

-- an entry with bit 0 clear, all of whose addresses come before `end`
unfoldable pub is_free : ℕ → ℕ → ℕ → ℕ → Bool
is_free k b e end = eqb (e % 2) 0 && leb (b + span k) end

module _ (k b e end : ℕ) where
  pub free_by : (s : ℕ) → e % 2 ≡ 0 → s ≡ span k → leb (b + s) end ≡ is_free k b e end
  unfolding is_free
  free_by s c f = rw (eq-eqb (e % 2) 0 c, f)

  pub free_not : (e % 2 ≡ 0 → ⊥) → false ≡ is_free k b e end
  unfolding is_free
  free_not d = rw (ne_eqb (e % 2) 0 d)

-- with bit 0 clear a number is no table
clear_leaf : (k e : ℕ) → e % 2 ≡ 0 → is_table k e ≡ false
unfolding is_table
clear_leaf k e c = right_false (ltb 0 k) _ (ne_eqb (e % 4) 3 (λ (z : e % 4 ≡ 3). omega arith))

module _ (l : List Mapping) where
  pub free_none : (x : ℕ) → FreeTo l x 0
  unfolding FreeTo
  free_none x y h u = absurd (omega arith)

  pub free_empty : (x : ℕ) → FreeTo l x x
  unfolding FreeTo
  free_empty x y h u = absurd (omega arith)

  pub free_on : (x z end : ℕ) → FreeTo l x end → x ≤ z → FreeTo l z end
  unfolding FreeTo
  free_on x z end f h y g u = f y (omega arith) u

  -- up to the next edge, where x leads nowhere
  pub free_steady : (x n m : ℕ) (d : Option Lead) → d ≡ lead_of l x → d ≡ None → n ≡ steady l x m → FreeTo l x (x + n)
  unfolding FreeTo lead_of leading
  free_steady x n m d e f s y h u =
      let i : deciding l y ≡ deciding l x = steady_decides l x m y h (rw s at u) in
      rw (i, nobody (deciding l x) (sym e ∙ f))
    where
      nobody : (o : Option Mapping) → leading x o ≡ None → o ≡ None
      nobody None q = refl
      nobody (Some q) p = let z : ◌≡◌ {A = ℕ} 0 1 = cc in absurd (omega arith)

  pub steady_fits : (x n m : ℕ) → n ≡ steady l x m → n ≤ m
  steady_fits x n m e = omega (arith, steady_most l x m)

  -- an entry with bit 0 clear is accepted there
  clear_alike : (k b e x end : ℕ) → e % 2 ≡ 0 → FreeTo l b end → b ≤ x → x < end → otherwise l k e x ≡ false
  unfolding FreeTo answer led
  clear_alike k b e x end c f h u = here_alike l k e x (rw (means_clear k e x c) (sym (f x h u)))

  pub free_accepted : (numbers : List ℕ) (k b e end : ℕ) (r : Bool) → FreeTo l b end → r ≡ is_free k b e end → r ≡ true → Accepted ≡ judged numbers l k b e
  unfolding is_free
  free_accepted numbers k b e end r f g y =
      let c = eqb-true (e % 2) 0 (left_true (eqb (e % 2) 0) _ (sym g ∙ y)) in
      let u = leb-true (b + span k) end (right_true (eqb (e % 2) 0) _ (sym g ∙ y)) in
      let p = otherwise l k e in
      let z : span k - span k ≤ 0 = omega arith in
      let skip = first_skip p (span k) b (span k) (omega arith) (λ x h v. clear_alike k b e x end c f h (omega arith)) in
      judged_plain numbers l b e k (clear_leaf k e c) (sym (reserved_clear k e c))
      (compared_yes l k b e (span k) (b + span k) (first_ends p (b + span k) (span k - span k) _ skip z) refl (omega arith))

-- ---- the entries of a row
module _ (l : List Mapping) (k a i b : ℕ) where
  pub free_here : (end : ℕ) → FreeTo l (place k a i) end → b ≡ place k a i → FreeTo l b end
  free_here end f e = rw e f

  pub free_next : (end s : ℕ) → FreeTo l (b + s) end → b ≡ place k a i → s ≡ span k → FreeTo l (place k a (i + 1)) end
  free_next end s f e g = let z : b + s ≡ place k a (i + 1) = rw (e, g, add-one) (omega (arith, suc-mul i (span k))) in rw z at f
