-- Where one mapping decides throughout, or none does, an entry that answers the first address as the list does answers each so.
use Rattle.std.specs.Prelude.{◌≡◌, Bool, true, false, List, ℕ, zero, suc, ◌+◌, ◌-◌, ◌%◌, ◌^◌, ◌≤◌, ◌<◌, None, Option, Some}
use Rattle.std.proofs.Math.Path.{refl}
use Rattle.std.proofs.Common.{sym, ap, ◌∙◌, mod-lt, div-mul-le_self}
use native.Mathlib.Omega.{arith}
use Rattle.mapping.specs.Leads.{To}
use Rattle.mapping.specs.declared.Lead.{Lead}
use Rattle.rules.specs.Choice.{pick_no}
use Rattle.tools.specs.Search.{first, first_stops, first_ends}
use Rattle.ranges.specs.declared.Mapping.{Mapping}
use Rattle.mapping.specs.Mapping.{deciding, leading, lead_of}
use Rattle.mapping.proofs.Deciding.{deciding_low}
use Rattle.descriptors.specs.Numbers.{span, base_of, span_some, span_most}
use Rattle.descriptors.specs.Meaning.{means_two}
use Rattle.descriptors.specs.declared.Descriptor.{Descriptor}
use Rattle.walks.specs.Walk.{led}
use Rattle.stretches.specs.Steady.{steady, steady_most, steady_some, steady_decides}
use Rattle.vetting.specs.Answers.{answer, otherwise, nowhere, alike_here, here_alike}
use Rattle.vetting.specs.Rooms.{Part, apart}

-- the lead of an address d further on
unfoldable moved : ℕ → Option Lead → Option Lead
moved d (Some l) = To (l.phys + d) l.attr
moved d None = None

-- far from the end of 64 bits
unfoldable Small : Option Lead → Type 0
Small (Some l) = l.phys < 281476050452480
Small None = Unit {0}

module _ (k e : ℕ) where
  leaf_small : (x : ℕ) → base_of (span k) e + x % span k < 281476050452480
  leaf_small x =
      let a = div-mul-le_self (e % 281474976710656) (span k) in
      let p : 0 < span k = omega (arith, span_some k) in
      let b = mod-lt x p in
      omega (arith, span_most k)

  answer_small : (x : ℕ) → Small (answer k e x)
  unfolding answer led Small
  answer_small x = means_two k e x x (λ (c d : Descriptor). Small (led nowhere c)) tt (λ t v. tt) (λ t v. leaf_small x)

  module _ (x y : ℕ) (r : y % span k ≡ x % span k + (y - x)) where
    leaf_moved : base_of (span k) e + y % span k ≡ base_of (span k) e + x % span k + (y - x)
    leaf_moved = rw r (omega arith)

    answer_moved : answer k e y ≡ moved (y - x) (answer k e x)
    unfolding answer led moved
    answer_moved = means_two k e x y (λ (c d : Descriptor). led nowhere d ≡ moved (y - x) (led nowhere c)) refl (λ t v. refl) (λ t v. rw leaf_moved)

module _ (l : List Mapping) (x y : ℕ) (lo : x ≤ y) (d : y < x + 1073741824) (same : deciding l y ≡ deciding l x) where
  lead_moved : Small (lead_of l x) → lead_of l y ≡ moved (y - x) (lead_of l x)
  unfolding lead_of leading Small moved
  lead_moved s = go (deciding l x) refl (rw same s)
    where
      go : (o : Option Mapping) → deciding l x ≡ o → Small (leading x (deciding l y)) → leading y (deciding l y) ≡ moved (y - x) (leading x (deciding l x))
      go None e s = rw (same, e)
      go (Some m) e s =
          let v = deciding_low l x m e in
          let u : (m.phys + (x - m.virt)) % 2 ^ 64 < 281476050452480 = rw (same, e) at s in
          let z : (m.phys + (y - m.virt)) % 2 ^ 64 ≡ (m.phys + (x - m.virt)) % 2 ^ 64 + (y - x) = omega arith in
          rw (same, e, z)

  alike_on : (k e : ℕ) → y % span k ≡ x % span k + (y - x) → otherwise l k e x ≡ false → otherwise l k e y ≡ false
  alike_on k e r h =
      let a = alike_here l k e x h in
      let s : Small (lead_of l x) = rw a at (answer_small k e x) in
      here_alike l k e y (answer_moved k e x y r ∙ ap (moved (y - x)) a ∙ sym (lead_moved s))

-- ---- a search that skips those that do not pass
pub first_skip : (p : ℕ → Bool) (r a n : ℕ) → r ≤ n → ((y : ℕ) → a ≤ y → y < a + r → p y ≡ false) → first p a n ≡ first p (a + r) (n - r)
unfolding first
first_skip p zero a n h f = let z : a + 0 ≡ a = omega arith in let w : n - 0 ≡ n = omega arith in rw (z, w)
first_skip p (suc r) a zero h f = absurd (omega arith)
first_skip p (suc r) a (suc n) h f =
    let z : a + suc r ≡ suc a + r = omega arith in
    let w : suc n - suc r ≡ n - r = omega arith in
    rw (z, w)
    (pick_no (p a) a (first p (suc a) n) (f a (omega arith) (omega arith)) ∙ first_skip p r (suc a) n (omega arith) (λ y lo hi. f y (omega arith) (omega arith)))

-- ---- the loop over the stretches of an entry: the addresses before x are alike
pub record Ahead (l : List Mapping) (k b e x left : ℕ) : Type 0 where
  pub from : b ≤ x
  pub ends : x + left ≡ b + span k
  pub rest : first (otherwise l k e) b (span k) ≡ first (otherwise l k e) x left

module _ (l : List Mapping) (k b e : ℕ) where
  pub ahead_starts : (s : ℕ) → s ≡ span k → Ahead l k b e b s
  ahead_starts s h = rw h (record { from = omega arith; ends = refl; rest = refl })

  module _ (x left : ℕ) (a : Ahead l k b e x left) where
    pub ahead_stops : 0 < left → otherwise l k e x ≡ true → x ≡ first (otherwise l k e) b (span k)
    ahead_stops h y = first_stops (otherwise l k e) x left _ a.rest h y

    pub ahead_ends : left ≤ 0 → x ≡ first (otherwise l k e) b (span k)
    ahead_ends h = first_ends (otherwise l k e) x left _ a.rest h

    pub ahead_goes : (n : ℕ) → Part k b → otherwise l k e x ≡ false → n ≡ steady l x left → Ahead l k b e (x + n) (left - n)
    ahead_goes n p h s =
        let m : n ≤ left = omega (arith, steady_most l x left) in
        record {
          from = omega (arith, a.from);
          ends = omega (arith, a.ends);
          rest = a.rest ∙ first_skip (otherwise l k e) n x left m (λ y lo hi.
              let u : y < b + span k = omega (arith, a.ends) in
              let d : y < x + 1073741824 = omega (arith, span_most k, a.from) in
              alike_on l x y lo d (steady_decides l x left y lo (rw s at hi)) k e (apart k b x y p.aligned a.from lo u) h);
        }

    pub ahead_fits : (n : ℕ) → Part k b → n ≡ steady l x left → (x + n ≤ 549755813888) × (n ≤ left)
    ahead_fits n p s = (omega (arith, a.ends, p.ends, steady_most l x left), omega (arith, steady_most l x left))

    pub ahead_less : (n : ℕ) → 0 < left → n ≡ steady l x left → left - n < left
    ahead_less n h s = omega (arith, steady_some l x left h)
