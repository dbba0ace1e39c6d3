-- When one mapping decides throughout a range of virtual addresses.
use Rattle.std.specs.Prelude.{◌≡◌, ℕ, ◌+◌, ◌<◌, ◌≤◌, true, false, List, ◌≢◌, nat_le, nat_lt, Some}
use native.Mathlib.Omega.{arith}
use borrow.Author.Tests.{ltb-true, ltb-false, leb-true, leb-false}
use Rattle.rules.specs.Choice.{either, both_true, left_true, right_true, yes_or_no}
use Rattle.ranges.specs.Ranges.{within, within_low, within_high, within_if, meet_if, meet_before}
use Rattle.mapping.specs.Mapping.{holds, any_of, deciding}
use Rattle.mapping.specs.Entries.{Every, Apart, Among, every_among, any_among, among_any, every_of}
use Rattle.mapping.proofs.Deciding.{deciding_is, smallest_decides}
use Rattle.ranges.specs.declared.Mapping.{Mapping}
use Rattle.mapping.specs.Throughout.{splits}

-- an entry that has the whole range
module _ (l : List Mapping) (p : Apart l) (a s : ℕ) (m : Mapping) (e : Among m l) (f : m.virt ≤ a) (g : a + s ≤ m.virt + m.size) where
  -- where no smaller one meets the range, it decides throughout
  pub decides_throughout : any_of (splits a s m) l ≡ false → (x : ℕ) → a ≤ x → x < a + s → deciding l x ≡ Some m
  unfolding splits holds
  decides_throughout h x low high =
      smallest_decides l x p m (record {
        among = e;
        passes = within_if x m.virt m.size (omega arith) (omega arith);
        least = every_of (λ (n : Mapping). holds x n ≡ true → m.size ≤ n.size) l (λ n z y.
            either (nat_lt n.size m.size)
            (λ k. let b = within_low x n.virt n.size y in
            let c = within_high x n.virt n.size y in
            absurd (yes_or_no _ (any_among (splits a s m) l n z (both_true _ _ k (meet_if a s n.virt n.size (omega arith) (omega arith)))) h))
            (λ k. ltb-false n.size m.size k));
      })

  -- where a smaller one does, some address of the range is not decided by it
  pub split_somewhere : 0 < s → Every (λ (n : Mapping). 0 < n.size) l → any_of (splits a s m) l ≡ true
      → (x : ℕ) × ((a ≤ x) × ((x < a + s) × (deciding l x ≢ Some m)))
  unfolding splits holds
  split_somewhere h k y =
      let r = among_any (splits a s m) l y in
      let n = r.0 in
      let t = every_among (λ (o : Mapping). 0 < o.size) l n k r.1.0 in
      let b = ltb-true n.size m.size (left_true (nat_lt n.size m.size) _ r.1.1) in
      let c = meet_before a s n.virt n.size (right_true (nat_lt n.size m.size) _ r.1.1) h t in
      either (nat_le a n.virt)
      (λ z. (n.virt, (leb-true a n.virt z, (c.1, λ d. smaller n n.virt r.1.0 b d (within_if n.virt n.virt n.size (omega arith) (omega arith))))))
      (λ z. let j = leb-false a n.virt z in
      (a, (omega arith, (omega arith, λ d. smaller n a r.1.0 b d (within_if a n.virt n.size (omega arith) c.0)))))
    where
      smaller : (n : Mapping) (x : ℕ) → Among n l → n.size < m.size → deciding l x ≡ Some m → within x n.virt n.size ≢ true
      smaller n x z b d y = let q = every_among _ l n (deciding_is l x m d).least z y in omega arith
