-- What a sound list means for its addresses and pages: where an address leads is exact, a page has at most one virtual address,
use Rattle.std.specs.Prelude.{◌≡◌, ℕ, ◌+◌, ◌-◌, ◌%◌, ◌^◌, true, List, None, Option, Some}
use Rattle.std.proofs.Math.Path.{refl, sym, ap}
use Rattle.std.proofs.Common.{◌∙◌}
use native.Mathlib.Omega.{arith}
use Rattle.mapping.specs.Leads.{To, to_phys, to_attr}
use Rattle.rules.specs.Choice.{yes_or_no}
use Rattle.pages.specs.Window.{acceptable, accepted}
use Rattle.pages.specs.declared.Window.{Window}
use Rattle.ranges.specs.Ranges.{within_low, within_high, within_if}
use Rattle.mapping.specs.Mapping.{holds, deciding, leading, lead_of}
use Rattle.mapping.specs.Entries.{every_among, any_among}
use Rattle.mapping.proofs.Deciding.{deciding_is, deciding_holds, deciding_none}
use Rattle.mapping.specs.Sound.{Formed, Sound}
use Rattle.ranges.specs.declared.Mapping.{Mapping}
use Rattle.mapping.specs.Once.{LedBy, Reaches, one_place}

module _ (w : Window) (ok : acceptable w ≡ true) (o : List ℕ) (world : ℕ) (l : List Mapping) (s : Sound w o world l) where
  -- the sum of the physical address does not wrap
  pub lead_exact : (x : ℕ) (m : Mapping) → deciding l x ≡ Some m → lead_of l x ≡ To (m.phys + (x - m.virt)) m.attr
  unfolding lead_of leading deciding
  lead_exact x m e =
      let a = accepted w ok in
      let f = every_among (Formed w) l m s.formed (deciding_is l x m e).among in
      let h = deciding_holds l x m e in
      let low = within_low x m.virt m.size h in
      let high = within_high x m.virt m.size h in
      let z : (m.phys + (x - m.virt)) % 2 ^ 64 ≡ m.phys + (x - m.virt) = omega arith in
      rw (e, z)

  -- an address that leads somewhere does so by the smallest mapping that holds it,
  pub led : (x phys attr : ℕ) → lead_of l x ≡ To phys attr → LedBy l x phys attr
  unfolding lead_of leading holds
  led x phys attr e = of (deciding l x) refl
    where
      of : (d : Option Mapping) → deciding l x ≡ d → LedBy l x phys attr
      of None g = let z : None ≡ To phys attr = (rw g at e) in let y : ◌≡◌ {A = ℕ} 0 1 = cc in absurd (omega arith)
      of (Some m) g =
          let d = deciding_is l x m g in
          let z : To (m.phys + (x - m.virt)) m.attr ≡ To phys attr = sym (lead_exact x m g) ∙ e in
          let p : phys ≡ m.phys + (x - m.virt) = sym (to_phys z) in
          let a : attr ≡ m.attr = sym (to_attr z) in
          record {
            decider = m;
            among = d.among;
            low = within_low x m.virt m.size d.passes;
            high = within_high x m.virt m.size d.passes;
            least = λ n i k h. every_among _ l n d.least i (within_if x n.virt n.size k h);
            place = p;
            rights = a;
          }

  -- and one that a mapping holds leads to what it reaches
  pub leads : (x p : ℕ) → Reaches l x p → (attr : ℕ) × (lead_of l x ≡ To p attr)
  unfolding holds
  leads x p r = of (deciding l x) refl
    where
      of : (d : Option Mapping) → deciding l x ≡ d → (attr : ℕ) × (lead_of l x ≡ To p attr)
      of None g =
          absurd (yes_or_no _ (any_among (holds x) l r.through r.among (within_if x r.through.virt r.through.size r.low r.high)) (deciding_none l x g))
      of (Some m) g =
          let d = deciding_is l x m g in
          let q : Reaches l x (m.phys + (x - m.virt)) = record {
            through = m;
            among = d.among;
            low = within_low x m.virt m.size d.passes;
            high = within_high x m.virt m.size d.passes;
            place = refl;
          } in
          (m.attr, lead_exact x m g ∙ ap (λ (k : ℕ). To k m.attr) (one_place l s.apart x (m.phys + (x - m.virt)) p q r))
