-- The owner of a page after a run is the one whom the run names, and nobody else is named.
use Rattle.std.specs.Prelude.{◌≡◌, true, false, ℕ, ◌+◌, ◌≤◌, ◌<◌, leb, ltb, Some}
use Rattle.std.proofs.Math.Path.{refl, sym, ap}
use Rattle.std.proofs.Common.{◌∙◌, arith, leb-true, leb-false, ltb-true, ltb-false}
use Rattle.rules.specs.Choice.{either}
use Rattle.pages.specs.Owners.{owner}
use Rattle.pages.specs.Named.{is_named, free_at}
use Rattle.pages.specs.Naming.{naming_granted, granted_inside, granted_outside}
use Rattle.judgements.specs.declared.Deed.{Deed}
use Rattle.judgements.specs.declared.Deed.TheVariants.{Nothing, Move, Map, Unmap, Start, GoOff, HandOver, Finish}
use Rattle.calls.specs.Effects.{deed_in, Carries}
use Rattle.parsing.specs.declared.Status.TheVariants.{Accepted}
use Rattle.parsing.specs.declared.Frame.{Frame}
use Rattle.parsing.specs.declared.Frame.TheVariants as Frame
use Rattle.setup.specs.Table.{ended, window}
use Rattle.calling.specs.Calling.{performed}
use Rattle.frames.specs.Frames.{Machine, first, framed, state_of}
use Rattle.frames.specs.Stays.{framed_by, call_ends}
use Rattle.showing.specs.declared.Reply.{Reply}
use Rattle.showing.specs.declared.Reply.TheVariants.{Told, Called}
use Rattle.guarantees.specs.Runs.{Event, byte, next, reply}
use Rattle.guarantees.specs.Accepted.{transfer_moves}
use Rattle.guarantees.specs.Named.{Transfers, Names}
use Rattle.guarantees.specs.Fit.{Fit}

-- ---- one line
-- what is done for a granted transfer
pub moves_deed : {m : Machine} → Fit m → {e : Event} {page to : ℕ} (t : Transfers m e page to) → deed_in (state_of m) t.core e.1 ≡ Move t.lowest t.count to
moves_deed {m} fit {e} {to = to} t =
    let g = transfer_moves m fit e t.core t.is_call t.accepted t.start t.count to t.asks t.granted in
    let k : Some g.first ≡ Some t.lowest = sym g.lies ∙ t.lies in
    let f : g.first ≡ t.lowest = cc in
    rw (← f) g.moves

-- either of the two
pub data Gives (m : Machine) (e : Event) (page to : ℕ) : Type 0 where
  moves : Transfers m e page to → Gives m e page to
  names : Names m e page to → Gives m e page to

-- two that stand in one line name one world
pub gives_one : {m : Machine} → Fit m → {e : Event} {page to other : ℕ} → Gives m e page to → Gives m e page other → to ≡ other
gives_one {m} fit {e} {to = to} {other = other} (moves a) (moves b) =
    let c : Frame.Call a.core ≡ Frame.Call b.core = sym a.is_call ∙ b.is_call in
    let d : a.core ≡ b.core = cc in
    let g : Move a.lowest a.count to ≡ Move b.lowest b.count other = sym (moves_deed fit a) ∙ rw d (moves_deed fit b) in
    cc
gives_one fit (moves a) (names b) = omega (arith, ap byte (sym a.is_call ∙ b.is_name))
gives_one fit (names a) (moves b) = omega (arith, ap byte (sym a.is_name ∙ b.is_call))
gives_one fit (names a) (names b) = let c = sym a.is_name ∙ b.is_name in cc

-- what a line makes of a page's owner
pub data Outcome (m : Machine) (e : Event) (page : ℕ) (o : Machine) : Type 0 where
  gave : (to : ℕ) → Gives m e page to → owner o.owners page ≡ to → Outcome m e page o
  kept : ((to : ℕ) → Gives m e page to → ⊥) → owner o.owners page ≡ owner m.owners page → Outcome m e page o

-- a frame of another kind gives nothing
pub other_kind : (m : Machine) (e : Event) (page : ℕ) {g : Frame} → e.0 ≡ g → (byte g ≡ 0x20 → ⊥) → (byte g ≡ 0x12 → ⊥) → (o : Machine)
    → owner o.owners page ≡ owner m.owners page → Outcome m e page o
other_kind m e page {g} is c n o same = kept none same
  where
    none : (to : ℕ) → Gives m e page to → ⊥
    none to (moves t) = c (ap byte (sym is ∙ t.is_call))
    none to (names t) = n (ap byte (sym is ∙ t.is_name))

-- a page is one of a run, or not
pub inside_or_not : {P : Type 0} (lowest count page : ℕ) → (lowest ≤ page → page < lowest + count → P) → ((lowest ≤ page → page < lowest + count → ⊥) → P) → P
inside_or_not lowest count page y n =
    either (leb lowest page)
    (λ a. either (ltb page (lowest + count)) (λ b. y (leb-true _ _ a) (ltb-true _ _ b)) (λ b. n (λ h l. omega (arith, ltb-false page (lowest + count) b))))
    (λ a. n (λ h l. omega (arith, leb-false lowest page a)))

-- what is done is a transfer, or leaves every owner
pub transfer_or_not : {P : Type 0} (d : Deed) → ((first count to : ℕ) → d ≡ Move first count to → P) → ((Carries d → ⊥) → P) → P
transfer_or_not Nothing y n = n (λ k. k)
transfer_or_not (Move first count to) y n = y first count to refl
transfer_or_not (Map m) y n = n (λ k. k)
transfer_or_not (Unmap virt size) y n = n (λ k. k)
transfer_or_not (Start c a x) y n = n (λ k. k)
transfer_or_not GoOff y n = n (λ k. k)
transfer_or_not (HandOver to) y n = n (λ k. k)
transfer_or_not Finish y n = n (λ k. k)

-- ---- set-up comes before the first call, and names a page once
module _ (m : Machine) (e : Event) (page : ℕ) where
  -- a granted transfer is a call, and so set-up has ended after it
  pub transfer_ends : (to : ℕ) → Transfers m e page to → ended (next m e).setup ≡ true
  transfer_ends to t = by_reply (reply m e) refl
    where
      by_reply : (r : Reply) → reply m e ≡ r → ended (next m e).setup ≡ true
      by_reply (Told why) k = absurd (t.accepted why k)
      by_reply (Called core world x) k = call_ends m e.0 e.1 core world x k

  -- a page that was named stays named
  pub named_stays : Fit m → is_named m.named page ≡ true → is_named (next m e).named page ≡ true
  unfolding performed
  named_stays fit k =
      framed_by m e.1 (λ (g : Frame) (o : Machine × Reply). is_named o.0.named page ≡ true)
      (λ why. k) (λ g why d. k) (λ base pages cores a b. k) (λ lowest last kind number a b c. k)
      (λ lowest count to a b c.
      let g = naming_granted m.owners m.named (window m.setup).pages lowest count to c in
      inside_or_not lowest count page
      (λ h l. (granted_inside m.owners m.named (window m.setup).pages lowest count to page _ g (fit.right a).whole.owners_whole fit.names h l).1)
      (λ n. (granted_outside m.owners m.named (window m.setup).pages lowest count to page _ g n).1 ∙ k))
      (λ core a b c. k) (λ core a b c. k) e.0

  -- what an accepted naming met, and what it leaves
  pub record Timely (to : ℕ) (o : Machine) : Type 0 where
    pub in_time : ended m.setup ≡ false
    pub free : is_named m.named page ≡ false
    pub marked : is_named o.named page ≡ true

  pub naming_is : Fit m → (to : ℕ) → Names m e page to → Timely to (next m e)
  unfolding performed
  naming_is fit to t =
      framed_by m e.1 (λ (g : Frame) (o : Machine × Reply). e.0 ≡ g → framed m e.0 e.1 ≡ o → Timely to o.0)
      (λ why is so. other is (λ k. omega arith))
      (λ g why d is so. absurd (let k : Told why ≡ Told Accepted = sym (ap (λ (o : Machine × Reply). o.1) so) ∙ t.accepted in d cc))
      (λ base pages cores a b is so. other is (λ k. omega arith))
      (λ lowest last kind number a b c is so. other is (λ k. omega arith))
      (λ lowest count u a b c is so.
      let k : Frame.Name t.lowest t.count to ≡ Frame.Name lowest count u = sym t.is_name ∙ is in
      let x : t.lowest ≡ lowest = cc in
      let y : t.count ≡ count = cc in
      let h : lowest ≤ page = omega (arith, t.low) in
      let l : page < lowest + count = omega (arith, t.below) in
      let g = naming_granted m.owners m.named (window m.setup).pages lowest count u c in
      record {
        in_time = b;
        free = free_at m.named lowest count page g.free h l;
        marked = (granted_inside m.owners m.named (window m.setup).pages lowest count u page _ g (fit.right a).whole.owners_whole fit.names h l).1;
      })
      (λ core a b c is so. other is (λ k. omega arith))
      (λ core a b c is so. other is (λ k. omega arith))
      e.0 refl refl
    where
      other : {P : Type 0} {g : Frame} → e.0 ≡ g → (0x12 ≡ byte g → ⊥) → P
      other is n = absurd (n (ap byte (sym t.is_name ∙ is)))
