-- The paper's cases P1 to P12 in one table, and one statement: every row of it holds.
use Rattle.std.specs.Prelude.{◌≡◌, refl, true, false, List, [], ◌∷◌, ◌⊎◌, ℕ, zero, suc, ◌+◌, ◌*◌, ◌/◌, ◌%◌, ◌<◌, eqb, leb, get_or, None, Some}
use Rattle.std.proofs.Common.{ap, ◌∙◌, inl, inr, arith}
use borrow.Author.Tests.{eq-eqb, ne_eqb, eqb-true, lt-ltb, lt-leb}
use Rattle.rules.specs.Choice.{pick, either, first_or, second_or, neither, right_false}
use Rattle.rules.specs.Tests.{sieve}
use Rattle.rules.specs.declared.Reason.{Reason}
use Rattle.rules.specs.declared.Reason.TheVariants as Reason
use Rattle.identifiers.specs.Identifier.{low32, identifier_of, parts, key_of, admitted, argument}
use Rattle.identifiers.specs.declared.Parts.{Parts}
use Rattle.ledger.specs.Ledger.{handler}
use Rattle.registers.specs.Registers.{saving}
use Rattle.cores.specs.Power.{is_on}
use Rattle.cores.specs.Cores.{power}
use Rattle.pages.specs.Window.{acceptable, accepted, page_at, InPage, run_of, run_no}
use Rattle.pages.specs.Owners.{owner}
use Rattle.pages.specs.declared.Window.{Window}
use Rattle.mapping.specs.Mapping.{unaligned, malformed, map_verdict, has_exactly, any_of, exact}
use Rattle.mapping.specs.Lists.{held, held_some}
use Rattle.ranges.specs.declared.Mapping.{Mapping}
use Rattle.transfers.specs.Transfer.{move_tests, transfer_verdict}
use Rattle.rules.specs.Sizes.{secure, normal, realm}
use Rattle.judgements.specs.Judge.{HandlerSight, denied, granted, one_of, callers, called_by, args_of, row_in, transferring, by_number, by_row, by_handler, found, judged_by, judged, board, wanted, mapping, unmapping, standard, starting, telling_state, good_start, owned_at, moving}
use Rattle.judgements.specs.Hint.{hint_idle}
use Rattle.judgements.specs.declared.Answer.{Answer}
use Rattle.judgements.specs.declared.Answer.TheVariants as Answer
use Rattle.judgements.specs.declared.Deed.TheVariants as Deed
use Rattle.judgements.specs.declared.Judged.{Judged}
use Rattle.judgements.specs.declared.Args.{Args}
use Rattle.answers.specs.Answers.{negative, written}
use Rattle.calls.specs.Step.{State, state, sight, caller_of, judged_in}
use Rattle.calls.specs.Effects.{results_in, after, stepped_by}

-- ---- what a row may speak of
-- a call: the state in which it is made, the core that makes it, and its numbers x0 to x7
pub record Call : Type 0 where
  pub before : State
  pub core : ℕ
  pub numbers : List ℕ

-- its identifier: of x0 only the low 32 bits count
abbrev pub identifier : Call → ℕ
identifier c = low32 (get_or c.numbers 0 0)

-- an argument, as a call of its width reads it
abbrev pub x : Call → ℕ → ℕ
x c i = argument (called_by c.numbers) (get_or c.numbers i 0)

abbrev pub world : Call → ℕ
world c = caller_of c.before c.core

abbrev pub window : Call → Window
window c = c.before.site.window

-- the ledger sends the call's type and owner to this handler
abbrev pub Reaches : Call → ℕ → Type 0
Reaches c h = handler c.before.ledger (called_by c.numbers).fast (called_by c.numbers).owner ≡ Some h

-- the number is one of these
abbrev pub Among : ℕ → List ℕ → Type 0
Among n [] = ⊥
Among n (k ∷ ks) = (n ≡ k) ⊎ Among n ks

-- the call writes this number to the caller's x0, over the eight that it came with, and changes nothing else
pub record Answered (c : Call) (n : ℕ) : Type 0 where
  pub results : results_in c.before c.core c.numbers ≡ n ∷ []
  pub next : after c.before c.core c.numbers
      ≡ state c.before.site c.before.ledger c.before.owners
      (saving (saving c.before.saved c.core (world c) c.numbers) c.core (world c) (n ∷ []))
      c.before.powers c.before.turns c.before.lists

-- what is written for an answer: a number as it stands, or -n as the call has it written
pub data Told : Type 0 where
  plain : ℕ → Told
  minus : ℕ → Told

abbrev pub number_of : Call → Told → ℕ
number_of c (plain n) = n
number_of c (minus n) = negative (called_by c.numbers) n

-- ---- the table
pub data Row : Type 1 where
  -- an identifier, and its six parts
  splits : ℕ → Parts → Row
  -- an identifier that passes the test of bits 23 to 17
  passes : ℕ → Row
  -- an identifier, and another: every call that bears the one is judged as it is with the other
  judged_as : ℕ → ℕ → Row
  -- an identifier, and the answer to every call that bears it
  always : ℕ → Told → Row
  -- identifiers, the handler that they reach, the worlds that call, what more the case says of the call, and its answer
  answers : List ℕ → ℕ → List ℕ → (Call → Type 0) → Told → Row

-- what a row says: of every x0 with its identifier, and of every call of which the facts that it names hold
abbrev pub Holds : Row → Type 0
Holds (splits id p) = (x0 : ℕ) → low32 x0 ≡ id → parts (identifier_of x0) ≡ p
Holds (passes id) = (x0 : ℕ) → low32 x0 ≡ id → admitted (parts (identifier_of x0)) ≡ true
Holds (judged_as id other) = (s : State) (core x0 y0 : ℕ) (xs : List ℕ) → low32 x0 ≡ id → low32 y0 ≡ other → judged_in s core (x0 ∷ xs) ≡ judged_in s core (y0 ∷ xs)
Holds (always id a) = (c : Call) → identifier c ≡ id → Answered c (number_of c a)
Holds (answers ids h worlds facts a) = (c : Call) → Among (identifier c) ids → Reaches c h → Among (world c) worlds → facts c → Answered c (number_of c a)

-- every world but Root, which makes no calls
abbrev pub any_world : List ℕ
any_world = secure ∷ normal ∷ realm ∷ []

-- the window is acceptable, and x1 is this address, told from the window
abbrev pub PageAt : (Window → ℕ) → Call → Type 0
PageAt place c = (acceptable (window c) ≡ true) × (x c 1 ≡ place (window c))

-- x1 is where the caller's only mapping starts, and x2 is half of its size, rounded down
pub record HalfTheOnly (c : Call) : Type 0 where
  pub only : Mapping
  pub list : held c.before.lists (world c) ≡ only ∷ []
  pub start : x c 1 ≡ only.virt
  pub half : x c 2 ≡ only.size / 2

-- x1 is the calling core, which is one of the board's and ON, and x2 is a multiple of 4 in a page that Normal owns
pub record OneselfWell (c : Call) : Type 0 where
  pub oneself : x c 1 ≡ c.core
  pub exists : c.core < c.before.site.cores
  pub on : is_on (power c.before.powers c.core) ≡ true
  pub fourth : x c 2 % 4 ≡ 0
  pub page : ℕ
  pub inside : InPage (window c) (x c 2) page
  pub owned : owner c.before.owners page ≡ normal

-- the transfers of one page
abbrev pub one_page : List ℕ
one_page = 0xC40001B0 ∷ 0xC40001B1 ∷ []

-- the paper's cases, in its order; handler 1 is the board's, 2 the standard one
abbrev pub table : List Row
table =
    splits 0x84000000 (record { fast = 1; wide = 0; owner = 4; function = 0; hint = 0; reserved = 0 })  -- P1
    ∷ splits 0xC40001B0 (record { fast = 1; wide = 1; owner = 4; function = 0x1B0; hint = 0; reserved = 0 })  -- P2
    ∷ splits 0xF2000000 (record { fast = 1; wide = 1; owner = 50; function = 0; hint = 0; reserved = 0 })  -- P3
    ∷ judged_as 0x84010000 0x84000000  -- P4, with the hint
    ∷ always 0x84020000 (minus 1)  -- P4, with the bit above it
    ∷ passes 0x04010000  -- P5
    ∷ answers one_page 2 (realm ∷ []) (PageAt (λ w. w.base + 4095)) (minus 2)  -- P6
    ∷ answers one_page 2 (realm ∷ []) (PageAt (λ w. w.base + 4096 * w.pages)) (minus 2)  -- P7
    ∷ answers (0xC2000020 ∷ []) 1 any_world (λ c. x c 3 ≡ 0) (plain 0)  -- P8, whatever the addresses
    ∷ answers (0xC2000020 ∷ []) 1 any_world (λ c. (x c 3 ≡ 4096) × (x c 4 ≡ 3)) (minus 22)  -- P9
    ∷ answers (0xC2000021 ∷ []) 1 any_world HalfTheOnly (minus 22)  -- P10
    ∷ answers (0x84000004 ∷ 0xC4000004 ∷ []) 2 (normal ∷ []) (λ c. x c 2 ≡ 1) (minus 2)  -- P11
    ∷ answers (0x84000003 ∷ 0xC4000003 ∷ []) 2 (normal ∷ []) OneselfWell (minus 4)  -- P12
    ∷ []

-- each row holds
abbrev pub All : List Row → Type 0
All [] = Unit {0}
All (r ∷ rs) = Holds r × All rs

-- ---- why each row holds
-- the row behind n others; from P5 on the row of number n in the paper, since P4 has two
abbrev nth : List Row → ℕ → Row
nth [] n = passes 0
nth (r ∷ rs) zero = r
nth (r ∷ rs) (suc n) = nth rs n

abbrev pub case : ℕ → Row
case n = nth table n

abbrev judgement : Call → Judged
judgement c = judged_in c.before c.core c.numbers

abbrev view : Call → HandlerSight
view c = (sight c.before c.core).inner

abbrev args : Call → Args
args c = args_of (called_by c.numbers) c.numbers

-- an answer for which nothing is done
answered : (c : Call) (a : Answer) {n : ℕ} → written (called_by c.numbers) a ≡ n ∷ [] → judgement c ≡ granted a Deed.Nothing → Answered c n
answered c a w e =
    let f : (judgement c).answer ≡ a = ap (λ (j : Judged). j.answer) e in
    let g : (judgement c).deed ≡ Deed.Nothing = ap (λ (j : Judged). j.deed) e in
    record { results = rw (f, w); next = stepped_by c.before c.core c.numbers Deed.Nothing g ∙ rw (f, w) }

among : (n : ℕ) (ks : List ℕ) → Among n ks → one_of n ks ≡ true
unfolding one_of
among n (k ∷ ks) (inl e) = first_or (eqb n k) _ (eq-eqb n k e)
among n (k ∷ ks) (inr m) = second_or (eqb n k) _ (among n ks m)
among n [] x'' = elim x'' [ ]

-- a call that reaches its handler from a world that may call is judged there
module _ (c : Call) {id h : ℕ} (e : identifier c ≡ id) (to : Reaches c h) (may : Among (world c) any_world) where
  reached : admitted (parts (record { 0 = id })) ≡ true → judgement c ≡ by_handler (view c) (args c) (key_of (record { 0 = id })) h
  unfolding judged judged_by identifier_of sieve pick found
  reached t = rw (to, e, t, among (world c) any_world may)

  settled : (a : Answer) {n : ℕ} → written (called_by c.numbers) a ≡ n ∷ [] → admitted (parts (record { 0 = id })) ≡ true
      → by_handler (view c) (args c) (key_of (record { 0 = id })) h ≡ granted a Deed.Nothing → Answered c n
  settled a w t j = answered c a w (reached t ∙ j)

from_realm : {w : ℕ} → w ≡ realm → Among w any_world
from_realm e = inr (inr (inl e))

from_normal : {w : ℕ} → w ≡ normal → Among w any_world
from_normal e = inr (inl e)

-- the hint makes no difference
pub p4_hint : Holds (nth table 3)
p4_hint s core x0 y0 xs e f = hint_idle (sight s core) (x0 ∷ xs) y0 (omega arith) (omega arith)

-- bits 23 to 17 come before all but the test that Root does not call, which has the same answer
pub p4 : Holds (case 4)
unfolding judged judged_by identifier_of parts admitted sieve pick
p4 c e = answered c (Answer.No Reason.Unserved) refl (rw e (either (one_of (world c) callers) (λ y. rw y) (λ n. rw n)))

-- a page that is none of the window
pub no_page : (c : Call) → Among (identifier c) one_page → Reaches c 2 → world c ≡ realm → run_of (window c) (x c 1) 1 ≡ None → Answered c (number_of c (minus 2))
unfolding key_of args_of row_in by_row by_number transferring one_of moving transfer_verdict move_tests pick sieve admitted parts
no_page c (inl e) to r o = settled c e to (from_realm r) (Answer.No Reason.Invalid) refl refl (rw (r, o))
no_page c (inr (inl e)) to r o = settled c e to (from_realm r) (Answer.No Reason.Invalid) refl refl (rw (r, o))
no_page c (inr (inr x6)) to r o = elim x6 [ ]

pub p6 : Holds (case 6)
p6 c i to (inl r) f = no_page c i to r (run_no (window c) (x c 1) 1 (λ h. let k = accepted (window c) f.0 in omega (arith, f.1)))
p6 c i to (inr x3) f = elim x3 [ ]

pub p8 : Holds (case 8)
unfolding key_of args_of row_in by_row by_number board mapping map_verdict pick admitted parts
p8 c (inl e) to may f = settled c e to may Answer.Done refl refl (rw f)
p8 c (inr x5) to may f = elim x5 [ ]

no_attributes : (m : Mapping) → 2 < m.attr → malformed m ≡ true
unfolding malformed
no_attributes m h = second_or (unaligned m.virt) _ (second_or (unaligned m.phys) _ (second_or (unaligned m.size) _ (lt-ltb 2 m.attr h)))

pub p9 : Holds (case 9)
unfolding key_of args_of row_in by_row by_number board mapping map_verdict sieve pick admitted parts
p9 c (inl e) to may f =
    settled c e to may (Answer.No Reason.Malformed) refl refl (rw (no_attributes (wanted (args c)) (omega (arith, f.1)), f.0))
p9 c (inr x5) to may f = elim x5 [ ]

-- the only mapping has another size: half of none is none, and no mapping has that
not_half : (c : Call) → HalfTheOnly c → has_exactly (held c.before.lists (world c)) (x c 1) (x c 2) ≡ false
unfolding has_exactly any_of exact
not_half c h =
    either (eqb h.only.size (x c 2))
    (λ y. let z : x c 2 ≡ 0 = omega (arith, eqb-true h.only.size (x c 2) y) in rw z (held_some c.before.lists (world c) (x c 1)))
    (λ n. rw (h.list, n) (neither _ false (right_false (eqb h.only.virt (x c 1)) false refl) refl))

pub p10 : Holds (case 10)
unfolding key_of args_of row_in by_row by_number board unmapping sieve pick admitted parts
p10 c (inl e) to may h = settled c e to may (Answer.No Reason.NoMapping) refl refl (rw (not_half c h))
p10 c (inr x5) to may h = elim x5 [ ]

module _ (c : Call) (r : world c ≡ normal) where
  no_level : (x c 2 ≡ 0 → ⊥) → telling_state (view c).caller (view c).powers (args c) ≡ denied Reason.Invalid
  unfolding args_of telling_state sieve pick
  no_level f = either (leb c.before.site.cores (x c 1)) (λ y. rw (r, y)) (λ n. rw (r, n, ne_eqb (x c 2) 0 f))

  oneself : OneselfWell c → starting (view c).caller (view c).powers (view c).owners (args c) ≡ denied Reason.AlreadyOn
  unfolding args_of starting good_start owned_at sieve pick
  oneself o =
      rw (
        r,
        o.oneself,
        lt-leb c.before.site.cores c.core o.exists,
        o.fourth,
        page_at (window c) (x c 2) o.page o.inside,
        o.owned,
        o.on,
      )

pub p11 : Holds (case 11)
unfolding key_of row_in by_row by_number standard pick admitted parts
p11 c (inl e) to (inl r) f = settled c e to (from_normal r) (Answer.No Reason.Invalid) refl refl (no_level c r (λ (z : x c 2 ≡ 0). omega (arith, f)))
p11 c (inr (inl e)) to (inl r) f = settled c e to (from_normal r) (Answer.No Reason.Invalid) refl refl (no_level c r (λ (z : x c 2 ≡ 0). omega (arith, f)))
p11 c (inl e) to (inr x7) f = elim x7 [ ]
p11 c (inr (inl e)) to (inr x9) f = elim x9 [ ]
p11 c (inr (inr x9)) to _ f = elim x9 [ ]

pub p12 : Holds (case 12)
unfolding key_of row_in by_row by_number standard pick admitted parts
p12 c (inl e) to (inl r) o = settled c e to (from_normal r) (Answer.No Reason.AlreadyOn) refl refl (oneself c r o)
p12 c (inr (inl e)) to (inl r) o = settled c e to (from_normal r) (Answer.No Reason.AlreadyOn) refl refl (oneself c r o)
p12 c (inl e) to (inr x7) o = elim x7 [ ]
p12 c (inr (inl e)) to (inr x9) o = elim x9 [ ]
p12 c (inr (inr x9)) to _ o = elim x9 [ ]
