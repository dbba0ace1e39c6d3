use borrow.Author.Rules.{rules}
use native.Mathlib.Omega.{arith}
use Rattle.vetting.specs.Rooms.{room_of, part_of, part_ends}
use Rattle.vetting.specs.Free.{free_none, free_on, free_here, free_next, free_accepted}
use Rattle.vetting.specs.Scans.{table_some, table_pos, scan_whole, entry_at}
use Rattle.vetting.proofs.Scans.{scan_goes, scan_stops, scan_ends}
use Prim.Native.Nat.{◌<◌}
use Rattle.std.proofs.lemmas.Result.{err_from_is_err_and}
use Rattle.vetting.proofs.+judge_judge_row.Goals as goal

pub judge-returns-then-is_free : goal.judge-returns-then-is_free
judge-returns-then-is_free t c = search (rules, free_accepted)

pub judge-overflow_sub-below : goal.judge-overflow_sub-below
judge-overflow_sub-below t c = table_pos _ _ _ c.is_table.ensures c.if-is_table.true

pub judge-judge_row-requires : goal.judge-judge_row-requires
judge-judge_row-requires t c =
    let is = c.is_table.ensures in
    let h = table_pos _ _ _ is c.if-is_table.true in
    (omega arith, (room_of _ _ c.requires.0 (table_some _ _ _ is c.if-is_table.true), omega arith))

pub judge_row-loop-i-init : goal.judge_row-loop-i-init
judge_row-loop-i-init t c = (scan_whole _ _, free_none _ _)

pub judge_row-judge-requires : goal.judge_row-judge-requires
judge_row-judge-requires t c =
    let h : c.loop-i.i < 512 = omega (arith, c.requires.1) in
    (omega arith, (part_of _ _ _ c.requires.0 h _ c.place_at-start.ensures, free_here _ _ _ _ _ _ c.loop-i.invariant.1 c.place_at-start.ensures))

pub judge_row-returns-in_err-judge : goal.judge_row-returns-in_err-judge
judge_row-returns-in_err-judge t c =
    let p = err_from_is_err_and c.from_residual.result c.from_residual.ensures.1 in
    rw (p.1, p.2)
    (scan_stops _ _ _ _ c.loop-i.invariant.0 _ _ (search rules) (entry_at _ _ _ _ _ _ _ _ _ c.place_at-start.ensures c.number_at-number.ensures c.in_err-judge.ensures))

pub judge_row-overflow_add-start : goal.judge_row-overflow_add-start
judge_row-overflow_add-start t c =
    let h : c.loop-i.i < 512 = omega (arith, c.requires.1) in
    omega (arith, part_ends _ _ _ c.requires.0 h _ c.place_at-start.ensures _ c.span_of.ensures)

pub judge_row-freed-free-requires : goal.judge_row-freed-free-requires
judge_row-freed-free-requires t c =
    let h : c.loop-i.i < 512 = omega (arith, c.requires.1) in (
      part_ends _ _ _ c.requires.0 h _ c.place_at-start.ensures _ c.span_of.ensures,
      free_on _ _ _ _ (free_here _ _ _ _ _ _ c.loop-i.invariant.1 c.place_at-start.ensures) (omega arith),
    )

pub judge_row-loop-i-preserved : goal.judge_row-loop-i-preserved
judge_row-loop-i-preserved t c = (
  scan_goes _ _ _ _ c.loop-i.invariant.0 (search rules)
      (entry_at _ _ _ _ _ _ _ _ _ c.place_at-start.ensures c.number_at-number.ensures c.in_ok-judge.ensures),
  free_next _ _ _ _ _ _ _ c.freed-free.ensures c.place_at-start.ensures c.span_of.ensures,
)

pub judge_row-returns : goal.judge_row-returns
judge_row-returns t c = scan_ends _ _ _ _ c.loop-i.invariant.0 (search rules)
