use Rattle.std.proofs.Common.{◌+◌, ◌<◌, length, sym, subst, arith, drop}
use Rattle.std.proofs.lemmas.List.{drop_all}
use Rattle.zh_sheet_text.specs.Layout.{end_line, sheet_lines}
use Rattle.zh_check.specs.Reading.{AddsWords, words_at}
use Rattle.zh_check.proofs.ReadLemmas.{adds_none, adds_then, next_line}
use Rattle.zh_check.proofs.recomputed.read.Goals as goal

pub loop-place-preserved : goal.loop-place-preserved
loop-place-preserved c = λ read left.
    let lines = sheet_lines c.args.setup.now in
    let k = c.loop-place.place in
    let there : k < length lines = omega (arith, c.loop-place-test.true, c.line_count-place-end.ensures.count) in
    c.loop-place.invariant read
    (adds_then _ (λ test. words_at test (drop (k + 1) lines) c.next_if.new.self) (λ test. words_at test (drop k lines) c.loop-place.lines) _ _ _
    (λ test. rw (c.parts.ensures.parts, c.next_if.ensures.line, c.next_if.ensures.rest, c.is_there.ensures, c.line_at-line.ensures)
    (next_line test lines k end_line c.loop-place.lines there))
    c.in_ok-read_line.ensures left)

pub returns : goal.returns
returns c =
    c.loop-place.invariant c.loop-place.values
    (subst (λ ls. AddsWords (λ test. words_at test ls c.loop-place.lines) c.loop-place.values c.loop-place.values)
    (sym (drop_all c.loop-place.place (sheet_lines c.args.setup.now) (omega (arith, c.loop-place-test.false, c.line_count-place-end.ensures.count))))
    (adds_none c.loop-place.values))
