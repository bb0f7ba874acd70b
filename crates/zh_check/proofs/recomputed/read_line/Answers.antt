use Rattle.std.proofs.Common.{◌+◌, sym, subst, arith, drop}
use Rattle.std.proofs.lemmas.List.{drop_all}
use Rattle.zh_check.specs.Reading.{AddsWords, words_in}
use Rattle.zh_check.proofs.ReadLemmas.{adds_none, adds_then, next_word}
use Rattle.zh_check.proofs.recomputed.read_line.Goals as goal

pub loop-place-preserved : goal.loop-place-preserved
loop-place-preserved c = λ read left.
    let parts = c.args.parts.now in
    let k = c.loop-place.place in
    c.loop-place.invariant read
    (adds_then _ (λ test. words_in test (drop (k + 1) parts) c.split_word.result.1.now) (λ test. words_in test (drop k parts) c.loop-place.rest.now) _ _ _
    (λ test. rw (c.split_word.ensures.word, c.split_word.ensures.rest) (next_word test parts k _ c.loop-place.rest.now c.loop-place-test.true))
    c.in_ok-read_word.ensures left)

pub returns : goal.returns
returns c =
    c.loop-place.invariant c.loop-place.values
    (subst (λ ps. AddsWords (λ test. words_in test ps c.loop-place.rest.now) c.loop-place.values c.loop-place.values)
    (sym (drop_all c.loop-place.place c.args.parts.now (omega (arith, c.loop-place-test.false)))) (adds_none c.loop-place.values))
