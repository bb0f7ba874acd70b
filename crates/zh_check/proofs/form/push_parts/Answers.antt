use Rattle.std.proofs.Common.{◌++◌, ◌∙◌, append-nil, ap, sym, arith}
use Rattle.std.proofs.lemmas.List.{drop_all}
use Rattle.zh_check.specs.Form.{parts_form}
use Rattle.zh_check.proofs.FormLemmas.{part_put}
use Rattle.zh_check.proofs.form.push_parts.Goals as goal

pub loop-place-preserved : goal.loop-place-preserved
loop-place-preserved c =
    part_put c.args.setup.now c.args.parts.now c.loop-place.place _ c.loop-place.text.items c.push_part.new.text.items c.extend_from_slice.new.self.items
    c.split_word.result.0.now c.mark_after.result.now c.loop-place.rest.now c.split_word.result.1.now _ c.loop-place-test.true
    c.loop-place.invariant c.split_word.ensures.word c.split_word.ensures.rest c.in_ok-push_part.ensures c.mark_after.ensures c.in_ok-extend_from_slice.ensures.items

pub returns : goal.returns
returns c =
    sym (append-nil c.loop-place.text.items)
    ∙ (ap (λ ps. c.loop-place.text.items ++ parts_form c.args.setup.now ps c.loop-place.rest.now)
    (sym (drop_all c.loop-place.place c.args.parts.now (omega (arith, c.loop-place-test.false)))) ∙ c.loop-place.invariant)
