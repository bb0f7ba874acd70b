use Rattle.std.proofs.Common.{◌≡◌, [], length, refl, ap, sym, ◌∙◌, arith, below_more}
use Rattle.zh_check.specs.Lines.{after_line, after_lines, first_line, whole_line}
use Rattle.zh_check.proofs.DifferenceLemmas.{lines_more, same_texts, shorter}
use Rattle.zh_check.proofs.lines.first_difference.Goals as goal

pub loop-others-smaller : goal.loop-others-smaller
loop-others-smaller c =
    omega (arith, ap length c.next.ensures.rest, shorter c.loop-others.lines (c.loop-others-test.ensures.there refl))

pub loop-others-preserved : goal.loop-others-preserved
loop-others-preserved c =
    let before = c.loop-others.invariant in
    record {
      lines = c.next.ensures.rest ∙ (ap after_line before.lines ∙ sym (lines_more c.loop-others.before c.args.text.now));
      others = c.next-in-loop-others.ensures.rest ∙ (ap after_line before.others ∙ sym (lines_more c.loop-others.before c.args.expected.now));
      shown = c.next-in-loop-others-2.ensures.rest ∙ (ap after_line before.shown ∙ sym (lines_more c.loop-others.before c.args.shown.now));
      same = below_more (λ k. whole_line (after_lines k c.args.text.now) ≡ whole_line (after_lines k c.args.expected.now)) c.loop-others.before before.same
          (sym (ap whole_line before.lines) ∙ (c.loop-others-test.ensures.same refl ∙ ap whole_line before.others));
      few = omega (arith, before.few, ap length c.next.ensures.rest, shorter c.loop-others.lines (c.loop-others-test.ensures.there refl));
    }

pub returns : goal.returns
returns c other =
    let before = c.loop-others.invariant in
    record {
      before = c.loop-others.before;
      same = before.same;
      differ = λ here.
          let end : c.loop-others.lines ≡ []
          = c.loop-others-test.ensures.other refl (ap whole_line before.lines ∙ (here ∙ sym (ap whole_line before.others))) in
          other (same_texts c.loop-others.before c.args.text.now c.args.expected.now before.same (sym before.lines ∙ end) here);
      line = refl;
      found = c.in_ok-from_slice.ensures.items ∙ (c.next-found.ensures.line ∙ ap first_line before.lines);
      should = c.in_ok-from_slice-2.ensures.items ∙ (c.next-should.ensures.line ∙ ap first_line before.shown);
    }
