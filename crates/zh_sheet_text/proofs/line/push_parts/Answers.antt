use Rattle.std.proofs.Common.{◌+◌, ◌++◌, ◌∙◌, ◌∷◌, [], drop, length, ap, sym, append-nil, arith, length-append}
use Rattle.std.proofs.lemmas.List.{at_drop_more, drop_all}
use Rattle.zh_sheet_text.specs.SheetText.{part_text, joined_parts}
use Rattle.zh_sheet_text.proofs.PartLemmas.{last_of, marked_put}
use Rattle.zh_sheet_text.proofs.line.push_parts.Goals as goal

pub loop-place-preserved : goal.loop-place-preserved
loop-place-preserved c =
    let text = part_text c.args.sheet.now c.args.head in
    let parts = c.args.parts.now in
    let k = c.loop-place.place in
    record {
      text = marked_put c.loop-place.text.items c.push_part.new.text.items c.push_bytes.new.text.items _ (joined_parts text (drop k parts)) (joined_parts text (drop (k + 1) parts)) _ _
          c.loop-place.invariant.text (at_drop_more (joined_parts text) parts k _ c.loop-place-test.true) c.push_part.ensures.text
          (c.push_bytes.ensures ∙ ap (λ m. c.push_part.new.text.items ++ m) (c.mark_after.ensures ∙ ap (λ m. m ∷ []) (last_of parts k c.loop-place-test.true)));
      short = omega (
        arith,
        c.loop-place.invariant.short,
        c.push_part.ensures.short,
        ap length c.push_bytes.ensures,
        ap length c.mark_after.ensures,
        length-append c.push_part.new.text.items c.mark_after.result.now,
      );
    }

pub returns-clause-text : goal.returns-clause-text
returns-clause-text c =
    sym (append-nil c.loop-place.text.items)
    ∙ (ap (λ ps. c.loop-place.text.items ++ joined_parts (part_text c.args.sheet.now c.args.head) ps) (sym (drop_all c.loop-place.place c.args.parts.now (omega (arith, c.loop-place-test.false))))
    ∙ c.loop-place.invariant.text)

pub returns-clause-short : goal.returns-clause-short
returns-clause-short c = omega (arith, c.loop-place.invariant.short, c.requires.few, c.loop-place-test.false, c.loop-place.auto.place-end)
